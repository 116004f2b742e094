-- Worked examples: small worlds of several batches, and what a link of each answers.
-- Written by `tools/worlds.py` from `tools/batch_rows.jsonl`.
use Rattle.std.proofs.Common.{refl}
use Rattle.std.specs.Str.{is_utf8, chars}
use Rattle.std.specs.Fmt.{digits}
use lib.Utf8.{encode}
use Rattle.link_flags.specs.FlagTable.{flag_table}
use Rattle.link_flags.specs.FlagText.{flags_text}
use Rattle.link_glob.specs.Reading.{tokens_of}
use Rattle.link_glob.specs.Glob.{does_match}
use Rattle.link_glob.specs.Compile.{glob_of}
use Rattle.link_script_syntax.specs.MachoList.{macho_matcher, line_matcher, macho_list}
use Rattle.link_script_syntax.specs.Named.{parent_at, named_at, versions_at}
use Rattle.link_script_syntax.specs.Body.{body_turn, pieces_at, body_at}
use Rattle.link_script_syntax.specs.ForcedName.{forced_token, forced_name}
use Rattle.link_script_syntax.specs.GnuList.{list_turn, gnu_entries, gnu_list}
use Rattle.link_script_syntax.specs.Many.{grow}
use Rattle.link_script_syntax.specs.Token.{trimmed, glob_at, matcher_of, token_at}
use Rattle.link_script_syntax.specs.Script.{anonymous, script_at}
use Rattle.link_script_syntax.specs.Block.{language_at, extern_text, inner_extern, block_turn, block_at}
use Rattle.link_script_syntax.specs.Skip.{skip}
use Rattle.link_script_syntax.specs.Entry.{extern_at, entry_at}
use Rattle.link_rules_worlds.specs.Computing.{IsAnswered}
use Rattle.link_rules_worlds.proofs.Computed.{answered}
use Rattle.link_rules_worlds.specs.BatchRows1 as its

pub a_later_batch_defines_what_an_earlier_asks_for-is : IsAnswered its.a_later_batch_defines_what_an_earlier_asks_for
unfolding
    is_utf8 chars digits encode flags_text flag_table
a_later_batch_defines_what_an_earlier_asks_for-is = answered its.a_later_batch_defines_what_an_earlier_asks_for refl refl

pub an_earlier_definition_stays_the_first-is : IsAnswered its.an_earlier_definition_stays_the_first
unfolding
    is_utf8 chars digits encode flags_text flag_table
an_earlier_definition_stays_the_first-is = answered its.an_earlier_definition_stays_the_first refl refl

pub a_version_text_in_a_later_batch-is : IsAnswered its.a_version_text_in_a_later_batch
unfolding
    is_utf8 chars digits encode flags_text flag_table macho_matcher line_matcher macho_list parent_at named_at
    versions_at body_turn pieces_at body_at forced_token forced_name list_turn gnu_entries gnu_list grow trimmed glob_at
    matcher_of token_at anonymous script_at language_at extern_text inner_extern block_turn block_at skip extern_at
    entry_at tokens_of does_match glob_of
a_version_text_in_a_later_batch-is = answered its.a_version_text_in_a_later_batch refl refl

pub a_faulty_version_text_in_a_later_batch-is : IsAnswered its.a_faulty_version_text_in_a_later_batch
unfolding
    is_utf8 chars digits encode flags_text flag_table macho_matcher line_matcher macho_list parent_at named_at
    versions_at body_turn pieces_at body_at forced_token forced_name list_turn gnu_entries gnu_list grow trimmed glob_at
    matcher_of token_at anonymous script_at language_at extern_text inner_extern block_turn block_at skip extern_at
    entry_at tokens_of does_match glob_of
a_faulty_version_text_in_a_later_batch-is = answered its.a_faulty_version_text_in_a_later_batch refl refl

pub version_texts_in_two_batches-is : IsAnswered its.version_texts_in_two_batches
unfolding
    is_utf8 chars digits encode flags_text flag_table macho_matcher line_matcher macho_list parent_at named_at
    versions_at body_turn pieces_at body_at forced_token forced_name list_turn gnu_entries gnu_list grow trimmed glob_at
    matcher_of token_at anonymous script_at language_at extern_text inner_extern block_turn block_at skip extern_at
    entry_at tokens_of does_match glob_of
version_texts_in_two_batches-is = answered its.version_texts_in_two_batches refl refl

pub an_earlier_batch_is_refused_first-is : IsAnswered its.an_earlier_batch_is_refused_first
unfolding
    is_utf8 chars digits encode flags_text flag_table macho_matcher line_matcher macho_list parent_at named_at
    versions_at body_turn pieces_at body_at forced_token forced_name list_turn gnu_entries gnu_list grow trimmed glob_at
    matcher_of token_at anonymous script_at language_at extern_text inner_extern block_turn block_at skip extern_at
    entry_at tokens_of does_match glob_of
an_earlier_batch_is_refused_first-is = answered its.an_earlier_batch_is_refused_first refl refl

pub a_weak_reference_keeps_its_target-is : IsAnswered its.a_weak_reference_keeps_its_target
unfolding
    is_utf8 chars digits encode flags_text flag_table
a_weak_reference_keeps_its_target-is = answered its.a_weak_reference_keeps_its_target refl refl

pub a_hidden_reference_keeps_its_target-is : IsAnswered its.a_hidden_reference_keeps_its_target
unfolding
    is_utf8 chars digits encode flags_text flag_table
a_hidden_reference_keeps_its_target-is = answered its.a_hidden_reference_keeps_its_target refl refl

pub a_hidden_reference_waits_for_what_is_not_shared-is : IsAnswered its.a_hidden_reference_waits_for_what_is_not_shared
unfolding
    is_utf8 chars digits encode flags_text flag_table
a_hidden_reference_waits_for_what_is_not_shared-is = answered its.a_hidden_reference_waits_for_what_is_not_shared refl refl

pub a_weak_reference_takes_a_later_definition-is : IsAnswered its.a_weak_reference_takes_a_later_definition
unfolding
    is_utf8 chars digits encode flags_text flag_table
a_weak_reference_takes_a_later_definition-is = answered its.a_weak_reference_takes_a_later_definition refl refl

pub an_object_asks_when_it_is_loaded-is : IsAnswered its.an_object_asks_when_it_is_loaded
unfolding
    is_utf8 chars digits encode flags_text flag_table
an_object_asks_when_it_is_loaded-is = answered its.an_object_asks_when_it_is_loaded refl refl

pub a_later_linker_script_says_the_entry-is : IsAnswered its.a_later_linker_script_says_the_entry
unfolding
    is_utf8 chars digits encode flags_text flag_table
a_later_linker_script_says_the_entry-is = answered its.a_later_linker_script_says_the_entry refl refl

pub the_mark_of_an_earlier_entry_stays-is : IsAnswered its.the_mark_of_an_earlier_entry_stays
unfolding
    is_utf8 chars digits encode flags_text flag_table
the_mark_of_an_earlier_entry_stays-is = answered its.the_mark_of_an_earlier_entry_stays refl refl

pub a_redirect_marks_in_each_batch-is : IsAnswered its.a_redirect_marks_in_each_batch
unfolding
    is_utf8 chars digits encode flags_text flag_table
a_redirect_marks_in_each_batch-is = answered its.a_redirect_marks_in_each_batch refl refl

pub a_redirects_earlier_mark_stays-is : IsAnswered its.a_redirects_earlier_mark_stays
unfolding
    is_utf8 chars digits encode flags_text flag_table
a_redirects_earlier_mark_stays-is = answered its.a_redirects_earlier_mark_stays refl refl

pub a_redirect_of_a_later_linker_script_loads-is : IsAnswered its.a_redirect_of_a_later_linker_script_loads
unfolding
    is_utf8 chars digits encode flags_text flag_table
a_redirect_of_a_later_linker_script_loads-is = answered its.a_redirect_of_a_later_linker_script_loads refl refl

pub a_forced_name_that_a_later_batch_defines-is : IsAnswered its.a_forced_name_that_a_later_batch_defines
unfolding
    is_utf8 chars digits encode flags_text flag_table
a_forced_name_that_a_later_batch_defines-is = answered its.a_forced_name_that_a_later_batch_defines refl refl

pub a_required_export_of_a_later_batch-is : IsAnswered its.a_required_export_of_a_later_batch
unfolding
    is_utf8 chars digits encode flags_text flag_table macho_matcher line_matcher macho_list parent_at named_at
    versions_at body_turn pieces_at body_at forced_token forced_name list_turn gnu_entries gnu_list grow trimmed glob_at
    matcher_of token_at anonymous script_at language_at extern_text inner_extern block_turn block_at skip extern_at
    entry_at tokens_of does_match glob_of
a_required_export_of_a_later_batch-is = answered its.a_required_export_of_a_later_batch refl refl

pub linker_scripts_of_all_batches_count-is : IsAnswered its.linker_scripts_of_all_batches_count
unfolding
    is_utf8 chars digits encode flags_text flag_table
linker_scripts_of_all_batches_count-is = answered its.linker_scripts_of_all_batches_count refl refl

pub stub_libraries_of_all_batches_count-is : IsAnswered its.stub_libraries_of_all_batches_count
unfolding
    is_utf8 chars digits encode flags_text flag_table
stub_libraries_of_all_batches_count-is = answered its.stub_libraries_of_all_batches_count refl refl

pub no_object_in_the_first_batch-is : IsAnswered its.no_object_in_the_first_batch
unfolding
    is_utf8 chars digits encode flags_text flag_table
no_object_in_the_first_batch-is = answered its.no_object_in_the_first_batch refl refl

pub no_object_in_a_later_batch-is : IsAnswered its.no_object_in_a_later_batch
unfolding
    is_utf8 chars digits encode flags_text flag_table
no_object_in_a_later_batch-is = answered its.no_object_in_a_later_batch refl refl

pub a_section_in_two_groups_of_an_object_loaded_later-is : IsAnswered its.a_section_in_two_groups_of_an_object_loaded_later
unfolding
    is_utf8 chars digits encode flags_text flag_table
a_section_in_two_groups_of_an_object_loaded_later-is = answered its.a_section_in_two_groups_of_an_object_loaded_later refl refl

pub duplicates_of_two_batches-is : IsAnswered its.duplicates_of_two_batches
unfolding
    is_utf8 chars digits encode flags_text flag_table
duplicates_of_two_batches-is = answered its.duplicates_of_two_batches refl refl

pub comdat_groups_of_two_batches-is : IsAnswered its.comdat_groups_of_two_batches
unfolding
    is_utf8 chars digits encode flags_text flag_table
comdat_groups_of_two_batches-is = answered its.comdat_groups_of_two_batches refl refl

pub a_group_of_an_object_loaded_later-is : IsAnswered its.a_group_of_an_object_loaded_later
unfolding
    is_utf8 chars digits encode flags_text flag_table
a_group_of_an_object_loaded_later-is = answered its.a_group_of_an_object_loaded_later refl refl

pub a_start_symbol_for_two_batches-is : IsAnswered its.a_start_symbol_for_two_batches
unfolding
    is_utf8 chars digits encode flags_text flag_table
a_start_symbol_for_two_batches-is = answered its.a_start_symbol_for_two_batches refl refl

pub a_start_symbol_that_a_later_batch_defines-is : IsAnswered its.a_start_symbol_that_a_later_batch_defines
unfolding
    is_utf8 chars digits encode flags_text flag_table
a_start_symbol_that_a_later_batch_defines-is = answered its.a_start_symbol_that_a_later_batch_defines refl refl

pub an_undefined_name_of_two_batches-is : IsAnswered its.an_undefined_name_of_two_batches
unfolding
    is_utf8 chars digits encode flags_text flag_table
an_undefined_name_of_two_batches-is = answered its.an_undefined_name_of_two_batches refl refl
