-- Worked examples: small worlds that each tell one reading of a rule from another.
-- Written by `tools/worlds.py` from `tools/guard_rows.jsonl`.
use Rattle.std.proofs.Common.{refl}
use Rattle.std.specs.Str.{is_utf8, chars}
use Rattle.std.specs.Fmt.{digits}
use lib.Utf8.{encode}
use Rattle.link_flags.specs.FlagTable.{flag_table}
use Rattle.link_flags.specs.FlagText.{flags_text}
use Rattle.link_glob.specs.Reading.{tokens_of}
use Rattle.link_glob.specs.Glob.{does_match}
use Rattle.link_glob.specs.Compile.{glob_of}
use Rattle.link_script_syntax.specs.MachoList.{macho_matcher, line_matcher, macho_list}
use Rattle.link_script_syntax.specs.Named.{parent_at, named_at, versions_at}
use Rattle.link_script_syntax.specs.Body.{body_turn, pieces_at, body_at}
use Rattle.link_script_syntax.specs.ForcedName.{forced_token, forced_name}
use Rattle.link_script_syntax.specs.GnuList.{list_turn, gnu_entries, gnu_list}
use Rattle.link_script_syntax.specs.Many.{grow}
use Rattle.link_script_syntax.specs.Token.{trimmed, glob_at, matcher_of, token_at}
use Rattle.link_script_syntax.specs.Script.{anonymous, script_at}
use Rattle.link_script_syntax.specs.Block.{language_at, extern_text, inner_extern, block_turn, block_at}
use Rattle.link_script_syntax.specs.Skip.{skip}
use Rattle.link_script_syntax.specs.Entry.{extern_at, entry_at}
use Rattle.link_rules_worlds.specs.Computing.{IsAnswered, AreAnswered}
use Rattle.link_rules_worlds.proofs.Computed.{answered, also}
use Rattle.link_rules_worlds.specs.GuardRows as its

pub a_shared_definition_has_no_version-is : IsAnswered its.a_shared_definition_has_no_version
unfolding
    is_utf8 chars digits encode flags_text flag_table macho_matcher line_matcher macho_list parent_at named_at
    versions_at body_turn pieces_at body_at forced_token forced_name list_turn gnu_entries gnu_list grow trimmed glob_at
    matcher_of token_at anonymous script_at language_at extern_text inner_extern block_turn block_at skip extern_at
    entry_at tokens_of does_match glob_of
a_shared_definition_has_no_version-is = answered its.a_shared_definition_has_no_version refl refl

pub a_local_symbol_is_not_downgraded-is : IsAnswered its.a_local_symbol_is_not_downgraded
unfolding
    is_utf8 chars digits encode flags_text flag_table macho_matcher line_matcher macho_list parent_at named_at
    versions_at body_turn pieces_at body_at forced_token forced_name list_turn gnu_entries gnu_list grow trimmed glob_at
    matcher_of token_at anonymous script_at language_at extern_text inner_extern block_turn block_at skip extern_at
    entry_at tokens_of does_match glob_of
a_local_symbol_is_not_downgraded-is = answered its.a_local_symbol_is_not_downgraded refl refl

pub a_shared_entry_narrows_too-is : IsAnswered its.a_shared_entry_narrows_too
unfolding
    is_utf8 chars digits encode flags_text flag_table
a_shared_entry_narrows_too-is = answered its.a_shared_entry_narrows_too refl refl

pub a_unique_common_symbol_is_common-is : IsAnswered its.a_unique_common_symbol_is_common
unfolding
    is_utf8 chars digits encode flags_text flag_table
a_unique_common_symbol_is_common-is = answered its.a_unique_common_symbol_is_common refl refl

pub a_weak_common_symbol_is_weak-is : IsAnswered its.a_weak_common_symbol_is_weak
unfolding
    is_utf8 chars digits encode flags_text flag_table
a_weak_common_symbol_is_weak-is = answered its.a_weak_common_symbol_is_weak refl refl

pub limits_are_told_before_no_inputs-is : IsAnswered its.limits_are_told_before_no_inputs
unfolding
    is_utf8 chars digits encode flags_text flag_table
limits_are_told_before_no_inputs-is = answered its.limits_are_told_before_no_inputs refl refl

pub a_later_record_of_a_version_takes_its_definition-is : IsAnswered its.a_later_record_of_a_version_takes_its_definition
unfolding
    is_utf8 chars digits encode flags_text flag_table
a_later_record_of_a_version_takes_its_definition-is = answered its.a_later_record_of_a_version_takes_its_definition refl refl

pub as_needed_before_whole_archive-is : IsAnswered its.as_needed_before_whole_archive
unfolding
    is_utf8 chars digits encode flags_text flag_table
as_needed_before_whole_archive-is = answered its.as_needed_before_whole_archive refl refl

pub a_version_counts_its_own_visibility-is : IsAnswered its.a_version_counts_its_own_visibility
unfolding
    is_utf8 chars digits encode flags_text flag_table
a_version_counts_its_own_visibility-is = answered its.a_version_counts_its_own_visibility refl refl

pub two_steps_and_no_third-is : IsAnswered its.two_steps_and_no_third
unfolding
    is_utf8 chars digits encode flags_text flag_table
two_steps_and_no_third-is = answered its.two_steps_and_no_third refl refl

pub a_real_name_means_what_stood_before_its_wrap-is : IsAnswered its.a_real_name_means_what_stood_before_its_wrap
unfolding
    is_utf8 chars digits encode flags_text flag_table
a_real_name_means_what_stood_before_its_wrap-is = answered its.a_real_name_means_what_stood_before_its_wrap refl refl

pub a_wrap_sees_the_wraps_before_it-is : IsAnswered its.a_wrap_sees_the_wraps_before_it
unfolding
    is_utf8 chars digits encode flags_text flag_table
a_wrap_sees_the_wraps_before_it-is = answered its.a_wrap_sees_the_wraps_before_it refl refl

pub linker_symbols_of_each_placement-is : IsAnswered its.linker_symbols_of_each_placement
unfolding
    is_utf8 chars digits encode flags_text flag_table
linker_symbols_of_each_placement-is = answered its.linker_symbols_of_each_placement refl refl

pub what_survives_of_shared_objects-is : IsAnswered its.what_survives_of_shared_objects
unfolding
    is_utf8 chars digits encode flags_text flag_table
what_survives_of_shared_objects-is = answered its.what_survives_of_shared_objects refl refl

pub what_stands_for_a_version_clashes-is : IsAnswered its.what_stands_for_a_version_clashes
unfolding
    is_utf8 chars digits encode flags_text flag_table
what_stands_for_a_version_clashes-is = answered its.what_stands_for_a_version_clashes refl refl

pub a_start_symbol_is_a_signature-is : IsAnswered its.a_start_symbol_is_a_signature
unfolding
    is_utf8 chars digits encode flags_text flag_table
a_start_symbol_is_a_signature-is = answered its.a_start_symbol_is_a_signature refl refl

pub a_hidden_reference_takes_the_strong_one-is : IsAnswered its.a_hidden_reference_takes_the_strong_one
unfolding
    is_utf8 chars digits encode flags_text flag_table
a_hidden_reference_takes_the_strong_one-is = answered its.a_hidden_reference_takes_the_strong_one refl refl

pub a_script_without_a_version_text_between_two-is : IsAnswered its.a_script_without_a_version_text_between_two
unfolding
    is_utf8 chars digits encode flags_text flag_table macho_matcher line_matcher macho_list parent_at named_at
    versions_at body_turn pieces_at body_at forced_token forced_name list_turn gnu_entries gnu_list grow trimmed glob_at
    matcher_of token_at anonymous script_at language_at extern_text inner_extern block_turn block_at skip extern_at
    entry_at tokens_of does_match glob_of
a_script_without_a_version_text_between_two-is = answered its.a_script_without_a_version_text_between_two refl refl

pub a_local_definition_of_a_version-is : IsAnswered its.a_local_definition_of_a_version
unfolding
    is_utf8 chars digits encode flags_text flag_table
a_local_definition_of_a_version-is = answered its.a_local_definition_of_a_version refl refl

pub all_cases-are : AreAnswered its.all_cases
unfolding its.all_cases
all_cases-are =
    let are : Unit {0} = tt in
    let are = also a_local_definition_of_a_version-is are in
    let are = also a_script_without_a_version_text_between_two-is are in
    let are = also a_hidden_reference_takes_the_strong_one-is are in
    let are = also a_start_symbol_is_a_signature-is are in
    let are = also what_stands_for_a_version_clashes-is are in
    let are = also what_survives_of_shared_objects-is are in
    let are = also linker_symbols_of_each_placement-is are in
    let are = also a_wrap_sees_the_wraps_before_it-is are in
    let are = also a_real_name_means_what_stood_before_its_wrap-is are in
    let are = also two_steps_and_no_third-is are in
    let are = also a_version_counts_its_own_visibility-is are in
    let are = also as_needed_before_whole_archive-is are in
    let are = also a_later_record_of_a_version_takes_its_definition-is are in
    let are = also limits_are_told_before_no_inputs-is are in
    let are = also a_weak_common_symbol_is_weak-is are in
    let are = also a_unique_common_symbol_is_common-is are in
    let are = also a_shared_entry_narrows_too-is are in
    let are = also a_local_symbol_is_not_downgraded-is are in
    let are = also a_shared_definition_has_no_version-is are in
    are
