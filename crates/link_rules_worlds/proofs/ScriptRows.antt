-- Worked examples: small worlds with scripts, lists, wraps and other options, and what a link of each answers.
-- Written by `tools/worlds.py` from `tools/script_rows.jsonl`.
use Rattle.std.proofs.Common.{refl}
use Rattle.std.specs.Str.{is_utf8, chars}
use Rattle.std.specs.Fmt.{digits}
use lib.Utf8.{encode}
use Rattle.link_flags.specs.FlagTable.{flag_table}
use Rattle.link_flags.specs.FlagText.{flags_text}
use Rattle.link_glob.specs.Reading.{tokens_of}
use Rattle.link_glob.specs.Glob.{does_match}
use Rattle.link_glob.specs.Compile.{glob_of}
use Rattle.link_script_syntax.specs.MachoList.{macho_matcher, line_matcher, macho_list}
use Rattle.link_script_syntax.specs.Named.{parent_at, named_at, versions_at}
use Rattle.link_script_syntax.specs.Body.{body_turn, pieces_at, body_at}
use Rattle.link_script_syntax.specs.ForcedName.{forced_token, forced_name}
use Rattle.link_script_syntax.specs.GnuList.{list_turn, gnu_entries, gnu_list}
use Rattle.link_script_syntax.specs.Many.{grow}
use Rattle.link_script_syntax.specs.Token.{trimmed, glob_at, matcher_of, token_at}
use Rattle.link_script_syntax.specs.Script.{anonymous, script_at}
use Rattle.link_script_syntax.specs.Block.{language_at, extern_text, inner_extern, block_turn, block_at}
use Rattle.link_script_syntax.specs.Skip.{skip}
use Rattle.link_script_syntax.specs.Entry.{extern_at, entry_at}
use Rattle.link_rules_worlds.specs.Computing.{IsAnswered, AreAnswered}
use Rattle.link_rules_worlds.proofs.Computed.{answered, also}
use Rattle.link_rules_worlds.specs.ScriptRows as its

pub no_objects-is : IsAnswered its.no_objects
unfolding
    is_utf8 chars digits encode flags_text flag_table
no_objects-is = answered its.no_objects refl refl

pub a_wrapped_name_finds_its_wrapper-is : IsAnswered its.a_wrapped_name_finds_its_wrapper
unfolding
    is_utf8 chars digits encode flags_text flag_table
a_wrapped_name_finds_its_wrapper-is = answered its.a_wrapped_name_finds_its_wrapper refl refl

pub a_start_symbol_is_made-is : IsAnswered its.a_start_symbol_is_made
unfolding
    is_utf8 chars digits encode flags_text flag_table
a_start_symbol_is_made-is = answered its.a_start_symbol_is_made refl refl

pub a_script_makes_a_name_local-is : IsAnswered its.a_script_makes_a_name_local
unfolding
    is_utf8 chars digits encode flags_text flag_table macho_matcher line_matcher macho_list parent_at named_at
    versions_at body_turn pieces_at body_at forced_token forced_name list_turn gnu_entries gnu_list grow trimmed glob_at
    matcher_of token_at anonymous script_at language_at extern_text inner_extern block_turn block_at skip extern_at
    entry_at tokens_of does_match glob_of
a_script_makes_a_name_local-is = answered its.a_script_makes_a_name_local refl refl

pub a_version_is_given-is : IsAnswered its.a_version_is_given
unfolding
    is_utf8 chars digits encode flags_text flag_table macho_matcher line_matcher macho_list parent_at named_at
    versions_at body_turn pieces_at body_at forced_token forced_name list_turn gnu_entries gnu_list grow trimmed glob_at
    matcher_of token_at anonymous script_at language_at extern_text inner_extern block_turn block_at skip extern_at
    entry_at tokens_of does_match glob_of
a_version_is_given-is = answered its.a_version_is_given refl refl

pub a_version_is_not_declared-is : IsAnswered its.a_version_is_not_declared
unfolding
    is_utf8 chars digits encode flags_text flag_table macho_matcher line_matcher macho_list parent_at named_at
    versions_at body_turn pieces_at body_at forced_token forced_name list_turn gnu_entries gnu_list grow trimmed glob_at
    matcher_of token_at anonymous script_at language_at extern_text inner_extern block_turn block_at skip extern_at
    entry_at tokens_of does_match glob_of
a_version_is_not_declared-is = answered its.a_version_is_not_declared refl refl

pub a_second_version_script-is : IsAnswered its.a_second_version_script
unfolding
    is_utf8 chars digits encode flags_text flag_table macho_matcher line_matcher macho_list parent_at named_at
    versions_at body_turn pieces_at body_at forced_token forced_name list_turn gnu_entries gnu_list grow trimmed glob_at
    matcher_of token_at anonymous script_at language_at extern_text inner_extern block_turn block_at skip extern_at
    entry_at tokens_of does_match glob_of
a_second_version_script-is = answered its.a_second_version_script refl refl

pub the_last_script_says_the_entry-is : IsAnswered its.the_last_script_says_the_entry
unfolding
    is_utf8 chars digits encode flags_text flag_table
the_last_script_says_the_entry-is = answered its.the_last_script_says_the_entry refl refl

pub the_option_says_the_entry-is : IsAnswered its.the_option_says_the_entry
unfolding
    is_utf8 chars digits encode flags_text flag_table
the_option_says_the_entry-is = answered its.the_option_says_the_entry refl refl

pub the_platforms_entry-is : IsAnswered its.the_platforms_entry
unfolding
    is_utf8 chars digits encode flags_text flag_table
the_platforms_entry-is = answered its.the_platforms_entry refl refl

pub a_local_tls_symbol-is : IsAnswered its.a_local_tls_symbol
unfolding
    is_utf8 chars digits encode flags_text flag_table macho_matcher line_matcher macho_list parent_at named_at
    versions_at body_turn pieces_at body_at forced_token forced_name list_turn gnu_entries gnu_list grow trimmed glob_at
    matcher_of token_at anonymous script_at language_at extern_text inner_extern block_turn block_at skip extern_at
    entry_at tokens_of does_match glob_of
a_local_tls_symbol-is = answered its.a_local_tls_symbol refl refl

pub a_rust_name_means_its_definition-is : IsAnswered its.a_rust_name_means_its_definition
unfolding
    is_utf8 chars digits encode flags_text flag_table macho_matcher line_matcher macho_list parent_at named_at
    versions_at body_turn pieces_at body_at forced_token forced_name list_turn gnu_entries gnu_list grow trimmed glob_at
    matcher_of token_at anonymous script_at language_at extern_text inner_extern block_turn block_at skip extern_at
    entry_at tokens_of does_match glob_of
a_rust_name_means_its_definition-is = answered its.a_rust_name_means_its_definition refl refl

pub a_maker_passes_no_visibility-is : IsAnswered its.a_maker_passes_no_visibility
unfolding
    is_utf8 chars digits encode flags_text flag_table
a_maker_passes_no_visibility-is = answered its.a_maker_passes_no_visibility refl refl

pub two_linker_scripts_with_versions-is : IsAnswered its.two_linker_scripts_with_versions
unfolding
    is_utf8 chars digits encode flags_text flag_table macho_matcher line_matcher macho_list parent_at named_at
    versions_at body_turn pieces_at body_at forced_token forced_name list_turn gnu_entries gnu_list grow trimmed glob_at
    matcher_of token_at anonymous script_at language_at extern_text inner_extern block_turn block_at skip extern_at
    entry_at tokens_of does_match glob_of
two_linker_scripts_with_versions-is = answered its.two_linker_scripts_with_versions refl refl

pub the_version_script_of_a_linker_script-is : IsAnswered its.the_version_script_of_a_linker_script
unfolding
    is_utf8 chars digits encode flags_text flag_table macho_matcher line_matcher macho_list parent_at named_at
    versions_at body_turn pieces_at body_at forced_token forced_name list_turn gnu_entries gnu_list grow trimmed glob_at
    matcher_of token_at anonymous script_at language_at extern_text inner_extern block_turn block_at skip extern_at
    entry_at tokens_of does_match glob_of
the_version_script_of_a_linker_script-is = answered its.the_version_script_of_a_linker_script refl refl

pub a_forced_export_makes_a_list-is : IsAnswered its.a_forced_export_makes_a_list
unfolding
    is_utf8 chars digits encode flags_text flag_table macho_matcher line_matcher macho_list parent_at named_at
    versions_at body_turn pieces_at body_at forced_token forced_name list_turn gnu_entries gnu_list grow trimmed glob_at
    matcher_of token_at anonymous script_at language_at extern_text inner_extern block_turn block_at skip extern_at
    entry_at tokens_of does_match glob_of
a_forced_export_makes_a_list-is = answered its.a_forced_export_makes_a_list refl refl

pub a_real_name_that_is_defined-is : IsAnswered its.a_real_name_that_is_defined
unfolding
    is_utf8 chars digits encode flags_text flag_table
a_real_name_that_is_defined-is = answered its.a_real_name_that_is_defined refl refl

pub a_real_name_that_is_not_defined-is : IsAnswered its.a_real_name_that_is_not_defined
unfolding
    is_utf8 chars digits encode flags_text flag_table
a_real_name_that_is_not_defined-is = answered its.a_real_name_that_is_not_defined refl refl

pub two_wraps_of_a_name-is : IsAnswered its.two_wraps_of_a_name
unfolding
    is_utf8 chars digits encode flags_text flag_table
two_wraps_of_a_name-is = answered its.two_wraps_of_a_name refl refl

pub a_required_export_that_is_missing-is : IsAnswered its.a_required_export_that_is_missing
unfolding
    is_utf8 chars digits encode flags_text flag_table macho_matcher line_matcher macho_list parent_at named_at
    versions_at body_turn pieces_at body_at forced_token forced_name list_turn gnu_entries gnu_list grow trimmed glob_at
    matcher_of token_at anonymous script_at language_at extern_text inner_extern block_turn block_at skip extern_at
    entry_at tokens_of does_match glob_of
a_required_export_that_is_missing-is = answered its.a_required_export_that_is_missing refl refl

pub a_scripts_entry_before_the_platforms-is : IsAnswered its.a_scripts_entry_before_the_platforms
unfolding
    is_utf8 chars digits encode flags_text flag_table
a_scripts_entry_before_the_platforms-is = answered its.a_scripts_entry_before_the_platforms refl refl

pub a_script_symbol_is_no_pick-is : IsAnswered its.a_script_symbol_is_no_pick
unfolding
    is_utf8 chars digits encode flags_text flag_table
a_script_symbol_is_no_pick-is = answered its.a_script_symbol_is_no_pick refl refl

pub a_faulty_text_without_an_object-is : IsAnswered its.a_faulty_text_without_an_object
unfolding
    is_utf8 chars digits encode flags_text flag_table macho_matcher line_matcher macho_list parent_at named_at
    versions_at body_turn pieces_at body_at forced_token forced_name list_turn gnu_entries gnu_list grow trimmed glob_at
    matcher_of token_at anonymous script_at language_at extern_text inner_extern block_turn block_at skip extern_at
    entry_at tokens_of does_match glob_of
a_faulty_text_without_an_object-is = answered its.a_faulty_text_without_an_object refl refl

pub the_version_script_is_told_first-is : IsAnswered its.the_version_script_is_told_first
unfolding
    is_utf8 chars digits encode flags_text flag_table macho_matcher line_matcher macho_list parent_at named_at
    versions_at body_turn pieces_at body_at forced_token forced_name list_turn gnu_entries gnu_list grow trimmed glob_at
    matcher_of token_at anonymous script_at language_at extern_text inner_extern block_turn block_at skip extern_at
    entry_at tokens_of does_match glob_of
the_version_script_is_told_first-is = answered its.the_version_script_is_told_first refl refl

pub the_export_list_is_told_before_forced_names-is : IsAnswered its.the_export_list_is_told_before_forced_names
unfolding
    is_utf8 chars digits encode flags_text flag_table macho_matcher line_matcher macho_list parent_at named_at
    versions_at body_turn pieces_at body_at forced_token forced_name list_turn gnu_entries gnu_list grow trimmed glob_at
    matcher_of token_at anonymous script_at language_at extern_text inner_extern block_turn block_at skip extern_at
    entry_at tokens_of does_match glob_of
the_export_list_is_told_before_forced_names-is = answered its.the_export_list_is_told_before_forced_names refl refl

pub forced_names_are_told_before_linker_scripts-is : IsAnswered its.forced_names_are_told_before_linker_scripts
unfolding
    is_utf8 chars digits encode flags_text flag_table macho_matcher line_matcher macho_list parent_at named_at
    versions_at body_turn pieces_at body_at forced_token forced_name list_turn gnu_entries gnu_list grow trimmed glob_at
    matcher_of token_at anonymous script_at language_at extern_text inner_extern block_turn block_at skip extern_at
    entry_at tokens_of does_match glob_of
forced_names_are_told_before_linker_scripts-is = answered its.forced_names_are_told_before_linker_scripts refl refl

pub a_faulty_text_of_a_linker_script-is : IsAnswered its.a_faulty_text_of_a_linker_script
unfolding
    is_utf8 chars digits encode flags_text flag_table macho_matcher line_matcher macho_list parent_at named_at
    versions_at body_turn pieces_at body_at forced_token forced_name list_turn gnu_entries gnu_list grow trimmed glob_at
    matcher_of token_at anonymous script_at language_at extern_text inner_extern block_turn block_at skip extern_at
    entry_at tokens_of does_match glob_of
a_faulty_text_of_a_linker_script-is = answered its.a_faulty_text_of_a_linker_script refl refl

pub a_start_symbol_that_a_shared_object_defines-is : IsAnswered its.a_start_symbol_that_a_shared_object_defines
unfolding
    is_utf8 chars digits encode flags_text flag_table
a_start_symbol_that_a_shared_object_defines-is = answered its.a_start_symbol_that_a_shared_object_defines refl refl

pub a_local_symbol_has_no_version-is : IsAnswered its.a_local_symbol_has_no_version
unfolding
    is_utf8 chars digits encode flags_text flag_table macho_matcher line_matcher macho_list parent_at named_at
    versions_at body_turn pieces_at body_at forced_token forced_name list_turn gnu_entries gnu_list grow trimmed glob_at
    matcher_of token_at anonymous script_at language_at extern_text inner_extern block_turn block_at skip extern_at
    entry_at tokens_of does_match glob_of
a_local_symbol_has_no_version-is = answered its.a_local_symbol_has_no_version refl refl

pub a_weak_reference_to_a_stub_library-is : IsAnswered its.a_weak_reference_to_a_stub_library
unfolding
    is_utf8 chars digits encode flags_text flag_table
a_weak_reference_to_a_stub_library-is = answered its.a_weak_reference_to_a_stub_library refl refl

pub all_cases-are : AreAnswered its.all_cases
unfolding its.all_cases
all_cases-are =
    let are : Unit {0} = tt in
    let are = also a_weak_reference_to_a_stub_library-is are in
    let are = also a_local_symbol_has_no_version-is are in
    let are = also a_start_symbol_that_a_shared_object_defines-is are in
    let are = also a_faulty_text_of_a_linker_script-is are in
    let are = also forced_names_are_told_before_linker_scripts-is are in
    let are = also the_export_list_is_told_before_forced_names-is are in
    let are = also the_version_script_is_told_first-is are in
    let are = also a_faulty_text_without_an_object-is are in
    let are = also a_script_symbol_is_no_pick-is are in
    let are = also a_scripts_entry_before_the_platforms-is are in
    let are = also a_required_export_that_is_missing-is are in
    let are = also two_wraps_of_a_name-is are in
    let are = also a_real_name_that_is_not_defined-is are in
    let are = also a_real_name_that_is_defined-is are in
    let are = also a_forced_export_makes_a_list-is are in
    let are = also the_version_script_of_a_linker_script-is are in
    let are = also two_linker_scripts_with_versions-is are in
    let are = also a_maker_passes_no_visibility-is are in
    let are = also a_rust_name_means_its_definition-is are in
    let are = also a_local_tls_symbol-is are in
    let are = also the_platforms_entry-is are in
    let are = also the_option_says_the_entry-is are in
    let are = also the_last_script_says_the_entry-is are in
    let are = also a_second_version_script-is are in
    let are = also a_version_is_not_declared-is are in
    let are = also a_version_is_given-is are in
    let are = also a_script_makes_a_name_local-is are in
    let are = also a_start_symbol_is_made-is are in
    let are = also a_wrapped_name_finds_its_wrapper-is are in
    let are = also no_objects-is are in
    are
