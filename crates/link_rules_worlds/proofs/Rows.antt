-- Worked examples: small worlds of objects alone, and what a link of each answers.
-- Written by `tools/worlds.py` from `tools/rows.jsonl`.
use Rattle.std.proofs.Common.{refl}
use Rattle.std.specs.Str.{is_utf8, chars}
use Rattle.std.specs.Fmt.{digits}
use lib.Utf8.{encode}
use Rattle.link_flags.specs.FlagTable.{flag_table}
use Rattle.link_flags.specs.FlagText.{flags_text}
use Rattle.link_rules_worlds.specs.Computing.{IsAnswered, AreAnswered}
use Rattle.link_rules_worlds.proofs.Computed.{answered, also}
use Rattle.link_rules_worlds.specs.Rows as its

pub members_that_are_asked_for-is : IsAnswered its.members_that_are_asked_for
unfolding
    is_utf8 chars digits encode flags_text flag_table
members_that_are_asked_for-is = answered its.members_that_are_asked_for refl refl

pub a_weak_reference_loads_nothing-is : IsAnswered its.a_weak_reference_loads_nothing
unfolding
    is_utf8 chars digits encode flags_text flag_table
a_weak_reference_loads_nothing-is = answered its.a_weak_reference_loads_nothing refl refl

pub an_unloaded_definition_stands_aside-is : IsAnswered its.an_unloaded_definition_stands_aside
unfolding
    is_utf8 chars digits encode flags_text flag_table
an_unloaded_definition_stands_aside-is = answered its.an_unloaded_definition_stands_aside refl refl

pub a_hidden_reference_takes_no_shared_symbol-is : IsAnswered its.a_hidden_reference_takes_no_shared_symbol
unfolding
    is_utf8 chars digits encode flags_text flag_table
a_hidden_reference_takes_no_shared_symbol-is = answered its.a_hidden_reference_takes_no_shared_symbol refl refl

pub shared_objects_load_no_shared_objects-is : IsAnswered its.shared_objects_load_no_shared_objects
unfolding
    is_utf8 chars digits encode flags_text flag_table
shared_objects_load_no_shared_objects-is = answered its.shared_objects_load_no_shared_objects refl refl

pub two_strong_definitions-is : IsAnswered its.two_strong_definitions
unfolding
    is_utf8 chars digits encode flags_text flag_table
two_strong_definitions-is = answered its.two_strong_definitions refl refl

pub two_strong_definitions_are_allowed-is : IsAnswered its.two_strong_definitions_are_allowed
unfolding
    is_utf8 chars digits encode flags_text flag_table
two_strong_definitions_are_allowed-is = answered its.two_strong_definitions_are_allowed refl refl

pub one_group_is_kept-is : IsAnswered its.one_group_is_kept
unfolding
    is_utf8 chars digits encode flags_text flag_table
one_group_is_kept-is = answered its.one_group_is_kept refl refl

pub a_partial_output_marks_signatures-is : IsAnswered its.a_partial_output_marks_signatures
unfolding
    is_utf8 chars digits encode flags_text flag_table
a_partial_output_marks_signatures-is = answered its.a_partial_output_marks_signatures refl refl

pub a_section_in_two_groups-is : IsAnswered its.a_section_in_two_groups
unfolding
    is_utf8 chars digits encode flags_text flag_table
a_section_in_two_groups-is = answered its.a_section_in_two_groups refl refl

pub an_unloaded_section_in_two_groups-is : IsAnswered its.an_unloaded_section_in_two_groups
unfolding
    is_utf8 chars digits encode flags_text flag_table
an_unloaded_section_in_two_groups-is = answered its.an_unloaded_section_in_two_groups refl refl

pub a_weak_version_gives_way-is : IsAnswered its.a_weak_version_gives_way
unfolding
    is_utf8 chars digits encode flags_text flag_table
a_weak_version_gives_way-is = answered its.a_weak_version_gives_way refl refl

pub a_reference_to_a_version-is : IsAnswered its.a_reference_to_a_version
unfolding
    is_utf8 chars digits encode flags_text flag_table
a_reference_to_a_version-is = answered its.a_reference_to_a_version refl refl

pub no_start_symbol_is_made-is : IsAnswered its.no_start_symbol_is_made
unfolding
    is_utf8 chars digits encode flags_text flag_table
no_start_symbol_is_made-is = answered its.no_start_symbol_is_made refl refl

pub the_largest_common_symbol-is : IsAnswered its.the_largest_common_symbol
unfolding
    is_utf8 chars digits encode flags_text flag_table
the_largest_common_symbol-is = answered its.the_largest_common_symbol refl refl

pub weak_before_common-is : IsAnswered its.weak_before_common
unfolding
    is_utf8 chars digits encode flags_text flag_table
weak_before_common-is = answered its.weak_before_common refl refl

pub a_protected_reference_to_a_shared_symbol-is : IsAnswered its.a_protected_reference_to_a_shared_symbol
unfolding
    is_utf8 chars digits encode flags_text flag_table
a_protected_reference_to_a_shared_symbol-is = answered its.a_protected_reference_to_a_shared_symbol refl refl

pub a_protected_record_of_a_shared_symbol-is : IsAnswered its.a_protected_record_of_a_shared_symbol
unfolding
    is_utf8 chars digits encode flags_text flag_table
a_protected_record_of_a_shared_symbol-is = answered its.a_protected_record_of_a_shared_symbol refl refl

pub the_first_in_a_loaded_regular_object-is : IsAnswered its.the_first_in_a_loaded_regular_object
unfolding
    is_utf8 chars digits encode flags_text flag_table
the_first_in_a_loaded_regular_object-is = answered its.the_first_in_a_loaded_regular_object refl refl

pub visibility_is_passed_to_a_definition-is : IsAnswered its.visibility_is_passed_to_a_definition
unfolding
    is_utf8 chars digits encode flags_text flag_table
visibility_is_passed_to_a_definition-is = answered its.visibility_is_passed_to_a_definition refl refl

pub a_weak_hidden_reference-is : IsAnswered its.a_weak_hidden_reference
unfolding
    is_utf8 chars digits encode flags_text flag_table
a_weak_hidden_reference-is = answered its.a_weak_hidden_reference refl refl

pub the_signature_of_a_discarded_group-is : IsAnswered its.the_signature_of_a_discarded_group
unfolding
    is_utf8 chars digits encode flags_text flag_table
the_signature_of_a_discarded_group-is = answered its.the_signature_of_a_discarded_group refl refl

pub the_member_that_was_listed_before-is : IsAnswered its.the_member_that_was_listed_before
unfolding
    is_utf8 chars digits encode flags_text flag_table
the_member_that_was_listed_before-is = answered its.the_member_that_was_listed_before refl refl

pub an_object_that_is_no_library_is_not_optional-is : IsAnswered its.an_object_that_is_no_library_is_not_optional
unfolding
    is_utf8 chars digits encode flags_text flag_table
an_object_that_is_no_library_is_not_optional-is = answered its.an_object_that_is_no_library_is_not_optional refl refl

pub the_head_of_a_list-is : IsAnswered its.the_head_of_a_list
unfolding
    is_utf8 chars digits encode flags_text flag_table
the_head_of_a_list-is = answered its.the_head_of_a_list refl refl

pub the_head_of_a_versioned_list-is : IsAnswered its.the_head_of_a_versioned_list
unfolding
    is_utf8 chars digits encode flags_text flag_table
the_head_of_a_versioned_list-is = answered its.the_head_of_a_versioned_list refl refl

pub too_many_sections-is : IsAnswered its.too_many_sections
unfolding
    is_utf8 chars digits encode flags_text flag_table
too_many_sections-is = answered its.too_many_sections refl refl

pub sections_of_shared_objects-is : IsAnswered its.sections_of_shared_objects
unfolding
    is_utf8 chars digits encode flags_text flag_table
sections_of_shared_objects-is = answered its.sections_of_shared_objects refl refl

pub a_versioned_shared_symbol_behind_another-is : IsAnswered its.a_versioned_shared_symbol_behind_another
unfolding
    is_utf8 chars digits encode flags_text flag_table
a_versioned_shared_symbol_behind_another-is = answered its.a_versioned_shared_symbol_behind_another refl refl

pub a_hidden_reference_where_weak_overrides_common-is : IsAnswered its.a_hidden_reference_where_weak_overrides_common
unfolding
    is_utf8 chars digits encode flags_text flag_table
a_hidden_reference_where_weak_overrides_common-is = answered its.a_hidden_reference_where_weak_overrides_common refl refl

pub a_section_in_two_groups_before_duplicates-is : IsAnswered its.a_section_in_two_groups_before_duplicates
unfolding
    is_utf8 chars digits encode flags_text flag_table
a_section_in_two_groups_before_duplicates-is = answered its.a_section_in_two_groups_before_duplicates refl refl

pub duplicates_before_versions-is : IsAnswered its.duplicates_before_versions
unfolding
    is_utf8 chars digits encode flags_text flag_table
duplicates_before_versions-is = answered its.duplicates_before_versions refl refl

pub a_shared_definition_beside_a_discarded_one-is : IsAnswered its.a_shared_definition_beside_a_discarded_one
unfolding
    is_utf8 chars digits encode flags_text flag_table
a_shared_definition_beside_a_discarded_one-is = answered its.a_shared_definition_beside_a_discarded_one refl refl

pub a_version_stands_for_its_plain_choice-is : IsAnswered its.a_version_stands_for_its_plain_choice
unfolding
    is_utf8 chars digits encode flags_text flag_table
a_version_stands_for_its_plain_choice-is = answered its.a_version_stands_for_its_plain_choice refl refl

pub a_version_does_not_stand_for_a_shared_symbol-is : IsAnswered its.a_version_does_not_stand_for_a_shared_symbol
unfolding
    is_utf8 chars digits encode flags_text flag_table
a_version_does_not_stand_for_a_shared_symbol-is = answered its.a_version_does_not_stand_for_a_shared_symbol refl refl

pub a_hidden_definition_of_a_version-is : IsAnswered its.a_hidden_definition_of_a_version
unfolding
    is_utf8 chars digits encode flags_text flag_table
a_hidden_definition_of_a_version-is = answered its.a_hidden_definition_of_a_version refl refl

pub a_local_signature_of_a_discarded_group-is : IsAnswered its.a_local_signature_of_a_discarded_group
unfolding
    is_utf8 chars digits encode flags_text flag_table
a_local_signature_of_a_discarded_group-is = answered its.a_local_signature_of_a_discarded_group refl refl

pub two_references_of_which_the_last_stands-is : IsAnswered its.two_references_of_which_the_last_stands
unfolding
    is_utf8 chars digits encode flags_text flag_table
two_references_of_which_the_last_stands-is = answered its.two_references_of_which_the_last_stands refl refl

pub all_cases-are : AreAnswered its.all_cases
unfolding its.all_cases
all_cases-are =
    let are : Unit {0} = tt in
    let are = also two_references_of_which_the_last_stands-is are in
    let are = also a_local_signature_of_a_discarded_group-is are in
    let are = also a_hidden_definition_of_a_version-is are in
    let are = also a_version_does_not_stand_for_a_shared_symbol-is are in
    let are = also a_version_stands_for_its_plain_choice-is are in
    let are = also a_shared_definition_beside_a_discarded_one-is are in
    let are = also duplicates_before_versions-is are in
    let are = also a_section_in_two_groups_before_duplicates-is are in
    let are = also a_hidden_reference_where_weak_overrides_common-is are in
    let are = also a_versioned_shared_symbol_behind_another-is are in
    let are = also sections_of_shared_objects-is are in
    let are = also too_many_sections-is are in
    let are = also the_head_of_a_versioned_list-is are in
    let are = also the_head_of_a_list-is are in
    let are = also an_object_that_is_no_library_is_not_optional-is are in
    let are = also the_member_that_was_listed_before-is are in
    let are = also the_signature_of_a_discarded_group-is are in
    let are = also a_weak_hidden_reference-is are in
    let are = also visibility_is_passed_to_a_definition-is are in
    let are = also the_first_in_a_loaded_regular_object-is are in
    let are = also a_protected_record_of_a_shared_symbol-is are in
    let are = also a_protected_reference_to_a_shared_symbol-is are in
    let are = also weak_before_common-is are in
    let are = also the_largest_common_symbol-is are in
    let are = also no_start_symbol_is_made-is are in
    let are = also a_reference_to_a_version-is are in
    let are = also a_weak_version_gives_way-is are in
    let are = also an_unloaded_section_in_two_groups-is are in
    let are = also a_section_in_two_groups-is are in
    let are = also a_partial_output_marks_signatures-is are in
    let are = also one_group_is_kept-is are in
    let are = also two_strong_definitions_are_allowed-is are in
    let are = also two_strong_definitions-is are in
    let are = also shared_objects_load_no_shared_objects-is are in
    let are = also a_hidden_reference_takes_no_shared_symbol-is are in
    let are = also an_unloaded_definition_stands_aside-is are in
    let are = also a_weak_reference_loads_nothing-is are in
    let are = also members_that_are_asked_for-is are in
    are
