-- Worked examples: small worlds of several batches, and what a link of each answers.
-- Written by `tools/worlds.py` from `tools/batch_rows.jsonl`.
use Rattle.link_rules_worlds.specs.Computing.{AreAnswered}
use Rattle.link_rules_worlds.proofs.Computed.{also}
use Rattle.link_rules_worlds.proofs.BatchRows1.{a_later_batch_defines_what_an_earlier_asks_for-is, an_earlier_definition_stays_the_first-is, a_version_text_in_a_later_batch-is, a_faulty_version_text_in_a_later_batch-is, version_texts_in_two_batches-is, an_earlier_batch_is_refused_first-is, a_weak_reference_keeps_its_target-is, a_hidden_reference_keeps_its_target-is, a_hidden_reference_waits_for_what_is_not_shared-is, a_weak_reference_takes_a_later_definition-is, an_object_asks_when_it_is_loaded-is, a_later_linker_script_says_the_entry-is, the_mark_of_an_earlier_entry_stays-is, a_redirect_marks_in_each_batch-is, a_redirects_earlier_mark_stays-is, a_redirect_of_a_later_linker_script_loads-is, a_forced_name_that_a_later_batch_defines-is, a_required_export_of_a_later_batch-is, linker_scripts_of_all_batches_count-is, stub_libraries_of_all_batches_count-is, no_object_in_the_first_batch-is, no_object_in_a_later_batch-is, a_section_in_two_groups_of_an_object_loaded_later-is, duplicates_of_two_batches-is, comdat_groups_of_two_batches-is, a_group_of_an_object_loaded_later-is, a_start_symbol_for_two_batches-is, a_start_symbol_that_a_later_batch_defines-is, an_undefined_name_of_two_batches-is}
use Rattle.link_rules_worlds.proofs.BatchRows2.{a_batch_has_its_ids_together-is, a_shared_object_of_a_later_batch-is, two_shared_objects_of_two_batches-is}
use Rattle.link_rules_worlds.specs.BatchRows as its

pub all_cases-are : AreAnswered its.all_cases
unfolding its.all_cases
all_cases-are =
    let are : Unit {0} = tt in
    let are = also two_shared_objects_of_two_batches-is are in
    let are = also a_shared_object_of_a_later_batch-is are in
    let are = also a_batch_has_its_ids_together-is are in
    let are = also an_undefined_name_of_two_batches-is are in
    let are = also a_start_symbol_that_a_later_batch_defines-is are in
    let are = also a_start_symbol_for_two_batches-is are in
    let are = also a_group_of_an_object_loaded_later-is are in
    let are = also comdat_groups_of_two_batches-is are in
    let are = also duplicates_of_two_batches-is are in
    let are = also a_section_in_two_groups_of_an_object_loaded_later-is are in
    let are = also no_object_in_a_later_batch-is are in
    let are = also no_object_in_the_first_batch-is are in
    let are = also stub_libraries_of_all_batches_count-is are in
    let are = also linker_scripts_of_all_batches_count-is are in
    let are = also a_required_export_of_a_later_batch-is are in
    let are = also a_forced_name_that_a_later_batch_defines-is are in
    let are = also a_redirect_of_a_later_linker_script_loads-is are in
    let are = also a_redirects_earlier_mark_stays-is are in
    let are = also a_redirect_marks_in_each_batch-is are in
    let are = also the_mark_of_an_earlier_entry_stays-is are in
    let are = also a_later_linker_script_says_the_entry-is are in
    let are = also an_object_asks_when_it_is_loaded-is are in
    let are = also a_weak_reference_takes_a_later_definition-is are in
    let are = also a_hidden_reference_waits_for_what_is_not_shared-is are in
    let are = also a_hidden_reference_keeps_its_target-is are in
    let are = also a_weak_reference_keeps_its_target-is are in
    let are = also an_earlier_batch_is_refused_first-is are in
    let are = also version_texts_in_two_batches-is are in
    let are = also a_faulty_version_text_in_a_later_batch-is are in
    let are = also a_version_text_in_a_later_batch-is are in
    let are = also an_earlier_definition_stays_the_first-is are in
    let are = also a_later_batch_defines_what_an_earlier_asks_for-is are in
    are
