-- Worked examples: small worlds of several batches, and what a link of each answers.
-- Written by `tools/worlds.py` from `tools/batch_rows.jsonl`.
use Rattle.std.specs.Prelude.{List, [], ◌∷◌}
use Rattle.link_rules_worlds.specs.Computing.{Case}
use Rattle.link_rules_worlds.specs.BatchRows1.{a_later_batch_defines_what_an_earlier_asks_for, an_earlier_definition_stays_the_first, a_version_text_in_a_later_batch, a_faulty_version_text_in_a_later_batch, version_texts_in_two_batches, an_earlier_batch_is_refused_first, a_weak_reference_keeps_its_target, a_hidden_reference_keeps_its_target, a_hidden_reference_waits_for_what_is_not_shared, a_weak_reference_takes_a_later_definition, an_object_asks_when_it_is_loaded, a_later_linker_script_says_the_entry, the_mark_of_an_earlier_entry_stays, a_redirect_marks_in_each_batch, a_redirects_earlier_mark_stays, a_redirect_of_a_later_linker_script_loads, a_forced_name_that_a_later_batch_defines, a_required_export_of_a_later_batch, linker_scripts_of_all_batches_count, stub_libraries_of_all_batches_count, no_object_in_the_first_batch, no_object_in_a_later_batch, a_section_in_two_groups_of_an_object_loaded_later, duplicates_of_two_batches, comdat_groups_of_two_batches, a_group_of_an_object_loaded_later, a_start_symbol_for_two_batches, a_start_symbol_that_a_later_batch_defines, an_undefined_name_of_two_batches}
use Rattle.link_rules_worlds.specs.BatchRows2.{a_batch_has_its_ids_together, a_shared_object_of_a_later_batch, two_shared_objects_of_two_batches}

unfoldable pub all_cases : List Case
all_cases =
    a_later_batch_defines_what_an_earlier_asks_for ∷ an_earlier_definition_stays_the_first ∷
    a_version_text_in_a_later_batch ∷ a_faulty_version_text_in_a_later_batch ∷ version_texts_in_two_batches ∷
    an_earlier_batch_is_refused_first ∷ a_weak_reference_keeps_its_target ∷ a_hidden_reference_keeps_its_target ∷
    a_hidden_reference_waits_for_what_is_not_shared ∷ a_weak_reference_takes_a_later_definition ∷
    an_object_asks_when_it_is_loaded ∷ a_later_linker_script_says_the_entry ∷ the_mark_of_an_earlier_entry_stays ∷
    a_redirect_marks_in_each_batch ∷ a_redirects_earlier_mark_stays ∷ a_redirect_of_a_later_linker_script_loads ∷
    a_forced_name_that_a_later_batch_defines ∷ a_required_export_of_a_later_batch ∷ linker_scripts_of_all_batches_count ∷
    stub_libraries_of_all_batches_count ∷ no_object_in_the_first_batch ∷ no_object_in_a_later_batch ∷
    a_section_in_two_groups_of_an_object_loaded_later ∷ duplicates_of_two_batches ∷ comdat_groups_of_two_batches ∷
    a_group_of_an_object_loaded_later ∷ a_start_symbol_for_two_batches ∷ a_start_symbol_that_a_later_batch_defines ∷
    an_undefined_name_of_two_batches ∷ a_batch_has_its_ids_together ∷ a_shared_object_of_a_later_batch ∷
    two_shared_objects_of_two_batches ∷ []
