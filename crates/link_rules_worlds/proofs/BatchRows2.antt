-- Worked examples: small worlds of several batches, and what a link of each answers.
-- Written by `tools/worlds.py` from `tools/batch_rows.jsonl`.
use Rattle.std.proofs.Common.{refl}
use Rattle.std.specs.Str.{is_utf8, chars}
use Rattle.std.specs.Fmt.{digits}
use lib.Utf8.{encode}
use Rattle.link_flags.specs.FlagTable.{flag_table}
use Rattle.link_flags.specs.FlagText.{flags_text}
use Rattle.link_rules_worlds.specs.Computing.{IsAnswered}
use Rattle.link_rules_worlds.proofs.Computed.{answered}
use Rattle.link_rules_worlds.specs.BatchRows2 as its

pub a_batch_has_its_ids_together-is : IsAnswered its.a_batch_has_its_ids_together
unfolding
    is_utf8 chars digits encode flags_text flag_table
a_batch_has_its_ids_together-is = answered its.a_batch_has_its_ids_together refl refl

pub a_shared_object_of_a_later_batch-is : IsAnswered its.a_shared_object_of_a_later_batch
unfolding
    is_utf8 chars digits encode flags_text flag_table
a_shared_object_of_a_later_batch-is = answered its.a_shared_object_of_a_later_batch refl refl

pub two_shared_objects_of_two_batches-is : IsAnswered its.two_shared_objects_of_two_batches
unfolding
    is_utf8 chars digits encode flags_text flag_table
two_shared_objects_of_two_batches-is = answered its.two_shared_objects_of_two_batches refl refl
