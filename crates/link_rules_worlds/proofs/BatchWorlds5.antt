-- Generated worlds of several batches, and what an independent program answers to each.
-- Written by `tools/worlds.py` from `tools/batch_worlds.jsonl`.
use Rattle.std.proofs.Common.{refl}
use Rattle.std.specs.Str.{is_utf8, chars}
use Rattle.std.specs.Fmt.{digits}
use lib.Utf8.{encode}
use Rattle.link_flags.specs.FlagTable.{flag_table}
use Rattle.link_flags.specs.FlagText.{flags_text}
use Rattle.link_rules_worlds.specs.Computing.{IsAnswered}
use Rattle.link_rules_worlds.proofs.Computed.{answered}
use Rattle.link_rules_worlds.specs.BatchWorlds5 as its

pub batches_7049-is : IsAnswered its.batches_7049
unfolding
    is_utf8 chars digits encode flags_text flag_table
batches_7049-is = answered its.batches_7049 refl refl

pub batches_7050-is : IsAnswered its.batches_7050
unfolding
    is_utf8 chars digits encode flags_text flag_table
batches_7050-is = answered its.batches_7050 refl refl

pub batches_7051-is : IsAnswered its.batches_7051
unfolding
    is_utf8 chars digits encode flags_text flag_table
batches_7051-is = answered its.batches_7051 refl refl

pub batches_7052-is : IsAnswered its.batches_7052
unfolding
    is_utf8 chars digits encode flags_text flag_table
batches_7052-is = answered its.batches_7052 refl refl
