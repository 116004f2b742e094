use Rattle.std.proofs.Common.{arith}
use Rattle.link_verdef.proofs.Lawful.{lawful_few}
use Rattle.link_verdef.proofs.Places.{places_length, places_short}
use Rattle.link_verdef.proofs.Written.{parent_within, records_more}
use Rattle.link_verdef.proofs.write.records_of.Goals as goal

pub push_item-requires-clause-few : goal.push_item-requires-clause-few
push_item-requires-clause-few c =
    omega (arith, places_length c.args.items.now _ _ c.requires.places, lawful_few c.args.items.now c.requires.lawful)

pub push_item-requires-clause-within : goal.push_item-requires-clause-within
push_item-requires-clause-within c = omega (arith, places_length c.args.items.now _ _ c.requires.places)

pub push_item-requires-clause-parent : goal.push_item-requires-clause-parent
push_item-requires-clause-parent c =
    parent_within c.args.items.now _ _ _ c.requires.lawful c.requires.places c.loop-number-test.true c.index-items-number.is

pub push_item-requires-clause-short : goal.push_item-requires-clause-short
push_item-requires-clause-short c = places_short c.args.items.now _ _ c.requires.places c.requires.short

pub loop-number-preserved : goal.loop-number-preserved
loop-number-preserved c =
    records_more c.args.items.now _ _ _ _ _ c.requires.lawful c.requires.places c.loop-number-test.true c.index-items-number.is c.loop-number.invariant c.in_ok-push_item.ensures
