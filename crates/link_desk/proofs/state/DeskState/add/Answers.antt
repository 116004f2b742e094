use Rattle.std.proofs.Common.{rules}
use Rattle.link_desk.specs.declared.entry.Entry.TheVariants.{Add}
use Rattle.link_desk.specs.Replay.{Desked}
use Rattle.link_desk.proofs.Replays.{marked_more, replayed_more}
use Rattle.link_desk.proofs.state.DeskState.add.Goals as goal

pub invariant_of-self-2 : goal.invariant_of-self-2
invariant_of-self-2 g c =
    let i = c.self.inside in
    let d : Desked = record { session = i.session; history = i.history.items; book = i.book.total } in
    let e = Add c.args.batch c.add_to-reply.result in (
      replayed_more g.L.Opening.options g.L.Opening.texts d e c.add_to-reply.new.session c.keep-place.new.history.items c.keep-place.new.book.total c.self.invariant.0 c.add_to-reply.ensures.reply c.add_to-reply.ensures.session (search rules) (search rules),
      marked_more i.claimed.items c.keep-place.new.claimed.items i.history.items c.keep-place.new.history.items e c.self.invariant.1 (search rules) (search rules),
    )

pub returns-clause-replayed : goal.returns-clause-replayed
returns-clause-replayed g c = (invariant_of-self-2 g c).0
