use Rattle.std.proofs.Common.{subst, sym}
use Rattle.link_resolve_roots.specs.Found.{AreFound, Found}
use Rattle.link_resolve_roots.proofs.Noted.{found-more}
use Rattle.link_resolve_roots.proofs.found.FoundRoots.note_batch.Goals as goal

pub returns : goal.returns
returns g c = λ demangle w at ws are.
    let old : Found = record { entries = c.self.inside.entries; others = c.self.inside.others.items } in
    let new : Found = record { entries = c.note_entry.new.entries; others = c.note_others.new.others.items } in
    found-more ws w old new (subst (λ (f : Found). AreFound ws f) (sym c.self.view_is) are)
    (c.in_ok-note_entry.ensures demangle w at) (c.in_ok-note_others.ensures demangle w at)
