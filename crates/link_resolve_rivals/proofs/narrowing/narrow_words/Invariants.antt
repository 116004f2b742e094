use Rattle.std.proofs.Common.{◌≡◌, ℕ, slice_index}
use Rattle.link_flags.specs.FlagWords.{numbers_of}
use Rattle.link_rules.specs.World.{Stage}
use Rattle.link_resolve_rivals.specs.Narrowed.{AreSeen}
use Rattle.link_resolve_rivals.proofs.NarrowPass.{narrowed_at}
use Rattle.link_resolve_rivals.proofs.Passes.{done_below}
use Rattle.link_resolve_rivals.proofs.narrowing.narrow_words.Given as goal

abbrev pub invariant-loop-number : goal.invariant-loop-number
invariant-loop-number g l =
    (w : Stage) → AreSeen l.visibilities l.dynamic w → (s : ℕ)
    → slice_index (numbers_of l.words) s ≡ done_below (g.L.RivalLists.listed l.lists) (narrowed_at w (g.L.RivalLists.listed l.lists)) (slice_index (numbers_of l.fn.words)) l.number s
