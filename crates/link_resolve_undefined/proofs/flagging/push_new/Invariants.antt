use Rattle.std.proofs.Common.{◌≡◌, ◌++◌, ℕ, List, drop, map}
use Rattle.link_flags.specs.FlagBits as flag
use Rattle.link_resolve_undefined.specs.Flagged.{numbers_in}
use Rattle.link_resolve_undefined.proofs.flagging.push_new.Given as goal

abbrev pub invariant-loop-maker : goal.invariant-loop-maker
invariant-loop-maker l = record {
  whole : numbers_in l.flags ++ map (λ (m : ℕ). flag.non_interposable) (drop l._maker-index l.makers) ≡ numbers_in l.fn.flags ++ map (λ (m : ℕ). flag.non_interposable) l.makers;
  grown : (more : List ℕ) × (numbers_in l.flags ≡ numbers_in l.fn.flags ++ more);
}
