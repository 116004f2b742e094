use Rattle.std.proofs.Common.{◌≡◌, ◌<◌, ℕ, Some, length, take}
use Rattle.std.specs.List.{slice_get}
use Rattle.link_resolve_reasons.specs.Firsts.{first_place}
use Rattle.link_resolve_reasons.proofs.firsts.first_places.Given as goal

-- the first places among the entries so far
abbrev pub invariant-loop-place : goal.invariant-loop-place
invariant-loop-place l = record {
  each : length l.firsts.items ≡ l.count;
  first : (f : ℕ) → f < l.count → slice_get l.firsts.items f ≡ Some (first_place (take l.place l.keys) f);
}
