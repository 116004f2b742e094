-- Runs of ids that follow one another.
use Rattle.std.proofs.Common.{◌≡◌, ℕ, zero, suc, ◌+◌, List, [], ◌∷◌, length, Some, slice_get, refl, subst, arith}
use Rattle.std.proofs.lemmas.List.{length-map}
use Rattle.std.proofs.lemmas.Option.{same_Some}
use Rattle.link_ids.specs.Span.{Span}
use Rattle.link_input_groups.specs.declared.group.Group.{Group}
use Rattle.link_input_groups.specs.declared.group.Group.TheVariants as group
use Rattle.link_input_groups.specs.Groups.{files_of, symbol_spans, length_of_spans, RunsFrom, RunsOn}

-- each file of a group has its run of ids
pub length-files : {P : Type 0} (g : Group P) → length (files_of g) ≡ length (symbol_spans g)
length-files (group.Prelude symbols) = refl
length-files (group.Objects objects) = rw (length-map, length-map) refl
length-files (group.LinkerScripts scripts) = rw (length-map, length-map) refl
length-files (group.StubLibraries stubs) = rw (length-map, length-map) refl
length-files (group.SyntheticSymbols s) = refl

-- the last run ends behind all
runs-end : (s : Span) (ss : List Span) → RunsOn (s ∷ ss) → (k : ℕ) → k ≡ length ss → (last : Span) → slice_get (s ∷ ss) k ≡ Some last → last.start + last.len ≡ s.start + length_of_spans (s ∷ ss)
runs-end s [] runs zero at last is =
    let same : s ≡ last = same_Some s last is in rw (← same) (omega arith)
runs-end s [] runs (suc k) at last is = absurd (omega arith)
runs-end s (t ∷ ts) runs zero at last is = absurd (omega arith)
runs-end s (t ∷ ts) runs (suc k) at last is =
    let from : s.start + s.len + t.len ≡ t.start + t.len = omega (arith, runs.0) in
    let rest : RunsOn (t ∷ ts) = subst (λ (n : ℕ). RunsFrom n ts) from runs.1 in
    let end = runs-end t ts rest k (omega arith) last is in
    omega (arith, end, runs.0)

-- all runs together go from the start of the first to the end of the last
pub runs-cover : (spans : List Span) → RunsOn spans → (first last : Span) (k : ℕ) → k + 1 ≡ length spans → slice_get spans 0 ≡ Some first → slice_get spans k ≡ Some last → last.start + last.len ≡ first.start + length_of_spans spans
runs-cover [] runs first last k at is_first is_last = absurd (omega arith)
runs-cover (s ∷ ss) runs first last k at is_first is_last =
    let same : s ≡ first = same_Some s first is_first in
    rw (← same) (runs-end s ss runs k (omega arith) last is_last)
