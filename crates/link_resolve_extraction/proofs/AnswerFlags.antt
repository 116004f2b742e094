-- What closed words say of a stage of a link, of whose work they are.
use Rattle.std.proofs.Common.{◌≡◌, ◌∙◌, ◌+◌, ◌<◌, ℕ, zero, suc, true, List, [], ◌∷◌, arith, refl, sym, ap, subst, cond, get_or, length, ext_get_or}
use Rattle.std.specs.Prelude.{nat_lt}
use Rattle.std.proofs.lemmas.Bool.Decides.{nat_tests}
use Rattle.std.proofs.lemmas.List.{length-map}
use Rattle.link_flags.specs.FlagWords.{numbers_of}
use Rattle.link_flags.specs.declared.value_flags.RawFlags.{RawFlags}
use Rattle.link_claim.specs.Seats.{Ending, IsSettled, claimed_in, flags_in}
use Rattle.link_closure.specs.Closure.{IsLeastClosed, is_marked}
use Rattle.link_closure.specs.Workload as work
use Rattle.link_closure.specs.declared.workload.Workload.{Workload}
use Rattle.link_rules.specs.Loading.{IsLoaded}
use Rattle.link_rules.specs.Marking.{flags_before, marked_flags}
use Rattle.link_rules.specs.Orderly.{IsOrderly}
use Rattle.link_rules.specs.Places.{each_from}
use Rattle.link_rules.specs.Selection.{selection_of}
use Rattle.link_rules.specs.Work.{workload_of}
use Rattle.link_rules.specs.World.{Stage}
use Rattle.link_rules.proofs.WorkDone.{work-marked}
use Rattle.link_rules.proofs.WorkItems.{work-loaded}
use Rattle.link_resolve_extraction.specs.Answer.{closed_flags, with_closed_flags}
use Rattle.link_resolve_extraction.specs.Planned.{opening_of}
use Rattle.link_resolve_extraction.proofs.AnswerWritten.{by-place}

-- what a function gives of each element and its place is as long
length-each : {X Y : Type 0} (f : ℕ → X → Y) (n : ℕ) (xs : List X) → length (each_from f n xs) ≡ length xs
length-each f n [] = refl
length-each f n (x ∷ xs) = ap (λ k. suc k) (length-each f (n + 1) xs)

-- what it gives at a place
each-at : (f : ℕ → ℕ → ℕ) (n i : ℕ) (xs : List ℕ) → i < length xs → get_or (each_from f n xs) i 0 ≡ f (n + i) (get_or xs i 0)
each-at f n i [] lt = absurd (omega arith)
each-at f n zero (x ∷ xs) lt =
    let same : n ≡ n + 0 = omega arith in
    ap (λ m. f m x) same
each-at f n (suc i) (x ∷ xs) lt =
    let same : n + 1 + i ≡ n + suc i = omega arith in
    each-at f (n + 1) i xs (omega arith) ∙ ap (λ m. f m (get_or xs i 0)) same

-- the claimed objects are those that are loaded, whatever flags symbols begin with
pub claimed-are : (w : Stage) (opening : List ℕ) (e : Ending) → IsOrderly w → e.view.work ≡ record (workload_of w) { opening = opening } → IsSettled e → IsLoaded w (claimed_in e)
claimed-are w opening e orderly of_stage settled =
    (work-loaded w (claimed_in e) orderly).1
    (subst (λ (k : Workload). IsLeastClosed (work.IsRoot k) (work.HasEdge k) k.files (claimed_in e)) of_stage settled.least)

module _ (w : Stage) (flags : List ℕ) (e : Ending) (orderly : IsOrderly w) (before : flags ≡ each_from (flags_before w) 0 w.symbols)
    (of_stage : e.view.work ≡ record (workload_of w) { opening = opening_of (length w.symbols) flags }) (settled : IsSettled e) where
  -- there are as many flags as symbols
  many : length flags ≡ length w.symbols
  many = ap (λ (l : List ℕ). length l) before ∙ length-each (flags_before w) 0 w.symbols

  -- the work is that of the stage
  pub work-is : e.view.work ≡ workload_of w
  work-is = of_stage ∙ ap (λ (l : List ℕ). record (workload_of w) { opening = l }) (by-place 0 flags (length w.symbols) many ∙ before)

  -- the closed flags of a symbol
  flag-is : (s : ℕ) → s < length flags → closed_flags e s (get_or flags s 0) ≡ get_or (marked_flags (selection_of w (claimed_in e))) s 0
  flag-is s lt =
      let known : length e.view.work.opening ≡ length w.symbols = ap (λ (k : Workload). length k.opening) work-is ∙ length-each (flags_before w) 0 w.symbols in
      let inside : s < length e.view.work.opening = omega (arith, lt, known, many) in
      let tells : nat_lt s (length e.view.work.opening) ≡ true = grind (arith, nat_tests) in
      ap (λ b. cond b (flags_in e s) (get_or flags s 0)) tells
      ∙ (settled.flags s inside
      ∙ (ap (λ (k : Workload). work.marked k (is_marked (claimed_in e)) s) work-is
      ∙ work-marked w (claimed_in e) s orderly (claimed-are w (opening_of (length w.symbols) flags) e orderly of_stage settled) (omega (arith, lt, many))))

  -- and those of all
  pub flags-are : with_closed_flags e flags ≡ marked_flags (selection_of w (claimed_in e))
  flags-are =
      let long = length-each (closed_flags e) 0 flags in
      ext_get_or 0 (with_closed_flags e flags) (marked_flags (selection_of w (claimed_in e))) (long ∙ (many ∙ sym (length-each _ 0 w.symbols)))
      (λ s lt.
      let inside : s < length flags = omega (arith, lt, long) in
      let same : 0 + s ≡ s = omega arith in
      each-at (closed_flags e) 0 s flags inside ∙ (ap (λ m. closed_flags e m (get_or flags s 0)) same ∙ flag-is s inside))

-- as many words as before
pub closed-length : (e : Ending) (old new : List RawFlags) → numbers_of new ≡ with_closed_flags e (numbers_of old) → length new ≡ length old
closed-length e old new is =
    sym (length-map new (λ (w : RawFlags). w.0)) ∙ (ap (λ (l : List ℕ). length l) is ∙ (length-each (closed_flags e) 0 (numbers_of old) ∙ length-map old (λ (w : RawFlags). w.0)))
