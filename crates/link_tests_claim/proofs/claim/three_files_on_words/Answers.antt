use Rattle.std.proofs.Common.{◌≡◌, ◌<◌, ⊎_elim, ℕ, Bool, true, false, [], ◌∷◌, sym, ap, ◌∙◌, subst, arith, bit_or, cond, length, get_or}
use Rattle.std.specs.Prelude.{Contains}
use Rattle.link_closure.specs.Closure.{is_marked}
use Rattle.link_closure.specs.declared.workload.Workload.{Workload}
use Rattle.link_claim.specs.declared.view.View.{View}
use Rattle.link_closure.specs.Workload.{bits_for, marked}
use Rattle.link_claim.specs.Seats.{Ending, IsSettled, claimed_in, flags_in}
use Rattle.link_claim.specs.Examples.{mark, three_files}
use Rattle.link_closure.proofs.Joins.{contains_here, contains_later, contains_cases, contains_none, either_way}
use Rattle.link_tests_claim.proofs.claim.three_files_on_words.Goals as goal

-- the flags of both symbols, by which of the files are claimed
flags_of : (x : ℕ) (holds : ℕ → Bool) → holds 0 ≡ true → holds 1 ≡ true → holds 2 ≡ false → marked three_files holds x ≡ marked three_files (is_marked (true ∷ true ∷ false ∷ [])) x
flags_of x holds h0 h1 h2 = λ i.
    bit_or (bit_or (get_or three_files.opening x 0) (bits_for x (mark 1 1 ∷ [])))
    (bit_or (cond (h0 i) (bits_for x (mark 0 2 ∷ [])) 0) (bit_or (cond (h1 i) (bits_for x []) 0) (bit_or (cond (h2 i) (bits_for x (mark 1 8 ∷ [])) 0) 0)))

module _ (e : Ending) (work : e.view.work ≡ three_files) (known : e.view.known ≡ 1 ∷ 0 ∷ []) (settled : IsSettled e) where
  claims : (f : ℕ) → Contains (1 ∷ 0 ∷ []) f → is_marked (claimed_in e) f ≡ true
  claims f has = (settled.known f).0 (subst (λ fs. Contains fs f) (sym known) has)

  claims_first : is_marked (claimed_in e) 0 ≡ true
  claims_first = claims 0 (contains_later 1 0 (0 ∷ []) (contains_here 0 []))

  claims_second : is_marked (claimed_in e) 1 ≡ true
  claims_second = claims 1 (contains_here 1 (0 ∷ []))

  claims_no_third : is_marked (claimed_in e) 2 ≡ false
  claims_no_third = ⊎_elim (λ (is : is_marked (claimed_in e) 2 ≡ true). absurd (not_known (subst (λ fs. Contains fs 2) known ((settled.known 2).1 is)))) (λ off. off) (either_way (is_marked (claimed_in e) 2))
    where
      not_known : ¬ Contains {X = ℕ} (1 ∷ 0 ∷ []) 2
      not_known has = ⊎_elim (λ (t : 1 ≡ 2). absurd (omega arith)) (λ later. ⊎_elim (λ (t : 0 ≡ 2). absurd (omega arith)) (λ none. contains_none 2 none) (contains_cases 0 2 [] later)) (contains_cases 1 2 (0 ∷ []) has)

  marks : (x : ℕ) → x < 2 → flags_in e x ≡ marked three_files (is_marked (true ∷ true ∷ false ∷ [])) x
  marks x lt = settled.flags x (subst (λ (w : Workload). x < length w.opening) (sym work) lt)
      ∙ ap (λ (w : Workload). marked w (is_marked (claimed_in e)) x) work
      ∙ flags_of x (is_marked (claimed_in e)) claims_first claims_second claims_no_third

pub returns : goal.returns
returns c =
    let e = c.close-closed.result in
    let view = c.close-closed.ensures.view in
    let work = ap (λ (v : View). v.work) view ∙ c.read_three_files.ensures.work in
    let known = ap (λ (v : View). v.known) view ∙ c.read_three_files.ensures.known in
    let settled = c.close-closed.ensures.settled c.read_three_files.ensures.read in
    let zero_th = claims_first e work known settled in
    let first = c.is_claimed.ensures ∙ zero_th in
    let second = c.is_claimed-2.ensures ∙ claims_second e work known settled in
    let third = c.is_claimed-3.ensures ∙ claims_no_third e work known settled in
    let one = c.bits.ensures tt ∙ c.flags-first.ensures ∙ ap (flags_in e) c.from_usize.ensures ∙ marks e work known settled 0 (omega arith) in
    let other = c.bits-2.ensures tt ∙ c.flags-second.ensures ∙ ap (flags_in e) c.from_usize-2.ensures ∙ marks e work known settled 1 (omega arith) in
    ((λ i. first i ∷ second i ∷ third i ∷ []), (λ i. one i ∷ other i ∷ []))
