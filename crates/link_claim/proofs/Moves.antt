-- Each step of a seat keeps the rule.
use mathlib.Core.Option.{some, none, some-injective, some-ne-none}
use lib.ListN.{get_elem?}
use Rattle.std.proofs.Common.{true≢false, ◌⊎◌, inl, inr, ⊎_elim, ne_eqb, eq-eqb, zero, ◌≡◌, ◌≢◌, ℕ, suc, ◌+◌, ◌-◌, ◌<◌, ◌≤◌, List, [], ◌∷◌, ◌++◌, Bool, true, false, sym, refl, ap, ◌∙◌, subst, arith, bit_or, length, get_or, set, replicate, length-append, cond, length-set, get_or-set_same, get_or-set_other}
use Rattle.std.specs.Prelude.{◌==◌, Contains, IsTrue, MatchBool, IsPermutation, max}
use mathlib.Core.Logic.{dite}
use native.Mathlib.Decide.{ℕ_discrete}
use Rattle.std.proofs.lemmas.List.Sorted.{IsPermutation-refl}
use Rattle.std.specs.Int.{bit_at}
use Rattle.std.specs.Int.Bits.{or_zero_r}
use Rattle.std.proofs.lemmas.Nat.{or_comm}
use Rattle.std.proofs.lemmas.Nat.Bits.{bit_at_or}
use Rattle.std.proofs.lemmas.List.{set-get_or, length-replicate, get_or_append_left, get_or-replicate, get_or-append-add}
use Rattle.std.proofs.lemmas.Bool.Decides.{nat_tests}
use Rattle.atomic_table.specs.Table.{step, keeps, stepped, Allows, Splits, Joins, opening}
use Rattle.atomic_table.proofs.Lists.{at_set, at_snoc, set_again, set_else}
use Rattle.link_closure.specs.declared.workload.Mark.{Mark}
use Rattle.link_closure.specs.declared.workload.Item.{Item}
use Rattle.link_closure.specs.declared.workload.Workload.{Workload}
use Rattle.link_claim.specs.declared.view.View.{View}
use Rattle.link_claim.specs.declared.view.Written.{Written}
use Rattle.link_closure.specs.Workload.{HasItem, Requests, Marks, IsRoot, IsSound, IsInEachClosed, bits_for, item_bits, marked, IsWithin}
use Rattle.link_claim.specs.Workload.{begin_base, flag_base, word_count, opening_words_of}
use Rattle.link_claim.specs.Rule.{Sharing, seat_at, times, times_new, total, all_bits, Counts, Fits, Holds}
use Rattle.link_claim.specs.Steps.{start}
use Rattle.link_claim.specs.Views.{Seated, with_file, with_claim, with_item, with_begin, with_mark, with_missed, with_write, fresh, joined, spent_view, first_view, MayRequest, MayBegin, MayMark, saw_claim, took_claim, checked, took_begin, told_work, Shows, read_flags, saw_mark, wrote_mark}
use Rattle.link_closure.proofs.Joins.{or_assoc, within_trans, within_left, within_right, within_both, bits_has, bits_within, item_has, contains_none, contains_left, contains_right, contains_append, contains_here, contains_later, contains_cases, either_way}
use Rattle.link_claim.proofs.Runs.{run_new, run_joined, run_still, run_claim, run_begin, run_mark}
use Rattle.link_claim.proofs.Kept.{same_item, item_index, bits_other, unmarked}
use Rattle.link_claim.proofs.Views.{times_some, total_set, total_same, times_new_append, total_some, all_bits_has, all_bits_within, all_bits_snoc, all_bits_joined, total_snoc, total_joined, times_append, all_bits_set, all_bits_same, counts_same, counts_won, grows_one, grows_above, fits_grown, fits_set}

-- the test for 0
zero_test : (n : ℕ) → (n == 0) ≡ true → n ≡ 0
zero_test n e = grind (arith, nat_tests)

-- the test for equality
eq_of_test : (a b : ℕ) → (a == b) ≡ true → a ≡ b
eq_of_test a b e = grind (arith, nat_tests)

-- a word that is 0 or 1 and not 0 is 1
not_zero : (n : ℕ) → (n == 0) ≡ false → n ≤ 1 → n ≡ 1
not_zero n e h = grind (arith, nat_tests)

-- what a bit gains where it is joined with another
gain : (p q : ℕ) → max p q ≡ p + (q - p)
gain p q = omega arith

-- what a word's bit gains where the word is joined with more
bit_gain : (n b k : ℕ) → bit_at (bit_or n b) k ≡ bit_at n k + (bit_at b k - bit_at n k)
bit_gain n b k = bit_at_or n b k ∙ gain (bit_at n k) (bit_at b k)

-- a rule over the work that the seat's view names
pub as_named : (w : Workload) (slots id : ℕ) (me : Seated) (j : ℕ) (f : ℕ → ℕ) (then : ℕ → Seated → Type 0) → IsTrue me.0.live → Allows (Holds me.0.work) slots id me j f then → Allows (Holds w) slots id me j f then
as_named w slots id me j f then live ok s h len at small =
    let same = (h.views id me.0 at).same live in
    let r = ok s (subst (λ z. Holds z s) (sym same) h) len at small in
    (r.0, r.1, r.2, subst (λ z. Holds z (stepped s j (f (get_or s.words j 0)) id me.1 r.0 r.1)) same r.3, r.4)

module _ (w : Workload) (s : Sharing) (h : Holds w s) (id : ℕ) (me : Seated) (at : get_elem? s.views id ≡ some me.0) (live_is : IsTrue me.0.live) where
  -- the rule after the word j became n and the seat has the view u
  abbrev After : ℕ → ℕ → View → Type 0
  After j n u = Holds w (stepped s j n id me.1 u keeps)

  -- as many writes found a bit missing, where the view's do
  same_writes : (u : View) (x k : ℕ) → times_new x k u.writes ≡ times_new x k me.0.writes → bit_at (get_or w.opening x 0) k + total (λ v. times_new x k v.writes) s.views ≡ bit_at (get_or w.opening x 0) k + total (λ v. times_new x k v.writes) (set s.views id u)
  same_writes u x k e = ap (λ n. bit_at (get_or w.opening x 0) k + n) (sym (total_same (λ v. times_new x k v.writes) s.views id me.0 u at e))

  -- the word stays, and so do the lists of what was done
  looked : (j : ℕ) (u : View) → Fits w s.words u → u.claims ≡ me.0.claims → u.begins ≡ me.0.begins → u.marks ≡ me.0.marks → u.writes ≡ me.0.writes → u.live ≡ me.0.live → After j (get_or s.words j 0) u
  looked j u fit claims begins marks writes live =
      let same = set-get_or s.words j 0 in
      let P : List ℕ → Type 0 = λ ws. Holds w (record { words = ws; homes = s.homes; views = set s.views id u }) in
      let claimed : Counts 1 w.files (λ v. v.claims) s.words (set s.views id u) = λ k lt. subst (λ ws. (get_or ws (1 + k) 0 ≡ total (λ v. times k v.claims) (set s.views id u)) × (get_or ws (1 + k) 0 ≤ 1)) (set-get_or s.words 0 0)
      (counts_same 1 w.files (λ v. v.claims) s.words s.views h.claims id me.0 u at 0 (get_or s.words 0 0) claims (λ k lt e. omega arith) k lt) in
      let begun : Counts (begin_base w) (length w.items) (λ v. v.begins) s.words (set s.views id u) = λ k lt. subst (λ ws. (get_or ws (begin_base w + k) 0 ≡ total (λ v. times k v.begins) (set s.views id u)) × (get_or ws (begin_base w + k) 0 ≤ 1)) (set-get_or s.words 0 0)
      (counts_same (begin_base w) (length w.items) (λ v. v.begins) s.words s.views h.begins id me.0 u at 0 (get_or s.words 0 0) begins (λ k lt e. omega arith) k lt) in
      subst P (sym same) (record {
        sound = h.sound;
        ran = run_still w h.sound s.words s.views h.ran id me.0 u at live_is live claims begins marks;
        wide = h.wide;
        spare = h.spare;
        views = fits_set w s.words s.views id u h.views fit;
        claims = claimed;
        begins = begun;
        flags = λ x lt. h.flags x lt ∙ ap (bit_or (get_or w.opening x 0)) (sym (all_bits_same x s.views id me.0 u at marks));
        writes = λ x k lt. h.writes x k lt ∙ same_writes u x k (ap (times_new x k) writes);
      })

  -- a step that changes neither word nor view keeps the rule
  idle : (j : ℕ) → After j (get_or s.words j 0) me.0
  idle j = looked j me.0 (h.views id me.0 at) refl refl refl refl refl

  -- ---- claims

  -- a claim word that is not 0 is 1
  one_of_claims : (f : ℕ) → f < w.files → (get_or s.words (1 + f) 0 == 0) ≡ false → get_or s.words (1 + f) 0 ≡ 1
  one_of_claims f lt full = not_zero _ full (h.claims f lt).1

  -- a file that the seat may request is one of the files, and in every closed set
  pub requested : me.0.work ≡ w → IsSound w → (f : ℕ) → MayRequest me.0 f → (f < w.files) × IsInEachClosed w f
  requested same sound f may = let fit = h.views id me.0 at in ⊎_elim
      (λ (root : IsRoot me.0.work f). let r = subst (λ (z : Workload). IsRoot z f) same root in (sound.roots f r, λ p closed. closed.0 f r))
      (λ (t : (i : ℕ) × Contains me.0.known_items i × Requests me.0.work i f).
      let r = subst (λ (z : Workload). Requests z t.0 f) same t.2 in (
        sound.requests t.0 f r,
        λ p closed.
            let it = (fit.items t.0 t.1).1.0 in
            let has = (fit.items t.0 t.1).1.1 in
            let it_is : it ≡ r.0 = same_item w.items t.0 it r.0 has r.1 in
            closed.1 r.0.file f (subst (λ (z : Item). p z.file ≡ true) it_is ((fit.known it.file (fit.items t.0 t.1).1.2).2 p closed)) (t.0, r.0, r.1, refl, r.2),
      ))
      may

  -- a view still fits with one more known file
  knows_file : (words : List ℕ) → Fits w words me.0 → (f : ℕ) → f < w.files → get_or words (1 + f) 0 ≡ 1 → IsInEachClosed w f → Fits w words (with_file f me.0)
  knows_file words fit f lt one needed = record {
    same = fit.same;
    spent = λ off. absurd (true≢false (sym live_is ∙ off));
    known = λ g has. ⊎_elim (λ (e : f ≡ g). subst (λ k. (k < w.files) × (get_or words (1 + k) 0 ≡ 1) × IsInEachClosed w k) e (lt, one, needed)) (λ later. fit.known g later) (contains_cases f g me.0.known has);
    claims = λ g has. contains_later f g me.0.known (fit.claims g has);
    items = λ i has. let r = fit.items i has in (r.0, (r.1.0, r.1.1, contains_later f _ me.0.known r.1.2));
    begins = fit.begins;
    marks = fit.marks;
    missed = fit.missed;
    writes = fit.writes;
  }

  -- a known file may be listed as claimed
  claims_file : (words : List ℕ) → Fits w words me.0 → (f : ℕ) → f < w.files → get_or words (1 + f) 0 ≡ 1 → IsInEachClosed w f → Fits w words (with_claim f me.0)
  claims_file words fit f lt one needed = let k = knows_file words fit f lt one needed in record {
    same = k.same;
    spent = λ off. absurd (true≢false (sym live_is ∙ off));
    known = k.known;
    claims = λ g has. ⊎_elim (λ (e : f ≡ g). subst (Contains (f ∷ me.0.known)) e (contains_here f me.0.known)) (λ later. contains_later f g me.0.known (fit.claims g later)) (contains_cases f g me.0.claims has);
    items = k.items;
    begins = k.begins;
    marks = k.marks;
    missed = fit.missed;
    writes = fit.writes;
  }

  -- a request that the seat may make is legal for the core
  may_words : me.0.work ≡ w → (f : ℕ) → MayRequest me.0 f → IsRoot w f ⊎ ((i : ℕ) × (get_or s.words (begin_base w + i) 0 ≡ 1) × Requests w i f)
  may_words same f may = ⊎_elim
      (λ (root : IsRoot me.0.work f). inl (subst (λ (z : Workload). IsRoot z f) same root))
      (λ (t : (i : ℕ) × Contains me.0.known_items i × Requests me.0.work i f). inr (t.0, ((h.views id me.0 at).items t.0 t.1).0, subst (λ (z : Workload). Requests z t.0 f) same t.2))
      may

  -- the word of the file f goes from 0 to 1
  pub won_claim : me.0.work ≡ w → (f : ℕ) → MayRequest me.0 f → f < w.files → IsInEachClosed w f → get_or s.words (1 + f) 0 ≡ 0 → After (1 + f) 1 (with_claim f me.0)
  won_claim same f may lt needed free =
      let wide = h.wide in
      let within : 1 + f < length s.words = omega arith in
      let grows = grows_one (flag_base w) s.words (1 + f) within in
      let now : get_or (set s.words (1 + f) 1) (1 + f) 0 ≡ 1 = get_or-set_same s.words (1 + f) 1 0 within in
      let claims = counts_won 1 w.files (λ v. v.claims) s.words s.views h.claims id me.0 (with_claim f me.0) at f refl within free in
      let begins = counts_same (begin_base w) (length w.items) (λ v. v.begins) s.words s.views h.begins id me.0 (with_claim f me.0) at (1 + f) 1 refl (λ k lt' e. omega arith) in
      record {
        sound = h.sound;
        ran = run_claim w h.sound s.words s.views h.ran id me.0 (with_claim f me.0) at live_is refl f lt within free (may_words same f may) refl refl refl;
        wide = length-set s.words (1 + f) 1 ∙ h.wide;
        spare = get_or-set_other s.words (1 + f) 0 1 0 (λ e. omega arith) ∙ h.spare;
        views = fits_set w (set s.words (1 + f) 1) s.views id (with_claim f me.0) (λ j u is. fits_grown w s.words (set s.words (1 + f) 1) u (h.views j u is) grows)
            (claims_file (set s.words (1 + f) 1) (fits_grown w s.words (set s.words (1 + f) 1) me.0 (h.views id me.0 at) grows) f lt now needed);
        claims = claims;
        begins = begins;
        flags = λ x x_lt. get_or-set_other s.words (1 + f) (flag_base w + x) 1 0 (λ e. omega arith) ∙ h.flags x x_lt ∙ ap (bit_or (get_or w.opening x 0)) (sym (all_bits_same x s.views id me.0 (with_claim f me.0) at refl));
        writes = λ x k x_lt. ap (λ n. bit_at n k) (get_or-set_other s.words (1 + f) (flag_base w + x) 1 0 (λ e. omega arith)) ∙ h.writes x k x_lt ∙ same_writes (with_claim f me.0) x k refl;
      }

  -- ---- begins

  -- a view still fits with one more known item
  knows_item : (words : List ℕ) → Fits w words me.0 → (i : ℕ) (it : Item) → HasItem w i it → Contains me.0.known it.file → get_or words (begin_base w + i) 0 ≡ 1 → Fits w words (with_item i me.0)
  knows_item words fit i it has known one = record {
    same = fit.same;
    spent = λ off. absurd (true≢false (sym live_is ∙ off));
    known = fit.known;
    claims = fit.claims;
    items = λ j in_list. ⊎_elim (λ (e : i ≡ j). subst (λ k. (get_or words (begin_base w + k) 0 ≡ 1) × ((t : Item) × HasItem w k t × Contains me.0.known t.file)) e (one, (it, has, known))) (λ later. fit.items j later) (contains_cases i j me.0.known_items in_list);
    begins = λ j done. contains_later i j me.0.known_items (fit.begins j done);
    marks = λ m listed. ⊎_elim (λ root. inl root) (λ (t : (j : ℕ) × Contains me.0.known_items j × Marks w j m). inr (t.0, contains_later i t.0 me.0.known_items t.1, t.2)) (fit.marks m listed);
    missed = fit.missed;
    writes = fit.writes;
  }

  -- a known item may be listed as begun
  begins_item : (words : List ℕ) → Fits w words me.0 → (i : ℕ) (it : Item) → HasItem w i it → Contains me.0.known it.file → get_or words (begin_base w + i) 0 ≡ 1 → Fits w words (with_begin i me.0)
  begins_item words fit i it has known one = let k = knows_item words fit i it has known one in record {
    same = k.same;
    spent = λ off. absurd (true≢false (sym live_is ∙ off));
    known = k.known;
    claims = k.claims;
    items = k.items;
    begins = λ j done. ⊎_elim (λ (e : i ≡ j). subst (Contains (i ∷ me.0.known_items)) e (contains_here i me.0.known_items)) (λ later. contains_later i j me.0.known_items (fit.begins j later)) (contains_cases i j me.0.begins done);
    marks = k.marks;
    missed = fit.missed;
    writes = fit.writes;
  }

  -- the word of the item i goes from 0 to 1
  pub won_begin : (i : ℕ) (it : Item) → HasItem w i it → Contains me.0.known it.file → get_or s.words (begin_base w + i) 0 ≡ 0 → After (begin_base w + i) 1 (with_begin i me.0)
  won_begin i it has known free =
      let wide = h.wide in
      let lt = item_index w.items i it has in
      let within : begin_base w + i < length s.words = omega arith in
      let grows = grows_one (flag_base w) s.words (begin_base w + i) within in
      let now : get_or (set s.words (begin_base w + i) 1) (begin_base w + i) 0 ≡ 1 = get_or-set_same s.words (begin_base w + i) 1 0 within in
      let claims = counts_same 1 w.files (λ v. v.claims) s.words s.views h.claims id me.0 (with_begin i me.0) at (begin_base w + i) 1 refl (λ k lt' e. omega arith) in
      let begins = counts_won (begin_base w) (length w.items) (λ v. v.begins) s.words s.views h.begins id me.0 (with_begin i me.0) at i refl within free in
      record {
        sound = h.sound;
        ran = run_begin w h.sound s.words s.views h.ran id me.0 (with_begin i me.0) at live_is refl i it has within free ((h.views id me.0 at).known it.file known).1 refl refl refl;
        wide = length-set s.words (begin_base w + i) 1 ∙ h.wide;
        spare = get_or-set_other s.words (begin_base w + i) 0 1 0 (λ e. omega arith) ∙ h.spare;
        views = fits_set w (set s.words (begin_base w + i) 1) s.views id (with_begin i me.0) (λ j u is. fits_grown w s.words (set s.words (begin_base w + i) 1) u (h.views j u is) grows)
            (begins_item (set s.words (begin_base w + i) 1) (fits_grown w s.words (set s.words (begin_base w + i) 1) me.0 (h.views id me.0 at) grows) i it has known now);
        claims = claims;
        begins = begins;
        flags = λ x x_lt. get_or-set_other s.words (begin_base w + i) (flag_base w + x) 1 0 (λ e. omega arith) ∙ h.flags x x_lt ∙ ap (bit_or (get_or w.opening x 0)) (sym (all_bits_same x s.views id me.0 (with_begin i me.0) at refl));
        writes = λ x k x_lt. ap (λ n. bit_at n k) (get_or-set_other s.words (begin_base w + i) (flag_base w + x) 1 0 (λ e. omega arith)) ∙ h.writes x k x_lt ∙ same_writes (with_begin i me.0) x k refl;
      }

  -- ---- marks

  -- a mark that the seat may make, over the work of the rule
  named : me.0.work ≡ w → (m : Mark) → MayMark me.0 m → Contains w.root_marks m ⊎ ((i : ℕ) × Contains me.0.known_items i × Marks w i m)
  named same m may = subst (λ (z : Workload). Contains z.root_marks m ⊎ ((i : ℕ) × Contains me.0.known_items i × Marks z i m)) same may

  -- a view still fits with one more listed mark
  lists_mark : (words : List ℕ) → Fits w words me.0 → (m : Mark) → Contains w.root_marks m ⊎ ((i : ℕ) × Contains me.0.known_items i × Marks w i m) → Fits w words (with_mark m me.0)
  lists_mark words fit m asked = record {
    same = fit.same;
    spent = λ off. absurd (true≢false (sym live_is ∙ off));
    known = fit.known;
    claims = fit.claims;
    items = fit.items;
    begins = fit.begins;
    marks = λ k listed. ⊎_elim (λ (e : m ≡ k). subst (λ (z : Mark). Contains w.root_marks z ⊎ ((i : ℕ) × Contains me.0.known_items i × Marks w i z)) e asked) (λ later. fit.marks k later) (contains_cases m k me.0.marks listed);
    missed = fit.missed;
    writes = λ j has. contains_later m j.mark me.0.marks (fit.writes j has);
  }

  -- a view still fits with one more missed mark
  misses_mark : (m : Mark) → ¬ IsWithin m.bits (get_or w.opening m.symbol 0) → Fits w s.words (with_missed m me.0)
  misses_mark m away = let fit = h.views id me.0 at in record {
    same = fit.same;
    spent = λ off. absurd (true≢false (sym live_is ∙ off));
    known = fit.known;
    claims = fit.claims;
    items = fit.items;
    begins = fit.begins;
    marks = fit.marks;
    missed = λ k has. ⊎_elim (λ (e : m ≡ k). subst (λ (z : Mark). ¬ IsWithin z.bits (get_or w.opening z.symbol 0)) e away) (λ later. fit.missed k later) (contains_cases m k me.0.missed has);
    writes = fit.writes;
  }

  -- a listed mark may be listed as written
  writes_mark : (words : List ℕ) (m : Mark) (n : ℕ) → Fits w words (with_mark m me.0) → Fits w words (with_write m n me.0)
  writes_mark words m n fit = record {
    same = fit.same;
    spent = λ off. absurd (true≢false (sym live_is ∙ off));
    known = fit.known;
    claims = fit.claims;
    items = fit.items;
    begins = fit.begins;
    marks = fit.marks;
    missed = fit.missed;
    writes = λ j has. ⊎_elim (λ (e : record { mark = m; found = n } ≡ j). subst (λ (z : Written). Contains (m ∷ me.0.marks) z.mark) e (contains_here m me.0.marks)) (λ later. fit.writes j later) (contains_cases (record { mark = m; found = n }) j me.0.writes has);
  }

  -- the flag words once the word of the symbol x is n
  word_now : (x n : ℕ) → x < length w.opening → (y : ℕ) → ((y ≡ x) × (get_or (set s.words (flag_base w + x) n) (flag_base w + y) 0 ≡ n)) ⊎ ((y ≢ x) × (get_or (set s.words (flag_base w + x) n) (flag_base w + y) 0 ≡ get_or s.words (flag_base w + y) 0))
  word_now x n lt y =
      let wide = h.wide in
      let j : ℕ = flag_base w + x in
      let within : j < length s.words = omega arith in
      dite (ℕ_discrete y x)
      (λ (e : y ≡ x). inl (e, subst (λ k. get_or (set s.words j n) (flag_base w + k) 0 ≡ n) (sym e) (get_or-set_same s.words j n 0 within)))
      (λ (ne : y ≢ x). inr (ne, get_or-set_other s.words j (flag_base w + y) n 0 (λ e. ne (omega arith))))

  -- the bits are joined to the word of the symbol x, and the view lists the mark
  marked_as : (x b : ℕ) → x < length w.opening → Contains w.root_marks (record { symbol = x; bits = b }) ⊎ ((i : ℕ) × Contains me.0.known_items i × Marks w i (record { symbol = x; bits = b })) → (u : View)
      → Fits w (set s.words (flag_base w + x) (bit_or (get_or s.words (flag_base w + x) 0) b)) u → u.live ≡ me.0.live → u.claims ≡ me.0.claims → u.begins ≡ me.0.begins → u.marks ≡ record { symbol = x; bits = b } ∷ me.0.marks
      → ((y k : ℕ) → bit_at (get_or (set s.words (flag_base w + x) (bit_or (get_or s.words (flag_base w + x) 0) b)) (flag_base w + y) 0) k + times_new y k me.0.writes ≡ bit_at (get_or s.words (flag_base w + y) 0) k + times_new y k u.writes)
      → After (flag_base w + x) (bit_or (get_or s.words (flag_base w + x) 0) b) u
  marked_as x b lt asked u fit live_same claims_are begins_are marks_are gains =
      let m : Mark = record { symbol = x; bits = b } in
      let j : ℕ = flag_base w + x in
      let n : ℕ = bit_or (get_or s.words j 0) b in
      let wide = h.wide in
      let within : j < length s.words = omega arith in
      let grows = grows_above (flag_base w) s.words j n (omega arith) in
      let claims = counts_same 1 w.files (λ v. v.claims) s.words s.views h.claims id me.0 u at j n claims_are (λ k lt' e. omega arith) in
      let begins = counts_same (begin_base w) (length w.items) (λ v. v.begins) s.words s.views h.begins id me.0 u at j n begins_are (λ k lt' e. omega arith) in
      let more : (y : ℕ) → bits_for y u.marks ≡ bit_or (cond (x == y) b 0) (bits_for y me.0.marks) = λ y. ap (bits_for y) marks_are in
      record {
        sound = h.sound;
        ran = run_mark w h.sound s.words s.views h.ran id me.0 u at live_is live_same m lt within
            (⊎_elim (λ root. inl root) (λ (t : (i : ℕ) × Contains me.0.known_items i × Marks w i m). inr (t.0, ((h.views id me.0 at).items t.0 t.1).0, t.2)) asked) n refl claims_are begins_are marks_are;
        wide = length-set s.words j n ∙ h.wide;
        spare = get_or-set_other s.words j 0 n 0 (λ e. omega arith) ∙ h.spare;
        views = fits_set w (set s.words j n) s.views id u (λ k z is. fits_grown w s.words (set s.words j n) z (h.views k z is) grows) fit;
        claims = claims;
        begins = begins;
        flags = λ y y_lt. let o : ℕ = get_or w.opening y 0 in ⊎_elim
            (λ (t : (y ≡ x) × (get_or (set s.words j n) (flag_base w + y) 0 ≡ n)).
            let here : bits_for y u.marks ≡ bit_or (bits_for y me.0.marks) b = more y ∙ ap (λ z. bit_or (cond z b 0) (bits_for y me.0.marks)) (eq-eqb x y (sym t.0)) ∙ or_comm b (bits_for y me.0.marks) in
            let before : n ≡ bit_or (get_or s.words (flag_base w + y) 0) b = ap (λ k. bit_or (get_or s.words (flag_base w + k) 0) b) (sym t.0) in
            t.1 ∙ before ∙ ap (λ k. bit_or k b) (h.flags y y_lt) ∙ or_assoc o (all_bits y s.views) b ∙ ap (bit_or o) (sym (all_bits_set y b s.views id me.0 u at here)))
            (λ (t : (y ≢ x) × (get_or (set s.words j n) (flag_base w + y) 0 ≡ get_or s.words (flag_base w + y) 0)).
            let here : bits_for y u.marks ≡ bit_or (bits_for y me.0.marks) 0 = more y ∙ bits_other y m me.0.marks t.0 ∙ sym (or_zero_r (bits_for y me.0.marks)) in
            t.1 ∙ h.flags y y_lt ∙ ap (bit_or o) (sym (all_bits_set y 0 s.views id me.0 u at here ∙ or_zero_r (all_bits y s.views))))
            (word_now x n lt y);
        writes = λ y k y_lt. let was = h.writes y k y_lt in let gained = gains y k in let sum = total_set (λ v. times_new y k v.writes) s.views id me.0 u at in omega arith;
      }

  -- the bits are written to the word of the symbol x
  pub won_mark : (x b : ℕ) → x < length w.opening → Contains w.root_marks (record { symbol = x; bits = b }) ⊎ ((i : ℕ) × Contains me.0.known_items i × Marks w i (record { symbol = x; bits = b }))
      → After (flag_base w + x) (bit_or (get_or s.words (flag_base w + x) 0) b) (with_write (record { symbol = x; bits = b }) (get_or s.words (flag_base w + x) 0) me.0)
  won_mark x b lt asked =
      let m : Mark = record { symbol = x; bits = b } in
      let j : ℕ = flag_base w + x in
      let found : ℕ = get_or s.words j 0 in
      let n : ℕ = bit_or found b in
      let grows = grows_above (flag_base w) s.words j n (omega arith) in
      let fit = writes_mark (set s.words j n) m found (lists_mark (set s.words j n) (fits_grown w s.words (set s.words j n) me.0 (h.views id me.0 at) grows) m asked) in
      marked_as x b lt asked (with_write m found me.0) fit refl refl refl refl (λ y k. ⊎_elim
      (λ (t : (y ≡ x) × (get_or (set s.words j n) (flag_base w + y) 0 ≡ n)).
      let same : get_or s.words (flag_base w + y) 0 ≡ found = ap (λ z. get_or s.words (flag_base w + z) 0) t.0 in
      let now : bit_at (get_or (set s.words j n) (flag_base w + y) 0) k ≡ bit_at (get_or s.words (flag_base w + y) 0) k + (bit_at b k - bit_at found k) =
      ap (λ z. bit_at z k) t.1 ∙ bit_gain found b k ∙ ap (λ z. bit_at z k + (bit_at b k - bit_at found k)) (sym same) in
      let here : cond {A = ℕ} (x == y) (bit_at b k - bit_at found k) 0 ≡ bit_at b k - bit_at found k = ap (λ z. cond {A = ℕ} z (bit_at b k - bit_at found k) 0) (eq-eqb x y (sym t.0)) in
      sums _ _ _ _ _ now here)
      (λ (t : (y ≢ x) × (get_or (set s.words j n) (flag_base w + y) 0 ≡ get_or s.words (flag_base w + y) 0)).
      let none : cond {A = ℕ} (x == y) (bit_at b k - bit_at found k) 0 ≡ 0 = ap (λ z. cond {A = ℕ} z (bit_at b k - bit_at found k) 0) (ne_eqb x y (λ e. t.0 (sym e))) in
      sums _ _ 0 _ _ (ap (λ z. bit_at z k) t.1 ∙ omega arith) none)
      (word_now x n lt y))
    where
      sums : (now before more rest counted : ℕ) → now ≡ before + more → counted ≡ more → now + rest ≡ before + (counted + rest)
      sums now before more rest counted a b = omega arith

  -- the bits were there already
  had_mark : (x b : ℕ) → x < length w.opening → bit_or (get_or s.words (flag_base w + x) 0) b ≡ get_or s.words (flag_base w + x) 0
      → Contains w.root_marks (record { symbol = x; bits = b }) ⊎ ((i : ℕ) × Contains me.0.known_items i × Marks w i (record { symbol = x; bits = b }))
      → After (flag_base w + x) (get_or s.words (flag_base w + x) 0) (with_mark (record { symbol = x; bits = b }) me.0)
  had_mark x b lt same asked =
      let m : Mark = record { symbol = x; bits = b } in
      let j : ℕ = flag_base w + x in
      let n : ℕ = bit_or (get_or s.words j 0) b in
      let grows = grows_above (flag_base w) s.words j n (omega arith) in
      let fit = lists_mark (set s.words j n) (fits_grown w s.words (set s.words j n) me.0 (h.views id me.0 at) grows) m asked in
      subst (λ k. After j k (with_mark m me.0)) same (marked_as x b lt asked (with_mark m me.0) fit refl refl refl refl (λ y k. ap (λ z. bit_at z k + times_new y k me.0.writes) (⊎_elim
      (λ (t : (y ≡ x) × (get_or (set s.words j n) (flag_base w + y) 0 ≡ n)). t.1 ∙ same ∙ ap (λ z. get_or s.words (flag_base w + z) 0) (sym t.0))
      (λ (t : (y ≢ x) × (get_or (set s.words j n) (flag_base w + y) 0 ≡ get_or s.words (flag_base w + y) 0)). t.1)
      (word_now x n lt y))))

  -- what a flag word shows
  pub shown : me.0.work ≡ w → (x : ℕ) → x < length w.opening → Shows me.0 x (get_or s.words (flag_base w + x) 0)
  shown same x lt =
      let n : ℕ = get_or s.words (flag_base w + x) 0 in
      let o : ℕ = get_or w.opening x 0 in
      let is : n ≡ bit_or o (all_bits x s.views) = h.flags x lt in
      let every : ℕ → Bool = λ f. true in
      let top : IsWithin (all_bits x s.views) (marked w every x) = all_bits_within x s.views (marked w every x) (λ j v e. bits_within x v.marks (marked w every x) (λ m has sym_is.
      ⊎_elim
      (λ (root : Contains w.root_marks m). within_trans (bits_has x w.root_marks m root sym_is) (within_trans (within_right o (bits_for x w.root_marks)) (within_left (bit_or o (bits_for x w.root_marks)) (item_bits every x w.items))))
      (λ (t : (i : ℕ) × Contains v.known_items i × Marks w i m).
      within_trans (bits_has x t.2.0.marks m t.2.2 sym_is) (within_trans (item_has every x w.items t.0 t.2.0 t.2.1 refl) (within_right (bit_or o (bits_for x w.root_marks)) (item_bits every x w.items))))
      ((h.views j v e).marks m has))) in
      record {
        opening = subst (λ (z : Workload). IsWithin (get_or z.opening x 0) n) (sym same) (subst (IsWithin o) (sym is) (within_left o (all_bits x s.views)));
        listed = subst (IsWithin (bits_for x me.0.marks)) (sym is) (within_trans (all_bits_has x s.views id me.0 at) (within_right o (all_bits x s.views)));
        most = subst (λ (z : Workload). IsWithin n (marked z every x)) (sym same) (subst (λ k. IsWithin k (marked w every x)) (sym is)
            (within_both (within_trans (within_left o (bits_for x w.root_marks)) (within_left (bit_or o (bits_for x w.root_marks)) (item_bits every x w.items))) top));
      }

-- ---- what the steps owe

-- the file of a claim word
less_one : (f : ℕ) → (1 + f) - 1 ≡ f
less_one f = omega arith

-- the first case of a choice
match_true : (b : Bool) (P Q : Type 0) → b ≡ true → P → MatchBool b P Q
match_true b P Q e p = subst (λ c. MatchBool c P Q) (sym e) p

-- its second case
match_false : (b : Bool) (P Q : Type 0) → b ≡ false → Q → MatchBool b P Q
match_false b P Q e q = subst (λ c. MatchBool c P Q) (sym e) q

-- what a load of the spare word owes
pub tells_work : (w : Workload) (slots id : ℕ) (me : Seated) → IsTrue me.0.live → Allows (Holds w) slots id me 0 (λ n. n) (told_work w (step slots 0 0 0 none) me)
tells_work w slots id me live s h len at small = (me.0, keeps, tt, idle w s h id me at live 0, (refl, (h.views id me.0 at).same live))

-- what the load of a request owes
pub sees_claim : (w : Workload) (slots id : ℕ) (me : Seated) (f : ℕ) → IsTrue me.0.live → IsSound me.0.work → MayRequest me.0 f → Allows (Holds w) slots id me (1 + f) (λ n. n) (saw_claim (step slots (1 + f) 0 0 none) me)
sees_claim w slots id me f live sound may = as_named w slots id me (1 + f) (λ n. n) (saw_claim (step slots (1 + f) 0 0 none) me) live (λ s h len at small.
    let v = me.0 in
    let n : ℕ = get_or s.words (1 + f) 0 in
    let as_f : with_file ((1 + f) - 1) v ≡ with_file f v = ap (λ k. with_file k v) (less_one f) in
    let asked = requested v.work s h id me at live refl sound f may in
    ⊎_elim
    (λ (free : (n == 0) ≡ true). (v, keeps, tt, idle v.work s h id me at live (1 + f), match_true (n == 0) _ _ free refl))
    (λ (full : (n == 0) ≡ false). (
      with_file f v,
      keeps,
      tt,
      looked v.work s h id me at live (1 + f) (with_file f v) (knows_file v.work s h id me at live s.words (h.views id v at) f asked.0 (one_of_claims v.work s h id me at live f asked.0 full) asked.1) refl refl refl refl refl,
      match_false (n == 0) _ _ full (ap (λ (z : View). (z, me.1)) (sym as_f)),
    ))
    (either_way (n == 0)))

-- what its swap owes
pub takes_claim : (w : Workload) (slots id : ℕ) (me : Seated) (f : ℕ) → IsTrue me.0.live → IsSound me.0.work → MayRequest me.0 f → Allows (Holds w) slots id me (1 + f) (λ n. 1) (took_claim (step slots (1 + f) 1 0 none) me)
takes_claim w slots id me f live sound may = as_named w slots id me (1 + f) (λ n. 1) (took_claim (step slots (1 + f) 1 0 none) me) live (λ s h len at small.
    let v = me.0 in
    let n : ℕ = get_or s.words (1 + f) 0 in
    let P : ℕ → View → Type 0 = λ k u. Holds v.work (stepped s (1 + f) k id me.1 u keeps) in
    let asked = requested v.work s h id me at live refl sound f may in
    ⊎_elim
    (λ (free : (n == 0) ≡ true). (
      with_claim f v,
      keeps,
      tt,
      won_claim v.work s h id me at live refl f may asked.0 asked.1 (zero_test n free),
      match_true (n == 0) _ _ free (ap (λ k. (with_claim k v, me.1)) (sym (less_one f))),
    ))
    (λ (full : (n == 0) ≡ false).
    let one = one_of_claims v.work s h id me at live f asked.0 full in (
      with_file f v,
      keeps,
      tt,
      subst (λ k. P k (with_file f v)) one
          (looked v.work s h id me at live (1 + f) (with_file f v) (knows_file v.work s h id me at live s.words (h.views id v at) f asked.0 one asked.1) refl refl refl refl refl),
      match_false (n == 0) _ _ full (ap (λ k. (with_file k v, me.1)) (sym (less_one f))),
    ))
    (either_way (n == 0)))

-- what the swap of a begin owes
pub takes_begin : (w : Workload) (slots id : ℕ) (me : Seated) (i : ℕ) → IsTrue me.0.live → MayBegin me.0 i → Allows (Holds w) slots id me (begin_base me.0.work + i) (λ n. 1) (took_begin (step slots (begin_base me.0.work + i) 1 0 none) me)
takes_begin w slots id me i live may = as_named w slots id me (begin_base me.0.work + i) (λ n. 1) (took_begin (step slots (begin_base me.0.work + i) 1 0 none) me) live (λ s h len at small.
    let v = me.0 in
    let j : ℕ = begin_base v.work + i in
    let n : ℕ = get_or s.words j 0 in
    let back : j - begin_base v.work ≡ i = omega arith in
    let P : ℕ → View → Type 0 = λ k u. Holds v.work (stepped s j k id me.1 u keeps) in
    let lt = item_index v.work.items i may.0 may.1 in
    ⊎_elim
    (λ (free : (n == 0) ≡ true). (
      with_begin i v,
      keeps,
      tt,
      won_begin v.work s h id me at live i may.0 may.1 may.2 (zero_test n free),
      match_true (n == 0) _ _ free (ap (λ k. (with_begin k v, me.1)) (sym back)),
    ))
    (λ (full : (n == 0) ≡ false).
    let one = not_zero n full (h.begins i lt).1 in (
      with_item i v,
      keeps,
      tt,
      subst (λ k. P k (with_item i v)) one
          (looked v.work s h id me at live j (with_item i v) (knows_item v.work s h id me at live s.words (h.views id v at) i may.0 may.1 may.2 one) refl refl refl refl refl),
      match_false (n == 0) _ _ full (ap (λ k. (with_item k v, me.1)) (sym back)),
    ))
    (either_way (n == 0)))

-- what a load of a flag word owes
pub reads : (w : Workload) (slots id : ℕ) (me : Seated) (x : ℕ) → IsTrue me.0.live → x < length me.0.work.opening → Allows (Holds w) slots id me (flag_base me.0.work + x) (λ n. n) (read_flags (step slots (flag_base me.0.work + x) 0 0 none) me)
reads w slots id me x live lt = as_named w slots id me (flag_base me.0.work + x) (λ n. n) (read_flags (step slots (flag_base me.0.work + x) 0 0 none) me) live (λ s h len at small.
    let v = me.0 in
    let j : ℕ = flag_base v.work + x in
    let back : j - flag_base v.work ≡ x = omega arith in
    (v, keeps, tt, idle v.work s h id me at live j, (refl, subst (λ k. Shows v k (get_or s.words j 0)) (sym back) (shown v.work s h id me at live refl x lt))))

-- what a load that lists a mark owes
pub sees_mark : (w : Workload) (slots id : ℕ) (me : Seated) (x b : ℕ) → IsTrue me.0.live → x < length me.0.work.opening → MayMark me.0 (record { symbol = x; bits = b })
    → Allows (Holds w) slots id me (flag_base me.0.work + x) (λ n. n) (saw_mark b (step slots (flag_base me.0.work + x) 0 0 none) me)
sees_mark w slots id me x b live lt may = as_named w slots id me (flag_base me.0.work + x) (λ n. n) (saw_mark b (step slots (flag_base me.0.work + x) 0 0 none) me) live (λ s h len at small.
    let v = me.0 in
    let j : ℕ = flag_base v.work + x in
    let n : ℕ = get_or s.words j 0 in
    let m : Mark = record { symbol = x; bits = b } in
    let back : j - flag_base v.work ≡ x = omega arith in
    let shows : Shows v (j - flag_base v.work) n = subst (λ k. Shows v k n) (sym back) (shown v.work s h id me at live refl x lt) in
    ⊎_elim
    (λ (set_already : (bit_or n b == n) ≡ true). (
      with_mark m v,
      keeps,
      tt,
      had_mark v.work s h id me at live x b lt (eq_of_test (bit_or n b) n set_already) (named v.work s h id me at live refl m may),
      (match_true (bit_or n b == n) _ _ set_already (ap (λ (k : ℕ). (with_mark (record { symbol = k; bits = b }) v, me.1)) (sym back)), shows),
    ))
    (λ (missing : (bit_or n b == n) ≡ false).
    let there = shown v.work s h id me at live refl x lt in
    let away : ¬ IsWithin b (get_or v.work.opening x 0) = λ opened. true≢false (sym (eq-eqb (bit_or n b) n (or_comm n b ∙ (within_trans opened there.opening).joined)) ∙ missing) in (
      with_missed m v,
      keeps,
      tt,
      looked v.work s h id me at live j (with_missed m v) (misses_mark v.work s h id me at live m away) refl refl refl refl refl,
      (match_false (bit_or n b == n) _ _ missing (ap (λ (k : ℕ). (with_missed (record { symbol = k; bits = b }) v, me.1)) (sym back)), shows),
    ))
    (either_way (bit_or n b == n)))

-- what a step that writes bits owes
pub writes_bits : (w : Workload) (slots id : ℕ) (me : Seated) (x b : ℕ) → IsTrue me.0.live → x < length me.0.work.opening → MayMark me.0 (record { symbol = x; bits = b })
    → Allows (Holds w) slots id me (flag_base me.0.work + x) (λ n. bit_or n b) (wrote_mark (step slots (flag_base me.0.work + x) b 0 none) me)
writes_bits w slots id me x b live lt may = as_named w slots id me (flag_base me.0.work + x) (λ n. bit_or n b) (wrote_mark (step slots (flag_base me.0.work + x) b 0 none) me) live (λ s h len at small.
    let v = me.0 in
    let j : ℕ = flag_base v.work + x in
    let m : Mark = record { symbol = x; bits = b } in
    let back : j - flag_base v.work ≡ x = omega arith in (
      with_write m (get_or s.words j 0) v,
      keeps,
      tt,
      won_mark v.work s h id me at live x b lt (named v.work s h id me at live refl m may),
      (ap (λ (k : ℕ). (with_write (record { symbol = k; bits = b }) (get_or s.words j 0) v, me.1)) (sym back), subst (λ k. Shows v k (get_or s.words j 0)) (sym back) (shown v.work s h id me at live refl x lt)),
    ))

-- a file whose word is 1 is known in some view
pub claimed_needed : (w : Workload) (s : Sharing) → Holds w s → (f : ℕ) → f < w.files → get_or s.words (1 + f) 0 ≡ 1 → IsInEachClosed w f
claimed_needed w s h f lt one =
    let count = (h.claims f lt).0 in
    let who = total_some (λ v. times f v.claims) s.views (omega arith) in
    let fit = h.views who.0 who.1 who.2 in (fit.known f (fit.claims f (times_some f who.1.claims who.3))).2

-- what the load of a check owes
pub checks : (w : Workload) (slots id : ℕ) (me : Seated) (f : ℕ) → IsTrue me.0.live → f < me.0.work.files → Allows (Holds w) slots id me (1 + f) (λ n. n) (checked (step slots (1 + f) 0 0 none) me)
checks w slots id me f live lt = as_named w slots id me (1 + f) (λ n. n) (checked (step slots (1 + f) 0 0 none) me) live (λ s h len at small.
    let v = me.0 in
    let n : ℕ = get_or s.words (1 + f) 0 in
    let fit = h.views id v at in
    ⊎_elim
    (λ (free : (n == 0) ≡ true). (
      v,
      keeps,
      tt,
      idle v.work s h id me at live (1 + f),
      match_true (n == 0) _ _ free (refl, λ known. let one = (fit.known f (subst (Contains v.known) (less_one f) known)).1 in let zero_is = zero_test n free in omega arith),
    ))
    (λ (full : (n == 0) ≡ false).
    let one = one_of_claims v.work s h id me at live f lt full in (
      with_file f v,
      keeps,
      tt,
      looked v.work s h id me at live (1 + f) (with_file f v) (knows_file v.work s h id me at live s.words fit f lt one (claimed_needed v.work s h f lt one)) refl refl refl refl refl,
      match_false (n == 0) _ _ full (ap (λ k. (with_file k v, me.1)) (sym (less_one f))),
    ))
    (either_way (n == 0)))

-- ---- seats come and go

-- the view of a new seat fits
fits_fresh : (w : Workload) (words : List ℕ) (v : View) → Fits w words v → Fits w words (fresh v)
fits_fresh w words v fit = record {
  same = fit.same;
  spent = λ off. ap fresh (fit.spent off);
  known = fit.known;
  claims = λ f has. contains_none f has;
  items = fit.items;
  begins = λ i has. contains_none i has;
  marks = λ m has. contains_none m has;
  missed = λ m has. contains_none m has;
  writes = λ j has. contains_none j has;
}

-- a split keeps the rule
pub splits : (w : Workload) (id : ℕ) (v : View) → Splits (Holds w) id v v (fresh v)
splits w id v s h at =
    let still : set s.views id v ≡ s.views = set_again s.views id v at in
    let more : List View = s.views ++ fresh v ∷ [] in
    let claimed : Counts 1 w.files (λ u. u.claims) s.words more = λ k lt. let was = h.claims k lt in let sum = total_snoc (λ u. times k u.claims) s.views (fresh v) in (omega arith, was.1) in
    let begun : Counts (begin_base w) (length w.items) (λ u. u.begins) s.words more = λ k lt. let was = h.begins k lt in let sum = total_snoc (λ u. times k u.begins) s.views (fresh v) in (omega arith, was.1) in
    subst (λ vs. Holds w (record { words = s.words; homes = s.homes; views = vs ++ fresh v ∷ [] })) (sym still) (record {
      sound = h.sound;
      ran = run_new w h.sound s.words s.views h.ran (fresh v) refl refl refl;
      wide = h.wide;
      spare = h.spare;
      views = λ j u e. ⊎_elim (λ was. h.views j u was) (λ (new : fresh v ≡ u). subst (Fits w s.words) new (fits_fresh w s.words v (h.views id v at))) (at_snoc s.views (fresh v) u j e);
      claims = claimed;
      begins = begun;
      flags = λ x lt. h.flags x lt ∙ ap (bit_or (get_or w.opening x 0)) (sym (all_bits_snoc x s.views (fresh v) refl));
      writes = λ x k lt. let was = h.writes x k lt in let sum = total_snoc (λ z. times_new x k z.writes) s.views (fresh v) in omega arith;
    })

-- the view of a spent seat fits
fits_spent : (w : Workload) (words : List ℕ) → Fits w words spent_view
fits_spent w words = record {
  same = λ on. absurd (true≢false (sym on));
  spent = λ off. refl;
  known = λ f has. contains_none f has;
  claims = λ f has. contains_none f has;
  items = λ i has. contains_none i has;
  begins = λ i has. contains_none i has;
  marks = λ m has. contains_none m has;
  missed = λ m has. contains_none m has;
  writes = λ j has. contains_none j has;
}

-- the view that two were joined to fits
fits_joined : (w : Workload) (words : List ℕ) (v u : View) → IsTrue v.live → Fits w words v → Fits w words u → Fits w words (joined v u)
fits_joined w words v u live a b = record {
  same = a.same;
  spent = λ off. absurd (true≢false (sym live ∙ off));
  known = λ f has. ⊎_elim (λ l. a.known f l) (λ r. b.known f r) (contains_append f v.known u.known has);
  claims = λ f has. ⊎_elim (λ l. contains_left f v.known u.known (a.claims f l)) (λ r. contains_right f v.known u.known (b.claims f r)) (contains_append f v.claims u.claims has);
  items = λ i has. ⊎_elim
      (λ l. let k = a.items i l in (k.0, (k.1.0, k.1.1, contains_left _ v.known u.known k.1.2)))
      (λ r. let k = b.items i r in (k.0, (k.1.0, k.1.1, contains_right _ v.known u.known k.1.2)))
      (contains_append i v.known_items u.known_items has);
  begins = λ i has. ⊎_elim (λ l. contains_left i v.known_items u.known_items (a.begins i l)) (λ r. contains_right i v.known_items u.known_items (b.begins i r)) (contains_append i v.begins u.begins has);
  marks = λ m has. ⊎_elim
      (λ l. ⊎_elim (λ root. inl root) (λ (t : (i : ℕ) × Contains v.known_items i × Marks w i m). inr (t.0, contains_left t.0 v.known_items u.known_items t.1, t.2)) (a.marks m l))
      (λ r. ⊎_elim (λ root. inl root) (λ (t : (i : ℕ) × Contains u.known_items i × Marks w i m). inr (t.0, contains_right t.0 v.known_items u.known_items t.1, t.2)) (b.marks m r))
      (contains_append m v.marks u.marks has);
  missed = λ m has. ⊎_elim (λ l. a.missed m l) (λ r. b.missed m r) (contains_append m v.missed u.missed has);
  writes = λ j has. ⊎_elim (λ l. contains_left j.mark v.marks u.marks (a.writes j l)) (λ r. contains_right j.mark v.marks u.marks (b.writes j r)) (contains_append j v.writes u.writes has);
}

-- the other seat is still there
there_after : (views : List View) (id : ℕ) (both : View) (other : ℕ) (u : View) → other ≢ id → get_elem? views other ≡ some u → get_elem? (set views id both) other ≡ some u
there_after views id both other u apart there = set_else views id other both apart ∙ there

-- a join keeps the rule
pub merges : (w : Workload) (id : ℕ) (v : View) (other : ℕ) (u : View) → IsTrue v.live → Joins (Holds w) id v other u (joined v u) spent_view
merges w id v other u live s h at apart there_now =
    let both = joined v u in
    let there : get_elem? s.views other ≡ some u = ⊎_elim (λ (t : (other ≡ id) × (both ≡ u)). absurd (apart t.0)) (λ (t : (other ≢ id) × (get_elem? s.views other ≡ some u)). t.1) (at_set s.views id other both u there_now) in
    let now : List View = set (set s.views id both) other spent_view in
    let claimed : Counts 1 w.files (λ z. z.claims) s.words now = λ k lt. let was = h.claims k lt in let sum = total_joined s.views id other v u both spent_view at there apart (λ z. times k z.claims) (times_append k v.claims u.claims) refl in (omega arith, was.1) in
    let begun : Counts (begin_base w) (length w.items) (λ z. z.begins) s.words now = λ k lt. let was = h.begins k lt in let sum = total_joined s.views id other v u both spent_view at there apart (λ z. times k z.begins) (times_append k v.begins u.begins) refl in (omega arith, was.1) in
    record {
      sound = h.sound;
      ran = run_joined w h.sound s.words s.views h.ran id other v u both spent_view apart at there (there_after s.views id both other u apart there) refl refl refl refl refl refl refl refl;
      wide = h.wide;
      spare = h.spare;
      views = fits_set w s.words (set s.views id both) other spent_view (fits_set w s.words s.views id both h.views (fits_joined w s.words v u live (h.views id v at) (h.views other u there))) (fits_spent w s.words);
      claims = claimed;
      begins = begun;
      flags = λ x lt. h.flags x lt ∙ ap (bit_or (get_or w.opening x 0)) (sym (all_bits_joined s.views id other v u both spent_view at there apart x refl refl));
      writes = λ x k lt. let was = h.writes x k lt in let sum = total_joined s.views id other v u both spent_view at there apart (λ z. times_new x k z.writes) (times_new_append x k v.writes u.writes) refl in omega arith;
    }

-- ---- the first state

-- the first view fits
first_fits : (w : Workload) (words : List ℕ) → Fits w words (first_view w)
first_fits w words = record {
  same = λ on. refl;
  spent = λ off. absurd (true≢false off);
  known = λ f has. contains_none f has;
  claims = λ f has. contains_none f has;
  items = λ i has. contains_none i has;
  begins = λ i has. contains_none i has;
  marks = λ m has. contains_none m has;
  missed = λ m has. contains_none m has;
  writes = λ j has. contains_none j has;
}

-- the first view is the only one
one_view : (w : Workload) (words : List ℕ) (j : ℕ) (u : View) → get_elem? (first_view w ∷ []) j ≡ some u → Fits w words u
one_view w words zero u e = subst (Fits w words) (some-injective (first_view w) u e) (first_fits w words)
one_view w words (suc j) u e = absurd (some-ne-none u (sym e))

-- each seat is the first, or yet to come
only_view : (w : Workload) (id : ℕ) → seat_at w (first_view w ∷ []) id ≡ first_view w
only_view w zero = refl
only_view w (suc id) = refl

-- the rule holds of words that are 0 but for the opening flags
pub opens : (w : Workload) (words : List ℕ) → IsSound w → length words ≡ word_count w → ((k : ℕ) → k < flag_base w → get_or words k 0 ≡ 0) → ((x : ℕ) → x < length w.opening → get_or words (flag_base w + x) 0 ≡ get_or w.opening x 0)
    → Holds w (opening words [] (first_view w))
opens w words sound wide zeros flags =
    let claimed : Counts 1 w.files (λ v. v.claims) words (first_view w ∷ []) = λ k lt. let z = zeros (1 + k) (omega arith) in (z, (omega arith)) in
    let begun : Counts (begin_base w) (length w.items) (λ v. v.begins) words (first_view w ∷ []) = λ k lt. let z = zeros (begin_base w + k) (omega arith) in (z, (omega arith)) in
    record {
      sound = sound;
      ran = record {
        core = start w;
        reached = record { steps = []; legal = tt; ends = refl };
        words_of = record {
          claimed = λ f lt. zeros (1 + f) (omega arith) ∙ ap (λ (b : Bool). cond {A = ℕ} b 1 0) (sym (unmarked w.files f));
          begun = λ i lt. zeros (begin_base w + i) (omega arith) ∙ ap (λ (b : Bool). cond {A = ℕ} b 1 0) (sym (unmarked (length w.items) i));
          flags = λ x lt. flags x lt;
        };
        lists_of = record {
          holder = λ k. k;
          own = λ id live. refl;
          claims = λ id. subst (IsPermutation []) (ap (λ (v : View). v.claims) (sym (only_view w id))) (IsPermutation-refl []);
          begins = λ id. subst (IsPermutation []) (ap (λ (v : View). v.begins) (sym (only_view w id))) (IsPermutation-refl []);
          marks = λ id. subst (IsPermutation []) (ap (λ (v : View). v.marks) (sym (only_view w id))) (IsPermutation-refl []);
        };
      };
      wide = wide;
      spare = zeros 0 (omega arith);
      views = one_view w words;
      claims = claimed;
      begins = begun;
      flags = λ x lt. flags x lt ∙ sym (or_zero_r (get_or w.opening x 0));
      writes = λ x k lt. ap (λ n. bit_at n k) (flags x lt) ∙ omega arith;
    }

-- how many words there are
pub length-opening : (w : Workload) → length (opening_words_of w) ≡ word_count w
length-opening w = length-append (replicate (flag_base w) 0) w.opening ∙ ap (λ n. n + length w.opening) (length-replicate (flag_base w) 0)

-- the rule holds at the start
pub opens_as : (w : Workload) → IsSound w → Holds w (opening (opening_words_of w) [] (first_view w))
opens_as w sound =
    let zs : List ℕ = replicate (flag_base w) 0 in
    let zeros_len : length zs ≡ flag_base w = length-replicate (flag_base w) 0 in
    opens w (opening_words_of w) sound (length-opening w)
    (λ k lt. let within : k < length zs = omega arith in get_or_append_left zs w.opening 0 k within ∙ get_or-replicate (flag_base w) k 0 0 lt)
    (λ x lt. subst (λ n. get_or (opening_words_of w) (n + x) 0 ≡ get_or w.opening x 0) zeros_len (get_or-append-add zs w.opening x 0))
