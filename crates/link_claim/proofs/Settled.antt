-- Once a view has read all, the words are settled, whatever other views there are.
use Rattle.std.proofs.Common.{◌⊎◌, inl, inr, ⊎_elim, eq-eqb, true≢false, zero, suc, ◌≡◌, ℕ, ◌+◌, ◌<◌, ◌≤◌, List, [], ◌∷◌, ◌||◌, Bool, true, false, sym, refl, ap, ◌∙◌, subst, arith, bit_or, length, get_or, map, take, drop}
use Rattle.std.specs.Prelude.{◌==◌, Contains, IsTrue}
use Rattle.std.specs.List.{list_any}
use Rattle.std.proofs.lemmas.Bool.Decides.{nat_tests}
use Rattle.std.proofs.lemmas.Grind.{get_or_after_one}
use Rattle.std.proofs.lemmas.List.{get_or-map, get_or-take, get_or_past, length-map, length-take, length-drop}
use Rattle.link_closure.proofs.Least.{one-least}
use Rattle.link_closure.specs.Closure.{IsClosed, IsLeastClosed, is_marked}
use Rattle.link_closure.specs.declared.workload.Mark.{Mark}
use Rattle.link_closure.specs.declared.workload.Item.{Item}
use Rattle.link_closure.specs.declared.workload.Workload.{Workload}
use Rattle.link_claim.specs.declared.view.View.{View}
use Rattle.link_closure.specs.Workload.{Marks, IsRoot, HasEdge, bits_for, item_bits, marked, IsWithin}
use Rattle.link_claim.specs.Workload.{flag_base}
use Rattle.link_claim.specs.Rule.{all_bits}
use Rattle.link_claim.specs.Later.{HasReadAll}
use Rattle.link_claim.specs.Seats.{Ending, IsEnding, IsSettled, claimed_in, flags_in}
use Rattle.link_closure.proofs.Joins.{within_trans, within_left, within_right, within_both, within_same, bits_has, bits_within, item_has, item_within, contains_here, contains_later, contains_cases}
use Rattle.link_claim.proofs.Kept.{same_item}
use Rattle.link_claim.proofs.Views.{all_bits_has, all_bits_within}
use Rattle.link_claim.proofs.Moves.{claimed_needed}

-- one of two tests holds
or_true : (b c : Bool) → (b || c) ≡ true → (b ≡ true) ⊎ (c ≡ true)
or_true true c e = inl refl
or_true false c e = inr e

-- the second test holds
or_right : (b c : Bool) → c ≡ true → (b || c) ≡ true
or_right true c e = refl
or_right false c e = e

-- a known file passes the test
pub known_test : (f : ℕ) (xs : List ℕ) → Contains xs f → list_any (λ g. g == f) xs ≡ true
known_test f [] has = let h = has.1 in absurd (omega arith)
known_test f (x ∷ xs) has = ⊎_elim (λ (e : x ≡ f). ap (λ b. b || list_any (λ g. g == f) xs) (eq-eqb x f e)) (λ later. or_right (x == f) _ (known_test f xs later)) (contains_cases x f xs has)

-- a file that passes the test is known
pub test_known : (f : ℕ) (xs : List ℕ) → list_any (λ g. g == f) xs ≡ true → Contains xs f
test_known f [] e = absurd (cc)
test_known f (x ∷ xs) e = ⊎_elim (λ (t : (x == f) ≡ true). subst (Contains (x ∷ xs)) (equal x f t) (contains_here x xs)) (λ t. contains_later x f xs (test_known f xs t)) (or_true (x == f) _ e)
  where
    -- equal numbers by their test
    equal : (a b : ℕ) → (a == b) ≡ true → a ≡ b
    equal a b e = grind (arith, nat_tests)

-- the test for 1
one_test : (n : ℕ) → (n == 1) ≡ true → n ≡ 1
one_test n e = grind (arith, nat_tests)

-- ---- the marks of claimed files

module _ (n : ℕ) (ws : List ℕ) (wide : n < length ws) where
  -- as many words as there are files
  rest_length : length (take n (drop 1 ws)) ≡ n
  rest_length = let a = length-take n (drop 1 ws) in let b = length-drop 1 ws in grind (arith, a, b)

  -- as many marks as there are files
  pub marks_length : length (map (λ k. k == 1) (take n (drop 1 ws))) ≡ n
  marks_length = length-map (take n (drop 1 ws)) (λ k. k == 1) ∙ rest_length

  -- the mark of a file is the test of its word
  pub mark_at : (f : ℕ) → f < n → is_marked (map (λ k. k == 1) (take n (drop 1 ws))) f ≡ (get_or ws (1 + f) 0 == 1)
  mark_at f lt = let len = rest_length in get_or-map (λ k. k == 1) (take n (drop 1 ws)) f 0 false (omega arith) ∙ ap (λ k. k == 1) (get_or-take n (drop 1 ws) f 0 lt ∙ get_or_after_one ws f 0)

  -- a marked file is one of the files
  pub mark_below : (f : ℕ) → IsTrue (is_marked (map (λ k. k == 1) (take n (drop 1 ws))) f) → f < n
  mark_below f is = ⊎_elim (λ (lt : f < n). lt) (λ (past : n ≤ f). let len = marks_length in absurd (true≢false (sym is ∙ get_or_past (map (λ k. k == 1) (take n (drop 1 ws))) f false (omega arith)))) (below_or f n)
    where
      below_or : (a b : ℕ) → (a < b) ⊎ (b ≤ a)
      below_or a zero = inr (omega arith)
      below_or zero (suc b) = inl (omega arith)
      below_or (suc a) (suc b) = ⊎_elim (λ (t : a < b). inl (omega arith)) (λ (t : b ≤ a). inr (omega arith)) (below_or a b)

-- there are claim words
pub ending_wide : (words : List ℕ) (v : View) → IsEnding words v → v.work.files < length words
ending_wide words v end = let w = end.holds.wide in let same = ap length end.same in omega arith

module _ (words : List ℕ) (v : View) (end : IsEnding words v) (all : HasReadAll v) where
  -- there are claim words
  wide : v.work.files < length words
  wide = ending_wide words v end

  -- the known files are a closed set
  known_closed : IsClosed (IsRoot v.work) (HasEdge v.work) (λ f. list_any (λ g. g == f) v.known)
  known_closed = (
    (λ f root. known_test f v.known (all.roots f root)),
    λ f g held (t : HasEdge v.work f g).
        let known : Contains v.known t.1.file = subst (Contains v.known) (sym t.3) (test_known f v.known held) in
        known_test g v.known ((all.items t.0 t.1 t.2 known).requests g (t.1, t.2, t.4)),
  )

  -- a claimed file is known
  mark_known : (f : ℕ) → IsTrue (is_marked (claimed_in (record { words = words; view = v })) f) → Contains v.known f
  mark_known f is =
      let lt = mark_below v.work.files words wide f is in
      let one : get_or words (1 + f) 0 ≡ 1 = one_test _ (sym (mark_at v.work.files words wide f lt) ∙ is) in
      test_known f v.known (claimed_needed v.work end.state end.holds f lt (subst (λ ws. get_or ws (1 + f) 0 ≡ 1) (sym end.same) one) (λ f. list_any (λ g. g == f) v.known) known_closed)

  -- a known file is claimed
  known_mark : (f : ℕ) → Contains v.known f → IsTrue (is_marked (claimed_in (record { words = words; view = v })) f)
  known_mark f has =
      let k = (end.holds.views end.id v end.seen).known f has in
      mark_at v.work.files words wide f k.0 ∙ eq-eqb _ 1 (subst (λ ws. get_or ws (1 + f) 0 ≡ 1) end.same k.1)

  -- the claimed files are a closed set
  claimed_closed : IsClosed (IsRoot v.work) (HasEdge v.work) (is_marked (claimed_in (record { words = words; view = v })))
  claimed_closed = (
    (λ f root. known_mark f (all.roots f root)),
    λ f g held (t : HasEdge v.work f g).
        let known : Contains v.known t.1.file = subst (Contains v.known) (sym t.3) (mark_known f held) in
        known_mark g ((all.items t.0 t.1 t.2 known).requests g (t.1, t.2, t.4)),
  )

  -- each flag word has just the opening flags, the root marks and the marks of the items of the claimed files
  flags_marked : (x : ℕ) → x < length v.work.opening → get_or words (flag_base v.work + x) 0 ≡ marked v.work (is_marked (claimed_in (record { words = words; view = v }))) x
  flags_marked x lt =
      let h = end.holds in
      let s = end.state in
      let p : ℕ → Bool = is_marked (claimed_in (record { words = words; view = v })) in
      let o : ℕ = get_or v.work.opening x 0 in
      let roots : ℕ = bits_for x v.work.root_marks in
      let items : ℕ = item_bits p x v.work.items in
      let listed : ℕ = all_bits x s.views in
      subst (λ ws. get_or ws (flag_base v.work + x) 0 ≡ bit_or o listed) end.same (h.flags x lt) ∙ within_same
      (within_both (within_trans (within_left o roots) (within_left (bit_or o roots) items))
      (all_bits_within x s.views (bit_or (bit_or o roots) items) (λ j u at. bits_within x u.marks (bit_or (bit_or o roots) items) (λ m has is. ⊎_elim
      (λ root. within_trans (bits_has x v.work.root_marks m root is) (within_trans (within_right o roots) (within_left (bit_or o roots) items)))
      (λ (t : (i : ℕ) × Contains u.known_items i × Marks v.work i m).
      let fit = h.views j u at in
      let known = (fit.items t.0 t.1).1 in
      let same : known.0 ≡ t.2.0 = same_item v.work.items t.0 known.0 t.2.0 known.1 t.2.1 in
      let needed = (fit.known known.0.file known.2).2 p claimed_closed in
      within_trans (bits_has x t.2.0.marks m t.2.2 is)
      (within_trans (item_has p x v.work.items t.0 t.2.0 t.2.1 (subst (λ (z : Item). p z.file ≡ true) same needed)) (within_right (bit_or o roots) items)))
      ((h.views j u at).marks m has)))))
      (within_both
      (within_both (within_left o listed) (bits_within x v.work.root_marks (bit_or o listed) (λ m has is. mine m (all.root_marks m has) is)))
      (item_within p x v.work.items (bit_or o listed) (λ i it has claimed. bits_within x it.marks (bit_or o listed) (λ m has_mark is.
      mine m ((all.items i it has (mark_known it.file claimed)).marks m (it, has, has_mark)) is))))
    where
      mine : (m : Mark) → Contains v.marks m → m.symbol ≡ x → IsWithin m.bits (bit_or (get_or v.work.opening x 0) (all_bits x end.state.views))
      mine m has is = within_trans (bits_has x v.marks m has is) (within_trans (all_bits_has x end.state.views end.id v end.seen) (within_right (get_or v.work.opening x 0) (all_bits x end.state.views)))

  -- the claimed files are the least closed set, just they are known, and each flag word has the marks of their items
  pub settled : IsSettled (record { words = words; view = v })
  settled = record {
    least = record {
      each = marks_length v.work.files words wide;
      closed = claimed_closed;
      least = λ other closed f held. ((end.holds.views end.id v end.seen).known f (mark_known f held)).2 other closed;
    };
    known = λ f. (known_mark f, mark_known f);
    flags = flags_marked;
  }

-- two endings of one work have the same claimed files
pub same_claimed : (a b : Ending) → a.view.work ≡ b.view.work → IsSettled a → IsSettled b → claimed_in a ≡ claimed_in b
same_claimed a b same one other = one-least (IsRoot b.view.work) (HasEdge b.view.work) b.view.work.files (claimed_in a) (claimed_in b)
    (subst (λ (w : Workload). IsLeastClosed (IsRoot w) (HasEdge w) w.files (claimed_in a)) same one.least) other.least

-- and the same flags
pub same_flags : (a b : Ending) → a.view.work ≡ b.view.work → IsSettled a → IsSettled b → (x : ℕ) → x < length a.view.work.opening → flags_in a x ≡ flags_in b x
same_flags a b same one other x lt =
    one.flags x lt ∙ (λ i. marked (same i) (is_marked (same_claimed a b same one other i)) x)
    ∙ sym (other.flags x (subst (λ (w : Workload). x < length w.opening) same lt))
