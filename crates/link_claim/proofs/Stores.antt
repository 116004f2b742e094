-- What a plain store can't do: other seats may have stepped since the load before it.
use mathlib.Core.Option.{some}
use lib.ListN.{get_elem?}
use Rattle.std.proofs.Common.{inl, inr, ⊎_elim, eq-eqb, ◌≡◌, ℕ, ◌+◌, ◌<◌, ◌≤◌, ◌^◌, List, [], ◌∷◌, sym, refl, ap, ◌∙◌, subst, arith, bit_or, length, get_or, set, cond, get_or-set_same, get_or-set_other}
use Rattle.std.specs.Prelude.{Contains}
use Rattle.atomic_table.specs.Table.{opening, stepped, keeps}
use Rattle.link_closure.specs.declared.workload.Mark.{Mark}
use Rattle.link_closure.specs.declared.workload.Item.{Item}
use Rattle.link_closure.specs.declared.workload.Workload.{Workload}
use Rattle.link_claim.specs.declared.view.View.{View}
use Rattle.link_closure.specs.Workload.{HasItem, Marks, IsRoot, IsSound, bits_for, IsWithin}
use Rattle.link_claim.specs.Workload.{FitsU32, begin_base, flag_base, opening_words_of}
use Rattle.link_claim.specs.Views.{Seated, first_view, fresh, with_claim, with_begin, with_write, MayRequest}
use Rattle.link_claim.specs.Rule.{Sharing, times, all_bits, Holds}
use Rattle.link_claim.specs.Stores.{MayStore}
use Rattle.link_closure.proofs.Joins.{contains_here, within_zero, within_trans, within_left, within_right, within_both, bits_has, bits_within}
use Rattle.link_claim.proofs.Kept.{item_index}
use Rattle.link_claim.proofs.Views.{all_bits_has}
use Rattle.link_claim.proofs.Moves.{opens_as, splits, requested, won_claim, won_begin, won_mark, shown}
use Rattle.link_claim.proofs.Calls.{shows_fits}

-- a word that is at most 1 counts no two
twice : (x a b : ℕ) → x ≡ a + (b + 0) → x ≤ 1 → a ≡ 1 → b ≡ 1 → ⊥
twice x a b sum most one other = omega arith

module _ (w : Workload) (sound : IsSound w) where
  -- the words at the start, and a second seat
  abbrev start_state : Sharing
  start_state = opening (opening_words_of w) [] (first_view w)

  -- the words at the start, and a second seat
  abbrev two_seats : Sharing
  two_seats = record { words = opening_words_of w; homes = []; views = first_view w ∷ fresh (first_view w) ∷ [] }

  -- the rule holds at the start
  starts : Holds w (opening (opening_words_of w) [] (first_view w))
  starts = opens_as w sound

  -- and with the second seat
  halves : Holds w (record { words = opening_words_of w; homes = []; views = first_view w ∷ fresh (first_view w) ∷ [] })
  halves = splits w 0 (first_view w) (opening (opening_words_of w) [] (first_view w)) starts refl

  module _ (f : ℕ) (root : IsRoot w f) where
    -- then the second seat claims a root
    abbrev claimed_state : Sharing
    claimed_state = stepped two_seats (1 + f) 1 1 [] (with_claim f (fresh (first_view w))) keeps

    -- the rule holds after its claim
    claims : Holds w (stepped (record { words = opening_words_of w; homes = []; views = first_view w ∷ fresh (first_view w) ∷ [] }) (1 + f) 1 1 [] (with_claim f (fresh (first_view w))) keeps)
    claims =
        let me : Seated = (fresh (first_view w), []) in
        let may : MayRequest me.0 f = inl root in
        let asked = requested w two_seats halves 1 me refl refl refl sound f may in
        let free : get_or (opening_words_of w) (1 + f) 0 ≡ 0 = (halves.claims f asked.0).0 in
        won_claim w two_seats halves 1 me refl refl refl f may asked.0 asked.1 free

    -- no store lets the first seat claim it too
    pub no_store_claims : ¬ MayStore w (1 + f) 1 (λ u. u ≡ with_claim f (first_view w))
    no_store_claims ok =
        let lt = sound.roots f root in
        let small = (claims.claims f lt).1 in
        let r = ok claimed_state claims refl refl (omega arith) in
        let count = r.3.claims f lt in
        let here : times f (f ∷ []) ≡ 1 = ap (λ b. cond {A = ℕ} b 1 0 + 0) (eq-eqb f f refl) in
        let mine : times f r.0.claims ≡ times f (f ∷ []) = ap (λ (u : View). times f u.claims) r.4 in
        twice _ _ _ count.0 count.1 (mine ∙ here) here

  module _ (i : ℕ) (it : Item) (m : Mark) (has : HasItem w i it) (root : IsRoot w it.file) (listed : Contains it.marks m) where
    -- then it begins an item of that file, and marks it
    abbrev begun_state : Sharing
    begun_state = stepped (claimed_state it.file root) (begin_base w + i) 1 1 [] (with_begin i (with_claim it.file (fresh (first_view w)))) keeps

    -- and after its begin
    begins : Holds w begun_state
    begins =
        let me : Seated = (with_claim it.file (fresh (first_view w)), []) in
        let lt = item_index w.items i it has in
        let h = claims it.file root in
        let known = contains_here it.file [] in
        won_begin w (claimed_state it.file root) h 1 me refl refl i it has known (h.begins i lt).0

    -- and at last it marks
    abbrev marked_state : Sharing
    marked_state = stepped begun_state (flag_base w + m.symbol) (bit_or (get_or begun_state.words (flag_base w + m.symbol) 0) m.bits) 1 [] (with_write m (get_or begun_state.words (flag_base w + m.symbol) 0) (with_begin i (with_claim it.file (fresh (first_view w))))) keeps

    -- the rule holds after its mark
    marks : Holds w marked_state
    marks =
        let me : Seated = (with_begin i (with_claim it.file (fresh (first_view w))), []) in
        won_mark w begun_state begins 1 me refl refl m.symbol m.bits (sound.marks i m (it, has, listed)) (inr (i, contains_here i [], (it, has, listed)))

    -- the symbol has a flag word
    lt : m.symbol < length w.opening
    lt = sound.marks i m (it, has, listed)

    -- the word of the symbol is small
    small : (s : Sharing) → Holds w s → get_elem? s.views 0 ≡ some (first_view w) → FitsU32 w → get_or s.words (flag_base w + m.symbol) 0 < 2 ^ 32
    small s h at fits = shows_fits (first_view w) m.symbol _ fits lt (shown w s h 0 (first_view w, []) at refl refl m.symbol lt)

    -- what is stored is the word
    stored : (s : Sharing) (n : ℕ) → Holds w s → get_or (set s.words (flag_base w + m.symbol) n) (flag_base w + m.symbol) 0 ≡ n
    stored s n h = let wide = h.wide in let in_range = lt in get_or-set_same s.words (flag_base w + m.symbol) n 0 (omega arith)

    -- before any other seat steps, no item is begun, so the number can have no bit but the opening ones and those of root marks
    early : FitsU32 w → (n : ℕ) → MayStore w (flag_base w + m.symbol) n (λ u. Unit {0}) → IsWithin n (bit_or (get_or w.opening m.symbol 0) (bits_for m.symbol w.root_marks))
    early fits n ok =
        let x : ℕ = m.symbol in
        let o : ℕ = get_or w.opening x 0 in
        let roots : ℕ = bits_for x w.root_marks in
        let bound = small start_state starts refl fits in
        let r = ok start_state starts refl refl (omega arith) in
        let u : View = r.0 in
        let fit = r.3.views 0 r.0 refl in
        let mine : IsWithin (bits_for x u.marks) (bit_or o roots) = bits_within x u.marks (bit_or o roots) (λ k in_list is. ⊎_elim
        (λ (root_mark : Contains w.root_marks k). within_trans (bits_has x w.root_marks k root_mark is) (within_right o roots))
        (λ (t : (j : ℕ) × Contains u.known_items j × Marks w j k).
        let known = fit.items t.0 t.1 in
        let j_lt = item_index w.items t.0 t.2.0 t.2.1 in
        let was = (starts.begins t.0 j_lt).0 in
        let still = get_or-set_other (opening_words_of w) (flag_base w + x) (begin_base w + t.0) n 0 (λ e. omega arith) in
        let one = known.0 in absurd (omega arith))
        (fit.marks k in_list)) in
        subst (λ k. IsWithin k (bit_or o roots)) (sym (r.3.flags x lt) ∙ stored start_state n starts)
        (within_both (within_left o roots) (within_both mine (within_zero (bit_or o roots))))

    -- after the second seat marked, the number must have the mark's bits
    late : FitsU32 w → (n : ℕ) → MayStore w (flag_base w + m.symbol) n (λ u. Unit {0}) → IsWithin m.bits n
    late fits n ok =
        let x : ℕ = m.symbol in
        let o : ℕ = get_or w.opening x 0 in
        let bound = small marked_state marks refl fits in
        let r = ok marked_state marks refl refl (omega arith) in
        let other : View = with_write m (get_or begun_state.words (flag_base w + m.symbol) 0) (with_begin i (with_claim it.file (fresh (first_view w)))) in
        let vs : List View = r.0 ∷ other ∷ [] in
        subst (IsWithin m.bits) (sym (r.3.flags x lt) ∙ stored marked_state n marks)
        (within_trans (bits_has x (m ∷ []) m (contains_here m []) refl) (within_trans (all_bits_has x vs 1 other refl) (within_right o (all_bits x vs))))

    -- no store of any number lets the first seat mark, where the bits are not there from the start
    pub no_store_marks : FitsU32 w → ¬ IsWithin m.bits (bit_or (get_or w.opening m.symbol 0) (bits_for m.symbol w.root_marks)) → (n : ℕ) → ¬ MayStore w (flag_base w + m.symbol) n (λ u. Unit {0})
    no_store_marks fits missing n ok = missing (within_trans (late fits n ok) (early fits n ok))
