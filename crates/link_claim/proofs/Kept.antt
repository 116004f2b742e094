-- What each legal step of the core keeps.
use mathlib.Core.Logic.{dite}
use native.Mathlib.Decide.{ℕ_discrete}
use Rattle.std.proofs.lemmas.List.{length-replicate}
use Rattle.std.proofs.lemmas.List.Sums.{sum_by-cons}
use Rattle.std.proofs.Common.{◌⊎◌, inl, inr, ⊎_elim, ne_eqb, eq-eqb, zero, ◌≡◌, ◌≢◌, ℕ, suc, ◌+◌, ◌<◌, List, [], ◌∷◌, Bool, true, false, true≢false, sym, refl, ap, ◌∙◌, subst, arith, bit_or, length, get_or, set, replicate, cond, Some, length-set, get_or-set_same, get_or-set_other}
use Rattle.std.specs.Prelude.{◌==◌, Contains, IsTrue, slice_get, count_by}
use Rattle.std.proofs.lemmas.Bool.Decides.{nat_tests}
use Rattle.std.specs.Int.Bits.{or_zero_l, or_zero_r}
use Rattle.std.proofs.lemmas.Nat.{or_comm}
use Rattle.link_closure.specs.Closure.{IsLeastClosed, is_marked}
use Rattle.link_closure.specs.declared.workload.Mark.{Mark}
use Rattle.link_closure.specs.declared.workload.Item.{Item}
use Rattle.link_closure.specs.declared.workload.Workload.{Workload}
use Rattle.link_claim.specs.declared.state.Core.{Core}
use Rattle.link_claim.specs.declared.state.Claimed.{Claimed}
use Rattle.link_claim.specs.declared.state.Begun.{Begun}
use Rattle.link_claim.specs.declared.state.Step.{Step}
use Rattle.link_claim.specs.declared.state.Step.TheVariants.{Claim, Begin, Mark as MarkStep, Read}
use Rattle.link_closure.specs.Workload.{HasItem, Requests, Marks, IsRoot, HasEdge, IsSound, IsInEachClosed, bits_for, item_bits, marked}
use Rattle.link_claim.specs.Steps.{start, is_claimed, is_begun, marks_of, legal, state_after, after, AllLegal, IsReached, IsAllRead}
use Rattle.link_closure.proofs.Joins.{or_assoc, within_trans, within_left, within_right, within_both, within_same, contains_cases, contains_none, bits_has, bits_within, item_has, item_within}

-- what holds of every state that legal steps lead to
pub record Kept (w : Workload) (c : Core) : Type 0 where
  pub claimed_len : length c.claimed ≡ w.files
  pub begun_len : length c.begun ≡ length w.items
  pub flags_len : length c.flags ≡ length w.opening
  pub claims : (f : ℕ) → count_by (λ (k : Claimed). k.file == f) c.claims ≡ cond (is_claimed c f) 1 0
  pub begins : (i : ℕ) → count_by (λ (k : Begun). k.item == i) c.begins ≡ cond (is_begun c i) 1 0
  pub needed : (f : ℕ) → IsTrue (is_claimed c f) → IsInEachClosed w f
  pub owned : (i : ℕ) (it : Item) → HasItem w i it → IsTrue (is_begun c i) → IsTrue (is_claimed c it.file)
  pub flags : (x : ℕ) → x < length w.opening → get_or c.flags x 0 ≡ bit_or (get_or w.opening x 0) (bits_for x (marks_of c))
  pub listed : (m : Mark) → Contains (marks_of c) m → Contains w.root_marks m ⊎ ((i : ℕ) × IsTrue (is_begun c i) × Marks w i m)

-- ---- bits

-- the bits after one is set
pub bit_now : (l : List Bool) (f g : ℕ) → f < length l → ((g ≡ f) × (is_marked (set l f true) g ≡ true)) ⊎ ((g ≢ f) × (is_marked (set l f true) g ≡ is_marked l g))
bit_now l f g h = dite (ℕ_discrete g f) (λ e. inl (e, subst (λ k. is_marked (set l f true) k ≡ true) (sym e) (get_or-set_same l f true false h))) (λ ne. inr (ne, get_or-set_other l f g true false ne))

-- a bit that is set stays set
bit_stays : (l : List Bool) (f g : ℕ) → f < length l → IsTrue (is_marked l g) → IsTrue (is_marked (set l f true) g)
bit_stays l f g h was = ⊎_elim (λ (t : (g ≡ f) × (is_marked (set l f true) g ≡ true)). t.1) (λ (t : (g ≢ f) × (is_marked (set l f true) g ≡ is_marked l g)). t.1 ∙ was) (bit_now l f g h)

-- one more claim of a file that had none
one_more : (n f g : ℕ) (b : Bool) → n ≡ cond b 1 0 → b ≡ false → g ≡ f → cond (f == g) 1 0 + n ≡ 1
one_more n f g b e off same =
    let z : n ≡ 0 = e ∙ ap (λ (t : Bool). cond {A = ℕ} t 1 0) off in
    let here : cond {A = ℕ} (f == g) 1 0 ≡ 1 = ap (λ (t : Bool). cond {A = ℕ} t 1 0) (eq-eqb f g (sym same)) in omega arith

-- a claim of another file changes no count
none_more : (n b f g : ℕ) → n ≡ b → g ≢ f → cond (f == g) 1 0 + n ≡ b
none_more n b f g e apart = grind (arith, nat_tests)

-- a fact of both branches is one of the choice
pub both : (P : Core → Type 0) (b : Bool) (c d : Core) → (b ≡ true → P c) → (b ≡ false → P d) → P (cond b c d)
both P true c d p q = p refl
both P false c d p q = q refl

-- after a claim is listed and its bit set, each file is still claimed as often as its bit says
claims_more : (f by g : ℕ) (ks : List Claimed) (l : List Bool) → f < length l → count_by (λ (k : Claimed). k.file == g) ks ≡ cond (is_marked l g) 1 0 → is_marked l f ≡ false
    → count_by (λ (k : Claimed). k.file == g) (record { worker = by; file = f } ∷ ks) ≡ cond (is_marked (set l f true) g) 1 0
claims_more f by g ks l h e free = ⊎_elim
    (λ (t : (g ≡ f) × (is_marked (set l f true) g ≡ true)). sum_by-cons (λ (k : Claimed). cond (k.file == g) 1 0) (record { worker = by; file = f }) ks
    ∙ one_more _ f g (is_marked l g) e (ap (is_marked l) t.0 ∙ free) t.0 ∙ ap (λ (b : Bool). cond b 1 0) (sym t.1))
    (λ (t : (g ≢ f) × (is_marked (set l f true) g ≡ is_marked l g)). sum_by-cons (λ (k : Claimed). cond (k.file == g) 1 0) (record { worker = by; file = f }) ks
    ∙ none_more _ (cond (is_marked l g) 1 0) f g e t.0 ∙ ap (λ (b : Bool). cond b 1 0) (sym t.1)) (bit_now l f g h)

-- the same of begins
begins_more : (i by g : ℕ) (ks : List Begun) (l : List Bool) → i < length l → count_by (λ (k : Begun). k.item == g) ks ≡ cond (is_marked l g) 1 0 → is_marked l i ≡ false
    → count_by (λ (k : Begun). k.item == g) (record { worker = by; item = i } ∷ ks) ≡ cond (is_marked (set l i true) g) 1 0
begins_more i by g ks l h e free = ⊎_elim
    (λ (t : (g ≡ i) × (is_marked (set l i true) g ≡ true)). sum_by-cons (λ (k : Begun). cond (k.item == g) 1 0) (record { worker = by; item = i }) ks
    ∙ one_more _ i g (is_marked l g) e (ap (is_marked l) t.0 ∙ free) t.0 ∙ ap (λ (b : Bool). cond b 1 0) (sym t.1))
    (λ (t : (g ≢ i) × (is_marked (set l i true) g ≡ is_marked l g)). sum_by-cons (λ (k : Begun). cond (k.item == g) 1 0) (record { worker = by; item = i }) ks
    ∙ none_more _ (cond (is_marked l g) 1 0) i g e t.0 ∙ ap (λ (b : Bool). cond b 1 0) (sym t.1)) (bit_now l i g h)

-- an item has an index below the number of items
pub item_index : (its : List Item) (i : ℕ) (it : Item) → slice_get its i ≡ Some it → i < length its
item_index [] i it e = absurd (cc)
item_index (x ∷ xs) zero it e = omega arith
item_index (x ∷ xs) (suc i) it e = let h = item_index xs i it e in omega arith

-- an index has one item
pub same_item : (its : List Item) (i : ℕ) (a b : Item) → slice_get its i ≡ Some a → slice_get its i ≡ Some b → a ≡ b
same_item its i a b p q = cc

-- the words after one is joined with more bits
pub joined_now : (l : List ℕ) (x y b : ℕ) → x < length l → ((y ≡ x) × (get_or (set l x (bit_or (get_or l x 0) b)) y 0 ≡ bit_or (get_or l y 0) b)) ⊎ ((y ≢ x) × (get_or (set l x (bit_or (get_or l x 0) b)) y 0 ≡ get_or l y 0))
joined_now l x y b h = dite (ℕ_discrete y x)
    (λ e. inl (e, subst (λ k. get_or (set l x (bit_or (get_or l x 0) b)) k 0 ≡ bit_or (get_or l k 0) b) (sym e) (get_or-set_same l x (bit_or (get_or l x 0) b) 0 h)))
    (λ ne. inr (ne, get_or-set_other l x y (bit_or (get_or l x 0) b) 0 ne))

-- one more mark of the symbol joins its bits to the symbol's
pub bits_more : (o x : ℕ) (m : Mark) (ms : List Mark) → x ≡ m.symbol → bit_or (bit_or o (bits_for x ms)) m.bits ≡ bit_or o (bits_for x (m ∷ ms))
bits_more o x m ms e =
    or_assoc o (bits_for x ms) m.bits ∙ ap (bit_or o) (or_comm (bits_for x ms) m.bits ∙ ap (λ t. bit_or (cond t m.bits 0) (bits_for x ms)) (sym (eq-eqb m.symbol x (sym e))))

-- a mark of another symbol changes no bit of the symbol's
pub bits_other : (x : ℕ) (m : Mark) (ms : List Mark) → x ≢ m.symbol → bits_for x (m ∷ ms) ≡ bits_for x ms
bits_other x m ms ne = ap (λ t. bit_or (cond t m.bits 0) (bits_for x ms)) (ne_eqb m.symbol x (λ e. ne (sym e))) ∙ or_zero_l (bits_for x ms)

-- no bit is set at the start
pub unmarked : (n k : ℕ) → is_marked (replicate n false) k ≡ false
unmarked zero k = refl
unmarked (suc n) zero = refl
unmarked (suc n) (suc k) = unmarked n k

module _ (w : Workload) (sound : IsSound w) where
  -- a file that may be claimed is one of the files, and in every closed set
  may_claim : (c : Core) → Kept w c → (f : ℕ) → IsRoot w f ⊎ ((i : ℕ) × IsTrue (is_begun c i) × Requests w i f) → (f < w.files) × IsInEachClosed w f
  may_claim c kept f asked = ⊎_elim
      (λ (root : IsRoot w f). (sound.roots f root, λ p closed. closed.0 f root))
      (λ (r : (i : ℕ) × IsTrue (is_begun c i) × Requests w i f).
      (sound.requests r.0 f r.2, λ p closed. let it = r.2.0 in closed.1 it.file f (kept.needed it.file (kept.owned r.0 it r.2.1 r.1) p closed) (r.0, it, r.2.1, refl, r.2.2)))
      asked

  -- a claim keeps all that
  claimed_more : (c : Core) → Kept w c → (by f : ℕ) → f < w.files → IsInEachClosed w f → is_claimed c f ≡ false
      → Kept w (record c { claimed = set c.claimed f true; claims = record { worker = by; file = f } ∷ c.claims })
  claimed_more c kept by f lt needed free = let len = kept.claimed_len in let within : f < length c.claimed = omega arith in record {
    claimed_len = length-set c.claimed f true ∙ kept.claimed_len;
    begun_len = kept.begun_len;
    flags_len = kept.flags_len;
    claims = λ g. claims_more f by g c.claims c.claimed within (kept.claims g) free;
    begins = kept.begins;
    needed = λ g is. ⊎_elim (λ (t : (g ≡ f) × (is_marked (set c.claimed f true) g ≡ true)). subst (IsInEachClosed w) (sym t.0) needed)
        (λ (t : (g ≢ f) × (is_marked (set c.claimed f true) g ≡ is_claimed c g)). kept.needed g (sym t.1 ∙ is)) (bit_now c.claimed f g within);
    owned = λ i it has begun. bit_stays c.claimed f it.file within (kept.owned i it has begun);
    flags = kept.flags;
    listed = kept.listed;
  }

  -- a begin keeps it
  begun_more : (c : Core) → Kept w c → (by i : ℕ) (it : Item) → HasItem w i it → IsTrue (is_claimed c it.file) → is_begun c i ≡ false
      → Kept w (record c { begun = set c.begun i true; begins = record { worker = by; item = i } ∷ c.begins })
  begun_more c kept by i it has claimed free = let len = kept.begun_len in let lt = item_index w.items i it has in let within : i < length c.begun = omega arith in record {
    claimed_len = kept.claimed_len;
    begun_len = length-set c.begun i true ∙ kept.begun_len;
    flags_len = kept.flags_len;
    claims = kept.claims;
    begins = λ g. begins_more i by g c.begins c.begun within (kept.begins g) free;
    needed = kept.needed;
    owned = λ j o hasj begun. ⊎_elim (λ (t : (j ≡ i) × (is_marked (set c.begun i true) j ≡ true)). subst (λ (z : Item). IsTrue (is_claimed c z.file)) (same_item w.items i it o has (subst (λ k. slice_get w.items k ≡ Some o) t.0 hasj)) claimed)
        (λ (t : (j ≢ i) × (is_marked (set c.begun i true) j ≡ is_begun c j)). kept.owned j o hasj (sym t.1 ∙ begun)) (bit_now c.begun i j within);
    flags = kept.flags;
    listed = λ m is. ⊎_elim (λ root. inl root) (λ (t : (j : ℕ) × IsTrue (is_begun c j) × Marks w j m). inr (t.0, bit_stays c.begun i t.0 within t.1, t.2)) (kept.listed m is);
  }

  -- a mark keeps it
  marked_more : (c : Core) → Kept w c → (by : ℕ) (m : Mark) → m.symbol < length w.opening → Contains w.root_marks m ⊎ ((i : ℕ) × IsTrue (is_begun c i) × Marks w i m)
      → Kept w (record c { flags = set c.flags m.symbol (bit_or (get_or c.flags m.symbol 0) m.bits); marks = record { worker = by; mark = m } ∷ c.marks })
  marked_more c kept by m lt asked = let len = kept.flags_len in let within : m.symbol < length c.flags = omega arith in record {
    claimed_len = kept.claimed_len;
    begun_len = kept.begun_len;
    flags_len = length-set c.flags m.symbol (bit_or (get_or c.flags m.symbol 0) m.bits) ∙ kept.flags_len;
    claims = kept.claims;
    begins = kept.begins;
    needed = kept.needed;
    owned = kept.owned;
    flags = λ x h. ⊎_elim
        (λ (t : (x ≡ m.symbol) × (get_or (set c.flags m.symbol (bit_or (get_or c.flags m.symbol 0) m.bits)) x 0 ≡ bit_or (get_or c.flags x 0) m.bits)).
        t.1 ∙ ap (λ n. bit_or n m.bits) (kept.flags x h) ∙ bits_more (get_or w.opening x 0) x m (marks_of c) t.0)
        (λ (t : (x ≢ m.symbol) × (get_or (set c.flags m.symbol (bit_or (get_or c.flags m.symbol 0) m.bits)) x 0 ≡ get_or c.flags x 0)).
        t.1 ∙ kept.flags x h ∙ ap (bit_or (get_or w.opening x 0)) (sym (bits_other x m (marks_of c) t.0)))
        (joined_now c.flags m.symbol x m.bits within);
    listed = λ k is. ⊎_elim (λ (e : m ≡ k). subst (λ (z : Mark). Contains w.root_marks z ⊎ ((i : ℕ) × IsTrue (is_begun c i) × Marks w i z)) e asked) (λ later. kept.listed k later) (contains_cases m k (marks_of c) is);
  }

  -- every legal step keeps it
  pub kept_after : (c : Core) → Kept w c → (s : Step) → legal w c s → Kept w (state_after c s)
  kept_after c kept (Claim by f) ok = let may = may_claim c kept f ok in
      both (Kept w) (is_claimed c f) _ _ (λ taken. kept) (λ free. claimed_more c kept by f may.0 may.1 free)
  kept_after c kept (Begin by i) ok = both (Kept w) (is_begun c i) _ _ (λ taken. kept) (λ free. begun_more c kept by i ok.0 ok.1 ok.2 free)
  kept_after c kept (MarkStep by m) ok = marked_more c kept by m
      (⊎_elim (λ root. sound.root_marks m root) (λ (t : (i : ℕ) × IsTrue (is_begun c i) × Marks w i m). sound.marks t.0 m t.2) ok) ok
  kept_after c kept (Read by) ok = kept

  -- it holds at the start
  pub kept_start : Kept w (start w)
  kept_start = record {
    claimed_len = length-replicate w.files false;
    begun_len = length-replicate (length w.items) false;
    flags_len = refl;
    claims = λ f. ap (λ (b : Bool). cond b 1 0) (sym (unmarked w.files f));
    begins = λ i. ap (λ (b : Bool). cond b 1 0) (sym (unmarked (length w.items) i));
    needed = λ f is. absurd (true≢false (sym is ∙ unmarked w.files f));
    owned = λ i it has is. absurd (true≢false (sym is ∙ unmarked (length w.items) i));
    flags = λ x h. sym (or_zero_r (get_or w.opening x 0));
    listed = λ m has. contains_none m has;
  }

  -- every list of legal steps keeps it
  pub kept_all : (c : Core) → Kept w c → (steps : List Step) → AllLegal w c steps → Kept w (after c steps)
  kept_all c kept [] ok = kept
  kept_all c kept (x ∷ xs) ok = kept_all (state_after c x) (kept_after c kept x ok.0) xs ok.1

  -- each state that legal steps lead to is kept
  pub kept_reached : (c : Core) → IsReached w c → Kept w c
  kept_reached c reached = subst (Kept w) reached.ends (kept_all (start w) kept_start reached.steps reached.legal)

  -- once all is read the claimed files are the least closed set
  pub least : (c : Core) → Kept w c → IsAllRead w c → IsLeastClosed (IsRoot w) (HasEdge w) w.files c.claimed
  least c kept all = record {
    each = kept.claimed_len;
    closed = (all.roots, λ f g held (t : HasEdge w f g). all.requests t.0 g (all.items t.0 t.1 t.2 (subst (λ k. IsTrue (is_claimed c k)) (sym t.3) held)) (t.1, t.2, t.4));
    least = λ other closed f held. kept.needed f held other closed;
  }

  -- once all is read the flags are the opening ones with the root marks and the marks of the items of the claimed files
  pub all_marked : (c : Core) → Kept w c → IsAllRead w c → (x : ℕ) → x < length w.opening → get_or c.flags x 0 ≡ marked w (is_claimed c) x
  all_marked c kept all x h = kept.flags x h ∙ within_same
      (within_both (within_trans (within_left opened (bits_for x w.root_marks)) (within_left _ (item_bits p x w.items)))
      (bits_within x (marks_of c) _ (λ m is at. ⊎_elim
      (λ root. within_trans (bits_has x w.root_marks m root at) (within_trans (within_right opened _) (within_left _ (item_bits p x w.items))))
      (λ (t : (i : ℕ) × IsTrue (is_begun c i) × Marks w i m). within_trans (bits_has x t.2.0.marks m t.2.2 at)
      (within_trans (item_has p x w.items t.0 t.2.0 t.2.1 (kept.owned t.0 t.2.0 t.2.1 t.1)) (within_right _ (item_bits p x w.items))))
      (kept.listed m is))))
      (within_both (within_both (within_left opened _) (within_trans (bits_within x w.root_marks _ (λ m is at. bits_has x (marks_of c) m (all.root_marks m is) at)) (within_right opened _)))
      (within_trans (item_within p x w.items _ (λ i it has claimed. bits_within x it.marks _ (λ m is at. bits_has x (marks_of c) m (all.marks i m (all.items i it has claimed) (it, has, is)) at))) (within_right opened _)))
    where
      p : ℕ → Bool
      p = is_claimed c

      opened : ℕ
      opened = get_or w.opening x 0
