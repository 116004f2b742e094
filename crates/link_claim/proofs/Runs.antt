-- A step on the words is a step of the core.
use mathlib.Core.Logic.{dite}
use mathlib.Core.Option.{some}
use lib.ListN.{get_elem?}
use native.Mathlib.Decide.{ℕ_discrete}
use Rattle.std.proofs.Common.{◌⊎◌, inl, inr, ⊎_elim, ◌≡◌, ◌≢◌, ℕ, ◌+◌, ◌<◌, List, [], ◌∷◌, ◌++◌, Bool, true, false, true≢false, sym, refl, ap, ◌∙◌, subst, arith, bit_or, length, get_or, set, cond, get_or-set_same, get_or-set_other}
use Rattle.std.specs.Prelude.{Contains, IsTrue}
use Rattle.link_closure.specs.Closure.{is_marked}
use Rattle.link_closure.specs.declared.workload.Mark.{Mark}
use Rattle.link_closure.specs.declared.workload.Item.{Item}
use Rattle.link_closure.specs.declared.workload.Workload.{Workload}
use Rattle.link_claim.specs.declared.state.Core.{Core}
use Rattle.link_claim.specs.declared.state.Claimed.{Claimed}
use Rattle.link_claim.specs.declared.state.Begun.{Begun}
use Rattle.link_claim.specs.declared.state.Marked.{Marked}
use Rattle.link_claim.specs.declared.state.Step.{Step}
use Rattle.link_claim.specs.declared.state.Step.TheVariants.{Claim, Begin, Mark as MarkStep}
use Rattle.link_claim.specs.declared.view.View.{View}
use Rattle.link_closure.specs.Workload.{HasItem, Requests, Marks, IsRoot, IsSound}
use Rattle.link_claim.specs.Workload.{begin_base, flag_base}
use Rattle.link_claim.specs.Steps.{start, is_claimed, is_begun, legal, state_after, after, AllLegal, IsReached}
use Rattle.link_claim.specs.Rule.{AreListsOf, IsRun, seat_at}
use Rattle.link_claim.specs.Views.{first_view}
use Rattle.link_claim.proofs.Held.{seat_is, seat_set, seat_snoc, passed_on, passed_else, held_same, held_more, held_new, held_joined}
use Rattle.link_claim.proofs.Kept.{kept_reached, item_index, bit_now}

-- one more step at the end
after_snoc : (c : Core) (xs : List Step) (y : Step) → after c (xs ++ y ∷ []) ≡ state_after (after c xs) y
after_snoc c [] y = refl
after_snoc c (x ∷ xs) y = after_snoc (state_after c x) xs y

-- one more legal step at the end
legal_snoc : (w : Workload) (c : Core) (xs : List Step) (y : Step) → AllLegal w c xs → legal w (after c xs) y → AllLegal w c (xs ++ y ∷ [])
legal_snoc w c [] y ok may = (may, tt)
legal_snoc w c (x ∷ xs) y ok may = (ok.0, legal_snoc w (state_after c x) xs y ok.1 may)

-- one more legal step
reached_more : (w : Workload) (c next : Core) (y : Step) → IsReached w c → legal w c y → state_after c y ≡ next → IsReached w next
reached_more w c next y reached may is = record {
  steps = reached.steps ++ y ∷ [];
  legal = legal_snoc w (start w) reached.steps y reached.legal (subst (λ d. legal w d y) (sym reached.ends) may);
  ends = after_snoc (start w) reached.steps y ∙ ap (λ d. state_after d y) reached.ends ∙ is;
}

-- a word that shows a bit
shows_set : (b : Bool) (n : ℕ) → n ≡ cond b 1 0 → n ≡ 1 → b ≡ true
shows_set true n e one = refl
shows_set false n e one = absurd (omega arith)

-- a word that shows an unset bit
shows_unset : (b : Bool) (n : ℕ) → n ≡ cond b 1 0 → n ≡ 0 → b ≡ false
shows_unset true n e zero_is = absurd (omega arith)
shows_unset false n e zero_is = refl

-- ---- the lists

module _ (w : Workload) (core : Core) (views : List View) (lists : AreListsOf w core views) where
  -- a live seat holds what it did
  pub own_is : (id : ℕ) (v : View) → get_elem? views id ≡ some v → IsTrue v.live → lists.holder id ≡ id
  own_is id v at live = lists.own id (subst (λ (z : View). IsTrue z.live) (sym (seat_is w views id v at)) live)

  -- each live seat is its own after one of them changed
  own_set : (id : ℕ) (v u : View) → get_elem? views id ≡ some v → u.live ≡ v.live → (j : ℕ) → IsTrue (seat_at w (set views id u) j).live → lists.holder j ≡ j
  own_set id v u at same j live = lists.own j (⊎_elim
      (λ (t : (j ≡ id) × (seat_at w (set views id u) j ≡ u)). ap (λ k. (seat_at w views k).live) t.0 ∙ ap (λ (z : View). z.live) (seat_is w views id v at) ∙ sym same ∙ ap (λ (z : View). z.live) (sym t.1) ∙ live)
      (λ (t : (j ≢ id) × (seat_at w (set views id u) j ≡ seat_at w views j)). ap (λ (z : View). z.live) (sym t.1) ∙ live)
      (seat_set w views id v u at j))

  -- a view changes, and lists the same
  lists_same : (id : ℕ) (v u : View) → get_elem? views id ≡ some v → u.live ≡ v.live → u.claims ≡ v.claims → u.begins ≡ v.begins → u.marks ≡ v.marks → AreListsOf w core (set views id u)
  lists_same id v u at live claims begins marks = record {
    holder = lists.holder;
    own = own_set id v u at live;
    claims = held_same (λ (k : Claimed). k.worker) (λ k. k.file) lists.holder (λ z. z.claims) w core.claims views lists.claims id v u at claims;
    begins = held_same (λ (k : Begun). k.worker) (λ k. k.item) lists.holder (λ z. z.begins) w core.begins views lists.begins id v u at begins;
    marks = held_same (λ (k : Marked). k.worker) (λ k. k.mark) lists.holder (λ z. z.marks) w core.marks views lists.marks id v u at marks;
  }

  -- a seat claims a file
  lists_claim : (id f : ℕ) (v u : View) (bits : List Bool) → get_elem? views id ≡ some v → IsTrue v.live → u.live ≡ v.live → u.claims ≡ f ∷ v.claims → u.begins ≡ v.begins → u.marks ≡ v.marks
      → AreListsOf w (record core { claimed = bits; claims = record { worker = id; file = f } ∷ core.claims }) (set views id u)
  lists_claim id f v u bits at live same claims begins marks = record {
    holder = lists.holder;
    own = own_set id v u at same;
    claims = held_more (λ (k : Claimed). k.worker) (λ k. k.file) lists.holder (λ z. z.claims) w core.claims views lists.claims id v u (record { worker = id; file = f }) at (own_is id v at live) claims;
    begins = held_same (λ (k : Begun). k.worker) (λ k. k.item) lists.holder (λ z. z.begins) w core.begins views lists.begins id v u at begins;
    marks = held_same (λ (k : Marked). k.worker) (λ k. k.mark) lists.holder (λ z. z.marks) w core.marks views lists.marks id v u at marks;
  }

  -- a seat begins an item
  lists_begin : (id i : ℕ) (v u : View) (bits : List Bool) → get_elem? views id ≡ some v → IsTrue v.live → u.live ≡ v.live → u.claims ≡ v.claims → u.begins ≡ i ∷ v.begins → u.marks ≡ v.marks
      → AreListsOf w (record core { begun = bits; begins = record { worker = id; item = i } ∷ core.begins }) (set views id u)
  lists_begin id i v u bits at live same claims begins marks = record {
    holder = lists.holder;
    own = own_set id v u at same;
    claims = held_same (λ (k : Claimed). k.worker) (λ k. k.file) lists.holder (λ z. z.claims) w core.claims views lists.claims id v u at claims;
    begins = held_more (λ (k : Begun). k.worker) (λ k. k.item) lists.holder (λ z. z.begins) w core.begins views lists.begins id v u (record { worker = id; item = i }) at (own_is id v at live) begins;
    marks = held_same (λ (k : Marked). k.worker) (λ k. k.mark) lists.holder (λ z. z.marks) w core.marks views lists.marks id v u at marks;
  }

  -- a seat makes a mark
  lists_mark : (id : ℕ) (m : Mark) (v u : View) (flags : List ℕ) → get_elem? views id ≡ some v → IsTrue v.live → u.live ≡ v.live → u.claims ≡ v.claims → u.begins ≡ v.begins → u.marks ≡ m ∷ v.marks
      → AreListsOf w (record core { flags = flags; marks = record { worker = id; mark = m } ∷ core.marks }) (set views id u)
  lists_mark id m v u flags at live same claims begins marks = record {
    holder = lists.holder;
    own = own_set id v u at same;
    claims = held_same (λ (k : Claimed). k.worker) (λ k. k.file) lists.holder (λ z. z.claims) w core.claims views lists.claims id v u at claims;
    begins = held_same (λ (k : Begun). k.worker) (λ k. k.item) lists.holder (λ z. z.begins) w core.begins views lists.begins id v u at begins;
    marks = held_more (λ (k : Marked). k.worker) (λ k. k.mark) lists.holder (λ z. z.marks) w core.marks views lists.marks id v u (record { worker = id; mark = m }) at (own_is id v at live) marks;
  }

  -- a seat comes, and lists nothing
  lists_new : (u : View) → u.claims ≡ [] → u.begins ≡ [] → u.marks ≡ [] → AreListsOf w core (views ++ u ∷ [])
  lists_new u claims begins marks = record {
    holder = lists.holder;
    own = λ j live. lists.own j (⊎_elim
        (λ (same : seat_at w (views ++ u ∷ []) j ≡ seat_at w views j). ap (λ (z : View). z.live) (sym same) ∙ live)
        (λ (t : (seat_at w (views ++ u ∷ []) j ≡ u) × (seat_at w views j ≡ first_view w)). ap (λ (z : View). z.live) t.1)
        (seat_snoc w views u j));
    claims = held_new (λ (k : Claimed). k.worker) (λ k. k.file) lists.holder (λ z. z.claims) w core.claims views lists.claims u claims;
    begins = held_new (λ (k : Begun). k.worker) (λ k. k.item) lists.holder (λ z. z.begins) w core.begins views lists.begins u begins;
    marks = held_new (λ (k : Marked). k.worker) (λ k. k.mark) lists.holder (λ z. z.marks) w core.marks views lists.marks u marks;
  }

  -- a seat takes over what another holds
  lists_joined : (id other : ℕ) (v u both spent : View) → other ≢ id → get_elem? views id ≡ some v → get_elem? views other ≡ some u → get_elem? (set views id both) other ≡ some u → both.live ≡ v.live → spent.live ≡ false
      → both.claims ≡ v.claims ++ u.claims → both.begins ≡ v.begins ++ u.begins → both.marks ≡ v.marks ++ u.marks → spent.claims ≡ [] → spent.begins ≡ [] → spent.marks ≡ []
      → AreListsOf w core (set (set views id both) other spent)
  lists_joined id other v u both spent apart at there there_still live off claims begins marks no_claims no_begins no_marks = record {
    holder = passed_on id other lists.holder;
    own = λ j is. ⊎_elim
        (λ (t : (j ≡ other) × (seat_at w (set (set views id both) other spent) j ≡ spent)). absurd (true≢false (sym is ∙ ap (λ (z : View). z.live) t.1 ∙ off)))
        (λ (t : (j ≢ other) × (seat_at w (set (set views id both) other spent) j ≡ seat_at w (set views id both) j)).
        let own = own_set id v both at live j (ap (λ (z : View). z.live) (sym t.1) ∙ is) in passed_else id other lists.holder j (λ e. t.0 (sym own ∙ e)) ∙ own)
        (seat_set w (set views id both) other u spent there_still j);
    claims = held_joined (λ (k : Claimed). k.worker) (λ k. k.file) lists.holder id other apart (λ z. z.claims) w core.claims views lists.claims v u both spent at there there_still claims no_claims;
    begins = held_joined (λ (k : Begun). k.worker) (λ k. k.item) lists.holder id other apart (λ z. z.begins) w core.begins views lists.begins v u both spent at there there_still begins no_begins;
    marks = held_joined (λ (k : Marked). k.worker) (λ k. k.mark) lists.holder id other apart (λ z. z.marks) w core.marks views lists.marks v u both spent at there there_still marks no_marks;
  }

-- ---- the runs

module _ (w : Workload) (sound : IsSound w) where
  module _ (words : List ℕ) (views : List View) (run : IsRun w words views) where
    -- a seat comes, and lists nothing
    pub run_new : (u : View) → u.claims ≡ [] → u.begins ≡ [] → u.marks ≡ [] → IsRun w words (views ++ u ∷ [])
    run_new u claims begins marks = record { core = run.core; reached = run.reached; words_of = run.words_of; lists_of = lists_new w run.core views run.lists_of u claims begins marks }

    -- a seat takes over what another holds
    pub run_joined : (id other : ℕ) (v u both spent : View) → other ≢ id → get_elem? views id ≡ some v → get_elem? views other ≡ some u → get_elem? (set views id both) other ≡ some u → both.live ≡ v.live → spent.live ≡ false
        → both.claims ≡ v.claims ++ u.claims → both.begins ≡ v.begins ++ u.begins → both.marks ≡ v.marks ++ u.marks → spent.claims ≡ [] → spent.begins ≡ [] → spent.marks ≡ []
        → IsRun w words (set (set views id both) other spent)
    run_joined id other v u both spent apart at there there_still live off claims begins marks no_claims no_begins no_marks =
        record { core = run.core; reached = run.reached; words_of = run.words_of; lists_of = lists_joined w run.core views run.lists_of id other v u both spent apart at there there_still live off claims begins marks no_claims no_begins no_marks }

  module _ (words : List ℕ) (views : List View) (run : IsRun w words views) (id : ℕ) (v u : View) (at : get_elem? views id ≡ some v) (live : IsTrue v.live) (same : u.live ≡ v.live) where
    -- no word changes, and the view lists the same
    pub run_still : u.claims ≡ v.claims → u.begins ≡ v.begins → u.marks ≡ v.marks → IsRun w words (set views id u)
    run_still claims begins marks = record { core = run.core; reached = run.reached; words_of = run.words_of; lists_of = lists_same w run.core views run.lists_of id v u at same claims begins marks }

    -- an item whose word is 1 is begun in the core
    begun_now : (i : ℕ) → i < length w.items → get_or words (begin_base w + i) 0 ≡ 1 → IsTrue (is_begun run.core i)
    begun_now i lt one = shows_set _ _ (run.words_of.begun i lt) one

    -- a claim word goes from 0 to 1: the core claims the file
    pub run_claim : (f : ℕ) → f < w.files → 1 + f < length words → get_or words (1 + f) 0 ≡ 0 → IsRoot w f ⊎ ((i : ℕ) × (get_or words (begin_base w + i) 0 ≡ 1) × Requests w i f)
        → u.claims ≡ f ∷ v.claims → u.begins ≡ v.begins → u.marks ≡ v.marks → IsRun w (set words (1 + f) 1) (set views id u)
    run_claim f lt within free asked claims begins marks =
        let c = run.core in
        let kept = kept_reached w sound c run.reached in
        let len = kept.claimed_len in
        let inside : f < length c.claimed = omega arith in
        let off : is_claimed c f ≡ false = shows_unset _ _ (run.words_of.claimed f lt) free in
        let next : Core = record c { claimed = set c.claimed f true; claims = record { worker = id; file = f } ∷ c.claims } in
        let may : legal w c (Claim id f) = ⊎_elim (λ root. inl root) (λ (t : (i : ℕ) × (get_or words (begin_base w + i) 0 ≡ 1) × Requests w i f). inr (t.0, begun_now t.0 (item_index w.items t.0 t.2.0 t.2.1) t.1, t.2)) asked in
        record {
          core = next;
          reached = reached_more w c next (Claim id f) run.reached may (ap (λ b. cond b c next) off);
          lists_of = lists_claim w c views run.lists_of id f v u (set c.claimed f true) at live same claims begins marks;
          words_of = record {
            claimed = λ g g_lt. ⊎_elim
                (λ (t : (g ≡ f) × (is_marked (set c.claimed f true) g ≡ true)). subst (λ k. get_or (set words (1 + f) 1) (1 + k) 0 ≡ 1) (sym t.0) (get_or-set_same words (1 + f) 1 0 within)
                ∙ ap (λ (b : Bool). cond {A = ℕ} b 1 0) (sym t.1))
                (λ (t : (g ≢ f) × (is_marked (set c.claimed f true) g ≡ is_claimed c g)). get_or-set_other words (1 + f) (1 + g) 1 0 (λ e. t.0 (omega arith)) ∙ run.words_of.claimed g g_lt
                ∙ ap (λ (b : Bool). cond {A = ℕ} b 1 0) (sym t.1))
                (bit_now c.claimed f g inside);
            begun = λ i i_lt. get_or-set_other words (1 + f) (begin_base w + i) 1 0 (λ e. omega arith) ∙ run.words_of.begun i i_lt;
            flags = λ x x_lt. get_or-set_other words (1 + f) (flag_base w + x) 1 0 (λ e. omega arith) ∙ run.words_of.flags x x_lt;
          };
        }

    -- a begin word goes from 0 to 1: the core begins the item
    pub run_begin : (i : ℕ) (it : Item) → HasItem w i it → begin_base w + i < length words → get_or words (begin_base w + i) 0 ≡ 0 → get_or words (1 + it.file) 0 ≡ 1
        → u.claims ≡ v.claims → u.begins ≡ i ∷ v.begins → u.marks ≡ v.marks → IsRun w (set words (begin_base w + i) 1) (set views id u)
    run_begin i it has within free claimed_is claims begins marks =
        let c = run.core in
        let kept = kept_reached w sound c run.reached in
        let len = kept.begun_len in
        let lt = item_index w.items i it has in
        let inside : i < length c.begun = omega arith in
        let off : is_begun c i ≡ false = shows_unset _ _ (run.words_of.begun i lt) free in
        let next : Core = record c { begun = set c.begun i true; begins = record { worker = id; item = i } ∷ c.begins } in
        let may : legal w c (Begin id i) = (it, has, shows_set _ _ (run.words_of.claimed it.file (sound.items i it has)) claimed_is) in
        let j : ℕ = begin_base w + i in
        record {
          core = next;
          reached = reached_more w c next (Begin id i) run.reached may (ap (λ b. cond b c next) off);
          lists_of = lists_begin w c views run.lists_of id i v u (set c.begun i true) at live same claims begins marks;
          words_of = record {
            claimed = λ f f_lt. get_or-set_other words j (1 + f) 1 0 (λ e. omega arith) ∙ run.words_of.claimed f f_lt;
            begun = λ k k_lt. ⊎_elim
                (λ (t : (k ≡ i) × (is_marked (set c.begun i true) k ≡ true)). subst (λ m. get_or (set words j 1) (begin_base w + m) 0 ≡ 1) (sym t.0) (get_or-set_same words j 1 0 within)
                ∙ ap (λ (b : Bool). cond {A = ℕ} b 1 0) (sym t.1))
                (λ (t : (k ≢ i) × (is_marked (set c.begun i true) k ≡ is_begun c k)). get_or-set_other words j (begin_base w + k) 1 0 (λ e. t.0 (omega arith)) ∙ run.words_of.begun k k_lt
                ∙ ap (λ (b : Bool). cond {A = ℕ} b 1 0) (sym t.1))
                (bit_now c.begun i k inside);
            flags = λ x x_lt. get_or-set_other words j (flag_base w + x) 1 0 (λ e. omega arith) ∙ run.words_of.flags x x_lt;
          };
        }

    -- bits are joined to a flag word: the core marks the symbol
    pub run_mark : (m : Mark) → m.symbol < length w.opening → flag_base w + m.symbol < length words
        → Contains w.root_marks m ⊎ ((i : ℕ) × (get_or words (begin_base w + i) 0 ≡ 1) × Marks w i m) → (n : ℕ) → n ≡ bit_or (get_or words (flag_base w + m.symbol) 0) m.bits
        → u.claims ≡ v.claims → u.begins ≡ v.begins → u.marks ≡ m ∷ v.marks → IsRun w (set words (flag_base w + m.symbol) n) (set views id u)
    run_mark m lt within asked n n_is claims begins marks =
        let c = run.core in
        let kept = kept_reached w sound c run.reached in
        let len = kept.flags_len in
        let x : ℕ = m.symbol in
        let inside : x < length c.flags = omega arith in
        let j : ℕ = flag_base w + x in
        let n' : ℕ = bit_or (get_or c.flags x 0) m.bits in
        let joined_is : n ≡ n' = n_is ∙ ap (λ k. bit_or k m.bits) (run.words_of.flags x lt) in
        let next : Core = record c { flags = set c.flags x n'; marks = record { worker = id; mark = m } ∷ c.marks } in
        let may : legal w c (MarkStep id m) = ⊎_elim (λ root. inl root) (λ (t : (i : ℕ) × (get_or words (begin_base w + i) 0 ≡ 1) × Marks w i m). inr (t.0, begun_now t.0 (item_index w.items t.0 t.2.0 t.2.1) t.1, t.2)) asked in
        record {
          core = next;
          reached = reached_more w c next (MarkStep id m) run.reached may refl;
          lists_of = lists_mark w c views run.lists_of id m v u (set c.flags x n') at live same claims begins marks;
          words_of = record {
            claimed = λ f f_lt. get_or-set_other words j (1 + f) n 0 (λ e. omega arith) ∙ run.words_of.claimed f f_lt;
            begun = λ k k_lt. get_or-set_other words j (begin_base w + k) n 0 (λ e. omega arith) ∙ run.words_of.begun k k_lt;
            flags = λ y y_lt. dite (ℕ_discrete y x)
                (λ (e : y ≡ x). subst (λ k. get_or (set words j n) (flag_base w + k) 0 ≡ n) (sym e) (get_or-set_same words j n 0 within) ∙ joined_is
                ∙ sym (subst (λ k. get_or (set c.flags x n') k 0 ≡ n') (sym e) (get_or-set_same c.flags x n' 0 inside)))
                (λ (ne : y ≢ x). get_or-set_other words j (flag_base w + y) n 0 (λ e. ne (omega arith)) ∙ run.words_of.flags y y_lt
                ∙ sym (get_or-set_other c.flags x y n' 0 ne));
          };
        }
