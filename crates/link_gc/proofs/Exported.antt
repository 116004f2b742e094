-- Symbols to which other modules may bind, one after another.
use Rattle.std.proofs.Common.{◌≡◌, ◌↔◌, ◌+◌, ◌<◌, ◌∙◌, ℕ, zero, suc, ◌⊎◌, Bool, true, false, List, [], ◌∷◌, Option, Some, IsTrue, length, ap, arith, inl, inr, refl, subst, sym}
use Rattle.std.specs.Prelude.{◌&&◌, ◌==◌, not, slice_get, slice_index}
use Rattle.link_closure.specs.Graph.{IsMarked}
use Rattle.link_core_answer.specs.Parts.{Parts}
use Rattle.link_flags.specs.FlagBits as flag
use Rattle.link_input.specs.declared.options.Options.{Options}
use Rattle.link_input.specs.Entries.{is_local}
use Rattle.link_input.specs.Outputs.{is_shared_object}
use Rattle.link_input.specs.Symbols.{Symbol, entry_passes}
use Rattle.link_resolve.specs.Known.{Known}
use Rattle.link_rules.specs.FinalFlags.{final_flags}
use Rattle.link_rules.specs.Rivals.{is_in_loaded_regular, two_steps}
use Rattle.link_rules.specs.Selection.{Selection}
use Rattle.link_rules.specs.Undefined.{resolved}
use Rattle.link_rules.specs.World.{is_definition}
use Rattle.link_rules.proofs.Settled.{none_some, some_same}
use Rattle.link_gc_sections.specs.LiveSections.{is_exported}
use Rattle.link_gc.specs.Numbering.{IsOf, home_number}
use Rattle.link_gc.proofs.Rooted.{IsExportHome}

-- a number comes of one of these symbols, the first of which has this id
abbrev pub ComesOf : (ℕ → Symbol → ℕ → Type 0) → ℕ → List Symbol → ℕ → Type 0
ComesOf Gives next [] n = ⊥
ComesOf Gives next (x ∷ xs) n = Gives next x n ⊎ ComesOf Gives (next + 1) xs n

-- it comes of the symbol at a place
comes-at : (Gives : ℕ → Symbol → ℕ → Type 0) (next : ℕ) (xs : List Symbol) (n : ℕ) → ComesOf Gives next xs n → (k : ℕ) × (x : Symbol) × (slice_get xs k ≡ Some x) × Gives (next + k) x n
comes-at Gives next [] n never = absurd never
comes-at Gives next (x ∷ xs) n (inl gives) =
    let first : next ≡ next + 0 = omega arith in
    (0, x, refl, subst (λ i. Gives i x n) first gives)
comes-at Gives next (x ∷ xs) n (inr later) =
    let it = comes-at Gives (next + 1) xs n later in
    let place : next + 1 + it.0 ≡ next + suc it.0 = omega arith in
    (suc it.0, it.1, it.2, subst (λ i. Gives i it.1 n) place it.3)

-- what the symbol at a place gives comes of them
at-comes : (Gives : ℕ → Symbol → ℕ → Type 0) (next : ℕ) (xs : List Symbol) (n k : ℕ) (x : Symbol) (i : ℕ) → slice_get xs k ≡ Some x → i ≡ next + k → Gives i x n → ComesOf Gives next xs n
at-comes Gives next [] n k x i at is gives = absurd (none_some x at)
at-comes Gives next (y ∷ ys) n zero x i at is gives =
    let first : i ≡ next = omega (arith, is) in
    inl (subst (λ z. Gives next z n) (sym (some_same y x at)) (subst (λ j. Gives j x n) first gives))
at-comes Gives next (y ∷ ys) n (suc k) x i at is gives = let place : i ≡ next + 1 + k = omega (arith, is) in inr (at-comes Gives (next + 1) ys n k x i at place gives)

-- what is marked, and what comes of the symbols that are left, is what was marked, and what comes of all
abbrev pub AreMarkedTill : (ℕ → Symbol → ℕ → Type 0) → List Bool → List Symbol → List Bool → ℕ → List Symbol → Type 0
AreMarkedTill Gives old all new next left = (n : ℕ) → n < length old → (IsMarked new n ⊎ ComesOf Gives next left n) ↔ (IsMarked old n ⊎ ComesOf Gives 0 all n)

-- after one symbol more
till-more : (Gives : ℕ → Symbol → ℕ → Type 0) (old : List Bool) (all : List Symbol) (mid new : List Bool) (next : ℕ) (x : Symbol) (rest : List Symbol) → length mid ≡ length old
    → ((n : ℕ) → n < length mid → IsMarked new n ↔ (IsMarked mid n ⊎ Gives next x n)) → AreMarkedTill Gives old all mid next (x ∷ rest) → AreMarkedTill Gives old all new (next + 1) rest
till-more Gives old all mid new next x rest long step before n lt = ((λ is. (before n lt).0 (forth is)), (λ is. back ((before n lt).1 is)))
  where
    within : n < length mid
    within = omega (arith, lt, long)

    sooner : IsMarked mid n ⊎ Gives next x n → IsMarked mid n ⊎ (Gives next x n ⊎ ComesOf Gives (next + 1) rest n)
    sooner (inl is) = inl is
    sooner (inr gives) = inr (inl gives)

    forth : IsMarked new n ⊎ ComesOf Gives (next + 1) rest n → IsMarked mid n ⊎ ComesOf Gives next (x ∷ rest) n
    forth (inl is) = sooner ((step n within).0 is)
    forth (inr later) = inr (inr later)

    back : IsMarked mid n ⊎ ComesOf Gives next (x ∷ rest) n → IsMarked new n ⊎ ComesOf Gives (next + 1) rest n
    back (inl is) = inl ((step n within).1 (inl is))
    back (inr (inl gives)) = inl ((step n within).1 (inr gives))
    back (inr (inr later)) = inr later

-- the same by what a walk gives
pub till-next : (Gives : ℕ → Symbol → ℕ → Type 0) (old : List Bool) (all : List Symbol) (mid new : List Bool) (next id after : ℕ) (x : Symbol) (left rest : List Symbol) → length mid ≡ length old
    → id ≡ next → left ≡ x ∷ rest → after ≡ next + 1 → ((n : ℕ) → n < length mid → IsMarked new n ↔ (IsMarked mid n ⊎ Gives id x n))
    → AreMarkedTill Gives old all mid next left → AreMarkedTill Gives old all new after rest
till-next Gives old all mid new next id after x left rest long at is more step before =
    subst (λ i. AreMarkedTill Gives old all new i rest) (sym more)
    (till-more Gives old all mid new next x rest long (subst (λ i. (n : ℕ) → n < length mid → IsMarked new n ↔ (IsMarked mid n ⊎ Gives i x n)) at step)
    (subst (λ xs. AreMarkedTill Gives old all mid next xs) is before))

-- ---- exports

-- the symbol is exported, and this is the number of its home
abbrev pub IsExportOf : Selection → ℕ → Symbol → ℕ → Type 0
IsExportOf l s x n = IsTrue (is_exported (resolved l) s x) × (home_number l s ≡ Some n)

-- at the end they are those of all exports
pub till-end : (l : Selection) (old new : List Bool) (all : List Symbol) (next : ℕ) (left : List Symbol) → left ≡ [] → all ≡ l.stage.symbols → AreMarkedTill (IsExportOf l) old all new next left
    → (n : ℕ) → n < length old → IsMarked new n ↔ (IsMarked old n ⊎ IsExportHome l n)
till-end l old new all next left none are before n lt = ((λ is. forth ((ended n lt).0 (inl is))), (λ is. last ((ended n lt).1 (back is))))
  where
    ended : AreMarkedTill (IsExportOf l) old l.stage.symbols new next []
    ended = subst (λ xs. AreMarkedTill (IsExportOf l) old xs new next []) are (subst (λ xs. AreMarkedTill (IsExportOf l) old all new next xs) none before)

    forth : IsMarked old n ⊎ ComesOf (IsExportOf l) 0 l.stage.symbols n → IsMarked old n ⊎ IsExportHome l n
    forth (inl is) = inl is
    forth (inr comes) =
        let it = comes-at (IsExportOf l) 0 l.stage.symbols n comes in
        let place : 0 + it.0 ≡ it.0 = omega arith in
        let gives = subst (λ i. IsExportOf l i it.1 n) place it.3 in
        inr (it.0, it.1, it.2, gives.0, gives.1)

    back : IsMarked old n ⊎ IsExportHome l n → IsMarked old n ⊎ ComesOf (IsExportOf l) 0 l.stage.symbols n
    back (inl is) = inl is
    back (inr (s, x, at, exported, is)) = let place : s ≡ 0 + s = omega arith in inr (at-comes (IsExportOf l) 0 l.stage.symbols n s x s at place (exported, is))

    last : IsMarked new n ⊎ ComesOf (IsExportOf l) next [] n → IsMarked new n
    last (inl is) = is
    last (inr never) = absurd never

-- a conjunction of six has the first
six-first : (a b c d e f : Bool) → a ≡ false → (a && b && c && d && e && f) ≡ true → ⊥
six-first true b c d e f first is = cc
six-first false b c d e f first is = let never : false ≡ true = is in cc

-- where the output isn't shared, nothing is exported
pub none-exported : (l : Selection) (s : ℕ) (x : Symbol) → is_shared_object l.stage.options.output ≡ false → IsTrue (is_exported (resolved l) s x) → ⊥
none-exported l s x shared exported =
    six-first (is_shared_object l.stage.options.output) (is_in_loaded_regular l.marks x.origin) (is_definition x) (not (entry_passes (λ e. is_local e.binding) x.origin))
    (two_steps (resolved l).table s == s) (not (flag.has (slice_index (final_flags (resolved l)) s) flag.downgrade_to_local)) shared exported

-- so the marks of exports are those that were there
pub no-exports : (l : Selection) (marks : List Bool) → is_shared_object l.stage.options.output ≡ false → (n : ℕ) → n < length marks → IsMarked marks n ↔ (IsMarked marks n ⊎ IsExportHome l n)
no-exports l marks shared n lt = ((λ is. inl is), (λ is. back is))
  where
    back : IsMarked marks n ⊎ IsExportHome l n → IsMarked marks n
    back (inl is) = is
    back (inr (s, x, at, exported, is)) = absurd (none-exported l s x shared exported)

-- the parts of the test besides the output
abbrev pub is_bindable : List Bool → List ℕ → List ℕ → ℕ → Symbol → Bool
is_bindable marks table flags s x = is_in_loaded_regular marks x.origin && is_definition x && not (entry_passes (λ e. is_local e.binding) x.origin)
    && two_steps table s == s && not (flag.has (slice_index flags s) flag.downgrade_to_local)

-- where the output is shared, the rest of the test tells
exported-is : {P : Type 0} (l : Selection) (p : Parts P) (s : ℕ) (x : Symbol) → IsOf l p → is_shared_object l.stage.options.output ≡ true
    → is_exported (resolved l) s x ≡ is_bindable p.known.marks p.db.table p.flags s x
exported-is l p s x of shared =
    ap (λ (b : Bool). b && is_in_loaded_regular l.marks x.origin && is_definition x && not (entry_passes (λ e. is_local e.binding) x.origin)
    && two_steps (resolved l).table s == s && not (flag.has (slice_index (final_flags (resolved l)) s) flag.downgrade_to_local)) shared
    ∙ (ap (λ flags. is_bindable l.marks (resolved l).table flags s x) (sym of.flags)
    ∙ (ap (λ table. is_bindable l.marks table p.flags s x) (sym of.table)
    ∙ ap (λ marks. is_bindable marks p.db.table p.flags s x) (ap (λ (k : Known). k.marks) (sym of.kept.known_is))))

-- so what comes of the rest comes of the test
pub exported-by : {P : Type 0} (l : Selection) (p : Parts P) (s : ℕ) (x : Symbol) (told b : Bool) → IsOf l p → is_shared_object p.db.options.output ≡ true
    → told ≡ is_bindable p.known.marks p.db.table p.flags s x → told ≡ b → is_exported (resolved l) s x ≡ b
exported-by l p s x told b of shared tells is =
    let output : is_shared_object l.stage.options.output ≡ true = ap (λ (o : Options). is_shared_object o.output) (sym of.kept.options) ∙ shared in
    let rest = is_bindable p.known.marks p.db.table p.flags s x in
    exported-is l p s x of output ∙ (sym {b = rest} tells ∙ is)

-- a symbol more to which other modules may bind
pub export-more : (l : Selection) (s : ℕ) (x : Symbol) (mid new : List Bool) (home : Option ℕ) → is_exported (resolved l) s x ≡ true → home ≡ home_number l s
    → ((n : ℕ) → n < length mid → IsMarked new n ↔ (IsMarked mid n ⊎ (home ≡ Some n))) → (n : ℕ) → n < length mid → IsMarked new n ↔ (IsMarked mid n ⊎ IsExportOf l s x n)
export-more l s x mid new home exported is step n lt = ((λ held. forth ((step n lt).0 held)), (λ held. (step n lt).1 (back held)))
  where
    forth : IsMarked mid n ⊎ (home ≡ Some n) → IsMarked mid n ⊎ IsExportOf l s x n
    forth (inl held) = inl held
    forth (inr gives) = inr (exported, sym is ∙ gives)

    back : IsMarked mid n ⊎ IsExportOf l s x n → IsMarked mid n ⊎ (home ≡ Some n)
    back (inl held) = inl held
    back (inr (held, gives)) = inr (is ∙ gives)

-- one to which they may not
pub export-past : (l : Selection) (s : ℕ) (x : Symbol) (marks : List Bool) → is_exported (resolved l) s x ≡ false
    → (n : ℕ) → n < length marks → IsMarked marks n ↔ (IsMarked marks n ⊎ IsExportOf l s x n)
export-past l s x marks not_so n lt = ((λ held. inl held), (λ held. back held))
  where
    back : IsMarked marks n ⊎ IsExportOf l s x n → IsMarked marks n
    back (inl held) = held
    back (inr (exported, gives)) = absurd (clash (is_exported (resolved l) s x) exported not_so)
      where
        clash : (b : Bool) → b ≡ true → b ≡ false → ⊥
        clash true so never = cc
        clash false never so = cc
