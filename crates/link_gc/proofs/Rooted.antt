-- What is marked in any case are the sections that are kept whatever refers to them.
use Rattle.std.proofs.Common.{◌≡◌, ◌↔◌, ◌+◌, ◌<◌, ◌≤◌, ◌∙◌, ℕ, zero, suc, ◌⊎◌, Bool, true, false, List, [], ◌∷◌, Option, None, Some, Contains, IsTrue, length, map, replicate, take, ap, arith, inl, inr, refl, subst, sym, length-append}
use Rattle.std.specs.Prelude.{◌&&◌, nat_lt, not, option_map, slice_get}
use Rattle.std.specs.List.{enumerate_from}
use Rattle.std.specs.Option.{option_map_or}
use Rattle.std.proofs.lemmas.Bool.{ltb-true}
use Rattle.std.proofs.lemmas.List.{length-map, take_all}
use Rattle.std.proofs.lemmas.Option.{slice_get_within}
use Rattle.link_closure.specs.Closure.{is_marked}
use Rattle.link_closure.specs.Graph.{IsMarked}
use Rattle.link_closure.proofs.Layers.{marked-within}
use Rattle.link_core_answer.specs.Parts.{Parts}
use Rattle.link_db.specs.Database.{symbol_names}
use Rattle.link_input.specs.InputFiles.{sections_of}
use Rattle.link_input.specs.Limits.{total}
use Rattle.link_input.specs.ObjectFile.{ObjectFile}
use Rattle.link_input.specs.Symbols.{Symbol}
use Rattle.link_rules.specs.Loading.{root_names, root_symbols}
use Rattle.link_rules.specs.Names.{first_definition}
use Rattle.link_rules.specs.Places.{Bytes}
use Rattle.link_rules.specs.Selection.{Selection}
use Rattle.link_rules.specs.Undefined.{Numbered, resolved}
use Rattle.link_rules.specs.World.{Stage}
use Rattle.link_rules.proofs.AllRoots.{given-from}
use Rattle.link_rules.proofs.Members.{numbered_in}
use Rattle.link_rules.proofs.Ranges.{first_definition-symbol}
use Rattle.link_rules.proofs.Settled.{none_some, some_same}
use Rattle.link_rules.proofs.Twice.{numbered_at}
use Rattle.link_gc_sections.specs.LiveSections.{IsRootNumber, SectionPlace, home, is_exported, is_gone, is_loaded_section, is_node, section_count, section_number}
use Rattle.link_gc.specs.Numbering.{IsOf, home_number, node_number}
use Rattle.link_gc.proofs.Alike.{home-of, node-of, number-of}
use Rattle.link_gc.proofs.MarkedItems.{AreMarked}

-- ---- what is marked

-- a section of the object at this place has this number
abbrev pub HasNumber : Selection → ℕ → ℕ → ℕ → Type 0
HasNumber l f section n = node_number l (f, section) ≡ Some n

-- the home of the symbol has it
abbrev pub HasHome : Selection → ℕ → ℕ → Type 0
HasHome l s n = home_number l s ≡ Some n

-- a section that the object retains has this number
abbrev pub IsRetainedOf : Selection → ℕ × ObjectFile → ℕ → Type 0
IsRetainedOf l o n = (section : ℕ) × Contains o.1.object.retained_sections section × (node_number l (o.0, section) ≡ Some n)

-- one that some object retains
abbrev pub IsRetainedAmong : Selection → List (ℕ × ObjectFile) → ℕ → Type 0
IsRetainedAmong l objects n = (o : ℕ × ObjectFile) × (section : ℕ) × Contains objects o × Contains o.1.object.retained_sections section × (node_number l (o.0, section) ≡ Some n)

-- the home of one of the symbols
abbrev pub IsHomeAmong : Selection → List ℕ → ℕ → Type 0
IsHomeAmong l symbols n = (s : ℕ) × Contains symbols s × (home_number l s ≡ Some n)

-- the home of a definition to which other modules may bind
abbrev pub IsExportHome : Selection → ℕ → Type 0
IsExportHome l n = (s : ℕ) × (x : Symbol) × (slice_get l.stage.symbols s ≡ Some x) × IsTrue (is_exported (resolved l) s x) × (home_number l s ≡ Some n)

-- the marks of all objects
pub all-retained : (l : Selection) (objects : List (ℕ × ObjectFile)) (old new : List Bool) → AreMarked (IsRetainedOf l) old objects new
    → (n : ℕ) → n < length old → IsMarked new n ↔ (IsMarked old n ⊎ IsRetainedAmong l objects n)
all-retained l objects old new all n lt = ((λ is. forth ((all n lt).0 is)), (λ is. (all n lt).1 (back is)))
  where
    forth : IsMarked old n ⊎ ((o : ℕ × ObjectFile) × Contains objects o × IsRetainedOf l o n) → IsMarked old n ⊎ IsRetainedAmong l objects n
    forth (inl is) = inl is
    forth (inr (o, within, (section, retained, is))) = inr (o, section, within, retained, is)

    back : IsMarked old n ⊎ IsRetainedAmong l objects n → IsMarked old n ⊎ ((o : ℕ × ObjectFile) × Contains objects o × IsRetainedOf l o n)
    back (inl is) = inl is
    back (inr (o, section, within, retained, is)) = inr (o, within, (section, retained, is))

-- where nothing is marked, no number is
pub none-marked : (count n : ℕ) → IsMarked (replicate count false) n → ⊥
none-marked zero n marked = absurd cc
none-marked (suc count) zero marked = absurd cc
none-marked (suc count) (suc n) marked = none-marked count n marked

-- ---- roots are symbols

-- the symbols that root names are mapped to are symbols of the link
pub root-below : {P : Type 0} (l : Selection) (p : Parts P) (s : ℕ) → IsOf l p → Contains p.roots s → s < length (symbol_names p.db)
root-below l p s of within =
    let named = given-from (first_definition l.stage) (root_names l.stage) s (subst (λ (ss : List ℕ). Contains ss s) of.roots within) in
    let symbol = first_definition-symbol l.stage named.0 s named.2 in
    let there = slice_get_within l.stage.symbols s symbol.symbol symbol.at in
    let all = ap (λ (names : List Bytes). length names) of.names in
    let parts = length-append (map (λ (x : Symbol). x.name) l.stage.symbols) (map (λ (m : Numbered). m.1.name) (resolved l).made) in
    let count = length-map l.stage.symbols (λ (x : Symbol). x.name) in
    omega (arith, there, all, parts, count)

-- ---- numbers are below the count

-- an element and those before it come to no more than all
total-within : {X : Type 0} (f : X → ℕ) (xs : List X) (i : ℕ) (x : X) → slice_get xs i ≡ Some x → total f (take i xs) + f x ≤ total f xs
total-within f [] i x at = absurd (none_some x at)
total-within f (y ∷ ys) zero x at = let same = ap f (some_same y x at) in omega (arith, same)
total-within f (y ∷ ys) (suc i) x at = let rest = total-within f ys i x at in omega (arith, rest)

-- a conjunction has both parts
both-parts : (a b : Bool) → (a && b) ≡ true → (a ≡ true) × (b ≡ true)
both-parts true b is = (refl, is)
both-parts false b is = absurd cc

-- the number of a section of an object that is there is below the count
place-below : (w : Stage) (p : SectionPlace) (o : Option ObjectFile) → slice_get w.objects p.0 ≡ o → option_map_or (λ o. nat_lt p.1 (sections_of o)) o false ≡ true → section_number w p < section_count w
place-below w p None at is = absurd cc
place-below w p (Some o) at is =
    let own : p.1 < sections_of o = ltb-true p.1 (sections_of o) is in
    let before = total-within sections_of w.objects p.0 o at in
    let all : total sections_of (take (length w.objects) w.objects) ≡ total sections_of w.objects = ap (total sections_of) (take_all (length w.objects) w.objects (omega arith)) in
    omega (arith, own, before, all)

-- the number of a section that may be kept is below the count
pub node-below : (l : Selection) (p : SectionPlace) → IsTrue (is_node l p) → section_number l.stage p < section_count l.stage
node-below l p node =
    let loaded = both-parts (is_loaded_section l p) (not (is_gone l p)) node in
    let there = both-parts (is_marked l.marks p.0) (option_map_or (λ o. nat_lt p.1 (sections_of o)) (slice_get l.stage.objects p.0) false) loaded.0 in
    place-below l.stage p (slice_get l.stage.objects p.0) refl there.1

-- ---- roots

-- what objects retain is kept
retained-root : (l : Selection) (n : ℕ) → IsRetainedAmong l (enumerate_from 0 l.stage.objects) n → IsRootNumber (resolved l) n
retained-root l n (o, section, within, retained, is) =
    let place = numbered_at 0 l.stage.objects o within in
    let at : place.0 ≡ o.0 = let same = place.2 in omega (arith, same) in
    let there : slice_get l.stage.objects o.0 ≡ Some o.1 = ap (slice_get l.stage.objects) (sym at) ∙ place.1 in
    let node = node-of l (o.0, section) n is in
    ((o.0, section), node.1, (node.0, inl (o.1, there, retained)))

-- the homes of what root names are mapped to are kept
home-root : (l : Selection) (n : ℕ) → IsHomeAmong l (root_symbols l.stage) n → IsRootNumber (resolved l) n
home-root l n (s, within, is) =
    let it = home-of l s n is in
    (it.0, it.2, (it.3, inr (inl (s, within, it.1))))

-- those of exports too
export-root : (l : Selection) (n : ℕ) → IsExportHome l n → IsRootNumber (resolved l) n
export-root l n (s, x, at, exported, is) =
    let it = home-of l s n is in
    (it.0, it.2, (it.3, inr (inr (s, x, at, exported, it.1))))

-- the number of a home
home-number : (l : Selection) (s n : ℕ) (p : SectionPlace) → home (resolved l) s ≡ Some p → section_number l.stage p ≡ n → home_number l s ≡ Some n
home-number l s n p at is = ap (option_map (section_number l.stage)) at ∙ ap (λ (k : ℕ). Some k) is

-- what is kept in any case is one of these
root-of : (l : Selection) (n : ℕ) → IsRootNumber (resolved l) n → IsRetainedAmong l (enumerate_from 0 l.stage.objects) n ⊎ (IsHomeAmong l (root_symbols l.stage) n ⊎ IsExportHome l n)
root-of l n (p, is, (node, inl (o, at, retained))) =
    let start : p.0 ≡ 0 + p.0 = omega arith in
    inl ((p.0, o), p.1, numbered_in 0 l.stage.objects p.0 p.0 o at start, retained, number-of l p n node is)
root-of l n (p, is, (node, inr (inl (s, within, at)))) = inr (inl (s, within, home-number l s n p at is))
root-of l n (p, is, (node, inr (inr (s, x, there, exported, at)))) = inr (inr (s, x, there, exported, home-number l s n p at is))

-- what is marked in three steps are the roots
pub are-roots : (l : Selection) (start retained homes marks : List Bool) → length start ≡ section_count l.stage → ((n : ℕ) → IsMarked start n → ⊥)
    → length retained ≡ length start → length homes ≡ length start → length marks ≡ length start
    → ((n : ℕ) → n < length start → IsMarked retained n ↔ (IsMarked start n ⊎ IsRetainedAmong l (enumerate_from 0 l.stage.objects) n))
    → ((n : ℕ) → n < length retained → IsMarked homes n ↔ (IsMarked retained n ⊎ IsHomeAmong l (root_symbols l.stage) n))
    → ((n : ℕ) → n < length homes → IsMarked marks n ↔ (IsMarked homes n ⊎ IsExportHome l n))
    → (n : ℕ) → IsMarked marks n ↔ IsRootNumber (resolved l) n
are-roots l start retained homes marks count none long_1 long_2 long_3 first second third n = (forth, back)
  where
    at-first : n < length start → IsMarked start n ⊎ IsRetainedAmong l (enumerate_from 0 l.stage.objects) n → IsRootNumber (resolved l) n
    at-first lt (inl held) = absurd (none n held)
    at-first lt (inr gives) = retained-root l n gives

    at-second : n < length start → IsMarked retained n ⊎ IsHomeAmong l (root_symbols l.stage) n → IsRootNumber (resolved l) n
    at-second lt (inl held) = at-first lt ((first n lt).0 held)
    at-second lt (inr gives) = home-root l n gives

    at-third : n < length start → IsMarked homes n ⊎ IsExportHome l n → IsRootNumber (resolved l) n
    at-third lt (inl held) = at-second lt ((second n (omega (arith, lt, long_1))).0 held)
    at-third lt (inr gives) = export-root l n gives

    forth : IsMarked marks n → IsRootNumber (resolved l) n
    forth marked =
        let within = marked-within marks n marked in
        let lt : n < length start = omega (arith, within, long_3) in
        at-third lt ((third n (omega (arith, lt, long_2))).0 marked)

    back : IsRootNumber (resolved l) n → IsMarked marks n
    back root = by (root-of l n root)
      where
        lt : n < length start
        lt =
            let number : section_number l.stage root.0 ≡ n = root.1 in
            let below : section_number l.stage root.0 < section_count l.stage = node-below l root.0 root.2.0 in
            omega (arith, number, below, count)

        by : IsRetainedAmong l (enumerate_from 0 l.stage.objects) n ⊎ (IsHomeAmong l (root_symbols l.stage) n ⊎ IsExportHome l n) → IsMarked marks n
        by (inl gives) = (third n (omega (arith, lt, long_2))).1 (inl ((second n (omega (arith, lt, long_1))).1 (inl ((first n lt).1 (inr gives)))))
        by (inr (inl gives)) = (third n (omega (arith, lt, long_2))).1 (inl ((second n (omega (arith, lt, long_1))).1 (inr gives)))
        by (inr (inr gives)) = (third n (omega (arith, lt, long_2))).1 (inr gives)
