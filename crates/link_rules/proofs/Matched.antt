-- What is computed of scripts is the best of all matches, the version of a name, and whether a list has it.
use Rattle.std.proofs.Common.{◌≡◌, ℕ, zero, suc, ◌+◌, ◌<◌, ◌≤◌, ◌==◌, List, [], ◌∷◌, map, Bool, true, false, cond, Option, Some, None, ◌⊎◌, inl, inr, refl, sym, ◌∙◌, ap, subst, arith, Contains, filter}
use Rattle.std.specs.Prelude.{◌&&◌, ◌||◌, ◌↔◌, IsTrue, nat_lt, nat_le, slice_get, option_map, Ok}
use Rattle.std.specs.Option.{option_map_or}
use Rattle.std.specs.List.{enumerate_from, flat_map, list_any}
use Rattle.std.specs.Str.{bytes_eq, chars}
use Rattle.std.proofs.lemmas.Slice.Eq.{bytes_eq-Decides}
use Rattle.std.proofs.lemmas.List.Elements.{Contains-append_left, Contains-append_right, Contains-append_cases}
use Rattle.link_glob.specs.Glob.{does_match}
use Rattle.link_script_syntax.specs.declared.body.Side.{Side}
use Rattle.link_script_syntax.specs.declared.body.Side.TheVariants.{Global, Local}
use Rattle.link_script.specs.declared.export_list.ExportList.{ExportList}
use Rattle.link_script_syntax.specs.declared.matcher.SymbolMatcher.{SymbolMatcher}
use Rattle.link_script_syntax.specs.declared.matcher.ParsedSymbolMatcher.{ParsedSymbolMatcher}
use Rattle.link_script_syntax.specs.declared.matcher.ParsedSymbolMatcher.TheVariants.{Single, Multiple, CxxMatchers}
use Rattle.link_script_syntax.specs.declared.named.RawVersion.{RawVersion}
use Rattle.link_script.specs.declared.rules.Class.{Class}
use Rattle.link_script.specs.declared.rules.Class.TheVariants.{Exact, Nonstar, Star, Every}
use Rattle.link_script_syntax.specs.declared.script.RawScript.{RawScript}
use Rattle.link_script.specs.ExportList.{IsListed, ListHas}
use Rattle.link_script.specs.Filter.{Filter, name, nonstar, star, every, filter_of, class_of, AreFilters, EntryHas, EntriesHave, entries_in}
use Rattle.link_script.specs.Lookup.{Asked, name_of, text_of}
use Rattle.link_script.specs.Rank.{Fits, Place, filters_in, IsMatch, strength, side_order, exact_order, NotAfter, Precedes, IsBest}
use Rattle.link_script.specs.Script.{versions_in, of_rust_form, IsVersionBy, VersionBy}
use Rattle.link_script_syntax.specs.Named.{raw_names}
use Rattle.link_script.specs.VersionOf.{declared_as, IsVersionOf}
use Rattle.link_rules.specs.Places.{Bytes, places_from, last_of, kept_if}
use Rattle.link_rules.specs.Matching.{fits, patterns_of, entry_fits, place_of, section_matches, version_matches, all_matches, is_not_after, precedes, stronger, strongest, rank, regular_version, version_by}
use Rattle.link_rules.proofs.Settled.{here, there, here_or_there, nothing_in, some_same, none_some, filtered}
use Rattle.link_rules.proofs.Twice.{numbered_at, passes}

-- a disjunction has one of its parts
either : (a b : Bool) → (a || b) ≡ true → (a ≡ true) ⊎ (b ≡ true)
either true b e = inl refl
either false b e = inr e

-- a disjunction by its first part
first-or : (a b : Bool) → a ≡ true → (a || b) ≡ true
first-or true b e = refl
first-or false b e = absurd cc

-- a disjunction by its second part
second-or : (a b : Bool) → b ≡ true → (a || b) ≡ true
second-or true b e = refl
second-or false b e = e

-- ---- lists

module _ {X Y : Type 0} where
  -- an element of a mapped list is that of some element
  mapped : (f : X → Y) (xs : List X) (y : Y) → Contains (map f xs) y → (x : X) × Contains xs x × (f x ≡ y)
  mapped f [] y within = absurd (nothing_in y within)
  mapped f (x ∷ xs) y within = elim (here_or_there (f x) (map f xs) y within) [
    | inl is ↦ (x, here x xs, is)
    | inr deeper ↦ let r = mapped f xs y deeper in (r.0, there x xs r.0 r.1, r.2)
  ]

  -- an element is in the mapped list
  in-map : (f : X → Y) (xs : List X) (x : X) → Contains xs x → Contains (map f xs) (f x)
  in-map f [] x within = absurd (nothing_in x within)
  in-map f (z ∷ zs) x within = elim (here_or_there z zs x within) [
    | inl is ↦ subst (λ y. Contains (f z ∷ map f zs) (f y)) is (here (f z) (map f zs))
    | inr deeper ↦ there (f z) (map f zs) (f x) (in-map f zs x deeper)
  ]

  -- an element of a flattened list is in that of some element
  flattened : (f : X → List Y) (xs : List X) (y : Y) → Contains (flat_map f xs) y → (x : X) × Contains xs x × Contains (f x) y
  flattened f [] y within = absurd (nothing_in y within)
  flattened f (x ∷ xs) y within = elim (Contains-append_cases (f x) (flat_map f xs) y within) [
    | inl first ↦ (x, here x xs, first)
    | inr rest ↦ let r = flattened f xs y rest in (r.0, there x xs r.0 r.1, r.2)
  ]

  -- an element of one part is in the flattened list
  in-flat_map : (f : X → List Y) (xs : List X) (x : X) (y : Y) → Contains xs x → Contains (f x) y → Contains (flat_map f xs) y
  in-flat_map f [] x y within at = absurd (nothing_in x within)
  in-flat_map f (z ∷ zs) x y within at = elim (here_or_there z zs x within) [
    | inl is ↦ Contains-append_left (f z) (flat_map f zs) y (subst (λ w. Contains (f w) y) (sym is) at)
    | inr deeper ↦ Contains-append_right (f z) (flat_map f zs) y (in-flat_map f zs x y deeper at)
  ]

module _ {X : Type 0} where
  -- what passes is kept, by whether the head passes
  in-filter-by : (p : X → Bool) (y : X) (ys : List X) (x : X) (b : Bool) → p y ≡ b → p x ≡ true → (Contains ys x → Contains (filter p ys) x)
      → (y ≡ x) ⊎ Contains ys x → Contains (cond b (y ∷ filter p ys) (filter p ys)) x
  in-filter-by p y ys x true is passes further (inl same) = subst (λ z. Contains (y ∷ filter p ys) z) same (here y (filter p ys))
  in-filter-by p y ys x true is passes further (inr deeper) = there y (filter p ys) x (further deeper)
  in-filter-by p y ys x false is passes further (inl same) = absurd (let fails : p x ≡ false = subst (λ z. p z ≡ false) same is in let wrong : true ≡ false = sym passes ∙ fails in cc)
  in-filter-by p y ys x false is passes further (inr deeper) = further deeper

  -- what passes is kept
  in-filter : (p : X → Bool) (xs : List X) (x : X) → Contains xs x → p x ≡ true → Contains (filter p xs) x
  in-filter p [] x within passes = absurd (nothing_in x within)
  in-filter p (y ∷ ys) x within passes = in-filter-by p y ys x (p y) refl passes (λ deeper. in-filter p ys x deeper passes) (here_or_there y ys x within)

  -- an element stands in the numbered list with its number
  in-numbered : (n : ℕ) (xs : List X) (k : ℕ) (x : X) → slice_get xs k ≡ Some x → Contains (enumerate_from n xs) (n + k, x)
  in-numbered n [] k x at = absurd (none_some x at)
  in-numbered n (y ∷ ys) zero x at =
      let same : n ≡ n + 0 = omega arith in
      subst (λ m. Contains (enumerate_from n (y ∷ ys)) (m, x)) same
      (subst (λ z. Contains ((n, y) ∷ enumerate_from (n + 1) ys) (n, z)) (some_same y x at) (here (n, y) (enumerate_from (n + 1) ys)))
  in-numbered n (y ∷ ys) (suc k) x at =
      let next : n + 1 + k ≡ n + suc k = omega arith in
      subst (λ m. Contains (enumerate_from n (y ∷ ys)) (m, x)) next
      (there (n, y) (enumerate_from (n + 1) ys) (n + 1 + k, x) (in-numbered (n + 1) ys k x at))

-- ---- filters

-- a test of a name tells it
named-fits : (o : Option (List ℕ)) (n : List ℕ) → option_map_or (bytes_eq n) o false ≡ true → o ≡ Some n
named-fits None n e = absurd cc
named-fits (Some m) n e = ap (λ (b : List ℕ). Some b) (sym ((bytes_eq-Decides n m).0 e))

-- a name passes its own test
fits-named : (n : List ℕ) → bytes_eq n n ≡ true
fits-named n = (bytes_eq-Decides n n).1 refl

-- a test of a text tells that there is one
globbed : (o : Option (List ℕ)) (p : List ℕ → Bool) → option_map_or p o false ≡ true → (t : List ℕ) × (o ≡ Some t) × IsTrue (p t)
globbed None p e = absurd cc
globbed (Some t) p e = (t, refl, e)

-- what passes the test fits
fits-is : (a : Asked) (cxx : Bool) (f : Filter) → fits a cxx f ≡ true → Fits (name_of a cxx) (text_of a cxx) f
fits-is a cxx (name n) e = named-fits (name_of a cxx) n e
fits-is a cxx (nonstar p) e = globbed (text_of a cxx) (λ t. does_match p (chars t)) e
fits-is a cxx (star p) e = globbed (text_of a cxx) (λ t. does_match p (chars t)) e
fits-is a cxx every e = tt

-- what fits passes the test
is-fits : (a : Asked) (cxx : Bool) (f : Filter) → Fits (name_of a cxx) (text_of a cxx) f → fits a cxx f ≡ true
is-fits a cxx (name n) e = ap (λ o. option_map_or (bytes_eq n) o false) e ∙ fits-named n
is-fits a cxx (nonstar p) e = ap (λ o. option_map_or (λ t. does_match p (chars t)) o false) e.1 ∙ e.2
is-fits a cxx (star p) e = ap (λ o. option_map_or (λ t. does_match p (chars t)) o false) e.1 ∙ e.2
is-fits a cxx every e = refl

-- a pattern, with whether it is one of C++
abbrev Pattern : Type 0
Pattern = Bool × Filter

-- the patterns of matchers are their filters
are-filters : (b : Bool) (ms : List SymbolMatcher) (q : Pattern) → Contains (map (λ m. (b, filter_of m)) ms) q → (q.0 ≡ b) × AreFilters ms q.1
are-filters b [] q within = absurd (nothing_in q within)
are-filters b (m ∷ ms) q within = elim (here_or_there (b, filter_of m) (map (λ x. (b, filter_of x)) ms) q within) [
  | inl is ↦ (sym (ap (λ (r : Pattern). r.0) is), inl (sym (ap (λ (r : Pattern). r.1) is)))
  | inr deeper ↦ let r = are-filters b ms q deeper in (r.0, inr r.1)
]

-- the filters of matchers are among their patterns
filters-are : (b : Bool) (ms : List SymbolMatcher) (f : Filter) → AreFilters ms f → Contains {X = Pattern} (map (λ m. (b, filter_of m)) ms) (b, f)
filters-are b [] f has = absurd has
filters-are b (m ∷ ms) f (inl is) = subst (λ g. Contains {X = Pattern} ((b, filter_of m) ∷ map (λ x. (b, filter_of x)) ms) (b, g)) (sym is) (here (b, filter_of m) _)
filters-are b (m ∷ ms) f (inr deeper) = there (b, filter_of m) _ (b, f) (filters-are b ms f deeper)

-- a pattern of an entry is a filter of it
entry-has : (e : ParsedSymbolMatcher) (cxx : Bool) (f : Filter) → Contains {X = Pattern} (patterns_of e) (cxx, f) → EntryHas e cxx f
entry-has (Single m) cxx f within = elim (here_or_there (false, filter_of m) [] (cxx, f) within) [
  | inl is ↦ by-language cxx f (ap (λ (r : Pattern). r.0) is) (ap (λ (r : Pattern). r.1) is)
  | inr deeper ↦ absurd (nothing_in (cxx, f) deeper)
]
  where
    by-language : (c : Bool) (g : Filter) → false ≡ c → filter_of m ≡ g → EntryHas (Single m) c g
    by-language false g plain is = sym is
    by-language true g plain is = absurd cc
entry-has (Multiple ms) false f within = (are-filters false ms (false, f) within).1
entry-has (Multiple ms) true f within = absurd (let wrong : true ≡ false = (are-filters false ms (true, f) within).0 in cc)
entry-has (CxxMatchers ms) true f within = (are-filters true ms (true, f) within).1
entry-has (CxxMatchers ms) false f within = absurd (let wrong : false ≡ true = (are-filters true ms (false, f) within).0 in cc)

-- a filter of an entry is a pattern of it
has-entry : (e : ParsedSymbolMatcher) (cxx : Bool) (f : Filter) → EntryHas e cxx f → Contains {X = Pattern} (patterns_of e) (cxx, f)
has-entry (Single m) false f has = subst (λ g. Contains {X = Pattern} ((false, filter_of m) ∷ []) (false, g)) (sym has) (here (false, filter_of m) [])
has-entry (Single m) true f has = absurd has
has-entry (Multiple ms) false f has = filters-are false ms f has
has-entry (Multiple ms) true f has = absurd has
has-entry (CxxMatchers ms) true f has = filters-are true ms f has
has-entry (CxxMatchers ms) false f has = absurd has

-- the patterns of entries are their filters
entries-have : (es : List ParsedSymbolMatcher) (cxx : Bool) (f : Filter) → Contains {X = Pattern} (flat_map patterns_of es) (cxx, f) → EntriesHave es cxx f
entries-have [] cxx f within = absurd (nothing_in (cxx, f) within)
entries-have (e ∷ es) cxx f within = elim (Contains-append_cases (patterns_of e) (flat_map patterns_of es) (cxx, f) within) [
  | inl first ↦ inl (entry-has e cxx f first)
  | inr rest ↦ inr (entries-have es cxx f rest)
]

-- the filters of entries are their patterns
have-entries : (es : List ParsedSymbolMatcher) (cxx : Bool) (f : Filter) → EntriesHave es cxx f → Contains {X = Pattern} (flat_map patterns_of es) (cxx, f)
have-entries [] cxx f has = absurd has
have-entries (e ∷ es) cxx f (inl first) = Contains-append_left (patterns_of e) (flat_map patterns_of es) (cxx, f) (has-entry e cxx f first)
have-entries (e ∷ es) cxx f (inr rest) = Contains-append_right (patterns_of e) (flat_map patterns_of es) (cxx, f) (have-entries es cxx f rest)

-- ---- all matches

-- what a match says of a section
section-match : (a : Asked) (n : ℕ) (side : Side) (es : List ParsedSymbolMatcher) (p : Place) → Contains (section_matches a n side es) p
    → (f : Filter) × (p.version ≡ n) × (p.side ≡ side) × (class_of f ≡ p.class) × EntriesHave es p.cxx f × Fits (name_of a p.cxx) (text_of a p.cxx) f
section-match a n side es p within =
    let r = mapped (place_of n side) (filter (λ (f : Pattern). fits a f.0 f.1) (flat_map patterns_of es)) p within in
    let has = entries-have es r.0.0 r.0.1 (filtered (λ (f : Pattern). fits a f.0 f.1) (flat_map patterns_of es) r.0 r.1) in
    let fit = fits-is a r.0.0 r.0.1 (passes (λ (f : Pattern). fits a f.0 f.1) (flat_map patterns_of es) r.0 r.1) in
    let same_cxx : r.0.0 ≡ p.cxx = ap (λ (q : Place). q.cxx) r.2 in (
      r.0.1,
      sym (ap (λ (q : Place). q.version) r.2),
      sym (ap (λ (q : Place). q.side) r.2),
      ap (λ (q : Place). q.class) r.2,
      subst (λ c. EntriesHave es c r.0.1) same_cxx has,
      subst (λ c. Fits (name_of a c) (text_of a c) r.0.1) same_cxx fit,
    )

-- a filter of a section that fits is a match
match-section : (a : Asked) (n : ℕ) (side : Side) (es : List ParsedSymbolMatcher) (cxx : Bool) (f : Filter) → EntriesHave es cxx f
    → Fits (name_of a cxx) (text_of a cxx) f → Contains (section_matches a n side es) (record { version = n; side = side; cxx = cxx; class = class_of f })
match-section a n side es cxx f has fit =
    in-map (place_of n side) (filter (λ (q : Pattern). fits a q.0 q.1) (flat_map patterns_of es)) (cxx, f)
    (in-filter (λ (q : Pattern). fits a q.0 q.1) (flat_map patterns_of es) (cxx, f) (have-entries es cxx f has) (is-fits a cxx f fit))

-- a match of a section is a match of the script
found-in : (versions : List RawVersion) (a : Asked) (p : Place) (v : ℕ × RawVersion) (side : Side) → Contains (enumerate_from 0 versions) v
    → Contains (section_matches a v.0 side (entries_in v.1.body side)) p → IsMatch (filters_in versions) a p
found-in versions a p v side among within =
    let at = numbered_at 0 versions v among in
    let m = section-match a v.0 side (entries_in v.1.body side) p within in
    let place : at.0 ≡ p.version = omega (arith, at.2, m.1) in
    record {
      filter = m.0;
      class = m.3;
      there = (v.1, subst (λ k. slice_get versions k ≡ Some v.1) place at.1, subst (λ s. EntriesHave (entries_in v.1.body s) p.cxx m.0) (sym m.2) m.4);
      fits = m.5;
    }

-- each place that is listed is a match
match-is : (versions : List RawVersion) (a : Asked) (p : Place) → Contains (all_matches versions a) p → IsMatch (filters_in versions) a p
match-is versions a p within =
    let v = flattened (version_matches a) (enumerate_from 0 versions) p within in
    elim (Contains-append_cases (section_matches a v.0.0 Global v.0.1.body.globals) (section_matches a v.0.0 Local v.0.1.body.locals) p v.2) [
      | inl global ↦ found-in versions a p v.0 Global v.1 global
      | inr local ↦ found-in versions a p v.0 Local v.1 local
    ]

-- a match of a section is one of its version
in-version : (a : Asked) (n : ℕ) (raw : RawVersion) (side : Side) (p : Place) → Contains (section_matches a n side (entries_in raw.body side)) p
    → Contains (version_matches a (n, raw)) p
in-version a n raw Global p within = Contains-append_left (section_matches a n Global raw.body.globals) (section_matches a n Local raw.body.locals) p within
in-version a n raw Local p within = Contains-append_right (section_matches a n Global raw.body.globals) (section_matches a n Local raw.body.locals) p within

-- each match is listed
is-match : (versions : List RawVersion) (a : Asked) (p : Place) → IsMatch (filters_in versions) a p → Contains (all_matches versions a) p
is-match versions a p m =
    let raw = m.there.0 in
    let zero_add : 0 + p.version ≡ p.version = omega arith in
    let at : Contains (enumerate_from 0 versions) (p.version, raw) = subst (λ k. Contains (enumerate_from 0 versions) (k, raw)) zero_add (in-numbered 0 versions p.version raw m.there.1) in
    let here_it_is = match-section a p.version p.side (entries_in raw.body p.side) p.cxx m.filter m.there.2 m.fits in
    let same : Contains (section_matches a p.version p.side (entries_in raw.body p.side)) p =
    subst (λ c. Contains (section_matches a p.version p.side (entries_in raw.body p.side)) (record { version = p.version; side = p.side; cxx = p.cxx; class = c })) m.class here_it_is in
    in-flat_map (version_matches a) (enumerate_from 0 versions) (p.version, raw) p at (in-version a p.version raw p.side p same)

-- ---- the order of matches

-- the order of pairs of numbers, as a test
abbrev lex : ℕ → ℕ → ℕ → ℕ → Bool
lex v w x y = nat_lt v w || (v == w && nat_le x y)

-- the test tells the order
lex-parts : (v w x y : ℕ) → lex v w x y ≡ true → (v < w) ⊎ ((v ≡ w) × (x ≤ y))
lex-parts v w x y e = grind arith

-- no pair is after itself
lex-refl : (v x : ℕ) → lex v v x x ≡ true
lex-refl v x = grind arith

-- of two pairs one is not after the other
lex-total : (v w x y : ℕ) → lex v w x y ≡ false → lex w v y x ≡ true
lex-total v w x y e = grind arith

-- not to be after is handed on
lex-trans : (u v w x y z : ℕ) → lex u v x y ≡ true → lex v w y z ≡ true → lex u w x z ≡ true
lex-trans u v w x y z e f = grind arith

-- classes of one strength are the same
same-class : (c d : Class) → strength c ≡ strength d → c ≡ d
same-class Exact Exact e = refl
same-class Exact Nonstar e = absurd (omega arith)
same-class Exact Star e = absurd (omega arith)
same-class Exact Every e = absurd (omega arith)
same-class Nonstar Exact e = absurd (omega arith)
same-class Nonstar Nonstar e = refl
same-class Nonstar Star e = absurd (omega arith)
same-class Nonstar Every e = absurd (omega arith)
same-class Star Exact e = absurd (omega arith)
same-class Star Nonstar e = absurd (omega arith)
same-class Star Star e = refl
same-class Star Every e = absurd (omega arith)
same-class Every Exact e = absurd (omega arith)
same-class Every Nonstar e = absurd (omega arith)
same-class Every Star e = absurd (omega arith)
same-class Every Every e = refl

-- a greater version comes first, and in it the lesser section
abbrev back : ℕ → ℕ → ℕ → ℕ → Bool
back v w x y = nat_lt w v || (v == w && nat_le x y)

-- that test tells its order
back-parts : (v w x y : ℕ) → back v w x y ≡ true → (w < v) ⊎ ((v ≡ w) × (x ≤ y))
back-parts v w x y e = grind arith

-- no pair is after itself in it
back-refl : (v x : ℕ) → back v v x x ≡ true
back-refl v x = grind arith

-- of two pairs one is not after the other in it
back-total : (v w x y : ℕ) → back v w x y ≡ false → back w v y x ≡ true
back-total v w x y e = grind arith

-- not to be after in it is handed on
back-trans : (u v w x y z : ℕ) → back u v x y ≡ true → back v w y z ≡ true → back u w x z ≡ true
back-trans u v w x y z e f = grind arith

-- the test of places in a class tells their order
not-after : (c : Class) (p q : Place) → is_not_after c p q ≡ true → NotAfter c p q
not-after Exact p q e = lex-parts p.version q.version (exact_order p.side p.cxx) (exact_order q.side q.cxx) e
not-after Nonstar p q e = back-parts p.version q.version (side_order p.side) (side_order q.side) e
not-after Star p q e = back-parts p.version q.version (side_order p.side) (side_order q.side) e
not-after Every p q e = back-parts p.version q.version (side_order p.side) (side_order q.side) e

-- no place is after itself
not-after-refl : (c : Class) (p : Place) → is_not_after c p p ≡ true
not-after-refl Exact p = lex-refl p.version (exact_order p.side p.cxx)
not-after-refl Nonstar p = back-refl p.version (side_order p.side)
not-after-refl Star p = back-refl p.version (side_order p.side)
not-after-refl Every p = back-refl p.version (side_order p.side)

-- of two places of a class one is not after the other
not-after-total : (c : Class) (p q : Place) → is_not_after c p q ≡ false → is_not_after c q p ≡ true
not-after-total Exact p q e = lex-total p.version q.version (exact_order p.side p.cxx) (exact_order q.side q.cxx) e
not-after-total Nonstar p q e = back-total p.version q.version (side_order p.side) (side_order q.side) e
not-after-total Star p q e = back-total p.version q.version (side_order p.side) (side_order q.side) e
not-after-total Every p q e = back-total p.version q.version (side_order p.side) (side_order q.side) e

-- not to be after in a class is handed on
not-after-trans : (c : Class) (p q r : Place) → is_not_after c p q ≡ true → is_not_after c q r ≡ true → is_not_after c p r ≡ true
not-after-trans Exact p q r e f = lex-trans p.version q.version r.version (exact_order p.side p.cxx) (exact_order q.side q.cxx) (exact_order r.side r.cxx) e f
not-after-trans Nonstar p q r e f = back-trans p.version q.version r.version (side_order p.side) (side_order q.side) (side_order r.side) e f
not-after-trans Star p q r e f = back-trans p.version q.version r.version (side_order p.side) (side_order q.side) (side_order r.side) e f
not-after-trans Every p q r e f = back-trans p.version q.version r.version (side_order p.side) (side_order q.side) (side_order r.side) e f

-- a test behind an order of numbers
abbrev led : ℕ → ℕ → Bool → Bool
led v w b = nat_lt v w || (v == w && b)

-- less, or equal and the test holds
led-parts : (v w : ℕ) (b : Bool) → led v w b ≡ true → (v < w) ⊎ ((v ≡ w) × (b ≡ true))
led-parts v w b e = grind arith

-- less is enough
led-less : (v w : ℕ) (b : Bool) → v < w → led v w b ≡ true
led-less v w b e = grind arith

-- equal with the test is enough
led-same : (v w : ℕ) (b : Bool) → v ≡ w → b ≡ true → led v w b ≡ true
led-same v w b e f = grind arith

-- greater, or equal and the test fails
led-not : (v w : ℕ) (b : Bool) → led v w b ≡ false → (w < v) ⊎ ((w ≡ v) × (b ≡ false))
led-not v w b e = grind arith

-- the test tells which match precedes
precedes-is : (p q : Place) → precedes p q ≡ true → Precedes p q
precedes-is p q e = elim (led-parts (strength p.class) (strength q.class) (is_not_after p.class p q) e) [
  | inl less ↦ inl less
  | inr same ↦ inr (same-class p.class q.class same.0, not-after p.class p q same.1)
]

-- no match is preceded by itself alone
precedes-refl : (p : Place) → precedes p p ≡ true
precedes-refl p = led-same (strength p.class) (strength p.class) (is_not_after p.class p p) refl (not-after-refl p.class p)

-- of two matches one precedes the other
precedes-total : (p q : Place) → precedes p q ≡ false → precedes q p ≡ true
precedes-total p q e = elim (led-not (strength p.class) (strength q.class) (is_not_after p.class p q) e) [
  | inl less ↦ led-less (strength q.class) (strength p.class) (is_not_after q.class q p) less
  | inr same ↦ led-same (strength q.class) (strength p.class) (is_not_after q.class q p) same.0
      (subst (λ c. is_not_after c q p ≡ true) (sym (same-class q.class p.class same.0)) (not-after-total p.class p q same.1))
]

-- to precede is handed on
precedes-trans : (p q r : Place) → precedes p q ≡ true → precedes q r ≡ true → precedes p r ≡ true
precedes-trans p q r e f = elim (led-parts (strength p.class) (strength q.class) (is_not_after p.class p q) e) [
  | inl less ↦ elim (led-parts (strength q.class) (strength r.class) (is_not_after q.class q r) f) [
    | inl less' ↦ led-less (strength p.class) (strength r.class) (is_not_after p.class p r) (omega (arith, less, less'))
    | inr same' ↦ led-less (strength p.class) (strength r.class) (is_not_after p.class p r) (omega (arith, less, same'.0))
  ]
  | inr same ↦ elim (led-parts (strength q.class) (strength r.class) (is_not_after q.class q r) f) [
    | inl less' ↦ led-less (strength p.class) (strength r.class) (is_not_after p.class p r) (omega (arith, same.0, less'))
    | inr same' ↦ led-same (strength p.class) (strength r.class) (is_not_after p.class p r) (same.0 ∙ same'.0)
        (not-after-trans p.class p q r same.1 (subst (λ c. is_not_after c q r ≡ true) (sym (same-class p.class q.class same.0)) same'.1))
  ]
]

-- it is one of these, and none of them comes before it
IsFirst : List Place → Place → Type 0
IsFirst ps p = Contains ps p × ((q : Place) → Contains ps q → precedes p q ≡ true)

-- the first of a place and others, by the test
first-by : (p m : Place) (ps : List Place) (b : Bool) → precedes p m ≡ b → IsFirst ps m → IsFirst (p ∷ ps) (cond b p m)
unfolding IsFirst
first-by p m ps true before first = (
  here p ps,
  λ q within. elim (here_or_there p ps q within) [
    | inl is ↦ subst (λ x. precedes p x ≡ true) is (precedes-refl p)
    | inr deeper ↦ precedes-trans p m q before (first.1 q deeper)
  ],
)
first-by p m ps false before first = (
  there p ps m first.0,
  λ q within. elim (here_or_there p ps q within) [
    | inl is ↦ subst (λ x. precedes m x ≡ true) is (precedes-total p m before)
    | inr deeper ↦ first.1 q deeper
  ],
)

-- the strongest place is the first
first-is : (p : Place) (ps : List Place) → IsFirst (p ∷ ps) (stronger p (strongest ps))
unfolding IsFirst
first-is p [] = (
  here p [],
  λ q within. elim (here_or_there p [] q within) [
    | inl is ↦ subst (λ x. precedes p x ≡ true) is (precedes-refl p)
    | inr deeper ↦ absurd (nothing_in q deeper)
  ],
)
first-is p (q ∷ qs) = first-by p (stronger q (strongest qs)) (q ∷ qs) (precedes p (stronger q (strongest qs))) refl (first-is q qs)

-- the strongest of the listed places is the best match
best-of : (versions : List RawVersion) (a : Asked) (ps : List Place) → ps ≡ all_matches versions a
    → IsBest (filters_in versions) a (option_map (λ p. (p.version, p.side)) (strongest ps))
unfolding IsFirst
best-of versions a [] is = λ p match. nothing_in p (subst (λ ps. Contains ps p) (sym is) (is-match versions a p match))
best-of versions a (p ∷ ps) is =
    let m = stronger p (strongest ps) in
    let first = first-is p ps in (
      m,
      match-is versions a m (subst (λ qs. Contains qs m) is first.0),
      (refl, refl),
      λ q match. precedes-is m q (first.1 q (subst (λ qs. Contains qs q) (sym is) (is-match versions a q match))),
    )

-- the strongest of all matches is the best
pub best : (versions : List RawVersion) (a : Asked) → IsBest (filters_in versions) a (rank versions a)
best versions a = best-of versions a (all_matches versions a) refl

-- ---- there is one best

-- sections of one order are the same
same-side : (s t : Side) → side_order s ≤ side_order t → side_order t ≤ side_order s → s ≡ t
same-side Global Global e f = refl
same-side Global Local e f = absurd (omega (arith, f))
same-side Local Global e f = absurd (omega (arith, e))
same-side Local Local e f = refl

-- so they are in the order of exact names
same-exact : (s t : Side) (b c : Bool) → exact_order s b ≤ exact_order t c → exact_order t c ≤ exact_order s b → s ≡ t
same-exact Global Global b c e f = refl
same-exact Local Local b c e f = refl
same-exact Global Local false false e f = absurd (omega (arith, f))
same-exact Global Local false true e f = absurd (omega (arith, f))
same-exact Global Local true false e f = absurd (omega (arith, e))
same-exact Global Local true true e f = absurd (omega (arith, f))
same-exact Local Global false false e f = absurd (omega (arith, e))
same-exact Local Global false true e f = absurd (omega (arith, f))
same-exact Local Global true false e f = absurd (omega (arith, e))
same-exact Local Global true true e f = absurd (omega (arith, e))

-- places of exact names that are not after each other have one version and section
exact-ends : (p q : Place) → NotAfter Exact p q → NotAfter Exact q p → (p.version ≡ q.version) × (p.side ≡ q.side)
exact-ends p q (inl less) (inl less') = absurd (omega (arith, less, less'))
exact-ends p q (inl less) (inr same') = absurd (omega (arith, less, same'.0))
exact-ends p q (inr same) (inl less') = absurd (omega (arith, same.0, less'))
exact-ends p q (inr same) (inr same') = (same.0, same-exact p.side q.side p.cxx q.cxx same.1 same'.1)

-- not after, in the order of the other classes
abbrev BackAfter : Place → Place → Type 0
BackAfter p q = (q.version < p.version) ⊎ ((p.version ≡ q.version) × (side_order p.side ≤ side_order q.side))

-- places of the other classes that are not after each other have one version and section
back-ends : (p q : Place) → BackAfter p q → BackAfter q p → (p.version ≡ q.version) × (p.side ≡ q.side)
back-ends p q (inl less) (inl less') = absurd (omega (arith, less, less'))
back-ends p q (inl less) (inr same') = absurd (omega (arith, less, same'.0))
back-ends p q (inr same) (inl less') = absurd (omega (arith, same.0, less'))
back-ends p q (inr same) (inr same') = (same.0, same-side p.side q.side same.1 same'.1)

-- so it is in every class
class-ends : (c : Class) (p q : Place) → NotAfter c p q → NotAfter c q p → (p.version ≡ q.version) × (p.side ≡ q.side)
class-ends Exact p q e f = exact-ends p q e f
class-ends Nonstar p q e f = back-ends p q e f
class-ends Star p q e f = back-ends p q e f
class-ends Every p q e f = back-ends p q e f

-- matches that precede each other have one version and section
ends : (p q : Place) → Precedes p q → Precedes q p → (p.version ≡ q.version) × (p.side ≡ q.side)
ends p q (inl less) (inl less') = absurd (omega (arith, less, less'))
ends p q (inl less) (inr same') = absurd (let k : strength q.class ≡ strength p.class = ap strength same'.0 in omega (arith, less, k))
ends p q (inr same) (inl less') = absurd (let k : strength p.class ≡ strength q.class = ap strength same.0 in omega (arith, k, less'))
ends p q (inr same) (inr same') = class-ends p.class p q same.1 (subst (λ c. NotAfter c q p) same'.0 same'.1)

-- pairs of equal parts are equal
same-pair : (x y : ℕ × Side) → x.0 ≡ y.0 → x.1 ≡ y.1 → x ≡ y
same-pair x y first second = ap (λ (n : ℕ). (n, x.1)) first ∙ ap (λ (s : Side). (y.0, s)) second

-- there is one best match
one-of : (has : ℕ → Side → Bool → Filter → Type 0) (a : Asked) (r t : Option (ℕ × Side)) → IsBest has a r → IsBest has a t → r ≡ t
one-of has a None None first second = refl
one-of has a None (Some y) first second = absurd (first second.0 second.1)
one-of has a (Some x) None first second = absurd (second first.0 first.1)
one-of has a (Some x) (Some y) first second =
    let e = ends first.0 second.0 (first.3 second.0 second.1) (second.3 first.0 first.1) in
    ap (λ (z : ℕ × Side). Some z) (same-pair x y (sym first.2.0 ∙ e.0 ∙ second.2.0) (sym first.2.1 ∙ e.1 ∙ second.2.1))

-- what is best is the strongest of all matches
pub one-best : (versions : List RawVersion) (a : Asked) (r : Option (ℕ × Side)) → IsBest (filters_in versions) a r → r ≡ rank versions a
one-best versions a r is = one-of (filters_in versions) a r (rank versions a) is (best versions a)

-- ---- the version of a name

-- where the places of what passes end
record IsLastAt (p : Bytes → Bool) (i : ℕ) (xs : List Bytes) (n : ℕ) : Type 0 where
  place : ℕ
  element : Bytes
  at : slice_get xs place ≡ Some element
  passes : p element ≡ true
  is : n ≡ i + place
  last : (j : ℕ) (y : Bytes) → place < j → slice_get xs j ≡ Some y → p y ≡ false

-- none of the names passes
unfoldable AreNone : (Bytes → Bool) → List Bytes → Type 0
AreNone p xs = (j : ℕ) (y : Bytes) → slice_get xs j ≡ Some y → p y ≡ false

-- the last place of what passes, or nothing passes
Ends : (Bytes → Bool) → ℕ → List Bytes → Option ℕ → Type 0
Ends p i xs None = AreNone p xs
Ends p i xs (Some n) = IsLastAt p i xs n

-- the last of a list with one more in front
last-cons : (k : ℕ) (ns : List ℕ) → last_of (k ∷ ns) ≡ Some (option_map_or (λ n. n) (last_of ns) k)
last-cons k [] = refl
last-cons k (n ∷ ns) = by-last (last_of (n ∷ ns)) (last-cons n ns)
  where
    by-last : (o : Option ℕ) → o ≡ Some (option_map_or (λ m. m) (last_of ns) n) → o ≡ Some (option_map_or (λ m. m) o k)
    by-last None is = absurd (none_some _ is)
    by-last (Some m) is = refl

-- the last place of the tail is the last of the list
later : (p : Bytes → Bool) (i : ℕ) (x : Bytes) (xs : List Bytes) (n : ℕ) → IsLastAt p (i + 1) xs n → IsLastAt p i (x ∷ xs) n
later p i x xs n l = record {
  place = suc l.place;
  element = l.element;
  at = l.at;
  passes = l.passes;
  is = omega (arith, l.is);
  last = after;
}
  where
    after : (j : ℕ) (y : Bytes) → suc l.place < j → slice_get (x ∷ xs) j ≡ Some y → p y ≡ false
    after zero y lt at = absurd (omega (arith, lt))
    after (suc j) y lt at = l.last j y (omega (arith, lt)) at

-- where only the head passes it is the last
at-head : (p : Bytes → Bool) (i : ℕ) (x : Bytes) (xs : List Bytes) → p x ≡ true → AreNone p xs → IsLastAt p i (x ∷ xs) i
unfolding AreNone
at-head p i x xs passes none = record {
  place = 0;
  element = x;
  at = refl;
  passes = passes;
  is = omega arith;
  last = after;
}
  where
    after : (j : ℕ) (y : Bytes) → 0 < j → slice_get (x ∷ xs) j ≡ Some y → p y ≡ false
    after zero y lt at = absurd (omega (arith, lt))
    after (suc j) y lt at = none j y at

-- the last place where the head passes
ends-by-last : (p : Bytes → Bool) (i : ℕ) (x : Bytes) (xs : List Bytes) (o : Option ℕ) → p x ≡ true → Ends p (i + 1) xs o
    → Ends p i (x ∷ xs) (Some (option_map_or (λ n. n) o i))
unfolding Ends
ends-by-last p i x xs None passes rest = at-head p i x xs passes rest
ends-by-last p i x xs (Some n) passes rest = later p i x xs n rest

-- the last place where the head fails
none-more : (p : Bytes → Bool) (i : ℕ) (x : Bytes) (xs : List Bytes) (o : Option ℕ) → p x ≡ false → Ends p (i + 1) xs o → Ends p i (x ∷ xs) o
unfolding Ends AreNone
none-more p i x xs None fails rest = after
  where
    after : (j : ℕ) (y : Bytes) → slice_get (x ∷ xs) j ≡ Some y → p y ≡ false
    after zero y at = subst (λ z. p z ≡ false) (some_same x y at) fails
    after (suc j) y at = rest j y at
none-more p i x xs (Some n) fails rest = later p i x xs n rest

-- the last place by whether the head passes
ends-by : (p : Bytes → Bool) (i : ℕ) (x : Bytes) (xs : List Bytes) (b : Bool) → p x ≡ b → Ends p (i + 1) xs (last_of (places_from p (i + 1) xs))
    → Ends p i (x ∷ xs) (last_of (kept_if b i (places_from p (i + 1) xs)))
ends-by p i x xs true passes rest =
    subst (Ends p i (x ∷ xs)) (sym (last-cons i (places_from p (i + 1) xs))) (ends-by-last p i x xs (last_of (places_from p (i + 1) xs)) passes rest)
ends-by p i x xs false fails rest = none-more p i x xs (last_of (places_from p (i + 1) xs)) fails rest

-- the last of the places is the last place
ends-at : (p : Bytes → Bool) (i : ℕ) (xs : List Bytes) → Ends p i xs (last_of (places_from p i xs))
unfolding Ends AreNone
ends-at p i [] = λ j y at. absurd (none_some y at)
ends-at p i (x ∷ xs) = ends-by p i x xs (p x) refl (ends-at p (i + 1) xs)

-- no test holds and fails
true-false : (b : Bool) → b ≡ true → b ≡ false → ⊥
true-false b e f = let wrong : true ≡ false = sym e ∙ f in cc

-- an explicit version is the last of its name, or undeclared
declared : (has : ℕ → Side → Bool → Filter → Type 0) (names : List Bytes) (a : Asked) (c : ℕ) (version : Bytes) (o : Option ℕ)
    → Ends (λ n. bytes_eq n (c ∷ version)) 0 names o
    → IsVersionOf has names a (Some (c ∷ version)) (declared_as (record { name = a.bytes; version = c ∷ version }) o)
unfolding Ends AreNone
declared has names a c version None none =
    (λ j at. true-false (bytes_eq (c ∷ version) (c ∷ version)) (fits-named (c ∷ version)) (none j (c ∷ version) at), refl)
declared has names a c version (Some n) last =
    let same : last.element ≡ c ∷ version = (bytes_eq-Decides last.element (c ∷ version)).0 last.passes in
    let place : last.place ≡ n = omega (arith, last.is) in (
      n,
      (
        subst (λ k. slice_get names k ≡ Some (c ∷ version)) place (subst (λ e. slice_get names last.place ≡ Some e) same last.at),
        λ j lt at. true-false (bytes_eq (c ∷ version) (c ∷ version)) (fits-named (c ∷ version)) (last.last j (c ∷ version) (omega (arith, lt, place)) at),
      ),
      refl,
    )

-- the version by versions is the one that there is
version-of : (versions : List RawVersion) (a : Asked) (explicit : Option Bytes)
    → IsVersionOf (filters_in versions) (raw_names versions) a explicit (regular_version versions a explicit)
version-of versions a None = (rank versions a, best versions a, refl)
version-of versions a (Some []) = refl
version-of versions a (Some (c ∷ version)) =
    declared (filters_in versions) (raw_names versions) a c version _ (ends-at (λ n. bytes_eq n (c ∷ version)) 0 (raw_names versions))

-- so it is by a script, of the Rust form or not
version-in : (script : RawScript) (a : Asked) (explicit : Option Bytes) (b : Bool)
    → VersionBy b script a explicit (cond b (Ok None) (regular_version (versions_in script) a explicit))
version-in script a explicit true = refl
version-in script a explicit false = version-of (versions_in script) a explicit

-- the version of a name by a script's text
pub version-by : (script : RawScript) (a : Asked) (explicit : Option Bytes) → IsVersionBy script a explicit (version_by script a explicit)
version-by script a explicit = version-in script a explicit (of_rust_form script)

-- ---- export lists

-- an entry that fits has a pattern that fits
any-found : (a : Asked) (es : List ParsedSymbolMatcher) → list_any (entry_fits a) es ≡ true
    → (cxx : Bool) × (f : Filter) × EntriesHave es cxx f × Fits (name_of a cxx) (text_of a cxx) f
any-found a [] e = absurd cc
any-found a (entry ∷ es) e = elim (either (entry_fits a entry) (list_any (entry_fits a) es) e) [
  | inl first ↦ let r = pattern-found (patterns_of entry) first in
      (r.0.0, r.0.1, inl (entry-has entry r.0.0 r.0.1 r.1), fits-is a r.0.0 r.0.1 r.2)
  | inr rest ↦ let r = any-found a es rest in (r.0, r.1, inr r.2, r.3)
]
  where
    pattern-found : (qs : List Pattern) → list_any (λ f. fits a f.0 f.1) qs ≡ true → (q : Pattern) × Contains qs q × (fits a q.0 q.1 ≡ true)
    pattern-found [] is = absurd cc
    pattern-found (q ∷ qs) is = elim (either (fits a q.0 q.1) (list_any (λ f. fits a f.0 f.1) qs) is) [
      | inl at_head ↦ (q, here q qs, at_head)
      | inr deeper ↦ let r = pattern-found qs deeper in (r.0, there q qs r.0 r.1, r.2)
    ]

-- a pattern that fits is enough
found-any : (a : Asked) (qs : List Pattern) (q : Pattern) → Contains qs q → fits a q.0 q.1 ≡ true → list_any (λ f. fits a f.0 f.1) qs ≡ true
found-any a [] q within fit = absurd (nothing_in q within)
found-any a (x ∷ xs) q within fit = elim (here_or_there x xs q within) [
  | inl is ↦ first-or (fits a x.0 x.1) (list_any (λ f. fits a f.0 f.1) xs) (subst (λ (y : Pattern). fits a y.0 y.1 ≡ true) (sym is) fit)
  | inr deeper ↦ second-or (fits a x.0 x.1) (list_any (λ f. fits a f.0 f.1) xs) (found-any a xs q deeper fit)
]

-- a filter that fits is enough
any-is : (a : Asked) (es : List ParsedSymbolMatcher) (cxx : Bool) (f : Filter) → EntriesHave es cxx f → fits a cxx f ≡ true → list_any (entry_fits a) es ≡ true
any-is a [] cxx f has fit = absurd has
any-is a (e ∷ es) cxx f (inl first) fit = first-or (entry_fits a e) (list_any (entry_fits a) es) (found-any a (patterns_of e) (cxx, f) (has-entry e cxx f first) fit)
any-is a (e ∷ es) cxx f (inr rest) fit = second-or (entry_fits a e) (list_any (entry_fits a) es) (any-is a es cxx f rest fit)

-- a list that has just the patterns of some entries has a name where one of them fits it
pub listed-by : (list : ExportList) (entries : List ParsedSymbolMatcher) (a : Asked)
    → ((cxx : Bool) (f : Filter) → ListHas list cxx f ↔ EntriesHave entries cxx f) → IsListed list a ↔ IsTrue (list_any (entry_fits a) entries)
listed-by list entries a same = (
  λ listed. any-is a entries listed.0 listed.1 ((same listed.0 listed.1).0 listed.2) (is-fits a listed.0 listed.1 listed.3),
  λ is. let r = any-found a entries is in (r.0, r.1, (same r.0 r.1).1 r.2, r.3),
)
