-- What names are mapped to when the linker has made symbols.
use Rattle.std.proofs.Common.{◌≡◌, ◌+◌, ◌∙◌, ◌++◌, ℕ, Bool, true, false, cond, List, [], ◌∷◌, Contains, Option, Some, None, ap, length, length-append, refl, slice_get, subst, sym}
use Rattle.std.specs.Option.{is_some, option_and_then, option_map, option_map_or, option_or}
use Rattle.std.specs.Prelude.{codes, fold, ◌&&◌}
use Rattle.std.specs.Str.{bytes_eq}
use Rattle.std.proofs.lemmas.Slice.Eq.{bytes_eq-Decides}
use Rattle.link_db_buckets.specs.Keys.{same_key}
use Rattle.link_db_files.proofs.Changing.{ends-kept, names-kept, symbols-last}
use Rattle.link_db_files.proofs.Numbers.{name-left}
use Rattle.link_db_files.proofs.Places.{get-left}
use Rattle.link_db_files.specs.Adding.{EndsInSynthetic, next_file, no_ids, synthetic_group}
use Rattle.link_db_files.specs.GroupFiles.{symbols_in}
use Rattle.link_db_files.specs.HeldFiles.{names_in}
use Rattle.link_input_groups.specs.declared.sequenced.SyntheticSymbols.{SyntheticSymbols}
use Rattle.link_input.specs.Symbols.{Symbol}
use Rattle.link_db_mapping.proofs.Overrides.{last_there}
use Rattle.link_db_mapping.proofs.Synthetics.{ends_in_group}
use Rattle.link_db_mapping.specs.Changes.{listing_name, with_group}
use Rattle.link_db_mapping.specs.Keys.{plain_key}
use Rattle.link_db_mapping.specs.Mapped.{Mapped, mapping_of}
use Rattle.link_rules.proofs.ByPlace.{place-in}
use Rattle.link_rules.proofs.Settled.{IsListed, IsListedAt, first_definition-listed, none_some, nothing_in, some_same}
use Rattle.link_rules.specs.Names.{Mapping, definitions_of, first_definition, is_listed, mapping_with, original_of, unwrapped, wrapped}
use Rattle.link_rules.specs.Places.{Bytes, first_of, kept_if, places_from}
use Rattle.link_rules.specs.Selection.{Selection}
use Rattle.link_rules.specs.World.{Stage}
use Rattle.link_db.specs.Database.{Database}
use Rattle.link_db.specs.Synthetic.{with_listed_symbol}
use Rattle.link_resolve.specs.Known.{Known}
use Rattle.link_resolve.proofs.Settling.{count-symbols}
use Rattle.link_resolve.specs.Settled.{IsSettled, boundary_names, meaning_at_end, with_linker_group, with_linker_symbols}

-- ---- a symbol more

-- the symbol to which a name is mapped has a name, which is mapped too
record HasOwn {P : Type 0} (m : Mapped P) (s : ℕ) : Type 0 where
  pub own : Bytes
  pub named : slice_get (names_in m.files) s ≡ Some own
  pub mapped : is_some (mapping_of m own) ≡ true

-- so it is for each name that is mapped
IsClosed : {P : Type 0} → Mapped P → Type 0
IsClosed m = (name : Bytes) (s : ℕ) → mapping_of m name ≡ Some s → HasOwn m s

-- a mapping with one symbol more
abbrev with_one : {P : Type 0} → Mapped P → Bytes → Mapped P
with_one m name = with_listed_symbol name (length (names_in m.files)) m

-- equal names have one key
same-plain : (a b : Bytes) → same_key (plain_key a) (plain_key b) ≡ bytes_eq a b
same-plain a b = by (bytes_eq a b)
  where
    by : (c : Bool) → (c && true) ≡ c
    by true = refl
    by false = refl

-- behind a list with a first, another one changes nothing of what is mapped
more-behind : (over : Option ℕ) (xs : List ℕ) (n : ℕ) (b : Bool) → (b ≡ true → is_some (option_or over (first_of xs)) ≡ true)
    → option_or over (first_of (cond b (xs ++ n ∷ []) xs)) ≡ option_or over (first_of xs)
more-behind over xs n false some = refl
more-behind (Some s) xs n true some = refl
more-behind None [] n true some = absurd (none (some refl))
  where
    none : false ≡ true → ⊥
    none is = cc
more-behind None (x ∷ xs) n true some = refl

-- where nothing was mapped, it is the first
first-here : (over : Option ℕ) (xs : List ℕ) (n : ℕ) → option_or over (first_of xs) ≡ None → option_or over (first_of (xs ++ n ∷ [])) ≡ Some n
first-here (Some s) xs n none = cc
first-here None [] n none = refl
first-here None (x ∷ xs) n none = cc

-- a choice with nothing behind it
or-none : (o : Option ℕ) → option_or o None ≡ o
or-none None = refl
or-none (Some s) = refl

-- what is there stays, whatever comes behind it
or-stays : (o p : Option ℕ) → is_some o ≡ true → option_or o p ≡ o
or-stays None p some = cc
or-stays (Some s) p some = refl

-- what comes behind it is something
or-some : (o : Option ℕ) (n : ℕ) → is_some (option_or o (Some n)) ≡ true
or-some None n = refl
or-some (Some s) n = refl

-- a test that passes on two names says that they are one
same-names : (a b : Bytes) → bytes_eq a b ≡ true → a ≡ b
same-names a b = (bytes_eq-Decides a b).0

-- one name is itself
own-name : (a : Bytes) → bytes_eq a a ≡ true
own-name a = (bytes_eq-Decides a a).1 refl

-- where nothing was mapped, the new symbol is what its name is mapped to
more-unmapped : (over : Option ℕ) (xs : List ℕ) (n : ℕ) (b : Bool) → (b ≡ true → option_or over (first_of xs) ≡ None)
    → option_or over (first_of (cond b (xs ++ n ∷ []) xs)) ≡ option_or (option_or over (first_of xs)) (cond b (Some n) None)
more-unmapped over xs n false none = sym (or-none (option_or over (first_of xs)))
more-unmapped over xs n true none = first-here over xs n (none refl) ∙ sym (ap (λ (o : Option ℕ). option_or o (Some n)) (none refl))

-- a new symbol is what its name is mapped to, where that was mapped to nothing; nothing else is mapped anew
one-more : {P : Type 0} (m : Mapped P) (name asked : Bytes) → IsClosed m
    → mapping_of (with_one m name) asked ≡ option_or (mapping_of m asked) (cond (bytes_eq name asked) (Some (length (names_in m.files))) None)
unfolding IsClosed
one-more {P} m name asked closed = by (mapping_of m name) refl
  where
    n : ℕ
    n = length (names_in m.files)

    own : List ℕ
    own = m.lists (plain_key asked)

    told : Bytes → Option ℕ
    told listed = option_or (m.overridden asked) (first_of (cond (same_key (plain_key listed) (plain_key asked)) (own ++ n ∷ []) own))

    -- as it is listed under this name
    under : (listed : Bytes) → listing_name m name ≡ listed
        → mapping_of (with_one m name) asked ≡ option_or (m.overridden asked) (first_of (cond (bytes_eq listed asked) (own ++ n ∷ []) own))
    under listed is =
        ap told is ∙ ap (λ (b : Bool). option_or (m.overridden asked) (first_of (cond b (own ++ n ∷ []) own))) (same-plain listed asked)

    by : (o : Option ℕ) → mapping_of m name ≡ o → mapping_of (with_one m name) asked ≡ option_or (mapping_of m asked) (cond (bytes_eq name asked) (Some n) None)
    by None none =
        under name (ap (λ (o : Option ℕ). option_map_or (λ text. text) (option_and_then (λ s. slice_get (names_in m.files) s) o) name) none)
        ∙ more-unmapped (m.overridden asked) own n (bytes_eq name asked) (λ is. ap (mapping_of m) (sym (same-names name asked is)) ∙ none)
    by (Some s) some =
        let has = closed name s some in
        under has.own
        (ap (λ (o : Option ℕ). option_map_or (λ text. text) (option_and_then (λ s. slice_get (names_in m.files) s) o) name) some ∙ ap (λ (o : Option Bytes). option_map_or (λ text. text) o name) has.named)
        ∙ more-behind (m.overridden asked) own n (bytes_eq has.own asked) (λ is. subst (λ (a : Bytes). is_some (mapping_of m a) ≡ true) (same-names has.own asked is) has.mapped)
        ∙ sym (still (bytes_eq name asked) (λ is. ap (λ (o : Option ℕ). is_some o) (ap (mapping_of m) (sym (same-names name asked is)) ∙ some)))
      where
        still : (b : Bool) → (b ≡ true → is_some (mapping_of m asked) ≡ true) → option_or (mapping_of m asked) (cond b (Some n) None) ≡ mapping_of m asked
        still false some = or-none (mapping_of m asked)
        still true some = or-stays (mapping_of m asked) (Some n) (some refl)

-- with a symbol more, each symbol to which a name is mapped still has a name that is mapped
closed-more : {P : Type 0} (m : Mapped P) (name : Bytes) → EndsInSynthetic m.files.groups → IsClosed m → IsClosed (with_one m name)
unfolding IsClosed
closed-more {P} m name last closed = λ asked s is. by asked s (mapping_of m asked) refl (sym (one-more m name asked closed) ∙ is)
  where
    n : ℕ
    n = length (names_in m.files)

    -- one that had a name has it
    kept : (s : ℕ) → HasOwn m s → HasOwn (with_one m name) s
    kept s has = record {
      own = has.own;
      named = ap (λ (names : List Bytes). slice_get names s) (names-kept m.files name last) ∙ get-left (names_in m.files) (name ∷ []) s has.own has.named;
      mapped = ap (λ (o : Option ℕ). is_some o) (one-more m name has.own closed ∙ or-stays (mapping_of m has.own) (cond (bytes_eq name has.own) (Some n) None) has.mapped) ∙ has.mapped;
    }

    -- so has the new one
    fresh : HasOwn (with_one m name) n
    fresh = record {
      own = name;
      named = ap (λ (names : List Bytes). slice_get names n) (names-kept m.files name last) ∙ last_there (names_in m.files) name n refl;
      mapped =
          ap (λ (o : Option ℕ). is_some o) (one-more m name name closed ∙ ap (λ (b : Bool). option_or (mapping_of m name) (cond b (Some n) None)) (own-name name)) ∙ or-some (mapping_of m name) n;
    }

    by_test : (b : Bool) (s : ℕ) → cond b (Some n) None ≡ Some s → HasOwn (with_one m name) s
    by_test true s is = subst (λ k. HasOwn (with_one m name) k) (some_same n s is) fresh
    by_test false s is = absurd (none_some s is)

    by : (asked : Bytes) (s : ℕ) (o : Option ℕ) → mapping_of m asked ≡ o → option_or (mapping_of m asked) (cond (bytes_eq name asked) (Some n) None) ≡ Some s → HasOwn (with_one m name) s
    by asked s (Some t) some is =
        subst (λ k. HasOwn (with_one m name) k) (some_same t s (sym (ap (λ (o : Option ℕ). option_or o (cond (bytes_eq name asked) (Some n) None)) some) ∙ is)) (kept t (closed asked t some))
    by asked s None none is = by_test (bytes_eq name asked) s (sym (ap (λ (o : Option ℕ). option_or o (cond (bytes_eq name asked) (Some n) None)) none) ∙ is)

-- ---- symbols more

-- a choice among what was there, the first symbol and those behind it
by-first : (o : Option ℕ) (b : Bool) (n : ℕ) (rest : List ℕ) → option_or (option_or o (cond b (Some n) None)) (first_of rest) ≡ option_or o (first_of (kept_if b n rest))
by-first (Some s) b n rest = refl
by-first None true n rest = refl
by-first None false n rest = refl

-- a name is mapped to what it was mapped to, else to the first of the new symbols of that name
named-more : {P : Type 0} (names : List Bytes) (m : Mapped P) (asked : Bytes) → EndsInSynthetic m.files.groups → IsClosed m
    → mapping_of (with_linker_symbols names m) asked ≡ option_or (mapping_of m asked) (first_of (places_from (λ made. bytes_eq made asked) (length (names_in m.files)) names))
named-more [] m asked last closed = sym (or-none (mapping_of m asked))
named-more {P} (name ∷ names) m asked last closed =
    let n = length (names_in m.files) in
    let rest = λ (k : ℕ). places_from (λ made. bytes_eq made asked) k names in
    let count : length (names_in (with_one m name).files) ≡ n + 1 = ap length (names-kept m.files name last) ∙ length-append (names_in m.files) (name ∷ []) in
    named-more names (with_one m name) asked (ends-kept m.files name last) (closed-more m name last closed)
    ∙ ap (λ (o : Option ℕ). option_or o (first_of (rest (length (names_in (with_one m name).files))))) (one-more m name asked closed)
    ∙ ap (λ (k : ℕ). option_or (option_or (mapping_of m asked) (cond (bytes_eq name asked) (Some n) None)) (first_of (rest k))) count
    ∙ by-first (mapping_of m asked) (bytes_eq name asked) n (rest (n + 1))

-- ---- what a link maps names to

-- a name that is mapped stays so where another is mapped anew
still-with : (name : Bytes) (o : Option ℕ) (m : Mapping) (asked : Bytes) → is_some (m asked) ≡ true → is_some (mapping_with name o m asked) ≡ true
still-with name None m asked some = some
still-with name (Some s) m asked some = by (bytes_eq asked name)
  where
    by : (b : Bool) → is_some (cond b (Some s) (m asked)) ≡ true
    by true = refl
    by false = some

-- and where names are wrapped
still-mapped : (wraps : List Bytes) (m : Mapping) (asked : Bytes) → is_some (m asked) ≡ true → is_some (fold wrapped m wraps asked) ≡ true
still-mapped [] m asked some = some
still-mapped (name ∷ wraps) m asked some =
    let wrapper = m (codes "__wrap_" ++ name) in
    still-mapped wraps (wrapped m name) asked
    (still-with (codes "__real_" ++ name) (original_of m name) (mapping_with name wrapper m) asked (still-with name wrapper m asked some))

-- what is in a list has a first before it
some-first : (xs : List ℕ) (s : ℕ) → Contains xs s → is_some (first_of xs) ≡ true
some-first [] s within = absurd (nothing_in s within)
some-first (x ∷ xs) s within = refl

-- the own name of a listed symbol is mapped
own-mapped : (w : Stage) (s : ℕ) (x : Symbol) → IsListedAt w s x → is_some (first_definition w x.name) ≡ true
own-mapped w s x at =
    let passes : (is_listed x && bytes_eq x.name x.name) ≡ true = ap (λ (b : Bool). b && bytes_eq x.name x.name) at.listed ∙ own-name x.name in
    still-mapped w.options.wrap (unwrapped w.symbols) x.name
    (some-first (definitions_of w.symbols x.name) s (place-in (λ y. is_listed y && bytes_eq y.name x.name) w.symbols s x at.at passes))

-- so each symbol to which the names of a stage are mapped has a name that is mapped
closed-at : {P : Type 0} (m : Mapped P) (w : Stage) → w.symbols ≡ symbols_in m.files.groups → ((name : Bytes) → mapping_of m name ≡ first_definition w name) → IsClosed m
unfolding IsClosed IsListed
closed-at {P} m w symbols names = λ name s is.
    let listed = first_definition-listed w name s (sym (names name) ∙ is) in
    let x : Symbol = listed.0 in
    record {
      own = x.name;
      named = name-left (symbols_in m.files.groups) m.files.added s x.name
          (ap (λ (xs : List Symbol). option_map (λ (y : Symbol). y.name) (slice_get xs s)) (sym symbols) ∙ ap (option_map (λ (y : Symbol). y.name)) listed.1.at);
      mapped = ap (λ (o : Option ℕ). is_some o) (names x.name) ∙ own-mapped w s x listed.1;
    }

-- what a name is mapped to at the end
pub meaning-is : {P : Type 0} (db : Database P) (known : Known) (l : Selection) → IsSettled db known l → db.mapping.files.added ≡ [] → (name : Bytes)
    → mapping_of (with_linker_group (boundary_names l) db.mapping) name ≡ meaning_at_end l name
meaning-is {P} db known l settled none name =
    let m = db.mapping in
    let s : SyntheticSymbols = record { file_id = next_file m.files; symbol_id_range = no_ids (length (names_in m.files)) } in
    let held = with_group (synthetic_group m.files) m in
    let symbols : symbols_in held.files.groups ≡ l.stage.symbols = symbols-last m.files.groups s ∙ sym settled.symbols in
    let count : length (names_in held.files) ≡ length l.stage.symbols = sym (count-symbols held.files held.files refl none) ∙ ap length symbols in
    let more = λ (k : ℕ). first_of (places_from (λ made. bytes_eq made name) k (boundary_names l)) in
    named-more (boundary_names l) held name (ends_in_group m.files) (closed-at held l.stage (sym symbols) settled.names)
    ∙ ap (λ (o : Option ℕ). option_or o (more (length (names_in held.files)))) (settled.names name)
    ∙ ap (λ (k : ℕ). option_or (first_definition l.stage name) (more k)) count
