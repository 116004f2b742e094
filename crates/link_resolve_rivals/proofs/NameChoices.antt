-- Which definition of each name counts: by their heads lists tell the choices of a link.
use Rattle.std.proofs.Common.{◌≡◌, ◌∙◌, ◌+◌, ◌<◌, ◌&&◌, ℕ, Bool, true, false, List, [], ◌∷◌, ◌++◌, All, Contains, Option, Some, None, refl, sym, ap, subst, arith, length, map, zero-add, if◌then◌else◌, slice_get, slice_index, filter_map}
use Rattle.std.specs.Prelude.{is_some, option_to_list}
use Rattle.std.specs.List.{cons_option, range_with_len}
use Rattle.std.specs.Option.{option_map_or}
use Rattle.std.proofs.lemmas.Option.{slice_get-get_or}
use Rattle.std.proofs.lemmas.List.Elements.{All-contains_itself, All-from_get_or, All-weaker}
use Rattle.std.proofs.lemmas.List.FromFn.{get_or-range_with_len, length-range_with_len}
use Rattle.link_input.specs.Symbols.{Origin, Symbol, in_object, in_prelude, in_script, in_stub}
use Rattle.link_rules.proofs.ByPlace.{AllFrom, all-places}
use Rattle.link_rules.proofs.Settled.{both_true, slice_index-each_from}
use Rattle.link_rules.specs.declared.explanation.NameChoice.{NameChoice}
use Rattle.link_rules.specs.Choices.{choice_at, name_choices, plain_choice, versioned_choice}
use Rattle.link_rules.specs.Names.{is_version_listed, is_version_named}
use Rattle.link_rules.specs.Places.{are_several, behind_head, some_from}
use Rattle.link_rules.specs.Rivals.{is_forced, plain_entry, plain_list, plain_table, reference_table, settled_entry, stand_in, versioned_list}
use Rattle.link_rules.specs.Selection.{Selection}
use Rattle.link_rules.specs.World.{is_definition}
use Rattle.link_resolve_rivals.specs.Chosen.{choice_among, choices, list_choice}
use Rattle.link_resolve_rivals.specs.Lists.{AreLists, plain_lists, versioned_lists}
use Rattle.link_resolve_rivals.specs.Settled.{settled_at, settled_table}
use Rattle.link_resolve_rivals.proofs.Heads.{list-inside, list-of-head, list-of-one, same-number}
use Rattle.link_resolve_rivals.proofs.NameLists.{below-length, version-listed}
use Rattle.link_resolve_rivals.proofs.SettlePass.{stand-same}
use Rattle.link_resolve_rivals.proofs.Tables.{each-length, own-reference, stand-themselves}

-- ---- one list

-- a head with symbols behind it is chosen among
head-chosen : (l : Selection) (v : Bool) (later table : List ℕ) (s : ℕ) → 0 < length later
    → Some (choice_among l v (s ∷ later) table s) ≡ list_choice l v (s ∷ later) table s
head-chosen l v [] table s some = absurd (omega arith)
head-chosen l v (y ∷ ys) table s some =
    sym (ap (λ b. if b && are_several (s ∷ y ∷ ys) then Some (choice_among l v (s ∷ y ∷ ys) table s) else None) (same-number s))

-- where symbols stand behind the head, the choice is that among all of them
pub several-chosen : (l : Selection) (v : Bool) (own later table : List ℕ) (s : ℕ) → later ≡ behind_head s own → 0 < length later
    → Some (choice_among l v (s ∷ later) table s) ≡ list_choice l v own table s
several-chosen l v own later table s is some =
    head-chosen l v later table s some ∙ ap (λ xs. list_choice l v xs table s) (sym (list-of-head s own later is some))

-- where none stands behind it, there is no choice
pub none-chosen : (l : Selection) (v : Bool) (own later table : List ℕ) (s : ℕ) → later ≡ behind_head s own → length later ≡ 0 → None ≡ list_choice l v own table s
none-chosen l v own later table s is none =
    sym (ap (λ b. if b then Some (choice_among l v own table s) else None) (list-of-one s own later is none))

-- ---- a table in which each symbol points to itself

-- each symbol points to itself there
own-at : (n e : ℕ) → e < n → slice_index (range_with_len 0 n) e ≡ e
own-at n e lt = get_or-range_with_len 0 n e 0 lt ∙ zero-add e

-- and stands at its place
own-stands : (n e : ℕ) → e < n → slice_get (range_with_len 0 n) e ≡ Some e
own-stands n e lt =
    let within : e < length (range_with_len 0 n) = omega (arith, length-range_with_len 0 n) in
    slice_get-get_or (range_with_len 0 n) e 0 within ∙ ap (λ k. Some k) (own-at n e lt)

-- it has an entry for each symbol
pub own-length : (table : List ℕ) (n : ℕ) → table ≡ range_with_len 0 n → length table ≡ n
own-length table n is = ap length is ∙ length-range_with_len 0 n

-- its entries are symbols
own-inside : (n : ℕ) → All (λ t. t < length (range_with_len 0 n)) (range_with_len 0 n)
own-inside n = All-from_get_or (λ (t : ℕ). t < length (range_with_len 0 n)) (range_with_len 0 n) 0 inside
  where
    inside : (i : ℕ) → i < length (range_with_len 0 n) → slice_index (range_with_len 0 n) i < length (range_with_len 0 n)
    inside i lt =
        let less : i < n = omega (arith, length-range_with_len 0 n) in
        let same = own-at n i less in
        omega arith

pub table-inside : (table : List ℕ) (n : ℕ) → table ≡ range_with_len 0 n → All (λ t. t < length table) table
table-inside table n is = subst (λ (xs : List ℕ). All (λ t. t < length xs) xs) (sym is) (own-inside n)

-- each symbol stands for itself by it
own-themselves : (l : Selection) (n : ℕ) (xs : List ℕ) → All (λ t. t < n) xs → map (stand_in l (range_with_len 0 n)) xs ≡ xs
own-themselves l n xs all = stand-themselves l (range_with_len 0 n) xs
    (All-weaker (λ (t : ℕ). t < n) (λ (e : ℕ). slice_index (range_with_len 0 n) e ≡ e) (own-at n) xs all)

-- ---- all lists

-- what a function gives of numbers in a row, and of the symbols that they number
some-numbered : {X Y : Type 0} (f : ℕ → Option Y) (g : ℕ → X → Option Y) (n : ℕ) (xs : List X)
    → AllFrom (λ s x. f s ≡ g s x) n xs → filter_map f (range_with_len n (length xs)) ≡ some_from g n xs
some-numbered f g n [] all = refl
some-numbered {X} {Y} f g n (x ∷ xs) all =
    by (f n) (filter_map f (range_with_len (n + 1) (length xs)))
    ∙ ap (λ o. option_to_list o ++ filter_map f (range_with_len (n + 1) (length xs))) all.0
    ∙ ap (λ ys. option_to_list (g n x) ++ ys) (some-numbered f g (n + 1) xs all.1)
  where
    by : (o : Option Y) (ys : List Y) → cons_option o ys ≡ option_to_list o ++ ys
    by None ys = refl
    by (Some y) ys = refl

-- the choices of lists of symbols
choices-of : (l : Selection) (listed : ℕ → List ℕ) (table : List ℕ) (v : Bool) (g : ℕ → Symbol → Option NameChoice) → length table ≡ length l.stage.symbols
    → ((s : ℕ) (x : Symbol) → slice_get l.stage.symbols s ≡ Some x → list_choice l v (listed s) table s ≡ g s x)
    → choices l listed table v ≡ some_from g 0 l.stage.symbols
choices-of l listed table v g same each =
    ap (λ n. filter_map (λ s. list_choice l v (listed s) table s) (range_with_len 0 n)) same
    ∙ some-numbered (λ s. list_choice l v (listed s) table s) g 0 l.stage.symbols
    (all-places (λ s x. list_choice l v (listed s) table s ≡ g s x) l.stage.symbols each)

-- a symbol that can be found by a version is not a forced name
version-not-forced : (origin : Origin) → is_version_named origin ≡ true → is_forced origin ≡ false
version-not-forced (in_prelude d) named = cc
version-not-forced (in_object n shared e) named = refl
version-not-forced (in_script d) named = refl
version-not-forced (in_stub strength) named = refl

-- so it points to itself at first
version-reference : (l : Selection) (s : ℕ) (x : Symbol) → slice_get l.stage.symbols s ≡ Some x → is_version_listed x ≡ true → slice_index (reference_table l) s ≡ s
version-reference l s x at listed =
    let all = both_true (is_definition x && is_version_named x.origin) (is_some x.version) listed in
    let both = both_true (is_definition x) (is_version_named x.origin) all.0 in
    own-reference l s x at both.0 (version-not-forced x.origin both.1)

module _ (l : Selection) (plain : ℕ → List ℕ) (n : ℕ) (are : AreLists plain n) (count : length l.stage.symbols ≡ n)
    (agree : (s : ℕ) → plain s ≡ plain_lists l.stage s) where
  -- the list of a symbol
  plain-is : (s : ℕ) (x : Symbol) → slice_get l.stage.symbols s ≡ Some x → plain s ≡ plain_list l.stage x
  plain-is s x at = agree s ∙ ap (λ o. option_map_or (plain_list l.stage) o []) at

  -- the choices of plain names are told where each symbol points to itself
  plain-chosen : choices l plain (range_with_len 0 n) false ≡ some_from (plain_choice l) 0 l.stage.symbols
  plain-chosen = choices-of l plain (range_with_len 0 n) false (plain_choice l) (length-range_with_len 0 n ∙ sym count) each
    where
      each : (s : ℕ) (x : Symbol) → slice_get l.stage.symbols s ≡ Some x → list_choice l false (plain s) (range_with_len 0 n) s ≡ plain_choice l s x
      each s x at =
          ap (λ entries. choice_at l false (plain s) entries s) (own-themselves l n (plain s) (list-inside plain n s are))
          ∙ ap (λ own. choice_at l false own own s) (plain-is s x at)

  -- that table once plain names are settled
  abbrev settled : List ℕ
  settled = settled_table l plain (range_with_len 0 n)

  -- a symbol that can be found by a version points there to what it points to in the plain table
  settled-same : (e : ℕ) (y : Symbol) → slice_get l.stage.symbols e ≡ Some y → is_version_listed y ≡ true → slice_index settled e ≡ slice_index (plain_table l) e
  settled-same e y at listed =
      let less = below-length l.stage.symbols e y at in
      let inside : e < n = omega (arith, count, less) in
      let zero_add : 0 + e ≡ e = omega arith in
      slice_index-each_from (settled_at l plain (range_with_len 0 n)) 0 (range_with_len 0 n) e e (own-stands n e inside)
      ∙ ap (λ k. settled_at l plain (range_with_len 0 n) k e) zero_add
      ∙ ap (λ entries. settled_entry l (plain e) entries e) (own-themselves l n (plain e) (list-inside plain n e are))
      ∙ ap (λ own. settled_entry l own own e) (plain-is e y at)
      ∙ ap (settled_entry l (plain_list l.stage y) (plain_list l.stage y)) (sym (version-reference l e y at listed))
      ∙ sym (slice_index-each_from (plain_entry l (reference_table l)) 0 l.stage.symbols e y at ∙ ap (λ k. plain_entry l (reference_table l) k y) zero_add)

  -- the choices of names with versions are told by it
  versioned-chosen : (versioned : ℕ → List ℕ) → ((s : ℕ) → versioned s ≡ versioned_lists l.stage s)
      → choices l versioned settled true ≡ some_from (versioned_choice l) 0 l.stage.symbols
  versioned-chosen versioned same = choices-of l versioned settled true (versioned_choice l)
      (each-length (settled_at l plain (range_with_len 0 n)) 0 (range_with_len 0 n) ∙ length-range_with_len 0 n ∙ sym count) each
    where
      alike : (x : Symbol) → All (λ e. slice_index settled e ≡ slice_index (plain_table l) e) (versioned_list l.stage x)
      alike x = All-weaker (Contains (versioned_list l.stage x)) (λ (e : ℕ). slice_index settled e ≡ slice_index (plain_table l) e)
          (λ e within. (let (y, at, listed) = version-listed l.stage x e within in settled-same e y at listed)) (versioned_list l.stage x)
          (All-contains_itself (versioned_list l.stage x))

      each : (s : ℕ) (x : Symbol) → slice_get l.stage.symbols s ≡ Some x → list_choice l true (versioned s) settled s ≡ versioned_choice l s x
      each s x at =
          ap (λ own. list_choice l true own settled s) (same s ∙ ap (λ o. option_map_or (versioned_list l.stage) o []) at)
          ∙ ap (λ entries. choice_at l true (versioned_list l.stage x) entries s) (stand-same l settled (plain_table l) (versioned_list l.stage x) (alike x))

  -- the choices of plain names, and then those of versions, are those of a link
  pub names-chosen : (versioned : ℕ → List ℕ) → ((s : ℕ) → versioned s ≡ versioned_lists l.stage s)
      → choices l plain (range_with_len 0 n) false ++ choices l versioned (settled_table l plain (range_with_len 0 n)) true ≡ name_choices l
  names-chosen versioned same =
      ap (λ cs. cs ++ choices l versioned settled true) plain-chosen
      ∙ ap (λ cs. some_from (plain_choice l) 0 l.stage.symbols ++ cs) (versioned-chosen versioned same)
