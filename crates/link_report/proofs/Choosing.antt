-- The names in the lines of choices: each choice goes by a symbol of a file.
use Rattle.std.proofs.Common.{◌≡◌, ◌∙◌, ◌&&◌, ◌++◌, ◌+◌, ◌≤◌, ℕ, zero, suc, Bool, true, false, List, [], ◌∷◌, Option, Some, None, ap, arith, length, map, refl, sym, if◌then◌else◌, slice_get, codes, decimal, append-nil, append_assoc}
use Rattle.std.specs.Prelude.{option_and_then, option_to_list}
use Rattle.std.specs.List.{flat_map, slice_index_or}
use Rattle.std.specs.Option.{option_map_or}
use Rattle.std.specs.Str.{chars, is_utf8}
use Rattle.std.proofs.lemmas.Grind.{flat_map-append}
use Rattle.std.proofs.lemmas.List.{get_or_past}
use Rattle.std.proofs.lemmas.Option.{slice_get_past}
use Rattle.link_input.specs.Symbols.{Symbol}
use Rattle.link_names.specs.NameText.{name_text}
use Rattle.link_db_files.specs.GroupFiles.{symbols_in}
use Rattle.link_db_files.specs.HeldFiles.{HeldFiles, names_in, version_of}
use Rattle.link_db_files.proofs.Lookup.{names-count}
use Rattle.link_rules.specs.declared.explanation.Explanation.{Explanation}
use Rattle.link_rules.specs.declared.explanation.FoundRoot.{FoundRoot}
use Rattle.link_rules.specs.declared.explanation.NameChoice.{NameChoice}
use Rattle.link_rules.specs.Choices.{choice_at, choice_case, plain_choice, versioned_choice}
use Rattle.link_rules.specs.Explained.{Explains}
use Rattle.link_rules.specs.Places.{Bytes, are_several, first_of, is_number, some_from}
use Rattle.link_rules.specs.Report.{version_text}
use Rattle.link_rules.specs.Rivals.{choice, plain_list, plain_table, stand_in, versioned_list}
use Rattle.link_rules.specs.Selection.{Selection}
use Rattle.link_rules.proofs.ByPlace.{AllFrom, all-places}
use Rattle.link_rules.proofs.Explaining.{is_number-true}
use Rattle.link_rules.proofs.Settled.{both_true, none_some, some_same}
use Rattle.link_report.specs.Why.{case_text, listed_name, name_at, rule_line, version_at, why_line, why_text}

-- the first of a list stands at its place 0
head-first : (xs : List ℕ) → slice_get xs 0 ≡ first_of xs
head-first [] = refl
head-first (x ∷ xs) = refl

-- what is chosen at a symbol goes by it
choice-first : (l : Selection) (v : Bool) (own entries : List ℕ) (s : ℕ) (c : NameChoice) → choice_at l v own entries s ≡ Some c → slice_get c.symbols 0 ≡ Some s
choice-first l v own entries s c = by (is_number (first_of own) s && are_several own) refl
  where
    chosen : NameChoice
    chosen = record { symbols = own; is_versioned = v; chosen = choice l entries s; case = choice_case l entries }

    by : (b : Bool) → (is_number (first_of own) s && are_several own) ≡ b → (if b then Some chosen else None) ≡ Some c → slice_get c.symbols 0 ≡ Some s
    by true passes is =
        ap (λ (k : NameChoice). slice_get k.symbols 0) (sym (some_same chosen c is))
        ∙ head-first own ∙ is_number-true (first_of own) s (both_true (is_number (first_of own) s) (are_several own) passes).0
    by false fails is = absurd (none_some c is)

-- the lines of what a function chooses, where two ways to write them agree on it
lines-same : (f g : NameChoice → Bytes) (p : ℕ → Symbol → Option NameChoice) (n : ℕ) (xs : List Symbol)
    → AllFrom (λ s x. (c : NameChoice) → p s x ≡ Some c → f c ≡ g c) n xs → flat_map f (some_from p n xs) ≡ flat_map g (some_from p n xs)
lines-same f g p n [] all = refl
lines-same f g p n (x ∷ xs) all = by (p n x) (some_from p (n + 1) xs) refl (lines-same f g p (n + 1) xs all.1)
  where
    by : (o : Option NameChoice) (rest : List NameChoice) → p n x ≡ o → flat_map f rest ≡ flat_map g rest
        → flat_map f (option_to_list o ++ rest) ≡ flat_map g (option_to_list o ++ rest)
    by None rest is same = same
    by (Some c) rest is same = ap (λ (t : Bytes). t ++ flat_map f rest) (all.0 c is) ∙ ap (λ (t : Bytes). g c ++ t) same

-- a line says of names and versions those of the first definition alone
line-same : (n m : ℕ → Bytes) (v w : ℕ → Option Bytes) (c : NameChoice) (s : ℕ) → slice_get c.symbols 0 ≡ Some s → n s ≡ m s → v s ≡ w s → rule_line n v c ≡ rule_line m w c
line-same n m v w c s first names versions =
    ap (λ (t : Bytes). codes "rule " ++ t ++ codes " " ++ decimal c.chosen ++ codes " " ++ case_text c.case ++ flat_map (λ e. codes " " ++ decimal e) c.symbols ++ codes "\n") same
  where
    same : option_map_or (listed_name n v c.is_versioned) (slice_get c.symbols 0) [] ≡ option_map_or (listed_name m w c.is_versioned) (slice_get c.symbols 0) []
    same =
        ap (λ o. option_map_or (listed_name n v c.is_versioned) o []) first
        ∙ (ap (λ t. name_text t ++ (if c.is_versioned then version_text (v s) else [])) names
        ∙ (ap (λ o. name_text (m s) ++ (if c.is_versioned then version_text o else [])) versions
        ∙ sym (ap (λ o. option_map_or (listed_name m w c.is_versioned) o []) first)))

-- the name of a symbol of a file, among those of all symbols
name-of : (symbols : List Symbol) (added : List Bytes) (s : ℕ) (x : Symbol) → slice_get symbols s ≡ Some x → slice_index_or (map (λ (y : Symbol). y.name) symbols ++ added) s [] ≡ x.name
name-of [] added s x at = absurd (none_some x at)
name-of (y ∷ ys) added zero x at = ap (λ (z : Symbol). z.name) (some_same y x at)
name-of (y ∷ ys) added (suc s) x at = name-of ys added s x at

empty-name : name_text [] ≡ []
unfolding is_utf8 chars
empty-name = refl

-- an id past all symbols has neither a name nor a version
pub nothing-past : {P : Type 0} (held : HeldFiles P) (id : ℕ) (v : Bool) → length (names_in held) ≤ id
    → listed_name (λ s. slice_index_or (names_in held) s []) (version_of held) v id ≡ []
nothing-past held id v past =
    ap (λ (t : Bytes). name_text t ++ (if v then version_text (version_of held id) else [])) (get_or_past (names_in held) id [] past)
    ∙ (ap (λ (t : Bytes). t ++ (if v then version_text (version_of held id) else [])) empty-name
    ∙ (ap (λ (o : Option Symbol). if v then version_text (option_and_then (λ (x : Symbol). x.version) o) else []) (slice_get_past (symbols_in held.groups) id past_files)
    ∙ by v))
  where
    past_files : length (symbols_in held.groups) ≤ id
    past_files = omega (arith, names-count held, past)

    by : (b : Bool) → (if b then version_text (option_and_then (λ (x : Symbol). x.version) None) else []) ≡ []
    by true = refl
    by false = refl

module _ {P : Type 0} (l : Selection) (held : HeldFiles P) (same : symbols_in held.groups ≡ l.stage.symbols) where
  abbrev names : ℕ → Bytes
  names s = slice_index_or (names_in held) s []

  name-same : (s : ℕ) (x : Symbol) → slice_get l.stage.symbols s ≡ Some x → names s ≡ name_at l.stage.symbols s
  name-same s x at =
      ap (λ (symbols : List Symbol). slice_index_or (map (λ (y : Symbol). y.name) symbols ++ held.added) s []) same
      ∙ (name-of l.stage.symbols held.added s x at ∙ sym (ap (λ o. option_map_or (λ (y : Symbol). y.name) o []) at))

  version-same : (s : ℕ) → version_of held s ≡ version_at l.stage.symbols s
  version-same s = ap (λ (symbols : List Symbol). option_and_then (λ (y : Symbol). y.version) (slice_get symbols s)) same

  choices-same : (v : Bool) (own entries : ℕ → Symbol → List ℕ) (p : ℕ → Symbol → Option NameChoice)
      → ((s : ℕ) (x : Symbol) → p s x ≡ choice_at l v (own s x) (entries s x) s)
      → flat_map (rule_line names (version_of held)) (some_from p 0 l.stage.symbols)
      ≡ flat_map (rule_line (name_at l.stage.symbols) (version_at l.stage.symbols)) (some_from p 0 l.stage.symbols)
  choices-same v own entries p is =
      lines-same (rule_line names (version_of held)) (rule_line (name_at l.stage.symbols) (version_at l.stage.symbols)) p 0 l.stage.symbols
      (all-places (λ s x. (c : NameChoice) → p s x ≡ Some c → rule_line names (version_of held) c ≡ rule_line (name_at l.stage.symbols) (version_at l.stage.symbols) c)
      l.stage.symbols each)
    where
      each : (s : ℕ) (x : Symbol) → slice_get l.stage.symbols s ≡ Some x → (c : NameChoice) → p s x ≡ Some c
          → rule_line names (version_of held) c ≡ rule_line (name_at l.stage.symbols) (version_at l.stage.symbols) c
      each s x at c chosen =
          line-same names (name_at l.stage.symbols) (version_of held) (version_at l.stage.symbols) c s
          (choice-first l v (own s x) (entries s x) s c (sym (is s x) ∙ chosen)) (name-same s x at) (version-same s)

-- the whole text
pub text-same : {P : Type 0} (l : Selection) (roots : List FoundRoot) (explanation : Explanation) (held : HeldFiles P) → Explains l roots explanation
    → symbols_in held.groups ≡ l.stage.symbols
    → why_text (λ s. slice_index_or (names_in held) s []) (version_of held) explanation ≡ why_text (name_at l.stage.symbols) (version_at l.stage.symbols) explanation
text-same l roots explanation held explains same = ap (λ (t : Bytes). flat_map why_line explanation.reasons ++ t) choices
  where
    old : NameChoice → Bytes
    old = rule_line (names l held same) (version_of held)

    new : NameChoice → Bytes
    new = rule_line (name_at l.stage.symbols) (version_at l.stage.symbols)

    plain : List NameChoice
    plain = some_from (plain_choice l) 0 l.stage.symbols

    versioned : List NameChoice
    versioned = some_from (versioned_choice l) 0 l.stage.symbols

    plain-same : flat_map old plain ≡ flat_map new plain
    plain-same = choices-same l held same false (λ s x. plain_list l.stage x) (λ s x. plain_list l.stage x) (plain_choice l) (λ s x. refl)

    versioned-same : flat_map old versioned ≡ flat_map new versioned
    versioned-same =
        choices-same l held same true (λ s x. versioned_list l.stage x) (λ s x. map (stand_in l (plain_table l)) (versioned_list l.stage x)) (versioned_choice l) (λ s x. refl)

    choices : flat_map old explanation.choices ≡ flat_map new explanation.choices
    choices =
        ap (flat_map old) explains.choices
        ∙ (flat_map-append old plain versioned
        ∙ (ap (λ (t : Bytes). t ++ flat_map old versioned) plain-same
        ∙ (ap (λ (t : Bytes). flat_map new plain ++ t) versioned-same
        ∙ (sym (flat_map-append new plain versioned) ∙ sym (ap (flat_map new) explains.choices)))))

-- the name that stands at a place
pub name-there : (xs : List Bytes) (i : ℕ) (x : Bytes) → slice_get xs i ≡ Some x → slice_index_or xs i [] ≡ x
name-there [] i x at = absurd (none_some x at)
name-there (y ∷ ys) zero x at = some_same y x at
name-there (y ∷ ys) (suc i) x at = name-there ys i x at

-- a name with its version behind it
pub listed-versioned : (text before after name : Bytes) (version : Option Bytes) (n : ℕ → Bytes) (v : ℕ → Option Bytes) (b : Bool) (s : ℕ) → b ≡ true → n s ≡ name → version ≡ v s
    → before ≡ text ++ name_text name → after ≡ before ++ version_text version → after ≡ text ++ listed_name n v b s
listed-versioned text before after name version n v b s is named versioned first then_ =
    then_ ∙ (ap (λ (t : Bytes). t ++ version_text version) first
    ∙ (append_assoc text (name_text name) (version_text version)
    ∙ (ap (λ (t : Bytes). text ++ (name_text t ++ version_text version)) (sym named)
    ∙ (ap (λ (o : Option Bytes). text ++ (name_text (n s) ++ version_text o)) versioned
    ∙ ap (λ (c : Bool). text ++ (name_text (n s) ++ (if c then version_text (v s) else []))) (sym is)))))

-- a name alone
pub listed-plain : (text after name : Bytes) (n : ℕ → Bytes) (v : ℕ → Option Bytes) (b : Bool) (s : ℕ) → b ≡ false → n s ≡ name → after ≡ text ++ name_text name
    → after ≡ text ++ listed_name n v b s
listed-plain text after name n v b s is named first =
    first ∙ (ap (λ (t : Bytes). text ++ t) (sym (append-nil (name_text name)))
    ∙ (ap (λ (t : Bytes). text ++ (name_text t ++ [])) (sym named)
    ∙ ap (λ (c : Bool). text ++ (name_text (n s) ++ (if c then version_text (v s) else []))) (sym is)))
