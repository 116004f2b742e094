-- Reading a pattern from left to right, one token after the other. A text is a list of characters.
use Rattle.std.specs.Prelude.{◌≡◌, ℕ, zero, suc, length, Bool, true, false, List, [], ◌∷◌, ◌==◌, ◌&&◌, if◌then◌else◌, take, drop, Option, Some, None, Result, Ok, Err, position}
use Rattle.std.specs.Option.{option_map, option_and_then}
use Rattle.std.specs.Str.{chars, IsUtf8}
use Rattle.link_glob.specs.declared.compile.Dialect.{Dialect}
use Rattle.link_glob.specs.declared.compile.Dialect.TheVariants.{Gnu, MachO}
use Rattle.link_glob.specs.declared.fault.GlobError.{GlobError}
use Rattle.link_glob.specs.declared.fault.GlobError.TheVariants as errors
use Rattle.link_glob.specs.Glob.{GlobToken, literal, one, any, class}
use Rattle.link_glob.specs.Grammar.{ranges_of, with_marks}

-- The text has no token where `InvalidGlob` says so.
abbrev pub Fails : {Y : Type 0} → GlobError → Option Y → Type 0
Fails errors.InvalidGlob there = there ≡ None
Fails errors.InvalidUtf8 there = ⊥
Fails errors.Memory there = Unit {0}

-- What a function returned, seen by view, is what the text has, unless memory ran out.
abbrev pub Gives : {X Y : Type 0} → (X → Y) → Result X GlobError → Option Y → Type 0
Gives view (Ok x) there = there ≡ Some (view x)
Gives view (Err e) there = Fails e there

-- the first character never ends a class; the next `]` after it does
abbrev pub class_from : Bool → List ℕ → Option (GlobToken × List ℕ)
class_from negated [] = None
class_from negated (first ∷ text) = option_map (λ n. (class negated (ranges_of (first ∷ take n text)), drop (suc n) text)) (position (λ c. c == 93) text)

-- behind `[`
abbrev pub class_at : List ℕ → Option (GlobToken × List ℕ)
class_at [] = None
class_at (c ∷ text) = if c == 33 then class_from true text else class_from false (c ∷ text)

-- behind `*`: a run of stars is one star, or two adjacent ones are refused
abbrev pub star_at : Dialect → List ℕ → Option (GlobToken × List ℕ)
star_at dialect [] = Some (any, [])
star_at Gnu (c ∷ text) = if c == 42 then None else Some (any, c ∷ text)
star_at MachO (c ∷ text) = if c == 42 then star_at MachO text else Some (any, c ∷ text)

-- the first token, and the text after it
abbrev pub token_at : Dialect → List ℕ → Option (GlobToken × List ℕ)
token_at dialect [] = None
token_at dialect (c ∷ text) =
    if c == 42 then star_at dialect text else
    (if c == 63 then Some (one, text) else
    (if c == 91 then class_at text else Some (literal c, text)))

-- these tokens are read from the text, one after the other
abbrev pub IsRead : Dialect → List GlobToken → List ℕ → Type 0
IsRead dialect [] text = text ≡ []
IsRead dialect (token ∷ tokens) text = (rest : List ℕ) × (token_at dialect text ≡ Some (token, rest)) × IsRead dialect tokens rest

-- `InvalidGlob` says that no tokens are read from the text.
abbrev pub Refuses : GlobError → Dialect → List ℕ → Type 0
Refuses errors.InvalidGlob dialect text = (tokens : List GlobToken) → IsRead dialect tokens text → ⊥
Refuses errors.InvalidUtf8 dialect text = ⊥
Refuses errors.Memory dialect text = Unit {0}

-- What was read is read from the text, and nothing else is.
abbrev pub Reads : {X : Type 0} → Dialect → List ℕ → (X → List GlobToken) → Result X GlobError → Type 0
Reads dialect text view (Ok x) = IsRead dialect (view x) text × ((tokens : List GlobToken) → IsRead dialect tokens text → tokens ≡ view x)
Reads dialect text view (Err e) = Refuses e dialect text

-- what one character reads as: behind `[` a `^` is a `!`
abbrev pub marked : Bool → List ℕ → List ℕ
marked opened [] = []
marked opened (c ∷ rest) = (if opened && c == 94 then 33 else c) ∷ marked (c == 91) rest

-- The tokens are those that the bytes read as, or the refusal is the right one.
abbrev pub ReadsBytes : Dialect → List ℕ → Result (List GlobToken) GlobError → Type 0
ReadsBytes dialect bytes (Ok tokens) = IsUtf8 bytes × IsRead dialect tokens (with_marks (chars bytes))
ReadsBytes dialect bytes (Err errors.InvalidUtf8) = ¬ (IsUtf8 bytes)
ReadsBytes dialect bytes (Err errors.InvalidGlob) = IsUtf8 bytes × ((tokens : List GlobToken) → IsRead dialect tokens (with_marks (chars bytes)) → ⊥)
ReadsBytes dialect bytes (Err errors.Memory) = Unit {0}

-- The tokens that the steps give, one after the other, where there are fewer than this many.
abbrev pub tokens_by : (List ℕ → Option (GlobToken × List ℕ)) → ℕ → List ℕ → Option (List GlobToken)
tokens_by step zero text = None
tokens_by step (suc n) [] = Some []
tokens_by step (suc n) (c ∷ rest) = option_and_then (λ t. option_map (λ ts. t.0 ∷ ts) (tokens_by step n t.1)) (step (c ∷ rest))

-- the tokens that are read from the text
unfoldable pub tokens_of : Dialect → List ℕ → Option (List GlobToken)
tokens_of dialect text = tokens_by (token_at dialect) (suc (length text)) text
