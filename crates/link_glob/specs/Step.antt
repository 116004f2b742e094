-- The steps in which a pattern without a star in front takes a name, character by character.
use Rattle.std.specs.Prelude.{◌≡◌, ℕ, List, [], ◌∷◌, IsTrue}
use Rattle.link_glob.specs.Glob.{GlobToken, literal, any, takes}

-- the first token is no star and takes the first character
abbrev pub IsStep : List GlobToken → List ℕ → List GlobToken → List ℕ → Type 0
IsStep pattern name after more = (token : GlobToken) × (c : ℕ) × (pattern ≡ token ∷ after) × (name ≡ c ∷ more) × IsTrue (takes token c)

-- there is no such step
abbrev pub NoStep : List GlobToken → List ℕ → Type 0
NoStep pattern name = (after : List GlobToken) (more : List ℕ) → IsStep pattern name after more → ⊥

-- there is no star in front
abbrev pub BeginsPlain : List GlobToken → Type 0
BeginsPlain [] = Unit {0}
BeginsPlain (any ∷ rest) = ⊥
BeginsPlain (token ∷ rest) = Unit {0}

-- there is no character in front
abbrev pub BeginsOther : List GlobToken → Type 0
BeginsOther [] = Unit {0}
BeginsOther (literal c ∷ rest) = ⊥
BeginsOther (token ∷ rest) = Unit {0}
