-- What may stand between the parts of a script: blanks and comments, as pieces of the text.
use Rattle.std.specs.Prelude.{◌≡◌, ◌≢◌, ℕ, true, false, List, [], ◌∷◌, ◌++◌}
use Rattle.link_script_syntax.specs.Skip.{is_blank}

-- a piece of the text: a space, tab, CR or LF; a comment from `#` up to the end of its line; or one between `/*` and `*/`
pub data Piece : Type 0 where
  blank : (byte : ℕ) → Piece
  line : (bytes : List ℕ) → Piece
  block : (bytes : List ℕ) → Piece

-- no LF
abbrev pub IsLine : List ℕ → Type 0
IsLine [] = Unit {0}
IsLine (c ∷ rest) = (c ≢ 10) × IsLine rest

-- a line ends at an LF or at the end of the text
abbrev pub EndsLine : List ℕ → Type 0
EndsLine [] = Unit {0}
EndsLine (c ∷ rest) = c ≡ 10

-- no `*/`, not even with a `/` behind the last byte
abbrev pub IsOpen : List ℕ → Type 0
IsOpen [] = Unit {0}
IsOpen (c ∷ []) = Unit {0}
IsOpen (c ∷ d ∷ rest) = ((c ≡ 42) × (d ≡ 47) → ⊥) × IsOpen (d ∷ rest)

-- no blank and no comment begins here
abbrev pub Stops : List ℕ → Type 0
Stops [] = Unit {0}
Stops (c ∷ []) = (is_blank c ≡ false) × (c ≢ 35)
Stops (c ∷ d ∷ rest) = (is_blank c ≡ false) × (c ≢ 35) × ((c ≡ 47) × (d ≡ 42) → ⊥)

-- the text is these pieces and then the rest
abbrev pub InFront : List Piece → List ℕ → List ℕ → Type 0
InFront [] text rest = text ≡ rest
InFront (blank c ∷ pieces) text rest = (after : List ℕ) × (text ≡ c ∷ after) × (is_blank c ≡ true) × InFront pieces after rest
InFront (line bytes ∷ pieces) text rest = (after : List ℕ) × (text ≡ 35 ∷ (bytes ++ after)) × IsLine bytes × EndsLine after × InFront pieces after rest
InFront (block bytes ∷ pieces) text rest = (after : List ℕ) × (text ≡ 47 ∷ 42 ∷ (bytes ++ (42 ∷ 47 ∷ after))) × IsOpen (bytes ++ 42 ∷ []) × InFront pieces after rest

-- the text is these pieces and then the rest, where no further one begins
abbrev pub Skips : List Piece → List ℕ → List ℕ → Type 0
Skips pieces text rest = InFront pieces text rest × Stops rest

-- all blanks and comments that stand there
abbrev pub Skipped : List ℕ → List ℕ → Type 0
Skipped text rest = (pieces : List Piece) × Skips pieces text rest

-- Blanks and comments stand in front, and then, at this place, a comment that is never closed.
abbrev pub Unclosed : List ℕ → List ℕ → Type 0
Unclosed text at = (pieces : List Piece) × (bytes : List ℕ) × InFront pieces text at × (at ≡ 47 ∷ 42 ∷ bytes) × IsOpen bytes
