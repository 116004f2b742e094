-- What a source still has, and what a sink has taken; either may not tell.
use Rattle.std.specs.Prelude.{◌≡◌, ◌⊎◌, ℕ, ◌+◌, ◌<◌, ◌≤◌, ◌^◌, ◌-◌, min, List, [], ◌++◌, length, take, Option, Some, None}

-- these bytes were handed over, from the front of what was left
abbrev pub Gives : Option (List ℕ) → Option (List ℕ) → List ℕ → Type 0
Gives None None got = Unit {0}
Gives None (Some rest) got = ⊥
Gives (Some all) None got = ⊥
Gives (Some all) (Some rest) got = all ≡ got ++ rest

-- some bytes were handed over
abbrev pub GivesPart : Option (List ℕ) → Option (List ℕ) → Type 0
GivesPart before after = (got : List ℕ) × Gives before after got

-- some bytes were handed over, and no more than so many
abbrev pub GivesAtMost : Option (List ℕ) → Option (List ℕ) → ℕ → Type 0
GivesAtMost before after most = (got : List ℕ) × (length got ≤ most) × Gives before after got

-- so many bytes were handed over
abbrev pub GivesCount : Option (List ℕ) → Option (List ℕ) → ℕ → Type 0
GivesCount before after count = (got : List ℕ) × (length got ≡ count) × Gives before after got

-- nothing is left, where the source tells
abbrev pub IsAtEnd : Option (List ℕ) → Type 0
IsAtEnd None = Unit {0}
IsAtEnd (Some rest) = rest ≡ []

-- these bytes were taken, behind those taken before
abbrev pub Takes : Option (List ℕ) → Option (List ℕ) → List ℕ → Type 0
Takes None None bytes = Unit {0}
Takes None (Some taken) bytes = ⊥
Takes (Some before) None bytes = ⊥
Takes (Some before) (Some after) bytes = after ≡ before ++ bytes

-- some of these bytes were taken, from their front, but not all
abbrev pub TakesPart : Option (List ℕ) → Option (List ℕ) → List ℕ → Type 0
TakesPart before after bytes = (count : ℕ) × (count < length bytes) × Takes before after (take count bytes)

-- a count of faults grew, or stands at its greatest
abbrev pub Rose : ℕ → ℕ → Type 0
Rose before after = (before < after) ⊎ (after ≡ 2 ^ 64 - 1)

-- a count after one more; it stands still at the greatest u64
abbrev pub raised : ℕ → ℕ
raised count = min (count + 1) (2 ^ 64 - 1)

-- one call came, where the source tells
abbrev pub IsCalledOnce : Option ℕ → Option ℕ → Type 0
IsCalledOnce None None = Unit {0}
IsCalledOnce None (Some after) = ⊥
IsCalledOnce (Some before) None = ⊥
IsCalledOnce (Some before) (Some after) = after ≡ raised before

-- no more than so many calls came, where the source tells
abbrev pub IsCalledAtMost : Option ℕ → Option ℕ → ℕ → Type 0
IsCalledAtMost None None most = Unit {0}
IsCalledAtMost None (Some after) most = ⊥
IsCalledAtMost (Some before) None most = ⊥
IsCalledAtMost (Some before) (Some after) most = after ≤ before + most
