-- Spaces and comments, byte by byte, as they are read. What they are, and where a run of them ends, Blanks says; this is proved to be
-- the same.
use Rattle.std.specs.Prelude.{ℕ, Bool, false, List, [], ◌∷◌, length, ◌==◌, ◌&&◌, ◌||◌, if◌then◌else◌, Option, Some, None, Result, Ok, Err}
use Rattle.link_script_syntax.specs.declared.skip.Mode.{Mode}
use Rattle.link_script_syntax.specs.declared.skip.Mode.TheVariants.{Plain, Line, Opening, Block, Closing}
use Rattle.link_script_syntax.specs.declared.fault.Fault.{Fault}
use Rattle.link_script_syntax.specs.declared.fault.ScriptErrorKind.TheVariants.{Syntax}

-- a space, tab, CR or LF
abbrev pub is_blank : ℕ → Bool
is_blank c = c == 32 || c == 9 || c == 13 || c == 10

-- whether the text begins with the byte
abbrev pub begins_with : List ℕ → ℕ → Bool
begins_with [] byte = false
begins_with (c ∷ rest) byte = c == byte

-- the mode behind this byte, if the byte is part of the run
abbrev pub turn : Mode → ℕ → List ℕ → Option Mode
turn Plain c after =
    if is_blank c then Some Plain else
    (if c == 35 then Some Line else
    (if c == 47 && begins_with after 42 then Some Opening else None))
turn Line c after = if c == 10 then Some Plain else Some Line
turn Opening c after = Some Block
turn Block c after = if c == 42 && begins_with after 47 then Some Closing else Some Block
turn Closing c after = Some Plain

-- the place of the comment that is open
abbrev pub opened_at : Mode → ℕ → ℕ → ℕ
opened_at Opening here opened = here
opened_at mode here opened = opened

-- At the end of the text a comment of many lines that isn't closed is refused where it was opened.
abbrev pub ended : Mode → ℕ → Result (List ℕ) Fault
ended Plain opened = Ok []
ended Line opened = Ok []
ended mode opened = Err (record { left = opened; kind = Syntax })

-- the reading behind a byte that is part of the run, or the end of the run
abbrev pub skip_on : (Mode → ℕ → Result (List ℕ) Fault) → ℕ → ℕ → List ℕ → Option Mode → Result (List ℕ) Fault
skip_on go opened c rest None = Ok (c ∷ rest)
skip_on go opened c rest (Some mode) = go mode (opened_at mode (length (c ∷ rest)) opened)

-- what is behind a run of blanks and comments
abbrev pub skip_from : Mode → ℕ → List ℕ → Result (List ℕ) Fault
skip_from mode opened [] = ended mode opened
skip_from mode opened (c ∷ rest) = skip_on (λ m o. skip_from m o rest) opened c rest (turn mode c rest)

-- the text behind its blanks and comments
unfoldable pub skip : List ℕ → Result (List ℕ) Fault
skip text = skip_from Plain 0 text

-- what follows the prefix
abbrev pub strips : List ℕ → List ℕ → Option (List ℕ)
strips [] text = Some text
strips (p ∷ prefix) [] = None
strips (p ∷ prefix) (c ∷ text) = if c == p then strips prefix text else None
