-- Bodies.
use Rattle.std.specs.Prelude.{ℕ, Bool, true, false, List, [], ◌∷◌, if◌then◌else◌, Option, Some, None, Result, Ok}
use Rattle.link_script_syntax.specs.declared.body.Side.{Side}
use Rattle.link_script_syntax.specs.declared.body.Side.TheVariants.{Global, Local}
use Rattle.link_script_syntax.specs.declared.body.Item.{Item}
use Rattle.link_script_syntax.specs.declared.body.Item.TheVariants as items
use Rattle.link_script_syntax.specs.declared.body.RawVersionBody.{RawVersionBody}
use Rattle.link_script_syntax.specs.declared.fault.Fault.{Fault}
use Rattle.link_script_syntax.specs.declared.fault.ScriptErrorKind.TheVariants.{Syntax}
use Rattle.link_script_syntax.specs.declared.matcher.ParsedSymbolMatcher.{ParsedSymbolMatcher}
use Rattle.link_script_syntax.specs.declared.profile.ScriptProfile.{ScriptProfile}
use Rattle.link_script_syntax.specs.Fault.{◌>>=◌, refuse}
use Rattle.link_script_syntax.specs.Words.{global_word, local_word, open_word, brace_word}
use Rattle.link_script_syntax.specs.Skip.{skip, strips}
use Rattle.link_script_syntax.specs.Many.{many}
use Rattle.link_script_syntax.specs.Block.{or_else}
use Rattle.link_script_syntax.specs.Entry.{entry_at}

-- one turn of a body: its end, a section's head or an entry
unfoldable pub body_turn : ScriptProfile → List ℕ → Result (Option Item × List ℕ) Fault
body_turn profile text = skip text >>= λ text.
    or_else (strips brace_word text) (λ rest. skip rest >>= λ after. Ok (None, after))
    (or_else (strips global_word text) (λ rest. Ok (Some (items.Side Global), rest))
    (or_else (strips local_word text) (λ rest. Ok (Some (items.Side Local), rest))
    (entry_at profile text >>= λ e. Ok (Some (items.Entry e.0), e.1))))

-- whether the sections are the same
abbrev pub same_side : Side → Side → Bool
same_side Global Global = true
same_side Local Local = true
same_side a b = false

-- the entries of a section, where the pieces begin in the section now
abbrev pub entries_of : Side → Side → List Item → List ParsedSymbolMatcher
entries_of want now [] = []
entries_of want now (items.Side s ∷ pieces) = entries_of want s pieces
entries_of want now (items.Entry e ∷ pieces) = if same_side want now then e ∷ entries_of want now pieces else entries_of want now pieces

-- the entries of these pieces by section, global at first
abbrev pub body_of : List Item → RawVersionBody
body_of pieces = record { globals = entries_of Global Global pieces; locals = entries_of Local Global pieces }

-- behind the brace of a body
unfoldable pub pieces_at : ScriptProfile → List ℕ → Result (RawVersionBody × List ℕ) Fault
pieces_at profile text = many (body_turn profile) text >>= λ pieces. Ok (body_of pieces.0, pieces.1)

-- a body with its brace
unfoldable pub body_at : ScriptProfile → List ℕ → Result (RawVersionBody × List ℕ) Fault
body_at profile text = or_else (strips open_word text) (λ rest. pieces_at profile rest) (refuse Syntax text)

-- the section that the pieces end in
abbrev pub last_side : Side → List Item → Side
last_side now [] = now
last_side now (items.Side s ∷ pieces) = last_side s pieces
last_side now (items.Entry e ∷ pieces) = last_side now pieces
