-- Whole scripts.
use Rattle.std.specs.Prelude.{◌<◌, ℕ, ◌==◌, if◌then◌else◌, List, length, Result, Ok}
use Rattle.link_script_syntax.specs.declared.fault.Fault.{Fault}
use Rattle.link_script_syntax.specs.declared.fault.ScriptErrorKind.TheVariants.{Syntax}
use Rattle.link_script_syntax.specs.declared.body.RawVersionBody.{RawVersionBody}
use Rattle.link_script_syntax.specs.declared.script.RawScript.{RawScript}
use Rattle.link_script_syntax.specs.declared.script.RawScript.TheVariants.{Anonymous, Named}
use Rattle.link_script_syntax.specs.declared.profile.ScriptProfile.{ScriptProfile}
use Rattle.link_script_syntax.specs.Fault.{◌>>=◌, refuse}
use Rattle.link_script_syntax.specs.Words.{semicolon_word}
use Rattle.link_script_syntax.specs.Skip.{skip, strips, begins_with}
use Rattle.link_script_syntax.specs.Block.{or_else}
use Rattle.link_script_syntax.specs.Body.{body_at}
use Rattle.link_script_syntax.specs.Named.{versions_at}

-- nothing may follow
abbrev pub to_end : {A : Type 0} → A → List ℕ → Result A Fault
to_end x text = skip text >>= λ rest. if length rest == 0 then Ok x else refuse Syntax rest

-- a body, a semicolon, and the end of the text
unfoldable pub anonymous : ScriptProfile → List ℕ → Result RawVersionBody Fault
anonymous profile text = body_at profile text >>= λ b. or_else (strips semicolon_word b.1) (λ rest. to_end b.0 rest) (refuse Syntax b.1)

-- a brace first is the anonymous form
unfoldable pub script_at : ScriptProfile → List ℕ → Result RawScript Fault
script_at profile text = skip text >>= λ text.
    if begins_with text 123 then (anonymous profile text >>= λ body. Ok (Anonymous body)) else (versions_at profile text >>= λ versions. Ok (Named versions))

-- no more versions than numbers below 32,768
abbrev pub IsFew : RawScript → Type 0
IsFew (Anonymous body) = Unit {0}
IsFew (Named versions) = length versions < 32767
