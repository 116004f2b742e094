-- What a desk is opened with, and why it is not opened.
use Rattle.std.specs.Prelude.{None, ⊤}
use Rattle.link_input.specs.declared.options.Options.{Options}
use Rattle.link_input.specs.declared.world.Scripts.{Scripts}
use Rattle.link_input.specs.Defaults.{default_options}
use Rattle.link_script_syntax.specs.declared.fault.ScriptError.{ScriptError}
use Rattle.link_rules.specs.declared.refusal.ScriptOrigin.{ScriptOrigin}
use Rattle.link_desk.specs.declared.state.DeskError.{DeskError}
use Rattle.link_desk.specs.declared.state.DeskError.TheVariants.{Script, Memory}

-- the options where none is given
abbrev pub no_options : Options
no_options = default_options

-- no text
abbrev pub no_texts : Scripts
no_texts = record { version_script = None; export_list = None }

-- it is refused with such a script, or for want of memory
abbrev pub IsScript : (ScriptOrigin → ScriptError → Type 0) → DeskError → Type 0
IsScript Is (Script origin error) = Is origin error
IsScript Is Memory = ⊤
