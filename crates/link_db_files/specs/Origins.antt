-- What the origin of a symbol holds.
use Rattle.std.specs.Prelude.{Option, Some, None}
use Rattle.link_input.specs.declared.internal_symbols.InternalSymDefInfo.{InternalSymDefInfo}
use Rattle.link_input.specs.Symbols.{Origin, in_prelude, in_object, in_script, in_stub}

-- the definition of a symbol of the prelude
abbrev pub definition_in : Origin → Option InternalSymDefInfo
definition_in (in_prelude d) = Some d
definition_in (in_object n shared e) = None
definition_in (in_script d) = None
definition_in (in_stub strength) = None
