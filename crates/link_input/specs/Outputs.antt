-- Kinds of outputs.
use Rattle.std.specs.Prelude.{Bool, true, false}
use Rattle.link_input.specs.declared.options.OutputKind.{OutputKind}
use Rattle.link_input.specs.declared.options.OutputKind.TheVariants.{StaticExecutable, DynamicExecutable, SharedObject, Partial}

-- it is a shared object
abbrev pub is_shared_object : OutputKind → Bool
is_shared_object StaticExecutable = false
is_shared_object DynamicExecutable = false
is_shared_object SharedObject = true
is_shared_object Partial = false

-- it is an executable that is linked with shared objects at run time
abbrev pub is_dynamic_executable : OutputKind → Bool
is_dynamic_executable StaticExecutable = false
is_dynamic_executable DynamicExecutable = true
is_dynamic_executable SharedObject = false
is_dynamic_executable Partial = false
