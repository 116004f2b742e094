-- What an undefined reference says.
use Rattle.std.specs.Prelude.{◌≡◌, ◌&&◌, ◌||◌, Bool, false}
use Rattle.link_input.specs.declared.options.OutputKind.{OutputKind}
use Rattle.link_input.specs.Interposition.{is_default_visibility}
use Rattle.link_input.specs.Outputs.{is_shared_object, is_dynamic_executable}
use Rattle.link_input.specs.Symbols.{Symbol, entry_passes, visibility_in}
use Rattle.link_rules.specs.Undefined.{is_weak_symbol}
use Rattle.link_resolve_undefined.specs.declared.reference.Reference.{Reference}
use Rattle.link_resolve_undefined.specs.Keys.{Asks}

-- it is what the symbol says
pub record Says (reference : Reference) (x : Symbol) : Type 0 where
  pub asks : Asks reference.name x
  pub weak : reference.is_weak ≡ is_weak_symbol x
  pub seen : reference.is_open ≡ entry_passes (λ e. is_default_visibility e.visibility) x.origin
  pub visibility : reference.visibility ≡ visibility_in x.origin

-- whether an undefined name is left to the dynamic loader in such an output
abbrev pub is_bound_late : OutputKind → Symbol → Bool
is_bound_late output x = entry_passes (λ e. is_default_visibility e.visibility) x.origin
    && (is_shared_object output || (is_weak_symbol x && is_dynamic_executable output))
