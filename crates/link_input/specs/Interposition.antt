-- Which symbols no other file may take the place of at run time.
use Rattle.std.specs.Prelude.{Bool, true, false, ◌||◌, ◌&&◌, not, Option, Some, None}
use Rattle.link_flags.specs.declared.visibility.Visibility.{Visibility}
use Rattle.link_flags.specs.declared.visibility.Visibility.TheVariants.{Default, Protected, Hidden}
use Rattle.link_input.specs.declared.symbol_entry.SymbolEntry.{SymbolEntry}
use Rattle.link_input.specs.declared.options.OutputKind.{OutputKind}
use Rattle.link_input.specs.Entries.{is_undefined, is_local}
use Rattle.link_input.specs.Outputs.{is_shared_object}

-- neither hidden nor protected
abbrev pub is_default_visibility : Visibility → Bool
is_default_visibility Default = true
is_default_visibility Protected = false
is_default_visibility Hidden = false

-- there is a list, and it lacks the name
abbrev pub is_unlisted : Option Bool → Bool
is_unlisted None = false
is_unlisted (Some listed) = not listed

-- it is local, or not of default visibility, or a definition that is not for a shared output or that a list keeps back
abbrev pub keeps_place : Bool → SymbolEntry → OutputKind → Option Bool → Bool
keeps_place lists_restrict e output listed =
    is_local e.binding || not (is_default_visibility e.visibility)
    || (not (is_undefined e.place) && (not (is_shared_object output) || (lists_restrict && is_unlisted listed)))
