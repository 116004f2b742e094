-- Which undefined entries of a checked table are references.
use Rattle.std.proofs.Common.{◌≡◌, ℕ, Bool, true, false, not, Some, None, ◌⊎◌, inl, inr, slice_get, refl}
use Rattle.std.specs.Prelude.{◌&&◌, IsTrue}
use Rattle.link_input.proofs.Accepted.{undefined_local}
use Rattle.link_input.specs.declared.symbol_entry.SymbolEntry.{SymbolEntry}
use Rattle.link_input.specs.Checks.{first_fault}
use Rattle.link_input.specs.Entries.{is_undefined, is_local}
use Rattle.link_input.specs.ObjectFile.{ObjectFile}
use Rattle.link_input.specs.Symbols.{object_symbol, in_object}
use Rattle.link_rules.specs.World.{is_concealed, is_reference}

-- by whether it is undefined, local and concealed
by-tests : (undefined local concealed : Bool) (A : Type 0) → undefined ≡ true → (local ≡ true → A)
    → (((undefined && not local) && not concealed) ≡ true) ⊎ (concealed ≡ true) ⊎ A
by-tests true true concealed A is null = inr (inr (null refl))
by-tests true false true A is null = inr (inl refl)
by-tests true false false A is null = inl refl
by-tests false local concealed A is null = cc

-- an undefined entry is a reference, or concealed, or the null entry
pub references-by : (has_null : Bool) (n : ℕ) (o : ObjectFile) (k : ℕ) (e : SymbolEntry)
    → first_fault has_null o.object ≡ None → slice_get o.object.symbols k ≡ Some e → IsTrue (is_undefined e.place)
    → IsTrue (is_reference (object_symbol n o e)) ⊎ IsTrue (is_concealed (in_object n o.object.is_dynamic e)) ⊎ (IsTrue has_null × (k ≡ 0))
references-by has_null n o k e accepted at undefined =
    by-tests (is_undefined e.place) (is_local e.binding) (is_concealed (in_object n o.object.is_dynamic e)) _ undefined
    (λ local. undefined_local has_null o.object accepted k e at undefined local)
