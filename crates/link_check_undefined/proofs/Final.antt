-- What is computed by columns is the final table.
use Rattle.std.proofs.Common.{◌≡◌, ℕ, ◌+◌, ◌&&◌, ◌||◌, ◌++◌, ◌∙◌, Bool, List, Option, Some, filter, if◌then◌else◌, length, reverse, slice_get, sym, ap, subst, arith}
use Rattle.std.specs.Prelude.{is_some, not, slice_index, unwrap_or}
use Rattle.std.specs.Option.{option_or}
use Rattle.link_input.specs.Symbols.{Symbol}
use Rattle.link_rules.specs.Places.{Bytes, each_from, is_number}
use Rattle.link_rules.specs.Rivals.{versioned_table}
use Rattle.link_rules.specs.Selection.{Selection}
use Rattle.link_rules.specs.Undefined.{Numbered, boundary_makers, final_entry, final_table, last_alike, left_undefined, new_symbol}
use Rattle.link_check_targets.proofs.Columns.{each-alike}
use Rattle.link_check_undefined.specs.Columns.{left_in}
use Rattle.link_check_undefined.specs.Made.{entry_in, is_boundary_of, makers_in, new_id}
use Rattle.link_check_undefined.specs.Noted.{Noted, id_of}
use Rattle.link_check_undefined.specs.Told.{TellsOf}
use Rattle.link_check_undefined.proofs.Told.{left-is, stays-is}

module _ (symbols : List Symbol) (marks : List Bool) (targets : List (Option ℕ)) (sections : List Bytes) (table : List ℕ)
    (left makers : List Numbered) (last made : Noted)
    (left-told : left ≡ left_in (record { symbols = symbols; marks = marks; targets = targets }))
    (last-told : (x : Symbol) → id_of last x ≡ last_alike left x)
    (makers-told : makers ≡ makers_in sections last left)
    (made-told : (x : Symbol) → id_of made x ≡ new_id (length symbols) makers x)
    (l : Selection) (is : TellsOf symbols marks targets sections table l) where
  left-are : left ≡ left_undefined l
  left-are = left-told ∙ left-is symbols marks targets sections table l is

  last-are : (x : Symbol) → id_of last x ≡ last_alike (left_undefined l) x
  last-are x = last-told x ∙ ap (λ us. last_alike us x) left-are

  makers-are : makers ≡ boundary_makers l.stage (left_undefined l)
  makers-are =
      makers-told
      ∙ (λ i. reverse (filter (λ (u : Numbered). is_boundary_of (sym is.sections_are i) u.1 && is_number (last-are u.1 i) u.0) (left-are i)))

  made-are : (x : Symbol) → id_of made x ≡ new_symbol l.stage (boundary_makers l.stage (left_undefined l)) x
  made-are x = made-told x ∙ (λ i. new_id (length (sym is.symbols_are i)) (makers-are i) x)

  -- what a symbol points to at the end, by what was computed and by the definition
  abbrev computed : ℕ → Symbol → ℕ
  computed = entry_in (record { symbols = symbols; marks = marks; targets = targets }) last made table

  abbrev defined : ℕ → Symbol → ℕ
  defined = final_entry l (left_undefined l) (versioned_table l)

  entry-is : (s : ℕ) (x : Symbol) → slice_get symbols s ≡ Some x → computed s x ≡ defined s x
  entry-is s x at =
      let stays-told = stays-is symbols marks targets sections table l is s x at in
      (λ i. if not (stays-told i) || (is_some x.version && is_number (last-are x i) s) then slice_index (is.table_is i) s
      else unwrap_or (option_or (made-are x i) (last-are x i)) s)

  -- the entries of all symbols, and of the new ones
  pub final-is : each_from computed 0 symbols ++ each_from (λ s m. s) (length symbols) makers ≡ final_table l
  final-is =
      ap (λ es. es ++ each_from (λ s m. s) (length symbols) makers) (each-alike computed defined 0 symbols step)
      ∙ (λ i. each_from defined 0 (sym is.symbols_are i) ++ each_from (λ s m. s) (length (sym is.symbols_are i)) (makers-are i))
    where
      zero_add : (k : ℕ) → 0 + k ≡ k
      zero_add k = omega arith

      step : (k : ℕ) (x : Symbol) → slice_get symbols k ≡ Some x → computed (0 + k) x ≡ defined (0 + k) x
      step k x at = subst (λ m. computed m x ≡ defined m x) (sym (zero_add k)) (entry-is k x at)
