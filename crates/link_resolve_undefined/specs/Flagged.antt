-- The flags that undefined references get and pass.
use Rattle.std.specs.Prelude.{ℕ, ◌≡◌, ◌==◌, ◌&&◌, List, [], ◌∷◌, ◌++◌, false, Option, Some, None, if◌then◌else◌, is_none, length, map, slice_index, slice_set}
use Rattle.std.specs.Int.RustNames.{bit_or}
use Rattle.link_flags.specs.FlagBits as flag
use Rattle.link_flags.specs.FlagWords.{numbers_of, words_of}
use Rattle.link_flags.specs.declared.per_symbol_flags.PerSymbolFlags.{PerSymbolFlags}
use Rattle.link_flags.specs.declared.visibility.Visibility.{Visibility}
use Rattle.link_input.specs.declared.options.OutputKind.{OutputKind}
use Rattle.link_input.specs.Symbols.{Symbol, is_shared, visibility_in}
use Rattle.link_rules.specs.FinalFlags.{passed_flags, signature_symbols, undefined_flags, visibility_target}
use Rattle.link_rules.specs.Flags.{flags_if, joined_flags}
use Rattle.link_rules.specs.Marking.{visibility_flags}
use Rattle.link_rules.specs.Names.{Mapping, first_definition}
use Rattle.link_rules.specs.Places.{Bytes, contains, each_from}
use Rattle.link_rules.specs.Undefined.{Numbered, Resolution, boundary_makers, final_table_over, is_weak_symbol, left_undefined}
use Rattle.link_rules.specs.Selection.{Selection}
use Rattle.link_rules.specs.World.{Stage, is_shared_at}
use Rattle.link_resolve_undefined.specs.declared.asked_names.AskedNames.{AskedNames}
use Rattle.link_resolve_undefined.specs.Asked.{AreAsked}
use Rattle.link_resolve_undefined.specs.Pointed.{AreLeftOf}
use Rattle.link_resolve_undefined.specs.Says.{is_bound_late}

-- the bits that words keep
abbrev pub numbers_in : PerSymbolFlags → List ℕ
numbers_in flags = numbers_of (words_of flags)

-- what an undefined reference has for itself in such an output, where it points to this
abbrev pub own_flags : OutputKind → Symbol → ℕ → ℕ → ℕ
own_flags output x s target = bit_or
    (flags_if (is_weak_symbol x) flag.undefined_weak)
    (flags_if (is_none x.version && target == s) (if is_bound_late output x then flag.dynamic else flag.non_interposable))

-- these joined to its flags, by what each symbol points to
abbrev pub with_own : OutputKind → List ℕ → Numbered → ℕ → ℕ
with_own output table u old = bit_or old (own_flags output u.1 u.0 (slice_index table u.0))

-- the flags of a target are joined with what a visibility makes of it
abbrev pub with_passed : Stage → Option ℕ → Visibility → List ℕ → List ℕ
with_passed w None visibility flags = flags
with_passed w (Some t) visibility flags = slice_set flags t (bit_or (slice_index flags t) (visibility_flags visibility (is_shared_at w t)))

-- these references pass their visibilities one after another
abbrev pub all_passed : Resolution → List Numbered → List ℕ → List ℕ
all_passed r [] flags = flags
all_passed r (u ∷ us) flags = all_passed r us (with_passed r.selection.stage (visibility_target r u) (visibility_in u.1.origin) flags)

-- the resolution has these symbols and this table, its names are mapped so, and what is kept is of its references
pub record IsEnd (symbols : List Symbol) (asked : AskedNames) (mapping : Mapping) (table : List ℕ) (r : Resolution) : Type 0 where
  pub symbols_are : r.selection.stage.symbols ≡ symbols
  pub asked_are : AreAsked asked r.selection.stage r.left
  pub made_are : r.made ≡ boundary_makers r.selection.stage r.left
  pub names_are : (name : Bytes) → first_definition r.selection.stage name ≡ mapping name
  pub table_is : r.table ≡ table

-- what is known is that of a selection at its end, where such an output is linked
pub record IsEndOf (symbols : List Symbol) (left : List ℕ) (asked : AskedNames) (mapping : Mapping) (table : List ℕ) (output : OutputKind) (l : Selection) : Type 0 where
  pub left_are : AreLeftOf symbols left asked l
  pub names_are : (name : Bytes) → first_definition l.stage name ≡ mapping name
  pub table_is : table ≡ final_table_over l (left_undefined l)
  pub output_is : output ≡ l.stage.options.output

-- the flags of a symbol of a file at the end, by what it had, but for those of signatures
abbrev pub flagged_symbol : Resolution → List ℕ → ℕ → Symbol → ℕ
flagged_symbol r flags s x = joined_flags (slice_index flags s ∷ undefined_flags r (s, x) ∷ passed_flags r s (is_shared x.origin) ∷ [])

-- the flags of a new symbol, by what it had
abbrev pub flagged_new : Resolution → ℕ → ℕ → ℕ
flagged_new r s old = joined_flags (old ∷ passed_flags r s false ∷ [])

-- the flags of all symbols, old and new
abbrev pub flagged : Resolution → List ℕ → List ℕ → List ℕ
flagged r flags new = each_from (flagged_symbol r flags) 0 r.selection.stage.symbols ++ each_from (flagged_new r) (length r.selection.stage.symbols) new

-- the words of new symbols: no other file may take their place
abbrev pub new_words : Resolution → List ℕ
new_words r = map (λ m. flag.non_interposable) r.made

-- the flags of a symbol joined with that of a signature, if it is one
abbrev pub signed : Resolution → ℕ → ℕ → ℕ
signed r s old = bit_or old (flags_if (contains s (signature_symbols r)) flag.group_signature)

-- the flags of all symbols with those of signatures
abbrev pub with_signatures : Resolution → List ℕ → List ℕ
with_signatures r flags = each_from (signed r) 0 flags
