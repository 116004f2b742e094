-- The flags at the end.
use Rattle.std.specs.Prelude.{ℕ, ◌+◌, ◌==◌, ◌&&◌, ◌||◌, List, [], ◌∷◌, ◌++◌, map, filter, length, Bool, true, false, not, Option, None, is_some, is_none, if◌then◌else◌, slice_index, option_map}
use Rattle.std.specs.Int.RustNames.{bit_or}
use Rattle.std.specs.Option.{option_or}
use Rattle.link_flags.specs.FlagBits as flag
use Rattle.link_input.specs.declared.options.OutputKind.{OutputKind}
use Rattle.link_input.specs.declared.options.OutputKind.TheVariants.{StaticExecutable, DynamicExecutable, SharedObject, Partial}
use Rattle.link_input.specs.Interposition.{is_default_visibility}
use Rattle.link_input.specs.Outputs.{is_shared_object, is_dynamic_executable}
use Rattle.link_rules.specs.Places.{each_from, is_number, contains}
use Rattle.link_rules.specs.Flags.{flags_if, joined_flags}
use Rattle.link_input.specs.Symbols.{Symbol, is_shared, entry_passes}
use Rattle.link_rules.specs.World.{Stage, first_symbol_of}
use Rattle.link_rules.specs.Names.{first_definition}
use Rattle.link_input.specs.Symbols.{visibility_in}
use Rattle.link_rules.specs.Marking.{visibility_flags}
use Rattle.link_rules.specs.Comdat.{PlacedGroup, loaded_groups, discarded_groups, is_discarded_by}
use Rattle.link_rules.specs.Rivals.{two_steps}
use Rattle.link_rules.specs.Visibility.{narrowed_flags}
use Rattle.link_rules.specs.Undefined.{Numbered, Resolution, stays_undefined, is_weak_symbol, new_symbol, is_boundary_maker}

-- the output is an object again (`-r`)
abbrev pub is_partial : OutputKind → Bool
is_partial StaticExecutable = false
is_partial DynamicExecutable = false
is_partial SharedObject = false
is_partial Partial = true

-- whether an undefined name is left to the dynamic loader: in a shared object each may be, in a dynamic executable a weak one
abbrev pub is_loader_bound : Stage → Symbol → Bool
is_loader_bound w x = entry_passes (λ e. is_default_visibility e.visibility) x.origin
    && (is_shared_object w.options.output || (is_weak_symbol x && is_dynamic_executable w.options.output))

-- what an undefined reference has for itself; one that stands for its plain name says how that is bound
abbrev pub undefined_flags : Resolution → Numbered → ℕ
undefined_flags r u = flags_if (stays_undefined r.selection u) (bit_or
    (flags_if (is_weak_symbol u.1) flag.undefined_weak)
    (flags_if (is_none u.1.version && slice_index r.table u.0 == u.0)
    (if is_loader_bound r.selection.stage u.1 then flag.dynamic else flag.non_interposable)))

-- what a plain name is mapped to at the end
abbrev pub mapped_at_end : Resolution → Symbol → Option ℕ
mapped_at_end r x = option_or (first_definition r.selection.stage x.name) (new_symbol r.selection.stage r.made x)

-- the symbol to which an undefined reference passes its visibility
abbrev pub visibility_target : Resolution → Numbered → Option ℕ
visibility_target r u =
    if is_some u.1.version || is_boundary_maker r.selection.stage r.left u then None else option_map (two_steps r.table) (mapped_at_end r u.1)

-- what undefined references pass to the symbol of this id
abbrev pub passed_flags : Resolution → ℕ → Bool → ℕ
passed_flags r s is_dynamic = joined_flags (map
    (λ u. flags_if (is_number (visibility_target r u) s) (visibility_flags (visibility_in u.1.origin) is_dynamic)) r.left)

-- the group's header stays
abbrev pub has_header : List PlacedGroup → PlacedGroup → Bool
has_header discarded g = not (is_discarded_by discarded g.place.0 g.group.index)

-- the groups whose headers stay
abbrev pub groups_with_header : Stage → List Bool → List PlacedGroup
groups_with_header w marks = filter (has_header (discarded_groups w marks)) (loaded_groups w marks)

-- what the signatures of these groups mean, in a partial output
abbrev pub signature_symbols : Resolution → List ℕ
signature_symbols r = if is_partial r.selection.stage.options.output
    then map (λ g. two_steps r.table (first_symbol_of r.selection.stage g.place.0 + g.group.signature_symbol))
    (groups_with_header r.selection.stage r.selection.marks)
    else []

-- the flags of a symbol of a file
abbrev pub final_symbol : Resolution → List ℕ → List ℕ → ℕ → Symbol → ℕ
final_symbol r narrowed signatures s x = joined_flags
    (slice_index narrowed s ∷ undefined_flags r (s, x) ∷ passed_flags r s (is_shared x.origin)
    ∷ flags_if (contains s signatures) flag.group_signature ∷ [])

-- the flags of a new symbol
abbrev pub new_flags : Resolution → List ℕ → ℕ → Numbered → ℕ
new_flags r signatures s m = joined_flags
    (flag.non_interposable ∷ passed_flags r s false ∷ flags_if (contains s signatures) flag.group_signature ∷ [])

-- the flags of each symbol, old or new
abbrev pub final_flags : Resolution → List ℕ
final_flags r =
    each_from (final_symbol r (narrowed_flags r.selection) (signature_symbols r)) 0 r.selection.stage.symbols
    ++ each_from (new_flags r (signature_symbols r)) (length r.selection.stage.symbols) r.made
