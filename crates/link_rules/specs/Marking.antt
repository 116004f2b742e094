-- The flags that references, the entry and the redirects give to what they stand for.
use Rattle.std.specs.Prelude.{ℕ, List, [], ◌∷◌, ◌++◌, filter_map, map, Bool, not, Option, Some, None, option_to_list, slice_get, unwrap_or, zip}
use Rattle.std.specs.Int.RustNames.{bit_or}
use Rattle.std.specs.List.{flat_map}
use Rattle.link_closure.specs.Workload.{bits_for}
use Rattle.link_closure.specs.declared.workload.Mark.{Mark}
use Rattle.link_flags.specs.FlagBits as flag
use Rattle.link_flags.specs.declared.visibility.Visibility.{Visibility}
use Rattle.link_flags.specs.declared.visibility.Visibility.TheVariants.{Default, Protected, Hidden}
use Rattle.link_input.specs.Symbols.{Symbol, visibility_in}
use Rattle.link_rules.specs.Places.{each_from}
use Rattle.link_rules.specs.Flags.{flags_if}
use Rattle.link_rules.specs.World.{Stage, is_shared_at}
use Rattle.link_rules.specs.Names.{first_definition}
use Rattle.link_rules.specs.Loading.{entry_name, redirect_targets}
use Rattle.link_rules.specs.Opening.{opening_flags}
use Rattle.link_rules.specs.Selection.{Selection}

-- what a visibility makes of a symbol, which may be dynamic
abbrev pub visibility_flags : Visibility → Bool → ℕ
visibility_flags Default is_dynamic = 0
visibility_flags Protected is_dynamic = flags_if (not is_dynamic) flag.non_interposable
visibility_flags Hidden is_dynamic = bit_or flag.non_interposable flag.downgrade_to_local

-- what a reference marks its target with, which may be dynamic
abbrev pub reference_flags : Symbol → Bool → ℕ
reference_flags u is_dynamic = bit_or flag.has_non_ir_ref (visibility_flags (visibility_in u.origin) is_dynamic)

-- the mark that a reference makes on its target, if it has one
abbrev pub reference_marks : Stage → Symbol → Option ℕ → List Mark
reference_marks w u None = []
reference_marks w u (Some t) = record { symbol = t; bits = reference_flags u (is_shared_at w t) } ∷ []

-- what the entry and the redirects stand for
abbrev pub named_symbols : Stage → List ℕ
named_symbols w = filter_map (first_definition w) (option_to_list (entry_name w) ++ redirect_targets w)

-- the marks of the entry and the redirects
abbrev pub named_marks : Stage → List Mark
named_marks w = map (λ t. record { symbol = t; bits = flag.has_non_ir_ref }) (named_symbols w)

-- all marks: those of the entry and the redirects, and those of the references of loaded objects
abbrev pub all_marks : Selection → List Mark
all_marks l = named_marks l.stage ++ flat_map (λ u. reference_marks l.stage u.0 u.1) (zip l.stage.symbols l.targets)

-- the flags of a symbol before the batch is loaded: those that the earlier batches left, or those with which its file is read
abbrev pub flags_before : Stage → ℕ → Symbol → ℕ
flags_before w s x = unwrap_or (slice_get w.earlier.flags s) (opening_flags w x)

-- these flags joined with all marks on the symbol
abbrev pub marked_symbol : Stage → List Mark → ℕ → Symbol → ℕ
marked_symbol w marks s x = bit_or (flags_before w s x) (bits_for s marks)

-- each symbol's flags once the loaded objects are read
abbrev pub marked_flags : Selection → List ℕ
marked_flags l = each_from (marked_symbol l.stage (all_marks l)) 0 l.stage.symbols

-- the stage at which a batch ends: its loaded objects, what their references stand for, and all flags stay
abbrev pub ended : Selection → Stage
ended l = record l.stage { earlier = record { loaded = l.marks; targets = l.targets; flags = marked_flags l } }
