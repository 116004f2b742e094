-- Marks on symbols, and flags joined with them.
use Rattle.std.specs.Prelude.{ℕ, List, filter_map, map}
use Rattle.std.specs.Int.RustNames.{bit_or}
use Rattle.link_closure.specs.Workload.{bits_for}
use Rattle.link_closure.specs.declared.workload.Mark.{Mark}
use Rattle.link_flags.specs.FlagBits as flag
use Rattle.link_rules.specs.Names.{Mapping}
use Rattle.link_rules.specs.Places.{Bytes, each_from}

-- these flags on the symbol of this id
abbrev pub mark_on : ℕ → ℕ → Mark
mark_on s bits = record { symbol = s; bits = bits }

-- the marks on what names are mapped to
abbrev pub marks_on_names : Mapping → List Bytes → List Mark
marks_on_names mapping names = map (λ t. mark_on t flag.has_non_ir_ref) (filter_map mapping names)

-- each symbol's flags joined with its marks
abbrev pub with_marks : List Mark → List ℕ → List ℕ
with_marks marks flags = each_from (λ s old. bit_or old (bits_for s marks)) 0 flags
