-- A mark as a plan hands it out.
use Rattle.std.specs.Prelude.{ℕ}
use Rattle.link_flags.specs.declared.value_flags.ValueFlags.{ValueFlags}
use Rattle.link_closure.specs.declared.workload.Mark.{Mark}

-- the mark of these flags for the symbol
abbrev pub mark_of_pair : ℕ × ValueFlags → Mark
mark_of_pair m = record { symbol = m.0; bits = m.1.0 }
