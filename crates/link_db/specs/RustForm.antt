-- Flags that a version script of the Rust form changes.
use Rattle.std.specs.Prelude.{ℕ, List, if◌then◌else◌}
use Rattle.link_flags.specs.FlagBits as flag
use Rattle.link_rules.specs.Flags.{without_flag}
use Rattle.link_rules.specs.Places.{contains}

-- a listed symbol is not local
abbrev pub freed : List ℕ → ℕ → ℕ → ℕ
freed listed s flags = if contains s listed then without_flag flags flag.downgrade_to_local else flags
