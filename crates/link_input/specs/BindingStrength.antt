-- How strongly an entry binds.
use Rattle.std.specs.Prelude.{if◌then◌else◌}
use Rattle.link_flags.specs.declared.strength.SymbolStrength.{SymbolStrength}
use Rattle.link_flags.specs.declared.strength.SymbolStrength.TheVariants.{Weak, GnuUnique, Strong, Common}
use Rattle.link_input.specs.declared.symbol_entry.SymbolEntry.{SymbolEntry}
use Rattle.link_input.specs.Entries.{is_common, is_unique, is_weak}

-- weak if it is weak, else tentative with its size, else unique in the process, else strong
abbrev pub binding_strength : SymbolEntry → SymbolStrength
binding_strength e =
    if is_weak e.binding then Weak
    else (if is_common e.place then Common e.size else (if is_unique e.binding then GnuUnique else Strong))
