-- What a selector knows of the symbols that were considered.
use Rattle.std.specs.Prelude.{ℕ, Bool, nat_le, List, fold, Option, Some, None, option_map, if◌then◌else◌}
use Rattle.std.specs.Option.{option_or}
use Rattle.link_flags.specs.declared.strength.SymbolStrength.TheVariants.{Undefined, Weak, GnuUnique, Strong, Common}
use Rattle.link_flags.specs.declared.selector.SymbolPrioritySelector.{SymbolPrioritySelector}
use Rattle.link_flags.specs.Pick.{Candidate}

-- the larger, the first of equals
abbrev pub larger : Option (ℕ × ℕ) → ℕ × ℕ → Option (ℕ × ℕ)
larger None p = Some p
larger (Some q) p = if nat_le p.1 q.1 then Some q else Some p

-- before any symbol
abbrev pub nothing : SymbolPrioritySelector
nothing = record { strong = None; weak = None; common = None }

-- after one symbol more
abbrev pub after : SymbolPrioritySelector → Candidate → SymbolPrioritySelector
after s (id, Undefined) = s
after s (id, Weak) = record s { weak = option_or s.weak (Some id) }
after s (id, GnuUnique) = record s { weak = option_or s.weak (Some id) }
after s (id, Strong) = record s { strong = option_or s.strong (Some id) }
after s (id, Common size) = record s { common = larger s.common (id, size) }

-- after all symbols of a list
abbrev pub considered : List Candidate → SymbolPrioritySelector
considered xs = fold after nothing xs

-- what counts of what is known
abbrev pub selected : Bool → SymbolPrioritySelector → Option ℕ
selected weak_over_common s =
    let common = option_map (λ c. c.0) s.common in
    option_or s.strong (if weak_over_common then option_or s.weak common else option_or common s.weak)
