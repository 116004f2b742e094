-- The definitions that are not shared.
use Rattle.std.specs.Prelude.{ℕ, List, filter, map, not, if◌then◌else◌}
use Rattle.link_flags.specs.Pick.{Candidate}
use Rattle.link_flags.specs.Selector.{after}
use Rattle.link_flags.specs.declared.selector.SymbolPrioritySelector.{SymbolPrioritySelector}
use Rattle.link_db_files.specs.HeldFiles.{HeldFiles, is_shared_in, strength_of}

-- those of these symbols that are not shared, each with how strongly it binds
abbrev pub unshared : {P : Type 0} → HeldFiles P → List ℕ → List Candidate
unshared held symbols = map (λ s. (s, strength_of held s)) (filter (λ s. not (is_shared_in held s)) symbols)

-- what a selector knows after a symbol, if that is not shared
abbrev pub after_unshared : {P : Type 0} → HeldFiles P → SymbolPrioritySelector → ℕ → SymbolPrioritySelector
after_unshared held known s = if is_shared_in held s then known else after known (s, strength_of held s)
