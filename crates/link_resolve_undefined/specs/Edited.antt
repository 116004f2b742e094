-- Entries by symbols' ids, of which some are changed.
use Rattle.std.specs.Prelude.{ℕ, List, [], ◌∷◌, slice_index, slice_set}
use Rattle.link_rules.specs.Undefined.{Numbered}

-- the entries of these symbols changed one after another
abbrev pub edited : (Numbered → ℕ → ℕ) → List Numbered → List ℕ → List ℕ
edited change [] entries = entries
edited change (u ∷ us) entries = edited change us (slice_set entries u.0 (change u (slice_index entries u.0)))
