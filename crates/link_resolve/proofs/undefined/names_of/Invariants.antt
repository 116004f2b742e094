use Rattle.std.proofs.Common.{◌≡◌, ◌++◌, [], drop, map}
use Rattle.std.specs.Prelude.{slice_index_or}
use Rattle.link_db.specs.Database.{symbol_names}
use Rattle.link_db.specs.Seen.{seen}
use Rattle.link_resolve.proofs.undefined.names_of.Given as goal

-- the names so far, and those of the ids that are left
abbrev pub invariant-loop-id : goal.invariant-loop-id
invariant-loop-id g l =
    l.names.items ++ map (λ s. slice_index_or (symbol_names (seen l.db)) s []) (drop l.id-index l.ids) ≡ map (λ s. slice_index_or (symbol_names (seen l.db)) s []) l.ids
