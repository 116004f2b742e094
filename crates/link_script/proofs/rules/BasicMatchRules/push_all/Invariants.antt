use Rattle.std.specs.Prelude.{◌↔◌, ◌⊎◌, vec_len}
use Rattle.link_script.specs.Filter.{Filter, HasFilter, AreFilters}
use Rattle.link_script.specs.Room.{HasRoom}
use Rattle.link_script.proofs.rules.BasicMatchRules.push_all.Given as goal

abbrev pub invariant-matchers : goal.invariant-matchers
invariant-matchers l = record {
  room : HasRoom l.left.items l.self;
  adds : (f : Filter) → (HasFilter l.self f ⊎ AreFilters l.left.items f) ↔ (HasFilter l.fn.self f ⊎ AreFilters l.fn.matchers f);
}

abbrev pub decreases-matchers : goal.decreases-matchers
decreases-matchers l = vec_len l.left
