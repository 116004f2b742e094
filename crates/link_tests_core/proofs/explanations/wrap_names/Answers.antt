use Rattle.std.proofs.Common.{subst, sym}
use Rattle.link_db.specs.Database.{Database}
use Rattle.link_resolve.specs.Known.{IsListed}
use Rattle.link_tests_core.proofs.explanations.wrap_names.Goals as goal

-- the lists stay
pub returns-clause-listed : goal.returns-clause-listed
returns-clause-listed c =
    subst (λ (d : Database _). IsListed d) (sym c.in_ok-apply_wrapped_symbol_overrides.ensures.rest) (record {
      lists = record { plain = c.requires.lists.plain; versioned = c.requires.lists.versioned };
      added = c.requires.added;
    })
