use Rattle.std.proofs.Common.{◌∙◌, ap, arith, length, rules, subst, sym}
use Rattle.link_db.specs.Database.{Database}
use Rattle.link_db.specs.Seen.{seen}
use Rattle.link_db_files.specs.GroupFiles.{symbols_in}
use Rattle.link_resolve.proofs.Loaded.{all-named}
use Rattle.link_resolve.specs.Known.{Known}
use Rattle.link_resolve.specs.NextBatch.{IsReadyFor}
use Rattle.link_tests_core.proofs.loading.resolve.Goals as goal

-- nothing is known yet
pub resolve_counted-requires : goal.resolve_counted-requires
resolve_counted-requires g c = (
  search rules,
  (
    search rules,
    (
      search rules,
      subst (λ (k : Known). IsReadyFor k (seen c.args.db.now)) (sym c.requires.new) (record { listed = c.requires.listed; loaded = omega arith; targets = λ k d lt. absurd (omega (arith, lt)) }),
    ),
  ),
)

-- without symbols of the linker's own the flags are those of the symbols of files
pub returns-clause-flags : goal.returns-clause-flags
returns-clause-flags g c =
    c.resolve_counted.ensures.flags
    ∙ (c.requires.flags
    ∙ (all-named (seen c.args.db.now) c.requires.listed.added
    ∙ ap (λ (d : Database _). length (symbols_in d.mapping.files.groups)) (sym c.in_ok-read.ensures.database.rest)))
