use Rattle.std.proofs.Common.{arith, rules, subst, sym}
use Rattle.link_db.specs.Seen.{seen}
use Rattle.link_resolve.specs.Known.{Known}
use Rattle.link_resolve.specs.NextBatch.{IsReadyFor}
use Rattle.link_tests_core.proofs.bench.time_loading.Goals as goal

-- nothing is known yet
pub load_batch-requires : goal.load_batch-requires
load_batch-requires g c = (
  search rules,
  (
    search rules,
    (
      search rules,
      subst (λ (k : Known). IsReadyFor k (seen c.args.db.now)) (sym c.new-resolver.ensures.known) (record { listed = c.requires.listed; loaded = omega arith; targets = λ k d lt. absurd (omega (arith, lt)) }),
    ),
  ),
)
