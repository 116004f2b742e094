use Rattle.std.proofs.Common.{rules, [], ◌∷◌}
use Rattle.link_input.specs.InputFiles.{batch_of}
use Rattle.link_closure.proofs.Rows.{ok-along}
use Rattle.link_tests_reasons.proofs.why.grouped.Goals as goal

-- the groups of one batch
pub returns : goal.returns
returns c = ok-along c.create_groups.result _ _ (λ groups follow. (c.args.options.now, (batch_of c.args.inputs ∷ [], follow [] (search rules)))) c.create_groups.ensures.follow
