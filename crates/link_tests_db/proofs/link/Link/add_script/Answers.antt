use Rattle.std.proofs.Common.{◌∙◌, refl, sym, subst}
use Rattle.link_flags.specs.FlagWords.{words_of}
use Rattle.link_db_texts.specs.Holds.{platform_of}
use Rattle.link_db.specs.Database.{Database}
use Rattle.link_db.specs.Seen.{seen}
use Rattle.link_tests_db.specs.Held.{IsWhole}
use Rattle.link_tests_db.specs.Staged.{IsAtStage}
use Rattle.link_tests_db.proofs.Stages as stages
use Rattle.link_tests_db.proofs.Whole as whole
use Rattle.link_tests_db.proofs.link.Link.add_script.Goals as goal

pub returns-then-next_group_index : goal.returns-then-next_group_index
unfolding IsAtStage
returns-then-next_group_index g c = stages.closed (platform_of g.P.Platform) c.args.self.now.stage (seen c.args.self.now.db) _ refl c.requires

pub returns-in_err-groups_reserve : goal.returns-in_err-groups_reserve
unfolding IsAtStage
returns-in_err-groups_reserve g c = stages.closed (platform_of g.P.Platform) c.args.self.now.stage (seen c.args.self.now.db) _ c.groups_reserve.ensures c.requires

pub returns-in_err-group : goal.returns-in_err-group
unfolding IsAtStage
returns-in_err-group g c = stages.closed (platform_of g.P.Platform) c.args.self.now.stage (seen c.args.self.now.db) _ c.groups_reserve.ensures c.requires

pub invariant_of-self-2 : goal.invariant_of-self-2
invariant_of-self-2 g c =
    let words = words_of c.args.self.now.flags in
    let roomy = seen c.groups_reserve.new.self in
    let held : IsWhole roomy words = subst (λ (d : Database _). IsWhole d words) (sym c.groups_reserve.ensures) c.args.self.now.whole in
    let call = c.add_group in
    record { whole = whole.with_files roomy (seen call.new.self) words c.in_ok-group.group call.result c.in_ok-group.ensures call.ensures.ok call.ensures.err held }

pub returns-in_err-add_group : goal.returns-in_err-add_group
unfolding IsAtStage
returns-in_err-add_group g c =
    stages.closed (platform_of g.P.Platform) c.args.self.now.stage (seen c.args.self.now.db) _ (c.in_err-add_group.ensures.err ∙ c.groups_reserve.ensures) c.requires

pub returns : goal.returns
unfolding IsAtStage
returns g c =
    let platform = platform_of g.P.Platform in
    let roomy = seen c.groups_reserve.new.self in
    let call = c.add_group in
    stages.with_files platform _ roomy (seen call.new.self) c.in_ok-group.group call.result call.ensures.ok call.ensures.err
    (stages.closed platform c.args.self.now.stage (seen c.args.self.now.db) roomy c.groups_reserve.ensures c.requires)
