use Rattle.std.proofs.Common.{refl}
use Rattle.link_flags.specs.FlagWords.{words_of}
use Rattle.link_db_files.specs.Adding.{synthetic_group}
use Rattle.link_db_texts.specs.Holds.{platform_of}
use Rattle.link_db.specs.Seen.{seen}
use Rattle.link_db.proofs.LinkerGroups.{synthetic-follows}
use Rattle.link_tests_db.specs.Staged.{IsAtStage}
use Rattle.link_tests_db.proofs.Stages as stages
use Rattle.link_tests_db.proofs.Whole as whole
use Rattle.link_tests_db.proofs.link.Link.add_symbols.Goals as goal

pub returns-then-next_group_index : goal.returns-then-next_group_index
unfolding IsAtStage
returns-then-next_group_index g c = stages.closed (platform_of g.P.Platform) c.args.self.now.stage (seen c.args.self.now.db) _ refl c.requires

pub returns-in_err-file : goal.returns-in_err-file
unfolding IsAtStage
returns-in_err-file g c = stages.closed (platform_of g.P.Platform) c.args.self.now.stage (seen c.args.self.now.db) _ c.in_err-file.ensures.err c.requires

pub invariant_of-self-2 : goal.invariant_of-self-2
invariant_of-self-2 g c =
    let old = seen c.args.self.now.db in
    let call = c.new_synthetic_symbols_group in
    record { whole = whole.with_files old (seen call.new.self) (words_of c.args.self.now.flags) (synthetic_group old.mapping.files) call.result (synthetic-follows old.mapping.files) call.ensures.ok call.ensures.err c.args.self.now.whole }

pub returns : goal.returns
unfolding IsAtStage
returns g c = stages.with_symbols (platform_of g.P.Platform) c.args.self.now.stage (seen c.args.self.now.db) _ c.in_ok-file.ensures.ok c.requires
