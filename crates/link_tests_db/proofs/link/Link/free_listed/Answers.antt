use Rattle.std.proofs.Common.{refl}
use Rattle.link_flags.specs.FlagWords.{words_of}
use Rattle.link_db.specs.Seen.{seen}
use Rattle.link_tests_db.specs.Staged.{IsAtStage}
use Rattle.link_tests_db.proofs.Whole as whole
use Rattle.link_tests_db.proofs.link.Link.free_listed.Goals as goal

-- a word of flags for each symbol is left
pub invariant_of-self : goal.invariant_of-self
invariant_of-self g c =
    let old = seen c.args.self.now.db in
    let before = words_of c.args.self.now.flags in
    let after = words_of c.handle_rust_version_script.new.flags in
    record { whole = whole.kept old old before after refl refl c.handle_rust_version_script.ensures.len c.args.self.now.whole }

pub returns : goal.returns
unfolding IsAtStage
returns g c = c.requires
