use Rattle.std.proofs.Common.{sym, subst}
use Rattle.link_flags.specs.FlagBits as flag
use Rattle.link_flags.specs.FlagWords.{words_of}
use Rattle.link_db_texts.specs.Holds.{platform_of}
use Rattle.link_db.specs.Seen.{seen}
use Rattle.link_tests_db.specs.declared.stage.Stage.{Stage}
use Rattle.link_tests_db.specs.declared.stage.Stage.TheVariants.{Symbols}
use Rattle.link_tests_db.specs.Held.{IsAt}
use Rattle.link_tests_db.specs.Staged.{IsAtStage}
use Rattle.link_tests_db.proofs.Stages as stages
use Rattle.link_tests_db.proofs.Whole as whole
use Rattle.link_tests_db.proofs.link.Link.add_symbol.Goals as goal

pub add_synthetic_symbol-requires-clause-last : goal.add_synthetic_symbol-requires-clause-last
unfolding IsAtStage
add_synthetic_symbol-requires-clause-last g c =
    let at : IsAt (platform_of g.P.Platform) Symbols (seen c.args.self.now.db) = subst (λ (s : Stage). IsAt (platform_of g.P.Platform) s (seen c.args.self.now.db)) c.in-Symbols.is c.requires in
    at.groups

pub invariant_of-self : goal.invariant_of-self
unfolding IsAtStage
invariant_of-self g c =
    let old = seen c.args.self.now.db in
    let call = c.add_synthetic_symbol in
    let at : IsAt (platform_of g.P.Platform) Symbols old = subst (λ (s : Stage). IsAt (platform_of g.P.Platform) s old) c.in-Symbols.is c.requires in
    record {
      whole = whole.with_symbol old (seen call.new.self) (words_of c.args.self.now.flags) (words_of call.new.flags) c.args.name flag.non_interposable call.result at.groups
          call.ensures.ok call.ensures.flags call.ensures.err call.ensures.flags_err c.args.self.now.whole;
    }

pub returns-in_err-add_synthetic_symbol : goal.returns-in_err-add_synthetic_symbol
unfolding IsAtStage
returns-in_err-add_synthetic_symbol g c =
    let old = seen c.args.self.now.db in
    let call = c.add_synthetic_symbol in
    let at : IsAt (platform_of g.P.Platform) Symbols old = subst (λ (s : Stage). IsAt (platform_of g.P.Platform) s old) c.in-Symbols.is c.requires in
    subst (λ (s : Stage). IsAt (platform_of g.P.Platform) s (seen call.new.self)) (sym c.in-Symbols.is)
    (stages.with_symbol (platform_of g.P.Platform) old (seen call.new.self) c.args.name call.result call.ensures.ok call.ensures.err at)

pub returns : goal.returns
unfolding IsAtStage
returns g c =
    let old = seen c.args.self.now.db in
    let call = c.add_synthetic_symbol in
    let at : IsAt (platform_of g.P.Platform) Symbols old = subst (λ (s : Stage). IsAt (platform_of g.P.Platform) s old) c.in-Symbols.is c.requires in
    subst (λ (s : Stage). IsAt (platform_of g.P.Platform) s (seen call.new.self)) (sym c.in-Symbols.is)
    (stages.with_symbol (platform_of g.P.Platform) old (seen call.new.self) c.args.name call.result call.ensures.ok call.ensures.err at)
