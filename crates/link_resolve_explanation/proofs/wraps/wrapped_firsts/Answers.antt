use Rattle.link_db_files.specs.GroupFiles.{symbols_in}
use Rattle.link_names.specs.Names.{value_in}
use Rattle.link_resolve_explanation.specs.Wraps.{wrapped_first}
use Rattle.link_resolve_explanation.proofs.Wrapping.{passed-more}
use Rattle.link_resolve_explanation.proofs.wraps.wrapped_firsts.Goals as goal

-- one symbol more
pub loop-id-preserved : goal.loop-id-preserved
loop-id-preserved g c = λ asked.
    let steps = c.in-Some.ensures.steps in
    passed-more asked c.loop-id.id-iterator.next c.in-Some.id c.next.new.self.next c.in-Some.symbol c.loop-id.id-iterator.left c.next.new.self.left
    (value_in c.loop-id.firsts asked) (value_in c.note_definition.new.firsts asked) (wrapped_first c.args.wraps.now (symbols_in c.args.files.now.groups) asked)
    steps.0 steps.1.0 steps.1.1 (c.in_ok-note_definition.ensures asked) (c.loop-id.invariant asked)
