use Rattle.std.proofs.Common.{◌≡◌, ◌≤◌, ◌∙◌, Some, arith, length, sym}
use Rattle.std.proofs.lemmas.List.{length-map}
use Rattle.link_db_files.specs.GroupFiles.{symbols_in}
use Rattle.link_flags.specs.FlagWords.{words_of}
use Rattle.link_flags.specs.declared.value_flags.RawFlags.{RawFlags}
use Rattle.link_rules.specs.FinalFlags.{visibility_target}
use Rattle.link_rules.specs.Marking.{visibility_flags}
use Rattle.link_resolve_undefined.specs.Flagged.{numbers_in}
use Rattle.link_resolve_undefined.proofs.Passing.{passed-one, passed-past}
use Rattle.link_resolve_undefined.proofs.flagging.pass_visibility.Goals as goal

pub returns-then-as_usize-len-clause-passed : goal.returns-then-as_usize-len-clause-passed
returns-then-as_usize-len-clause-passed g c = λ r. λ end.
    let symbols = symbols_in c.args.files.now.groups in
    let x = c.of-reference.ensures.0 in
    let says = c.of-reference.ensures.1.1 in
    let target : visibility_target r (c.args.id, x) ≡ Some c.in-Some.target = sym (c.visibility_target.ensures symbols r x end says.asks) ∙ c.in-Some.is in
    c.join_flags.ensures.numbers
    ∙ passed-one r symbols c.args.id c.in-Some.target x (numbers_in c.args.flags.now) c.of-reference.ensures.1.0 target c.passed_flags-bits.result.0 end.symbols_are
    (c.passed_flags-bits.ensures ∙ (λ i. visibility_flags (says.visibility i) (c.is_shared_at.ensures i)))

pub returns-else-as_usize-len-clause-passed : goal.returns-else-as_usize-len-clause-passed
returns-else-as_usize-len-clause-passed g c = λ r. λ end.
    let symbols = symbols_in c.args.files.now.groups in
    let x = c.of-reference.ensures.0 in
    let says = c.of-reference.ensures.1.1 in
    let target : visibility_target r (c.args.id, x) ≡ Some c.in-Some.target = sym (c.visibility_target.ensures symbols r x end says.asks) ∙ c.in-Some.is in
    let past : length (numbers_in c.args.flags.now) ≤ c.in-Some.target = omega (arith, length-map (words_of c.args.flags.now) (λ (w : RawFlags). w.0), c.as_usize.ensures.value, c.len.ensures) in
    passed-past r symbols c.args.id c.in-Some.target x (numbers_in c.args.flags.now) c.of-reference.ensures.1.0 target past
