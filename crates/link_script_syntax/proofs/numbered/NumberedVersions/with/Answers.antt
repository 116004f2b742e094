use Rattle.std.proofs.Common.{arith}
use Rattle.std.proofs.lemmas.List.{length-append}
use Rattle.link_script_syntax.proofs.VersionNumbers.{numbers_more}
use Rattle.link_script_syntax.proofs.numbered.NumberedVersions.with.Goals as goal

pub invariant_of-result : goal.invariant_of-result
invariant_of-result c =
    let few = rw (← c.self.view_is) at c.requires in
    rw c.in_ok-push.ensures.ok (
      simp length-append (omega (arith, few)),
      numbers_more c.self.inside.versions c.args.version c.self.inside.numbers c.note_first.new.self c.self.invariant.1 (rw (c.in_ok-from_slice.ensures, c.as_slice.ensures, c.len.ensures) at c.in_ok-note_first.ensures.ok),
    )
