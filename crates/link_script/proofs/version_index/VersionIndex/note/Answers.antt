use Rattle.std.proofs.Common.{false, true}
use Rattle.link_script.specs.declared.rules.Class.TheVariants.{Every}
use Rattle.link_script.specs.VersionIndex.{lists}
use Rattle.link_script.proofs.VersionIndex.{noted_first, noted_name, noted_number}
use Rattle.link_script.proofs.version_index.VersionIndex.note.Goals as goal

pub returns : goal.returns
returns c = λ versions e is. record {
  named = λ name. noted_name versions c.args.version.now name c.args.number _ _ e (is.named name) (rw (c.in_ok-from_slice.ensures, c.as_slice.ensures) at c.in_ok-note.ensures.ok name);
  plain = λ name. noted_first (lists false name) c.args.number versions c.args.version.now _ _ e (is.plain name) (c.in_ok-note_listed.ensures name);
  cxx = λ name. noted_first (lists true name) c.args.number versions c.args.version.now _ _ e (is.cxx name) (c.in_ok-note_listed-2.ensures name);
  nonstar = c.in_ok-note-2.ensures versions e is.nonstar;
  star = c.in_ok-note-3.ensures versions e is.star;
  every = noted_number versions c.args.version.now Every c.args.number _ _ e is.every (rw c.has.ensures at c.in_ok-note_if.ensures);
}
