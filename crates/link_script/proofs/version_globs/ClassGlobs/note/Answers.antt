use Rattle.std.proofs.Common.{false, true}
use Rattle.link_script.proofs.VersionGlobs.{noted_globs}
use Rattle.link_script.proofs.version_globs.ClassGlobs.note.Goals as goal

pub returns : goal.returns
returns c = λ versions e is. record {
  plain = noted_globs versions c.args.version.now c.args.class false c.args.number c.args.self.now.plain _ e is.plain c.in_ok-note.ensures.index c.in_ok-note.ensures.places;
  cxx = noted_globs versions c.args.version.now c.args.class true c.args.number c.args.self.now.cxx _ e is.cxx c.in_ok-note-2.ensures.index c.in_ok-note-2.ensures.places;
}
