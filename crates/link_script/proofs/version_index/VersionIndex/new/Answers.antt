use Rattle.std.proofs.Common.{false, true, [], refl, sym}
use Rattle.link_script.specs.declared.rules.Class.TheVariants.{Nonstar, Star}
use Rattle.link_script.specs.VersionIndex.{lists}
use Rattle.link_script.proofs.VersionIndex.{position_as}
use Rattle.link_script.proofs.version_index.VersionIndex.new.Goals as goal

pub returns : goal.returns
returns c = record {
  named = λ name. rw c.new.ensures refl;
  plain = λ name. rw c.new-2.ensures (sym (position_as (lists false name) []));
  cxx = λ name. rw c.new-3.ensures (sym (position_as (lists true name) []));
  nonstar = c.new-4.ensures Nonstar;
  star = c.new-5.ensures Star;
  every = c.new-6.ensures;
}
