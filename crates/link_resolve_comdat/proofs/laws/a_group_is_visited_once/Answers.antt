use Rattle.link_resolve_comdat.proofs.Pending.{none_pending}
use Rattle.link_resolve_comdat.proofs.Visiting.{visited-once, others-stay}
use Rattle.link_resolve_comdat.proofs.laws.a_group_is_visited_once.Goals as goal

pub returns : goal.returns
returns c = record {
  once = visited-once;
  others = others-stay;
  members = λ o section absent. none_pending section 0 o.groups o.pending absent;
}
