use Rattle.std.proofs.Common.{◌&&◌, not, refl}
use Rattle.link_closure.specs.Closure.{is_marked}
use Rattle.link_rules.specs.Comdat.{loaded_regular, loaded_groups, comdats_among, is_kept_among}
use Rattle.link_resolve_comdat.proofs.Rising.{rising-filter, one-by-one}
use Rattle.link_resolve_comdat.proofs.Discarding.{discarded-of}
use Rattle.link_resolve_comdat.proofs.laws.selected_groups_are_those_of_a_link.Goals as goal

pub returns : goal.returns
returns c = record {
  rise = λ w marks. one-by-one (loaded_regular w marks) (rising-filter (λ o. is_marked marks o.0 && not o.1.object.is_dynamic) 0 w.objects);
  discarded = λ w marks i section o there.
      discarded-of (is_kept_among (comdats_among (loaded_groups w marks))) section (loaded_regular w marks) i o (rising-filter (λ x. is_marked marks x.0 && not x.1.object.is_dynamic) 0 w.objects) there;
  kept = λ w marks. refl;
}
