use Rattle.std.proofs.Common.{refl}
use Rattle.link_names.specs.Names.{noted_in}
use Rattle.link_names.proofs.Noted.{noted_on, not_both}
use Rattle.link_names.proofs.name_map.NameMap.note_all.Goals as goal

pub loop-name-preserved : goal.loop-name-preserved
loop-name-preserved g c =
    let before = rw c.in-Some.ensures.steps at c.loop-name.invariant in
    record {
      noted = before.noted.1;
      so_far = noted_on c.args.self.now c.loop-name.self c.loop-name.self c.args.names.now (noted_in c.next.new.self) (c.in-Some.name.now.items, c.in-Some.is_member.now) c.args.value before.noted.0 before.noted.1 before.so_far
          (λ member. absurd (not_both c.in-Some.is_member.now member c.if-is_member.false)) (λ other. refl);
    }
