use Rattle.std.proofs.Common.{rules, ◌≡◌, [], List, map, sym, subst, arith}
use Rattle.std.proofs.lemmas.Grind.{common_steps}
use Rattle.link_input.specs.ObjectFile.{ObjectFile}
use Rattle.link_input_groups.specs.Cut.{IsCut}
use Rattle.link_input_groups.proofs.Cutting.{cut, cut-is}
use Rattle.link_input_groups.proofs.cut.cut_objects.Goals as goal

pub returns : goal.returns
returns g c =
    let objects = c.args.objects.items in
    let whole : map (λ v. v.items) c.if-not-is_empty.cuts.items ≡ cut c.args.files c.args.limit [] 0 objects = first_of (search rules, grind (arith, common_steps)) in
    subst (λ (groups : List (List ObjectFile)). IsCut c.args.files c.args.limit objects groups) (sym whole) (cut-is c.args.files c.args.limit objects c.requires.files)

-- the cuts so far, and the group that is open
pub loop-object-preserved : goal.loop-object-preserved
loop-object-preserved g c = record {
  cuts = first_of (search rules, grind (arith, common_steps));
  small = first_of (search rules, grind (arith, common_steps), omega arith);
}
