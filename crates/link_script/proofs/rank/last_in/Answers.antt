use Rattle.std.proofs.Common.{◌<◌, ◌∙◌, sym, ap, subst, ℕ, length, Option}
use Rattle.std.specs.Prelude.{All}
use Rattle.link_script_syntax.specs.declared.body.Side.{Side}
use Rattle.link_script.specs.Lookup.{seen}
use Rattle.link_script.specs.Rules.{placed}
use Rattle.link_script.proofs.Indexed.{last_among, past, among_all, all_below, all_in_front}
use Rattle.link_script.proofs.rank.last_in.Goals as goal

pub back-init : goal.back-init
back-init c = record {
  rest = ap (last_among c.args.class (seen c.args.name.now) c.args.versions.now) c.requires ∙ among_all c.args.class (seen c.args.name.now) c.args.versions.now;
  below = subst (All (λ (n : ℕ). n < length c.args.versions.now)) (sym c.requires) (all_below c.args.class c.args.versions.now);
}

pub returns-in-Some-side_in-clause-value : goal.returns-in-Some-side_in-clause-value
returns-in-Some-side_in-clause-value c =
    let a = seen c.args.name.now in
    let front = c.in-Some.before.now in
    let step = past c.args.class a c.args.versions.now c.back.left.now front c.in-Some.number.now c.from-number.result c.index-versions-number.result c.in-Some.ensures.cases.0 c.from-number.ensures c.back.invariant.below c.index-versions-number.is in
    ap (λ (s : Option Side). placed c.from-number.result s (last_among c.args.class a c.args.versions.now front)) c.in-Some-side_in.ensures ∙ sym step ∙ c.back.invariant.rest

pub back-preserved : goal.back-preserved
back-preserved c =
    let a = seen c.args.name.now in
    let front = c.in-Some.before.now in
    let step = past c.args.class a c.args.versions.now c.back.left.now front c.in-Some.number.now c.from-number.result c.index-versions-number.result c.in-Some.ensures.cases.0 c.from-number.ensures c.back.invariant.below c.index-versions-number.is in
    record {
      rest = ap (λ (s : Option Side). placed c.from-number.result s (last_among c.args.class a c.args.versions.now front)) c.in_default-side_in.ensures ∙ sym step ∙ c.back.invariant.rest;
      below = (all_in_front (λ (n : ℕ). n < length c.args.versions.now) c.back.left.now front c.in-Some.number.now c.in-Some.ensures.cases.0 c.back.invariant.below).0;
    }
