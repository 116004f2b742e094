use Rattle.std.proofs.Common.{◌∙◌, sym, ap, None, Option}
use Rattle.link_script_syntax.specs.declared.body.Side.{Side}
use Rattle.link_script.specs.Lookup.{seen}
use Rattle.link_script.specs.Rules.{placed}
use Rattle.link_script.proofs.Indexed.{no_exact, exact_at}
use Rattle.link_script.proofs.rank.first_in.Goals as goal

pub returns-in_err-first_exact-clause-value : goal.returns-in_err-first_exact-clause-value
returns-in_err-first_exact-clause-value c =
    rw c.from_residual.ensures (sym (no_exact c.args.versions.now (seen c.args.name.now) (sym (c.in_err-first_exact.ensures c.args.versions.now c.requires))))

pub returns-in_err-side-clause-value : goal.returns-in_err-side-clause-value
returns-in_err-side-clause-value c =
    let at = exact_at c.args.versions.now (seen c.args.name.now) c.from-number.result c.index-versions-number.result (rw c.from-number.ensures (sym (c.in_ok-first_exact.ensures c.args.versions.now c.requires))) c.index-versions-number.is in
    c.from_residual-in_err-side.ensures ∙ ap (λ (s : Option Side). placed c.from-number.result s None) c.in_err-side.ensures ∙ sym at

pub returns-clause-value : goal.returns-clause-value
returns-clause-value c =
    let at = exact_at c.args.versions.now (seen c.args.name.now) c.from-number.result c.index-versions-number.result (rw c.from-number.ensures (sym (c.in_ok-first_exact.ensures c.args.versions.now c.requires))) c.index-versions-number.is in
    ap (λ (s : Option Side). placed c.from-number.result s None) c.in_ok-side.ensures ∙ sym at
