use Rattle.std.proofs.Common.{ℕ, List, length, ◌==◌, arith, ap, sym, ◌∙◌}
use Rattle.std.proofs.lemmas.Bool.{eqb-true}
use Rattle.std.proofs.lemmas.Result.{err_from_is_err_and}
use Rattle.std.proofs.lemmas.List.{nil_from_length, length-append}
use Rattle.link_script_syntax.proofs.Growing.{version_step, versions_fail, versions_end}
use Rattle.link_script_syntax.proofs.named.versions_at.Goals as goal

pub versions-preserved : goal.versions-preserved
versions-preserved c = (
  rw c.in_ok-versions.ensures
      (sym (version_step c.args.profile c.versions.versions c.versions.rest.now c.in_ok-version.after.now c.in_ok-version.version c.in_ok-version.ensures.gives c.in_ok-version.ensures.shorter) ∙ c.versions.invariant.0),
  rw c.in_ok-versions.ensures (simp length-append (omega (arith, c.in_ok-version.ensures.room))),
  omega (arith, c.in_ok-version.ensures.shorter),
)

pub returns-in_err-version-clause-gives : goal.returns-in_err-version-clause-gives
returns-in_err-version-clause-gives c =
    let p = err_from_is_err_and c.from_residual.result c.from_residual.ensures.1 in
    rw (p.1, p.2) (versions_fail c.args.profile c.in_err-version.field-0.0 c.versions.versions c.versions.rest.now c.args.text.now (λ e. let n = ap (λ (xs : List ℕ). length xs == 0) e in let t = c.versions-test.true in let k = c.is_empty.ensures in cc) c.versions.invariant.0 c.in_err-version.ensures.gives)

pub returns-clause-gives : goal.returns-clause-gives
returns-clause-gives c = rw c.into_versions.ensures.value (versions_end c.args.profile c.versions.versions c.versions.rest.now c.args.text.now (nil_from_length _ (eqb-true _ _ (sym c.is_empty.ensures ∙ c.versions-test.false))) c.versions.invariant.0)
