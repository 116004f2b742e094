use Rattle.std.proofs.Common.{◌≡◌, ◌∙◌, ap, subst}
use Rattle.std.specs.Prelude.{IfOk, string_bytes}
use Rattle.std.specs.List.{AllZip}
use Rattle.rayon.proofs.ListFacts.{AllZip-through}
use Rattle.link_core_answer.specs.Seen.{seen}
use Rattle.link_report.specs.Runs.{lines_of_run}
use Rattle.link_report.proofs.Joined.{collected}
use Rattle.link_report.proofs.runs.texts_of_runs.Given as given
use Rattle.link_report.proofs.runs.texts_of_runs.Goals as goal

-- the text of each run, in order
zipped : (g : given.Over) (c : goal.In_ok-collect g)
    → AllZip (λ run r. IfOk r (λ text. string_bytes text ≡ lines_of_run (seen c.args.linked.now) run)) c.args.runs.now c.in_ok-collect.ensures.0
zipped g c =
    let h = c.in_ok-collect.ensures in
    let chain = h.1 in
    let runs = chain.1 ∙ ap (λ it. it.base.slice.now) c.map.ensures.base ∙ ap (λ it. it.slice.now) c.with_min_len.ensures.base ∙ c.par_iter.ensures in
    let linked = ap (λ k. k.1.now) c.map.ensures.f in
    let texts = AllZip-through (λ z. z.now) _ (λ run r. IfOk r (λ text. string_bytes text ≡ lines_of_run (seen c.args.linked.now) run)) (λ z y made.
    subst (λ l. IfOk y (λ text. string_bytes text ≡ lines_of_run (seen l) z.now)) linked made) chain.0 h.0 chain.2 in
    subst (λ xs. AllZip (λ run r. IfOk r (λ text. string_bytes text ≡ lines_of_run (seen c.args.linked.now) run)) xs h.0) runs texts

pub returns : goal.returns
returns g c =
    collected string_bytes (lines_of_run (seen c.args.linked.now)) (λ texts. texts.items) c.args.runs.now c.in_ok-collect.ensures.0 c.in_ok-collect.field-0 (zipped g c)
    c.in_ok-collect.ensures.2
