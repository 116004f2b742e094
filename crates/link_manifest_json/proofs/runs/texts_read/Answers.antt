use Rattle.std.proofs.Common.{ℕ, List, ◌∙◌, ap, subst}
use Rattle.std.specs.Prelude.{IfOk, IfSome, Result}
use Rattle.std.specs.Borrow.{Bor}
use Rattle.std.specs.Global.{Vec}
use Rattle.std.specs.List.{AllZip}
use Rattle.rayon.proofs.ListFacts.{AllZip-through, IfOk-then}
use Rattle.link_manifest_json.specs.declared.tree.Refusal.{Refusal}
use Rattle.link_manifest_json.specs.Spans.{AreJoined, IsMade}
use Rattle.link_manifest_json.proofs.Pushed.{joined_made, some_then}
use Rattle.link_manifest_json.proofs.runs.texts_read.Given as given
use Rattle.link_manifest_json.proofs.runs.texts_read.Goals as goal
use Rattle.link_manifest_json.proofs.runs.texts_read.Goals.{After-drop-runs-2}

abbrev IsMadeBy : (g : given.Over) → g.row.F.Denot → Bor (List ℕ) → g.row.T.Denot → Type 0
IsMadeBy g f s t = IsMade g.F.Fn f s.now t

-- what was made of a run
abbrev IsRead : (g : given.Over) → g.row.F.Denot → Bor (List (Bor (List ℕ))) → Result (Vec g.row.T.Denot) Refusal → Type 0
IsRead g f run r = IfOk r (λ made. AllZip (IsMadeBy g f) run.now made.items)

-- what was made of each run, in order
each : (g : given.Over) (c : After-drop-runs-2 g) → AllZip (IsRead g c.args.f.now) c.in_ok-runs.runs.items c.in_ok-results.ensures.0
each g c =
    let h = c.in_ok-results.ensures in
    let chain = h.1 in
    let runs = chain.1 ∙ ap (λ it. it.base.slice.now) c.map.ensures.base ∙ ap (λ it. it.slice.now) c.with_min_len.ensures.base ∙ c.par_iter.ensures in
    let f = ap (λ k. k.1.now) c.map.ensures.f in
    let parts = AllZip-through (λ z. z.now) _ (IsRead g c.args.f.now) (λ z y e. subst (λ k. IsRead g k z.now y) f e) chain.0 h.0 chain.2 in
    subst (λ xs. AllZip (IsRead g c.args.f.now) xs h.0) runs parts

pub returns : goal.returns
returns g c =
    IfOk-then c.joined.result (λ found. IfSome found (λ all. AreJoined c.in_ok-results.results.items all.items)) _ c.joined.ensures
    (λ found h. some_then found
    (λ all joined. subst (λ ts. AllZip (IsMadeBy g c.args.f.now) ts all.items) c.in_ok-runs.ensures
    (joined_made (IsMadeBy g c.args.f.now) c.in_ok-runs.runs.items c.in_ok-results.ensures.0 all.items (each g c)
    (subst (λ rs. AreJoined rs all.items) c.in_ok-results.ensures.2 joined))) h)
