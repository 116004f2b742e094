use Rattle.std.proofs.Common.{◌++◌, [], ◌∷◌, take, sym, subst, arith, ℕ, List}
use Rattle.std.specs.Borrow.{Bor}
use Rattle.std.specs.List.{AllZip}
use Rattle.link_manifest_json.specs.Spans.{IsMade}
use Rattle.link_manifest_json.proofs.Pushed.{take_next, zip_push}
use Rattle.link_manifest_json.proofs.runs.run_read.Goals as goal

pub loop-text-preserved : goal.loop-text-preserved
loop-text-preserved g c =
    let i = c.loop-text.text-index in
    let texts = c.args.texts.now in
    let R : Bor (List ℕ) → g.row.T.Denot → Type 0 = λ s t. IsMade g.F.Fn c.args.f.now s.now t in
    subst (λ ts. AllZip R ts c.push.new.self.items) (sym (take_next texts i _ (omega arith)))
    (subst (AllZip R (take i texts ++ _ ∷ [])) (sym c.in_ok-push.ensures.items)
    (zip_push R (take i texts) c.loop-text.made.items _ c.in_ok-item_read.field-0 c.loop-text.invariant c.in_ok-item_read.ensures))
