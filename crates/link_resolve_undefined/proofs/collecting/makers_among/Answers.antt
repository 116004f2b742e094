use Rattle.std.proofs.Common.{◌≡◌, ◌∙◌, ◌+◌, ◌++◌, ℕ, List, [], ◌∷◌, ap, drop, filter, map, if◌then◌else◌, reverse, sym, arith}
use Rattle.std.proofs.lemmas.Grind.{common_steps}
use Rattle.std.proofs.lemmas.List.{append-nil}
use Rattle.link_db_files.specs.GroupFiles.{symbols_in}
use Rattle.link_rules.specs.Undefined.{Numbered}
use Rattle.link_resolve_undefined.specs.Boundaries.{makes_new}
use Rattle.link_resolve_undefined.specs.Records.{numbered_at}
use Rattle.link_resolve_undefined.proofs.Alike.{drop-next, keep-step, makes-same, reverse-ids}
use Rattle.link_resolve_undefined.proofs.collecting.makers_among.Goals.{then-is_maker+in_ok-push, else-is_maker}
use Rattle.link_resolve_undefined.proofs.collecting.makers_among.Goals as goal

pub loop-id-preserved : goal.loop-id-preserved
loop-id-preserved g c = λ sections. λ marks.
    let symbols = symbols_in c.args.files.now.groups in
    let left = c.args.left.now in
    let makes = λ (u : Numbered). makes_new sections c.args.last.now u.1.name u.1.version u.0 in
    let s = c.id-item.result in
    let new : c.if-is_maker.makers.items ≡ (if c.is_maker.result then c.loop-id.makers.items ++ s ∷ [] else c.loop-id.makers.items) =
    elim c.if-is_maker.branch [
      | then-is_maker+in_ok-push v ↦ (λ i. (v.makers-is i).items) ∙ (v.in_ok-push.ensures.items ∙ (λ i. if sym v.if-is_maker.true i then c.loop-id.makers.items ++ s ∷ [] else c.loop-id.makers.items))
      | else-is_maker v ↦ (λ i. (v.makers-is i).items) ∙ (λ i. if sym v.if-is_maker.false i then c.loop-id.makers.items ++ s ∷ [] else c.loop-id.makers.items)
    ] in
    keep-step makes symbols c.loop-id.makers.items c.if-is_maker.makers.items s (drop (c.loop-id.id-index + 1) left) c.of.ensures.0 c.is_maker.result c.of.ensures.1.0
    (c.is_maker.ensures sections marks ∙ makes-same sections c.args.last.now c.of.result s c.of.ensures.0 c.of.ensures.1.1) new
    ∙ (ap (λ (ids : List ℕ). c.loop-id.makers.items ++ map (λ (u : Numbered). u.0) (filter makes (numbered_at symbols ids))) (sym (drop-next left c.loop-id.id-index s c.loop-id-test.true c.id-item.is))
    ∙ c.loop-id.invariant sections marks)

pub returns : goal.returns
returns g c = λ sections. λ marks.
    let symbols = symbols_in c.args.files.now.groups in
    let makes = λ (u : Numbered). makes_new sections c.args.last.now u.1.name u.1.version u.0 in
    let over : drop c.loop-id.id-index c.args.left.now ≡ [] = grind (arith, common_steps) in
    let all : c.loop-id.makers.items ++ [] ≡ map (λ (u : Numbered). u.0) (filter makes (numbered_at symbols c.args.left.now)) = (rw over at (c.loop-id.invariant sections marks)) in
    c.reverse.ensures.items ∙ (ap reverse (sym (append-nil c.loop-id.makers.items) ∙ all) ∙ reverse-ids (filter makes (numbered_at symbols c.args.left.now)))
