use Rattle.std.proofs.Common.{◌≡◌, ◌∙◌, ◌+◌, ◌<◌, ◌++◌, ◌&&◌, ℕ, All, Bool, List, [], ◌∷◌, true, false, ap, drop, filter, length, map, not, if◌then◌else◌, subst, sym, arith}
use Rattle.std.proofs.lemmas.Grind.{common_steps}
use Rattle.std.proofs.lemmas.List.{append-nil}
use Rattle.std.proofs.lemmas.List.Elements.{All-push}
use Rattle.std.proofs.lemmas.Option.{slice_get_within}
use Rattle.link_db_files.specs.GroupFiles.{symbols_in}
use Rattle.link_rules.specs.Undefined.{Numbered, is_boundary_maker, is_last_alike}
use Rattle.link_resolve_undefined.specs.Records.{numbered_at}
use Rattle.link_resolve_undefined.proofs.Alike.{drop-next, keep-step}
use Rattle.link_resolve_undefined.proofs.undefined_names.standing_among.Goals.{then-stands_for_name+in_ok-push, else-stands_for_name}
use Rattle.link_resolve_undefined.proofs.undefined_names.standing_among.Goals as goal

-- one id more, or none
all-if : (P : ℕ → Type 0) (items : List ℕ) (s : ℕ) (b : Bool) → All P items → P s → All P (if b then items ++ s ∷ [] else items)
all-if P items s true all here = All-push P items s all here
all-if P items s false all here = all

pub loop-id-preserved : goal.loop-id-preserved
loop-id-preserved g c =
    let symbols = symbols_in c.args.files.now.groups in
    let left = c.args.left.now in
    let items = c.loop-id.ids.items in
    let s = c.id-item.result in
    let y = c.of.ensures.0 in
    let new : c.if-stands_for_name.ids.items ≡ (if c.stands_for_name.result then items ++ s ∷ [] else items) =
    elim c.if-stands_for_name.branch [
      | then-stands_for_name+in_ok-push v ↦ (λ i. (v.ids-is i).items) ∙ (v.in_ok-push.ensures.items ∙ (λ i. if sym v.if-stands_for_name.true i then items ++ s ∷ [] else items))
      | else-stands_for_name v ↦ (λ i. (v.ids-is i).items) ∙ (λ i. if sym v.if-stands_for_name.false i then items ++ s ∷ [] else items)
    ] in
    record {
      undefined = λ w asked.
          let records = numbered_at symbols left in
          let stands = λ (u : Numbered). is_last_alike records u && not (is_boundary_maker w records u) in
          keep-step stands symbols items c.if-stands_for_name.ids.items s (drop (c.loop-id.id-index + 1) left) y c.stands_for_name.result c.of.ensures.1.0
          (c.stands_for_name.ensures w records y asked c.of.ensures.1.1) new
          ∙ (ap (λ (ids : List ℕ). items ++ map (λ (u : Numbered). u.0) (filter stands (numbered_at symbols ids))) (sym (drop-next left c.loop-id.id-index s c.loop-id-test.true c.id-item.is))
          ∙ c.loop-id.invariant.undefined w asked);
      inside = subst (All (λ t. t < length symbols)) (sym new) (all-if (λ t. t < length symbols) items s c.stands_for_name.result c.loop-id.invariant.inside (slice_get_within symbols s y c.of.ensures.1.0));
    }

pub returns-clause-ids : goal.returns-clause-ids
returns-clause-ids g c = λ w asked.
    let over : drop c.loop-id.id-index c.args.left.now ≡ [] = grind (arith, common_steps) in
    sym (append-nil c.loop-id.ids.items) ∙ (rw over at (c.loop-id.invariant.undefined w asked))
