use Rattle.std.proofs.Common.{◌≡◌, ◌++◌, ◌∷◌, [], ◌+◌, ◌<◌, ◌∙◌, ℕ, List, Option, Some, None, length, get_or, ap, sym, arith, drop, take, cond}
use Rattle.std.specs.Option.{option_or}
use Rattle.std.proofs.lemmas.Grind.{common_steps}
use Rattle.link_rules.specs.Places.{is_number}
use Rattle.link_resolve_reasons.specs.Firsts.{first_place, noted}
use Rattle.link_resolve_reasons.proofs.Lists.{first-push}
use Rattle.link_resolve_reasons.proofs.firsts.first_places.Goals as goal

-- what is noted of a key is the first place among the keys with it
noted-next : (keys : List (Option ℕ)) (i f : ℕ) → i < length keys → noted (first_place (take i keys) f) (get_or keys i None) i f ≡ first_place (take (i + 1) keys) f
noted-next keys i f lt =
    let next : take (i + 1) keys ≡ take i keys ++ get_or keys i None ∷ [] = grind (arith, common_steps) in
    let place : i ≡ 0 + length (take i keys) = grind (arith, common_steps) in
    ap (λ (n : ℕ). option_or (first_place (take i keys) f) (cond (is_number (get_or keys i None) f) (Some n) None)) place
    ∙ sym (first-push (λ k. is_number k f) 0 (take i keys) (get_or keys i None)) ∙ ap (λ (ks : List (Option ℕ)). first_place ks f) (sym next)

pub loop-place-preserved : goal.loop-place-preserved
loop-place-preserved c =
    let same : take c.loop-place.firsts.len (c.note_key.new.firsts ++ drop (length c.note_key.new.firsts) c.loop-place.firsts.items) ≡ c.note_key.new.firsts =
    grind (arith, common_steps, c.note_key.auto.firsts) in
    let each : length c.note_key.new.firsts ≡ c.args.count = grind (arith, common_steps, c.note_key.auto.firsts, c.loop-place.invariant.each) in
    let first = rw c.deref_mut.ensures.value at c.note_key.ensures.first in
    rw same (record {
      each = each;
      first = λ f below. first f (first_place (take c.loop-place.place c.args.keys.now) f) (c.loop-place.invariant.first f below)
          ∙ ap (λ (o : Option ℕ). Some o) (noted-next c.args.keys.now c.loop-place.place f c.loop-place-test.true);
    })
