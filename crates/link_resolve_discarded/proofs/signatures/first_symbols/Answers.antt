use Rattle.std.proofs.Common.{◌≡◌, ◌<◌, ◌∙◌, ℕ, List, Option, Some, None, if◌then◌else◌, length, ap, arith}
use Rattle.std.specs.Option.{option_or}
use Rattle.std.proofs.lemmas.List.{with_items_is}
use Rattle.link_rules.specs.Places.{is_number}
use Rattle.link_resolve_discarded.specs.Indexed.{index_at}
use Rattle.link_resolve_discarded.specs.Signatures.{first_id}
use Rattle.link_resolve_discarded.proofs.Listing.{noted-more}
use Rattle.link_resolve_discarded.proofs.signatures.first_symbols.Goals as goal

-- one symbol more
pub loop-id-preserved : goal.loop-id-preserved
loop-id-preserved g c =
    let old = c.loop-id.firsts.items in
    let new = c.note_first.new.firsts in
    let steps = c.in-Some.ensures.steps in
    let lent : c.as_mut_slice.result.now ≡ old = c.as_mut_slice.ensures.value in
    let long : length new ≡ length old = omega (arith, c.note_first.auto.firsts, ap (λ (xs : List (Option ℕ)). length xs) lent) in
    let same = with_items_is c.loop-id.firsts new (omega (arith, long, c.as_mut_slice.ensures.len, ap (λ (xs : List (Option ℕ)). length xs) lent)) in
    let left = c.loop-id.id-iterator in
    record {
      long = ap (λ (xs : List (Option ℕ)). length xs) same ∙ (long ∙ c.loop-id.invariant.long);
      firsts = λ f lt.
          let within : f < length c.as_mut_slice.result.now = omega (arith, lt, c.loop-id.invariant.long, ap (λ (xs : List (Option ℕ)). length xs) lent) in
          let noted : index_at new f ≡ option_or (index_at old f) (if is_number c.object.result f then Some c.in-Some.id else None) =
          c.note_first.ensures f within ∙ ap (λ (xs : List (Option ℕ)). option_or (index_at xs f) (if is_number c.object.result f then Some c.in-Some.id else None)) lent in
          ap (λ (xs : List (Option ℕ)). option_or (index_at xs f) (first_id f c.next.new.self.next c.next.new.self.left)) same
          ∙ (noted-more f (index_at old f) (index_at new f) c.object.result c.in-Some.id left.next c.next.new.self.next c.in-Some.symbol left.left c.next.new.self.left
          steps.0 steps.1.0 steps.1.1 c.object.ensures noted ∙ c.loop-id.invariant.firsts f lt);
    }
