use Rattle.std.proofs.Common.{◌≡◌, ◌∙◌, ◌++◌, ◌+◌, ℕ, Bool, List, length, drop, take, refl, sym, ap, subst, arith}
use Rattle.std.proofs.lemmas.List.{length-map}
use Rattle.std.proofs.lemmas.Option.{slice_get_read}
use Rattle.link_db_buckets.specs.declared.head.Head.{Head}
use Rattle.link_db_buckets.specs.declared.walk.Fork.{Fork}
use Rattle.link_db_buckets.specs.Heads.{hashes_of}
use Rattle.link_db_buckets.specs.Walks.{AreHung, AreTold, link_at}
use Rattle.link_db_buckets.proofs.Releasing.{all_written}
use Rattle.link_db_buckets.proofs.Search.{hash_at}
use Rattle.link_db_buckets.proofs.Walks.{no_slots, none_hung, told_more}
use Rattle.link_db_buckets.proofs.places.Places.remake.Goals as goal

pub loop-place-init : goal.loop-place-init
loop-place-init c =
    let old = c.args.self.now.forks.items in
    let new = take c.args.self.now.forks.len (c.clear.new.forks ++ drop (length c.clear.new.forks) old) in
    let is : new ≡ c.clear.new.forks = all_written c.args.self.now.forks.len c.clear.new.forks c.as_mut_slice.result.now old c.args.self.now.forks.ok.0 c.as_mut_slice.ensures.value c.clear.ensures.forks in
    let slots = c.in_ok-self.field-0.items in
    let empty = no_slots slots c.args.slots (c.in_ok-self.ensures.items_if_clones_equal (λ y e. e)) in
    let bare : (place : ℕ) (right : Bool) → link_at new place right ≡ 0 = λ place right. ap (λ (l : List Fork). link_at l place right) is ∙ c.clear.ensures.bare place right in (
      empty.0,
      ap length is ∙ c.clear.ensures.forks ∙ ap length c.as_mut_slice.ensures.value ∙ c.requires.each,
      none_hung slots new (hashes_of c.args.heads.now) empty.1 bare,
      λ place number lt is. absurd (omega (arith, lt)),
    )

pub loop-place-preserved : goal.loop-place-preserved
loop-place-preserved c =
    let heads = c.args.heads.now in
    let head = c.index-heads-place.result in
    let place = c.loop-place.place in
    let at = slice_get_read heads (length heads) place head refl c.loop-place-test.true c.index-heads-place.is in
    let inv = c.loop-place.invariant in (
      c.hang.ensures.slots ∙ inv.0,
      c.hang.ensures.forks ∙ inv.1,
      c.hang.ensures.hung (hashes_of heads) (hash_at heads place head at) inv.2,
      subst (λ (l : List ℕ). AreTold l (hashes_of heads) (place + 1)) (sym c.hang.ensures.filter) (told_more c.loop-place.self.filter c.add.new.self (hashes_of heads) place head.hash (hash_at heads place head at) c.add.ensures.kept c.add.ensures.added inv.3),
    )

pub returns-clause-walks : goal.returns-clause-walks
returns-clause-walks c =
    let p = c.loop-place.self in
    let numbers = hashes_of c.args.heads.now in
    let each : length numbers ≡ length c.args.heads.now = length-map c.args.heads.now (λ (h : Head). h.hash) in
    let inv = c.loop-place.invariant in
    let end : c.loop-place.place ≡ length numbers = omega (arith, each, c.loop-place-test.false, c.loop-place.auto.place-end) in
    record {
      each = inv.1 ∙ sym each;
      hung = subst (λ (k : ℕ). AreHung p.slots.items p.forks.items numbers k) end inv.2;
      told = subst (λ (k : ℕ). AreTold p.filter numbers k) end inv.3;
    }
