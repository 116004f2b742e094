use Rattle.std.proofs.Common.{◌≡◌, ◌∙◌, ◌<◌, arith, Option, Some, None, false, true, length, refl, sym, ap, subst, set, ◌+◌, ℕ}
use Rattle.std.specs.List.{last_or}
use Rattle.std.specs.Option.{option_map_or}
use Rattle.std.proofs.lemmas.Option.{slice_get_read}
use Rattle.link_db_buckets.specs.declared.walk.Fork.{Fork}
use Rattle.link_db_buckets.specs.Slots.{slot_of}
use Rattle.link_db_buckets.specs.Walks.{AreHung, side_of, walk_of}
use Rattle.link_db_buckets.proofs.Walks.{drained, hung_end, hung_fork, hung_slot}
use Rattle.link_db_buckets.proofs.places.Places.hang.Goals as goal

pub returns-in-Some-get_mut-clause-hung : goal.returns-in-Some-get_mut-clause-hung
returns-in-Some-get_mut-clause-hung c = λ numbers here hung.
    let slots = c.args.self.now.slots.items in
    let forks = c.args.self.now.forks.items in
    let ran = c.last.ensures.ran in
    let all = drained ran.0 c.walk.result ran.1 ∙ c.walk.ensures in
    let last : last_or None (walk_of slots forks c.args.number) ≡ Some (c.in-Some.last, c.in-Some.right) = ap (last_or None) (sym all) ∙ sym ran.2 ∙ c.in-Some.is in
    let inside : c.args.place < length forks = c.requires in
    let old = c.in-Some-get_mut.fork.now in
    let was = slice_get_read forks (length forks) c.in-Some.last old refl c.in-Some-get_mut.ensures.item.3.0 c.in-Some-get_mut.ensures.value in
    let end = hung_end slots forks numbers c.args.place c.args.number c.in-Some.last c.in-Some.right inside hung last in
    hung_fork slots forks numbers c.args.place c.args.number c.in-Some.last c.in-Some.right old c.hang.new.self here inside end (λ side. ap (λ (o : Option Fork). option_map_or (side_of side) o 0) was) c.hang.ensures.link c.hang.ensures.rest hung

pub returns-in_default-clause-hung : goal.returns-in_default-clause-hung
returns-in_default-clause-hung c = λ numbers here hung.
    let slots = c.args.self.now.slots.items in
    let forks = c.args.self.now.forks.items in
    let ran = c.last.ensures.ran in
    let all = drained ran.0 c.walk.result ran.1 ∙ c.walk.ensures in
    let last : last_or None (walk_of slots forks c.args.number) ≡ Some (c.in-Some.last, c.in-Some.right) = ap (last_or None) (sym all) ∙ sym ran.2 ∙ c.in-Some.is in
    let inside : c.args.place < length forks = c.requires in
    let end = hung_end slots forks numbers c.args.place c.args.number c.in-Some.last c.in-Some.right inside hung last in
    let reach : c.in-Some.last < length forks = omega (arith, end.before, inside) in
    let no : false ≡ true = c.in_default.ensures.item.2 reach in
    absurd cc

pub returns-in-None-clause-hung : goal.returns-in-None-clause-hung
returns-in-None-clause-hung c = λ numbers here hung.
    let slots = c.args.self.now.slots.items in
    let forks = c.args.self.now.forks.items in
    let ran = c.last.ensures.ran in
    let all = drained ran.0 c.walk.result ran.1 ∙ c.walk.ensures in
    let none : last_or None (walk_of slots forks c.args.number) ≡ None = ap (last_or None) (sym all) ∙ sym ran.2 ∙ c.in-None.is in
    let count : c.len.result ≡ length slots = c.len.ensures ∙ c.args.self.now.slots.ok.0 in
    let slot : c.slot_among-slot.result ≡ slot_of (length slots) c.args.number = c.slot_among-slot.ensures.slot ∙ ap (λ (k : ℕ). slot_of k c.args.number) count in
    let within : slot_of (length slots) c.args.number < length slots = subst (λ (k : ℕ). k < length slots) slot (subst (λ (k : ℕ). c.slot_among-slot.result < k) count c.slot_among-slot.ensures.within) in
    subst (λ (k : ℕ). AreHung (set slots k (c.args.place + 1)) forks numbers (c.args.place + 1)) (sym slot) (hung_slot slots forks numbers c.args.place c.args.number here c.requires within none hung)
