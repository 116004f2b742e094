use Rattle.std.proofs.Common.{◌∙◌, List, ℕ, ap, arith, drop, length, subst, sym}
use Rattle.std.proofs.lemmas.List.{length-drop, take_rest}
use Rattle.link_verdef.specs.Reading.{TellsParent}
use Rattle.link_verdef.specs.Strings.{place_of}
use Rattle.link_verdef.proofs.Reading.{read_all, read_more, read_next, same_item}
use Rattle.link_verdef.proofs.read.items_in.Goals as goal

pub returns-in_default-parent_at : goal.returns-in_default-parent_at
returns-in_default-parent_at c all image =
    let next = read_next all c.items.items _ _ c.items.places.items c.items.names.now c.items.rest.now c.in-Some-zero_at.len image
    (c.items.invariant.reads all image) (sym c.in-Some-zero_at.ensures.value) in
    let tells = subst (λ (xs : List ℕ). TellsParent xs (place_of all) next.item.parent) (sym c.as_slice.ensures.value) next.tells in
    absurd (c.in_default-parent_at.ensures (length all) (length c.items.items) (place_of all) next.item _ next.rest_are next.short tells)

pub items-preserved : goal.items-preserved
items-preserved c =
    let behind = take_rest c.split_at.result.1.now 1 in
    record {
      within = omega (arith, ap length behind, length-drop 1 c.split_at.result.1.now, c.split_at.ensures.back_len);
      reads = λ all image.
          let so_far = c.items.invariant.reads all image in
          let next = read_next all c.items.items _ _ c.items.places.items c.items.names.now c.items.rest.now c.in-Some-zero_at.len image
          so_far (sym c.in-Some-zero_at.ensures.value) in
          let tells = subst (λ (xs : List ℕ). TellsParent xs (place_of all) next.item.parent) (sym c.as_slice.ensures.value) next.tells in
          let parent = c.in-Some-parent_at.ensures (length all) (length c.items.items) (place_of all) next.item _ next.rest_are next.short tells in
          let same = same_item _ _ next.item (c.in_ok-name.ensures ∙ c.split_at.ensures.front ∙ next.name) parent.0 in
          read_more all c.items.items c.args.strings.now c.items.places.items c.items.names.now c.items.rest.now c.in-Some-zero_at.len _ _ _ _ _ _ so_far next same
          c.in_ok-push-2.ensures.ok c.in_ok-push.ensures.items next.place (behind ∙ ap (drop 1) c.split_at.ensures.back) parent.1;
    }

pub returns : goal.returns
returns c all image =
    read_all all c.items.items _ _ c.items.places.items c.items.names.now c.items.rest.now image (c.items.invariant.reads all image) (sym c.in_default-zero_at.ensures.value)
