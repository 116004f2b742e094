use Rattle.std.proofs.Common.{◌≡◌, ◌++◌, ◌∙◌, [], List, get_or, refl, ap, sym}
use Rattle.std.specs.List.{slice_set}
use Rattle.std.specs.Option.{option_to_list}
use Rattle.std.proofs.lemmas.Option.{get_or_from_slice_get, slice_get_read}
use Rattle.link_rules.specs.declared.explanation.FoundRoot.{FoundRoot}
use Rattle.link_rules.specs.FoundRoots.{found_at}
use Rattle.link_resolve_roots.proofs.noting.note_name.Goals as goal

pub returns : goal.returns
returns g c = λ demangle w at.
    let lists : List (List FoundRoot) = c.args.lists.now in
    let place = c.args.place in
    let list : List FoundRoot = c.index-lists-place.result in
    let there : get_or lists place [] ≡ list = get_or_from_slice_get lists place list [] (slice_get_read lists _ place list refl c.requires c.index-lists-place.is) in
    ap (λ (l : List FoundRoot). slice_set lists place l)
    (c.in_ok-push_found.ensures demangle w at ∙ ap (λ (l : List FoundRoot). l ++ option_to_list (found_at w c.args.name.now)) (sym c.index-lists-place.is ∙ sym there))
