use Rattle.std.proofs.Common.{◌≡◌, ◌++◌, ◌∙◌, [], ◌<◌, List, Some, get_or, length, take, refl, ap, arith}
use Rattle.std.specs.List.{slice_get}
use Rattle.std.specs.Option.{option_and_then, option_to_list}
use Rattle.std.proofs.lemmas.List.{take_all}
use Rattle.std.proofs.lemmas.Option.{slice_get_read}
use Rattle.link_rules.specs.declared.explanation.FoundRoot.{FoundRoot}
use Rattle.link_rules.specs.FoundRoots.{found_at}
use Rattle.link_rules.specs.Places.{Bytes}
use Rattle.link_resolve_roots.proofs.Noted.{noted-more}
use Rattle.link_resolve_roots.proofs.noting.note_names.Goals as goal

-- one name more
pub loop-place-preserved : goal.loop-place-preserved
loop-place-preserved g c = λ demangle w at i.
    let names : List Bytes = c.args.names.now in
    let lists : List (List FoundRoot) = c.loop-place.lists in
    let place = c.loop-place.place in
    let inside : place < length lists = omega (arith, c.requires, c.loop-place-test.true, c.loop-place.auto.lists) in
    let named : slice_get names place ≡ Some c.index-names-place.result = slice_get_read names _ place c.index-names-place.result refl c.loop-place-test.true c.index-names-place.is in
    ap (λ (l : List (List FoundRoot)). get_or l i []) (c.in_ok-note_name.ensures demangle w at)
    ∙ noted-more (found_at w) names place c.index-names-place.result lists (get_or c.args.lists.now i []) i inside named (c.loop-place.invariant demangle w at i)

-- no name is left
pub returns : goal.returns
returns g c = λ demangle w at i.
    let names : List Bytes = c.args.names.now in
    let all : take c.loop-place.place names ≡ names = take_all c.loop-place.place names (omega (arith, c.loop-place-test.false)) in
    c.loop-place.invariant demangle w at i
    ∙ ap (λ (ns : List Bytes). get_or c.args.lists.now i [] ++ option_to_list (option_and_then (found_at w) (slice_get ns i))) all
