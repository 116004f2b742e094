use Rattle.std.proofs.Common.{◌≡◌, ◌++◌, ◌∙◌, [], List, drop, get_or, length, take, ap, arith}
use Rattle.std.specs.List.{slice_get}
use Rattle.std.specs.Option.{option_and_then, option_to_list}
use Rattle.std.proofs.lemmas.Grind.{common_steps}
use Rattle.link_rules.specs.declared.explanation.FoundRoot.{FoundRoot}
use Rattle.link_rules.specs.FoundRoots.{found_at, lasting_names}
use Rattle.link_rules.specs.Places.{Bytes}
use Rattle.link_resolve_roots.proofs.noting.note_others.Goals as goal

pub returns : goal.returns
returns g c = λ demangle w at i.
    let lists : List (List FoundRoot) = c.note_names.new.lists in
    let same : take c.make_lists.new.others.len (lists ++ drop (length lists) c.make_lists.new.others.items) ≡ lists =
    grind (arith, common_steps, c.note_names.auto.lists) in
    ap (λ (l : List (List FoundRoot)). get_or l i []) same
    ∙ c.in_ok-note_names.ensures demangle w at i
    ∙ ap (λ (l : List (List FoundRoot)). get_or l i [] ++ option_to_list (option_and_then (found_at w) (slice_get c.deref.result.now i))) c.deref_mut.ensures.value
    ∙ ap (λ (ns : List Bytes). get_or c.make_lists.new.others.items i [] ++ option_to_list (option_and_then (found_at w) (slice_get ns i))) (c.deref.ensures.value ∙ c.in_ok-names.ensures demangle w at)
    ∙ ap (λ (l : List FoundRoot). l ++ option_to_list (option_and_then (found_at w) (slice_get (lasting_names w) i))) (c.in_ok-make_lists.ensures.same i)
