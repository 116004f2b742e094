use Rattle.std.proofs.Common.{◌≡◌, ◌↔◌, ◌<◌, ◌∙◌, ◌⊎◌, ℕ, Bool, List, ap, false, length, subst}
use Rattle.std.proofs.lemmas.List.{length-replicate}
use Rattle.link_closure.specs.Graph.{IsMarked}
use Rattle.link_input.specs.ObjectFile.{ObjectFile}
use Rattle.link_gc_sections.specs.LiveSections.{section_count}
use Rattle.link_gc.proofs.Rooted.{IsHomeAmong, IsRetainedAmong, are-roots, none-marked}
use Rattle.link_gc.proofs.roots.mark_roots.Goals as goal

-- the three steps mark the roots
pub returns : goal.returns
returns g c = λ l of are objects placed count.
    let start = c.args.marks.now in
    let retained = c.mark_retained.new.marks in
    let homes = c.mark_homes_of_roots.new.marks in
    let marks = c.mark_homes_of_exports.new.marks in
    let long : length start ≡ section_count l.stage = ap (λ (ms : List Bool). length ms) c.requires.none ∙ (length-replicate c.args.numbers.now.count false ∙ count) in
    let long_1 : length retained ≡ length start = c.mark_retained.auto.marks in
    let long_2 : length homes ≡ length start = c.mark_homes_of_roots.auto.marks ∙ long_1 in
    let long_3 : length marks ≡ length start = c.mark_homes_of_exports.auto.marks ∙ long_2 in
    are-roots l start retained homes marks long (λ n marked. none-marked c.args.numbers.now.count n (subst (λ (ms : List Bool). IsMarked ms n) c.requires.none marked)) long_1 long_2 long_3
    (subst (λ (os : List (ℕ × ObjectFile)). (n : ℕ) → n < length start → IsMarked retained n ↔ (IsMarked start n ⊎ IsRetainedAmong l os n)) objects (c.mark_retained.ensures l are))
    (subst (λ (ss : List ℕ). (n : ℕ) → n < length retained → IsMarked homes n ↔ (IsMarked retained n ⊎ IsHomeAmong l ss n)) of.roots (c.mark_homes_of_roots.ensures l of placed))
    (c.mark_homes_of_exports.ensures l of placed)
