use Rattle.std.proofs.Common.{◌≡◌, ◌∙◌, List, Bool, ap, length, rules, subst}
use Rattle.link_closure.specs.Closure.{IsLeastClosed}
use Rattle.link_closure.specs.Graph.{IsEdge, IsMarked}
use Rattle.link_core_answer.specs.Seen.{seen}
use Rattle.link_db_files.specs.GroupFiles.{symbols_in}
use Rattle.link_gc.proofs.Collected.{collected, placed_of}
use Rattle.link_gc.proofs.collection.live_sections.Goals as goal

-- they are those that are marked from the roots
pub returns : goal.returns
returns g c = λ l of.
    let x = seen c.args.linked.now in
    let numbers = c.in_ok-numbers.numbers in
    let edges = c.in_ok-edges.edges.items in
    let marks = c.in_ok-marks.marks.items in
    let files : symbols_in c.files.result.now.groups ≡ symbols_in x.db.mapping.files.groups = search rules in
    let least = subst (λ (rs : List Bool). IsLeastClosed (IsMarked rs) (IsEdge edges) (length rs) marks) c.deref-6.ensures.value c.in_ok-marks.ensures in
    collected l x c.loaded-loaded.result.now c.in_ok-objects.objects.items numbers.spans.items numbers.groups.now numbers.count c.in_ok-placed.placed.items c.in_ok-roots.roots.items edges marks
    of (search rules) (search rules) (search rules) (search rules) (search rules) (λ are. c.in_ok-placed.ensures.numbers l are ∙ ap (placed_of l) files) (search rules)
    (λ are all stands counts. c.in_ok-roots.ensures.roots l of are (c.deref-2.ensures.value ∙ all) (c.deref-3.ensures.value ∙ stands) counts)
    (λ are stands. c.in_ok-edges.ensures.edges l of are (c.deref-5.ensures.value ∙ stands)) least
