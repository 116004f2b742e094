use Rattle.std.proofs.Common.{rules, ◌≡◌, ◌∷◌, [], map, length, ap, arith}
use Rattle.std.specs.Vec.Iter.{into_iter_items}
use Rattle.std.proofs.lemmas.List.{map-append}
use Rattle.link_input.specs.InputFiles.{object, symbol_count, section_count}
use Rattle.link_input_groups.proofs.AddsLemmas.{adds-more, left-sum, one-sum}
use Rattle.link_input_groups.proofs.pushing.push_object_groups.Goals as goal

pub push_objects-requires-clause-symbols : goal.push_objects-requires-clause-symbols
push_objects-requires-clause-symbols g c =
    let left : into_iter_items c.loop-objects.objects-iterator ≡ c.in-Some.objects ∷ into_iter_items c.next.new.self = search rules in
    let sum = left-sum symbol_count (λ cut. map object cut.items) c.loop-objects.next.symbols _ _ _ c.in-Some.objects left c.loop-objects.invariant.symbols in
    omega (arith, sum, c.requires.symbols)

pub push_objects-requires-clause-sections : goal.push_objects-requires-clause-sections
push_objects-requires-clause-sections g c =
    let left : into_iter_items c.loop-objects.objects-iterator ≡ c.in-Some.objects ∷ into_iter_items c.next.new.self = search rules in
    let sum = left-sum section_count (λ cut. map object cut.items) c.loop-objects.next.sections _ _ _ c.in-Some.objects left c.loop-objects.invariant.sections in
    omega (arith, sum, c.requires.sections)

pub loop-objects-preserved : goal.loop-objects-preserved
loop-objects-preserved g c =
    let left : into_iter_items c.loop-objects.objects-iterator ≡ c.in-Some.objects ∷ into_iter_items c.next.new.self = search rules in
    let inv = c.loop-objects.invariant in
    let step = c.in_ok-push_objects.ensures.adds in
    let x = c.in-Some.objects in
    let symbols = left-sum symbol_count (λ cut. map object cut.items) c.loop-objects.next.symbols _ _ _ x left inv.symbols in
    let sections = left-sum section_count (λ cut. map object cut.items) c.loop-objects.next.sections _ _ _ x left inv.sections in
    record {
      adds = rw (map-append (λ cut. map object cut.items) c.loop-objects.yielded (x ∷ [])) (adds-more _ _ _ _ _ _ _ _ inv.adds step);
      few = (rw left at inv.few).1;
      place = omega (arith, inv.place, ap length left, c.in_ok-push_objects.ensures.one);
      symbols = omega (arith, symbols, step.symbols, one-sum symbol_count (map object x.items));
      sections = omega (arith, sections, step.sections, one-sum section_count (map object x.items));
    }
