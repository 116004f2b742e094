use Rattle.std.proofs.Common.{◌≡◌, ◌∙◌, ◌+◌, ◌^◌, ◌<◌, ◌≤◌, ◌∷◌, ℕ, Bool, Option, Some, None, ap, arith, drop, map, sym, if◌then◌else◌}
use Rattle.std.specs.Prelude.{SomeIff}
use Rattle.std.proofs.lemmas.List.{drop_more}
use Rattle.link_closure.specs.Closure.{is_marked}
use Rattle.link_input.specs.declared.object.ObjectTable.{ObjectTable}
use Rattle.link_input.specs.InputFiles.{sections_of}
use Rattle.link_input.specs.Limits.{total}
use Rattle.link_input.specs.ObjectFile.{ObjectFile}
use Rattle.link_gc.specs.declared.numbers.SectionSpan.{SectionSpan}
use Rattle.link_gc.specs.Numbering.{spans_from}
use Rattle.link_gc.proofs.Numbering.{counted-more, len_of, span, spans-more, within-more}
use Rattle.link_gc.proofs.numbers.section_spans.Goals as goal
use Rattle.link_gc.proofs.numbers.section_spans.Goals.{then-is_loaded, else-is_loaded}

-- a sum that fits
added : (a b end : ℕ) (sum : Option ℕ) → SomeIff sum (a + b < 2 ^ 64) (a + b) → sum ≡ Some end → end ≡ a + b
added a b end None past is = cc
added a b end (Some x) (fits, same) is = cc

-- one object more
pub loop-object-preserved : goal.loop-object-preserved
loop-object-preserved g c =
    let marks = c.args.loaded.now in
    let objects = c.args.objects.now in
    let k = c.loop-object.object-index in
    let o = c.object-item.result in
    let count = c.loop-object.count in
    let end = c.in_ok-end.end in
    let len = c.if-is_loaded.len in
    let sections = c.sections_of-sections.result in
    let old = c.loop-object.spans.items in
    let new = c.push.new.self.items in
    let one : SectionSpan = span count len in
    let next : drop k objects ≡ o ∷ drop (k + 1) objects = drop_more objects k o c.loop-object-test.true ∙ ap (λ (x : ℕ × ObjectFile). x ∷ drop (k + 1) objects) (sym c.object-item.is) in
    let table : c.object-in-loop-object.result.now ≡ o.1.object = c.object-in-loop-object.ensures ∙ ap (λ (x : ℕ × ObjectFile). x.1.object) c.object.view_is in
    let own : sections ≡ sections_of o.1 = c.sections_of-sections.ensures.value ∙ ap (λ (t : ObjectTable). if t.is_dynamic then 0 else t.sections) table in
    let on : end ≡ count + sections_of o.1 = added count sections end c.checked_add.result c.checked_add.ensures c.in_ok-end.ensures.ok_part ∙ ap (λ n. count + n) own in
    let marked : is_marked marks o.0 ≡ c.is_marked-is_loaded.result = sym (c.is_marked-is_loaded.ensures ∙ ap (λ (x : ℕ × ObjectFile). is_marked marks x.0) c.object.view_is) in
    let long : len ≡ len_of marks o.0 o.1 = elim c.if-is_loaded.branch [
      | then-is_loaded w ↦ w.len-is ∙ (own ∙ sym (ap (λ (b : Bool). if b then sections_of o.1 else 0) (marked ∙ w.if-is_loaded.true)))
      | else-is_loaded w ↦ w.len-is ∙ sym (ap (λ (b : Bool). if b then sections_of o.1 else 0) (marked ∙ w.if-is_loaded.false))
    ] in
    let few : len ≤ sections_of o.1 = elim c.if-is_loaded.branch [
      | then-is_loaded w ↦ omega (arith, w.len-is, own)
      | else-is_loaded w ↦ omega (arith, w.len-is)
    ] in
    let rising : count ≤ end = omega (arith, on) in
    let ends : count + len ≤ end = omega (arith, on, few) in
    record {
      spans = spans-more marks objects k count end o one old new (spans_from marks 0 objects) next (ap (λ n. span count n) long) on c.in_ok-push.ensures.items c.loop-object.invariant.spans;
      count = counted-more objects k count end (total sections_of (map (λ (x : ℕ × ObjectFile). x.1) objects)) o next on c.loop-object.invariant.count;
      within = within-more old new one count end c.in_ok-push.ensures.items rising ends c.loop-object.invariant.within;
    }
