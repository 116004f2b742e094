use Rattle.std.proofs.Common.{◌≡◌, ◌≤◌, ◌∙◌, ℕ, Bool, Contains, List, Vec, ap, arith, length, subst, sym}
use Rattle.std.specs.Global.{Global}
use Rattle.std.specs.List.{flat_map}
use Rattle.std.specs.Prelude.{string_bytes}
use Rattle.std.proofs.lemmas.List.{take_all}
use Rattle.link_core_answer.specs.Seen.{seen}
use Rattle.link_db.specs.Database.{Database}
use Rattle.link_db_files.specs.Inputs.{objects_in}
use Rattle.link_gc_sections.specs.SectionText.{object_lines}
use Rattle.link_input_groups.specs.declared.group.Group.{Group}
use Rattle.link_resolve.specs.Known.{Known}
use Rattle.link_resolve_discarded.specs.Indexed.{AreGroupsOf, IndexedGroups}
use Rattle.link_resolve_discarded.specs.Regular.{regular_among}
use Rattle.link_rules.specs.Comdat.{loaded_regular}
use Rattle.link_gc.proofs.Lines.{regular-of, texts-more, within-same}
use Rattle.link_gc.proofs.text.section_lines.Goals as goal

-- one object more
pub loop-object-preserved : goal.loop-object-preserved
loop-object-preserved g c = λ s of at.
    let x = seen c.args.linked.now in
    let groups = x.db.mapping.files.groups in
    let objects = c.deref-object-items.result.now in
    let i = c.loop-object.object-index in
    let o = c.object-item.result in
    let held : c.groups.result.now ≡ groups = c.groups.ensures ∙ ap (λ (d : Database g.row.P.Denot). d.mapping.files.groups) c.db.ensures in
    let marks : c.loaded.result.now ≡ x.known.marks = c.loaded.ensures ∙ ap (λ (k : Known). k.marks) c.resolved.ensures in
    let listed : objects ≡ regular_among x.known.marks (objects_in groups) =
    c.deref-object-items.ensures.value ∙ (c.in_ok-objects.ensures.value ∙ (ap (λ (ms : List Bool). regular_among ms (objects_in c.groups.result.now)) marks
    ∙ ap (λ (gs : List (Group g.row.P.Denot)). regular_among x.known.marks (objects_in gs)) held)) in
    let are : objects ≡ loaded_regular s.stage s.marks = listed ∙ regular-of s x of in
    let within : Contains (loaded_regular s.stage s.marks) o = within-same objects (loaded_regular s.stage s.marks) i o are c.loop-object-test.true c.object-item.is in
    let kept : AreGroupsOf s.marks s.stage.objects c.groups-in-loop-object.result.now = subst (λ (gs : IndexedGroups). AreGroupsOf s.marks s.stage.objects gs) (sym c.groups-in-loop-object.ensures) of.kept.groups_are in
    texts-more (object_lines s c.args.live.now.marks.items) objects i o (string_bytes c.loop-object.text) (string_bytes c.write_object_lines.new.text) c.loop-object-test.true c.object-item.is
    (c.loop-object.invariant s of at) (c.in_ok-write_object_lines.ensures s kept at within)

-- all lines
pub returns : goal.returns
returns g c = λ s of at.
    let x = seen c.args.linked.now in
    let groups = x.db.mapping.files.groups in
    let objects = c.deref-object-items.result.now in
    let held : c.groups.result.now ≡ groups = c.groups.ensures ∙ ap (λ (d : Database g.row.P.Denot). d.mapping.files.groups) c.db.ensures in
    let marks : c.loaded.result.now ≡ x.known.marks = c.loaded.ensures ∙ ap (λ (k : Known). k.marks) c.resolved.ensures in
    let listed : objects ≡ regular_among x.known.marks (objects_in groups) =
    c.deref-object-items.ensures.value ∙ (c.in_ok-objects.ensures.value ∙ (ap (λ (ms : List Bool). regular_among ms (objects_in c.groups.result.now)) marks
    ∙ ap (λ (gs : List (Group g.row.P.Denot)). regular_among x.known.marks (objects_in gs)) held)) in
    let past : length objects ≤ c.loop-object.object-index = omega arith in
    ap (λ (v : Vec ℕ Global). v.items) c.into_bytes.ensures.value ∙ (c.loop-object.invariant s of at ∙ ap (flat_map (object_lines s c.args.live.now.marks.items)) (take_all c.loop-object.object-index objects past ∙ (listed ∙ regular-of s x of)))
