use Rattle.std.proofs.Common.{◌≡◌, ◌∙◌, Option, Some, ap, arith, length, subst, sym, take}
use Rattle.std.specs.Prelude.{IfSome}
use Rattle.std.specs.Option.{option_and_then}
use Rattle.std.proofs.lemmas.Option.{same_Some}
use Rattle.link_ids.specs.Span.{offset_in}
use Rattle.link_input.specs.SequencedFiles.{SequencedFile}
use Rattle.link_input.specs.Symbols.{Symbol, object_in}
use Rattle.link_input_groups.specs.declared.sequenced_input.SequencedInput.{SequencedInput}
use Rattle.link_input_groups.specs.Groups.{object_file}
use Rattle.link_input_groups.specs.SequencedInputs.{sequenced_file}
use Rattle.link_db_files.specs.GroupFiles.{IsIn}
use Rattle.link_db_files.specs.HeldFiles.{object_with}
use Rattle.link_db_files.specs.Inputs.{objects_before, objects_in}
use Rattle.link_db_files.proofs.Entries.{no-object, object-there}
use Rattle.link_db_files.proofs.files.Files.object_of.Goals as goal

-- so many objects stand before it
pub returns-in-Object : goal.returns-in-Object
returns-in-Object g c =
    let groups = c.args.self.now.groups in
    let id = c.args.id in
    let place = c.file_id_for_symbol-place.result in
    let found = c.file_id_for_symbol-place.ensures.file in
    let o = c.in-Object.field-0 in
    let same : found.0 ≡ object_file o.now = same_Some found.0 (sequenced_file c.file.result) (sym found.1.0 ∙ c.file.ensures.value) ∙ ap (λ (i : SequencedInput g.row.P.Denot). sequenced_file i) c.in-Object.is in
    let is : IsIn groups id (object_file o.now) = subst (λ (f : SequencedFile). IsIn groups id f) same found.1.1 in
    let some : object_with c.args.self.now id ≡ Some is.before =
    ap (λ (x : Option Symbol). option_and_then (λ (y : Symbol). object_in y.origin) x) is.same
    ∙ object-there is.before o.now.parsed (offset_in (object_file o.now).symbols id) (omega (arith, is.inside.0, is.inside.1, is.ids)) in
    let counted = subst (λ x. IfSome x (λ n. n ≡ objects_before groups place)) some c.file_id_for_symbol-place.ensures.object in
    let earlier = ap (λ n. length (objects_in (take n groups))) c.group.ensures.value in
    ap Some (omega (arith, c.objects_before_group.ensures.value, earlier, c.file-in-Object.ensures.value, counted)) ∙ sym some

-- the symbol stands in no object
pub returns-in_default : goal.returns-in_default
returns-in_default g c =
    let groups = c.args.self.now.groups in
    let id = c.args.id in
    let found = c.file_id_for_symbol-place.ensures.file in
    let same : found.0 ≡ sequenced_file c.file.result = same_Some found.0 (sequenced_file c.file.result) (sym found.1.0 ∙ c.file.ensures.value) in
    let is : IsIn groups id (sequenced_file c.file.result) = subst (λ (f : SequencedFile). IsIn groups id f) same found.1.1 in
    sym (ap (λ (x : Option Symbol). option_and_then (λ (y : Symbol). object_in y.origin) x) is.same
    ∙ no-object c.file.result is.before (offset_in (sequenced_file c.file.result).symbols id) c.in_default.not-Object)
