use Rattle.std.proofs.Common.{◌≡◌, ◌∙◌, ◌++◌, ◌<◌, ◌≤◌, List, append-nil, ap, arith, false, get_or, length, subst, sym}
use Rattle.std.proofs.lemmas.List.{drop_all}
use Rattle.std.specs.List.{flat_map}
use Rattle.link_db_files.specs.Inputs.{objects_in}
use Rattle.link_db_files.specs.declared.outlines.FileOutline.{FileOutline}
use Rattle.link_input_groups.specs.Groups.{files_of}
use Rattle.link_input.specs.SequencedFiles.{SequencedFile}
use Rattle.link_rules.specs.Places.{each_from}
use Rattle.link_db_files.proofs.Outlined.{file-at, get_or_default, length-outlines, outlines, outlines-are}
use Rattle.link_db_symbols.specs.Walk.{objects_among}
use Rattle.link_db_symbols.proofs.Marks.{marks-more}
use Rattle.link_resolve_discarded.specs.Checked.{is_grouped}
use Rattle.link_resolve_discarded.proofs.candidates.grouped_marks.Goals as goal

-- a file more
pub loop-outline-preserved : goal.loop-outline-preserved
loop-outline-preserved g c =
    let groups = c.args.files.now.groups in
    let files : List SequencedFile = flat_map files_of groups in
    let i = c.loop-outline.outline-index in
    let all : c.outlines-outlines.result.now ≡ outlines files = c.outlines-outlines.ensures ∙ outlines-are groups in
    let f = file-at files i (get_or c.outlines-outlines.result.now i (record { symbols = 0; is_object = false; is_shared = false; is_optional = false; has_groups = false }))
    (subst (λ (l : List FileOutline). i < length l) all c.loop-outline-test.true)
    (get_or_default c.outlines-outlines.result.now (outlines files) i (record { symbols = 0; is_object = false; is_shared = false; is_optional = false; has_groups = false }) all c.loop-outline-test.true) in
    marks-more (is_grouped c.args.loaded.now) files i f.0 c.loop-outline.marks.items c.push_grouped.new.marks.items (each_from (is_grouped c.args.loaded.now) 0 (objects_in groups)) f.1
    (c.in_ok-push_grouped.ensures f.0 f.2) c.loop-outline.invariant

-- no file is left
pub returns : goal.returns
returns g c =
    let groups = c.args.files.now.groups in
    let files : List SequencedFile = flat_map files_of groups in
    let items = c.loop-outline.marks.items in
    let i = c.loop-outline.outline-index in
    let all : c.outlines-outlines.result.now ≡ outlines files = c.outlines-outlines.ensures ∙ outlines-are groups in
    let past : length files ≤ i = omega (arith, c.loop-outline-test.false, ap (λ (l : List FileOutline). length l) all, length-outlines files) in
    sym (append-nil items)
    ∙ (ap (λ (l : List SequencedFile). items ++ each_from (is_grouped c.args.loaded.now) (length items) (objects_among l)) (sym (drop_all i files past)) ∙ c.loop-outline.invariant)
