use Rattle.std.proofs.Common.{rules, ◌≡◌, ◌∙◌, ◌+◌, ◌++◌, List, [], append-nil, ap, arith, false, length, refl, slice_get, slice_index_or, sym}
use Rattle.std.specs.List.{flat_map}
use Rattle.std.proofs.lemmas.Option.{get_or_from_slice_get}
use Rattle.link_db_files.proofs.Outlined.{outlines, outlines-are}
use Rattle.link_db_files.specs.GroupFiles.{symbols_in}
use Rattle.link_db_files.specs.Outlines.{outline_of}
use Rattle.link_db_files.specs.declared.outlines.FileOutline.{FileOutline}
use Rattle.link_input_groups.specs.Groups.{files_of}
use Rattle.link_input_groups.specs.SequencedInputs.{sequenced_file}
use Rattle.link_input.specs.SequencedFiles.{SequencedFile}
use Rattle.link_db_symbols.specs.Walk.{SymbolsLeft, without_ids}
use Rattle.link_db_symbols.proofs.Outlined.{left-at, objects-counted-on}
use Rattle.link_db_symbols.proofs.OwnSymbols.{objects-counted, objects-more, objects_from, own-symbols-are}
use Rattle.link_db_symbols.proofs.objects.object_symbols.Goals as goal

-- no file is done
pub loop-file-init : goal.loop-file-init
loop-file-init g c =
    let groups = c.args.files.now.groups in
    let all : List SequencedFile = flat_map files_of groups in
    let start : c.into_iter-file-iterator.result ≡ all = search rules in
    let none : c.in_ok-objects.objects.items ≡ [] = c.in_ok-objects.ensures.items in
    let count : 0 + length (symbols_in groups) ≡ length (symbols_in groups) = omega arith in
    let outlined : c.outlines-outlines.result.now ≡ outlines all = c.outlines-outlines.ensures ∙ outlines-are groups in
    rw (none, start) (refl, count, outlined)

-- a file more
pub loop-file-preserved : goal.loop-file-preserved
loop-file-preserved g c =
    let groups = c.args.files.now.groups in
    let all : List SequencedFile = flat_map files_of groups in
    let f = sequenced_file c.in-Some.file in
    let items = c.loop-file.objects.items in
    let new = c.push_object.new.objects.items in
    let left : List SequencedFile = c.loop-file.file-iterator in
    let rest : List SequencedFile = c.next.new.self in
    let more = c.in-Some.ensures.steps in
    let here = left-at c.outlines-outlines.result.now c.loop-file.place (outline_of f.file) (outlines rest)
    (c.loop-file.invariant.2 ∙ ap (λ (l : List SequencedFile). outlines l) more) in
    let read : slice_index_or c.outlines-outlines.result.now c.loop-file.place (record { symbols = 0; is_object = false; is_shared = false; is_optional = false; has_groups = false }) ≡ outline_of f.file =
    get_or_from_slice_get c.outlines-outlines.result.now c.loop-file.place (outline_of f.file) (record { symbols = 0; is_object = false; is_shared = false; is_optional = false; has_groups = false }) here.0 in
    let on = ap (λ (o : FileOutline). c.loop-file.first + o.symbols) read in (
      objects-more items new (objects_from 0 0 (without_ids all)) c.loop-file.first _ left rest f more c.in_ok-push_object.ensures on c.loop-file.invariant.0,
      objects-counted-on items new c.loop-file.first _ (length (symbols_in groups)) left rest f more c.in_ok-push_object.ensures on c.loop-file.invariant.1,
      here.1,
    )

-- there are as many as objects
pub returns-clause-each : goal.returns-clause-each
returns-clause-each g c =
    let items = c.loop-file.objects.items in
    let all : List SequencedFile = flat_map files_of c.args.files.now.groups in
    let done : items ≡ objects_from 0 0 (without_ids all) =
    sym (append-nil items) ∙ (ap (λ (files : List SequencedFile). items ++ objects_from (length items) c.loop-file.first (without_ids files)) (sym c.in-None.ensures.steps.0) ∙ c.loop-file.invariant.0) in
    ap (λ (l : List SymbolsLeft). length l) done ∙ objects-counted 0 0 all

-- each has its symbols
pub returns-clause-symbols : goal.returns-clause-symbols
returns-clause-symbols g c = λ f o at.
    let items = c.loop-file.objects.items in
    let all : List SequencedFile = flat_map files_of c.args.files.now.groups in
    let done : items ≡ objects_from 0 0 (without_ids all) =
    sym (append-nil items) ∙ (ap (λ (files : List SequencedFile). items ++ objects_from (length items) c.loop-file.first (without_ids files)) (sym c.in-None.ensures.steps.0) ∙ c.loop-file.invariant.0) in
    own-symbols-are (without_ids all) f o (ap (λ (l : List SymbolsLeft). slice_get l f) (sym done) ∙ at)
