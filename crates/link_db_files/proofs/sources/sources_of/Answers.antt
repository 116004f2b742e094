use Rattle.std.proofs.Common.{◌∙◌, ◌++◌, ◌<◌, ◌≤◌, List, append-nil, ap, arith, get_or, false, length, subst, sym}
use Rattle.std.proofs.lemmas.List.{drop_all}
use Rattle.link_input.specs.SequencedFiles.{SequencedFile}
use Rattle.link_input.specs.Symbols.{symbols_of}
use Rattle.link_db_files.specs.declared.outlines.FileOutline.{FileOutline}
use Rattle.link_db_files.specs.Sources.{sources_of}
use Rattle.link_db_files.proofs.Numbered.{bare}
use Rattle.link_db_files.proofs.OnePlace.{sources-more}
use Rattle.link_db_files.proofs.Outlined.{file-at, get_or_default, length-outlines, outlines}
use Rattle.link_db_files.proofs.sources.sources_of.Goals as goal

-- a file more
pub loop-outline-preserved : goal.loop-outline-preserved
loop-outline-preserved c =
    let i = c.loop-outline.outline-index in
    let told = c.args.outlines.now in (
      omega (arith, c.objects_behind-before.ensures.few),
      λ files all.
          let read : FileOutline = get_or told i (record { symbols = 0; is_object = false; is_shared = false; is_optional = false; has_groups = false }) in
          let inside : i < length (outlines files) = subst (λ (l : List FileOutline). i < length l) all c.loop-outline-test.true in
          let f = file-at files i read inside (get_or_default told (outlines files) i (record { symbols = 0; is_object = false; is_shared = false; is_optional = false; has_groups = false }) all c.loop-outline-test.true) in
          sources-more files i c.loop-outline.before c.objects_behind-before.result f.0 c.loop-outline.sources.items c.push_sources.new.sources.items (sources_of (symbols_of c.args.objects (bare files))) f.1
          (c.in_ok-push_sources.ensures f.0.file f.2) (c.objects_behind-before.ensures.value f.0.file f.2) (c.loop-outline.invariant.1 files all),
    )

-- no file is left
pub returns : goal.returns
returns c = λ files all.
    let items = c.loop-outline.sources.items in
    let i = c.loop-outline.outline-index in
    let past : length files ≤ i = omega (arith, c.loop-outline-test.false, ap (λ (l : List FileOutline). length l) all, length-outlines files) in
    sym (append-nil items)
    ∙ (ap (λ (l : List SequencedFile). items ++ sources_of (symbols_of c.loop-outline.before (bare l))) (sym (drop_all i files past)) ∙ c.loop-outline.invariant.1 files all)
