use Rattle.std.proofs.Common.{◌≡◌, ◌∙◌, ◌++◌, List, ap, map, sym}
use Rattle.link_db_files.specs.GroupFiles.{symbols_in}
use Rattle.link_db_files.specs.HeldFiles.{HeldFiles}
use Rattle.link_db_files.specs.Inputs.{objects_in}
use Rattle.link_input_groups.specs.declared.group.Group.{Group}
use Rattle.link_input.specs.ObjectFile.{ObjectFile}
use Rattle.link_input.specs.Symbols.{Symbol, object_in}
use Rattle.link_resolve_rivals.specs.Settled.{clash_line}
use Rattle.link_rules.specs.Places.{Bytes}
use Rattle.link_rules.specs.Sorting.{sorted_texts}
use Rattle.link_resolve.proofs.duplicates.duplicate_lines.Goals as goal

pub returns : goal.returns
returns g c = λ w symbols objects.
    let input = λ (o : ObjectFile). o.input in
    let place = λ (x : Symbol). object_in x.origin in
    let plain = map (clash_line w) c.args.plain.now in
    let named : c.in_ok-names.names.items ≡ map input w.objects =
    c.in_ok-names.ensures ∙ ap (λ (gs : List (Group g.row.P.Denot)). map input (objects_in gs)) c.groups.ensures ∙ ap (map input) (sym objects) in
    let placed : c.in_ok-places.places.items ≡ map place w.symbols =
    c.in_ok-places.ensures ∙ ap (λ (f : HeldFiles g.row.P.Denot). map place (symbols_in f.groups)) c.files.ensures ∙ ap (map place) (sym symbols) in
    let first : c.push_lines.new.lines.items ≡ plain =
    c.in_ok-push_lines.ensures w symbols (c.deref.ensures.value ∙ named) (c.deref-2.ensures.value ∙ placed) ∙ ap (λ (lines : List Bytes). lines ++ plain) c.new-lines.ensures.items in
    let both : c.push_lines-2.new.lines.items ≡ plain ++ map (clash_line w) c.args.versioned.now =
    c.in_ok-push_lines-2.ensures w symbols (c.deref-3.ensures.value ∙ named) (c.deref-4.ensures.value ∙ placed)
    ∙ ap (λ (lines : List Bytes). lines ++ map (clash_line w) c.args.versioned.now) first in
    c.in_ok-sort_lines.ensures ∙ ap sorted_texts both
