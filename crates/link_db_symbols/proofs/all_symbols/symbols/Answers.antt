use Rattle.std.proofs.Common.{◌≡◌, ◌∙◌, List, [], ap, arith, subst, sym}
use Rattle.std.specs.List.{flat_map}
use Rattle.link_input.specs.SequencedFiles.{SequencedFile}
use Rattle.link_input.specs.Symbols.{Symbol}
use Rattle.link_input_groups.specs.declared.group.Group.{Group}
use Rattle.link_input_groups.specs.Groups.{files_of}
use Rattle.link_db_symbols.specs.Walk.{CanBeNumbered, symbols_left}
use Rattle.link_db_symbols.proofs.Walk.{held-numbered}
use Rattle.link_db_symbols.proofs.all_symbols.symbols.Goals as goal

pub invariant_of-result : goal.invariant_of-result
invariant_of-result g c =
    let held = c.args.files.now in
    let files : c.new.result ≡ flat_map (λ (k : Group g.row.P.Denot). files_of k) held.groups =
    c.new.ensures ∙ ap (λ (gs : List (Group g.row.P.Denot)). flat_map (λ (k : Group g.row.P.Denot). files_of k) gs) c.groups.ensures in
    let numbered = held-numbered held (omega (arith, c.num_symbols.ensures.value, c.num_symbols.ensures.fits)) (omega (arith, c.num_objects.ensures, c.num_objects.type_inv)) in
    subst (λ (own : List Symbol). CanBeNumbered (record { next = 0; left = symbols_left own 0 c.new.result }) 0 c.new.result) (sym c.none.ensures)
    (subst (λ (fs : List SequencedFile). CanBeNumbered (record { next = 0; left = symbols_left [] 0 fs }) 0 fs) (sym files) numbered)
