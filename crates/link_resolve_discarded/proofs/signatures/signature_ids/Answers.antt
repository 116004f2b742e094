use Rattle.std.proofs.Common.{◌∙◌, List, ap, sym}
use Rattle.std.specs.List.{enumerate_from, flat_map}
use Rattle.link_db_files.specs.Inputs.{objects_in}
use Rattle.link_input.specs.ObjectFile.{ObjectFile}
use Rattle.link_input.specs.Symbols.{Symbol}
use Rattle.link_resolve_discarded.specs.Signatures.{signatures_at}
use Rattle.link_resolve_discarded.proofs.Named.{names-of-link}
use Rattle.link_resolve_discarded.proofs.signatures.signature_ids.Goals as goal

pub returns-clause-ids : goal.returns-clause-ids
returns-clause-ids g c = λ w marks objects symbols are.
    let kept = c.args.kept.now in
    let files = c.args.files.now.groups in
    c.in_ok-ids.ensures.ids
    ∙ (ap (λ (xs : List Symbol). flat_map (signatures_at kept xs) (enumerate_from 0 (objects_in files))) (sym symbols)
    ∙ (ap (λ (os : List ObjectFile). flat_map (signatures_at kept w.symbols) (enumerate_from 0 os)) (sym objects) ∙ names-of-link w marks kept are))
