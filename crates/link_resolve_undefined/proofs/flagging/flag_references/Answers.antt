use Rattle.std.proofs.Common.{◌∙◌, List, ℕ, ap}
use Rattle.link_db_files.specs.GroupFiles.{symbols_in}
use Rattle.link_rules.specs.Undefined.{left_undefined, resolution_from}
use Rattle.link_resolve_undefined.specs.Flagged.{all_passed, numbers_in}
use Rattle.link_resolve_undefined.specs.Records.{numbered_at}
use Rattle.link_resolve_undefined.proofs.Passing.{end-of, flagged-end}
use Rattle.link_resolve_undefined.proofs.flagging.flag_references.Goals as goal

pub returns-clause-flags : goal.returns-clause-flags
returns-clause-flags g c = λ l. λ before. λ more. λ end. λ is. λ len.
    let symbols = symbols_in c.args.files.now.groups in
    let left = c.args.left.now in
    let asked = c.args.asked.now in
    let mapping = g.M.FirstDefinitions.mapping c.args.names.now in
    let table = c.args.table.now in
    let r = resolution_from l (left_undefined l) in
    c.pass_visibilities.ensures.passed r (end-of symbols left asked mapping table c.args.output l end)
    ∙ (ap (λ (flags : List ℕ). all_passed r (numbered_at symbols left) flags) c.flag_own.ensures.own
    ∙ flagged-end symbols left asked mapping table c.args.output l before more (numbers_in c.args.flags.now) end is len)
