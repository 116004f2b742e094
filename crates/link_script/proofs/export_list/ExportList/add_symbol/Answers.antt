use Rattle.link_script_syntax.specs.ForcedName.{added_entry}
use Rattle.link_script_syntax.specs.ListFaults.{AddedFails}
use Rattle.link_script_syntax.specs.ListGrammar.{IsAddedEntry}
use Rattle.link_script_syntax.proofs.ListLaws.{added_judged}
use Rattle.link_script.proofs.Refused.{is_fault, is_refused, added_read}
use Rattle.link_script.proofs.export_list.ExportList.add_symbol.Goals as goal

pub returns-clause-faulty : goal.returns-clause-faulty
returns-clause-faulty c =
    let t = c.args.text.now in let b = c.args.without_semicolon in
    is_fault t (added_entry b t) (IsAddedEntry b t) (AddedFails b t) (added_judged b t) c.add_entry.result c.add_entry.ensures.refused

pub returns-clause-refuses : goal.returns-clause-refuses
returns-clause-refuses c =
    let t = c.args.text.now in let b = c.args.without_semicolon in
    is_refused t (added_entry b t) (IsAddedEntry b t) (AddedFails b t) (added_judged b t) c.add_entry.result
    (added_read b t c.args.self.now c.add_entry.new.self c.add_entry.result c.add_entry.ensures.added) c.add_entry.ensures.refused
