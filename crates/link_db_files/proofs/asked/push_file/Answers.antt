use Rattle.std.proofs.Common.{◌≡◌, ◌++◌, ◌∙◌, ℕ, List, None, Option, ap, map, replicate, subst, sym}
use Rattle.std.specs.Prelude.{OnOk}
use Rattle.link_input_groups.specs.declared.sequenced_input.SequencedInput.{SequencedInput}
use Rattle.link_input_groups.specs.SequencedInputs.{sequenced_file}
use Rattle.link_input.specs.declared.object.ObjectTable.{ObjectTable}
use Rattle.link_db_files.specs.Asked.{entry_asked, file_asked}
use Rattle.link_db_files.proofs.Asking.{made-of-entries, no-object-asks}
use Rattle.link_db_files.proofs.asked.push_file.Goals as goal

-- an object's symbols are its entries
pub returns-in-Object : goal.returns-in-Object
returns-in-Object g c =
    let o = c.in-Object.object.now.parsed in
    let own : map entry_asked c.object.result.now.symbols ≡ file_asked (sequenced_file c.args.file.now).file =
    ap (λ (t : ObjectTable). map entry_asked t.symbols) c.object.ensures
    ∙ (sym (made-of-entries 0 o o.object.symbols) ∙ sym (ap (λ (i : SequencedInput g.row.P.Denot). file_asked (sequenced_file i).file) c.in-Object.is)) in
    subst (λ (l : List (Option ℕ)). OnOk c.push_entries.result (c.push_entries.new.asked.items ≡ c.args.asked.now.items ++ l)) own c.push_entries.ensures

-- others ask for nothing
pub returns-in_default : goal.returns-in_default
returns-in_default g c =
    let own : replicate c.symbol_count.result None ≡ file_asked (sequenced_file c.args.file.now).file =
    ap (λ (n : ℕ). replicate n None) c.symbol_count.ensures ∙ no-object-asks c.args.file.now c.in_default.not-Object in
    subst (λ (l : List (Option ℕ)). OnOk c.push_none.result (c.push_none.new.asked.items ≡ c.args.asked.now.items ++ l)) own c.push_none.ensures
