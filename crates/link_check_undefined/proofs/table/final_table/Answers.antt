use Rattle.std.proofs.Common.{◌++◌, ◌∙◌, List, ap, length, ℕ}
use Rattle.link_rules.specs.Places.{Bytes, each_from}
use Rattle.link_rules.specs.Undefined.{Numbered, last_alike}
use Rattle.link_check_undefined.specs.Columns.{Known, left_in}
use Rattle.link_check_undefined.specs.Made.{entry_in, makers_in, new_id}
use Rattle.link_check_undefined.proofs.Final.{final-is}
use Rattle.link_check_undefined.proofs.table.final_table.Goals as goal

pub returns : goal.returns
returns c = λ l is.
    let symbols = c.args.symbols.now in
    let marks = c.args.marks.now in
    let targets = c.args.targets.now in
    let sections : List Bytes = c.args.custom_sections.now in
    let table = c.args.table.now in
    let left : List Numbered = c.in_ok-left.left.items in
    let makers : List Numbered = c.in_ok-makers.makers.items in
    let last = c.in_ok-last.last in
    let made = c.in_ok-made.made in
    let columns : Known = record { symbols = symbols; marks = marks; targets = targets } in
    c.in_ok-push_new.ensures
    ∙ (ap (λ (entries : List ℕ). entries ++ each_from (λ s (m : Numbered). s) (length symbols) c.deref-4.result.now)
    (c.in_ok-entries.ensures ∙ ap (λ (k : Known). each_from (entry_in k last made table) 0 k.symbols) c.new-columns.ensures)
    ∙ (ap (λ (ms : List Numbered). each_from (entry_in columns last made table) 0 symbols ++ each_from (λ s m. s) (length symbols) ms) c.deref-4.ensures.value
    ∙ final-is symbols marks targets sections table left makers last made (c.in_ok-left.ensures ∙ ap left_in c.new-columns.ensures)
    (λ x. c.in_ok-last.ensures x ∙ ap (λ (us : List Numbered). last_alike us x) c.deref.ensures.value)
    (c.in_ok-makers.ensures
    ∙ (ap (λ (ss : List Bytes). makers_in ss last c.deref-2.result.now) c.in_ok-sections.ensures ∙ ap (makers_in sections last) c.deref-2.ensures.value))
    (λ x. c.in_ok-made.ensures x ∙ ap (λ (ms : List Numbered). new_id (length symbols) ms x) c.deref-3.ensures.value) l is))
