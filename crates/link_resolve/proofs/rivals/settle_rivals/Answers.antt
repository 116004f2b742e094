use Rattle.std.proofs.Common.{◌∙◌, ap, map, subst, sym}
use Rattle.link_db_files.specs.GroupFiles.{symbols_in}
use Rattle.link_db_files.specs.Inputs.{objects_in}
use Rattle.link_db_texts.specs.Causes.{TellsCause}
use Rattle.link_resolve_rivals.specs.Settled.{clash_line}
use Rattle.link_rules.specs.Refusals.{duplicate_lines, unless_none}
use Rattle.link_db.specs.Database.{Database}
use Rattle.link_db.specs.Seen.{seen}
use Rattle.link_resolve.proofs.Telling.{lines-are, rest-is}
use Rattle.link_resolve.proofs.rivals.settle_rivals.Goals as goal

pub returns-in-Err-clause-cause : goal.returns-in-Err-clause-cause
returns-in-Err-clause-cause g c = λ demangle l is before.
    let symbols = is.stage.symbols ∙ ap (λ (d : Database g.row.P.Denot). symbols_in d.mapping.files.groups) (sym c.in_ok-plain.ensures.rest) in
    let objects = is.stage.objects ∙ ap (λ (d : Database g.row.P.Denot). objects_in d.mapping.files.groups) (sym c.in_ok-plain.ensures.rest) in
    let plain = ap (map (clash_line l.stage)) c.as_slice-3.ensures.value ∙ c.in_ok-plain.ensures.plain demangle l is before in
    let versioned = ap (map (clash_line l.stage)) c.as_slice-4.ensures.value ∙ c.in_ok-plain.ensures.versioned demangle l is before in
    let told : TellsCause (unless_none (duplicate_lines l)) c.refuse_duplicates.result =
    subst (λ lines. TellsCause (unless_none lines) c.refuse_duplicates.result) (lines-are l _ _ plain versioned) (c.refuse_duplicates.ensures l.stage symbols objects) in
    subst (λ r. TellsCause (unless_none (duplicate_lines l)) r) c.in-Err.is told

pub returns-clause-cause : goal.returns-clause-cause
returns-clause-cause g c = λ demangle l is before.
    let symbols = is.stage.symbols ∙ ap (λ (d : Database g.row.P.Denot). symbols_in d.mapping.files.groups) (sym c.in_ok-plain.ensures.rest) in
    let objects = is.stage.objects ∙ ap (λ (d : Database g.row.P.Denot). objects_in d.mapping.files.groups) (sym c.in_ok-plain.ensures.rest) in
    let plain = ap (map (clash_line l.stage)) c.as_slice-3.ensures.value ∙ c.in_ok-plain.ensures.plain demangle l is before in
    let versioned = ap (map (clash_line l.stage)) c.as_slice-4.ensures.value ∙ c.in_ok-plain.ensures.versioned demangle l is before in
    let told : TellsCause (unless_none (duplicate_lines l)) c.refuse_duplicates.result =
    subst (λ lines. TellsCause (unless_none lines) c.refuse_duplicates.result) (lines-are l _ _ plain versioned) (c.refuse_duplicates.ensures l.stage symbols objects) in
    subst (λ r. TellsCause (unless_none (duplicate_lines l)) r) c.in-Ok.is told

pub returns-clause-table : goal.returns-clause-table
returns-clause-table g c = λ demangle l is before.
    ap (λ (d : Database g.row.P.Denot). d.table) c.release_alternatives.ensures ∙ c.in_ok-plain.ensures.table demangle l is before

pub returns-clause-flags : goal.returns-clause-flags
returns-clause-flags g c = λ w symbols.
    c.narrow_names.ensures.flags w (symbols ∙ ap (λ (d : Database g.row.P.Denot). symbols_in d.mapping.files.groups) (sym c.in_ok-plain.ensures.rest))

pub returns-clause-rest : goal.returns-clause-rest
returns-clause-rest g c = rest-is (seen c.args.db.now) (seen c.settle_table.new.db) (seen c.release_alternatives.new.self) c.in_ok-plain.ensures.rest c.release_alternatives.ensures
