use Rattle.std.proofs.Common.{◌≡◌, ◌∙◌, ap, subst, sym}
use Rattle.link_db_buckets.proofs.Releasing.{all_written}
use Rattle.link_db_texts.specs.Holds.{platform_of}
use Rattle.link_rules.specs.Rivals.{reference_table}
use Rattle.link_db.specs.Database.{Database}
use Rattle.link_db.specs.Seen.{seen}
use Rattle.link_resolve.proofs.Telling.{untabled}
use Rattle.link_resolve.specs.Known.{IsSelection}
use Rattle.link_resolve.proofs.rivals.settle_table.Goals as goal

pub returns-clause-table : goal.returns-clause-table
returns-clause-table g c = λ demangle l is before.
    let platform = platform_of g.P.Platform in
    let taken : IsSelection platform demangle (seen c.take_definitions-table.new.self) c.args.resolved.now l =
    subst (λ (d : Database g.row.P.Denot). IsSelection platform demangle d c.args.resolved.now l) (sym c.take_definitions-table.ensures.rest)
    (untabled platform demangle (seen c.args.db.now) c.args.resolved.now l is) in
    let held : c.as_mut_slice.result.now ≡ reference_table l = c.as_mut_slice.ensures.value ∙ c.take_definitions-table.ensures.taken ∙ before in
    let written = all_written _ c.settle_names.new.table c.as_mut_slice.result.now c.take_definitions-table.result.items c.take_definitions-table.result.ok.0 c.as_mut_slice.ensures.value c.settle_names.auto.table in
    ap (λ (d : Database g.row.P.Denot). d.table) c.restore_definitions.ensures ∙ written ∙ c.in_ok-plain.ensures.table demangle l taken held

pub returns-clause-plain : goal.returns-clause-plain
returns-clause-plain g c = λ demangle l is before.
    let platform = platform_of g.P.Platform in
    let taken : IsSelection platform demangle (seen c.take_definitions-table.new.self) c.args.resolved.now l =
    subst (λ (d : Database g.row.P.Denot). IsSelection platform demangle d c.args.resolved.now l) (sym c.take_definitions-table.ensures.rest)
    (untabled platform demangle (seen c.args.db.now) c.args.resolved.now l is) in
    let held : c.as_mut_slice.result.now ≡ reference_table l = c.as_mut_slice.ensures.value ∙ c.take_definitions-table.ensures.taken ∙ before in
    c.in_ok-plain.ensures.plain demangle l taken held

pub returns-clause-versioned : goal.returns-clause-versioned
returns-clause-versioned g c = λ demangle l is before.
    let platform = platform_of g.P.Platform in
    let taken : IsSelection platform demangle (seen c.take_definitions-table.new.self) c.args.resolved.now l =
    subst (λ (d : Database g.row.P.Denot). IsSelection platform demangle d c.args.resolved.now l) (sym c.take_definitions-table.ensures.rest)
    (untabled platform demangle (seen c.args.db.now) c.args.resolved.now l is) in
    let held : c.as_mut_slice.result.now ≡ reference_table l = c.as_mut_slice.ensures.value ∙ c.take_definitions-table.ensures.taken ∙ before in
    c.in_ok-plain.ensures.versioned demangle l taken held
