use Rattle.std.proofs.Common.{◌≡◌, List, ◌++◌, get_or, sym, subst}
use Rattle.std.proofs.lemmas.List.{take_all}
use Rattle.link_script.specs.ExportList.{IsListOf}
use Rattle.link_db_texts.specs.Holds.{forced_entries}
use Rattle.link_rules.specs.Places.{Bytes}
use Rattle.link_db_texts.proofs.Forced.{refused_at, cause_kept, next_list}
use Rattle.link_db_texts.proofs.reading.add_forced.Goals as goal

pub returns-in-Err-clause-cause : goal.returns-in-Err-clause-cause
returns-in-Err-clause-cause c =
    let is = subst (λ (n : Bytes). n ≡ get_or c.args.forced.now c.loop-i.i n) (sym c.as_slice.ensures) c.index-forced-i.is in
    refused_at c.args.forced.now c.loop-i.i c.as_slice.result.now c.in-Err.fault c.error_of.result c.loop-i-test.true is
    c.loop-i.invariant.cause c.in-Err.ensures.refused c.error_of.ensures

pub loop-i-preserved : goal.loop-i-preserved
loop-i-preserved c =
    let is = subst (λ (n : Bytes). n ≡ get_or c.args.forced.now c.loop-i.i n) (sym c.as_slice.ensures) c.index-forced-i.is in
    let added = c.in_default.ensures.added in
    record {
      cause = cause_kept c.args.forced.now c.loop-i.i c.as_slice.result.now added.0 c.loop-i-test.true is c.loop-i.invariant.cause added.1;
      added = λ entries required first. next_list c.args.forced.now c.loop-i.i c.as_slice.result.now entries required _ _ c.loop-i-test.true (sym is)
          (c.loop-i.invariant.added entries required first) added;
    }

pub returns-clause-added : goal.returns-clause-added
returns-clause-added c = λ entries required first.
    subst (λ (forced : List Bytes). IsListOf (entries ++ forced_entries forced) required c.loop-i.list) (take_all c.loop-i.i c.args.forced.now c.loop-i-test.false)
    (c.loop-i.invariant.added entries required first)
