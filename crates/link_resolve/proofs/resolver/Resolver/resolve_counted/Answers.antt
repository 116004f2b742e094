use Rattle.std.proofs.Common.{◌∙◌, Err, ap, arith, length, sym}
use Rattle.link_flags.specs.FlagWords.{numbers_of, words_of}
use Rattle.link_db_texts.specs.Causes.{TellsCause}
use Rattle.link_db_texts.specs.Holds.{platform_of}
use Rattle.link_rules.specs.Refusals.{empty_refusal, group_refusal}
use Rattle.link_rules.specs.Selection.{selection_of}
use Rattle.link_resolve_extraction.proofs.AnswerFlags.{closed-length}
use Rattle.link_db.proofs.Causes.{neither, tells-other, tells-through}
use Rattle.link_db.specs.Database.{Database}
use Rattle.link_db.specs.Seen.{seen}
use Rattle.link_resolve.specs.Known.{Known}
use Rattle.link_resolve.proofs.Loaded.{is-pointed, is-selection, loaded-of, not-empty, opened}
use Rattle.link_resolve.proofs.Reading.{marked-at, requests-at, work-at}
use Rattle.link_resolve.proofs.resolver.Resolver.resolve_counted.Goals as goal

-- the groups of a loaded object
pub returns-in_err-resolved-clause-cause : goal.returns-in_err-resolved-clause-cause
returns-in_err-resolved-clause-cause g c = λ demangle w at marks loaded.
    let is = opened c.self.view_is at in
    let e = c.in_err-resolved.field-0.0 in
    let told : TellsCause {A = Unit {0}} (group_refusal (selection_of w marks)) (Err e) = c.in_err-resolved.ensures.cause demangle w is marks loaded in
    tells-through _ _ e c.from_residual.result c.from_residual.ensures.0 c.from_residual.ensures.1
    (tells-other (Unit {0}) (Unit {0}) (empty_refusal w) (group_refusal (selection_of w marks)) e
    (not-empty w c.num_regular_objects.result (c.num_regular_objects.ensures ∙ ap length (sym is.stage.objects)) (omega (arith, c.if-num_regular_objects-eq0.false))) told)

-- neither cause
pub returns-clause-cause : goal.returns-clause-cause
returns-clause-cause g c = λ demangle w at marks loaded.
    let is = opened c.self.view_is at in
    neither (empty_refusal w) (group_refusal (selection_of w marks))
    (not-empty w c.num_regular_objects.result (c.num_regular_objects.ensures ∙ ap length (sym is.stage.objects)) (omega (arith, c.if-num_regular_objects-eq0.false))) (c.in_ok-resolved.ensures.cause demangle w is marks loaded)

pub returns-clause-pointed : goal.returns-clause-pointed
returns-clause-pointed g c = λ demangle w at marks loaded.
    let is = opened c.self.view_is at in
    let platform = platform_of g.P.Platform in
    let db = seen c.args.db.now in
    let left = seen c.restore_definitions.new.self in
    let known = c.in_ok-resolved.ensures.known demangle w is marks loaded in
    let own = is-selection platform demangle db db w marks _ (λ i. db.mapping) (λ i. db.options) (λ i. db.rules) is.stage known in
    record {
      selection = is-selection platform demangle db left w marks _ (ap (λ (d : Database g.row.P.Denot). d.mapping) c.restore_definitions.ensures)
          (ap (λ (d : Database g.row.P.Denot). d.options) c.restore_definitions.ensures) (ap (λ (d : Database g.row.P.Denot). d.rules) c.restore_definitions.ensures) is.stage known;
      groups = c.in_ok-resolved.ensures.groups demangle w is marks loaded;
      table = ap (λ (d : Database g.row.P.Denot). d.table) c.restore_definitions.ensures ∙ c.in_ok-table.ensures.table demangle (selection_of w marks) (loaded-of _ demangle db _ (selection_of w marks) own);
    }

-- the flags are the words' own
pub returns-clause-marked : goal.returns-clause-marked
returns-clause-marked g c = λ demangle w at marks loaded.
    marked-at (platform_of g.P.Platform) demangle (seen c.args.db.now) _ w (numbers_of (words_of c.args.flags.now)) (numbers_of (words_of c.write_flags.new.flags)) c.args.workers c.in_ok-resolved.resolved.marks marks
    c.in_ok-resolved.read c.requires.listed.added (opened c.self.view_is at) loaded c.in_ok-resolved.ensures.read c.write_flags.ensures.flags

pub returns-clause-work : goal.returns-clause-work
returns-clause-work g c = λ demangle w at held.
    work-at (platform_of g.P.Platform) demangle (seen c.args.db.now) _ w (numbers_of (words_of c.args.flags.now)) c.args.workers c.in_ok-resolved.resolved.marks
    c.in_ok-resolved.read c.requires.listed.added (opened c.self.view_is at) c.in_ok-resolved.ensures.read held

pub returns-clause-flags : goal.returns-clause-flags
returns-clause-flags g c = closed-length c.in_ok-resolved.read.closed (words_of c.args.flags.now) (words_of c.write_flags.new.flags) c.write_flags.ensures.flags

pub returns-clause-requests : goal.returns-clause-requests
returns-clause-requests g c = λ demangle w at marks loaded.
    let is = opened c.self.view_is at in
    requests-at (platform_of g.P.Platform) demangle (seen c.args.db.now) _ w (numbers_of (words_of c.args.flags.now)) c.args.workers c.in_ok-resolved.resolved.marks marks
    c.in_ok-resolved.read is (ap (λ (k : Known). k.marks) (c.in_ok-resolved.ensures.known demangle w is marks loaded)) c.in_ok-resolved.ensures.read

pub returns-clause-counted : goal.returns-clause-counted
returns-clause-counted g c = c.in_ok-resolved.ensures.read.counted

pub returns-clause-read : goal.returns-clause-read
returns-clause-read g c = c.in_ok-resolved.ensures.read.all

pub returns-clause-database : goal.returns-clause-database
returns-clause-database g c =
    is-pointed (seen c.args.db.now) (seen c.restore_definitions.new.self) c.in_ok-table.table.items c.in_ok-resolved.resolved c.restore_definitions.ensures c.in_ok-table.ensures.whole
    c.in_ok-resolved.ensures.below c.in_ok-resolved.ensures.strengths
