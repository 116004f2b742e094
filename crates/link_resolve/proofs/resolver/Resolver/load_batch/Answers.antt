use Rattle.std.proofs.Common.{◌≡◌, ◌∙◌, Bool, Err, List, None, Option, ap, arith, length, refl, subst, sym}
use Rattle.std.specs.List.{filter_map}
use Rattle.link_db_files.specs.HeldFiles.{HeldFiles}
use Rattle.link_db_files.specs.Inputs.{objects_in}
use Rattle.link_rules.specs.Comdat.{loaded_regular}
use Rattle.link_rules.specs.Places.{first_of}
use Rattle.link_resolve_extraction.specs.Requests.{requests_of}
use Rattle.link_flags.specs.FlagWords.{numbers_of, words_of}
use Rattle.link_db_texts.specs.Causes.{TellsCause}
use Rattle.link_db_texts.specs.Holds.{platform_of}
use Rattle.link_rules.specs.Refusals.{empty_refusal, group_cause, group_refusal}
use Rattle.link_rules.specs.Selection.{selection_of}
use Rattle.link_rules.proofs.WorldOnce.{one-loaded}
use Rattle.link_resolve_extraction.proofs.AnswerFlags.{closed-length}
use Rattle.link_db.proofs.Causes.{neither, tells-other, tells-through}
use Rattle.link_db_symbols.specs.Lookups.{AreBelow}
use Rattle.link_resolve_extraction.specs.Answer.{AreFoundBelow}
use Rattle.link_resolve_extraction.specs.declared.found.FoundItem.{FoundItem}
use Rattle.link_db.specs.Database.{symbol_names}
use Rattle.link_db.specs.Seen.{seen}
use Rattle.link_resolve.specs.Resolving.{Resolving}
use Rattle.link_resolve.proofs.Loaded.{is-loaded-selection, not-empty, opened, read-as}
use Rattle.link_resolve.proofs.Reading.{marked-at, requests-at, work-at}
use Rattle.link_resolve.proofs.resolver.Resolver.load_batch.Goals as goal

-- a section of a newly loaded object that is a member twice
pub returns-in_err-check_groups-clause-cause : goal.returns-in_err-check_groups-clause-cause
returns-in_err-check_groups-clause-cause g c = λ demangle w at marks loaded fine.
    let is = opened c.self.view_is at in
    let objects = is.stage.objects ∙ ap (λ (f : HeldFiles g.row.P.Denot). objects_in f.groups) (sym c.files.ensures) in
    let same : c.deref.result.now ≡ marks = c.deref.ensures.value ∙ one-loaded w _ marks (c.in_ok-found.ensures.loaded demangle w is) loaded in
    let earlier = is.loaded ∙ sym c.loaded.ensures in
    let e = c.in_err-check_groups.field-0.0 in
    let told : TellsCause {A = Unit {0}} (group_refusal (selection_of w marks)) (Err e) =
    subst (λ (ms : List Bool). TellsCause {A = Unit {0}} (first_of (filter_map group_cause (loaded_regular w ms))) (Err e)) same (c.in_err-check_groups.ensures.cause w objects earlier fine) in
    tells-through _ _ e c.from_residual-in_err-check_groups.result c.from_residual-in_err-check_groups.ensures.0 c.from_residual-in_err-check_groups.ensures.1
    (tells-other (Unit {0}) (Unit {0}) (empty_refusal w) (group_refusal (selection_of w marks)) e
    (not-empty w c.num_regular_objects.result (c.num_regular_objects.ensures ∙ ap length (sym is.stage.objects)) (omega (arith, c.if-num_regular_objects-eq0.false))) told)

-- neither cause
pub returns-clause-cause : goal.returns-clause-cause
returns-clause-cause g c = λ demangle w at marks loaded fine.
    let is = opened c.self.view_is at in
    let objects = is.stage.objects ∙ ap (λ (f : HeldFiles g.row.P.Denot). objects_in f.groups) (sym c.files.ensures) in
    let same : c.deref.result.now ≡ marks = c.deref.ensures.value ∙ one-loaded w _ marks (c.in_ok-found.ensures.loaded demangle w is) loaded in
    let earlier = is.loaded ∙ sym c.loaded.ensures in
    neither (empty_refusal w) (group_refusal (selection_of w marks))
    (not-empty w c.num_regular_objects.result (c.num_regular_objects.ensures ∙ ap length (sym is.stage.objects)) (omega (arith, c.if-num_regular_objects-eq0.false)))
    (subst (λ (ms : List Bool). first_of (filter_map group_cause (loaded_regular w ms)) ≡ None) same (c.in_ok-check_groups.ensures.cause w objects earlier fine))

pub returns-clause-selection : goal.returns-clause-selection
returns-clause-selection g c = λ demangle w at marks loaded.
    let is = opened c.self.view_is at in
    let db = seen c.args.db.now in
    let found = c.in_ok-found.found in
    let known = c.add_batch.new.self in
    let read = read-as c.num_symbols-symbols.result (length (symbol_names db)) c.self.inside.resolved.targets c.self.inside.resolved.targets c.deref-2.result.now found.found.items known.targets
    c.num_symbols-symbols.ensures.value refl c.deref-2.ensures.value c.in_ok-add_batch.ensures.targets in
    is-loaded-selection (platform_of g.P.Platform) demangle db w marks found.loaded.items known.targets known.strengths known is.stage
    (c.in_ok-found.ensures.loaded demangle w is) loaded (c.in_ok-found.ensures.targets demangle w is known.targets read)
    (ap (λ (ms : List Bool). record known { marks = ms }) c.in_ok-add_batch.ensures.marks)

-- all of them are symbols
pub returns-clause-targets : goal.returns-clause-targets
returns-clause-targets g c =
    let n = length (symbol_names (seen c.args.db.now)) in
    let found = subst (λ (fs : List (Option FoundItem)). AreFoundBelow n fs) (sym c.deref-2.ensures.value) c.in_ok-found.ensures.below in
    c.in_ok-add_batch.ensures.below n (subst (λ (r : Resolving). AreBelow n r.known.targets) (sym c.self.view_is) c.requires.targets) found

-- the flags are the words' own
pub returns-clause-marked : goal.returns-clause-marked
returns-clause-marked g c = λ demangle w at marks loaded.
    marked-at (platform_of g.P.Platform) demangle (seen c.args.db.now) _ w (numbers_of (words_of c.args.flags.now)) (numbers_of (words_of c.write_flags.new.flags)) c.args.workers c.in_ok-found.found.loaded.items marks
    c.in_ok-found.found.read c.requires.listed.added (opened c.self.view_is at) loaded c.in_ok-found.ensures.read c.write_flags.ensures.flags

pub returns-clause-work : goal.returns-clause-work
returns-clause-work g c = λ demangle w at held.
    work-at (platform_of g.P.Platform) demangle (seen c.args.db.now) _ w (numbers_of (words_of c.args.flags.now)) c.args.workers c.in_ok-found.found.loaded.items
    c.in_ok-found.found.read c.requires.listed.added (opened c.self.view_is at) c.in_ok-found.ensures.read held

pub returns-clause-flags : goal.returns-clause-flags
returns-clause-flags g c = closed-length c.in_ok-found.found.read.closed (words_of c.args.flags.now) (words_of c.write_flags.new.flags) c.write_flags.ensures.flags

pub returns-clause-requests : goal.returns-clause-requests
returns-clause-requests g c = λ demangle w at marks loaded.
    let is = opened c.self.view_is at in
    let found = c.in_ok-found.found in
    requests-at (platform_of g.P.Platform) demangle (seen c.args.db.now) _ w (numbers_of (words_of c.args.flags.now)) c.args.workers found.loaded.items marks
    found.read is (one-loaded w found.loaded.items marks (c.in_ok-found.ensures.loaded demangle w is) loaded) c.in_ok-found.ensures.read

pub returns-clause-counted : goal.returns-clause-counted
returns-clause-counted g c =
    let found = c.in_ok-found.found in
    let counted = c.in_ok-found.ensures.read.counted in
    record {
      requests = counted.requests ∙ ap (λ (ms : List Bool). requests_of found.read.closed.view.work ms) (sym c.in_ok-add_batch.ensures.marks);
      readers = counted.readers;
    }

pub returns-clause-read : goal.returns-clause-read
returns-clause-read g c = c.in_ok-found.ensures.read.all
