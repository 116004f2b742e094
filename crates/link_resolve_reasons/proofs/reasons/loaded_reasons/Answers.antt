use Rattle.std.proofs.Common.{◌≡◌, ◌<◌, ◌∙◌, ℕ, List, Option, Some, Bool, [], length, sym, ap, subst, arith}
use Rattle.std.specs.List.{slice_get}
use Rattle.link_closure.proofs.Rows.{ok-along}
use Rattle.link_closure.specs.Graph.{IsEdge, IsMarked}
use Rattle.link_closure.specs.Levels.{AreLevels}
use Rattle.link_db_files.specs.GroupFiles.{symbols_in}
use Rattle.link_db_files.specs.Inputs.{objects_in}
use Rattle.link_input.specs.ObjectFile.{ObjectFile}
use Rattle.link_input.specs.Symbols.{Symbol}
use Rattle.link_resolve_requests.specs.Objects.{kept_marks}
use Rattle.link_rules.specs.declared.explanation.LoadedReason.{LoadedReason}
use Rattle.link_rules.specs.Reasons.{AreReasons}
use Rattle.link_resolve_reasons.specs.declared.requests.Request.{Request}
use Rattle.link_resolve_reasons.specs.Firsts.{first_place}
use Rattle.link_resolve_reasons.specs.Requests.{requests_in}
use Rattle.link_resolve_reasons.specs.Told.{KnownObjects, edges_in, reasons_in, root_keys, rooted_marks, step_keys}
use Rattle.link_resolve_reasons.proofs.Reasoned.{reasons-told}
use Rattle.link_resolve_reasons.proofs.reasons.loaded_reasons.Goals as goal

pub returns : goal.returns
returns g c =
    let mandatory : List Bool = c.in_ok-mandatory.mandatory.items in
    let first_roots : List (Option ℕ) = c.in_ok-first_roots.first_roots.items in
    let requests : List Request = c.in_ok-requests.requests.items in
    let levels : List (Option ℕ) = c.in_ok-levels.levels.items in
    let first_requests : List (Option ℕ) = c.in_ok-first_requests.first_requests.items in
    let known : KnownObjects = record { mandatory = mandatory; roots = c.args.roots.now; first_roots = first_roots; requests = requests; first_requests = first_requests } in
    let marked : mandatory ≡ kept_marks [] (objects_in c.args.files.now.groups) = c.in_ok-mandatory.ensures in
    let roots-at : (f : ℕ) → f < length mandatory → slice_get first_roots f ≡ Some (first_place (root_keys c.args.roots.now) f) =
    λ f lt. (rw (c.deref.ensures.value, c.in_ok-root_keys.ensures) at c.in_ok-first_roots.ensures.first) f (omega (arith, lt, c.len.ensures)) in
    let leveled : AreLevels (IsMarked (rooted_marks mandatory first_roots)) (IsEdge (edges_in (length (rooted_marks mandatory first_roots)) requests)) (length (rooted_marks mandatory first_roots)) levels =
    rw (c.deref-2.ensures.value, c.deref-3.ensures.value, c.deref-4.ensures.value) at c.in_ok-levels.ensures in
    let requests-at : (f : ℕ) → f < length mandatory → slice_get first_requests f ≡ Some (first_place (step_keys levels requests) f) =
    λ f lt. (rw (c.deref-7.ensures.value, c.in_ok-keys.ensures, c.deref-5.ensures.value, c.deref-6.ensures.value) at c.in_ok-first_requests.ensures.first) f (omega (arith, lt, c.len-2.ensures)) in
    ok-along c.reasons_of.result _ _
    (λ reasons is l tells.
    let told : reasons.items ≡ reasons_in known c.args.loaded.now =
    rw (c.deref-8.ensures.value, c.deref-9.ensures.value, c.deref-10.ensures.value, c.deref-11.ensures.value) at is in
    let own = reasons-told l c.args.roots.now tells.follows mandatory (marked ∙ ap (λ (os : List ObjectFile). kept_marks [] os) (sym tells.objects_are)) first_roots roots-at
    requests (c.in_ok-requests.ensures ∙ ap (λ (ts : List (Option ℕ)). requests_in ts (symbols_in c.args.files.now.groups)) (sym tells.targets_are) ∙ ap (λ (xs : List Symbol). requests_in l.targets xs) (sym tells.symbols_are))
    levels leveled first_requests requests-at in
    subst (λ (rs : List LoadedReason). AreReasons l c.args.roots.now rs) (sym told)
    (subst (λ (bs : List Bool). AreReasons l c.args.roots.now (reasons_in known bs)) tells.marks_are own))
    c.reasons_of.ensures
