use Rattle.std.proofs.Common.{◌≡◌, ◌<◌, ◌≤◌, ◌++◌, ◌∙◌, ℕ, Bool, List, drop, length, take, ap, sym, arith}
use Rattle.std.specs.Prelude.{◌||◌}
use Rattle.std.specs.List.{list_any}
use Rattle.std.proofs.lemmas.Grind.{common_steps}
use Rattle.link_closure.specs.Closure.{is_marked}
use Rattle.link_input.specs.ObjectFile.{ObjectFile}
use Rattle.link_input.specs.Symbols.{Symbol}
use Rattle.link_db_files.specs.GroupFiles.{symbols_in}
use Rattle.link_db_files.specs.HeldFiles.{HeldFiles}
use Rattle.link_db_files.specs.Inputs.{objects_in}
use Rattle.link_db_texts.specs.Holds.{platform_of}
use Rattle.link_rules.specs.Loading.{holds_name, root_names}
use Rattle.link_rules.specs.Places.{Bytes}
use Rattle.link_db.specs.Seen.{seen}
use Rattle.link_resolve_requests.specs.Objects.{is_kept, kept_marks}
use Rattle.link_db_files.specs.Sources.{sources_of}
use Rattle.link_db_symbols.proofs.Listed.{each-length}
use Rattle.link_resolve_requests.proofs.Rooted.{has-objects, roots-are}
use Rattle.link_resolve_requests.proofs.roots.root_objects.Goals as goal

pub returns-clause-each : goal.returns-clause-each
returns-clause-each g c =
    let earlier = c.args.loaded_before.now in
    let marks = c.mark_holders.new.marks in
    let kept : c.in_ok-roots.roots.items ≡ kept_marks earlier (objects_in (seen c.args.db.now).mapping.files.groups) =
    c.in_ok-roots.ensures ∙ ap (λ (h : HeldFiles g.row.P.Denot). kept_marks earlier (objects_in h.groups)) c.files.ensures in
    let same : take c.in_ok-roots.roots.len (marks ++ drop (length marks) c.in_ok-roots.roots.items) ≡ marks = grind (arith, common_steps, c.mark_holders.auto.marks) in
    let count : length marks ≡ length c.in_ok-roots.roots.items = grind (arith, common_steps, c.mark_holders.auto.marks) in
    ap (λ (l : List Bool). length l) same
    ∙ (count ∙ (ap (λ (l : List Bool). length l) kept ∙ each-length (is_kept earlier) 0 (objects_in (seen c.args.db.now).mapping.files.groups)))

pub returns-clause-roots : goal.returns-clause-roots
returns-clause-roots g c = λ demangle w at loaded f.
    let groups = (seen c.args.db.now).mapping.files.groups in
    let earlier = c.args.loaded_before.now in
    let old = c.deref_mut.result.now in
    let marks = c.mark_holders.new.marks in
    let sources : c.sources.result.now ≡ sources_of w.symbols = c.sources.ensures
    ∙ (ap (λ (h : HeldFiles g.row.P.Denot). sources_of (symbols_in h.groups)) c.files-2.ensures ∙ ap (λ (symbols : List Symbol). sources_of symbols) (sym at.symbols)) in
    let kept : old ≡ kept_marks w.earlier.loaded w.objects =
    c.deref_mut.ensures.value ∙ (c.in_ok-roots.ensures
    ∙ (ap (λ (h : HeldFiles g.row.P.Denot). kept_marks earlier (objects_in h.groups)) c.files.ensures
    ∙ (ap (λ (l : List Bool). kept_marks l (objects_in groups)) (sym loaded) ∙ ap (λ (objects : List ObjectFile). kept_marks w.earlier.loaded objects) (sym at.objects)))) in
    let few : length w.earlier.loaded ≤ length w.objects =
    omega (arith, c.requires.loaded, ap (λ (l : List Bool). length l) loaded, ap (λ (objects : List ObjectFile). length objects) at.objects) in
    let long : length marks ≡ length old = omega (arith, c.mark_holders.auto.marks) in
    let names = c.deref.ensures.value ∙ c.in_ok-names.ensures demangle w at in
    let marked : (k : ℕ) → k < length old → is_marked marks k ≡ (is_marked old k || list_any (holds_name w k) (root_names w)) =
    λ k lt. c.mark_holders.ensures demangle w at sources k lt ∙ ap (λ (l : List Bytes). is_marked old k || list_any (holds_name w k) l) names in
    let same : take c.in_ok-roots.roots.len (marks ++ drop (length marks) c.in_ok-roots.roots.items) ≡ marks = grind (arith, common_steps, c.mark_holders.auto.marks) in
    ap (λ (l : List Bool). is_marked l f) same
    ∙ roots-are w old marks (has-objects (platform_of g.P.Platform) demangle (seen c.args.db.now) w at) few kept long marked f
