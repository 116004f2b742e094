-- A made-up link is not refused: no cause of a refusal holds of it.
use Rattle.std.proofs.Common.{◌≡◌, ℕ, ◌+◌, ◌≤◌, List, [], ◌∷◌, Bool, false, length, refl, sym, ◌∙◌, ap, inl, inr, arith, Some, None, Option}
use Rattle.std.specs.Prelude.{Ok, Err, MatchOption, if◌then◌else◌}
use Rattle.std.specs.List.{enumerate_from}
use Rattle.std.proofs.lemmas.List.FromFn.{length-map-range_with_len}
use Rattle.link_input.specs.Limits.{AreWithinLimits}
use Rattle.link_input.specs.ObjectFile.{ObjectFile}
use Rattle.link_input.specs.Symbols.{Symbol}
use Rattle.link_rules.specs.declared.refusal.LinkError.{LinkError}
use Rattle.link_rules.specs.declared.refusal.LinkError.TheVariants.{NoInputs}
use Rattle.link_rules.specs.Places.{first_of, is_empty}
use Rattle.link_rules.specs.World.{Stage, start_of, first_stage}
use Rattle.link_rules.specs.Selection.{Selection, selection_of}
use Rattle.link_rules.specs.Rivals.{plain_table}
use Rattle.link_rules.specs.Undefined.{Resolution, resolved}
use Rattle.link_rules.specs.Versions.{version_refusal, version_given, undeclared_version}
use Rattle.link_rules.specs.Refusals.{counts_at, batch_refusal, empty_refusal, group_refusal, duplicate_lines, late_refusal}
use Rattle.link_rules.specs.Answer.{End, BatchesEnd, IsLinked, IsRefused}
use Rattle.link_rules.specs.Linked.{Linked}
use Rattle.link_manifest_bulk.specs.Bulk.{bulk_object, bulk_objects}
use Rattle.link_manifest_bulk.specs.World.{bulk_world}
use Rattle.link_manifest_bulk.proofs.Single.{none_given}
use Rattle.link_manifest_bulk.proofs.Counted.{no-excess, all-sections, all-symbols}
use Rattle.link_manifest_bulk.proofs.Clashes.{IsBulk, no-groups, no-plain, no-versioned}

-- the stage at which its one batch is linked
abbrev bulk_stage : ℕ → Stage
bulk_stage members = first_stage (bulk_world members)

-- it has the objects and their symbols
stage-is : (members : ℕ) → IsBulk members (bulk_stage members)
stage-is members = record { options = refl; objects = refl; symbols = refl }

-- ---- before anything is loaded

-- its files are within the limits
within-limits : (members : ℕ) → members ≤ 100000 → AreWithinLimits (counts_at (bulk_stage members))
within-limits members few = record {
  objects = omega (arith, objects);
  scripts = omega arith;
  stubs = omega arith;
  sections = omega (arith, all-sections members 0 (members + 1));
  symbols = omega (arith, all-symbols members 0 (members + 1));
}
  where
    objects : length (bulk_objects members) ≡ members + 1
    objects = length-map-range_with_len (bulk_object members) 0 (members + 1)

-- there is an object
some-object : (members : ℕ) → empty_refusal (bulk_stage members) ≡ None
some-object members = by_objects (bulk_objects members) (length-map-range_with_len (bulk_object members) 0 (members + 1))
  where
    by_objects : (os : List ObjectFile) → length os ≡ members + 1 → (if is_empty os then Some NoInputs else None) ≡ None
    by_objects [] count = absurd (omega arith)
    by_objects (o ∷ os) count = refl

-- the batch is not refused
no-batch : (members : ℕ) → members ≤ 100000 → batch_refusal false (start_of (bulk_world members)) (bulk_world members).first ≡ None
no-batch members few = rw (no-excess (counts_at (bulk_stage members)) (within-limits members few), some-object members) refl

-- ---- at the end

-- whatever is loaded, no two definitions clash
no-lines : (members : ℕ) (marks : List Bool) → members ≤ 100000 → duplicate_lines (selection_of (bulk_stage members) marks) ≡ []
no-lines members marks few =
    let l : Selection = selection_of (bulk_stage members) marks in
    rw (no-plain members (bulk_stage members) marks few (stage-is members), no-versioned members (bulk_stage members) marks (plain_table l) (stage-is members)) refl

-- no version is asked for, since the output is not shared
no-version : (members : ℕ) (marks : List Bool) → version_refusal (resolved (selection_of (bulk_stage members) marks)) ≡ None
no-version members marks =
    let r : Resolution = resolved (selection_of (bulk_stage members) marks) in
    ap first_of (none_given (λ (s : ℕ × Symbol). undeclared_version (version_given r s)) (enumerate_from 0 (bulk_stage members).symbols) (λ q within. refl))

-- so there is no cause at the end
no-late : (members : ℕ) (marks : List Bool) → members ≤ 100000 → late_refusal (resolved (selection_of (bulk_stage members) marks)) ≡ None
no-late members marks few = rw (no-lines members marks few, no-version members marks) refl

-- ---- the whole link

-- what follows where no cause holds
goes-on : {A : Type 0} (cause : Option LinkError) (stops : LinkError → Type 0) → cause ≡ None → MatchOption cause A stops → A
goes-on None stops is it = it
goes-on (Some e) stops is it = absurd cc

-- equal outcomes are of equal selections
ok-same : (a b : Selection) → ◌≡◌ {A = End} (Ok a) (Ok b) → a ≡ b
ok-same a b is = cc

-- the link ends with what is selected
ends : (members : ℕ) (end : End) → members ≤ 100000 → BatchesEnd (bulk_world members) end → (marks : List Bool) × (end ≡ Ok (selection_of (bulk_stage members) marks))
ends members end few it =
    let batch = goes-on (batch_refusal false (start_of (bulk_world members)) (bulk_world members).first) (λ e. end ≡ Err e) (no-batch members few) it in
    (batch.0, goes-on (group_refusal (selection_of (bulk_stage members) batch.0)) (λ e. end ≡ Err e) (no-groups members (bulk_stage members) batch.0 (stage-is members)) batch.2)

-- the objects of what is selected are all that there are
pub last-objects : (members : ℕ) (linked : Linked) → members ≤ 100000 → (is : IsLinked (bulk_world members) linked) → is.last.stage.objects ≡ bulk_objects members
last-objects members linked few is =
    let it = ends members (Ok is.last) few is.ends in
    ap (λ (l : Selection). l.stage.objects) (ok-same is.last (selection_of (bulk_stage members) it.0) it.1)

-- so it is not refused
pub not-refused : (members : ℕ) (e : LinkError) → 1 ≤ members → members ≤ 100000 → IsRefused (bulk_world members) e → ⊥
not-refused members e some few (inl early) = let it = ends members (Err e) few early in let never = it.1 in cc
not-refused members e some few (inr late) =
    let it = ends members (Ok late.0) few late.1 in
    let same : late.0 ≡ selection_of (bulk_stage members) it.0 = ok-same late.0 (selection_of (bulk_stage members) it.0) it.1 in
    let never : None ≡ Some e = sym (no-late members it.0 few) ∙ ap (λ (l : Selection). late_refusal (resolved l)) (sym same) ∙ late.2 in
    cc
