-- What is due is written, unless a fault comes between or memory runs out.
use Rattle.std.proofs.Common.{◌≡◌, ◌⊎◌, ℕ, inl, inr, Bool, List, [], ◌∷◌, ◌++◌, Option, Some, None, IsSome, Result, Ok, Err, codes, refl, sym, ◌∙◌, subst, ap}
use Rattle.link_rules.specs.Places.{Bytes}
use Rattle.std.specs.Prelude.{decimal}
use Rattle.link_manifest_bulk.specs.Bulk.{bulk_objects}
use Rattle.link_manifest_bulk.specs.World.{bulk_world}
use Rattle.link_check.proofs.OneVerdict.{one-verdict}
use Rattle.link_check_claims.specs.declared.claim.Claim.{Claim}
use Rattle.link_check_texts.specs.Causes.{opening_refusal}
use Rattle.link_closure.proofs.Least.{one-least}
use Rattle.link_gc_sections.specs.LiveSections.{AreLive, IsRootNumber, KeepsNumber, section_count}
use Rattle.link_gc_sections.specs.SectionText.{section_text}
use Rattle.link_input.specs.InputFiles.{Batch}
use Rattle.link_rules.specs.declared.refusal.LinkError.{LinkError}
use Rattle.link_rules.specs.Linked.{Linked as Answer}
use Rattle.link_rules.specs.declared.explanation.Explanation.{Explanation}
use Rattle.link_rules.specs.Answer.{IsLinked, IsRefused, IsReport, IsRefusalText}
use Rattle.link_rules.specs.Explained.{Explains}
use Rattle.link_rules.specs.FoundRoots.{found_roots}
use Rattle.link_rules.specs.Selection.{Selection}
use Rattle.link_rules.specs.Undefined.{Resolution, resolved}
use Rattle.link_rules.specs.World.{Stage, World, start_of}
use Rattle.link_rules.proofs.AllRoots.{passes-once}
use Rattle.link_rules.proofs.Explaining.{one-explanation}
use Rattle.link_rules.proofs.WorldOnce.{one-last, one-linked, one-report, one-refusal_text, not-both}
use Rattle.link_manifest.specs.declared.fault.ManifestFault.{ManifestFault}
use Rattle.link_manifest.specs.declared.manifest.Manifest.{Manifest as Described}
use Rattle.link_manifest.specs.FaultText.{fault_text}
use Rattle.link_manifest.specs.Manifest.{manifest_of}
use Rattle.link_program.specs.declared.command.Command.TheVariants.{Bulk}
use Rattle.link_program.specs.declared.run.Reading.{Reading}
use Rattle.link_program.specs.declared.run.Reading.TheVariants as asked
use Rattle.link_program.specs.declared.status.Status.{Status}
use Rattle.link_program.specs.declared.status.Status.TheVariants.{Linked, Refused, Usage, Manifest, ReadFault, WriteFault, Memory, Fails}
use Rattle.link_program.specs.Grammar.{IsBulk, IsNoCommand, IsReading, ReadsManifest, command_read}
use Rattle.link_program.specs.Described.{error_line, world_of_manifest}
use Rattle.link_program.specs.Outcome.{IsDue, IsReadText, IsSummary, IsSummaryFor, IsTextFor, IsTextOf, IsTextRead, IsWholeText, text_read}
use Rattle.link_program.specs.Gc.{IsGcReport}
use Rattle.link_program.specs.Check.{IsCheckOf, IsJudged, IsOfBatches, IsOfClaim, IsOfManifest, verdict_ending}
use Rattle.link_program.specs.Verdef.{IsVerdefOf}
use Rattle.link_program.specs.Why.{IsWhyReport}
use Rattle.link_report.specs.Summary.{summary_text}
use Rattle.link_report.specs.Why.{name_at, version_at, why_text}
use Rattle.link_program.proofs.Numerals.{decimal-one}

ok-inj : {X E : Type 0} (r : Result X E) (x y : X) → r ≡ Ok x → r ≡ Ok y → x ≡ y
ok-inj r x y is is' = cc

err-inj : {X E : Type 0} (r : Result X E) (x y : E) → r ≡ Err x → r ≡ Err y → x ≡ y
err-inj r x y is is' = cc

ok-not_err : {X E : Type 0} (r : Result X E) (x : X) (e : E) → r ≡ Ok x → r ≡ Err e → ⊥
ok-not_err r x e is is' = cc

same-manifest : (bytes : Bytes) (m n : Described) → manifest_of bytes ≡ Ok m → manifest_of bytes ≡ Ok n → m ≡ n
same-manifest bytes m n reads reads' = ok-inj (manifest_of bytes) m n reads reads'

-- what is told of a link that isn't refused
module _ (IsTold : World → Bytes → Type 0) (one : (w : World) (a b : Bytes) → IsTold w a → IsTold w b → a ≡ b) (answered : (w : World) (a : Bytes) → IsTold w a → (linked : Answer) × IsLinked w linked) where
  told-one : (bytes a b : Bytes) → IsTextOf IsTold bytes Linked a → IsTextOf IsTold bytes Linked b → a ≡ b
  told-one bytes a b (m, is, held) (n, is', held') =
      one (world_of_manifest m) a b held (subst (λ (k : Described). IsTold (world_of_manifest k) b) (same-manifest bytes n m is' is) held')

  refusal-one : (bytes a b : Bytes) → IsTextOf IsTold bytes Refused a → IsTextOf IsTold bytes Refused b → a ≡ b
  refusal-one bytes a b (m, cause, is, told, line) (n, cause', is', told', line') =
      let same = subst (λ (k : Described). IsRefusalText (world_of_manifest k) cause') (same-manifest bytes n m is' is) told' in
      line ∙ ap error_line (one-refusal_text (world_of_manifest m) cause cause' told same) ∙ sym line'

  fault-one : (bytes a b : Bytes) → IsTextOf IsTold bytes Manifest a → IsTextOf IsTold bytes Manifest b → a ≡ b
  fault-one bytes a b (fault, fails, line) (fault', fails', line') =
      line ∙ ap (λ (f : ManifestFault). error_line (codes "manifest: " ++ fault_text f)) (err-inj (manifest_of bytes) fault fault' fails fails') ∙ sym line'

  linked-not_refused : (bytes a b : Bytes) → IsTextOf IsTold bytes Linked a → IsTextOf IsTold bytes Refused b → ⊥
  linked-not_refused bytes a b (m, is, held) (n, cause, is', (error, refused, told), line) =
      let it = answered (world_of_manifest m) a held in
      not-both (world_of_manifest m) it.0 error it.1 (subst (λ (k : Described). IsRefused (world_of_manifest k) error) (same-manifest bytes n m is' is) refused)

  linked-reads : (bytes a b : Bytes) → IsTextOf IsTold bytes Linked a → IsTextOf IsTold bytes Manifest b → ⊥
  linked-reads bytes a b (m, reads, held) (fault, fails, line) = ok-not_err (manifest_of bytes) m fault reads fails

  refused-reads : (bytes a b : Bytes) → IsTextOf IsTold bytes Refused a → IsTextOf IsTold bytes Manifest b → ⊥
  refused-reads bytes a b (m, cause, reads, held, line) (fault, fails, line') = ok-not_err (manifest_of bytes) m fault reads fails

  -- some bytes have one status and one text
  one-text : (bytes : Bytes) (s t : Status) (a b : Bytes) → IsTextOf IsTold bytes s a → IsTextOf IsTold bytes t b → (s ≡ t) × (a ≡ b)
  one-text bytes Linked Linked a b held held' = (refl, told-one bytes a b held held')
  one-text bytes Linked Refused a b held held' = absurd (linked-not_refused bytes a b held held')
  one-text bytes Linked Manifest a b held held' = absurd (linked-reads bytes a b held held')
  one-text bytes Refused Linked a b held held' = absurd (linked-not_refused bytes b a held' held)
  one-text bytes Refused Refused a b held held' = (refl, refusal-one bytes a b held held')
  one-text bytes Refused Manifest a b held held' = absurd (refused-reads bytes a b held held')
  one-text bytes Manifest Linked a b held held' = absurd (linked-reads bytes b a held' held)
  one-text bytes Manifest Refused a b held held' = absurd (refused-reads bytes b a held' held)
  one-text bytes Manifest Manifest a b held held' = (refl, fault-one bytes a b held held')
  one-text bytes Usage t a b held held' = absurd held
  one-text bytes ReadFault t a b held held' = absurd held
  one-text bytes WriteFault t a b held held' = absurd held
  one-text bytes Memory t a b held held' = absurd held
  one-text bytes Fails t a b held held' = absurd held
  one-text bytes Linked Usage a b held held' = absurd held'
  one-text bytes Linked ReadFault a b held held' = absurd held'
  one-text bytes Linked WriteFault a b held held' = absurd held'
  one-text bytes Linked Memory a b held held' = absurd held'
  one-text bytes Linked Fails a b held held' = absurd held'
  one-text bytes Refused Usage a b held held' = absurd held'
  one-text bytes Refused ReadFault a b held held' = absurd held'
  one-text bytes Refused WriteFault a b held held' = absurd held'
  one-text bytes Refused Memory a b held held' = absurd held'
  one-text bytes Refused Fails a b held held' = absurd held'
  one-text bytes Manifest Usage a b held held' = absurd held'
  one-text bytes Manifest ReadFault a b held held' = absurd held'
  one-text bytes Manifest WriteFault a b held held' = absurd held'
  one-text bytes Manifest Memory a b held held' = absurd held'
  one-text bytes Manifest Fails a b held held' = absurd held'

-- a link has one explanation, and so one text of it
why-one : (w : World) (a b : Bytes) → IsWhyReport w a → IsWhyReport w b → a ≡ b
why-one w a b (linked, done, (ws, l, e, passes, is, line)) (linked', done', (vs, k, e', passes', is', line')) =
    let same = passes-once (start_of w) w.first w.later ws vs l k passes passes' in
    let explained = subst (λ (x : Selection). Explains x (found_roots ws x.stage) e') (sym same.1) (subst (λ (xs : List Stage). Explains k (found_roots xs k.stage) e') (sym same.0) is') in
    let one = one-explanation l (found_roots ws l.stage) e e' is explained in
    let text : Selection → Explanation → Bytes = λ x y. why_text (name_at x.stage.symbols) (version_at x.stage.symbols) y in
    line ∙ (ap (text l) one ∙ (ap (λ (x : Selection). text x e') same.1 ∙ sym line'))

-- the live sections of a link are one set, and so there is one text of them
gc-one : (w : World) (a b : Bytes) → IsGcReport w a → IsGcReport w b → a ≡ b
gc-one w a b (linked, done, (l, live, ends, first, line)) (linked', done', (k, live', ends', second, line')) =
    let same = one-last w l k ends ends' in
    let r : Resolution = resolved k in
    let one = one-least (IsRootNumber r) (KeepsNumber r) (section_count r.selection.stage) live live' (subst (λ (x : Selection). AreLive (resolved x) live) same first) second in
    line ∙ (ap (λ (x : Selection). section_text x live) same ∙ (ap (λ (marks : List Bool). section_text k marks) one ∙ sym line'))

-- and end `verdef` in one way
one-verdef : (bytes : Bytes) (s t : Status) (a b : Bytes) → IsVerdefOf bytes s a → IsVerdefOf bytes t b → (s ≡ t) × (a ≡ b)
one-verdef bytes s t a b held held' =
    let same : (s, a) ≡ (t, b) = sym held ∙ held' in
    (ap (λ (ending : Status × Bytes). ending.0) same, ap (λ (ending : Status × Bytes). ending.1) same)

judged-one : (w : World) (claim : Claim) (cause : Option LinkError) (e d : Status × Bytes) → IsJudged w claim cause e → IsJudged w claim cause d → e ≡ d
judged-one w claim None e d (verdict, is, ends) (verdict', is', ends') = ends ∙ ap verdict_ending (one-verdict w claim verdict verdict' is is') ∙ sym ends'
judged-one w claim (Some error) e d ends ends' = ends ∙ sym ends'

batches-one : (w : World) (claim : Claim) (later : List Batch) (e d : Status × Bytes) → IsOfBatches w claim later e → IsOfBatches w claim later d → e ≡ d
batches-one w claim [] e d held held' = judged-one w claim (opening_refusal w) e d held held'
batches-one w claim (b ∷ bs) e d ends ends' = ends ∙ sym ends'

claim-one : (w : World) (claim : Option Claim) (e d : Status × Bytes) → IsOfClaim w claim e → IsOfClaim w claim d → e ≡ d
claim-one w None e d ends ends' = ends ∙ sym ends'
claim-one w (Some claim) e d held held' = batches-one w claim w.later e d held held'

manifest-one : (m : Result Described ManifestFault) (e d : Status × Bytes) → IsOfManifest m e → IsOfManifest m d → e ≡ d
manifest-one (Err fault) e d ends ends' = ends ∙ sym ends'
manifest-one (Ok m) e d held held' = claim-one (world_of_manifest m) m.claim e d held held'

-- and end `check` in one way
one-check : (bytes : Bytes) (s t : Status) (a b : Bytes) → IsCheckOf bytes s a → IsCheckOf bytes t b → (s ≡ t) × (a ≡ b)
one-check bytes s t a b held held' =
    let same : (s, a) ≡ (t, b) = manifest-one (manifest_of bytes) (s, a) (t, b) held held' in
    (ap (λ (ending : Status × Bytes). ending.0) same, ap (λ (ending : Status × Bytes). ending.1) same)

-- what is said of bytes has one status and one text
abbrev IsOne : (Bytes → Status → Bytes → Type 0) → Type 0
IsOne IsOf = (bytes : Bytes) (s t : Status) (a b : Bytes) → IsOf bytes s a → IsOf bytes t b → (s ≡ t) × (a ≡ b)

-- so has a source that tells what it has left
whole-text : (IsOf : Bytes → Status → Bytes → Type 0) → IsOne IsOf → (left : Option Bytes) (s t : Status) (a b : Bytes) → IsSome left
    → IsWholeText IsOf left s a → IsWholeText IsOf left t b → (s ≡ t) × (a ≡ b)
whole-text IsOf one None s t a b tells held held' = absurd (cc)
whole-text IsOf one (Some all) s t a b tells (bytes, are, held) (bytes', are', held') =
    one all s t a b (subst (λ (bs : Bytes). IsOf bs s a) (sym are) held) (subst (λ (bs : Bytes). IsOf bs t b) (sym are') held')

-- what didn't fail was read whole
read-whole : (IsOf : Bytes → Status → Bytes → Type 0) (left : Option Bytes) (s : Status) (text : Bytes) → (s ≡ ReadFault → ⊥) → IsReadText IsOf left s text → IsWholeText IsOf left s text
read-whole IsOf left Linked text no_fault held = held
read-whole IsOf left Refused text no_fault held = held
read-whole IsOf left Manifest text no_fault held = held
read-whole IsOf left Fails text no_fault held = held
read-whole IsOf left ReadFault text no_fault held = absurd (no_fault refl)
read-whole IsOf left Usage text no_fault held = absurd held
read-whole IsOf left WriteFault text no_fault held = absurd held
read-whole IsOf left Memory text no_fault held = absurd held

-- ---- links of made-up worlds

-- the words write one number of members
members-one : (words : List Bytes) (m n : ℕ) → IsBulk words m → IsBulk words n → m ≡ n
members-one words m n (workers, (is, some)) (workers', (is', some')) =
    let same : decimal m ≡ decimal n = cc in
    decimal-one m n some.0.1 some'.0.1 same

-- a link of a made-up world has one summary
summary-one : (words : List Bytes) (a b : Bytes) → IsSummaryFor words a → IsSummaryFor words b → a ≡ b
summary-one words a b (m, is, (linked, done, shown)) (n, is', held') =
    let same : n ≡ m = members-one words n m is' is in
    let (linked', done', shown') = subst (λ k. IsSummary k b) same held' in
    shown ∙ (ap (λ (l : Answer). summary_text m (bulk_objects m) l) (one-linked (bulk_world m) linked linked' done done') ∙ sym shown')

-- ---- words

reads-is_command : (words : List Bytes) → ReadsManifest words → IsNoCommand words → ⊥
reads-is_command words (reading, is) none = none (command_read reading) is

bulk-is_command : (words : List Bytes) (n : ℕ) → IsBulk words n → IsNoCommand words → ⊥
bulk-is_command words n (workers, is) none = none (Bulk n workers) is

reads-not_bulk : (words : List Bytes) (n : ℕ) → ReadsManifest words → IsBulk words n → ⊥
reads-not_bulk words n (asked.Link w, is) (workers', is') = let same = is.0 in let same' = is'.0 in cc
reads-not_bulk words n (asked.Why w, is) (workers', is') = let same = is.0 in let same' = is'.0 in cc
reads-not_bulk words n (asked.Gc w, is) (workers', is') = let same = is.0 in let same' = is'.0 in cc
reads-not_bulk words n (asked.Verdef, is) (workers', is') = let same = is.0 in let same' = is'.0 in cc
reads-not_bulk words n (asked.Check, is) (workers', is') = let same = is.0 in let same' = is'.0 in cc

reads-of : (words : List Bytes) (left : Option Bytes) (s : Status) (text : Bytes) → IsTextRead words left s text → ReadsManifest words
reads-of words left s text held = (held.0, held.1)

-- what is said of bytes for what is asked of a manifest has one status and one text
one-of : (reading : Reading) → IsOne (text_read reading)
one-of (asked.Link workers) = one-text IsReport one-report (λ w a held. (held.0, held.1))
one-of (asked.Why workers) = one-text IsWhyReport why-one (λ w a held. (held.0, held.1))
one-of (asked.Gc workers) = one-text IsGcReport gc-one (λ w a held. (held.0, held.1))
one-of asked.Verdef = one-verdef
one-of asked.Check = one-check

-- the words ask for one text
same-reading : (words : List Bytes) (r q : Reading) → IsReading words r → IsReading words q → (bytes : Bytes) (s : Status) (text : Bytes) → text_read q bytes s text → text_read r bytes s text
same-reading words (asked.Link n) (asked.Link m) is is' bytes s text held = held
same-reading words (asked.Why n) (asked.Why m) is is' bytes s text held = held
same-reading words (asked.Gc n) (asked.Gc m) is is' bytes s text held = held
same-reading words asked.Verdef asked.Verdef is is' bytes s text held = held
same-reading words asked.Check asked.Check is is' bytes s text held = held
same-reading words r q is is' bytes s text held = let same = is.0 in let same' = is'.0 in absurd cc

-- the words and a source that tells have one status and one text, where the source doesn't fail
one-read : (words : List Bytes) (left : Option Bytes) (s t : Status) (a b : Bytes) → IsSome left → (s ≡ ReadFault → ⊥) → (t ≡ ReadFault → ⊥)
    → IsTextRead words left s a → IsTextRead words left t b → (t ≡ s) × (b ≡ a)
one-read words left s t a b tells no_fault no_fault' (r, is, held) (q, is', held') =
    let whole' = read-whole (text_read q) left t b no_fault' held' in
    whole-text (text_read r) (one-of r) left t s b a tells (whole'.0, whole'.1, same-reading words r q is is' whole'.0 t b whole'.2) (read-whole (text_read r) left s a no_fault held)

due-read : (words : List Bytes) (left : Option Bytes) (s t : Status) (a b : Bytes) → IsDue words left s a → (t ≡ ReadFault → ⊥) → IsTextRead words left t b → (t ≡ s) × (b ≡ a)
due-read words left Linked t a b (inl due) no_fault held = one-read words left Linked t a b due.0 (λ e. cc) no_fault due.1 held
due-read words left Linked t a b (inr bulk) no_fault held = absurd (reads-not_bulk words bulk.0 (reads-of words left t b held) bulk.1)
due-read words left Refused t a b due no_fault held = one-read words left Refused t a b due.0 (λ e. cc) no_fault due.1 held
due-read words left Manifest t a b due no_fault held = one-read words left Manifest t a b due.0 (λ e. cc) no_fault due.1 held
due-read words left Usage t a b due no_fault held = absurd (reads-is_command words (reads-of words left t b held) due.0)
due-read words left ReadFault t a b due no_fault held = absurd due
due-read words left WriteFault t a b due no_fault held = absurd due
due-read words left Memory t a b due no_fault held = absurd due
due-read words left Fails t a b due no_fault held = one-read words left Fails t a b due.0 (λ e. cc) no_fault due.1 held

due-bulk : (words : List Bytes) (left : Option Bytes) (s : Status) (a b : Bytes) → IsDue words left s a → IsSummaryFor words b → (Linked ≡ s) × (b ≡ a)
due-bulk words left Linked a b (inl due) held = absurd (reads-not_bulk words held.0 (reads-of words left Linked a due.1) held.1)
due-bulk words left Linked a b (inr bulk) held = (refl, summary-one words b a held bulk)
due-bulk words left Refused a b due held = absurd (reads-not_bulk words held.0 (reads-of words left Refused a due.1) held.1)
due-bulk words left Manifest a b due held = absurd (reads-not_bulk words held.0 (reads-of words left Manifest a due.1) held.1)
due-bulk words left Usage a b due held = absurd (bulk-is_command words held.0 held.1 due.0)
due-bulk words left ReadFault a b due held = absurd due
due-bulk words left WriteFault a b due held = absurd due
due-bulk words left Memory a b due held = absurd due
due-bulk words left Fails a b due held = absurd (reads-not_bulk words held.0 (reads-of words left Fails a due.1) held.1)

due-usage : (words : List Bytes) (left : Option Bytes) (s : Status) (a b : Bytes) → IsDue words left s a → IsTextFor words left Usage b → (Usage ≡ s) × (b ≡ a)
due-usage words left Usage a b due held = (refl, held.1 ∙ sym due.1)
due-usage words left Linked a b (inl due) held = absurd (reads-is_command words (reads-of words left Linked a due.1) held.0)
due-usage words left Linked a b (inr bulk) held = absurd (bulk-is_command words bulk.0 bulk.1 held.0)
due-usage words left Refused a b due held = absurd (reads-is_command words (reads-of words left Refused a due.1) held.0)
due-usage words left Manifest a b due held = absurd (reads-is_command words (reads-of words left Manifest a due.1) held.0)
due-usage words left ReadFault a b due held = absurd due
due-usage words left WriteFault a b due held = absurd due
due-usage words left Memory a b due held = absurd due
due-usage words left Fails a b due held = absurd (reads-is_command words (reads-of words left Fails a due.1) held.0)

-- where no fault comes between, what is due or want of memory is left
pub due-or_memory : (words : List Bytes) (left : Option Bytes) (s t : Status) (a b : Bytes) → IsDue words left s a → (t ≡ ReadFault → ⊥)
    → IsTextFor words left t b → ((t ≡ s) × (b ≡ a)) ⊎ (t ≡ Memory)
due-or_memory words left s Linked a b due no_fault (inl held) = inl (due-read words left s Linked a b due no_fault held)
due-or_memory words left s Linked a b due no_fault (inr bulk) = inl (due-bulk words left s a b due bulk)
due-or_memory words left s Refused a b due no_fault held = inl (due-read words left s Refused a b due no_fault held)
due-or_memory words left s Manifest a b due no_fault held = inl (due-read words left s Manifest a b due no_fault held)
due-or_memory words left s Usage a b due no_fault held = inl (due-usage words left s a b due held)
due-or_memory words left s ReadFault a b due no_fault held = absurd (no_fault refl)
due-or_memory words left s WriteFault a b due no_fault held = absurd held
due-or_memory words left s Memory a b due no_fault held = inr refl
due-or_memory words left s Fails a b due no_fault held = inl (due-read words left s Fails a b due no_fault held)
