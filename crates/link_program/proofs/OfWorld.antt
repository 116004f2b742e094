-- The text of a link of a world is that of the bytes that describe it, of the source that had them left, and of the words.
use Rattle.std.proofs.Common.{◌≡◌, ◌≢◌, ◌⊎◌, ◌≤◌, ℕ, List, [], ◌∷◌, Option, Result, Ok, Err, IfOk, inl, inr, refl, sym, subst, ◌∙◌, Some, None}
use Rattle.link_manifest_bulk.proofs.Linking.{not-refused}
use Rattle.link_manifest_bulk.specs.Bulk.{bulk_objects}
use Rattle.link_manifest_bulk.specs.World.{bulk_world}
use Rattle.std.proofs.lemmas.List.{append-nil}
use Rattle.link_program_streams.specs.Streams.{Gives, IsAtEnd}
use Rattle.std.specs.Prelude.{IfSome}
use Rattle.link_check.specs.declared.verdict.Verdict.{Verdict}
use Rattle.link_check.specs.declared.verdict.Verdict.TheVariants.{Holds, FailsLoaded, FailsKept, FailsTable}
use Rattle.link_check_claims.specs.declared.claim.Claim.{Claim}
use Rattle.link_check_texts.specs.Causes.{opening_refusal}
use Rattle.link_input.specs.InputFiles.{Batch}
use Rattle.link_gc_sections.specs.SectionText.{IsSectionText}
use Rattle.link_rules.specs.Linked.{Linked as Answer}
use Rattle.link_rules.specs.declared.refusal.LinkError.{LinkError}
use Rattle.link_rules.specs.declared.refusal.LinkError.TheVariants as refusal
use Rattle.link_rules.specs.Answer.{IsLinked, IsRefused, IsReport}
use Rattle.link_rules.specs.Places.{Bytes}
use Rattle.link_rules.specs.Report.{refusal_text}
use Rattle.link_rules.specs.World.{World}
use Rattle.link_input.specs.declared.options.Options.{Options}
use Rattle.link_input.specs.declared.world.Scripts.{Scripts}
use Rattle.link_manifest.specs.declared.fault.ManifestFault.{ManifestFault}
use Rattle.link_manifest.specs.declared.manifest.Manifest.{Manifest as Described}
use Rattle.link_manifest.specs.Manifest.{manifest_of}
use Rattle.link_program.specs.declared.status.Status.{Status}
use Rattle.link_program.specs.declared.status.Status.TheVariants.{Linked, Refused, Usage, Manifest, ReadFault, WriteFault, Memory, Fails}
use Rattle.link_program.specs.declared.run.Reading.{Reading}
use Rattle.link_program.specs.declared.run.Reading.TheVariants as asked
use Rattle.link_program.specs.declared.run.Told.TheVariants.{Summary}
use Rattle.link_program.specs.Grammar.{IsBulk}
use Rattle.link_program.specs.Described.{error_line, given_of, world_of_manifest}
use Rattle.link_program.specs.Outcome.{told_text, text_read, IsReadText, IsSummary, IsTextFor, IsTextOf, IsTextRead, IsToldOf, IsWholeText, IsWorldText}
use Rattle.link_program.specs.Gc.{IsGcReport}
use Rattle.link_program.specs.Why.{IsWhyReport}
use Rattle.link_program.specs.Check.{IsJudged, IsOfBatches, IsOfClaim, IsOfManifest, verdict_ending}
use Rattle.link_program.specs.Verdef.{manifest_ending, refused_or, soname_ending, IsVerdefOf}

-- what is told of a link of what some bytes describe, is so of the bytes
pub text-of_link : (IsTold : World → Bytes → Type 0) (bytes : Bytes) (m : Described) (s : Status) (text : Bytes) → manifest_of bytes ≡ Ok m
    → IsWorldText (world_of_manifest m) (IsTold (world_of_manifest m)) s text → IsTextOf IsTold bytes s text
text-of_link IsTold bytes m Linked text is held = (m, is, held)
text-of_link IsTold bytes m Refused text is (cause, told, line) = (m, cause, is, told, line)
text-of_link IsTold bytes m Usage text is held = absurd held
text-of_link IsTold bytes m Manifest text is held = absurd held
text-of_link IsTold bytes m ReadFault text is held = absurd held
text-of_link IsTold bytes m WriteFault text is held = absurd held
text-of_link IsTold bytes m Memory text is held = absurd held
text-of_link IsTold bytes m Fails text is held = absurd held

-- such a status comes of bytes that were read
abbrev pub IsAnswer : Status → Type 0
IsAnswer Linked = Unit {0}
IsAnswer Refused = Unit {0}
IsAnswer Manifest = Unit {0}
IsAnswer Usage = ⊥
IsAnswer ReadFault = ⊥
IsAnswer WriteFault = ⊥
IsAnswer Memory = ⊥
IsAnswer Fails = Unit {0}

-- of a link only these come
link-answers : (IsTold : World → Bytes → Type 0) (bytes : Bytes) (s : Status) (text : Bytes) → IsTextOf IsTold bytes s text → IsAnswer s
link-answers IsTold bytes Linked text held = tt
link-answers IsTold bytes Refused text held = tt
link-answers IsTold bytes Manifest text held = tt
link-answers IsTold bytes Usage text held = held
link-answers IsTold bytes ReadFault text held = held
link-answers IsTold bytes WriteFault text held = held
link-answers IsTold bytes Memory text held = held
link-answers IsTold bytes Fails text held = tt

refused-answers : (cause : Option Bytes) (text : Bytes) → IsAnswer (refused_or cause text).0
refused-answers None text = tt
refused-answers (Some cause) text = tt

soname-answers : (options : Options) (texts : Scripts) (soname : Option Bytes) → IsAnswer (soname_ending options texts soname).0
soname-answers options texts None = tt
soname-answers options texts (Some soname) = refused-answers _ _

ending-answers : (m : Result Described ManifestFault) → IsAnswer (manifest_ending m).0
ending-answers (Ok m) = soname-answers (given_of m).options (given_of m).texts (given_of m).options.soname
ending-answers (Err fault) = tt

-- nor do others of version definitions
verdef-answers : (bytes : Bytes) (s : Status) (text : Bytes) → IsVerdefOf bytes s text → IsAnswer s
verdef-answers bytes s text held = subst (λ (ending : Status × Bytes). IsAnswer ending.0) held (ending-answers (manifest_of bytes))

verdict-answers : (verdict : Verdict) → IsAnswer (verdict_ending verdict).0
verdict-answers Holds = tt
verdict-answers FailsLoaded = tt
verdict-answers FailsKept = tt
verdict-answers (FailsTable id) = tt

judged-answers : (w : World) (claim : Claim) (cause : Option LinkError) (ending : Status × Bytes) → IsJudged w claim cause ending → IsAnswer ending.0
judged-answers w claim None ending (verdict, is, ends) = subst (λ (e : Status × Bytes). IsAnswer e.0) (sym ends) (verdict-answers verdict)
judged-answers w claim (Some error) ending ends = subst (λ (e : Status × Bytes). IsAnswer e.0) (sym ends) tt

batches-answers : (w : World) (claim : Claim) (later : List Batch) (ending : Status × Bytes) → IsOfBatches w claim later ending → IsAnswer ending.0
batches-answers w claim [] ending held = judged-answers w claim (opening_refusal w) ending held
batches-answers w claim (b ∷ bs) ending ends = subst (λ (e : Status × Bytes). IsAnswer e.0) (sym ends) tt

claim-answers : (w : World) (claim : Option Claim) (ending : Status × Bytes) → IsOfClaim w claim ending → IsAnswer ending.0
claim-answers w None ending ends = subst (λ (e : Status × Bytes). IsAnswer e.0) (sym ends) tt
claim-answers w (Some claim) ending held = batches-answers w claim w.later ending held

-- nor do others of a claim
check-answers : (m : Result Described ManifestFault) (ending : Status × Bytes) → IsOfManifest m ending → IsAnswer ending.0
check-answers (Err fault) ending ends = subst (λ (e : Status × Bytes). IsAnswer e.0) (sym ends) tt
check-answers (Ok m) ending held = claim-answers (world_of_manifest m) m.claim ending held

answers-read : (reading : Reading) (bytes : Bytes) (s : Status) (text : Bytes) → text_read reading bytes s text → IsAnswer s
answers-read (asked.Link workers) bytes s text held = link-answers IsReport bytes s text held
answers-read (asked.Why workers) bytes s text held = link-answers IsWhyReport bytes s text held
answers-read (asked.Gc workers) bytes s text held = link-answers IsGcReport bytes s text held
answers-read asked.Verdef bytes s text held = verdef-answers bytes s text held
answers-read asked.Check bytes s text held = check-answers (manifest_of bytes) (s, text) held

-- bytes that were read end with no fault of reading
pub never-read_fault : (reading : Reading) (bytes : Bytes) (s : Status) (text : Bytes) → text_read reading bytes s text → s ≡ ReadFault → ⊥
never-read_fault reading bytes s text held is = subst (λ (t : Status). IsAnswer t) is (answers-read reading bytes s text held)

-- what is said of bytes, holds of what a source had left
left-text : (IsOf : Bytes → Status → Bytes → Type 0) (left : Option Bytes) (s : Status) (text : Bytes) → IsAnswer s → IsWholeText IsOf left s text → IsReadText IsOf left s text
left-text IsOf left Linked text answer whole = whole
left-text IsOf left Refused text answer whole = whole
left-text IsOf left Manifest text answer whole = whole
left-text IsOf left Fails text answer whole = whole
left-text IsOf left Usage text answer whole = absurd answer
left-text IsOf left ReadFault text answer whole = absurd answer
left-text IsOf left WriteFault text answer whole = absurd answer
left-text IsOf left Memory text answer whole = absurd answer

-- what holds of the bytes that a source had left, holds of what it had left
pub read-text : (reading : Reading) (left : Option Bytes) (bytes : Bytes) (s : Status) (text : Bytes) → IfSome left (λ all. all ≡ bytes) → text_read reading bytes s text
    → IsReadText (text_read reading) left s text
read-text reading left bytes s text whole held = left-text (text_read reading) left s text (answers-read reading bytes s text held) (bytes, whole, held)

-- what holds of something that is read, holds of the words that ask for it
pub words-text : (words : List Bytes) (left : Option Bytes) (s : Status) (text : Bytes) → IsTextRead words left s text → IsTextFor words left s text
words-text words left Linked text held = inl held
words-text words left Refused text held = held
words-text words left Manifest text held = held
words-text words left Fails text held = held
words-text words left ReadFault text held = held
words-text words left Usage text held = absurd held.2
words-text words left WriteFault text held = absurd held.2
words-text words left Memory text held = absurd held.2

-- so does the summary of a made-up link
pub bulk-text : (words : List Bytes) (left : Option Bytes) (members : ℕ) (s : Status) (text : Bytes) → IsBulk words members → (s ≡ Linked) × IsSummary members text → IsTextFor words left s text
bulk-text words left members s text bulk (ends, held) = subst (λ t. IsTextFor words left t text) (sym ends) (inr (members, bulk, held))

-- a made-up link is not refused, so that it ends with its summary
pub summary-of : (members : ℕ) (s : Status) (text : Bytes) → 1 ≤ members → members ≤ 100000
    → IsWorldText (bulk_world members) (IsToldOf (bulk_world members) (told_text (Summary members) (bulk_objects members))) s text → (s ≡ Linked) × IsSummary members text
summary-of members Linked text some few held = (refl, held)
summary-of members Refused text some few (cause, (error, refused, told), line) = absurd (not-refused members error some few refused)
summary-of members Usage text some few held = absurd held
summary-of members Manifest text some few held = absurd held
summary-of members ReadFault text some few held = absurd held
summary-of members WriteFault text some few held = absurd held
summary-of members Memory text some few held = absurd held
summary-of members Fails text some few held = absurd held

-- a link that stands ends with what is told of it
pub linked-text : (w : World) (tell : Answer → Bytes) (linked : Answer) (s : Status) (text : Bytes) → IsLinked w linked → s ≡ Linked → text ≡ tell linked → IsWorldText w (IsToldOf w tell) s text
linked-text w tell linked s text is ends line = subst (λ t. IsWorldText w (IsToldOf w tell) t text) (sym ends) (linked, is, line)

-- or with the text of its sections
pub sections-text : (w : World) (linked : Answer) (s : Status) (text : Bytes) → IsLinked w linked → s ≡ Linked → IsSectionText w text → IsWorldText w (IsGcReport w) s text
sections-text w linked s text is ends told = subst (λ t. IsWorldText w (IsGcReport w) t text) (sym ends) (linked, is, told)

-- a refused link ends with the text of its cause
pub refused-text : (w : World) (IsTold : Bytes → Type 0) (e : LinkError) (s : Status) (text : Bytes) → IsRefused w e ⊎ (e ≡ refusal.Memory) → e ≢ refusal.Memory → s ≡ Refused
    → text ≡ error_line (refusal_text e) → IsWorldText w IsTold s text
refused-text w IsTold e s text (inl refused) cause ends line = subst (λ t. IsWorldText w IsTold t text) (sym ends) (refusal_text e, (e, refused, refl), line)
refused-text w IsTold e s text (inr memory) cause ends line = absurd (cause memory)

-- what follows from three facts of an answer holds of it
pub ok-through : {X E : Type 0} (r : Result X E) (P Q R S : X → Type 0) → ((x : X) → P x → Q x → R x → S x) → IfOk r P → IfOk r Q → IfOk r R → IfOk r S
ok-through (Ok x) P Q R S through p q r = through x p q r
ok-through (Err e) P Q R S through p q r = tt

-- what was given up to the end is all that there was
pub all-given : (before after : Option Bytes) (got : Bytes) → Gives before after got → IsAtEnd after → IfSome before (λ all. all ≡ got)
all-given None after got gives ended = tt
all-given (Some all) None got gives ended = absurd gives
all-given (Some all) (Some rest) got gives ended = rw ended at gives ∙ append-nil got

-- what holds of an answer also holds in another way
pub ok-into : {A E : Type 0} (r : Result A E) (P Q : A → Type 0) → ((x : A) → P x → Q x) → IfOk r P → IfOk r Q
ok-into (Ok x) P Q into held = into x held
ok-into (Err e) P Q into held = tt
