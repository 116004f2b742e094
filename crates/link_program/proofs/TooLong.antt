-- The text for more bytes than a manifest has.
use Rattle.std.proofs.Common.{◌≡◌, ℕ, ◌+◌, ◌<◌, ◌^◌, ◌++◌, length, replicate, Option, Some, None, IfSome, Result, Ok, Err, IfOk, codes, refl, sym, ap, subst, ◌∙◌, arith}
use Rattle.std.proofs.lemmas.List.{length-replicate}
use Rattle.std.proofs.lemmas.Bool.{lt-ltb}
use Rattle.link_rules.specs.Places.{Bytes}
use Rattle.link_manifest.specs.declared.fault.ManifestFault.{ManifestFault}
use Rattle.link_manifest.specs.declared.fault.Problem.TheVariants.{TooLong}
use Rattle.link_manifest.specs.FaultText.{fault_text}
use Rattle.link_manifest.specs.Manifest.{manifest_of}
use Rattle.link_manifest.specs.Reading.{fault_here}
use Rattle.link_program.specs.declared.run.Reading.{Reading}
use Rattle.link_program.specs.declared.run.Reading.TheVariants as asked
use Rattle.link_program.specs.declared.status.Status.{Status}
use Rattle.link_program.specs.declared.status.Status.TheVariants.{Manifest}
use Rattle.link_program.specs.Described.{error_line}
use Rattle.link_program.specs.Outcome.{text_read, IsReadText}
use Rattle.link_program.specs.Verdef.{manifest_ending}

-- some list is longer
longer : (n : ℕ) → (bytes : Bytes) × (n < length bytes)
longer n =
    let bytes : Bytes = replicate (n + 1) 0 in
    let long : length bytes ≡ n + 1 = length-replicate (n + 1) _ in
    (bytes, omega (arith, long))

read-too_long : (bytes : Bytes) (fault : ManifestFault) → 2 ^ 28 < length bytes → fault ≡ fault_here TooLong → manifest_of bytes ≡ Err fault
read-too_long bytes fault over is = rw (lt-ltb (2 ^ 28) (length bytes) over, is) refl

-- bytes that are no manifest end each command that reads with their fault
pub fault-read : (reading : Reading) (bytes : Bytes) (fault : ManifestFault) (text : Bytes) → manifest_of bytes ≡ Err fault → text ≡ error_line (codes "manifest: " ++ fault_text fault)
    → text_read reading bytes Manifest text
fault-read (asked.Link workers) bytes fault text fails line = (fault, fails, line)
fault-read (asked.Why workers) bytes fault text fails line = (fault, fails, line)
fault-read (asked.Gc workers) bytes fault text fails line = (fault, fails, line)
fault-read asked.Verdef bytes fault text fails line = ap manifest_ending fails ∙ ap (λ (t : Bytes). (Manifest, t)) (sym line)
fault-read asked.Check bytes fault text fails line = rw fails (ap (λ (t : Bytes). (Manifest, t)) line)

text-too_long : (reading : Reading) (left : Option Bytes) (fault : ManifestFault) (text : Bytes) → IfSome left (λ all. 2 ^ 28 < length all) → fault ≡ fault_here TooLong
    → text ≡ error_line (codes "manifest: " ++ fault_text fault) → IsReadText (text_read reading) left Manifest text
text-too_long reading None fault text over is line =
    let some = longer (2 ^ 28) in (some.0, tt, fault-read reading some.0 fault text (read-too_long some.0 fault some.1 is) line)
text-too_long reading (Some all) fault text over is line = (all, refl, fault-read reading all fault text (read-too_long all fault over is) line)

-- the text of the fault is that of what the source had left
pub told-too_long : (reading : Reading) (left : Option Bytes) (fault : ManifestFault) (status : Status) (text : Bytes) → IfSome left (λ all. 2 ^ 28 < length all)
    → fault ≡ fault_here TooLong → status ≡ Manifest → text ≡ error_line (codes "manifest: " ++ fault_text fault) → IsReadText (text_read reading) left status text
told-too_long reading left fault status text over is ends line =
    subst (λ s. IsReadText (text_read reading) left s text) (sym ends) (text-too_long reading left fault text over is line)

-- what follows from two facts of an answer holds of it
pub ok-along : {X E : Type 0} (r : Result X E) (P Q R : X → Type 0) → ((x : X) → P x → Q x → R x) → IfOk r P → IfOk r Q → IfOk r R
ok-along (Ok x) P Q R along p q = along x p q
ok-along (Err e) P Q R along p q = tt
