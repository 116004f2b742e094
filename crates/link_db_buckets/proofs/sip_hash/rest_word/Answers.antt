use Rattle.std.proofs.Common.{◌≡◌, ◌∙◌, ℕ, List, ◌+◌, ◌-◌, ◌*◌, ◌/◌, ◌%◌, ◌≤◌, length, drop, arith, ap, get_or-drop, drop-drop}
use Rattle.std.specs.Int.{w64, from_le_bytes}
use Rattle.link_db_buckets.proofs.SipWords.{AreBytes, le_behind}
use Rattle.link_db_buckets.proofs.sip_hash.rest_word.Goals as goal

pub returns-in-Some : goal.returns-in-Some
returns-in-Some c =
    let m : List ℕ = c.args.bytes.now in
    let es : List ℕ = c.in-Some.eight.now in
    let chunk = c.in-Some.ensures.cases in
    let many : 8 ≤ length m = chunk.0 in
    let same : es ≡ drop (length m - 8) m = chunk.1.same in
    let whole : length es ≡ 8 = rw same chunk.1.long in
    let each : AreBytes es = λ i. rw (same, get_or-drop (length m - 8) m i 0) (c.type_inv.bytes (length m - 8 + i)).fits in
    let rest : drop (8 - length m % 8) es ≡ drop (length m / 8 * 8) m = rw (same, drop-drop) (ap (λ (k : ℕ). drop k m) (omega arith)) in
    rw c.from_le_bytes.ensures (le_behind (length m % 8) es each whole (omega arith) ∙ ap (from_le_bytes w64) rest)
