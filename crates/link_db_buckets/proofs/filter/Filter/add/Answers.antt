use Rattle.std.proofs.Common.{◌≡◌, ◌∙◌, ◌<◌, ℕ, List, true, length, sym, ap, subst}
use Rattle.link_db_buckets.specs.Slots.{may_hold, slot_of}
use Rattle.link_db_buckets.proofs.Filtered.{bit_added, bits_kept}
use Rattle.link_db_buckets.proofs.filter.Filter.add.Goals as goal

pub returns-clause-added : goal.returns-clause-added
returns-clause-added c =
    let words = c.self.inside.words.items in
    let count : c.len.result ≡ length words = c.len.ensures ∙ c.self.inside.words.ok.0 in
    let slot : c.slot_among-at.result ≡ slot_of (length words) c.args.number = c.slot_among-at.ensures.slot ∙ ap (λ (k : ℕ). slot_of k c.args.number) count in
    let within : c.slot_among-at.result < length words = subst (λ (k : ℕ). c.slot_among-at.result < k) count c.slot_among-at.ensures.within in
    bit_added words c.slot_among-at.result c.args.number c.index_mut.result.now slot within c.ranges.number.fits

pub returns-clause-kept : goal.returns-clause-kept
returns-clause-kept c = λ other may.
    let words = c.self.inside.words.items in
    let count : c.len.result ≡ length words = c.len.ensures ∙ c.self.inside.words.ok.0 in
    let within : c.slot_among-at.result < length words = subst (λ (k : ℕ). c.slot_among-at.result < k) count c.slot_among-at.ensures.within in
    bits_kept words c.slot_among-at.result c.args.number c.index_mut.result.now other within c.index_mut.ensures.value c.ranges.number.fits (subst (λ (l : List ℕ). may_hold l other ≡ true) (sym c.self.view_is) may)
