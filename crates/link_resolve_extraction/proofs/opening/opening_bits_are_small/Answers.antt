use Rattle.std.proofs.Common.{◌≡◌, ◌∙◌, ◌<◌, ◌^◌, ℕ, List, All, ap, arith, slice_index, subst, sym}
use Rattle.std.proofs.lemmas.List.Elements.{All-push}
use Rattle.std.proofs.lemmas.List.FromFn.{map-range_with_len_more}
use Rattle.link_flags.specs.FlagWords.{numbers_of, words_of}
use Rattle.link_resolve_extraction.specs.Planned.{opening_of}
use Rattle.link_resolve_extraction.proofs.opening.opening_bits_are_small.Goals as goal

-- one symbol more
pub loop-symbol-preserved : goal.loop-symbol-preserved
loop-symbol-preserved c =
    let numbers = numbers_of (words_of c.args.flags.now) in
    let k = c.loop-symbol.symbol in
    let is : c.bits-bits.result ≡ slice_index numbers k = c.bits-bits.ensures tt ∙ (c.opening_flags.ensures ∙ ap (slice_index numbers) c.from_usize.ensures) in
    subst (λ (l : List ℕ). All (λ bits. bits < 2 ^ 32) l) (sym (map-range_with_len_more (slice_index numbers) 0 k k (omega arith)))
    (All-push (λ bits. bits < 2 ^ 32) (opening_of k numbers) (slice_index numbers k) c.loop-symbol.invariant (subst (λ n. n < 2 ^ 32) is c.bits-bits.type_inv))
