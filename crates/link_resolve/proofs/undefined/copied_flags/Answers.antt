use Rattle.std.proofs.Common.{◌≡◌, ◌+◌, ◌<◌, ◌++◌, ◌∙◌, ℕ, List, [], ◌∷◌, add-one, ap, append_assoc, drop, drop-cons, get_or, length, sym}
use Rattle.link_flags.specs.FlagWords.{words_of}
use Rattle.link_flags.specs.declared.value_flags.RawFlags.{RawFlags}
use Rattle.link_resolve.proofs.undefined.copied_flags.Goals as goal

-- one word more
word-more : (words : List RawFlags) (i bits : ℕ) (old new : List RawFlags) → i < length words → bits ≡ (get_or words i (record { 0 = 0 })).0 → new ≡ old ++ record { 0 = bits } ∷ []
    → old ++ drop i words ≡ words → new ++ drop (i + 1) words ≡ words
word-more words i bits old new lt is more before =
    let word : RawFlags = get_or words i (record { 0 = 0 }) in
    let pushed : new ≡ old ++ word ∷ [] = more ∙ ap (λ (n : ℕ). old ++ record { 0 = n } ∷ []) is in
    let here : word ∷ drop (i + 1) words ≡ drop i words = rw add-one (sym (drop-cons words i (record { 0 = 0 }) lt)) in
    ap (λ (ws : List RawFlags). ws ++ drop (i + 1) words) pushed ∙ append_assoc old (word ∷ []) (drop (i + 1) words)
    ∙ ap (λ (ws : List RawFlags). old ++ ws) here ∙ before

pub loop-word-preserved : goal.loop-word-preserved
loop-word-preserved c =
    word-more c.raw_range-words.result.now c.loop-word.word-index c.get.result.0 (words_of c.loop-word.copy) (words_of c.push.new.self)
    c.loop-word-test.true c.get.ensures c.in_ok-push.ensures.ok c.loop-word.invariant
