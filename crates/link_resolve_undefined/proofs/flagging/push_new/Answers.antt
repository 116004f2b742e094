use Rattle.std.proofs.Common.{◌≡◌, ◌∙◌, ◌++◌, [], ◌∷◌, append_assoc, ap, map}
use Rattle.std.proofs.lemmas.List.{map-append}
use Rattle.link_flags.specs.FlagBits as flag
use Rattle.link_flags.specs.FlagWords.{words_of}
use Rattle.link_flags.specs.declared.value_flags.RawFlags.{RawFlags}
use Rattle.link_resolve_undefined.specs.Flagged.{numbers_in}
use Rattle.link_resolve_undefined.proofs.Passing.{word-pushed}
use Rattle.link_resolve_undefined.proofs.flagging.push_new.Goals as goal

pub loop-maker-preserved : goal.loop-maker-preserved
loop-maker-preserved c =
    let old = c.loop-maker.flags in
    let word : RawFlags = record { 0 = flag.non_interposable } in
    let pushed : numbers_in c.push.new.self ≡ numbers_in old ++ flag.non_interposable ∷ [] =
    ap (map (λ (w : RawFlags). w.0)) c.in_ok-push.ensures.ok ∙ map-append (λ (w : RawFlags). w.0) (words_of old) (word ∷ []) in
    let grown = c.loop-maker.invariant.grown in
    record {
      whole = word-pushed (numbers_in old) (numbers_in c.push.new.self) c.makers-makers.result.now flag.non_interposable c.loop-maker._maker-index c._maker-item.result c.loop-maker-test.true c._maker-item.is pushed
          ∙ c.loop-maker.invariant.whole;
      grown = (grown.0 ++ flag.non_interposable ∷ [], pushed ∙ ((λ i. grown.1 i ++ flag.non_interposable ∷ []) ∙ append_assoc (numbers_in c.args.flags.now) grown.0 (flag.non_interposable ∷ [])));
    }
