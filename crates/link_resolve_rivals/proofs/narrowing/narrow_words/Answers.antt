use Rattle.std.proofs.Common.{◌≡◌, ◌∙◌, ap, arith, length, slice_index}
use Rattle.std.proofs.lemmas.List.{length-map}
use Rattle.link_flags.specs.FlagWords.{numbers_of}
use Rattle.link_flags.specs.declared.value_flags.RawFlags.{RawFlags}
use Rattle.link_input.specs.Symbols.{Symbol, is_shared}
use Rattle.link_resolve_rivals.specs.Narrowed.{narrowed_on}
use Rattle.link_resolve_rivals.proofs.NarrowPass.{narrowed-all, narrowed-more}
use Rattle.link_resolve_rivals.proofs.narrowing.narrow_words.Goals as goal

pub loop-number-preserved : goal.loop-number-preserved
loop-number-preserved g c = λ w seen s.
    let listed = g.L.RivalLists.listed c.args.lists.now in
    let now = slice_index (numbers_of c.loop-number.words) s in
    c.narrow_head.ensures w seen s ∙ ap (λ h. narrowed_on w (listed h) h s now) c.from_usize-head.ensures
    ∙ narrowed-more w listed (length c.args.dynamic.now) c.requires.lists (numbers_of c.args.words.now) c.loop-number.number s now (c.loop-number.invariant w seen s)

pub returns : goal.returns
returns g c = λ w seen.
    let kept : length c.loop-number.words ≡ length c.args.dynamic.now = omega arith in
    let same : length (numbers_of c.loop-number.words) ≡ length w.symbols =
    length-map c.loop-number.words (λ (r : RawFlags). r.0) ∙ kept ∙ ap length seen.dynamic ∙ length-map w.symbols (λ (x : Symbol). is_shared x.origin) in
    narrowed-all w (g.L.RivalLists.listed c.args.lists.now) (length c.args.dynamic.now) c.requires.lists (numbers_of c.args.words.now) c.loop-number.number
    (numbers_of c.loop-number.words) (omega arith) same (c.loop-number.invariant w seen)
