use Rattle.std.proofs.Common.{◌∙◌, arith, sym}
use Rattle.link_flags.specs.FlagWords.{words_of}
use Rattle.link_resolve_extraction.proofs.Told.{no-flags, word-number}
use Rattle.link_resolve_extraction.proofs.opening.opening_flags.Goals as goal

-- those of its word
pub returns-then-as_usize-len : goal.returns-then-as_usize-len
returns-then-as_usize-len c =
    c.flags_for_symbol.ensures ∙ sym (word-number (words_of c.args.flags.now) c.args.symbol)

-- none without a word
pub returns-else-as_usize-len : goal.returns-else-as_usize-len
returns-else-as_usize-len c =
    c.empty.ensures tt ∙ sym (word-number (words_of c.args.flags.now) c.args.symbol ∙ no-flags (words_of c.args.flags.now) c.args.symbol (omega (arith, c.if-as_usize-len.false, c.len.ensures, c.as_usize.ensures)))
