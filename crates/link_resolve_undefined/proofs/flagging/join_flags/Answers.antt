use Rattle.std.proofs.Common.{◌∙◌, ap, map}
use Rattle.link_flags.specs.FlagWords.{words_of}
use Rattle.link_flags.specs.declared.value_flags.RawFlags.{RawFlags}
use Rattle.link_resolve_undefined.proofs.Passing.{joined-word}
use Rattle.link_resolve_undefined.proofs.flagging.join_flags.Goals as goal

pub returns-clause-numbers : goal.returns-clause-numbers
returns-clause-numbers c =
    ap (map (λ (w : RawFlags). w.0)) c.set_flag.ensures ∙ joined-word (words_of c.args.flags.now) c.args.id c.args.bits.0 c.requires
