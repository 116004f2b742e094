use Rattle.std.proofs.lemmas.Str.Ascii.{trim_ascii_end_is}
use Rattle.link_script_syntax.specs.Token.{trimmed}
use Rattle.link_script_syntax.proofs.token.trimmed.Goals as goal

pub returns : goal.returns
unfolding trimmed
returns c = trim_ascii_end_is c.args.bytes.now c.trim_ascii_end.result.now c.trim_ascii_end.ensures.value
