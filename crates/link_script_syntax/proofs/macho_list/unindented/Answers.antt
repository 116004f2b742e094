use Rattle.std.specs.Char.{is_ascii_whitespace}
use Rattle.std.proofs.lemmas.Str.Ascii.{trim_ascii_start_is}
use Rattle.link_script_syntax.proofs.LineByLine.{front_and_rest}
use Rattle.link_script_syntax.proofs.macho_list.unindented.Goals as goal

pub returns-clause-value : goal.returns-clause-value
returns-clause-value c = trim_ascii_start_is c.args.bytes.now c.trim_ascii_start.result.now c.trim_ascii_start.ensures.value

pub returns-clause-shorter : goal.returns-clause-shorter
returns-clause-shorter c = rw (trim_ascii_start_is c.args.bytes.now c.trim_ascii_start.result.now c.trim_ascii_start.ensures.value) (front_and_rest is_ascii_whitespace c.args.bytes.now)
