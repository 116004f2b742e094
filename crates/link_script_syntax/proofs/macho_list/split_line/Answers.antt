use Rattle.std.proofs.Common.{sym, ◌∙◌}
use Rattle.link_script_syntax.proofs.LineByLine.{line_last, line_first}
use Rattle.link_script_syntax.proofs.macho_list.split_line.Goals as goal

pub returns-in_default : goal.returns-in_default
returns-in_default c = line_last c.args.text.now (sym c.place_of.ensures.value ∙ c.in_default.is)

pub returns : goal.returns
returns c = line_first c.args.text.now c.split_at.result.0.now c.split_at.result.1.now c.split_at-2.result.1.now c.in-Some.end (sym c.place_of.ensures.value ∙ c.in-Some.is) c.split_at.ensures.front c.split_at.ensures.back c.split_at-2.ensures.back
