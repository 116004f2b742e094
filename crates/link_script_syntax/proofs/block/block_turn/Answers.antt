use Rattle.link_script_syntax.proofs.FirstClose.{past_skipped, past_token}
use Rattle.link_script_syntax.proofs.block.block_turn.Goals as goal

pub place_in-requires : goal.place_in-requires
place_in-requires c = past_skipped c.args.close.now.left c.args.text.now c.in_ok-text.text.now c.in_ok-text.ensures.found c.requires

pub returns-clause-kept : goal.returns-clause-kept
returns-clause-kept c = λ _. past_token c.place_in.new.self.left c.if-is_before.end c.in_ok-text.text.now c.in_ok-matcher.matcher c.in_ok-matcher.rest.now c.in_ok-matcher.ensures.found c.place_in.ensures.kept
