use Rattle.std.proofs.Common.{refl, map}
use Rattle.link_rules.specs.Answer.{kept_comdats}
use Rattle.link_rules.specs.Selection.{selection_of}
use Rattle.link_rules.specs.Undefined.{resolved}
use Rattle.link_rules.specs.World.{first_stage, start_of}
use Rattle.link_rules.proofs.Existence.{orderly-loads}
use Rattle.link_rules.proofs.Stages.{orderly-grows, orderly-start}
use Rattle.link_check_claims.specs.Claims.{claimed_group, claimed_marks}
use Rattle.link_check_claims.proofs.Making.{some-loaded}
use Rattle.link_check_claims.proofs.laws.some_claim_holds.Goals as goal

pub returns : goal.returns
returns c = λ world.
    let w = first_stage world in
    let marks = orderly-loads w (orderly-grows (start_of world) world.first (orderly-start world)) in
    let loaded = some-loaded w marks.0 marks.1 in (
      record {
        loaded = loaded.0;
        kept = map claimed_group (kept_comdats w (claimed_marks w loaded.0));
        table = (resolved (selection_of w (claimed_marks w loaded.0))).table;
      },
      record { loaded = loaded.1; kept = refl; table = refl },
    )
