use Rattle.std.proofs.Common.{◌≡◌, ◌+◌, drop}
use Rattle.std.specs.Prelude.{◌||◌, is_some}
use Rattle.link_rules.specs.Refusals.{linker_script_cause}
use Rattle.link_db_texts.proofs.Taken.{SoFar}
use Rattle.link_db_texts.proofs.scripts.batch_script.Given as goal

abbrev pub invariant-loop-i : goal.invariant-loop-i
invariant-loop-i l = record {
  cause : linker_script_cause l.profile l.is_late (l.is_taken || is_some l.taken) (l.first + l.i) (drop l.i l.scripts)
      ≡ linker_script_cause l.profile l.is_late l.is_taken l.first l.scripts;
  found : SoFar l.profile l.scripts (drop l.i l.scripts) l.taken;
}
