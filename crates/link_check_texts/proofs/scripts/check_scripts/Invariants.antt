use Rattle.std.proofs.Common.{◌≡◌, drop, false}
use Rattle.link_rules.specs.Refusals.{linker_script_cause}
use Rattle.link_check_texts.proofs.scripts.check_scripts.Given as goal

abbrev pub invariant-loop-place : goal.invariant-loop-place
invariant-loop-place l = linker_script_cause l.profile false l.is_second l.place (drop l.place l.scripts) ≡ linker_script_cause l.profile false l.is_taken 0 l.scripts
