use Rattle.link_rules_worlds.proofs.BatchRows as batch_rows
use Rattle.link_rules_worlds.proofs.BatchWorlds as batch_worlds
use Rattle.link_rules_worlds.proofs.Further as further
use Rattle.link_rules_worlds.proofs.GuardRows as guard_rows
use Rattle.link_rules_worlds.proofs.Rows as rows
use Rattle.link_rules_worlds.proofs.ScriptRows as script_rows
use Rattle.link_rules_worlds.proofs.Worlds as worlds
use Rattle.link_rules_worlds.proofs.laws_worlds.worked_worlds.Goals as goal

pub returns-clause-rows : goal.returns-clause-rows
returns-clause-rows c = rows.all_cases-are

pub returns-clause-script_rows : goal.returns-clause-script_rows
returns-clause-script_rows c = script_rows.all_cases-are

pub returns-clause-guard_rows : goal.returns-clause-guard_rows
returns-clause-guard_rows c = guard_rows.all_cases-are

pub returns-clause-further : goal.returns-clause-further
returns-clause-further c = further.all_cases-are

pub returns-clause-generated : goal.returns-clause-generated
returns-clause-generated c = worlds.all_cases-are

pub returns-clause-batch_rows : goal.returns-clause-batch_rows
returns-clause-batch_rows c = batch_rows.all_cases-are

pub returns-clause-generated_batches : goal.returns-clause-generated_batches
returns-clause-generated_batches c = batch_worlds.all_cases-are
