use Rattle.std.proofs.Common.{◌∙◌, [], ◌∷◌, ap, length, sym}
use Rattle.link_input_groups.specs.declared.group.Group.{Group}
use Rattle.link_db_files.specs.Inputs.{scripts_in}
use Rattle.link_db_files.proofs.Picking.{no-scripts, scripts-own}
use Rattle.link_db_files.proofs.counting.scripts_of_group.Goals as goal

pub returns-in-LinkerScripts : goal.returns-in-LinkerScripts
returns-in-LinkerScripts g c =
    c.len.ensures ∙ (scripts-own g.row.P.Denot c.in-LinkerScripts.scripts ∙ ap (λ (k : Group g.row.P.Denot). length (scripts_in (k ∷ []))) (sym c.in-LinkerScripts.is))

pub returns-in_default : goal.returns-in_default
returns-in_default g c = no-scripts c.args.group.now c.in_default.not-LinkerScripts
