use Rattle.std.proofs.Common.{◌∙◌, [], ◌∷◌, ap, map, sym}
use Rattle.std.proofs.lemmas.List.{nil_from_length}
use Rattle.link_input_groups.specs.declared.group.Group.{Group}
use Rattle.link_db_files.specs.Inputs.{scripts_in}
use Rattle.link_db_files.proofs.Picking.{no-scripts}
use Rattle.link_db.proofs.LastEntry.{scripts-there}
use Rattle.link_db.proofs.entry.scripts_of.Goals as goal

pub returns-in-LinkerScripts : goal.returns-in-LinkerScripts
returns-in-LinkerScripts g c =
    ap (map (λ s. s.parsed)) c.as_slice.ensures ∙ scripts-there g.row.P.Denot c.in-LinkerScripts.scripts ∙ ap (λ (k : Group g.row.P.Denot). scripts_in (k ∷ [])) (sym c.in-LinkerScripts.is)

pub returns-in_default : goal.returns-in_default
returns-in_default g c = sym (nil_from_length (scripts_in (c.args.group.now ∷ [])) (sym (no-scripts c.args.group.now c.in_default.not-LinkerScripts)))
