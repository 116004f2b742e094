use Rattle.std.proofs.Common.{◌≡◌, ◌+◌, ◌∙◌, ◌∷◌, [], ◌++◌, List, drop, sym, ap}
use Rattle.std.specs.Prelude.{option_map}
use Rattle.std.specs.List.{filter_map}
use Rattle.std.specs.Option.{option_or}
use Rattle.std.proofs.lemmas.List.Elements.{filter_map-append}
use Rattle.link_input.specs.declared.world.ProcessedLinkerScript.{ProcessedLinkerScript}
use Rattle.link_input_groups.specs.declared.group.Group.{Group}
use Rattle.link_db_files.specs.Inputs.{scripts_in}
use Rattle.link_rules.specs.Places.{Bytes, last_of}
use Rattle.link_db.proofs.LastEntry.{last-joined, scripts-first}
use Rattle.link_db_texts.proofs.Forced.{rest_is}
use Rattle.link_db.proofs.entry.entry_of_scripts.Goals as goal

-- one group more
pub loop-group-preserved : goal.loop-group-preserved
loop-group-preserved g c =
    let groups = c.args.groups.now in
    let i = c.loop-group.group-index in
    let group = c.group-item.result in
    let left = drop (i + 1) groups in
    let entries = filter_map (λ (x : ProcessedLinkerScript). x.entry) in
    let next : drop i groups ≡ group ∷ left = rest_is groups i group c.loop-group-test.true c.group-item.is in
    let before = option_map (λ n. n.now) c.loop-group.last in
    let own = entries (scripts_in (group ∷ [])) in
    let last : option_map (λ n. n.now) c.last_entry-last.result ≡ option_or (last_of own) before =
    c.last_entry-last.ensures ∙ ap (λ (l : List ProcessedLinkerScript). option_or (last_of (entries l)) before) c.scripts_of.ensures in
    let all : entries (scripts_in (group ∷ left)) ≡ own ++ entries (scripts_in left) =
    ap entries (scripts-first group left) ∙ filter_map-append (λ (x : ProcessedLinkerScript). x.entry) (scripts_in (group ∷ [])) (scripts_in left) in
    ap (option_or (last_of (entries (scripts_in left)))) last ∙ sym (last-joined own (entries (scripts_in left)) before)
    ∙ ap (λ (l : List Bytes). option_or (last_of l) before) (sym all)
    ∙ ap (λ (gs : List (Group g.row.P.Denot)). option_or (last_of (entries (scripts_in gs))) before) (sym next) ∙ c.loop-group.invariant
