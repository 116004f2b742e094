use Rattle.std.proofs.Common.{◌∙◌, ◌++◌, List, ap, arith, subst, sym}
use Rattle.std.specs.Prelude.{string_bytes}
use Rattle.std.specs.List.{flat_map}
use Rattle.link_input_groups.specs.declared.group.Group.{Group}
use Rattle.link_db.specs.Database.{Database}
use Rattle.link_core_answer.specs.Seen.{seen}
use Rattle.link_report.specs.declared.runs.Run.{Run}
use Rattle.link_report.specs.Runs.{AreBelow, lines_of_names, lines_of_run, names_of_groups}
use Rattle.link_report.proofs.Joined.{below-larger, lines-of-runs, names-within}
use Rattle.link_report.proofs.runs.write_lines_of_files.Goals as goal

pub symbols_of_groups-symbols-requires : goal.symbols_of_groups-symbols-requires
symbols_of_groups-symbols-requires g c =
    let held = (seen c.args.linked.now).db.mapping.files in
    let are = c.groups-groups.ensures ∙ ap (λ (db : Database g.row.P.Denot). db.mapping.files.groups) c.db.ensures in
    omega (arith, names-within held c.groups-groups.result.now are, c.num_symbols.ensures.value, c.num_symbols.ensures.fits)

pub write_lines_of_groups-requires : goal.write_lines_of_groups-requires
write_lines_of_groups-requires g c =
    let held = (seen c.args.linked.now).db.mapping.files in
    let are = c.groups-groups.ensures ∙ ap (λ (db : Database g.row.P.Denot). db.mapping.files.groups) c.db.ensures in
    omega (arith, names-within held c.groups-groups.result.now are)

pub texts_of_runs-requires-after_bounds : goal.texts_of_runs-requires-after_bounds
texts_of_runs-requires-after_bounds g c κs within =
    let held = (seen c.args.linked.now).db.mapping.files in
    let are = c.groups-groups.ensures ∙ ap (λ (db : Database g.row.P.Denot). db.mapping.files.groups) c.db.ensures in
    subst (AreBelow _) (sym c.as_slice.ensures.value)
    (below-larger _ _ c.in_ok-runs.runs.items (names-within held c.groups-groups.result.now are) c.in_ok-runs.ensures.below)

pub returns-in_ok-push_texts-clause-lines : goal.returns-in_ok-push_texts-clause-lines
returns-in_ok-push_texts-clause-lines g c =
    let x = seen c.args.linked.now in
    let are = c.groups-groups.ensures ∙ ap (λ (db : Database g.row.P.Denot). db.mapping.files.groups) c.db.ensures in
    let runs = c.in_ok-runs.runs.items in
    let texts = c.in_ok-texts_of_runs.ensures ∙ ap (λ (rs : List (Run g.row.P.Denot)). flat_map (lines_of_run x) rs) c.as_slice.ensures.value in
    c.in_ok-push_texts.ensures
    ∙ ap (λ t. string_bytes c.args.text.now ++ t)
    (texts ∙ (lines-of-runs x runs (names_of_groups c.groups-groups.result.now) c.in_ok-runs.ensures.symbols
    ∙ ap (λ (gs : List (Group g.row.P.Denot)). lines_of_names x 0 (names_of_groups gs)) are))
