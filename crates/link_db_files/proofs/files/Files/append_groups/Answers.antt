use Rattle.std.proofs.Common.{◌≡◌, ◌++◌, ◌∙◌, List, ap, arith, length, subst, sym}
use Rattle.link_input_groups.specs.declared.group.Group.{Group}
use Rattle.link_db_files.specs.Columns.{columns_behind}
use Rattle.link_db_files.specs.HeldFiles.{HeldFiles}
use Rattle.link_db_files.specs.Inputs.{objects_in}
use Rattle.link_db_files.specs.Numbered.{AreHeld, CanBeHeld}
use Rattle.link_db_files.specs.Starts.{starts_of}
use Rattle.link_db_files.specs.declared.starts.FileStart.{FileStart}
use Rattle.link_db_files.proofs.Batches.{held-joined}
use Rattle.link_db_files.proofs.Kept.{columns-grown}
use Rattle.link_db_files.proofs.Picking.{few-objects}
use Rattle.link_db_files.proofs.files.Files.append_groups.Goals as goal

-- no more objects than files
pub of_groups-requires : goal.of_groups-requires
of_groups-requires g c =
    let starts = c.self.inside.starts in
    let found = ap (λ (l : List FileStart). length l) c.self.invariant.0.found in
    let same = ap (λ (h : HeldFiles g.row.P.Denot). length (objects_in h.groups)) c.self.view_is in
    omega (arith, c.num_objects.ensures, same, few-objects c.self.inside.groups.items, found, starts.ok.0, starts.ok.1, starts.small)

-- all lists grow by those of the groups
pub invariant_of-self-in_default : goal.invariant_of-self-in_default
invariant_of-self-in_default g c =
    let fields = c.self.inside in
    let held : HeldFiles g.row.P.Denot = record { groups = fields.groups.items; added = fields.added.items } in
    let more = c.args.groups.items in
    let before : CanBeHeld held = subst (λ (l : List FileStart). AreHeld held l) c.self.invariant.0.found c.self.invariant.0 in
    let can : CanBeHeld held → CanBeHeld (record held { groups = held.groups ++ more }) =
    subst (λ (h : HeldFiles g.row.P.Denot). CanBeHeld h → CanBeHeld (record h { groups = h.groups ++ more })) (sym c.self.view_is) c.requires in
    let grown = c.in_ok-append_both.ensures in
    let starts = c.in_ok-starts.ensures ∙ ap (λ (gs : List (Group g.row.P.Denot)). starts_of gs) c.as_slice.ensures.value in
    let objects : c.num_objects.result ≡ length (objects_in held.groups) = c.num_objects.ensures ∙ sym (ap (λ (h : HeldFiles g.row.P.Denot). length (objects_in h.groups)) c.self.view_is) in
    let columns = c.in_ok-columns.ensures ∙ ap (λ (gs : List (Group g.row.P.Denot)). columns_behind c.num_objects.result gs) c.as_slice-2.ensures.value in (
      held-joined held more c.append_both.new.right.items fields.starts.items c.in_ok-starts.starts.items c.append_both.new.left.items (can before) c.self.invariant.0.found grown.right starts grown.left,
      columns-grown held.groups more c.append_both.new.right.items c.num_objects.result fields.columns c.in_ok-columns.columns c.append.new.self c.self.invariant.1 grown.right objects columns c.in_default.ensures.ok,
    )
