use Rattle.std.proofs.Common.{◌≡◌, ◌∙◌, List, ap, length, subst, sym, take}
use Rattle.std.specs.List.{flat_map}
use Rattle.link_input_groups.specs.declared.group.Group.{Group}
use Rattle.link_input_groups.specs.Groups.{files_of}
use Rattle.link_db_files.specs.Columns.{columns_of, first_columns}
use Rattle.link_db_files.specs.GroupFiles.{AreGroupsOfLink, symbols_in}
use Rattle.link_db_files.specs.HeldFiles.{HeldFiles}
use Rattle.link_db_files.proofs.Kept.{columns-first}
use Rattle.link_db_files.proofs.Prefix.{held-so-many}
use Rattle.link_db_files.proofs.files.Files.remove_groups.Goals as goal

pub invariant_of-self : goal.invariant_of-self
invariant_of-self g c =
    let fields = c.self.inside in
    let held : HeldFiles g.row.P.Denot = record { groups = fields.groups.items; added = fields.added.items } in
    let link : AreGroupsOfLink held.groups = subst (λ (h : HeldFiles g.row.P.Denot). AreGroupsOfLink h.groups) (sym c.self.view_is) c.requires.link in
    let count : c.args.files ≡ length (flat_map files_of (take c.args.groups held.groups)) =
    subst (λ (h : HeldFiles g.row.P.Denot). c.args.files ≡ length (flat_map files_of (take c.args.groups h.groups))) (sym c.self.view_is) c.requires.files in
    let symbols : c.symbols_of_first-symbols.result ≡ length (symbols_in (take c.args.groups held.groups)) =
    subst (λ (h : HeldFiles g.row.P.Denot). c.symbols_of_first-symbols.result ≡ length (symbols_in (take c.args.groups h.groups))) (sym c.self.view_is) (c.symbols_of_first-symbols.ensures c.args.groups c.requires.files) in
    let first = ap (first_columns c.args.files c.symbols_of_first-symbols.result) c.self.invariant.1 ∙ columns-first held.groups c.args.groups c.args.files c.symbols_of_first-symbols.result count symbols in (
      rw (c.truncate.ensures.items, c.truncate-2.ensures.items) (held-so-many held fields.starts.items c.args.groups c.args.files c.self.invariant.0 link count),
      c.truncate-3.ensures ∙ (first ∙ sym (ap (λ (gs : List (Group g.row.P.Denot)). columns_of gs) c.truncate.ensures.items)),
    )
