use Rattle.std.proofs.Common.{◌≡◌, ◌∙◌, List, ℕ, ap, subst, sym}
use Rattle.link_input_groups.specs.declared.group.Group.{Group}
use Rattle.link_db_files.specs.Adding.{with_symbol}
use Rattle.link_db_files.specs.Columns.{columns_of}
use Rattle.link_db_files.specs.HeldFiles.{HeldFiles}
use Rattle.link_db_files.specs.Numbered.{AreHeld}
use Rattle.link_db_files.proofs.Changing.{held-before, popped}
use Rattle.link_db_files.proofs.Kept.{columns-kept}
use Rattle.link_db_files.proofs.files.Files.remove_synthetic_symbol.Goals as goal

pub invariant_of-self : goal.invariant_of-self
invariant_of-self g c =
    let before = c.requires.0 in
    let had = c.requires.1 in
    let held : HeldFiles g.row.P.Denot = record { groups = c.self.inside.groups.items; added = c.self.inside.added.items } in
    let all : held ≡ with_symbol before had.name = c.self.view_is ∙ had.is in
    let starts = c.self.inside.starts.items in
    let old = held-before held before starts c.self.invariant.0 (record { name = had.name; last = had.last; is = all }) in
    let groups = c.shrink_last.ensures before.groups had.last (ap (λ (h : HeldFiles g.row.P.Denot). h.groups) all) in
    let names = popped before.added held.added c.pop.new.self.items had.name c.self.inside.added.len (ap (λ (h : HeldFiles g.row.P.Denot). h.added) all) c.self.inside.added.ok.0 c.pop.ensures.rest in (
      subst (λ (gs : List (Group g.row.P.Denot)). AreHeld {P = g.row.P.Denot} (record { groups = gs; added = c.pop.new.self.items }) starts) (sym groups)
          (subst (λ (l : List (List ℕ)). AreHeld {P = g.row.P.Denot} (record { groups = before.groups; added = l }) starts) (sym names) old),
      c.self.invariant.1
          ∙ (ap (λ (h : HeldFiles g.row.P.Denot). columns_of h.groups) all
          ∙ (columns-kept before.groups had.last ∙ sym (ap (λ (gs : List (Group g.row.P.Denot)). columns_of gs) groups))),
    )
