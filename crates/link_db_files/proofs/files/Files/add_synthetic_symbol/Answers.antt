use Rattle.std.proofs.Common.{◌-◌, ◌<◌, ◌^◌, ◌∙◌, List, ℕ, ap, length, subst, sym}
use Rattle.link_input_groups.specs.declared.group.Group.{Group}
use Rattle.link_db_files.specs.Adding.{EndsInSynthetic, with_id}
use Rattle.link_db_files.specs.Columns.{columns_of}
use Rattle.link_db_files.specs.HeldFiles.{HeldFiles, names_in}
use Rattle.link_db_files.specs.Numbered.{AreHeld}
use Rattle.link_db_files.proofs.Changing.{has-room, held-symbol}
use Rattle.link_db_files.proofs.Kept.{columns-kept}
use Rattle.link_db_files.proofs.files.Files.add_synthetic_symbol.Goals as goal

pub grow_last-requires-clause-room : goal.grow_last-requires-clause-room
grow_last-requires-clause-room g c =
    let held : HeldFiles g.row.P.Denot = record { groups = c.self.inside.groups.items; added = c.self.inside.added.items } in
    let few : length (names_in held) < 2 ^ 32 - 1 = subst (λ (h : HeldFiles g.row.P.Denot). length (names_in h) < 2 ^ 32 - 1) (sym c.self.view_is) c.requires.room in
    has-room held c.self.inside.starts.items c.self.invariant.0 few

pub invariant_of-self-2 : goal.invariant_of-self-2
invariant_of-self-2 g c =
    let held : HeldFiles g.row.P.Denot = record { groups = c.self.inside.groups.items; added = c.self.inside.added.items } in
    let few : length (names_in held) < 2 ^ 32 - 1 = subst (λ (h : HeldFiles g.row.P.Denot). length (names_in h) < 2 ^ 32 - 1) (sym c.self.view_is) c.requires.room in
    let last : EndsInSynthetic held.groups = subst (λ (h : HeldFiles g.row.P.Denot). EndsInSynthetic h.groups) (sym c.self.view_is) c.requires.last in
    let starts = c.self.inside.starts.items in
    let all = held-symbol held starts c.args.name c.self.invariant.0 last few in
    let names = c.in_ok-push.ensures.items in (
      subst (λ (gs : List (Group g.row.P.Denot)). AreHeld {P = g.row.P.Denot} (record { groups = gs; added = c.push.new.self.items }) starts) (sym c.grow_last.ensures)
          (subst (λ (l : List (List ℕ)). AreHeld {P = g.row.P.Denot} (record { groups = with_id held.groups; added = l }) starts) (sym names) all),
      c.self.invariant.1 ∙ sym (ap (λ (gs : List (Group g.row.P.Denot)). columns_of gs) c.grow_last.ensures ∙ columns-kept held.groups last),
    )
