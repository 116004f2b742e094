use Rattle.std.proofs.Common.{◌∙◌, List, ap, subst, sym, ℕ, Some, ◌≡◌, [], ◌∷◌}
use Rattle.std.specs.Prelude.{slice_get}
use Rattle.link_db_mapping.specs.Tables.{AreNamed}
use Rattle.link_db_mapping.specs.Seen.{told_by}
use Rattle.link_db_files.proofs.Places.{get-left}
use Rattle.link_db_mapping.proofs.Overrides.{held_either, held_told, last_there}
use Rattle.link_db_mapping.proofs.symbol_mapping.SymbolMapping.hold.Goals as goal

pub invariant_of-self : goal.invariant_of-self
invariant_of-self g c =
    let m = c.args.self.now in
    record { named = subst (λ (l : List (List ℕ)). AreNamed m.tables.files l m.buckets) (sym c.push.ensures.items) (held_either m.tables.files m.tables.overridden.items c.args.name m.buckets _ m.named) }

pub returns-clause-same : goal.returns-clause-same
returns-clause-same g c =
    let m = c.args.self.now in
    let x = c.in_ok-push.ensures.items in
    ap (λ (l : List (List ℕ)). told_by m.tables.files l m.buckets) x ∙ held_told m.tables.files m.tables.overridden.items c.args.name m.buckets m.named

pub returns-clause-held : goal.returns-clause-held
returns-clause-held g c =
    let m = c.args.self.now in
    subst (λ (l : List (List ℕ)). slice_get l c.in-Ok.place ≡ Some c.args.name) (sym c.in_ok-push.ensures.items)
    (last_there m.tables.overridden.items c.args.name c.in-Ok.place (c.in-Ok.ensures.1 ∙ c.len.ensures ∙ m.tables.overridden.ok.0))

pub returns-clause-kept : goal.returns-clause-kept
returns-clause-kept g c =
    let m = c.args.self.now in
    λ place other is. subst (λ (l : List (List ℕ)). slice_get l place ≡ Some other) (sym c.in_ok-push.ensures.items) (get-left m.tables.overridden.items (c.args.name ∷ []) place other is)
