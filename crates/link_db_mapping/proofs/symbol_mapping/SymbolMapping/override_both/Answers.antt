use Rattle.std.proofs.Common.{◌≡◌, ◌∙◌, List, ap, subst, sym, true, ℕ}
use Rattle.std.proofs.lemmas.Option.{same_Some}
use Rattle.std.specs.Option.{is_some}
use Rattle.link_db_mapping.specs.Mapped.{Mapped, mapping_of}
use Rattle.link_db_mapping.specs.Seen.{seen}
use Rattle.link_db_mapping.specs.Changes.{with_override}
use Rattle.link_db_mapping.proofs.Wraps.{still_mapped}
use Rattle.link_db_mapping.proofs.symbol_mapping.SymbolMapping.override_both.Goals as goal

pub remap_held-requires-clause-mapped : goal.remap_held-requires-clause-mapped
remap_held-requires-clause-mapped g c =
    let old = seen c.args.self.now in
    let over = c.in_ok-_before.ensures.ok c.args.first (c.in_ok-second.ensures.kept c.in_ok-first.first c.args.first c.in_ok-first.ensures.held) in
    let told : seen c.override_held.new.self ≡ with_override c.args.first c.args.first_id old = over ∙ ap (with_override c.args.first c.args.first_id) (c.in_ok-second.ensures.same ∙ c.in_ok-first.ensures.same) in
    λ name is.
    let named : c.args.second ≡ name = same_Some c.args.second name (sym c.in_ok-second.ensures.held ∙ sym (c.override_held.ensures.kept c.in_ok-second.second) ∙ is) in
    subst (λ (m : Mapped g.row.P.Denot). is_some (mapping_of m name) ≡ true) (sym told)
    (still_mapped old c.args.first c.args.first_id name (subst (λ (n : List ℕ). is_some (mapping_of old n) ≡ true) named c.requires.mapped))
