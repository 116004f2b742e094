use Rattle.std.proofs.Common.{◌∙◌, ◌∷◌, ◌++◌, [], ap, map}
use Rattle.std.specs.Prelude.{slice_index_or}
use Rattle.link_rules.specs.Places.{Bytes}
use Rattle.link_db.specs.Database.{symbol_names}
use Rattle.link_db.specs.Seen.{seen}
use Rattle.link_resolve.proofs.Settling.{name-more}
use Rattle.link_resolve.proofs.undefined.names_of.Goals as goal

-- one name more
pub loop-id-preserved : goal.loop-id-preserved
loop-id-preserved g c =
    let all = symbol_names (seen c.args.db.now) in
    let old = c.loop-id.names.items in
    let name = c.in_ok-from_slice.ensures ∙ c.as_slice.ensures in
    name-more all c.args.ids.now c.loop-id.id-index c.id-item.result c.symbol_name.result old c.push.new.self.items (map (λ s. slice_index_or all s []) c.args.ids.now)
    c.loop-id-test.true c.id-item.is c.symbol_name.ensures (c.in_ok-push.ensures.items ∙ ap (λ (n : Bytes). old ++ n ∷ []) name) c.loop-id.invariant
