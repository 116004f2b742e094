use Rattle.std.proofs.Common.{◌++◌, ◌∙◌, [], ◌∷◌, ap, map, ℕ, Option}
use Rattle.link_db_files.specs.Asked.{entry_asked}
use Rattle.link_db_files.proofs.Asking.{mapped-more}
use Rattle.link_db_files.proofs.asked.push_entries.Goals as goal

-- one entry more
pub loop-place-preserved : goal.loop-place-preserved
loop-place-preserved g c =
    let old = c.loop-place.asked.items in
    let entries = c.args.object.now.symbols in
    mapped-more entry_asked entries c.loop-place.place c.symbol_at.result old c.push.new.self.items (c.args.asked.now.items ++ map entry_asked entries) c.symbol_at.ensures
    (c.in_ok-push.ensures.items ∙ ap (λ (a : Option ℕ). old ++ a ∷ []) c.entry_asked.ensures) c.loop-place.invariant
