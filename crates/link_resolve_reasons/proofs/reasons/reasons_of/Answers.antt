use Rattle.std.proofs.Common.{◌≡◌, ◌++◌, ◌∷◌, ◌+◌, ◌∙◌, ℕ, List, Bool, false, get_or, drop, refl, ap, arith}
use Rattle.std.proofs.lemmas.Grind.{common_steps}
use Rattle.link_rules.specs.declared.explanation.LoadedReason.{LoadedReason}
use Rattle.link_rules.specs.Places.{some_from}
use Rattle.link_resolve_reasons.specs.Known.{known_by}
use Rattle.link_resolve_reasons.specs.Told.{KnownObjects, loaded_reason, reasons_in}
use Rattle.link_resolve_reasons.proofs.Lists.{some-more}
use Rattle.link_resolve_reasons.proofs.reasons.reasons_of.Goals as goal

-- one object more
pub loop-object-preserved : goal.loop-object-preserved
loop-object-preserved c =
    let k : KnownObjects = known_by c.args.known.now in
    let loaded : List Bool = c.args.loaded.now in
    let i : ℕ = c.loop-object.object in
    let next : drop i loaded ≡ get_or loaded i false ∷ drop (i + 1) loaded = grind (arith, common_steps) in
    ap (λ (rs : List LoadedReason). rs ++ some_from (loaded_reason k) (i + 1) (drop (i + 1) loaded)) c.in_ok-push_reason.ensures
    ∙ some-more (loaded_reason k) c.loop-object.reasons.items (reasons_in k loaded) i i (i + 1) (get_or loaded i false) (loaded_reason k i (get_or loaded i false))
    (drop i loaded) (drop (i + 1) loaded) refl next refl refl c.loop-object.invariant
