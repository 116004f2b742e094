use Rattle.std.proofs.Common.{◌∙◌, Bool, None, ap, sym, if◌then◌else◌}
use Rattle.link_check_targets.specs.Tables.{target_by}
use Rattle.link_check_targets.proofs.targets.reference_target.Goals as goal

pub returns-then-is_reference : goal.returns-then-is_reference
returns-then-is_reference c = λ weak told.
    c.target_of.ensures weak told
    ∙ sym (ap (λ (b : Bool). if b then target_by weak c.args.names.now c.args.symbol.now else None) (sym c.is_reference.ensures ∙ c.if-is_reference.true))
