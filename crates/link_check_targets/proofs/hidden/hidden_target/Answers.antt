use Rattle.std.proofs.Common.{◌≡◌, ◌∙◌, ◌||◌, Bool, true, false, Some, ap, sym, if◌then◌else◌}
use Rattle.std.specs.Prelude.{not}
use Rattle.link_flags.specs.Pick.{pick}
use Rattle.link_rules.specs.Names.{later_definitions}
use Rattle.link_check_targets.specs.Tables.{is_shared_in, unshared}
use Rattle.link_check_targets.proofs.hidden.hidden_target.Goals as goal

pub returns-then-is_shared_in : goal.returns-then-is_shared_in
returns-then-is_shared_in c =
    let n = c.args.names.now in
    let weak = c.args.weak_overrides_common in
    let s = c.args.id in
    let shared : is_shared_in n.symbols s ≡ true = ap (λ l. is_shared_in l s) (sym c.symbols.ensures) ∙ (sym c.is_shared_in.ensures ∙ c.if-is_shared_in.true) in
    c.pick_unshared.ensures
    ∙ (ap (λ l. pick weak (unshared l c.later_definitions.result.now)) c.symbols-then-is_shared_in.ensures
    ∙ (ap (λ ids. pick weak (unshared n.symbols ids)) c.later_definitions.ensures
    ∙ sym (ap (λ (b : Bool). if false || not b then Some s else pick weak (unshared n.symbols (later_definitions n.symbols s))) shared)))
