use Rattle.std.proofs.Common.{◌≡◌, ◌∙◌, Bool, Option, ℕ, ap, sym, false}
use Rattle.std.specs.Prelude.{option_and_then}
use Rattle.link_rules.specs.Targets.{beside_in, is_open}
use Rattle.link_check_targets.specs.Tables.{table_of}
use Rattle.link_check_targets.proofs.Columns.{hidden-told}
use Rattle.link_check_targets.proofs.targets.target_of.Goals as goal

pub returns-else-is_open : goal.returns-else-is_open
returns-else-is_open c = λ weak told.
    let n = c.args.names.now in
    let u = c.args.symbol.now in
    let first = c.in_ok-first.first in
    let closed : is_open u ≡ false = sym c.is_open.ensures ∙ c.if-is_open.false in
    c.hidden_at.ensures
    ∙ (hidden-told weak n c.args.hidden.now first told
    ∙ (ap (λ (b : Bool). beside_in weak (table_of n) b first) (sym closed)
    ∙ ap (λ (o : Option ℕ). option_and_then (beside_in weak (table_of n) (is_open u)) o) c.in_ok-first.ensures))
