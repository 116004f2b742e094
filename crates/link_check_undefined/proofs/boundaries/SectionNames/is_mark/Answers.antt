use Rattle.std.proofs.Common.{◌||◌, ◌∙◌, ap, codes, sym}
use Rattle.link_check_undefined.specs.Made.{is_mark_behind}
use Rattle.link_check_undefined.proofs.Behind.{mark-either}
use Rattle.link_check_undefined.proofs.boundaries.SectionNames.is_mark.Goals as goal

pub returns-then-has_behind : goal.returns-then-has_behind
returns-then-has_behind c =
    let sections = c.args.self.now in
    let name = c.args.name.now in
    c.if-has_behind.true
    ∙ (ap (λ b. b || is_mark_behind (codes "__stop_") sections name) (sym (sym c.has_behind.ensures ∙ c.if-has_behind.true))
    ∙ mark-either sections name (codes "__start_") (codes "__stop_"))

pub returns-else-has_behind : goal.returns-else-has_behind
returns-else-has_behind c =
    let sections = c.args.self.now in
    let name = c.args.name.now in
    c.has_behind-else-has_behind.ensures
    ∙ (ap (λ b. b || is_mark_behind (codes "__stop_") sections name) (sym (sym c.has_behind.ensures ∙ c.if-has_behind.false))
    ∙ mark-either sections name (codes "__start_") (codes "__stop_"))
