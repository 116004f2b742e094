use Rattle.std.proofs.Common.{◌∙◌, ap, sym}
use Rattle.link_rules.specs.Places.{is_number}
use Rattle.link_resolve_explanation.specs.Gathered.{head_in, row_in}
use Rattle.link_resolve_explanation.proofs.HeadedLists.{behind-none, behind-own}
use Rattle.link_resolve_explanation.proofs.gathering.GatheredListsRivalLists.later.Goals as goal

pub returns-then-is_head : goal.returns-then-is_head
returns-then-is_head c =
    let lists = c.args.self.now in
    let id = c.args.id in
    c.row_in.ensures ∙ ap (λ rows. row_in rows c.as_usize.result) c.as_slice-then-is_head.ensures.value ∙ ap (row_in lists.rows.items) c.as_usize.ensures.value
    ∙ lists.behind id c.requires
    ∙ behind-own lists.heads.items id (sym (ap (λ heads. is_number (head_in heads id) id) c.as_slice.ensures.value) ∙ sym c.is_head.ensures ∙ c.if-is_head.true)

pub returns-else-is_head : goal.returns-else-is_head
returns-else-is_head c =
    let lists = c.args.self.now in
    let id = c.args.id in
    behind-none lists.heads.items id (sym (ap (λ heads. is_number (head_in heads id) id) c.as_slice.ensures.value) ∙ sym c.is_head.ensures ∙ c.if-is_head.false)
