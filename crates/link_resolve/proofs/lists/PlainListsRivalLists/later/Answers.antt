use Rattle.std.proofs.Common.{◌∙◌, sym}
use Rattle.link_db_texts.specs.Holds.{platform_of}
use Rattle.link_db.specs.Seen.{seen}
use Rattle.link_resolve.proofs.Behind.{plain-later}
use Rattle.link_resolve.proofs.lists.PlainListsRivalLists.later.Goals as goal

pub returns-then-not-is_head : goal.returns-then-not-is_head
returns-then-not-is_head g c =
    let lists = c.args.self.now in
    sym (lists.marked.plain c.args.id (sym c.is_head.ensures ∙ c.if-not-is_head.true)) ∙ plain-later (platform_of g.P.Platform) (seen lists.db.now) lists.listed c.args.id

pub returns : goal.returns
returns g c =
    c.later_definitions.ensures.value ∙ plain-later (platform_of g.P.Platform) (seen c.args.self.now.db.now) c.args.self.now.listed c.args.id
