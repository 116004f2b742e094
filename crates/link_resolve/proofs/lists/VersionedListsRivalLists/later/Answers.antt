use Rattle.std.proofs.Common.{◌∙◌, sym}
use Rattle.link_db_texts.specs.Holds.{platform_of}
use Rattle.link_db.specs.Seen.{seen}
use Rattle.link_resolve.proofs.Behind.{versioned-later}
use Rattle.link_resolve.proofs.lists.VersionedListsRivalLists.later.Goals as goal

pub returns-then-not-is_head : goal.returns-then-not-is_head
returns-then-not-is_head g c =
    let lists = c.args.self.now in
    sym (lists.marked.versioned c.args.id (sym c.is_head.ensures ∙ c.if-not-is_head.true)) ∙ versioned-later (platform_of g.P.Platform) (seen lists.db.now) lists.listed c.args.id

pub returns : goal.returns
returns g c =
    c.later_versioned_definitions.ensures.value ∙ versioned-later (platform_of g.P.Platform) (seen c.args.self.now.db.now) c.args.self.now.listed c.args.id
