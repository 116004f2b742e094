use Rattle.std.proofs.Common.{Bool, Some, sym, subst, ◌∙◌}
use Rattle.link_rules.specs.Rules.{list_of}
use Rattle.link_db_texts.specs.Holds.{IsListIf, exported_entries, platform_of}
use Rattle.link_db_texts.proofs.reading.exported_list.Goals as goal

pub returns-then-is_listing-clause-list : goal.returns-then-is_listing-clause-list
returns-then-is_listing-clause-list g c =
    let names = list_of (platform_of g.P.Platform) c.args.profile c.args.text.now in
    subst (λ (b : Bool). IsListIf b (exported_entries names c.args.forced.now) names.required (Some c.add_forced.new.list)) (sym (sym c.is_listing.ensures ∙ c.if-is_listing.true))
    (c.in_ok-add_forced.ensures.added names.entries names.required c.in_ok-list.ensures.list)
