use Rattle.std.proofs.Common.{List, ap, subst, sym}
use Rattle.link_flags.specs.FlagWords.{words_of}
use Rattle.link_db_texts.specs.Holds.{platform_of}
use Rattle.link_db.specs.Seen.{seen}
use Rattle.link_core.specs.declared.batch_size.BatchSize.{BatchSize}
use Rattle.link_core.specs.Sizes.{batches_in}
use Rattle.link_core.specs.Standing.{IsStanding}
use Rattle.link_core.proofs.Standing.{options-new, stands-new}
use Rattle.link_core.proofs.standing_link.StandingLink.open.Goals as goal

-- no batch came yet
pub returns-clause-standing : goal.returns-clause-standing
returns-clause-standing g c = λ demangle.
    let link = c.in_ok-link.link in
    subst (λ (sizes : List BatchSize). IsStanding (platform_of g.P.Platform) demangle c.args.texts sizes (seen link.db) (words_of link.flags) link.resolver c.new-found.result) (sym c.new-sizes.ensures.items)
    (stands-new (platform_of g.P.Platform) demangle c.args.texts c.args.options (seen link.db) (words_of link.flags) link.resolver c.new-found.result (c.in_ok-link.ensures.new demangle) c.in_ok-link.ensures.steady
    c.new-found.ensures)

pub returns-clause-options : goal.returns-clause-options
returns-clause-options g c =
    let link = c.in_ok-link.link in
    options-new (platform_of g.P.Platform) (λ name. name) c.args.texts c.args.options (seen link.db) (words_of link.flags) link.resolver (c.in_ok-link.ensures.new (λ name. name))

pub returns-clause-batches : goal.returns-clause-batches
returns-clause-batches g c = ap (λ (sizes : List BatchSize). batches_in sizes (seen c.in_ok-link.link.db).mapping.files.groups) c.new-sizes.ensures.items
