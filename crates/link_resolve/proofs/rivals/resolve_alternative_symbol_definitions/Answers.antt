use Rattle.link_db_texts.specs.Holds.{platform_of}
use Rattle.link_db.specs.Seen.{seen}
use Rattle.link_resolve.proofs.Settling.{settled-by}
use Rattle.link_resolve.proofs.rivals.resolve_alternative_symbol_definitions.Goals as goal

pub returns-in-Ok-clause-settled : goal.returns-in-Ok-clause-settled
returns-in-Ok-clause-settled g c = λ demangle l is.
    settled-by (platform_of g.P.Platform) demangle (seen c.args.db) (seen c.settle_rivals.new.db) c.args.resolved.now l c.in-Ok.ensures.rest is
