use Rattle.link_db.proofs.Causes.{tells-through}
use Rattle.link_resolve.specs.Resolving.{loading_cause}
use Rattle.link_resolve.proofs.resolver.Resolver.resolve_symbols_and_select_archive_entries.Goals as goal

pub returns-in_err-read-clause-cause : goal.returns-in_err-read-clause-cause
returns-in_err-read-clause-cause g c = λ demangle w at marks loaded.
    tells-through _ (loading_cause w marks) c.in_err-read.field-0.0 c.from_residual.result c.from_residual.ensures.0 c.from_residual.ensures.1
    (c.in_err-read.ensures.cause demangle w at marks loaded)
