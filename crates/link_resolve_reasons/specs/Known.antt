-- What a contract sees of what is known of the objects of a link.
use Rattle.link_resolve_reasons.specs.declared.reasons.KnownObjects.{KnownObjects as Lent}
use Rattle.link_resolve_reasons.specs.Told.{KnownObjects}

-- what is lent
abbrev pub known_by : Lent → KnownObjects
known_by k = record {
  mandatory = k.mandatory.now;
  roots = k.roots.now;
  first_roots = k.first_roots.now;
  requests = k.requests.now;
  first_requests = k.first_requests.now;
}
