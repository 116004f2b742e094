use Rattle.std.proofs.Common.{◌≡◌, ◌++◌}
use Rattle.link_db_files.specs.GroupFiles.{symbols_in}
use Rattle.link_db_files.specs.Sources.{sources_of}
use Rattle.link_rules.specs.Places.{some_from}
use Rattle.link_resolve_reasons.specs.Requests.{request_in, requests_in}
use Rattle.link_resolve_reasons.proofs.requests.requests.Given as goal

-- the requests so far, and those of the symbols that are left
abbrev pub invariant-loop-id : goal.invariant-loop-id
invariant-loop-id g l =
    l.found.items ++ some_from (request_in (sources_of (symbols_in l.files.groups)) l.targets) l.id-iterator.next l.id-iterator.left ≡ requests_in l.targets (symbols_in l.files.groups)
