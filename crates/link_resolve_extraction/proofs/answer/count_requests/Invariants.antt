use Rattle.std.proofs.Common.{◌≡◌, ◌+◌, drop}
use Rattle.link_resolve_extraction.specs.Answer.{requests_found}
use Rattle.link_resolve_extraction.proofs.answer.count_requests.Given as goal

-- with those of the items that are left there are as many as in all
abbrev pub invariant-loop-item : goal.invariant-loop-item
invariant-loop-item l = l.count + requests_found (drop l.item-index l.found) ≡ requests_found l.found
