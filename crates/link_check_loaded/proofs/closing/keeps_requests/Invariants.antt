use Rattle.std.proofs.Common.{◌≡◌, drop}
use Rattle.std.specs.BTreeMap.{get}
use Rattle.std.specs.Ordering.{nat_cmp}
use Rattle.link_check_loaded.specs.Accepted.{all_from, keeps_request}
use Rattle.link_check_loaded.proofs.closing.keeps_requests.Given as goal

abbrev pub invariant-loop-id : goal.invariant-loop-id
invariant-loop-id l =
    all_from (keeps_request (get nat_cmp l.ranks) l.requests) l.id (drop l.id l.symbols) ≡ all_from (keeps_request (get nat_cmp l.ranks) l.requests) 0 l.symbols
