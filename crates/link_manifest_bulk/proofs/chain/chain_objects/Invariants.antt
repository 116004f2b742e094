use Rattle.std.proofs.Common.{◌≡◌, map}
use Rattle.std.specs.List.{range_with_len}
use Rattle.link_manifest_bulk.specs.Chain.{chain_object}
use Rattle.link_manifest_bulk.proofs.chain.chain_objects.Given as goal

-- the objects of the places so far
abbrev pub invariant-loop-place : goal.invariant-loop-place
invariant-loop-place l = l.objects.items ≡ map (chain_object l.members) (range_with_len 0 l.place)
