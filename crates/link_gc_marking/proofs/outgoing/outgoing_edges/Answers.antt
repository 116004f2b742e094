use Rattle.std.proofs.Common.{rules}
use Rattle.std.specs.Prelude.{nat_le, nat_lt}
use Rattle.std.proofs.lemmas.List.Sorted.{IsPartitionPoint-from_clause, IsPartitionedBy-leb, IsPartitionedBy-ltb}
use Rattle.link_closure.specs.declared.Edge.{Edge}
use Rattle.link_gc_marking.proofs.Runs.{outgoing-found}
use Rattle.link_gc_marking.proofs.outgoing.outgoing_edges.Goals as goal

pub returns : goal.returns
returns c =
    let edges = c.args.edges.now in
    let node = c.args.node in
    outgoing-found edges node c.partition_point-start.result c.partition_point-end.result c.partition_point-start.ensures.bound c.partition_point-end.ensures.bound
    (IsPartitionPoint-from_clause (λ (e : Edge). nat_lt e.from node) edges c.partition_point-start.result c.partition_point-start.ensures.partitioned
    (IsPartitionedBy-ltb (λ (e : Edge). e.from) edges node c.requires) (λ a r f' h. search rules))
    (IsPartitionPoint-from_clause (λ (e : Edge). nat_le e.from node) edges c.partition_point-end.result c.partition_point-end.ensures.partitioned
    (IsPartitionedBy-leb (λ (e : Edge). e.from) edges node c.requires) (λ a r f' h. search rules))
