use Rattle.std.proofs.Common.{◌≡◌, length}
use Rattle.link_db_buckets.specs.Heads.{hashes_of}
use Rattle.link_db_buckets.specs.Walks.{AreHung, AreTold}
use Rattle.link_db_buckets.proofs.places.Places.remake.Given as goal

abbrev pub invariant-loop-place : goal.invariant-loop-place
invariant-loop-place l = (length l.self.slots.items ≡ l.slots) × (length l.self.forks.items ≡ length l.heads) × AreHung l.self.slots.items l.self.forks.items (hashes_of l.heads) l.place × AreTold l.self.filter (hashes_of l.heads) l.place
