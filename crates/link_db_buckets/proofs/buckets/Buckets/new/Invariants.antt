use Rattle.std.proofs.Common.{◌≡◌, ℕ, [], Option, None, Some, vec_len}
use Rattle.std.specs.Prelude.{slice_get}
use Rattle.std.specs.Option.{option_map_or}
use Rattle.link_db_buckets.specs.declared.bucket.Bucket.{Bucket}
use Rattle.link_db_buckets.specs.declared.label.Label.{Label}
use Rattle.link_db_buckets.specs.Bucket.{IsKeyed, definitions_in, hashes_in, overridden_in}
use Rattle.link_db_buckets.specs.Keys.{Key}
use Rattle.link_db_buckets.proofs.buckets.Buckets.new.Given as goal

abbrev pub invariant-loop : goal.invariant-loop
invariant-loop l = record {
  filled : vec_len l.buckets ≡ l.counter;
  keyed : (names : Label → Option Key) (k : ℕ) (b : Bucket) → slice_get l.buckets.items k ≡ Some b → IsKeyed names b;
  empty : (k : ℕ) (b : Bucket) → slice_get l.buckets.items k ≡ Some b → hashes_in b ≡ [];
  definitions : (names : Label → Option Key) (asked : Key) (k : ℕ) → option_map_or (λ b. definitions_in names b asked) (slice_get l.buckets.items k) [] ≡ [];
  overridden : (names : Label → Option Key) (asked : Key) (k : ℕ) → option_map_or (λ b. overridden_in names b asked) (slice_get l.buckets.items k) None ≡ None;
}
