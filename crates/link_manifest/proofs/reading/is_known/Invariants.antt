use Rattle.std.proofs.Common.{◌≡◌, map, drop}
use Rattle.std.specs.List.{list_any}
use Rattle.std.specs.Str.{bytes_eq}
use Rattle.link_manifest.proofs.reading.is_known.Given as goal

abbrev pub invariant-loop-name : goal.invariant-loop-name
invariant-loop-name l = list_any (λ k. bytes_eq k l.key) (map (λ k. k.now) (drop l.name-index l.known)) ≡ list_any (λ k. bytes_eq k l.key) (map (λ k. k.now) l.known)
