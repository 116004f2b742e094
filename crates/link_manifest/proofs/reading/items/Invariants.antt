use Rattle.std.proofs.Common.{◌≡◌, ◌++◌, Ok, drop}
use Rattle.link_manifest_json.specs.Tree.{items_view}
use Rattle.link_manifest.specs.Reading.{and_read, items_read}
use Rattle.link_manifest.proofs.reading.items.Given as goal

-- what is left is read exactly where all is, and then comes behind what was read
abbrev pub invariant-loop-place : goal.invariant-loop-place
invariant-loop-place g l =
    and_read (items_read g.K.Readable.read l.place (items_view (drop l.place l.values))) (λ others. Ok (l.read.items ++ others))
    ≡ and_read (items_read g.K.Readable.read 0 (items_view l.values)) (λ others. Ok (l.fn.before.items ++ others))
