use Rattle.std.proofs.Common.{◌≡◌, ◌∷◌, ◌++◌, map}
use denote.Text.{Utf8}
use denote.Shadow.{shadow}
use Rattle.link_manifest_json.specs.Spans.{followed}
use Rattle.link_manifest_json.proofs.cutting.cut.Given as goal

abbrev pub invariant-items : goal.invariant-items
invariant-items l = shadow (Utf8 l.rest) × (l.text ≡ l.head ++ (91 ∷ followed (map (λ s. s.now) l.items.items) l.rest))
