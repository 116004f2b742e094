use Rattle.std.proofs.Common.{◌≡◌, [], Some, sym, ap, ◌∙◌, refl, arith}
use Rattle.json.specs.Json.{value}
use Rattle.json.specs.Lex.{tokens}
use Rattle.serde_json.specs.Read.{converted, of_json}
use Rattle.link_manifest_json.specs.Tree.{view}
use Rattle.link_manifest_json.proofs.runs.item_read.Goals as goal

pub returns : goal.returns
returns g c =
    let v = c.in_ok-value.value in
    let begun : c.in_ok-reader.reader ≡ tokens c.args.text.now = c.in_ok-reader.ensures.ok in
    let over : c.read.new.reader ≡ [] = grind arith in (
      v,
      ap (λ r. converted of_json (value 125 r)) (sym begun) ∙ c.in_ok-value.ensures.ok ∙ ap (λ r. Some (view v, r)) over,
      record { shown = _; shows = refl; says = record { met = c.f.ensures } },
    )
