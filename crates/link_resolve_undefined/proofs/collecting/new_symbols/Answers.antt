use Rattle.std.proofs.Common.{◌≡◌, ◌∙◌, ◌+◌, ℕ, List, Some, None, [], ap, drop, option_map, if◌then◌else◌, sym, arith}
use Rattle.std.specs.List.{position_from}
use Rattle.std.specs.Option.{option_or}
use Rattle.std.proofs.lemmas.Grind.{common_steps}
use Rattle.std.proofs.lemmas.Iterator.Adapters.{position_from-zero}
use Rattle.link_db_files.specs.GroupFiles.{symbols_in}
use Rattle.link_rules.specs.Undefined.{Numbered, asks_same}
use Rattle.link_resolve_undefined.specs.Keys.{same_name, version_of}
use Rattle.link_resolve_undefined.specs.NameIds.{id_in}
use Rattle.link_resolve_undefined.specs.Records.{numbered_at}
use Rattle.link_resolve_undefined.proofs.Alike.{drop-next, or-none, place-step}
use Rattle.link_resolve_undefined.proofs.collecting.new_symbols.Goals as goal

pub loop-place-preserved : goal.loop-place-preserved
loop-place-preserved g c = λ x.
    let symbols = symbols_in c.args.files.now.groups in
    let makers = c.args.makers.now in
    let first = c.args.first_new in
    let i = c.loop-place.place in
    let old = id_in c.loop-place.made x.name x.version in
    let new = id_in c.note_first.new.self x.name x.version in
    let is : new ≡ option_or old (if same_name c.of.result.name.now (version_of c.of.result) x.name x.version then Some (first + i) else None) = c.in_ok-note_first.ensures x.name x.version ∙ (λ j. option_or old (if same_name c.of.result.name.now (version_of c.of.result) x.name x.version then Some (c.as_usize.ensures.value j + i) else None)) in
    place-step symbols c.of.result first i c.index-makers-place.result (drop (i + 1) makers) c.of.ensures.0 x old new c.of.ensures.1.0 c.of.ensures.1.1 is
    ∙ (ap (λ (ids : List ℕ). option_or old (option_map (λ k. first + k) (position_from (λ (m : Numbered). asks_same m.1 x) i (numbered_at symbols ids)))) (sym (drop-next makers i c.index-makers-place.result c.loop-place-test.true c.index-makers-place.is))
    ∙ c.loop-place.invariant x)

pub returns : goal.returns
returns g c = λ x.
    let over : drop c.loop-place.place c.args.makers.now ≡ [] = grind (arith, common_steps) in
    let records = numbered_at (symbols_in c.args.files.now.groups) c.args.makers.now in
    let f = λ (k : ℕ). c.args.first_new + k in
    let p = λ (m : Numbered). asks_same m.1 x in
    or-none (id_in c.loop-place.made x.name x.version)
    ∙ ((rw over at (c.loop-place.invariant x)) ∙ ap (option_map f) (sym (position_from-zero p records)))
