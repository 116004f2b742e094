use Rattle.std.proofs.Common.{◌≡◌, ◌∙◌, ◌+◌, ℕ, List, Some, [], ap, drop, if◌then◌else◌, sym, arith}
use Rattle.std.specs.List.{last_or}
use Rattle.std.proofs.lemmas.Grind.{common_steps}
use Rattle.link_db_files.specs.GroupFiles.{symbols_in}
use Rattle.link_resolve_undefined.specs.Keys.{same_name, version_of}
use Rattle.link_resolve_undefined.specs.NameIds.{id_in}
use Rattle.link_resolve_undefined.specs.Records.{numbered_at}
use Rattle.link_resolve_undefined.proofs.Alike.{drop-next, ids_asking, last-asking, last-step}
use Rattle.link_resolve_undefined.proofs.collecting.last_asked.Goals as goal

pub loop-id-preserved : goal.loop-id-preserved
loop-id-preserved g c = λ x.
    let symbols = symbols_in c.args.files.now.groups in
    let left = c.args.left.now in
    let behind = drop (c.loop-id.id-index + 1) left in
    let old = id_in c.loop-id.last x.name x.version in
    let new = id_in c.note.new.self x.name x.version in
    let is : new ≡ (if same_name c.of.result.name.now (version_of c.of.result) x.name x.version then Some c.id-item.result else old) =
    c.in_ok-note.ensures x.name x.version ∙ (λ i. if same_name c.of.result.name.now (version_of c.of.result) x.name x.version then Some (c.as_usize.ensures.value i) else old) in
    sym (last-step symbols c.of.result c.id-item.result behind c.of.ensures.0 x old new c.of.ensures.1.0 c.of.ensures.1.1 is)
    ∙ (ap (λ (ids : List ℕ). last_or old (ids_asking (numbered_at symbols ids) x)) (sym (drop-next left c.loop-id.id-index c.id-item.result c.loop-id-test.true c.id-item.is))
    ∙ c.loop-id.invariant x)

pub returns : goal.returns
returns g c = λ x.
    let over : drop c.loop-id.id-index c.args.left.now ≡ [] = grind (arith, common_steps) in
    (rw over at (c.loop-id.invariant x)) ∙ last-asking (numbered_at (symbols_in c.args.files.now.groups) c.args.left.now) x
