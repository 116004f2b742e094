use Rattle.std.proofs.Common.{◌≡◌, ◌<◌, ◌+◌, ◌∙◌, ℕ, List, Option, ap, arith, length, refl}
use Rattle.std.specs.Prelude.{unwrap_or}
use Rattle.link_core_answer.specs.Seen.{seen}
use Rattle.link_db.specs.Database.{Database}
use Rattle.link_db_files.specs.GroupFiles.{symbols_in}
use Rattle.link_db_files.specs.HeldFiles.{HeldFiles}
use Rattle.link_input.specs.ObjectFile.{ObjectFile}
use Rattle.link_input_groups.specs.declared.group.Group.{Group}
use Rattle.link_resolve_discarded.specs.Indexed.{index_at}
use Rattle.link_resolve_discarded.specs.Signatures.{first_id}
use Rattle.link_resolve_discarded.proofs.Numbered.{first-there}
use Rattle.link_gc.proofs.AllEdges.{first-of-stage, named-below, objects-all, objects-next}
use Rattle.link_gc.proofs.edges.edges.Goals as goal

-- there is room for the symbols of the object
pub push_references-requires : goal.push_references-requires
push_references-requires g c =
    let x = seen c.args.linked.now in
    let groups = x.db.mapping.files.groups in
    let objects = c.args.objects.now in
    let i = c.loop-object.object-index in
    let o = c.object-item.result in
    let firsts = c.in_ok-firsts.firsts.items in
    let place : c.object.inside.place ≡ o.0 = ap (λ (p : ℕ × ObjectFile). p.0) c.object.view_is in
    let held : c.files.result.now.groups ≡ groups = ap (λ (f : HeldFiles g.row.P.Denot). f.groups) (c.files.ensures ∙ ap (λ (d : Database g.row.P.Denot). d.mapping.files) c.db.ensures) in
    let read : c.first_symbol-first.result ≡ unwrap_or (index_at firsts c.object.inside.place) 0 =
    c.first_symbol-first.ensures ∙ ap (λ (ids : List (Option ℕ)). unwrap_or (index_at ids c.object.inside.place) 0) c.deref.ensures.value in
    let noted : (f : ℕ) → f < length objects → index_at firsts f ≡ first_id f 0 (symbols_in groups) =
    λ f lt. c.in_ok-firsts.ensures f lt ∙ ap (λ (gs : List (Group g.row.P.Denot)). first_id f 0 (symbols_in gs)) held in
    let first = first-there groups objects i (length objects) c.object.inside.place c.first_symbol-first.result o firsts c.requires.objects c.loop-object-test.true c.object-item.is refl place read noted in
    record { room = named-below x (c.first_symbol-first.result + length o.1.object.symbols) first.1 }

-- one object more
pub loop-object-preserved : goal.loop-object-preserved
loop-object-preserved g c =
    let x = seen c.args.linked.now in
    let groups = x.db.mapping.files.groups in
    let objects = c.args.objects.now in
    let i = c.loop-object.object-index in
    let o = c.object-item.result in
    let firsts = c.in_ok-firsts.firsts.items in
    let place : c.object.inside.place ≡ o.0 = ap (λ (p : ℕ × ObjectFile). p.0) c.object.view_is in
    let held : c.files.result.now.groups ≡ groups = ap (λ (f : HeldFiles g.row.P.Denot). f.groups) (c.files.ensures ∙ ap (λ (d : Database g.row.P.Denot). d.mapping.files) c.db.ensures) in
    let read : c.first_symbol-first.result ≡ unwrap_or (index_at firsts c.object.inside.place) 0 =
    c.first_symbol-first.ensures ∙ ap (λ (ids : List (Option ℕ)). unwrap_or (index_at ids c.object.inside.place) 0) c.deref.ensures.value in
    let noted : (f : ℕ) → f < length objects → index_at firsts f ≡ first_id f 0 (symbols_in groups) =
    λ f lt. c.in_ok-firsts.ensures f lt ∙ ap (λ (gs : List (Group g.row.P.Denot)). first_id f 0 (symbols_in gs)) held in
    let first = first-there groups objects i (length objects) c.object.inside.place c.first_symbol-first.result o firsts c.requires.objects c.loop-object-test.true c.object-item.is refl place read noted in
    record {
      edges = λ s of are placed.
          objects-next s objects i o c.loop-object.edges.items c.push_references.new.edges.items c.push_groups.new.edges.items c.loop-object-test.true c.object-item.is (c.loop-object.invariant.edges s of are placed)
          (c.in_ok-push_references.ensures.edges s of are placed (first-of-stage s x of o.0 c.first_symbol-first.result first.0)) (c.in_ok-push_groups.ensures.edges s are);
      in_range = c.in_ok-push_groups.ensures.in_range (c.in_ok-push_references.ensures.in_range c.requires.placed c.loop-object.invariant.in_range);
    }

-- the edges are those of all objects
pub returns-clause-edges : goal.returns-clause-edges
returns-clause-edges g c = λ s of are placed.
    objects-all s (seen c.args.linked.now) c.args.objects.now c.loop-object.object-index c.loop-object.edges.items of c.requires.objects (omega arith) (c.loop-object.invariant.edges s of are placed)
