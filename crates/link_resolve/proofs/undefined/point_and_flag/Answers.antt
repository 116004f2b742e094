use Rattle.std.proofs.Common.{◌≡◌, ◌+◌, ◌<◌, ◌∙◌, ℕ, List, [], ap, arith, length, map, subst}
use Rattle.std.specs.Prelude.{slice_index_or}
use Rattle.std.proofs.lemmas.List.{length-map}
use Rattle.std.proofs.lemmas.List.Elements.{All-weaker}
use Rattle.link_db_files.specs.GroupFiles.{symbols_in}
use Rattle.link_rules.specs.Undefined.{Numbered, boundary_makers, left_undefined}
use Rattle.link_resolve_undefined.specs.Asked.{AreBelow, makers_in}
use Rattle.link_resolve_undefined.specs.Records.{numbered_at}
use Rattle.link_db.specs.Database.{symbol_names}
use Rattle.link_db.specs.Seen.{seen}
use Rattle.link_resolve.proofs.Settling.{count-symbols, names-made-for, told-of}
use Rattle.link_resolve.proofs.undefined.point_and_flag.Goals as goal

pub returns-clause-names : goal.returns-clause-names
returns-clause-names g c = λ l. λ settled. λ sections.
    let db = seen c.args.db.now in
    let symbols = symbols_in c.files-files.result.now.groups in
    let tells = told-of db c.args.resolved.now c.files-files.result.now c.loaded.result.now c.targets.result.now l settled c.files-files.ensures c.loaded.ensures c.targets.ensures in
    let records : numbered_at symbols c.as_slice-left.result.now ≡ left_undefined l = ap (numbered_at symbols) c.as_slice-left.ensures.value ∙ c.in_ok-left.ensures.records l tells in
    let asked = c.in_ok-asked.ensures.asked l.stage (record { symbols_are = tells.symbols_are; sections_are = sections }) in
    c.in_ok-new_names.ensures
    ∙ ap (map (λ (s : ℕ). slice_index_or (symbol_names db) s []))
    (c.makers.ensures ∙ asked.makers ∙ ap (λ (left : List Numbered). map (λ (u : Numbered). u.0) (boundary_makers l.stage left)) records)
    ∙ names-made-for db c.args.resolved.now l settled c.requires.added

pub returns-clause-inside : goal.returns-clause-inside
returns-clause-inside g c = λ all.
    let db = seen c.args.db.now in
    let count = length (symbol_names db) in
    let asked = c.in_ok-asked.asked in
    let symbols = symbols_in c.files-files.result.now.groups in
    let same : length symbols ≡ count = count-symbols c.files-files.result.now db.mapping.files c.files-files.ensures c.requires.added in
    let many : length c.in_ok-new_names.new_names.items ≡ length (makers_in asked) =
    ap length c.in_ok-new_names.ensures ∙ length-map c.makers.result.now (λ (s : ℕ). slice_index_or (symbol_names db) s []) ∙ ap length c.makers.ensures in
    let high = count + length c.in_ok-new_names.new_names.items in
    let both : length symbols + length (makers_in asked) ≡ high = omega (arith, same, many) in
    let below : AreBelow high asked = subst (λ (n : ℕ). AreBelow n asked) both c.in_ok-asked.ensures.below in
    c.in_ok-point_undefined.ensures.below high below (omega (arith, same)) (All-weaker (λ t. t < count) (λ t. t < high) (λ t lt. omega (arith, lt)) c.args.table.now.items all)
