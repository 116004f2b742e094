use Rattle.std.proofs.Common.{◌∙◌, length, map, ap, refl, arith}
use Rattle.std.proofs.lemmas.List.{length-map}
use Rattle.link_input.specs.InputFiles.{object, linker_script, stub_input, section_count, symbol_count, batch_of}
use Rattle.link_input.specs.Limits.{total}
use Rattle.link_input_groups.specs.declared.sequencing.NextIds.{NextIds}
use Rattle.link_input_groups.specs.Cut.{symbol_limit, symbols_in}
use Rattle.link_input_groups.proofs.Whole.{joined-files, joined-both, joined-one, symbols-of-objects, sections-of-objects, count-cuts, few-cuts, in-batch, groups-added, added-all, cut-as}
use Rattle.link_input_groups.proofs.Following.{first-length, follow}
use Rattle.link_input_groups.proofs.grouping.groups_within_limits.Goals as goal

pub cut_objects-requires-clause-fits : goal.cut_objects-requires-clause-fits
cut_objects-requires-clause-fits g c =
    let inputs = c.args.inputs in
    rw c.into_vec.ensures (omega (arith, symbols-of-objects inputs.objects, in-batch symbol_count (batch_of inputs), c.requires.limits.symbols))

pub push_object_groups-requires-clause-group : goal.push_object_groups-requires-clause-group
push_object_groups-requires-clause-group g c =
    let cuts = c.in_ok-cuts.cuts.items in
    let cut = c.in_ok-cuts.ensures in
    omega (arith, ap length c.in_ok-groups.ensures, first-length c.args.options.now c.args.held.now, length-map cuts (λ v. v.items), count-cuts (map (λ v. v.items) cuts) cut.some, ap length cut.joined, ap length c.into_vec.ensures, c.requires.room)

pub push_object_groups-requires-clause-few : goal.push_object_groups-requires-clause-few
push_object_groups-requires-clause-few g c =
    few-cuts (λ v. v.items) c.args.options.now.files_per_group c.symbol_limit-limit.result c.in_ok-cuts.cuts.items c.requires.files.1 c.in_ok-cuts.ensures.within

pub push_object_groups-requires-clause-symbols : goal.push_object_groups-requires-clause-symbols
push_object_groups-requires-clause-symbols g c =
    let inputs = c.args.inputs in
    let files = joined-files (λ v. v.items) c.in_ok-cuts.cuts.items ∙ ap (map object) (c.in_ok-cuts.ensures.joined ∙ c.into_vec.ensures) in
    omega (arith, ap (total symbol_count) files, in-batch symbol_count (batch_of inputs), c.requires.limits.symbols)

pub push_object_groups-requires-clause-sections : goal.push_object_groups-requires-clause-sections
push_object_groups-requires-clause-sections g c =
    let inputs = c.args.inputs in
    let files = joined-files (λ v. v.items) c.in_ok-cuts.cuts.items ∙ ap (map object) (c.in_ok-cuts.ensures.joined ∙ c.into_vec.ensures) in
    omega (arith, ap (total section_count) files, sections-of-objects inputs.objects, c.requires.limits.sections)

pub push_scripts-requires-clause-group : goal.push_scripts-requires-clause-group
push_scripts-requires-clause-group g c =
    let cuts = c.in_ok-cuts.cuts.items in
    let cut = c.in_ok-cuts.ensures in
    omega (arith, c.in_ok-push_object_groups.ensures.each, ap length c.in_ok-groups.ensures, first-length c.args.options.now c.args.held.now, length-map cuts (λ v. v.items), count-cuts (map (λ v. v.items) cuts) cut.some, ap length cut.joined, ap length c.into_vec.ensures, c.requires.room)

pub push_scripts-requires-clause-symbols : goal.push_scripts-requires-clause-symbols
push_scripts-requires-clause-symbols g c =
    let inputs = c.args.inputs in
    let files = joined-both (λ v. v.items) c.in_ok-cuts.cuts.items ∙ ap (map object) (c.in_ok-cuts.ensures.joined ∙ c.into_vec.ensures) in
    let scripts = ap (λ l. total symbol_count (map linker_script l)) c.into_vec-2.ensures in
    omega (arith, scripts, c.in_ok-push_object_groups.ensures.adds.symbols, ap (total symbol_count) files, in-batch symbol_count (batch_of inputs), c.requires.limits.symbols)

pub push_stubs-requires-clause-group : goal.push_stubs-requires-clause-group
push_stubs-requires-clause-group g c =
    let cuts = c.in_ok-cuts.cuts.items in
    let cut = c.in_ok-cuts.ensures in
    omega (arith, c.in_ok-push_scripts.ensures.one, c.in_ok-push_object_groups.ensures.each, ap length c.in_ok-groups.ensures, first-length c.args.options.now c.args.held.now, length-map cuts (λ v. v.items), count-cuts (map (λ v. v.items) cuts) cut.some, ap length cut.joined, ap length c.into_vec.ensures, c.requires.room)

pub push_stubs-requires-clause-symbols : goal.push_stubs-requires-clause-symbols
push_stubs-requires-clause-symbols g c =
    let inputs = c.args.inputs in
    let files = joined-both (λ v. v.items) c.in_ok-cuts.cuts.items ∙ ap (map object) (c.in_ok-cuts.ensures.joined ∙ c.into_vec.ensures) in
    let scripts = joined-one (map linker_script c.into_vec-2.result.items) ∙ ap (map linker_script) c.into_vec-2.ensures in
    let stubs = ap (λ l. total symbol_count (map stub_input l)) c.into_vec-3.ensures in
    omega (arith, stubs, c.in_ok-push_scripts.ensures.adds.symbols, ap (total symbol_count) scripts, c.in_ok-push_object_groups.ensures.adds.symbols, ap (total symbol_count) files, in-batch symbol_count (batch_of inputs), c.requires.limits.symbols)

pub returns-clause-follow : goal.returns-clause-follow
returns-clause-follow g c = λ batches are.
    let batch = batch_of c.args.inputs in
    let options = c.args.options.now in
    let held = c.args.held.now in
    let cuts = map (λ v. v.items) c.in_ok-cuts.cuts.items in
    let first : NextIds = record { symbols = c.args.before.symbols; sections = c.args.before.sections } in
    let added = added-all options held batch (λ v. v.items) c.in_ok-cuts.cuts.items c.into_vec-2.result.items c.into_vec-3.result.items c.in_ok-groups.groups.items c.push_object_groups.new.groups.items c.push_scripts.new.groups.items c.push_stubs.new.groups.items first c.push_object_groups.new.next c.push_scripts.new.next c.push_stubs.new.next c.in_ok-groups.ensures c.into_vec-2.ensures c.into_vec-3.ensures c.in_ok-push_object_groups.ensures.adds c.in_ok-push_scripts.ensures.adds c.in_ok-push_stubs.ensures in
    follow options batches batch held c.push_stubs.new.groups.items c.args.before first cuts are c.requires.before refl added (c.in_ok-cuts.ensures.joined ∙ c.into_vec.ensures) c.in_ok-cuts.ensures.some c.requires.limits

pub returns-clause-groups : goal.returns-clause-groups
returns-clause-groups g c =
    let batch = batch_of c.args.inputs in
    let options = c.args.options.now in
    let held = c.args.held.now in
    let cuts = map (λ v. v.items) c.in_ok-cuts.cuts.items in
    let first : NextIds = record { symbols = c.args.before.symbols; sections = c.args.before.sections } in
    let added = added-all options held batch (λ v. v.items) c.in_ok-cuts.cuts.items c.into_vec-2.result.items c.into_vec-3.result.items c.in_ok-groups.groups.items c.push_object_groups.new.groups.items c.push_scripts.new.groups.items c.push_stubs.new.groups.items first c.push_object_groups.new.next c.push_scripts.new.next c.push_stubs.new.next c.in_ok-groups.ensures c.into_vec-2.ensures c.into_vec-3.ensures c.in_ok-push_object_groups.ensures.adds c.in_ok-push_scripts.ensures.adds c.in_ok-push_stubs.ensures in
    let counted = c.object_symbols.ensures.value ∙ ap (λ l. total symbol_count (map object l)) c.as_slice.ensures ∙ symbols-of-objects batch.objects in
    let limit = c.symbol_limit-limit.ensures ∙ ap (symbol_limit c.args.workers) counted in
    let is_cut = cut-as options.files_per_group c.symbol_limit-limit.result (symbol_limit c.args.workers (symbols_in batch.objects)) c.into_vec.result.items batch.objects cuts limit c.into_vec.ensures c.in_ok-cuts.ensures in
    groups-added options held batch first c.args.workers cuts c.push_stubs.new.groups.items is_cut added
