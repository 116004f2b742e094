use Rattle.std.proofs.Common.{◌≡◌, ◌≤◌, ◌∙◌, ◌++◌, ◌^◌, ℕ, List, ap, false, length, subst, sym, true}
use Rattle.std.specs.List.{range_with_len}
use Rattle.std.proofs.lemmas.List.{length-map}
use Rattle.link_input.specs.Symbols.{Symbol, is_shared}
use Rattle.link_resolve_rivals.specs.Chosen.{choices}
use Rattle.link_resolve_rivals.specs.Lists.{AreLists}
use Rattle.link_resolve_rivals.specs.Settled.{settled_table}
use Rattle.link_resolve_rivals.proofs.NameChoices.{names-chosen, own-length, table-inside}
use Rattle.link_resolve_rivals.proofs.choosing.name_choices.Goals as goal

pub both_choices-requires : goal.both_choices-requires
both_choices-requires g c =
    let n : ℕ = length c.args.survivors.now.strengths.now in
    let made : c.as_mut_slice.result.now ≡ range_with_len 0 n = c.as_mut_slice.ensures.value ∙ c.in_ok-table.ensures in
    let many : n ≡ length c.as_mut_slice.result.now = sym (own-length c.as_mut_slice.result.now n made) in
    record {
      plain = subst (AreLists (g.L.RivalLists.listed c.args.plain.now)) many c.requires.plain;
      versioned = subst (AreLists (g.M.RivalLists.listed c.args.versioned.now)) many c.requires.versioned;
      plain_count = c.requires.plain_count ∙ many;
      versioned_count = c.requires.versioned_count ∙ many;
      columns = many;
      inside = table-inside c.as_mut_slice.result.now n made;
      numbers = subst (λ m. m ≤ 2 ^ 32) many c.requires.numbers;
    }

pub returns : goal.returns
returns g c = λ l tells plain versioned.
    let n : ℕ = length c.args.survivors.now.strengths.now in
    let lists = g.L.RivalLists.listed c.args.plain.now in
    let others = g.M.RivalLists.listed c.args.versioned.now in
    let own : c.as_mut_slice.result.now ≡ range_with_len 0 n = c.as_mut_slice.ensures.value ∙ c.in_ok-table.ensures in
    let count : length l.stage.symbols ≡ n =
    sym (length-map l.stage.symbols (λ (x : Symbol). is_shared x.origin)) ∙ sym (ap length tells.dynamic) ∙ c.args.survivors.now.dynamic_length in
    c.in_ok-told.ensures l tells
    ∙ ap (λ (table : List ℕ). choices l lists table false ++ choices l others (settled_table l lists table) true) own
    ∙ names-chosen l lists n c.requires.plain count plain others versioned
