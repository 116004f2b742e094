use Rattle.std.proofs.Common.{◌≡◌, ◌+◌, ◌<◌, ◌^◌, ◌∙◌, arith, length, refl, subst}
use Rattle.link_input_groups.specs.declared.sequenced.SyntheticSymbols.{SyntheticSymbols}
use Rattle.link_db_files.proofs.Changing.{grown-written, last-symbols}
use Rattle.link_db_files.proofs.adding.grow_last.Goals as goal

pub input-symbols-requires : goal.input-symbols-requires
input-symbols-requires g c =
    let last = c.requires.last in
    let all : c.len-last.result ≡ length c.args.groups.now.items = c.len-last.ensures ∙ c.args.groups.now.ok.0 in
    let same = last-symbols last.0 c.args.groups.now.items last.1.0 c.in-SyntheticSymbols.symbols c.index_mut.result.now c.len-last.result last.1.1 all c.index_mut.ensures.value c.in-SyntheticSymbols.is in
    let room = subst (λ (s : SyntheticSymbols). s.symbol_id_range.start + (s.symbol_id_range.len + 1) < 2 ^ 32) same (c.requires.room last.0 last.1.0 last.1.1) in
    omega (arith, room, c.start.ensures.value, c.len.ensures.value)

pub returns-in-SyntheticSymbols : goal.returns-in-SyntheticSymbols
returns-in-SyntheticSymbols g c =
    let all : c.len-last.result ≡ length c.args.groups.now.items = c.len-last.ensures ∙ c.args.groups.now.ok.0 in
    grown-written c.args.groups.now.items c.in-SyntheticSymbols.symbols c.input-symbols.result c.index_mut.result.now c.len-last.result c.requires.last all c.index_mut.ensures.value c.in-SyntheticSymbols.is
    (rw (c.input-symbols.ensures, c.start.ensures.value, c.len.ensures.value) refl)
