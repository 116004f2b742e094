use Rattle.std.proofs.Common.{◌≡◌, ◌∙◌, arith, length, refl}
use Rattle.link_db_files.proofs.Changing.{shrunk-kind, shrunk-written, some-groups, some-ids}
use Rattle.link_db_files.proofs.adding.shrink_last.Goals as goal

pub overflow_sub-last : goal.overflow_sub-last
overflow_sub-last g c =
    let some = some-groups c.args.groups.now.items c.requires.0 c.requires.1.0 c.requires.1.1 in
    omega (arith, some, c.len-last.ensures, c.args.groups.now.ok.0)

pub index_mut-requires : goal.index_mut-requires
index_mut-requires g c =
    let some = some-groups c.args.groups.now.items c.requires.0 c.requires.1.0 c.requires.1.1 in
    omega (arith, some, c.len-last.ensures, c.args.groups.now.ok.0)

pub overflow_sub-len : goal.overflow_sub-len
overflow_sub-len g c =
    let all : c.len-last.result ≡ length c.args.groups.now.items = c.len-last.ensures ∙ c.args.groups.now.ok.0 in
    let some = some-ids c.args.groups.now.items c.requires.0 c.in-SyntheticSymbols.symbols c.index_mut.result.now c.len-last.result c.requires.1.0 c.requires.1.1 all c.index_mut.ensures.value c.in-SyntheticSymbols.is in
    omega (arith, some, c.len.ensures.value)

pub returns-in-SyntheticSymbols : goal.returns-in-SyntheticSymbols
returns-in-SyntheticSymbols g c = λ before last is.
    let all : c.len-last.result ≡ length c.args.groups.now.items = c.len-last.ensures ∙ c.args.groups.now.ok.0 in
    shrunk-written c.args.groups.now.items before c.in-SyntheticSymbols.symbols c.input-symbols.result c.index_mut.result.now c.len-last.result last is all c.index_mut.ensures.value c.in-SyntheticSymbols.is
    (rw (c.input-symbols.ensures, c.start.ensures.value, c.len.ensures.value) refl)

pub returns-in_default : goal.returns-in_default
returns-in_default g c = λ before last is.
    let all : c.len-last.result ≡ length c.args.groups.now.items = c.len-last.ensures ∙ c.args.groups.now.ok.0 in
    let kind = shrunk-kind c.args.groups.now.items before c.index_mut.result.now c.len-last.result last is all c.index_mut.ensures.value in
    absurd (c.in_default.not-SyntheticSymbols kind.0 kind.1)
