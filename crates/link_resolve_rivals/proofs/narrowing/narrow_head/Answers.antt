use Rattle.std.proofs.Common.{◌≡◌, ◌<◌, ◌∙◌, All, ap, arith, false, length, slice_index, subst, sym}
use Rattle.std.proofs.lemmas.Bool.Decides.{nat_tests}
use Rattle.link_rules.specs.Marking.{visibility_flags}
use Rattle.link_flags.specs.FlagWords.{numbers_of}
use Rattle.link_resolve_rivals.proofs.Heads.{later-inside, list-of-head, list-of-one}
use Rattle.link_resolve_rivals.proofs.NarrowPass.{head-narrowed, one-narrowed}
use Rattle.link_resolve_rivals.proofs.narrowing.narrow_head.Goals as goal

pub strictest_of-requires-clause-later : goal.strictest_of-requires-clause-later
strictest_of-requires-clause-later g c =
    let later = c.later-later.result.now in
    let some : 0 < length later = grind (arith, nat_tests) in
    subst (λ n. All (λ t. t < n) later) (sym c.requires.visibilities)
    (later-inside (g.L.RivalLists.listed c.args.lists.now) (length c.args.dynamic.now) c.args.head later c.requires.lists c.later-later.ensures some)

pub join_flags-requires-clause-later : goal.join_flags-requires-clause-later
join_flags-requires-clause-later g c =
    let later = c.later-later.result.now in
    let some : 0 < length later = grind (arith, nat_tests) in
    later-inside (g.L.RivalLists.listed c.args.lists.now) (length c.args.dynamic.now) c.args.head later c.requires.lists c.later-later.ensures some

pub returns-then-not-is_empty : goal.returns-then-not-is_empty
returns-then-not-is_empty g c = λ w seen s.
    let later = c.later-later.result.now in
    let own = g.L.RivalLists.listed c.args.lists.now c.args.head in
    let some : 0 < length later = grind (arith, nat_tests) in
    c.join_flags.ensures s
    ∙ head-narrowed w c.args.dynamic.now own later c.args.head s (slice_index (numbers_of c.args.words.now) s) c.flags_of-bits.result.0
    (list-of-head c.args.head own later c.later-later.ensures some) some seen.dynamic
    (c.flags_of-bits.ensures ∙ ap (λ v. visibility_flags v false) (c.strictest_of.ensures w seen.visibilities))

pub returns-else-not-is_empty : goal.returns-else-not-is_empty
returns-else-not-is_empty g c = λ w seen s.
    let later = c.later-later.result.now in
    let own = g.L.RivalLists.listed c.args.lists.now c.args.head in
    let none : length later ≡ 0 = grind (arith, nat_tests) in
    one-narrowed w own c.args.head s (slice_index (numbers_of c.args.words.now) s) (list-of-one c.args.head own later c.later-later.ensures none)
