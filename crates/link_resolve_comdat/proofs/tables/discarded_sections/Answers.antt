use Rattle.std.proofs.Common.{◌≡◌, ◌∙◌, sym, ap, true, List, Bool}
use Rattle.std.specs.List.{list_all}
use Rattle.link_closure.specs.Closure.{is_marked}
use Rattle.link_resolve_comdat.proofs.Marks.{lost-none}
use Rattle.link_resolve_comdat.proofs.tables.discarded_sections.Goals as goal

pub returns-then-are_all_kept : goal.returns-then-are_all_kept
returns-then-are_all_kept c = λ n.
    let all : list_all (λ k. k) c.args.kept.now ≡ true = sym c.are_all_kept.ensures ∙ c.if-are_all_kept.true in
    ap (λ (marks : List Bool). is_marked marks n) c.new.ensures.items ∙ sym (lost-none n c.args.groups.now c.args.kept.now all)
