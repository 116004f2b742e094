use Rattle.std.proofs.Common.{◌≡◌, ◌∙◌, ◌≤◌, ◌^◌, ap, length, List, ℕ, Option, subst, sym}
use Rattle.link_resolve_explanation.specs.Gathered.{AreHeads, AreRows}
use Rattle.link_resolve_explanation.proofs.CheckedHeads.{checked-are-heads, checked-length}
use Rattle.link_resolve_explanation.proofs.gathering.GatheredLists.gather.Goals as goal

pub filled_rows-requires : goal.filled_rows-requires
filled_rows-requires c =
    let same : length c.as_slice.result.now ≡ length c.args.found.now =
    ap (λ (heads : List (Option ℕ)). length heads) (c.as_slice.ensures.value ∙ c.in_ok-heads.ensures) ∙ checked-length c.args.found.now in
    subst (λ n. n ≤ 2 ^ 32) (sym same) c.requires

-- the heads are checked, and the rows are theirs
pub invariant_of-result : goal.invariant_of-result
invariant_of-result c = record {
  headed = subst AreHeads (sym c.in_ok-heads.ensures) (checked-are-heads c.args.found.now);
  each = c.in_ok-rows.ensures.each ∙ ap (λ (heads : List (Option ℕ)). length heads) c.as_slice.ensures.value;
  behind = subst (λ heads. AreRows heads (length heads) c.in_ok-rows.rows.items) c.as_slice.ensures.value c.in_ok-rows.ensures.behind;
}
