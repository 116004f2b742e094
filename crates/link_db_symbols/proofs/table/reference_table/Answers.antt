use Rattle.std.proofs.Common.{◌≡◌, ◌<◌, All, ap, arith, length, refl, suc, subst, sym}
use Rattle.std.proofs.lemmas.List.Elements.{All-push}
use Rattle.link_rules.specs.Rivals.{reference_entry, reference_table}
use Rattle.link_db_symbols.proofs.Passing.{each-more}
use Rattle.link_db_symbols.proofs.table.reference_table.Goals as goal

-- one symbol more
pub loop-id-preserved : goal.loop-id-preserved
loop-id-preserved g c =
    let steps = c.in-Some.ensures.steps in
    let lengths : length c.loop-id.id-iterator.left ≡ suc (length c.next.new.self.left) = ap length steps.1.0 in
    let count : length c.push.new.self.items ≡ c.next.new.self.next = omega (arith, c.in_ok-push.ensures.len, c.loop-id.invariant.1.1.0, steps.1.1) in (
      (λ l is. each-more (reference_entry l) c.loop-id.table.items c.push.new.self.items (reference_table l) c.loop-id.id-iterator.next c.in-Some.id c.next.new.self.next
          c.in-Some.symbol c.reference_entry.result c.loop-id.id-iterator.left c.next.new.self.left
          steps.0 steps.1.0 steps.1.1 (c.reference_entry.ensures.value l (record { symbols_are = refl; names_are = is.names_are; targets_are = is.targets_are })) c.in_ok-push.ensures.items (c.loop-id.invariant.0 l is)),
      (
        omega arith,
        (
          count,
          λ n whole names targets.
              let inside : c.in-Some.id < n = omega arith in
              subst (λ entries. All (λ entry. entry < n) entries) (sym c.in_ok-push.ensures.items)
              (All-push (λ entry. entry < n) c.loop-id.table.items c.reference_entry.result (c.loop-id.invariant.1.1.1 n whole names targets)
              (c.reference_entry.ensures.below n inside names targets)),
        ),
      ),
    )
