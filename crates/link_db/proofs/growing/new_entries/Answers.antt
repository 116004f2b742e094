use Rattle.std.proofs.Common.{rules, ◌≡◌, ◌+◌, ◌-◌, ◌<◌, ◌++◌, [], ◌∷◌, ◌∙◌, sym, ap, arith}
use Rattle.std.specs.List.{range_with_len}
use Rattle.std.proofs.lemmas.List.{append_assoc}
use Rattle.link_db.proofs.Ids.{range_next}
use Rattle.link_db.proofs.growing.new_entries.Goals as goal

pub loop-number-preserved : goal.loop-number-preserved
loop-number-preserved c =
    let n = c.loop-number.number in
    let done = c.loop-number.entries.items in
    let rest = range_with_len (n + 1) (c.args.end - (n + 1)) in
    let lt : n < c.args.end = c.loop-number-test.true in
    let pushed : c.push.new.self.items ≡ done ++ n ∷ [] = search rules in
    (omega arith, ap (λ e. e ++ rest) pushed ∙ append_assoc done (n ∷ []) rest ∙ ap (λ r. done ++ r) (sym (range_next n c.args.end lt)) ∙ c.loop-number.invariant.1)
