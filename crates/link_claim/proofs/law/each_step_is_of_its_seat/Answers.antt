use Rattle.std.proofs.Common.{subst}
use Rattle.std.specs.Prelude.{Contains}
use Rattle.std.proofs.lemmas.List.Sorted.{Contains-permutation}
use Rattle.link_claim.specs.declared.state.Claimed.{Claimed}
use Rattle.link_claim.specs.declared.state.Begun.{Begun}
use Rattle.link_claim.specs.declared.state.Marked.{Marked}
use Rattle.link_claim.specs.Rule.{held}
use Rattle.link_claim.proofs.Held.{held_has}
use Rattle.link_claim.proofs.law.each_step_is_of_its_seat.Goals as goal

pub returns-clause-claims : goal.returns-clause-claims
returns-clause-claims c w words views run e has live =
    let lists = run.lists_of in
    let events = run.core.claims in
    Contains-permutation _ _ e.file (lists.claims e.worker)
    (subst (λ id. Contains (held (λ (k : Claimed). k.worker) (λ k. k.file) lists.holder id events) e.file) (lists.own e.worker live) (held_has (λ (k : Claimed). k.worker) (λ k. k.file) lists.holder e events has))

pub returns-clause-begins : goal.returns-clause-begins
returns-clause-begins c w words views run e has live =
    let lists = run.lists_of in
    let events = run.core.begins in
    Contains-permutation _ _ e.item (lists.begins e.worker)
    (subst (λ id. Contains (held (λ (k : Begun). k.worker) (λ k. k.item) lists.holder id events) e.item) (lists.own e.worker live) (held_has (λ (k : Begun). k.worker) (λ k. k.item) lists.holder e events has))

pub returns-clause-marks : goal.returns-clause-marks
returns-clause-marks c w words views run e has live =
    let lists = run.lists_of in
    let events = run.core.marks in
    Contains-permutation _ _ e.mark (lists.marks e.worker)
    (subst (λ id. Contains (held (λ (k : Marked). k.worker) (λ k. k.mark) lists.holder id events) e.mark) (lists.own e.worker live) (held_has (λ (k : Marked). k.worker) (λ k. k.mark) lists.holder e events has))
