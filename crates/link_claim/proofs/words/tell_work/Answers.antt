use Rattle.std.proofs.Common.{ℕ, subst}
use mathlib.Core.Option.{none}
use Rattle.atomic_table.specs.Table.{step, Allows}
use Rattle.link_closure.specs.declared.workload.Workload.{Workload}
use Rattle.link_claim.specs.Rule.{Holds}
use Rattle.link_claim.specs.Views.{told_work}
use Rattle.link_claim.proofs.Moves.{tells_work}
use Rattle.link_claim.proofs.words.tell_work.Goals as goal

pub load-requires : goal.load-requires
load-requires g c =
    let shared = c.args.shared.now in
    let slots : ℕ = shared.table_id.slots in
    let me = c.args.seat.now.me in
    let P : Workload → Type 0 = λ w. Allows (Holds (g.P.Plan.work shared.key)) slots c.args.seat.now.id me 0 (λ n. n) (told_work w (step slots 0 0 0 none) me) in
    (c.requires.table, c.requires.word, subst P c.requires.told (tells_work _ _ _ _ c.requires.live))
