use Rattle.std.proofs.Common.{◌≡◌, ◌∙◌, ℕ, List, true, sym, subst}
use Rattle.link_db_buckets.specs.Slots.{may_hold}
use Rattle.link_db_buckets.proofs.Walks.{either_side, walks_push}
use Rattle.link_db_buckets.proofs.places.Places.note.Goals as goal

pub returns-clause-ok : goal.returns-clause-ok
returns-clause-ok c = λ numbers walks.
    let bare = c.bare.result in
    walks_push c.args.self.now c.hang.new.self c.push.new.self.items bare numbers c.len-place.result c.args.number walks (c.len-place.ensures ∙ c.args.self.now.forks.ok.0) c.in_ok-push.ensures.items (either_side bare c.bare.ensures.left c.bare.ensures.right) c.hang.ensures.forks c.hang.ensures.hung
    (λ n may. subst (λ (l : List ℕ). may_hold l n ≡ true) (sym c.hang.ensures.filter) (c.add.ensures.kept n may)) (subst (λ (l : List ℕ). may_hold l c.args.number ≡ true) (sym c.hang.ensures.filter) c.add.ensures.added)
