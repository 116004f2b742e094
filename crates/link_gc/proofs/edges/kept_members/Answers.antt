use Rattle.std.proofs.Common.{◌≡◌, ◌∙◌, ◌<◌, ◌≤◌, ℕ, Vec, List, Option, All, ap, arith, get_or, length, subst, sym}
use Rattle.std.specs.Global.{Global}
use Rattle.std.specs.Prelude.{IfSome}
use Rattle.std.specs.List.{filter_map}
use Rattle.std.proofs.lemmas.List.{take_all}
use Rattle.std.proofs.lemmas.List.Elements.{All-push}
use Rattle.link_gc.specs.Numbering.{node_number}
use Rattle.link_gc.proofs.Gathered.{kept-more, lost-more}
use Rattle.link_gc.proofs.edges.kept_members.Goals as goal
use Rattle.link_gc.proofs.edges.kept_members.Goals.{in-Some+in_ok-push, in_default}

-- one member more
pub loop-member-preserved : goal.loop-member-preserved
loop-member-preserved c =
    let members = c.members-member-items.result.now in
    let i = c.loop-member.member-index in
    let old = c.loop-member.members.items in
    let new = c.match-number.members.items in
    record {
      members = λ s are.
          let Number : ℕ → Option ℕ = λ member. node_number s (c.args.object, member) in
          let gives : c.number.result ≡ Number (get_or members i 0) = c.number.ensures.number s are in
          elim c.match-number.branch [
            | in-Some+in_ok-push w ↦
                kept-more Number old new members i 0 w.in-Some.number c.loop-member-test.true (c.loop-member.invariant.members s are) (sym gives ∙ w.in-Some.is)
                (ap (λ (v : Vec ℕ Global). v.items) w.members-is ∙ w.in_ok-push.ensures.items)
            | in_default w ↦
                lost-more Number old new members i 0 c.loop-member-test.true (c.loop-member.invariant.members s are) (sym gives ∙ w.in_default.is) (ap (λ (v : Vec ℕ Global). v.items) w.members-is)
          ];
      within =
          let Below : ℕ → Type 0 = λ n. n < c.args.numbers.now.count in
          elim c.match-number.branch [
            | in-Some+in_ok-push w ↦
                let one : Below w.in-Some.number = subst (λ (o : Option ℕ). IfSome o Below) w.in-Some.is c.number.ensures.within in
                subst (λ (ns : List ℕ). All Below ns) (sym (ap (λ (v : Vec ℕ Global). v.items) w.members-is ∙ w.in_ok-push.ensures.items)) (All-push Below old w.in-Some.number c.loop-member.invariant.within one)
            | in_default w ↦ subst (λ (ns : List ℕ). All Below ns) (sym (ap (λ (v : Vec ℕ Global). v.items) w.members-is)) c.loop-member.invariant.within
          ];
    }

-- all members
pub returns-clause-members : goal.returns-clause-members
returns-clause-members c = λ s are.
    let members = c.members-member-items.result.now in
    let past : length members ≤ c.loop-member.member-index = omega arith in
    c.loop-member.invariant.members s are ∙ ap (filter_map (λ member. node_number s (c.args.object, member))) (take_all c.loop-member.member-index members past ∙ c.members-member-items.ensures)
