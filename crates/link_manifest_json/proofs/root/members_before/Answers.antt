use Rattle.std.proofs.Common.{◌≡◌, ◌≢◌, Some, sym, ◌∙◌, subst, arith, true≢false}
use Rattle.std.proofs.lemmas.Slice.Eq.{bytes_eq-Decides}
use Rattle.json.specs.Json.{read_key}
use Rattle.link_manifest_json.specs.Spans.{AreOthers, MembersRead}
use Rattle.link_manifest_json.proofs.Pushed.{one_more_member, one_more_other}
use Rattle.link_manifest_json.proofs.root.members_before.Goals as goal

pub members-preserved : goal.members-preserved
members-preserved c =
    let old = c.args.reader.now in
    let name = c.in-Some.name in
    let named : read_key c.members.reader ≡ Some (Some name.now, c.next_key.new.self) = grind arith in
    let other : c.args.key.now ≢ name.now = λ e. true≢false (sym ((bytes_eq-Decides name.now c.args.key.now).1 (sym e)) ∙ (sym c.eq.ensures ∙ c.if-eq.false)) in (
      subst (λ is. MembersRead is old c.read.new.reader) (sym c.in_ok-push.ensures.items)
          (one_more_member c.members.found.items (name, c.in_ok-member.member) old c.members.reader c.next_key.new.self c.read.new.reader c.members.invariant.0 named c.in_ok-member.ensures.ok),
      subst (λ is. AreOthers c.args.key.now is) (sym c.in_ok-push.ensures.items) (one_more_other c.args.key.now c.members.found.items (name, c.in_ok-member.member) c.members.invariant.1 other),
    )
