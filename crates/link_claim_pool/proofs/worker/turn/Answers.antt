use Rattle.std.proofs.Common.{◌≡◌, ◌∷◌, subst}
use Rattle.std.specs.Prelude.{IfSome, MatchOption}
use Rattle.std.proofs.lemmas.List.Elements.{All-push}
use Rattle.link_claim_pool.specs.Found.{IsFound}
use Rattle.link_claim_pool.proofs.Findings.{all_found_later}
use Rattle.link_claim_pool.proofs.Begins.{kept_same, kept_push}
use Rattle.link_claim_pool.proofs.worker.turn.Goals as goal

pub returns-in_ok-push-clause-found : goal.returns-in_ok-push-clause-found
returns-in_ok-push-clause-found g c =
    let found = g.P.Readable.found_in c.args.plan.now in
    let u = c.follow.new.seat.view in
    let old = all_found_later found c.args.seat.now.view u c.args.findings.now.items c.follow.ensures.later c.requires.found in
    let is = subst (λ r. IfSome r (λ f. IsFound found u f.item f.found)) c.in-Some.is c.in_ok-finding.ensures.found in
    rw c.in_ok-push.ensures.items (All-push (λ f. IsFound found u f.item f.found) c.args.findings.now.items _ old is)

pub returns-in_default-clause-found : goal.returns-in_default-clause-found
returns-in_default-clause-found g c =
    all_found_later (g.P.Readable.found_in c.args.plan.now) c.args.seat.now.view c.follow.new.seat.view c.args.findings.now.items c.follow.ensures.later c.requires.found

pub returns-in_ok-push-clause-kept : goal.returns-in_ok-push-clause-kept
returns-in_ok-push-clause-kept g c =
    let v = c.args.seat.now.view in
    let u = c.follow.new.seat.view in
    let more = subst (λ r. MatchOption r (u.begins ≡ v.begins) (λ f. u.begins ≡ f.item ∷ v.begins)) c.in-Some.is c.in_ok-finding.ensures.begins in
    rw c.in_ok-push.ensures.items (kept_push v u c.args.findings.now.items c.in-Some.finding more c.requires.kept)

pub returns-in_default-clause-kept : goal.returns-in_default-clause-kept
returns-in_default-clause-kept g c =
    let v = c.args.seat.now.view in
    let u = c.follow.new.seat.view in
    kept_same v u c.args.findings.now.items
    (subst (λ r. MatchOption r (u.begins ≡ v.begins) (λ f. u.begins ≡ f.item ∷ v.begins)) c.in_default.is c.in_ok-finding.ensures.begins) c.requires.kept
