use Rattle.std.proofs.Common.{◌≡◌, ◌++◌, List, refl, ap, ◌∙◌}
use Rattle.std.specs.Prelude.{option_to_list}
use Rattle.link_db_files.specs.GroupFiles.{symbols_in}
use Rattle.link_db_files.specs.Sources.{sources_of}
use Rattle.link_rules.specs.Places.{some_from}
use Rattle.link_resolve_reasons.specs.Requests.{request_in, requests_in}
use Rattle.link_resolve_reasons.specs.declared.requests.Request.{Request}
use Rattle.link_resolve_reasons.proofs.Lists.{some-more}
use Rattle.link_resolve_reasons.proofs.requests.requests.Goals as goal

-- one symbol more
pub loop-id-preserved : goal.loop-id-preserved
loop-id-preserved g c =
    let steps = c.in-Some.ensures.steps in
    let f = request_in (sources_of (symbols_in c.args.files.now.groups)) c.args.targets.now in
    let pushed : c.push_request.new.found.items ≡ c.loop-id.found.items ++ option_to_list (f c.in-Some.id c.in-Some.symbol) =
    c.in_ok-push_request.ensures ∙ ap (λ ss. c.loop-id.found.items ++ option_to_list (request_in ss c.args.targets.now c.in-Some.id c.in-Some.symbol)) c.sources-sources.ensures in
    ap (λ (ys : List Request). ys ++ some_from f c.next.new.self.next c.next.new.self.left) pushed
    ∙ some-more f c.loop-id.found.items (requests_in c.args.targets.now (symbols_in c.args.files.now.groups)) c.loop-id.id-iterator.next c.in-Some.id c.next.new.self.next
    c.in-Some.symbol (f c.in-Some.id c.in-Some.symbol) c.loop-id.id-iterator.left c.next.new.self.left steps.0 steps.1.0 steps.1.1 refl c.loop-id.invariant
