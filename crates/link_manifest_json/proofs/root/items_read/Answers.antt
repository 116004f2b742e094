use Rattle.std.proofs.Common.{ℕ, List, sym, subst}
use Rattle.std.specs.Borrow.{Bor}
use Rattle.std.specs.Prelude.{IfSome}
use Rattle.std.specs.List.{AllZip}
use Rattle.link_manifest_json.specs.Spans.{IsMade, IsRoot}
use Rattle.link_manifest_json.specs.Tree.{view}
use Rattle.link_manifest_json.proofs.Rooted.{root_of}
use Rattle.link_manifest_json.proofs.root.items_read.Goals as goal

pub returns : goal.returns
returns g c text key around =
    let root = c.args.root.now in
    let f = c.args.f.now in
    let made = c.in-Some.made.items in
    let all : AllZip (λ (s : Bor (List ℕ)) (t : g.row.T.Denot). IsMade g.F.Fn f s.now t) c.as_slice.result.now made =
    subst (λ o. IfSome o (λ made. AllZip (λ (s : Bor (List ℕ)) (t : g.row.T.Denot). IsMade g.F.Fn f s.now t) c.as_slice.result.now made.items)) c.in-Some.is c.in_ok-made.ensures in
    let each : AllZip (λ (s : Bor (List ℕ)) (t : g.row.T.Denot). IsMade g.F.Fn f s.now t) root.items.items made =
    subst (λ ts. AllZip (λ (s : Bor (List ℕ)) (t : g.row.T.Denot). IsMade g.F.Fn f s.now t) ts made) c.as_slice.ensures.value all in
    subst (IsRoot g.F.Fn f text key (view root.rest)) (sym c.in_ok-push-in-Ok.ensures.items)
    (root_of g.F.Fn f text key around.0 root.last.now around.1 root.items.items (view root.rest) made c.in-Ok.last around.2 each c.in-Ok.ensures around.3)
