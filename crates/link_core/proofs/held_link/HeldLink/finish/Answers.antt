use Rattle.std.proofs.Common.{◌≡◌, ◌<◌, length, subst, sym}
use Rattle.std.specs.Prelude.{IfErr}
use Rattle.std.specs.List.{flat_map}
use Rattle.std.specs.Option.{IsSomeAnd}
use Rattle.link_db_files.specs.Inputs.{objects_in}
use Rattle.link_db_texts.specs.Holds.{platform_of}
use Rattle.link_rules.specs.Answer.{IsLinked, IsRefused}
use Rattle.link_core_answer.specs.Parts.{answer_of}
use Rattle.link_core_answer.specs.Seen as answer
use Rattle.link_core.specs.SessionErrors.{IsCause}
use Rattle.link_core.specs.Sessions.{Held, held_world}
use Rattle.link_core.specs.Results.{HasParts}
use Rattle.link_core.specs.Standing.{standing_world}
use Rattle.link_core.specs.Steps.{IsRefusedBehind}
use Rattle.link_core.proofs.Standing.{told-through}
use Rattle.link_core.proofs.held_link.HeldLink.finish.Goals as goal

-- batches came
pub finish-requires-clause-some : goal.finish-requires-clause-some
finish-requires-clause-some g c = λ _ _. subst (λ (h : Held g.row.D.Denot). 0 < length h.batches) (sym c.self.view_is) c.requires

-- why it is refused, as a session tells it
pub returns-in_err-linked-clause-refused : goal.returns-in_err-linked-clause-refused
returns-in_err-linked-clause-refused g c =
    let platform = platform_of g.P.Platform in
    let world = standing_world platform (g.D.Demangler.demangled c.self.inside.demangler) c.self.inside.standing in
    subst (λ (h : Held g.row.D.Denot). IfErr c.from_residual.result (IsCause (λ cause. IsSomeAnd (held_world platform (g.D.Demangler.demangled h.demangler) h) (λ w. IsRefused w cause)))) c.self.view_is
    (told-through (λ cause. IsSomeAnd world (λ w. IsRefused w cause)) c.in_err-linked.field-0.0 c.from_residual.result c.in_err-linked.ensures.refused c.from_residual.ensures.1)

pub returns-in_err-linked-clause-behind : goal.returns-in_err-linked-clause-behind
returns-in_err-linked-clause-behind g c =
    let platform = platform_of g.P.Platform in
    let world = standing_world platform (g.D.Demangler.demangled c.self.inside.demangler) c.self.inside.standing in
    subst (λ (h : Held g.row.D.Denot). IfErr c.from_residual.result (IsCause (λ cause. IsSomeAnd (held_world platform (g.D.Demangler.demangled h.demangler) h) (λ w. IsRefusedBehind w cause)))) c.self.view_is
    (told-through (λ cause. IsSomeAnd world (λ w. IsRefusedBehind w cause)) c.in_err-linked.field-0.0 c.from_residual.result c.in_err-linked.ensures.behind c.from_residual.ensures.1)

-- it is linked
pub returns-clause-linked : goal.returns-clause-linked
returns-clause-linked g c =
    subst (λ (h : Held g.row.D.Denot). IsSomeAnd (held_world (platform_of g.P.Platform) (g.D.Demangler.demangled h.demangler) h) (λ w. IsLinked w (answer_of (answer.seen c.in_ok-linked.linked)))) c.self.view_is
    c.in_ok-linked.ensures.linked

pub returns-clause-parts : goal.returns-clause-parts
returns-clause-parts g c =
    subst (λ (h : Held g.row.D.Denot). IsSomeAnd (held_world (platform_of g.P.Platform) (g.D.Demangler.demangled h.demangler) h) (λ w. HasParts w (answer.seen c.in_ok-linked.linked))) c.self.view_is
    c.in_ok-linked.ensures.parts

pub returns-clause-objects : goal.returns-clause-objects
returns-clause-objects g c =
    subst (λ (h : Held g.row.D.Denot). objects_in (answer.seen c.in_ok-linked.linked).db.mapping.files.groups ≡ flat_map (λ b. b.objects) h.batches) c.self.view_is c.in_ok-linked.ensures.objects
