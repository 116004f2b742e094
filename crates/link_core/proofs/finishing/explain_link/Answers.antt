use Rattle.std.proofs.Common.{ap, inr, refl, subst, sym}
use Rattle.link_db.specs.Seen.{seen}
use Rattle.link_db_texts.specs.Holds.{platform_of}
use Rattle.link_resolve.specs.Known.{IsSelection, Known}
use Rattle.link_resolve_explanation.proofs.Telling.{selection-told}
use Rattle.link_rules.specs.declared.refusal.LinkError.TheVariants.{Memory}
use Rattle.link_core.proofs.Passing.{refused-through}
use Rattle.link_core.proofs.finishing.explain_link.Goals as goal

-- memory ran out
pub returns-in_err-point_symbols-clause-refused : goal.returns-in_err-point_symbols-clause-refused
returns-in_err-point_symbols-clause-refused g c = refused-through c.from_residual.result _ c.in_err-point_symbols.field-0.0 c.from_residual.ensures.1 (λ w l loaded. inr (c.in_err-point_symbols.ensures.refused (g.D.Demangler.demangled c.args.demangler.now) w l loaded))

pub returns-in_err-explanation-clause-refused : goal.returns-in_err-explanation-clause-refused
returns-in_err-explanation-clause-refused g c = refused-through c.from_residual-in_err-explanation.result _ Memory c.from_residual-in_err-explanation.ensures.1 (λ w l loaded. inr refl)

-- what comes behind the batches is the cause
pub returns-in_err-linked-clause-refused : goal.returns-in_err-linked-clause-refused
returns-in_err-linked-clause-refused g c =
    refused-through c.from_residual-in_err-linked.result _ c.in_err-linked.field-0.0 c.from_residual-in_err-linked.ensures.1
    (λ w l loaded. c.in_err-linked.ensures.refused w l (c.in_ok-point_symbols.ensures.pointed (g.D.Demangler.demangled c.args.demangler.now) w l loaded))

pub returns-clause-objects : goal.returns-clause-objects
returns-clause-objects g c = λ w l loaded. c.in_ok-linked.ensures.objects w l (c.in_ok-point_symbols.ensures.pointed (g.D.Demangler.demangled c.args.demangler.now) w l loaded)

pub returns-clause-kept : goal.returns-clause-kept
returns-clause-kept g c = λ w l loaded. c.in_ok-linked.ensures.kept w l (c.in_ok-point_symbols.ensures.pointed (g.D.Demangler.demangled c.args.demangler.now) w l loaded)

pub returns-clause-linked : goal.returns-clause-linked
returns-clause-linked g c = λ w l loaded. c.in_ok-linked.ensures.linked w l (c.in_ok-point_symbols.ensures.pointed (g.D.Demangler.demangled c.args.demangler.now) w l loaded)

pub returns-clause-roots : goal.returns-clause-roots
returns-clause-roots g c = λ w l loaded. c.in_ok-linked.ensures.roots w l (c.in_ok-point_symbols.ensures.pointed (g.D.Demangler.demangled c.args.demangler.now) w l loaded)

-- the database tells of the selection
pub returns-clause-explained : goal.returns-clause-explained
returns-clause-explained g c = λ w l loaded follows.
    let demangle = g.D.Demangler.demangled c.args.demangler.now in
    let pointed = c.in_ok-point_symbols.ensures.pointed demangle w l loaded in
    c.in_ok-explanation.ensures l
    (selection-told (platform_of g.P.Platform) demangle (seen c.point_symbols.new.db) c.resolved.result.now l
    (subst (λ (k : Known). IsSelection (platform_of g.P.Platform) demangle (seen c.point_symbols.new.db) k l) (sym c.resolved.ensures) pointed.selection)) follows
