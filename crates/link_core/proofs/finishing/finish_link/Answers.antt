use Rattle.std.proofs.Common.{inr}
use Rattle.link_core.proofs.Passing.{err-into, ok-into, refused-through}
use Rattle.link_core.proofs.finishing.finish_link.Goals as goal

pub returns-clause-refused : goal.returns-clause-refused
returns-clause-refused g c =
    err-into c.settle_and_end.result _ _ (λ x held. λ w l loaded. held w l (c.in_ok-point_symbols.ensures.pointed (g.D.Demangler.demangled c.args.demangler.now) w l loaded)) c.settle_and_end.ensures.refused

pub returns-clause-objects : goal.returns-clause-objects
returns-clause-objects g c =
    ok-into c.settle_and_end.result _ _ (λ x held. λ w l loaded. held w l (c.in_ok-point_symbols.ensures.pointed (g.D.Demangler.demangled c.args.demangler.now) w l loaded)) c.settle_and_end.ensures.objects

pub returns-clause-kept : goal.returns-clause-kept
returns-clause-kept g c =
    ok-into c.settle_and_end.result _ _ (λ x held. λ w l loaded. held w l (c.in_ok-point_symbols.ensures.pointed (g.D.Demangler.demangled c.args.demangler.now) w l loaded)) c.settle_and_end.ensures.kept

pub returns-clause-linked : goal.returns-clause-linked
returns-clause-linked g c =
    ok-into c.settle_and_end.result _ _ (λ x held. λ w l loaded. held w l (c.in_ok-point_symbols.ensures.pointed (g.D.Demangler.demangled c.args.demangler.now) w l loaded)) c.settle_and_end.ensures.linked

pub returns-clause-roots : goal.returns-clause-roots
returns-clause-roots g c =
    ok-into c.settle_and_end.result _ _ (λ x held. λ w l loaded. held w l (c.in_ok-point_symbols.ensures.pointed (g.D.Demangler.demangled c.args.demangler.now) w l loaded)) c.settle_and_end.ensures.roots

-- memory ran out
pub returns-in_err-point_symbols-clause-refused : goal.returns-in_err-point_symbols-clause-refused
returns-in_err-point_symbols-clause-refused g c = refused-through c.from_residual.result _ c.in_err-point_symbols.field-0.0 c.from_residual.ensures.1 (λ w l loaded. inr (c.in_err-point_symbols.ensures.refused (g.D.Demangler.demangled c.args.demangler.now) w l loaded))
