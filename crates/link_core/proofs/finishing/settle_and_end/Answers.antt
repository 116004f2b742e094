use Rattle.std.proofs.Common.{◌∙◌, inr, refl}
use Rattle.link_rules.specs.declared.refusal.LinkError.TheVariants.{Memory}
use Rattle.link_core.proofs.Passing.{err-into, ok-into, refused-through}
use Rattle.link_core.proofs.finishing.settle_and_end.Goals as goal

-- the rivals are the cause
pub returns-in_err-db-clause-refused : goal.returns-in_err-db-clause-refused
returns-in_err-db-clause-refused g c =
    refused-through c.from_residual-in_err-db.result _ c.in_err-db.field-0.0 c.from_residual-in_err-db.ensures.1 (λ w l pointed. c.in_err-db.ensures.refused (g.D.Demangler.demangled c.args.demangler.now) w l pointed)

-- what comes behind them is
pub returns-clause-refused : goal.returns-clause-refused
returns-clause-refused g c =
    err-into c.end_link.result _ _ (λ error held. λ w l pointed. held w l (c.in_ok-db.ensures.settled (g.D.Demangler.demangled c.args.demangler.now) w l pointed)) c.end_link.ensures.refused

pub returns-clause-objects : goal.returns-clause-objects
returns-clause-objects g c =
    ok-into c.end_link.result _ _ (λ linked held. λ w l pointed. held w l (c.in_ok-db.ensures.settled (g.D.Demangler.demangled c.args.demangler.now) w l pointed)) c.end_link.ensures.objects

pub returns-clause-kept : goal.returns-clause-kept
returns-clause-kept g c =
    ok-into c.end_link.result _ _ (λ linked held. λ w l pointed. held w l (c.in_ok-db.ensures.settled (g.D.Demangler.demangled c.args.demangler.now) w l pointed)) c.end_link.ensures.kept

pub returns-clause-linked : goal.returns-clause-linked
returns-clause-linked g c =
    ok-into c.end_link.result _ _ (λ linked held. λ w l pointed. held w l (c.in_ok-db.ensures.settled (g.D.Demangler.demangled c.args.demangler.now) w l pointed)) c.end_link.ensures.linked

-- before rivals are settled the database is at the stage of the selection
pub returns-clause-roots : goal.returns-clause-roots
returns-clause-roots g c =
    ok-into c.end_link.result _ _ (λ linked held. λ w l pointed. held ∙ c.in_ok-roots.ensures (g.D.Demangler.demangled c.args.demangler.now) l.stage pointed.selection.stage) c.end_link.ensures.roots

-- memory ran out
pub returns-in_err-sections-clause-refused : goal.returns-in_err-sections-clause-refused
returns-in_err-sections-clause-refused g c = refused-through c.from_residual.result _ Memory c.from_residual.ensures.1 (λ w l pointed. inr refl)

pub returns-in_err-roots-clause-refused : goal.returns-in_err-roots-clause-refused
returns-in_err-roots-clause-refused g c = refused-through c.from_residual-in_err-roots.result _ Memory c.from_residual-in_err-roots.ensures.1 (λ w l pointed. inr refl)
