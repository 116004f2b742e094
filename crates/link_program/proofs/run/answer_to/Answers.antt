use Rattle.std.proofs.Common.{refl, subst}
use Rattle.link_program_streams.proofs.Flow.{gives-at_most_nothing}
use Rattle.link_program.specs.declared.command.Command.{Command}
use Rattle.link_program.specs.declared.run.Reading.TheVariants.{Check, Gc, Link, Verdef, Why}
use Rattle.link_program.specs.Grammar.{IsCommand}
use Rattle.link_program.proofs.OfWorld.{bulk-text, words-text, ok-into}
use Rattle.link_program.proofs.run.answer_to.Goals as goal

pub returns-in-Some-Link-clause-text : goal.returns-in-Some-Link-clause-text
returns-in-Some-Link-clause-text g c =
    ok-into c.answer_to_source.result _ _ (λ a held. words-text c.args.words.now (g.S.Source.left c.args.source.now) a.status a.text.items
    (Link c.in-Some-Link.workers, subst (λ (k : Command). IsCommand c.args.words.now k) c.in-Some-Link.field-0-is c.in-Some-Link.ensures.command, held))
    c.answer_to_source.ensures.text

pub returns-in-Some-Why-clause-text : goal.returns-in-Some-Why-clause-text
returns-in-Some-Why-clause-text g c =
    ok-into c.answer_to_source-in-Some-Why.result _ _ (λ a held. words-text c.args.words.now (g.S.Source.left c.args.source.now) a.status a.text.items
    (Why c.in-Some-Why.workers, subst (λ (k : Command). IsCommand c.args.words.now k) c.in-Some-Why.field-0-is c.in-Some-Why.ensures.command, held))
    c.answer_to_source-in-Some-Why.ensures.text

pub returns-in-Some-Gc-clause-text : goal.returns-in-Some-Gc-clause-text
returns-in-Some-Gc-clause-text g c =
    ok-into c.answer_to_source-in-Some-Gc.result _ _ (λ a held. words-text c.args.words.now (g.S.Source.left c.args.source.now) a.status a.text.items
    (Gc c.in-Some-Gc.workers, subst (λ (k : Command). IsCommand c.args.words.now k) c.in-Some-Gc.field-0-is c.in-Some-Gc.ensures.command, held))
    c.answer_to_source-in-Some-Gc.ensures.text

pub returns-in-Some-Verdef-clause-text : goal.returns-in-Some-Verdef-clause-text
returns-in-Some-Verdef-clause-text g c =
    ok-into c.answer_to_source-in-Some-Verdef.result _ _ (λ a held. words-text c.args.words.now (g.S.Source.left c.args.source.now) a.status a.text.items
    (Verdef, subst (λ (k : Command). IsCommand c.args.words.now k) c.in-Some-Verdef.field-0-is c.in-Some-Verdef.ensures.command, held))
    c.answer_to_source-in-Some-Verdef.ensures.text

pub returns-in-Some-Check-clause-text : goal.returns-in-Some-Check-clause-text
returns-in-Some-Check-clause-text g c =
    ok-into c.answer_to_source-in-Some-Check.result _ _ (λ a held. words-text c.args.words.now (g.S.Source.left c.args.source.now) a.status a.text.items
    (Check, subst (λ (k : Command). IsCommand c.args.words.now k) c.in-Some-Check.field-0-is c.in-Some-Check.ensures.command, held))
    c.answer_to_source-in-Some-Check.ensures.text

pub returns-in-Some-Bulk-clause-text : goal.returns-in-Some-Bulk-clause-text
returns-in-Some-Bulk-clause-text g c =
    ok-into c.answer_to_bulk.result _ _ (λ a held. bulk-text c.args.words.now (g.S.Source.left c.args.source.now) c.in-Some-Bulk.members a.status a.text.items (c.in-Some-Bulk.workers, subst (λ (k : Command). IsCommand c.args.words.now k) c.in-Some-Bulk.field-0-is c.in-Some-Bulk.ensures.command) held)
    c.answer_to_bulk.ensures

pub returns-in-None-clause-read_no_further : goal.returns-in-None-clause-read_no_further
returns-in-None-clause-read_no_further g c = gives-at_most_nothing _ _ _ refl
