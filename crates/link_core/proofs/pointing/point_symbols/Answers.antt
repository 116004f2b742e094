use Rattle.std.proofs.Common.{◌∙◌, Err, ap, refl, subst, sym}
use Rattle.link_flags.specs.FlagWords.{numbers_of, words_of}
use Rattle.link_db_texts.specs.Causes.{TellsCause}
use Rattle.link_db_texts.specs.Holds.{platform_of}
use Rattle.link_rules.specs.Refusals.{group_refusal}
use Rattle.link_rules.specs.Selection.{Selection, selection_of}
use Rattle.link_resolve.specs.Known.{IsLoadedSelection}
use Rattle.link_db.specs.Database.{Database}
use Rattle.link_db.specs.Seen.{seen}
use Rattle.link_core.proofs.Passing.{only-memory, pointed-with, refused-through, room-kept}
use Rattle.link_core.proofs.pointing.point_symbols.Goals as goal

pub returns-clause-room : goal.returns-clause-room
returns-clause-room g c =
    let e = c.in_ok-point_references.ensures in
    room-kept (seen c.args.db.now) (seen c.point_references.new.db) (words_of c.args.flags.now) (words_of c.args.flags.now)
    (ap (λ (d : Database g.row.P.Denot). d.mapping.files) e.rest) (ap (λ (d : Database g.row.P.Denot). d.options) e.rest) e.whole refl c.requires.room

pub returns-clause-pointed : goal.returns-clause-pointed
returns-clause-pointed g c = λ demangle w l loaded.
    let e = c.in_ok-point_references.ensures in
    pointed-with (platform_of g.P.Platform) demangle w l (seen c.args.db.now) (seen c.point_references.new.db) (numbers_of (words_of c.args.flags.now))
    c.args.resolver.now c.point_references.new.self c.point_references.new.self.known.strengths loaded e.resolver (e.selection demangle) (e.groups demangle) (e.table demangle l)

-- groups are no cause any more
pub returns-in_err-point_references-clause-refused : goal.returns-in_err-point_references-clause-refused
returns-in_err-point_references-clause-refused g c =
    let e = c.in_err-point_references.field-0.0 in
    refused-through c.from_residual.result _ e c.from_residual.ensures.1 (λ demangle w l loaded.
    let selection = subst (λ (k : Selection). IsLoadedSelection (platform_of g.P.Platform) demangle (seen c.args.db.now) c.args.resolver.now.known k) loaded.is loaded.selection in
    let told : TellsCause {A = Unit {0}} (group_refusal (selection_of l.stage l.marks)) (Err e) = c.in_err-point_references.ensures.cause demangle l.stage l.marks selection in
    only-memory (Unit {0}) (group_refusal (selection_of l.stage l.marks)) e (ap (λ (k : Selection). group_refusal k) (sym loaded.is) ∙ loaded.fine) told)
