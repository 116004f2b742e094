use Rattle.std.proofs.Common.{Err, ap, subst, sym}
use Rattle.link_flags.specs.FlagWords.{numbers_of, words_of}
use Rattle.link_db_texts.specs.Causes.{TellsCause}
use Rattle.link_db_texts.specs.Holds.{platform_of}
use Rattle.link_rules.specs.Refusals.{duplicate_lines, unless_none}
use Rattle.link_db.specs.Database.{Database}
use Rattle.link_db.specs.Seen.{seen}
use Rattle.link_resolve.specs.Known.{IsSelection, Known}
use Rattle.link_resolve.specs.Settled.{IsSettled}
use Rattle.link_core.specs.Steps.{IsRefusedBehind}
use Rattle.link_core.proofs.Passing.{refused-through, settled-with, told-by}
use Rattle.link_core.proofs.Refusing.{refused-by-duplicates}
use Rattle.link_core.proofs.settling.settle_rivals.Goals as goal

-- why it is refused is the cause that the rivals tell
pub returns-in_err-left-clause-refused : goal.returns-in_err-left-clause-refused
returns-in_err-left-clause-refused g c =
    let e = c.in_err-left.field-0.0 in
    refused-through c.from_residual.result _ e c.from_residual.ensures.1 (λ demangle w l loaded.
    let known = subst (λ (k : Known). IsSelection (platform_of g.P.Platform) demangle (seen c.args.db) k l) (sym c.resolved.ensures) loaded.selection in
    let told : TellsCause {A = Unit {0}} (unless_none (duplicate_lines l)) (Err e) = c.in_err-left.ensures.cause demangle l known loaded.table in
    told-by (Unit {0}) (IsRefusedBehind w e) (unless_none (duplicate_lines l)) e (λ is. refused-by-duplicates w l e loaded.selects is) told)

-- each name has the definition that counts
pub returns-clause-settled : goal.returns-clause-settled
returns-clause-settled g c = λ demangle w l loaded.
    let known = subst (λ (k : Known). IsSelection (platform_of g.P.Platform) demangle (seen c.args.db) k l) (sym c.resolved.ensures) loaded.selection in
    settled-with (platform_of g.P.Platform) demangle w l (seen c.args.db) (seen c.in_ok-left.left) (numbers_of (words_of c.args.flags.now)) (numbers_of (words_of c.resolve_alternative_symbol_definitions.new.flags))
    c.args.resolver.now loaded (c.in_ok-left.ensures.cause demangle l known loaded.table)
    (subst (λ (k : Known). IsSettled (seen c.in_ok-left.left) k l) c.resolved.ensures (c.in_ok-left.ensures.settled demangle l known))
    (ap (λ (d : Database g.row.P.Denot). d.rules) c.in_ok-left.ensures.rest) (c.in_ok-left.ensures.table demangle l known loaded.table)
    (c.in_ok-left.ensures.flags l.stage loaded.selection.stage.symbols)
