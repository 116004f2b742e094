use Rattle.std.proofs.Common.{Err, subst, sym}
use Rattle.link_flags.specs.FlagWords.{numbers_of, words_of}
use Rattle.link_db_texts.specs.Causes.{TellsCause}
use Rattle.link_db_texts.specs.Holds.{platform_of}
use Rattle.link_db_mapping.specs.Mapped.{mapping_of}
use Rattle.link_rules.specs.Undefined.{resolved}
use Rattle.link_rules.specs.Versions.{version_refusal}
use Rattle.link_db.specs.Seen.{seen}
use Rattle.link_resolve.specs.Known.{Known}
use Rattle.link_resolve.specs.Settled.{IsEnded}
use Rattle.link_core.specs.Steps.{IsRefusedBehind}
use Rattle.link_core.proofs.Answering.{missing-are, same-answer}
use Rattle.link_core.proofs.Passing.{refused-through, told-by}
use Rattle.link_core.proofs.Refusing.{goes-on, refused-by-version}
use Rattle.link_core.proofs.ending.endings.Goals as goal

-- why it is refused is the cause that the versions tell
pub returns-in_err-versions-clause-refused : goal.returns-in_err-versions-clause-refused
returns-in_err-versions-clause-refused g c =
    let e = c.in_err-versions.field-0.0 in
    let demangle = g.D.Demangler.demangled c.args.demangler.now in
    refused-through c.from_residual-in_err-versions.result _ e c.from_residual-in_err-versions.ensures.1 (λ w l is.
    let at = c.in_ok-undefined.ensures.ended demangle w l is in
    let ended = subst (λ (k : Known). IsEnded (platform_of g.P.Platform) demangle (seen c.end_symbols.new.db) k l) (sym c.resolved.ensures) at.ended in
    let told : TellsCause {A = Unit {0}} (version_refusal (resolved l)) (Err e) = c.in_err-versions.ensures.cause l ended in
    told-by (Unit {0}) (IsRefusedBehind w e) (version_refusal (resolved l)) e (λ by. refused-by-version w l e at.selects at.duplicates by) told)

pub returns-clause-objects : goal.returns-clause-objects
returns-clause-objects g c = λ w l is. sym (c.in_ok-undefined.ensures.ended (g.D.Demangler.demangled c.args.demangler.now) w l is).objects

pub returns-clause-kept : goal.returns-clause-kept
returns-clause-kept g c = λ w l is. (c.in_ok-undefined.ensures.ended (g.D.Demangler.demangled c.args.demangler.now) w l is).kept

-- all parts make the answer of the world
pub returns-clause-linked : goal.returns-clause-linked
returns-clause-linked g c = λ w l roots is.
    let demangle = g.D.Demangler.demangled c.args.demangler.now in
    let at = c.in_ok-undefined.ensures.ended demangle w l is in
    let ended = subst (λ (k : Known). IsEnded (platform_of g.P.Platform) demangle (seen c.end_symbols.new.db) k l) (sym c.resolved.ensures) at.ended in
    let missing = missing-are l.stage (mapping_of (seen c.args.db.now).mapping) c.in_ok-missing.missing.items is.settled.names (c.in_ok-missing.ensures demangle l.stage.rules is.rules) in
    record {
      starts = at.selects.texts;
      last = l;
      ends = at.selects.ends;
      goes_on = goes-on l at.duplicates (c.in_ok-versions.ensures.cause l ended);
      is = same-answer (platform_of g.P.Platform) demangle w l (seen c.end_symbols.new.db) (numbers_of (words_of c.end_symbols.new.flags)) c.args.resolver.now c.in_ok-versions.versions.items c.in_ok-undefined.undefined.items
          c.in_ok-missing.missing.items roots at (c.in_ok-versions.ensures.versions l ended) (c.in_ok-undefined.ensures.undefined demangle w l is) missing;
    }
