use Rattle.std.proofs.Common.{◌≡◌, ◌∙◌, ℕ, Bool, List, ap, subst, sym}
use Rattle.link_resolve_discarded.specs.Indexed.{AreGroupsOf}
use Rattle.link_input.specs.declared.options.Options.{Options}
use Rattle.link_flags.specs.FlagWords.{numbers_of, words_of}
use Rattle.link_db_texts.specs.Holds.{platform_of}
use Rattle.link_rules.specs.Visibility.{narrowed_flags}
use Rattle.link_db.specs.RustScript.{flags_by_script}
use Rattle.link_db.specs.Seen.{seen}
use Rattle.link_resolve.proofs.Narrowing.{rust-narrows}
use Rattle.link_core.proofs.Passing.{ended-with}
use Rattle.link_core.proofs.ending.end_symbols.Goals as goal

-- all is as at the end
pub returns-clause-ended : goal.returns-clause-ended
returns-clause-ended g c = λ demangle w l is.
    let sections = ap (λ (o : Options). o.custom_sections) is.settled.options ∙ sym c.requires.sections in
    let narrowed : numbers_of (words_of c.handle_rust_version_script.new.flags) ≡ narrowed_flags l =
    c.handle_rust_version_script.ensures.flags demangle l.stage.rules is.rules
    ∙ (ap (λ (fs : List ℕ). flags_by_script (seen c.args.db.now) l.stage.rules.rust_names fs) is.flags ∙ rust-narrows (seen c.args.db.now) c.args.resolver.now.known l l.stage.rules.rust_names is.settled is.table) in
    ended-with (platform_of g.P.Platform) demangle w l (seen c.args.db.now) (seen c.canonicalise_undefined.new.db) (numbers_of (words_of c.args.flags.now)) (numbers_of (words_of c.canonicalise_undefined.new.flags)) c.args.resolver.now is
    c.in_ok-undefined.ensures.symbols c.in_ok-undefined.ensures.objects c.in_ok-undefined.ensures.options c.in_ok-undefined.ensures.rules (c.in_ok-undefined.ensures.table l is.settled sections is.table)
    (c.in_ok-undefined.ensures.added l is.settled sections) (c.in_ok-undefined.ensures.meanings l is.settled sections) (c.in_ok-undefined.ensures.flags l is.settled sections is.table
    (subst (λ (ms : List Bool). AreGroupsOf ms l.stage.objects c.args.resolver.now.groups) (sym is.settled.marks) is.groups) narrowed)

pub returns-clause-undefined : goal.returns-clause-undefined
returns-clause-undefined g c = λ demangle w l is.
    let sections = ap (λ (o : Options). o.custom_sections) is.settled.options ∙ sym c.requires.sections in
    c.in_ok-undefined.ensures.undefined l is.settled sections
