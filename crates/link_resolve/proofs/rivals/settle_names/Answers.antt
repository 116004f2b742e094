use Rattle.std.proofs.Common.{◌≡◌, ◌∙◌, List, Bool, ap, map}
use Rattle.link_db_files.specs.GroupFiles.{symbols_in}
use Rattle.link_db_files.specs.HeldFiles.{HeldFiles}
use Rattle.link_input.specs.declared.options.Options.{Options}
use Rattle.link_input.specs.Symbols.{Symbol}
use Rattle.link_db_texts.specs.Holds.{platform_of}
use Rattle.link_rules.specs.Rivals.{is_in_loaded_regular}
use Rattle.link_db.specs.Seen.{seen}
use Rattle.link_resolve.proofs.Telling.{tells-of}
use Rattle.link_resolve.proofs.rivals.settle_names.Goals as goal

pub returns-clause-table : goal.returns-clause-table
returns-clause-table g c = λ demangle l is before.
    let held : c.as_slice.result.now ≡ map (λ (x : Symbol). is_in_loaded_regular c.args.resolved.now.marks x.origin) (symbols_in (seen c.args.db.now).mapping.files.groups) =
    c.as_slice.ensures.value ∙ c.in_ok-held.ensures
    ∙ ap (λ (marks : List Bool). map (λ (x : Symbol). is_in_loaded_regular marks x.origin) (symbols_in c.files.result.now.groups)) c.loaded.ensures
    ∙ ap (λ (f : HeldFiles g.row.P.Denot). map (λ (x : Symbol). is_in_loaded_regular c.args.resolved.now.marks x.origin) (symbols_in f.groups)) c.files.ensures in
    let tells = tells-of (platform_of g.P.Platform) demangle (seen c.args.db.now) c.args.resolved.now l is c.strengths.ensures c.requires.dynamic held
    c.WEAK_SYMBOLS_OVERRIDE_COMMON.ensures (ap (λ (o : Options). o.allow_multiple) c.options.ensures) in
    c.in_ok-versioned.ensures.table l tells is.stage.symbols (c.in_ok-plain.ensures.table l tells is.stage.symbols before)

pub returns-clause-plain : goal.returns-clause-plain
returns-clause-plain g c = λ demangle l is before.
    let held : c.as_slice.result.now ≡ map (λ (x : Symbol). is_in_loaded_regular c.args.resolved.now.marks x.origin) (symbols_in (seen c.args.db.now).mapping.files.groups) =
    c.as_slice.ensures.value ∙ c.in_ok-held.ensures
    ∙ ap (λ (marks : List Bool). map (λ (x : Symbol). is_in_loaded_regular marks x.origin) (symbols_in c.files.result.now.groups)) c.loaded.ensures
    ∙ ap (λ (f : HeldFiles g.row.P.Denot). map (λ (x : Symbol). is_in_loaded_regular c.args.resolved.now.marks x.origin) (symbols_in f.groups)) c.files.ensures in
    let tells = tells-of (platform_of g.P.Platform) demangle (seen c.args.db.now) c.args.resolved.now l is c.strengths.ensures c.requires.dynamic held
    c.WEAK_SYMBOLS_OVERRIDE_COMMON.ensures (ap (λ (o : Options). o.allow_multiple) c.options.ensures) in
    c.in_ok-plain.ensures.clashes l tells is.stage.symbols before

pub returns-clause-versioned : goal.returns-clause-versioned
returns-clause-versioned g c = λ demangle l is before.
    let held : c.as_slice.result.now ≡ map (λ (x : Symbol). is_in_loaded_regular c.args.resolved.now.marks x.origin) (symbols_in (seen c.args.db.now).mapping.files.groups) =
    c.as_slice.ensures.value ∙ c.in_ok-held.ensures
    ∙ ap (λ (marks : List Bool). map (λ (x : Symbol). is_in_loaded_regular marks x.origin) (symbols_in c.files.result.now.groups)) c.loaded.ensures
    ∙ ap (λ (f : HeldFiles g.row.P.Denot). map (λ (x : Symbol). is_in_loaded_regular c.args.resolved.now.marks x.origin) (symbols_in f.groups)) c.files.ensures in
    let tells = tells-of (platform_of g.P.Platform) demangle (seen c.args.db.now) c.args.resolved.now l is c.strengths.ensures c.requires.dynamic held
    c.WEAK_SYMBOLS_OVERRIDE_COMMON.ensures (ap (λ (o : Options). o.allow_multiple) c.options.ensures) in
    c.in_ok-versioned.ensures.clashes l tells is.stage.symbols (c.in_ok-plain.ensures.table l tells is.stage.symbols before)
