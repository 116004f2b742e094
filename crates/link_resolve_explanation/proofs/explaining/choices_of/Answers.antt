use Rattle.std.proofs.Common.{◌≡◌, ◌∙◌, List, Bool, ap, length, map, subst, sym}
use Rattle.link_db.specs.Seen.{seen}
use Rattle.link_db_files.specs.GroupFiles.{symbols_in}
use Rattle.link_db_files.specs.HeldFiles.{HeldFiles}
use Rattle.link_flags.specs.declared.strength.SymbolStrength.{SymbolStrength}
use Rattle.link_input.specs.declared.options.Options.{Options}
use Rattle.link_input.specs.Symbols.{Symbol, is_shared}
use Rattle.link_resolve_rivals.specs.Lists.{AreLists}
use Rattle.link_rules.specs.Rivals.{is_in_loaded_regular}
use Rattle.link_resolve_explanation.specs.Gathered.{gathered}
use Rattle.link_resolve_explanation.proofs.CheckedHeads.{gathered-lists}
use Rattle.link_resolve_explanation.proofs.Telling.{told-columns}
use Rattle.link_resolve_explanation.proofs.explaining.choices_of.Goals as goal

-- what is gathered are lists of rivals
pub name_choices-requires-clause-plain : goal.name_choices-requires-clause-plain
name_choices-requires-clause-plain g c =
    let heads = c.in_ok-plain.plain.heads.items in
    let many = c.in_ok-plain.ensures.count ∙ sym (ap (λ (xs : List SymbolStrength). length xs) c.strengths.ensures ∙ c.requires.known) in
    subst (AreLists (gathered heads)) many (gathered-lists heads c.in_ok-plain.plain.headed)

pub name_choices-requires-clause-versioned : goal.name_choices-requires-clause-versioned
name_choices-requires-clause-versioned g c =
    let heads = c.in_ok-versioned.versioned.heads.items in
    let many = c.in_ok-versioned.ensures.count ∙ sym (ap (λ (xs : List SymbolStrength). length xs) c.strengths.ensures ∙ c.requires.known) in
    subst (AreLists (gathered heads)) many (gathered-lists heads c.in_ok-versioned.versioned.headed)

-- the columns tell of the selection
pub returns : goal.returns
returns g c = λ l is.
    let dynamic : c.as_slice.result.now ≡ map (λ (x : Symbol). is_shared x.origin) (symbols_in (seen c.args.db.now).mapping.files.groups) =
    c.as_slice.ensures.value ∙ c.in_ok-columns.ensures.dynamic ∙ ap (λ (f : HeldFiles g.row.P.Denot). map (λ (x : Symbol). is_shared x.origin) (symbols_in f.groups)) c.files.ensures in
    let held : c.as_slice-2.result.now ≡ map (λ (x : Symbol). is_in_loaded_regular c.args.resolved.now.marks x.origin) (symbols_in (seen c.args.db.now).mapping.files.groups) =
    c.as_slice-2.ensures.value ∙ c.in_ok-held.ensures
    ∙ ap (λ (marks : List Bool). map (λ (x : Symbol). is_in_loaded_regular marks x.origin) (symbols_in c.files-2.result.now.groups)) c.loaded.ensures
    ∙ ap (λ (f : HeldFiles g.row.P.Denot). map (λ (x : Symbol). is_in_loaded_regular c.args.resolved.now.marks x.origin) (symbols_in f.groups)) c.files-2.ensures in
    let tells = told-columns (seen c.args.db.now) c.args.resolved.now l is c.strengths.ensures dynamic held c.WEAK_SYMBOLS_OVERRIDE_COMMON.ensures
    (ap (λ (o : Options). o.allow_multiple) c.options.ensures) in
    c.in_ok-told.ensures l tells (c.in_ok-plain.ensures.listed g.P.Platform.WEAK_SYMBOLS_OVERRIDE_COMMON c.args.resolved.now l is)
    (c.in_ok-versioned.ensures.listed g.P.Platform.WEAK_SYMBOLS_OVERRIDE_COMMON c.args.resolved.now l is)
