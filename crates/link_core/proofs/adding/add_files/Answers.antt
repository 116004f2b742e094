use Rattle.std.proofs.Common.{◌∙◌, ◌++◌, List, [], ◌∷◌, Err, ap, arith, length, refl, subst, sym, not}
use Rattle.link_db_files.specs.GroupFiles.{symbols_in}
use Rattle.link_flags.specs.FlagWords.{numbers_of, words_of}
use Rattle.link_input_groups.specs.Held.{AreGroupsOf}
use Rattle.link_input.specs.declared.options.Options.{Options}
use Rattle.link_input.specs.InputFiles.{Batch, batch_of}
use Rattle.link_db_texts.specs.Causes.{TellsCause}
use Rattle.link_db_texts.specs.Holds.{AreRulesOf, HoldsTexts, platform_of}
use Rattle.link_rules.specs.Places.{is_empty}
use Rattle.link_rules.specs.World.{Earlier, with_batch}
use Rattle.link_db.proofs.Causes.{tells-through}
use Rattle.link_db.specs.Database.{Database, symbol_names}
use Rattle.link_db.specs.Seen.{seen}
use Rattle.link_resolve.proofs.Settling.{count-symbols}
use Rattle.link_resolve.specs.Known.{IsListed}
use Rattle.link_core.specs.Steps.{inputs_refusal}
use Rattle.link_core.proofs.NextStage.{at-next-stage, has-room, inputs-same, names-stay, numbers-counted, objects-stay, opening-are, symbols-stay, texts-held}
use Rattle.link_core.proofs.adding.add_files.Goals as goal

-- why the files are refused
pub returns-in_err-add_inputs-clause-cause : goal.returns-in_err-add_inputs-clause-cause
returns-in_err-add_inputs-clause-cause g c = λ w done before known is ready.
    let e = c.in_err-add_inputs.field-0.0 in
    let b = batch_of c.args.inputs in
    let demangle = g.D.Demangler.demangled c.args.demangler.now in
    let told : TellsCause {A = Unit {0}} (inputs_refusal (not (is_empty done)) before b) (Err e) =
    subst (λ cause. TellsCause {A = Unit {0}} cause (Err e))
    (inputs-same (platform_of g.P.Platform) demangle w done b before (seen c.args.db.now) (numbers_of (words_of c.args.flags.now)) known is ready)
    (c.in_err-add_inputs.ensures.cause done ready.groups) in
    tells-through _ _ e c.from_residual.result c.from_residual.ensures.0 c.from_residual.ensures.1 told

pub returns-clause-cause : goal.returns-clause-cause
returns-clause-cause g c = λ w done before known is ready.
    let demangle = g.D.Demangler.demangled c.args.demangler.now in
    sym (inputs-same (platform_of g.P.Platform) demangle w done (batch_of c.args.inputs) before (seen c.args.db.now) (numbers_of (words_of c.args.flags.now)) known is ready)
    ∙ c.in_ok-add_inputs.ensures.cause done ready.groups

-- the definitions of names are listed, and wraps change no list
pub returns-clause-listed : goal.returns-clause-listed
returns-clause-listed g c =
    let lists = c.in_ok-add_inputs.ensures.lists c.requires.listed.lists in
    subst (λ (d : Database g.row.P.Denot). IsListed d) (sym c.in_ok-apply_wrapped_symbol_overrides.ensures.rest) (record {
      lists = record { plain = lists.plain; versioned = lists.versioned };
      added = c.in_ok-add_inputs.ensures.grown.added ∙ c.requires.listed.added;
    })

-- the groups are those of one batch more
pub returns-clause-groups : goal.returns-clause-groups
returns-clause-groups g c = λ batches are.
    let rest = c.in_ok-apply_wrapped_symbol_overrides.ensures.rest in
    subst (λ (d : Database g.row.P.Denot). AreGroupsOf d.options (batches ++ batch_of c.args.inputs ∷ []) d.mapping.files.groups) (sym rest)
    (subst (λ (o : Options). AreGroupsOf o (batches ++ batch_of c.args.inputs ∷ []) (seen c.add_inputs.new.self).mapping.files.groups) (sym c.in_ok-add_inputs.ensures.grown.options)
    (c.in_ok-add_inputs.ensures.files batches are))

-- no object goes
pub returns-clause-objects : goal.returns-clause-objects
returns-clause-objects g c =
    let before = seen c.args.db.now in
    let held = c.requires.held in
    let rest = c.in_ok-apply_wrapped_symbol_overrides.ensures.rest in
    let groups = subst (λ (d : Database g.row.P.Denot). AreGroupsOf before.options (held.0 ++ batch_of c.args.inputs ∷ []) d.mapping.files.groups) (sym rest) (c.in_ok-add_inputs.ensures.files held.0 held.1) in
    objects-stay before.options held.0 (batch_of c.args.inputs) before.mapping.files.groups (seen c.apply_wrapped_symbol_overrides.new.self).mapping.files.groups held.1 groups

-- no symbol goes
pub returns-clause-symbols : goal.returns-clause-symbols
returns-clause-symbols g c =
    let names = ap (λ (d : Database g.row.P.Denot). length (symbol_names d)) c.in_ok-apply_wrapped_symbol_overrides.ensures.rest in
    let more = names-stay (seen c.args.db.now) (seen c.add_inputs.new.self) c.in_ok-add_inputs.ensures.grown c.requires.table in
    omega (arith, names, more)

-- the limits that the groups keep leave room
pub returns-clause-room : goal.returns-clause-room
returns-clause-room g c =
    let before = seen c.args.db.now in
    let new = seen c.apply_wrapped_symbol_overrides.new.self in
    let held = c.requires.held in
    let b = batch_of c.args.inputs in
    let rest = c.in_ok-apply_wrapped_symbol_overrides.ensures.rest in
    let grown = c.in_ok-add_inputs.ensures.grown in
    let groups = subst (λ (d : Database g.row.P.Denot). AreGroupsOf before.options (held.0 ++ b ∷ []) d.mapping.files.groups) (sym rest) (c.in_ok-add_inputs.ensures.files held.0 held.1) in
    let names = ap (λ (d : Database g.row.P.Denot). length (symbol_names d)) rest in
    has-room (platform_of g.P.Platform) before.options held.0 b new (words_of c.add_inputs.new.flags) groups held.2
    (ap (λ (d : Database g.row.P.Denot). d.options) rest ∙ grown.options)
    (ap (λ (d : Database g.row.P.Denot). d.mapping.files.added) rest ∙ (grown.added ∙ c.requires.listed.added))
    (ap (λ (d : Database g.row.P.Denot). length d.table) rest ∙ (grown.whole ∙ sym names)) (c.in_ok-add_inputs.ensures.whole ∙ sym names)

-- the database is at the next stage of the world
pub returns-clause-added : goal.returns-clause-added
returns-clause-added g c = λ w done before known is ready.
    let platform = platform_of g.P.Platform in
    let demangle = g.D.Demangler.demangled c.args.demangler.now in
    let first = seen c.args.db.now in
    let old = seen c.add_inputs.new.self in
    let after = seen c.apply_wrapped_symbol_overrides.new.self in
    let b = batch_of c.args.inputs in
    let s = with_batch before b in
    let numbers = numbers_of (words_of c.args.flags.now) in
    let e = c.in_ok-add_inputs.ensures in
    let rest = c.in_ok-apply_wrapped_symbol_overrides.ensures.rest in
    let groups : AreGroupsOf old.options (w.first ∷ w.later) old.mapping.files.groups =
    subst (λ (bs : List Batch). AreGroupsOf old.options bs old.mapping.files.groups) (sym is.batches)
    (subst (λ (o : Options). AreGroupsOf o (done ++ b ∷ []) old.mapping.files.groups) (sym e.grown.options) (e.files done ready.groups)) in
    let texts = texts-held platform demangle w done b before first old numbers known is ready (λ options given scripts holds. e.texts options given scripts holds) (λ some. e.late some) in
    let stage = at-next-stage platform demangle w done b before first old after numbers known is ready groups (e.lists ready.lists) e.grown texts rest
    c.in_ok-apply_wrapped_symbol_overrides.ensures.wrapped in
    let rules : AreRulesOf platform demangle old.rules s.rules = record { options = w.options; texts = w.texts; scripts = w.first.scripts; holds = texts; same = is.rules_are ∙ is.rules } in
    let symbols = stage.symbols ∙ ap (λ (d : Database g.row.P.Denot). symbols_in d.mapping.files.groups) rest in
    let counted = count-symbols first.mapping.files first.mapping.files refl ready.added in
    let words = c.requires.flags in
    record {
      stage = stage;
      flags = opening-are s first old (words_of c.args.flags.now) (words_of c.add_inputs.new.flags) (ap (λ (x : Earlier). x.flags) ready.left) (numbers-counted (words_of c.args.flags.now) counted words)
          (symbols-stay first old e.grown c.requires.table ready.added) symbols
          (e.flags s rules (ap (λ (o : Options). o.output) (is.files.options_are ∙ sym ready.options)));
      groups = subst (λ (d : Database g.row.P.Denot). AreGroupsOf d.options (w.first ∷ w.later) d.mapping.files.groups) (sym rest) groups;
      holds = subst (λ (d : Database g.row.P.Denot). HoldsTexts platform w.options w.texts w.first.scripts d.rules) (sym rest) texts;
    }
