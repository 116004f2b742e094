use Rattle.std.proofs.Common.{◌≡◌, ◌∙◌, List, ap, length, map, refl, subst, sym}
use Rattle.std.proofs.lemmas.List.{length-map}
use Rattle.link_db_files.specs.GroupFiles.{symbols_in}
use Rattle.link_flags.specs.FlagWords.{numbers_of, words_of}
use Rattle.link_input.specs.Symbols.{Symbol, is_shared, visibility_in}
use Rattle.link_db_texts.specs.Holds.{platform_of}
use Rattle.link_resolve_rivals.proofs.NarrowPass.{narrowed-twice}
use Rattle.link_resolve_rivals.specs.Lists.{AreLists}
use Rattle.link_resolve_rivals.specs.Narrowed.{AreSeen, narrowed}
use Rattle.link_db.specs.Seen.{seen}
use Rattle.link_resolve.proofs.Behind.{plain-are, versioned-are}
use Rattle.link_resolve.specs.Lists.{plain_rivals, versioned_rivals}
use Rattle.link_resolve.proofs.rivals.narrow_names.Goals as goal

pub narrow-requires-clause-lists : goal.narrow-requires-clause-lists
narrow-requires-clause-lists g c =
    let symbols = symbols_in (seen c.args.db.now).mapping.files.groups in
    let many : length c.args.dynamic.now ≡ length symbols = rw (c.requires.dynamic, length-map) refl in
    subst (AreLists (plain_rivals symbols)) (sym many) (plain-are (platform_of g.P.Platform) (seen c.args.db.now).options symbols)

pub narrow-requires-2-clause-lists : goal.narrow-requires-2-clause-lists
narrow-requires-2-clause-lists g c =
    let symbols = symbols_in (seen c.args.db.now).mapping.files.groups in
    let many : length c.args.dynamic.now ≡ length symbols = rw (c.requires.dynamic, length-map) refl in
    subst (AreLists (versioned_rivals symbols)) (sym many) (versioned-are (platform_of g.P.Platform) (seen c.args.db.now).options symbols)

pub returns-clause-flags : goal.returns-clause-flags
returns-clause-flags g c = λ w symbols.
    let own = symbols_in (seen c.args.db.now).mapping.files.groups in
    let are_seen : AreSeen c.args.visibilities.now c.args.dynamic.now w = record {
      visibilities = c.requires.visibilities ∙ ap (map (λ (x : Symbol). visibility_in x.origin)) (sym symbols);
      dynamic = c.requires.dynamic ∙ ap (map (λ (x : Symbol). is_shared x.origin)) (sym symbols);
    } in
    let before = numbers_of (words_of c.args.flags.now) in
    c.narrow-2.ensures.flags w are_seen
    ∙ ap (λ (xs : List Symbol). narrowed w (versioned_rivals xs) (numbers_of (words_of c.narrow.new.flags))) (sym symbols)
    ∙ ap (narrowed w (versioned_rivals w.symbols)) (c.narrow.ensures.flags w are_seen ∙ ap (λ (xs : List Symbol). narrowed w (plain_rivals xs) before) (sym symbols))
    ∙ narrowed-twice w before
