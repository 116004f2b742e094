use Rattle.std.proofs.Common.{◌≡◌, ◌∙◌, ◌++◌, ◌&&◌, [], Some, None, ap, arith, refl, slice_get, length}
use Rattle.std.specs.Str.{bytes_eq}
use Rattle.std.proofs.lemmas.Option.{slice_get_read}
use Rattle.link_input.specs.Symbols.{Symbol}
use Rattle.link_rules.specs.Names.{is_listed, is_version_listed}
use Rattle.link_rules.specs.Places.{kept_if, same_version}
use Rattle.link_check_names.specs.Lists.{list_in}
use Rattle.link_check_names.proofs.Gathering.{places-grow}
use Rattle.link_check_names.proofs.definitions.definition_lists.Goals as goal

pub loop-place-preserved : goal.loop-place-preserved
loop-place-preserved c =
    let symbols = c.args.symbols.now in
    let i = c.loop-place.place in
    let x = c.index-symbols-place.result in
    let at : slice_get symbols i ≡ Some x = slice_get_read symbols (length symbols) i x refl (omega arith) c.index-symbols-place.is in
    record {
      plain = λ name.
          c.in_ok-list_symbol.ensures.plain name
          ∙ (ap (λ id. list_in c.loop-place.lists name None ++ kept_if (is_listed x && bytes_eq x.name name) id []) c.from_usize.ensures
          ∙ places-grow (λ (y : Symbol). is_listed y && bytes_eq y.name name) symbols i x (list_in c.loop-place.lists name None) at (c.loop-place.invariant.plain name));
      versioned = λ name version.
          c.in_ok-list_symbol.ensures.versioned name version
          ∙ (ap (λ id. list_in c.loop-place.lists name (Some version) ++ kept_if (is_version_listed x && bytes_eq x.name name && same_version x.version (Some version)) id []) c.from_usize.ensures
          ∙ places-grow (λ (y : Symbol). is_version_listed y && bytes_eq y.name name && same_version y.version (Some version)) symbols i x (list_in c.loop-place.lists name (Some version)) at
          (c.loop-place.invariant.versioned name version));
    }
