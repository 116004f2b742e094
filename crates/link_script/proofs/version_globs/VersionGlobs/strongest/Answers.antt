use Rattle.std.proofs.Common.{◌∙◌, sym, ap, refl, List, None, Some, length, slice_get}
use Rattle.std.specs.Option.{option_map}
use Rattle.std.proofs.lemmas.Option.{slice_get_past, slice_get_read}
use Rattle.link_script.specs.declared.version_globs.GlobPlace.{GlobPlace}
use Rattle.link_script.proofs.VersionGlobs.{owner_in, owner_found, none_found}
use Rattle.link_script.proofs.version_globs.VersionGlobs.strongest.Goals as goal

pub returns-in_err-text : goal.returns-in_err-text
returns-in_err-text c = rw c.in_err-text.was (c.from_residual.ensures ∙ none_found c.args.versions.now c.args.class c.args.cxx (length c.args.versions.now))

pub returns-in_err-number : goal.returns-in_err-number
returns-in_err-number c =
    rw c.in_ok-text.was
    (c.from_residual-in_err-number.ensures ∙ owner_found c.args.versions.now c.args.class c.args.cxx c.args.self.now c.in_ok-text.field-0.now None c.requires c.in_err-number.ensures)

pub returns-in_err-place : goal.returns-in_err-place
returns-in_err-place c =
    let past = slice_get_past c.as_slice-places.result.now c.in_ok-number.number c.in_err-place.ensures.lookup.3 in
    rw c.in_ok-text.was
    (c.from_residual-in_err-place.ensures ∙ ap (option_map owner_in) (sym past ∙ ap (λ (l : List GlobPlace). slice_get l c.in_ok-number.number) c.as_slice-places.ensures)
    ∙ owner_found c.args.versions.now c.args.class c.args.cxx c.args.self.now c.in_ok-text.field-0.now (Some c.in_ok-number.number) c.requires c.in_ok-number.ensures)

pub returns : goal.returns
returns c =
    let items = c.as_slice-places.result.now in
    let read = slice_get_read items (length items) c.in_ok-number.number c.in_ok-place.place.now refl c.in_ok-place.ensures.lookup.3.0 c.in_ok-place.ensures.lookup.1 in
    rw c.in_ok-text.was
    (ap (option_map owner_in) (sym read ∙ ap (λ (l : List GlobPlace). slice_get l c.in_ok-number.number) c.as_slice-places.ensures)
    ∙ owner_found c.args.versions.now c.args.class c.args.cxx c.args.self.now c.in_ok-text.field-0.now (Some c.in_ok-number.number) c.requires c.in_ok-number.ensures)
