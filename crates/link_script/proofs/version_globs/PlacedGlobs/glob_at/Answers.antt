use Rattle.std.proofs.Common.{◌∙◌, sym, ap, refl, List, length, slice_get}
use Rattle.std.proofs.lemmas.Option.{slice_get_past, slice_get_read}
use Rattle.link_glob.specs.Glob.{GlobToken}
use Rattle.link_script.specs.Rules.{globs_in}
use Rattle.link_script.proofs.VersionGlobs.{glob_there, glob_found, glob_is}
use Rattle.link_script.proofs.version_globs.PlacedGlobs.glob_at.Goals as goal

pub returns-in_err-place : goal.returns-in_err-place
returns-in_err-place c =
    let g = c.self.inside in
    let found = glob_found g.versions.now g.class g.cxx g.places.now c.args.number c.self.invariant ∙ ap (λ (globs : List (List GlobToken)). slice_get globs c.args.number) c.self.view_is in
    rw c.from_residual.ensures (sym (ap (glob_there g.versions.now g.class g.cxx) (slice_get_past g.places.now c.args.number c.in_err-place.ensures.lookup.3)) ∙ found)

pub returns-in_err-version : goal.returns-in_err-version
returns-in_err-version c =
    let g = c.self.inside in
    let found = glob_found g.versions.now g.class g.cxx g.places.now c.args.number c.self.invariant ∙ ap (λ (globs : List (List GlobToken)). slice_get globs c.args.number) c.self.view_is in
    let place = slice_get_read g.places.now (length g.places.now) c.args.number c.in_ok-place.place.now refl c.in_ok-place.ensures.lookup.3.0 c.in_ok-place.ensures.lookup.1 in
    let none = ap (slice_get g.versions.now) (sym c.from.ensures) ∙ slice_get_past g.versions.now c.from.result c.in_err-version.ensures.lookup.3 in
    rw c.from_residual-in_err-version.ensures (sym (glob_is g.versions.now g.class g.cxx _ c.in_ok-place.place.now _ place none) ∙ found)

pub returns-in_err-glob : goal.returns-in_err-glob
returns-in_err-glob c =
    let g = c.self.inside in
    let found = glob_found g.versions.now g.class g.cxx g.places.now c.args.number c.self.invariant ∙ ap (λ (globs : List (List GlobToken)). slice_get globs c.args.number) c.self.view_is in
    let place = slice_get_read g.places.now (length g.places.now) c.args.number c.in_ok-place.place.now refl c.in_ok-place.ensures.lookup.3.0 c.in_ok-place.ensures.lookup.1 in
    let version = ap (slice_get g.versions.now) (sym c.from.ensures) ∙ slice_get_read g.versions.now (length g.versions.now) c.from.result c.in_ok-version.version.now refl c.in_ok-version.ensures.lookup.3.0 c.in_ok-version.ensures.lookup.1 in
    let there = ap (λ (globs : List (List GlobToken)). slice_get globs c.in_ok-place.place.now.number) (c.globs-globs.ensures ∙ ap (globs_in g.class) c.rules.ensures) ∙ sym (glob_is g.versions.now g.class g.cxx _ c.in_ok-place.place.now _ place version) ∙ found in
    rw c.from_residual-in_err-glob.ensures (sym (slice_get_past c.globs-globs.result.now c.in_ok-place.place.now.number c.in_err-glob.ensures.lookup.3) ∙ there)

pub returns : goal.returns
returns c =
    let g = c.self.inside in
    let found = glob_found g.versions.now g.class g.cxx g.places.now c.args.number c.self.invariant ∙ ap (λ (globs : List (List GlobToken)). slice_get globs c.args.number) c.self.view_is in
    let place = slice_get_read g.places.now (length g.places.now) c.args.number c.in_ok-place.place.now refl c.in_ok-place.ensures.lookup.3.0 c.in_ok-place.ensures.lookup.1 in
    let version = ap (slice_get g.versions.now) (sym c.from.ensures) ∙ slice_get_read g.versions.now (length g.versions.now) c.from.result c.in_ok-version.version.now refl c.in_ok-version.ensures.lookup.3.0 c.in_ok-version.ensures.lookup.1 in
    let there = ap (λ (globs : List (List GlobToken)). slice_get globs c.in_ok-place.place.now.number) (c.globs-globs.ensures ∙ ap (globs_in g.class) c.rules.ensures) ∙ sym (glob_is g.versions.now g.class g.cxx _ c.in_ok-place.place.now _ place version) ∙ found in
    sym (slice_get_read c.globs-globs.result.now (length c.globs-globs.result.now) c.in_ok-place.place.now.number c.in_ok-glob.glob.now refl c.in_ok-glob.ensures.lookup.3.0 c.in_ok-glob.ensures.lookup.1) ∙ there
