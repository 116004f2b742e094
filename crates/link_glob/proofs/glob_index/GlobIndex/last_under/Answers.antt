use Rattle.std.proofs.Common.{◌∙◌, sym, ap, subst, length, ℕ, List, Option, refl, arith, le_refl}
use Rattle.std.specs.Prelude.{slice_get}
use Rattle.std.specs.Str.{chars}
use Rattle.std.proofs.lemmas.Option.{slice_get_read}
use Rattle.link_glob.specs.GlobKey.{filed, is_under}
use Rattle.link_glob.proofs.Chains.{Walks, on_way, ended, taken, passed, smaller, same_Some}
use Rattle.link_glob.proofs.glob_index.GlobIndex.last_under.Goals as goal

pub places-init : goal.places-init
places-init g c = (filed c.args.self.now, le_refl _, c.copied-place.ensures ∙ c.get.ensures.value ∙ c.requires.last c.args.key, refl)

pub returns-then-fits : goal.returns-then-fits
returns-then-fits g c =
    let globs = g.G.Globs.globs c.args.globs.now in
    let w = on_way globs c.args.key (chars c.args.name.now) (filed c.args.self.now) c.in-Some.at c.places.place c.places.invariant c.in-Some.is in
    taken globs c.args.key (chars c.args.name.now) (filed c.args.self.now) c.in-Some.at w (sym c.fits.ensures ∙ c.if-fits.true)

pub returns-in_err-place : goal.returns-in_err-place
returns-in_err-place g c =
    let w = on_way (g.G.Globs.globs c.args.globs.now) c.args.key (chars c.args.name.now) (filed c.args.self.now) c.in-Some.at c.places.place c.places.invariant c.in-Some.is in
    let past = c.in_err-place.ensures.lookup.3 in
    absurd (omega (arith, past, w.within, ap length c.deref.ensures.value))

pub places-smaller : goal.places-smaller
places-smaller g c =
    let globs = g.G.Globs.globs c.args.globs.now in
    let w = on_way globs c.args.key (chars c.args.name.now) (filed c.args.self.now) c.in-Some.at c.places.place c.places.invariant c.in-Some.is in
    let items = c.deref.result.now in
    let read = slice_get_read items (length items) c.in-Some.at c.in_ok-place.field-0.now refl c.in_ok-place.ensures.lookup.3.0 c.in_ok-place.ensures.lookup.1 in
    let there = sym read ∙ ap (λ (l : List (Option ℕ)). slice_get l c.in-Some.at) c.deref.ensures.value ∙ c.requires.earlier c.args.key c.in-Some.at w.within w.under in
    smaller (is_under globs c.args.key) c.in-Some.at c.in_ok-place.field-0.now c.places.place (same_Some there) c.in-Some.is

pub places-preserved : goal.places-preserved
places-preserved g c =
    let globs = g.G.Globs.globs c.args.globs.now in
    let w = on_way globs c.args.key (chars c.args.name.now) (filed c.args.self.now) c.in-Some.at c.places.place c.places.invariant c.in-Some.is in
    let items = c.deref.result.now in
    let read = slice_get_read items (length items) c.in-Some.at c.in_ok-place.field-0.now refl c.in_ok-place.ensures.lookup.3.0 c.in_ok-place.ensures.lookup.1 in
    let there = sym read ∙ ap (λ (l : List (Option ℕ)). slice_get l c.in-Some.at) c.deref.ensures.value ∙ c.requires.earlier c.args.key c.in-Some.at w.within w.under in
    let goes = passed globs c.args.key (chars c.args.name.now) (filed c.args.self.now) c.in-Some.at w (sym c.fits.ensures ∙ c.if-fits.false) in
    subst (Walks globs c.args.key (chars c.args.name.now) (filed c.args.self.now)) (sym (same_Some there)) goes

pub returns : goal.returns
returns g c = ended (g.G.Globs.globs c.args.globs.now) c.args.key (chars c.args.name.now) (filed c.args.self.now) c.places.place c.places.invariant c.in_default.is
