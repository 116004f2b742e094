use Rattle.std.proofs.Common.{◌≡◌, ◌∙◌, Bool, List, map, refl, sym, ap, subst}
use Rattle.link_check_claims.specs.declared.claim.ClaimedObject.{ClaimedObject}
use Rattle.link_check_claims.specs.Claims.{AreLoaded}
use Rattle.link_check_names.specs.declared.wraps.WrappedName.{WrappedName}
use Rattle.link_check_names.specs.Named.{Named}
use Rattle.link_check_symbols.specs.Gathered.{link_symbols}
use Rattle.link_check_texts.specs.Given.{given_of, platform_of}
use Rattle.link_closure.specs.Closure.{is_marked}
use Rattle.link_input.specs.declared.internal_symbols.InternalSymDefInfo.{InternalSymDefInfo}
use Rattle.link_input.specs.InputFiles.{batch_of}
use Rattle.link_input.specs.Symbols.{Symbol}
use Rattle.link_rules.specs.World.{first_stage, world_of}
use Rattle.link_check.proofs.Steps.{named-by, ok-into}
use Rattle.link_check.proofs.checking.verdict_on.Goals as goal

-- the claimed objects are not those that are loaded
pub returns-then-not-branch : goal.returns-then-not-branch
returns-then-not-branch g c = λ demangle required loaded.
    let world = world_of (platform_of g.P.Platform) demangle (given_of c.args.world.now) in
    let w = first_stage world in
    let symbols : c.args.symbols.now ≡ w.symbols =
    c.requires.symbols ∙ ap (λ (ds : List InternalSymDefInfo). link_symbols ds (batch_of c.args.world.now.inputs)) c.requires.prelude in
    let wraps : map (λ (x : WrappedName). x.name) c.deref.result.now ≡ w.options.wrap =
    ap (map (λ (x : WrappedName). x.name)) c.deref.ensures.value ∙ (c.in_ok-wraps.ensures ∙ c.as_slice.ensures) in
    let named : c.in_ok-names.names ≡ record { symbols = w.symbols; wrap = w.options.wrap } =
    c.in_ok-names.ensures ∙ (ap (λ (ss : List Symbol). named-by ss (map (λ (x : WrappedName). x.name) c.deref.result.now)) symbols ∙ ap (named-by w.symbols) wraps) in
    let same = sym (ap (λ (n : Named). n.symbols) named) in
    let same_wrap = sym (ap (λ (n : Named). n.wrap) named) in
    let targets = c.in_ok-targets.ensures w (record { symbols = same; wrap = same_wrap; weak = sym c.WEAK_SYMBOLS_OVERRIDE_COMMON.ensures; first = refl }) in
    let requests = c.in_ok-requests.ensures w (sym symbols) (c.deref-2.ensures.value ∙ targets) in
    let roots = c.in_ok-roots.ensures w (record {
      objects = refl;
      scripts = refl;
      given = refl;
      prelude = sym c.requires.prelude;
      exports = sym required;
      symbols = same;
      gathered = refl;
      wrap = same_wrap;
      first = refl;
    }) in
    let holds = c.in_ok-are_loaded.ensures w (sym symbols) (c.deref-3.ensures.value ∙ requests) (λ f. roots f ∙ ap (λ (ms : List Bool). is_marked ms f) (sym c.deref-4.ensures.value)) in
    let told = holds.1 (subst (λ (os : List ClaimedObject). AreLoaded w os) (sym c.as_slice-loaded.ensures) loaded) in
    let untold = c.if-not-branch.true in
    absurd cc

-- they are, and the other parts follow
pub returns : goal.returns
returns g c = ok-into c.verdict_behind_loaded.result _ _ (λ verdict held. λ demangle required.
    let world = world_of (platform_of g.P.Platform) demangle (given_of c.args.world.now) in
    let w = first_stage world in
    let symbols : c.args.symbols.now ≡ w.symbols =
    c.requires.symbols ∙ ap (λ (ds : List InternalSymDefInfo). link_symbols ds (batch_of c.args.world.now.inputs)) c.requires.prelude in
    let wraps : map (λ (x : WrappedName). x.name) c.deref.result.now ≡ w.options.wrap =
    ap (map (λ (x : WrappedName). x.name)) c.deref.ensures.value ∙ (c.in_ok-wraps.ensures ∙ c.as_slice.ensures) in
    let named : c.in_ok-names.names ≡ record { symbols = w.symbols; wrap = w.options.wrap } =
    c.in_ok-names.ensures ∙ (ap (λ (ss : List Symbol). named-by ss (map (λ (x : WrappedName). x.name) c.deref.result.now)) symbols ∙ ap (named-by w.symbols) wraps) in
    let same = sym (ap (λ (n : Named). n.symbols) named) in
    let same_wrap = sym (ap (λ (n : Named). n.wrap) named) in
    let targets = c.in_ok-targets.ensures w (record { symbols = same; wrap = same_wrap; weak = sym c.WEAK_SYMBOLS_OVERRIDE_COMMON.ensures; first = refl }) in
    let requests = c.in_ok-requests.ensures w (sym symbols) (c.deref-2.ensures.value ∙ targets) in
    let roots = c.in_ok-roots.ensures w (record {
      objects = refl;
      scripts = refl;
      given = refl;
      prelude = sym c.requires.prelude;
      exports = sym required;
      symbols = same;
      gathered = refl;
      wrap = same_wrap;
      first = refl;
    }) in
    let holds = c.in_ok-are_loaded.ensures w (sym symbols) (c.deref-3.ensures.value ∙ requests) (λ f. roots f ∙ ap (λ (ms : List Bool). is_marked ms f) (sym c.deref-4.ensures.value)) in
    let loaded = subst (λ (os : List ClaimedObject). AreLoaded w os) c.as_slice-loaded.ensures (holds.0 c.if-not-branch.false) in
    held demangle named (c.deref-5.ensures.value ∙ targets) loaded) c.verdict_behind_loaded.ensures
