use Rattle.std.proofs.Common.{◌∙◌, ap, subst}
use Rattle.std.specs.Prelude.{IfOk}
use Rattle.std.specs.List.{AllZip}
use Rattle.rayon.proofs.ListFacts.{AllZip-through}
use Rattle.link_input.specs.declared.options.OutputKind.{OutputKind}
use Rattle.link_db_texts.specs.Holds.{platform_of}
use Rattle.link_db_texts.specs.ReadTexts.{ReadTexts}
use Rattle.link_db_ingest.specs.Parts.{IsReadOf}
use Rattle.link_db_ingest.proofs.Parts.{all_definitions_read, all_flags_read, all_have_flags}
use Rattle.link_db_ingest.proofs.groups.read_groups.Given as given
use Rattle.link_db_ingest.proofs.groups.read_groups.Goals as goal

-- what was read of each group, in order
zipped : (g : given.Over) (c : goal.In_ok-collect g)
    → AllZip (λ x r. IfOk r (IsReadOf (platform_of g.P.Platform) (g.D.Demangler.demangled c.args.demangler.now) c.args.rules.now c.args.output x))
    c.args.groups.now c.in_ok-collect.ensures.0
zipped g c =
    let platform = platform_of g.P.Platform in
    let demangled = g.D.Demangler.demangled in
    let h = c.in_ok-collect.ensures in
    let chain = h.1 in
    let f = c.map.result.f in
    let groups = chain.1 ∙ ap (λ it. it.base.slice.now) c.map.ensures.base ∙ ap (λ it. it.slice.now) c.with_min_len.ensures.base ∙ c.par_iter.ensures in
    let rules = ap (λ k. k.1.now) c.map.ensures.f in
    let output = ap (λ k. k.2.now) c.map.ensures.f in
    let demangler = ap (λ k. k.3.now) c.map.ensures.f in
    let parts = AllZip-through (λ z. z.now) _ (λ x r. IfOk r (IsReadOf platform (demangled c.args.demangler.now) c.args.rules.now c.args.output x)) (λ z y e.
    subst (λ d. IfOk y (IsReadOf platform (demangled d) c.args.rules.now c.args.output z.now)) demangler
    (subst (λ (o : OutputKind). IfOk y (IsReadOf platform (demangled f.3.now) c.args.rules.now o z.now)) output
    (subst (λ (t : ReadTexts). IfOk y (IsReadOf platform (demangled f.3.now) t f.2.now z.now)) rules e))) chain.0 h.0 chain.2 in
    subst (λ xs. AllZip (λ x r. IfOk r (IsReadOf platform (demangled c.args.demangler.now) c.args.rules.now c.args.output x)) xs h.0) groups parts

pub returns-clause-definitions : goal.returns-clause-definitions
returns-clause-definitions g c =
    all_definitions_read (platform_of g.P.Platform) (g.D.Demangler.demangled c.args.demangler.now) c.args.rules.now c.args.output c.args.groups.now
    c.in_ok-collect.ensures.0 (zipped g c) c.in_ok-collect.field-0 c.in_ok-collect.ensures.2

pub returns-clause-flags : goal.returns-clause-flags
returns-clause-flags g c =
    all_flags_read (platform_of g.P.Platform) (g.D.Demangler.demangled c.args.demangler.now) c.args.rules.now c.args.output c.args.groups.now
    c.in_ok-collect.ensures.0 (zipped g c) c.in_ok-collect.field-0 c.in_ok-collect.ensures.2

pub returns-clause-count : goal.returns-clause-count
returns-clause-count g c =
    all_have_flags (platform_of g.P.Platform) (g.D.Demangler.demangled c.args.demangler.now) c.args.rules.now c.args.output c.args.groups.now
    c.in_ok-collect.ensures.0 (zipped g c) c.in_ok-collect.field-0 c.in_ok-collect.ensures.2
