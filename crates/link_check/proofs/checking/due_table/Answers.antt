use Rattle.std.proofs.Common.{◌≡◌, ◌∙◌, ℕ, List, Option, refl, sym, ap}
use Rattle.std.specs.Option.{option_map_or}
use Rattle.std.proofs.Common.{None, slice_get}
use Rattle.link_check_names.specs.Named.{Named}
use Rattle.link_check_texts.specs.Given.{given_of, platform_of}
use Rattle.link_rules.specs.Selection.{selection_of}
use Rattle.link_rules.specs.World.{first_stage, world_of}
use Rattle.link_check.proofs.Steps.{ok-into}
use Rattle.link_check.proofs.checking.due_table.Goals as goal

pub returns : goal.returns
returns g c = ok-into c.final_table.result _ _ (λ entries held. λ demangle named told grouped.
    let w = first_stage (world_of (platform_of g.P.Platform) demangle (given_of c.args.world.now)) in
    let l = selection_of w c.args.marks.now in
    let symbols : w.symbols ≡ c.symbols-symbols.result.now = sym (c.symbols-symbols.ensures ∙ ap (λ (n : Named). n.symbols) named) in
    let targets = c.in_ok-targets.ensures w symbols told in
    let strengths = c.in_ok-strengths.ensures w symbols grouped in
    let table = c.in_ok-table.ensures l (record {
      symbols = sym (ap (λ (n : Named). n.symbols) named);
      wrap = sym (ap (λ (n : Named). n.wrap) named);
      weak = sym c.WEAK_SYMBOLS_OVERRIDE_COMMON.ensures;
      multiple = refl;
      marks = refl;
      strengths = sym (c.deref.ensures.value ∙ strengths);
    }) (sym (c.deref-2.ensures.value ∙ targets)) in
    held l (record {
      symbols_are = symbols;
      marks_are = refl;
      targets_are = λ s u at is. ap (λ (ts : List (Option ℕ)). option_map_or (λ (t : Option ℕ). t) (slice_get ts s) None) (c.deref-3.ensures.value ∙ targets);
      sections_are = sym c.as_slice-sections.ensures;
      table_is = c.deref-4.ensures.value ∙ table;
    })) c.final_table.ensures
