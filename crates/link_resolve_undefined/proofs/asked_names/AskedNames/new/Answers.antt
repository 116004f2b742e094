use Rattle.std.proofs.Common.{◌≡◌, ◌<◌, ◌≤◌, ◌+◌, ◌*◌, ◌∙◌, ◌^◌, ℕ, ap, arith, length, map, subst, sym}
use Rattle.std.specs.Prelude.{IfSome}
use Rattle.std.specs.Option.{option_or}
use Rattle.link_db_files.specs.GroupFiles.{symbols_in}
use Rattle.link_rules.specs.Undefined.{Numbered}
use Rattle.link_resolve_undefined.specs.Boundaries.{Marks}
use Rattle.link_resolve_undefined.specs.NameIds.{id_in}
use Rattle.link_resolve_undefined.proofs.Below.{stands-below}
use Rattle.link_resolve_undefined.proofs.Collected.{made-are, makers-are, makers-fit, makers-inside}
use Rattle.link_resolve_undefined.proofs.asked_names.AskedNames.new.Goals as goal

pub new_symbols-requires-clause-inside : goal.new_symbols-requires-clause-inside
new_symbols-requires-clause-inside g c =
    let sections = c.args.custom_sections.now in
    makers-inside (symbols_in c.args.files.now.groups) c.args.left.now sections c.in_ok-last.last c.as_slice.result.now (c.as_slice.ensures.value ∙ c.in_ok-makers.ensures sections c.in_ok-marks.ensures)

pub new_symbols-requires-clause-fits : goal.new_symbols-requires-clause-fits
new_symbols-requires-clause-fits g c =
    let sections = c.args.custom_sections.now in
    makers-fit (symbols_in c.args.files.now.groups) c.args.left.now sections c.in_ok-last.last c.as_slice.result.now c.args.first_new (2 ^ 32) (c.as_slice.ensures.value ∙ c.in_ok-makers.ensures sections c.in_ok-marks.ensures) c.requires.left c.requires.fits

pub invariant_of-result : goal.invariant_of-result
invariant_of-result g c =
    let sections = c.args.custom_sections.now in
    record { fits = makers-fit (symbols_in c.args.files.now.groups) c.args.left.now sections c.in_ok-last.last c.in_ok-makers.makers.items c.args.first_new (2 ^ 32) (c.in_ok-makers.ensures sections c.in_ok-marks.ensures) c.requires.left c.requires.fits }

pub returns-clause-asked : goal.returns-clause-asked
returns-clause-asked g c = λ w. λ stage.
    let sections = c.args.custom_sections.now in
    let symbols = symbols_in c.args.files.now.groups in
    let left = c.args.left.now in
    let last = c.in_ok-last.last in
    let makers = c.in_ok-makers.ensures sections c.in_ok-marks.ensures in
    record {
      last = c.in_ok-last.ensures;
      made = λ x. c.in_ok-made.ensures x ∙ made-are symbols left sections last w stage c.in_ok-last.ensures c.args.first_new c.as_slice.result.now x c.requires.first (c.as_slice.ensures.value ∙ makers);
      makers = makers ∙ ap (map (λ (u : Numbered). u.0)) (makers-are symbols left sections last w stage c.in_ok-last.ensures);
      first_new = c.requires.first ∙ ap length (sym stage.symbols_are);
      marks = subst (Marks c.in_ok-marks.marks) (sym stage.sections_are) c.in_ok-marks.ensures;
    }

pub returns-clause-inside : goal.returns-clause-inside
returns-clause-inside g c =
    let sections = c.args.custom_sections.now in
    makers-inside (symbols_in c.args.files.now.groups) c.args.left.now sections c.in_ok-last.last c.in_ok-makers.makers.items (c.in_ok-makers.ensures sections c.in_ok-marks.ensures)

pub returns-clause-few : goal.returns-clause-few
returns-clause-few g c =
    let sections = c.args.custom_sections.now in
    let few : 0 + length c.in_ok-makers.makers.items ≤ 2 * length sections =
    makers-fit (symbols_in c.args.files.now.groups) c.args.left.now sections c.in_ok-last.last c.in_ok-makers.makers.items 0 (2 * length sections) (c.in_ok-makers.ensures sections c.in_ok-marks.ensures) c.requires.left (omega arith) in
    omega arith

pub returns-clause-below : goal.returns-clause-below
returns-clause-below g c =
    let symbols = symbols_in c.args.files.now.groups in
    let made = c.as_slice.result.now in
    let same : length made ≡ length c.in_ok-makers.makers.items = ap length c.as_slice.ensures.value in
    record {
      stands = λ name version. subst (λ (n : ℕ). IfSome (option_or (id_in c.in_ok-made.made name version) (id_in c.in_ok-last.last name version)) (λ s. s < length symbols + n)) same
          (stands-below symbols c.args.left.now made c.in_ok-last.last c.in_ok-made.made c.args.first_new c.requires.first c.in_ok-last.ensures c.in_ok-made.ensures name version);
      new = omega (arith, c.requires.first);
    }
