use Rattle.std.proofs.Common.{◌≡◌, ◌+◌, suc, drop, if◌then◌else◌, Some, subst, arith}
use Rattle.std.specs.Prelude.{slice_get}
use Rattle.link_db_files.specs.HeldFiles.{names_in}
use Rattle.link_rules.specs.Places.{first_of, places_from}
use Rattle.link_db.specs.Mangled.{stands_for}
use Rattle.link_db.proofs.Walked.{next-first}
use Rattle.link_db.proofs.mangled.find_mangled.Goals as goal

pub returns-then-stands_for : goal.returns-then-stands_for
returns-then-stands_for g c =
    let p = stands_for (g.D.Demangler.demangled c.args.demangler.now) c.args.target.now in
    let n = c.loop-number.number in
    let names = names_in c.args.files.now in
    let id : slice_get names c.from_usize-id.result ≡ Some c.symbol_name.result = c.symbol_name.ensures in
    let found : slice_get names n ≡ Some c.symbol_name.result = subst (λ k. slice_get names k ≡ Some c.symbol_name.result) c.from_usize-id.ensures id in
    let next : suc n ≡ n + 1 = omega arith in
    let step : first_of (places_from p n (drop n names)) ≡ (if p c.symbol_name.result then Some n else first_of (places_from p (n + 1) (drop (n + 1) names))) =
    subst (λ k. first_of (places_from p n (drop n names)) ≡ (if p c.symbol_name.result then Some n else first_of (places_from p (n + 1) (drop k names)))) next
    (next-first p names n n c.symbol_name.result found) in
    grind (arith, step, c.loop-number.invariant, c.stands_for.ensures, c.as_slice.ensures, c.if-stands_for.true, c.from_usize-id.ensures)

pub loop-number-preserved : goal.loop-number-preserved
loop-number-preserved g c =
    let p = stands_for (g.D.Demangler.demangled c.args.demangler.now) c.args.target.now in
    let n = c.loop-number.number in
    let names = names_in c.args.files.now in
    let id : slice_get names c.from_usize-id.result ≡ Some c.symbol_name.result = c.symbol_name.ensures in
    let found : slice_get names n ≡ Some c.symbol_name.result = subst (λ k. slice_get names k ≡ Some c.symbol_name.result) c.from_usize-id.ensures id in
    let next : suc n ≡ n + 1 = omega arith in
    let step : first_of (places_from p n (drop n names)) ≡ (if p c.symbol_name.result then Some n else first_of (places_from p (n + 1) (drop (n + 1) names))) =
    subst (λ k. first_of (places_from p n (drop n names)) ≡ (if p c.symbol_name.result then Some n else first_of (places_from p (n + 1) (drop k names)))) next
    (next-first p names n n c.symbol_name.result found) in
    grind (arith, step, c.loop-number.invariant, c.stands_for.ensures, c.as_slice.ensures, c.if-stands_for.false)
