use Rattle.std.proofs.Common.{◌≡◌, ◌∙◌, map, sym, ap, subst, refl, Some}
use Rattle.std.specs.Prelude.{option_map}
use Rattle.link_flags.specs.FlagWords.{numbers_of, words_of}
use Rattle.link_rules.specs.Visibility.{closed_if_local}
use Rattle.link_db.specs.RustScript.{flags_by_script, freed_symbols}
use Rattle.link_db.specs.Seen.{seen}
use Rattle.link_db.proofs.Freed.{freed-closed}
use Rattle.link_db.proofs.database.SymbolDb.handle_rust_version_script.Goals as goal

pub returns-in-None-clause-flags : goal.returns-in-None-clause-flags
returns-in-None-clause-flags g c = λ demangle rules are.
    let words = numbers_of (words_of c.args.flags.now) in
    subst (λ o. words ≡ flags_by_script (seen c.args.self.now) o words) (ap (option_map (λ n. n.now)) (sym c.in-None.is) ∙ c.rust_names.ensures demangle rules are) refl

pub returns-in-Some-clause-flags : goal.returns-in-Some-clause-flags
returns-in-Some-clause-flags g c = λ demangle rules are.
    let db = seen c.args.self.now in
    let words = numbers_of (words_of c.args.flags.now) in
    let listed = c.in-Some.names.now in
    let closed : numbers_of (words_of c.close_local.new.flags) ≡ flags_by_script db (Some listed) words =
    c.close_local.ensures.numbers ∙ ap (map closed_if_local) c.free_names.ensures.numbers ∙ freed-closed (freed_symbols db listed) 0 words in
    subst (λ o. numbers_of (words_of c.close_local.new.flags) ≡ flags_by_script db o words) (ap (option_map (λ n. n.now)) (sym c.in-Some.is) ∙ c.rust_names.ensures demangle rules are) closed
