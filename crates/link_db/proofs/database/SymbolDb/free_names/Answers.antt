use Rattle.std.proofs.Common.{List, ◌≡◌, ◌+◌, ◌∷◌, [], ◌∙◌, drop, sym, ap, arith}
use Rattle.std.proofs.lemmas.List.{drop_all}
use Rattle.link_flags.specs.FlagWords.{numbers_of, words_of}
use Rattle.link_rules.specs.Places.{Bytes, each_from}
use Rattle.link_db.specs.RustForm.{freed}
use Rattle.link_db.specs.RustScript.{freed_by, freed_symbols}
use Rattle.link_db.specs.Seen.{seen}
use Rattle.link_db.proofs.Freed.{freed-none}
use Rattle.link_db.proofs.FreedNames.{freed-named}
use Rattle.link_db_texts.proofs.Forced.{rest_is}
use Rattle.link_db.proofs.database.SymbolDb.free_names.Goals as goal

-- one name more is freed
pub loop-name-preserved : goal.loop-name-preserved
loop-name-preserved g c =
    let db = seen c.args.self.now in
    let names = c.args.names.now in
    let i = c.loop-name.name-index in
    let name = c.name-item.result in
    let rest = drop (i + 1) names in
    let words = numbers_of (words_of c.loop-name.flags) in
    let next : drop i names ≡ name ∷ rest = rest_is names i name c.loop-name-test.true c.name-item.is in
    let after : numbers_of (words_of c.free_name.new.flags) ≡ each_from (freed (freed_by db name)) 0 words =
    c.free_name.ensures.numbers ∙ ap (λ (n : Bytes). each_from (freed (freed_by db n)) 0 words) c.as_slice.ensures in
    let here : each_from (freed (freed_symbols db (name ∷ rest))) 0 words ≡ each_from (freed (freed_symbols db names)) 0 (numbers_of (words_of c.args.flags.now)) =
    ap (λ (xs : List Bytes). each_from (freed (freed_symbols db xs)) 0 words) (sym next) ∙ c.loop-name.invariant.0 in
    (ap (each_from (freed (freed_symbols db rest)) 0) after ∙ freed-named db name rest words ∙ here, c.free_name.ensures.len ∙ c.loop-name.invariant.1)

-- no name is left
pub returns-clause-numbers : goal.returns-clause-numbers
returns-clause-numbers g c =
    let db = seen c.args.self.now in
    let names = c.args.names.now in
    let words = numbers_of (words_of c.loop-name.flags) in
    let none : drop c.loop-name.name-index names ≡ [] = drop_all c.loop-name.name-index names (omega (arith, c.loop-name-test.false)) in
    sym (freed-none 0 words) ∙ ap (λ (xs : List Bytes). each_from (freed (freed_symbols db xs)) 0 words) (sym none) ∙ c.loop-name.invariant.0
