use Rattle.std.proofs.Common.{◌≡◌, ◌∙◌, map, sym, subst}
use Rattle.std.specs.Option.{option_to_list}
use Rattle.link_flags.specs.FlagWords.{numbers_of, words_of}
use Rattle.link_rules.specs.Places.{each_from}
use Rattle.link_rules.specs.Rivals.{two_steps}
use Rattle.link_db.specs.RustForm.{freed}
use Rattle.link_db.specs.Seen.{seen}
use Rattle.link_db.proofs.Freed.{freed-none}
use Rattle.link_db.proofs.database.SymbolDb.free_name.Goals as goal

pub returns-in-None-clause-numbers : goal.returns-in-None-clause-numbers
returns-in-None-clause-numbers g c =
    let words = numbers_of (words_of c.args.flags.now) in
    let table = (seen c.args.self.now).table in
    subst (λ o. words ≡ each_from (freed (map (two_steps table) (option_to_list o))) 0 words) (sym c.in-None.is ∙ c.get_unversioned.ensures.value) (sym (freed-none 0 words))
