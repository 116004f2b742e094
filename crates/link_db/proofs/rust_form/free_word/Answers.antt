use Rattle.std.proofs.Common.{◌≡◌, ◌+◌, ◌∷◌, [], subst, arith, slice_set}
use Rattle.link_flags.specs.FlagWords.{numbers_of}
use Rattle.link_rules.specs.Places.{each_from}
use Rattle.link_db.specs.RustForm.{freed}
use Rattle.link_db.proofs.Freed.{freed-one}
use Rattle.link_db.proofs.rust_form.free_word.Goals as goal

pub returns : goal.returns
returns c =
    let at = c.args.at in
    let same : 0 + at ≡ at = omega arith in
    subst (λ n. numbers_of (slice_set c.args.words.now at c.freed.result) ≡ each_from (freed (n ∷ [])) 0 (numbers_of c.args.words.now)) same
    (freed-one 0 at c.args.words.now c.freed.result (record { 0 = 0 }) c.requires c.freed.ensures)
