use Rattle.std.proofs.Common.{◌∙◌, ◌∷◌, [], ℕ, ap, arith}
use Rattle.link_flags.specs.FlagBits as flag
use Rattle.link_flags.specs.FlagWords.{numbers_of, words_of}
use Rattle.link_resolve_marks.specs.Marks.{mark_on, with_marks}
use Rattle.link_rules.specs.Rivals.{two_steps}
use Rattle.link_db.specs.Seen.{seen}
use Rattle.link_resolve.proofs.Signing.{mark-next, marks-done}
use Rattle.link_resolve.proofs.signatures.mark_signatures.Goals as goal

-- one symbol more
pub loop-id-preserved : goal.loop-id-preserved
loop-id-preserved g c =
    let table = (seen c.args.db.now).table in
    mark-next (λ (id : ℕ). mark_on (two_steps table id) flag.group_signature) c.args.ids.now c.id-item.result c.loop-id.id-index (numbers_of (words_of c.loop-id.flags)) (numbers_of (words_of c.mark_signature.new.flags))
    c.loop-id-test.true (c.mark_signature.ensures ∙ ap (λ (id : ℕ). with_marks (mark_on (two_steps table id) flag.group_signature ∷ []) (numbers_of (words_of c.loop-id.flags))) c.id-item.is)
    ∙ c.loop-id.invariant

-- no symbol is left
pub returns : goal.returns
returns g c =
    let table = (seen c.args.db.now).table in
    marks-done (λ (id : ℕ). mark_on (two_steps table id) flag.group_signature) c.args.ids.now c.loop-id.id-index (numbers_of (words_of c.loop-id.flags)) (omega (arith, c.loop-id-test.false))
    ∙ c.loop-id.invariant
