use Rattle.std.proofs.Common.{◌≡◌, drop, map}
use Rattle.link_flags.specs.FlagBits as flag
use Rattle.link_flags.specs.FlagWords.{numbers_of, words_of}
use Rattle.link_resolve_marks.specs.Marks.{mark_on, with_marks}
use Rattle.link_rules.specs.Rivals.{two_steps}
use Rattle.link_db.specs.Seen.{seen}
use Rattle.link_resolve.proofs.signatures.mark_signatures.Given as goal

-- the marks that are left, on the flags so far
abbrev pub invariant-loop-id : goal.invariant-loop-id
invariant-loop-id g l =
    with_marks (map (λ id. mark_on (two_steps (seen l.db).table id) flag.group_signature) (drop l.id-index l.ids)) (numbers_of (words_of l.flags))
    ≡ with_marks (map (λ id. mark_on (two_steps (seen l.db).table id) flag.group_signature) l.ids) (numbers_of (words_of l.fn.flags))
