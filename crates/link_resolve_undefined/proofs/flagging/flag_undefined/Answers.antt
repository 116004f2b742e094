use Rattle.std.proofs.Common.{◌∙◌, ℕ, ap, arith, length, length-append, map}
use Rattle.std.proofs.lemmas.List.{length-map}
use Rattle.link_flags.specs.FlagBits as flag
use Rattle.link_flags.specs.FlagWords.{words_of}
use Rattle.link_flags.specs.declared.value_flags.RawFlags.{RawFlags}
use Rattle.link_rules.specs.Undefined.{boundary_makers, left_undefined, resolution_from}
use Rattle.link_resolve_undefined.specs.Asked.{makers_in}
use Rattle.link_resolve_undefined.specs.Flagged.{flagged, numbers_in}
use Rattle.link_resolve_undefined.proofs.Passing.{words-of-makers}
use Rattle.link_resolve_undefined.proofs.flagging.flag_undefined.Goals as goal

pub flag_references-requires-clause-flags : goal.flag_references-requires-clause-flags
flag_references-requires-clause-flags g c =
    let new = map (λ (k : ℕ). flag.non_interposable) (makers_in c.args.asked.now) in
    omega (arith, ap length c.in_ok-push_new.ensures.ok, length-append (numbers_in c.args.flags.now) new, length-map (words_of c.args.flags.now) (λ (w : RawFlags). w.0), length-map (words_of c.push_new.new.flags) (λ (w : RawFlags). w.0), c.requires.flags)

pub returns-clause-ok : goal.returns-clause-ok
returns-clause-ok g c = λ l. λ end. λ len.
    let r = resolution_from l (left_undefined l) in
    let new = map (λ (k : ℕ). flag.non_interposable) (makers_in c.args.asked.now) in
    let old = numbers_in c.args.flags.now in
    c.flag_references.ensures.flags l old new end c.in_ok-push_new.ensures.ok (length-map (words_of c.args.flags.now) (λ (w : RawFlags). w.0) ∙ len)
    ∙ ap (flagged r old) (ap (map (λ (k : ℕ). flag.non_interposable)) end.left_are.asked_are.makers ∙ words-of-makers flag.non_interposable (boundary_makers l.stage (left_undefined l)))

pub returns-clause-len : goal.returns-clause-len
returns-clause-len g c =
    let new = map (λ (k : ℕ). flag.non_interposable) (makers_in c.args.asked.now) in
    omega (arith, c.flag_references.ensures.len, ap length c.in_ok-push_new.ensures.ok, length-append (numbers_in c.args.flags.now) new, length-map (makers_in c.args.asked.now) (λ (k : ℕ). flag.non_interposable), length-map (words_of c.args.flags.now) (λ (w : RawFlags). w.0), length-map (words_of c.push_new.new.flags) (λ (w : RawFlags). w.0))
