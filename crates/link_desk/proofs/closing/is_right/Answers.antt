use Rattle.std.proofs.Common.{◌∙◌, ap, sym, List, length, ◌<◌, inl, inr, not, arith, subst}
use Rattle.std.proofs.lemmas.Bool.{false≢true, cases_Bool, not-true}
use Rattle.std.proofs.lemmas.Option.{slice_get_within}
use Rattle.link_desk.specs.declared.pass.Kept.{Kept}
use Rattle.link_desk.proofs.Calls.{apart_of, looked_up, past_of, right_of}
use Rattle.link_desk.proofs.closing.is_right.Goals as goal

pub returns-then-not-is_past : goal.returns-then-not-is_past
returns-then-not-is_past g c = (
  λ no. absurd (false≢true no),
  λ right. c.if-not-is_past.ensures.1 (past_of c.args.history.now c.args.passes.now c.args.p c.args.k c.index-passes-p.result c.calls-calls.result.now c.requires.pass c.index-passes-p.is c.calls-calls.ensures right),
)

pub returns : goal.returns
returns g c =
    let cs = c.args.passes.now in
    let pass = c.index-passes-p.result in
    let calls = c.calls-calls.result.now in
    let at = looked_up cs c.args.p pass c.requires.pass c.index-passes-p.is in
    let less' = c.requires.call pass at in
    let P : List Kept → Type 0 = λ ks. c.args.k < length ks in
    let less = subst P (sym c.calls-calls.ensures) less' in
    let call = c.index-calls-k.result in
    let found = c.stands.ensures.0 c.if-not-stands.false in
    let within = slice_get_within c.args.history.now call.place call.entry found in
    let each = c.requires.each in
    let inside : call.place < length c.args.claimed.now = omega (arith, within, each) in
    let claimed = c.requires.claimed call.place inside in (
      λ none. right_of c.args.history.now cs c.args.p c.args.k pass calls call c.index-passes-p.is c.calls-calls.ensures c.index-calls-k.is
          found (c.is_past.ensures.0 c.if-not-is_past.false)
          (λ q j y earlier from clash. false≢true (sym (not-true c.is_marked.result none) ∙ (c.is_marked.ensures ∙ claimed.1 (q, j, y, earlier, from, clash)))),
      λ right. elim (cases_Bool c.is_marked.result) [
        | inl t ↦ (let f = claimed.0 (sym c.is_marked.ensures ∙ t) in
            absurd (apart_of c.args.history.now cs c.args.p c.args.k pass calls call c.requires.pass c.index-passes-p.is c.calls-calls.ensures c.index-calls-k.is less right f.0 f.1 f.2 f.3 f.4 f.5))
        | inr n ↦ ap not n
      ],
    )
