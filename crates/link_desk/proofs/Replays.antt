-- A history that replays, with one call more.
use Rattle.std.proofs.Common.{ℕ, Bool, ◌≡◌, ◌+◌, ◌++◌, ◌∙◌, List, [], ◌∷◌, length, length-append, refl, sym, ap, subst, arith}
use Rattle.link_input.specs.declared.options.Options.{Options}
use Rattle.link_input.specs.declared.world.Scripts.{Scripts}
use Rattle.link_desk.specs.declared.entry.Entry.{Entry}
use Rattle.link_desk.specs.Replay.{Desked, IsLegal, IsReplayed, IsReply, Standing, after, opened, replay}

pub replay-append : (s : Standing) (es : List Entry) (e : Entry) → replay s (es ++ e ∷ []) ≡ after (replay s es) e
replay-append s [] e = refl
replay-append s (x ∷ es) e = replay-append (after s x) es e

pub legal-append : (s : Standing) (es : List Entry) (e : Entry) → IsLegal s es → IsReply (replay s es) e → IsLegal s (es ++ e ∷ [])
legal-append s [] e legal may = (may, tt)
legal-append s (x ∷ es) e legal may = (legal.0, legal-append (after s x) es e legal.1 may)

-- the state after one call more
pub replayed_more : (options : Options) (texts : Scripts) (d : Desked) (e : Entry) (s : Standing) (history : List Entry) (book : ℕ)
    → IsReplayed options texts d → IsReply d.session e → s ≡ after d.session e → history ≡ d.history ++ e ∷ [] → book ≡ d.book + 1
    → IsReplayed options texts (record { session = s; history = history; book = book })
replayed_more options texts d e s history book old may left grown more =
    let start = opened options texts in
    let P : Standing → Type 0 = λ x. IsReply x e in
    let Q : List Entry → Type 0 = λ es. IsLegal start es in
    record {
      session = left ∙ (ap (λ x. after x e) old.session ∙ (sym (replay-append start d.history e) ∙ ap (λ es. replay start es) (sym grown)));
      legal = subst Q (sym grown) (legal-append start d.history e old.legal (subst P old.session may));
      book = omega (arith, old.book, more, ap (λ (es : List Entry). length es) grown, length-append d.history (e ∷ []));
    }

-- there is a mark for each call, with one more of both
pub marked_more : (marks marks' : List Bool) (history history' : List Entry) (e : Entry) → length marks ≡ length history
    → length marks' ≡ length marks + 1 → history' ≡ history ++ e ∷ [] → length marks' ≡ length history'
marked_more marks marks' history history' e each more grown =
    omega (arith, each, more, ap (λ (es : List Entry). length es) grown, length-append history (e ∷ []))
