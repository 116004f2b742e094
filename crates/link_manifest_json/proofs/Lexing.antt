-- A text whose lexemes are fine, before a mark: its lexemes, and then those from the mark on.
use Rattle.std.proofs.Common.{◌≡◌, ℕ, zero, suc, ◌≤◌, Bool, true, false, List, [], ◌∷◌, ◌++◌, length, is_some, Option, Some, None, refl, sym, ap, ap₂, ◌∙◌, subst, arith}
use Rattle.std.proofs.lemmas.Bool.{false≢true}
use Rattle.std.specs.Prelude.{⊤}
use Rattle.json.specs.Text.{content, plain}
use Rattle.json.specs.Lex.{Lexeme, token, comma, colon, Class, quote, backslash, operator, space, other, class, operator_lexeme, string_token, Mode, between, in_word, in_string, lex_byte, lex, begins_colon}
use Rattle.json.specs.Align.{is_good}
use Rattle.link_manifest_json.specs.Spans.{Mark, byte}
use Rattle.link_manifest_json.specs.Spans as spans
use Rattle.link_manifest_json.proofs.Words.{word-more}
use Rattle.link_manifest_json.proofs.Strings.{closes}

abbrev pub IsFine : Lexeme → Type 0
IsFine (token k) = is_good k ≡ true
IsFine comma = ⊤
IsFine colon = ⊤

abbrev pub AreFine : List Lexeme → Type 0
AreFine [] = ⊤
AreFine (l ∷ ls) = IsFine l × AreFine ls

-- outside of strings
abbrev outside : Bool → Mode
outside true = between
outside false = in_word

step : (m : Mode) (x : ℕ) (l : List ℕ) (c : Class) → class x ≡ c → lex m (x ∷ l) ≡ lex_byte m c x l (λ n. lex n l)
unfolding lex
step m x l c e = ap (λ k. lex_byte m k x l (λ n. lex n l)) e

found : (o : Option (List ℕ)) → is_good (string_token o) ≡ true → is_some o ≡ true
found None h = h
found (Some s) h = refl

word_end : (k : Mark) (r : List ℕ) → lex in_word (byte k ∷ r) ≡ lex between (byte k ∷ r)
unfolding lex
word_end spans.comma r = refl
word_end spans.opening r = refl
word_end spans.closing r = refl

nothing : (ls : List Lexeme) (v : Bool) → ls ≡ lex (outside v) [] ++ ls
unfolding lex
nothing ls true = refl
nothing ls false = refl

mark_is_no_colon : (k : Mark) (r : List ℕ) → begins_colon (lex between (byte k ∷ r)) ≡ false
unfolding lex
mark_is_no_colon spans.comma r = refl
mark_is_no_colon spans.opening r = refl
mark_is_no_colon spans.closing r = refl

module _ (m : Mark) (r : List ℕ) where
  abbrev rest : List ℕ
  rest = byte m ∷ r

  at_end : (w : Bool) → lex (outside w) rest ≡ lex between rest
  at_end true = refl
  at_end false = word_end m r

  abbrev Joins : List Lexeme → List Lexeme → Type 0
  Joins whole part = whole ≡ part ++ lex between rest

  abbrev Read : ℕ → Type 0
  Read n = (w : Bool) (s : List ℕ) → length s ≤ n → AreFine (lex (outside w) s) → Joins (lex (outside w) (s ++ rest)) (lex (outside w) s)

  by_class : (n : ℕ) (w : Bool) (x : ℕ) (xs : List ℕ) (c : Class) → Read n → length xs ≤ n → class x ≡ c → AreFine (lex_byte (outside w) c x xs (λ k. lex k xs))
      → Joins (lex_byte (outside w) c x (xs ++ rest) (λ k. lex k (xs ++ rest))) (lex_byte (outside w) c x xs (λ k. lex k xs))
  by_class n true x xs quote again le e fine =
      let c = closes plain xs (found (content plain xs) fine.0) in
      let more : Joins (lex in_string (xs ++ rest)) (lex in_string xs) =
      c.goes_on rest ∙ again true c.after (omega (arith, c.shorter)) (subst AreFine c.alone fine.1) ∙ ap (λ ls. ls ++ lex between rest) (sym c.alone) in
      ap₂ (λ o ls. token (string_token o) ∷ ls) (c.same rest) more
  by_class n true x xs backslash again le e fine = absurd (false≢true fine.0)
  by_class n true x xs operator again le e fine = ap (λ ls. operator_lexeme x ∷ ls) (again true xs le fine.1)
  by_class n true x xs space again le e fine = again true xs le fine
  by_class n true x xs other again le e fine = ap₂ (λ k ls. token k ∷ ls) (word-more m r (x ∷ xs)) (again false xs le fine.1)
  by_class n false x xs quote again le e fine = again false xs le fine
  by_class n false x xs backslash again le e fine = again false xs le fine
  by_class n false x xs operator again le e fine = ap (λ ls. operator_lexeme x ∷ ls) (again true xs le fine.1)
  by_class n false x xs space again le e fine = again true xs le fine
  by_class n false x xs other again le e fine = again false xs le fine

  lexes : (n : ℕ) (w : Bool) (s : List ℕ) → length s ≤ n → AreFine (lex (outside w) s) → Joins (lex (outside w) (s ++ rest)) (lex (outside w) s)
  lexes n w [] le fine = at_end w ∙ nothing (lex between rest) w
  lexes zero w (x ∷ xs) le fine = let no : ⊥ = omega arith in absurd no
  lexes (suc n) w (x ∷ xs) le fine =
      let c = class x in
      let here = step (outside w) x xs c refl in
      step (outside w) x (xs ++ rest) c refl ∙ by_class n w x xs c (lexes n) (omega arith) refl (subst AreFine here fine) ∙ ap (λ ls. ls ++ lex between rest) (sym here)

  pub lex-more : (s : List ℕ) → AreFine (lex between s) → lex between (s ++ rest) ≡ lex between s ++ lex between rest
  lex-more s fine = lexes (length s) true s (omega arith) fine

  pub no_colon : begins_colon (lex between rest) ≡ false
  no_colon = mark_is_no_colon m r
