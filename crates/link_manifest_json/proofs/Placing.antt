-- Commas and colons: tokens before and behind a cut.
use Rattle.std.proofs.Common.{◌≡◌, ℕ, Bool, true, false, List, [], ◌∷◌, ◌++◌, refl, sym, ap, ◌∙◌}
use Rattle.std.proofs.lemmas.Bool.{false≢true}
use Rattle.std.specs.Prelude.{⊤}
use Rattle.json.specs.Token.{Token, begin_object, end_object, begin_array, end_array, key, string, number, boolean, null, bad}
use Rattle.json.specs.Lex.{Lexeme, token, comma, colon, between, lex, Place, fresh, after_value, after_comma, after_key, begins_colon, may_begin, may_close, if_allowed, place_token, punctuate}
use Rattle.json.specs.Align.{is_good}
use Rattle.link_manifest_json.specs.Spans.{Mark, byte}
use Rattle.link_manifest_json.proofs.Lexing.{AreFine, lex-more, no_colon}

abbrev pub AreGood : List Token → Type 0
AreGood [] = ⊤
AreGood (t ∷ ts) = (is_good t ≡ true) × AreGood ts

abbrev settled : Place → Place
settled fresh = fresh
settled after_value = after_value
settled after_comma = after_value
settled after_key = fresh

-- where the tokens leave the reader that was at a place
abbrev pub left_at : Place → List Token → Place
left_at p [] = settled p
left_at p (begin_object ∷ ts) = left_at fresh ts
left_at p (end_object ∷ ts) = left_at after_value ts
left_at p (begin_array ∷ ts) = left_at fresh ts
left_at p (end_array ∷ ts) = left_at after_value ts
left_at p (key s ∷ ts) = left_at after_key ts
left_at p (string s ∷ ts) = left_at after_value ts
left_at p (number s ∷ ts) = left_at after_value ts
left_at p (boolean b ∷ ts) = left_at after_value ts
left_at p (null ∷ ts) = left_at after_value ts
left_at p (bad ∷ ts) = fresh

of_comma : (ts : List Token) → left_at after_value ts ≡ left_at after_comma ts
of_comma [] = refl
of_comma (begin_object ∷ ts) = refl
of_comma (end_object ∷ ts) = refl
of_comma (begin_array ∷ ts) = refl
of_comma (end_array ∷ ts) = refl
of_comma (key s ∷ ts) = refl
of_comma (string s ∷ ts) = refl
of_comma (number s ∷ ts) = refl
of_comma (boolean b ∷ ts) = refl
of_comma (null ∷ ts) = refl
of_comma (bad ∷ ts) = refl

of_key : (ts : List Token) → left_at after_key ts ≡ left_at fresh ts
of_key [] = refl
of_key (begin_object ∷ ts) = refl
of_key (end_object ∷ ts) = refl
of_key (begin_array ∷ ts) = refl
of_key (end_array ∷ ts) = refl
of_key (key s ∷ ts) = refl
of_key (string s ∷ ts) = refl
of_key (number s ∷ ts) = refl
of_key (boolean b ∷ ts) = refl
of_key (null ∷ ts) = refl
of_key (bad ∷ ts) = refl

wrong : {P : Type 0} (ts : List Token) → AreGood (bad ∷ ts) → P
wrong ts h = absurd (false≢true h.0)

-- ---- fine lexemes

rest_fine : (a : Bool) (t : Token) (ls : List Lexeme) (next : Place) → AreGood (if_allowed a t (λ n. punctuate n ls) next) → AreGood (punctuate next ls)
rest_fine true t ls next h = h.1
rest_fine false t ls next h = wrong [] h

fine_text : (p : Place) (s : List ℕ) (ls : List Lexeme) → ((q : Place) → AreGood (punctuate q ls) → AreFine ls) → (b : Bool) → AreGood (place_token p (string s) b (λ n. punctuate n ls)) → AreFine ls
fine_text p s ls again true h = again after_key (rest_fine (may_begin p) (key s) ls after_key h)
fine_text p s ls again false h = again after_value (rest_fine (may_begin p) (string s) ls after_value h)

pub fine : (p : Place) (ls : List Lexeme) → AreGood (punctuate p ls) → AreFine ls
unfolding punctuate
fine p [] h = tt
fine p (token begin_object ∷ ls) h = (refl, fine fresh ls (rest_fine (may_begin p) begin_object ls fresh h))
fine p (token end_object ∷ ls) h = (refl, fine after_value ls (rest_fine (may_close p) end_object ls after_value h))
fine p (token begin_array ∷ ls) h = (refl, fine fresh ls (rest_fine (may_begin p) begin_array ls fresh h))
fine p (token end_array ∷ ls) h = (refl, fine after_value ls (rest_fine (may_close p) end_array ls after_value h))
fine p (token (key s) ∷ ls) h = wrong [] h
fine p (token (string s) ∷ ls) h = (refl, fine_text p s ls (λ q. fine q ls) (begins_colon ls) h)
fine p (token (number s) ∷ ls) h = (refl, fine after_value ls (rest_fine (may_begin p) (number s) ls after_value h))
fine p (token (boolean b) ∷ ls) h = (refl, fine after_value ls (rest_fine (may_begin p) (boolean b) ls after_value h))
fine p (token null ∷ ls) h = (refl, fine after_value ls (rest_fine (may_begin p) null ls after_value h))
fine p (token bad ∷ ls) h = wrong [] h
fine fresh (comma ∷ ls) h = wrong [] h
fine after_value (comma ∷ ls) h = (tt, fine after_comma ls h)
fine after_comma (comma ∷ ls) h = wrong [] h
fine after_key (comma ∷ ls) h = wrong [] h
fine fresh (colon ∷ ls) h = wrong [] h
fine after_value (colon ∷ ls) h = wrong [] h
fine after_comma (colon ∷ ls) h = wrong [] h
fine after_key (colon ∷ ls) h = (tt, fine fresh ls h)

-- ---- tokens of lexemes one after another

module _ (us : List Lexeme) (plain : begins_colon us ≡ false) where
  abbrev Joins : Place → List Token → List Token → Type 0
  Joins p whole part = whole ≡ part ++ punctuate (left_at p part) us

  one_more : (p : Place) (a : Bool) (t : Token) (ls : List Lexeme) (next : Place) → ((ts : List Token) → left_at p (t ∷ ts) ≡ left_at next ts)
      → (AreGood (punctuate next ls) → Joins next (punctuate next (ls ++ us)) (punctuate next ls))
      → AreGood (if_allowed a t (λ n. punctuate n ls) next) → Joins p (if_allowed a t (λ n. punctuate n (ls ++ us)) next) (if_allowed a t (λ n. punctuate n ls) next)
  one_more p true t ls next left again h = ap (λ ts. t ∷ ts) (again h.1 ∙ ap (λ q. punctuate next ls ++ punctuate q us) (sym (left (punctuate next ls))))
  one_more p false t ls next left again h = wrong [] h

  colon_same : (ls : List Lexeme) → begins_colon (ls ++ us) ≡ begins_colon ls
  colon_same [] = plain
  colon_same (token t ∷ ls) = refl
  colon_same (comma ∷ ls) = refl
  colon_same (colon ∷ ls) = refl

  text : (p : Place) (s : List ℕ) (ls : List Lexeme) → ((q : Place) → AreGood (punctuate q ls) → Joins q (punctuate q (ls ++ us)) (punctuate q ls)) → (b : Bool) → AreGood (place_token p (string s) b (λ n. punctuate n ls))
      → Joins p (place_token p (string s) b (λ n. punctuate n (ls ++ us))) (place_token p (string s) b (λ n. punctuate n ls))
  text p s ls again true h = one_more p (may_begin p) (key s) ls after_key (λ ts. refl) (again after_key) h
  text p s ls again false h = one_more p (may_begin p) (string s) ls after_value (λ ts. refl) (again after_value) h

  pub places : (p : Place) (ls : List Lexeme) → AreGood (punctuate p ls) → Joins p (punctuate p (ls ++ us)) (punctuate p ls)
  unfolding punctuate
  places fresh [] h = refl
  places after_value [] h = refl
  places after_comma [] h = wrong [] h
  places after_key [] h = wrong [] h
  places p (token begin_object ∷ ls) h = one_more p (may_begin p) begin_object ls fresh (λ ts. refl) (places fresh ls) h
  places p (token end_object ∷ ls) h = one_more p (may_close p) end_object ls after_value (λ ts. refl) (places after_value ls) h
  places p (token begin_array ∷ ls) h = one_more p (may_begin p) begin_array ls fresh (λ ts. refl) (places fresh ls) h
  places p (token end_array ∷ ls) h = one_more p (may_close p) end_array ls after_value (λ ts. refl) (places after_value ls) h
  places p (token (key s) ∷ ls) h = wrong [] h
  places p (token (string s) ∷ ls) h = ap (λ b. place_token p (string s) b (λ n. punctuate n (ls ++ us))) (colon_same ls) ∙ text p s ls (λ q. places q ls) (begins_colon ls) h
  places p (token (number s) ∷ ls) h = one_more p (may_begin p) (number s) ls after_value (λ ts. refl) (places after_value ls) h
  places p (token (boolean b) ∷ ls) h = one_more p (may_begin p) (boolean b) ls after_value (λ ts. refl) (places after_value ls) h
  places p (token null ∷ ls) h = one_more p (may_begin p) null ls after_value (λ ts. refl) (places after_value ls) h
  places p (token bad ∷ ls) h = wrong [] h
  places fresh (comma ∷ ls) h = wrong [] h
  places after_value (comma ∷ ls) h = places after_comma ls h ∙ ap (λ q. punctuate after_comma ls ++ punctuate q us) (sym (of_comma (punctuate after_comma ls)))
  places after_comma (comma ∷ ls) h = wrong [] h
  places after_key (comma ∷ ls) h = wrong [] h
  places fresh (colon ∷ ls) h = wrong [] h
  places after_value (colon ∷ ls) h = wrong [] h
  places after_comma (colon ∷ ls) h = wrong [] h
  places after_key (colon ∷ ls) h = places fresh ls h ∙ ap (λ q. punctuate fresh ls ++ punctuate q us) (sym (of_key (punctuate fresh ls)))

-- the tokens of a text, and then those from the mark behind it on
pub tokens-more : (p : Place) (s : List ℕ) (m : Mark) (r : List ℕ) → AreGood (punctuate p (lex between s))
    → punctuate p (lex between (s ++ byte m ∷ r)) ≡ punctuate p (lex between s) ++ punctuate (left_at p (punctuate p (lex between s))) (lex between (byte m ∷ r))
tokens-more p s m r h =
    ap (punctuate p) (lex-more m r s (fine p (lex between s) h)) ∙ places (lex between (byte m ∷ r)) (no_colon m r) p (lex between s) h
