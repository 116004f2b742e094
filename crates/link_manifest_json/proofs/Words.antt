-- A word is read the same before an operator as at the end of the text.
use Rattle.std.proofs.Common.{◌≡◌, ℕ, ◌+◌, ◌-◌, ◌≤◌, Bool, true, false, cond, ◌&&◌, ◌||◌, ◌==◌, nat_eq, List, [], ◌∷◌, ◌++◌, length, take, drop, Option, Some, None, option_map, option_and_then, refl, sym, ap, ◌∙◌, arith, length-append}
use Rattle.std.proofs.lemmas.List.{take-append-le, drop-append-le}
use Rattle.std.proofs.lemmas.List.Sums.{prefix_len-le-length}
use Rattle.std.proofs.lemmas.Bool.{false≢true, and_parts}
use Rattle.std.specs.Prelude.{⊤}
use Rattle.std.specs.List.{prefix_len, starts_with}
use Rattle.std.specs.Char.{is_ascii_digit}
use Rattle.json.specs.Ascii as ascii
use Rattle.json.specs.Token.{Token, number, boolean, null, bad}
use Rattle.json.specs.Word.{is_operator, is_space, head, ends_word, after_digits, after_minus, after_sign, after_whole, after_fraction, after_exponent, after_number, number_before, literal, word}
use Rattle.link_manifest_json.specs.Spans.{Mark, comma, opening, closing, byte}

not_digit : (m : Mark) → is_ascii_digit (byte m) ≡ false
not_digit comma = refl
not_digit opening = refl
not_digit closing = refl

ends_at : (m : Mark) → (is_operator (byte m) || is_space (byte m)) ≡ (is_operator 32 || is_space 32)
ends_at comma = refl
ends_at opening = refl
ends_at closing = refl

minus_at : (m : Mark) → (byte m == 45) ≡ (32 == 45)
minus_at comma = refl
minus_at opening = refl
minus_at closing = refl

sign_at : (m : Mark) → ((byte m == 45) || (byte m == 43)) ≡ ((32 == 45) || (32 == 43))
sign_at comma = refl
sign_at opening = refl
sign_at closing = refl

zero_at : (m : Mark) → (byte m == 48) ≡ (32 == 48)
zero_at comma = refl
zero_at opening = refl
zero_at closing = refl

dot_at : (m : Mark) → (byte m == 46) ≡ (32 == 46)
dot_at comma = refl
dot_at opening = refl
dot_at closing = refl

letter_at : (m : Mark) → ((byte m == 101) || (byte m == 69)) ≡ ((32 == 101) || (32 == 69))
letter_at comma = refl
letter_at opening = refl
letter_at closing = refl

true_at : (m : Mark) → (byte m == 116) ≡ (32 == 116)
true_at comma = refl
true_at opening = refl
true_at closing = refl

false_at : (m : Mark) → (byte m == 102) ≡ (32 == 102)
false_at comma = refl
false_at opening = refl
false_at closing = refl

null_at : (m : Mark) → (byte m == 110) ≡ (32 == 110)
null_at comma = refl
null_at opening = refl
null_at closing = refl

-- no byte of a name is the mark
abbrev Apart : Mark → List ℕ → Type 0
Apart m [] = ⊤
Apart m (n ∷ ns) = (nat_eq n (byte m) ≡ false) × Apart m ns

apart_true : (m : Mark) → Apart m ascii.true_text
apart_true comma = (refl, (refl, (refl, (refl, tt))))
apart_true opening = (refl, (refl, (refl, (refl, tt))))
apart_true closing = (refl, (refl, (refl, (refl, tt))))

apart_false : (m : Mark) → Apart m ascii.false_text
apart_false comma = (refl, (refl, (refl, (refl, (refl, tt)))))
apart_false opening = (refl, (refl, (refl, (refl, (refl, tt)))))
apart_false closing = (refl, (refl, (refl, (refl, (refl, tt)))))

apart_null : (m : Mark) → Apart m ascii.null_text
apart_null comma = (refl, (refl, (refl, (refl, tt))))
apart_null opening = (refl, (refl, (refl, (refl, tt))))
apart_null closing = (refl, (refl, (refl, (refl, tt))))

map_cond : (f : List ℕ → List ℕ) (b : Bool) (x y : List ℕ) → f x ≡ y → cond b None (Some y) ≡ option_map f (cond b None (Some x))
map_cond f true x y e = refl
map_cond f false x y e = ap Some (sym e)

then_map : (f : List ℕ → List ℕ) (g : List ℕ → Option (List ℕ)) → ((a : List ℕ) → g (f a) ≡ option_map f (g a)) → (o : Option (List ℕ)) → option_and_then g (option_map f o) ≡ option_map f (option_and_then g o)
then_map f g h None = refl
then_map f g h (Some a) = h a

pick : (f : List ℕ → List ℕ) (b : Bool) (x y : List ℕ) → cond b (f x) (f y) ≡ f (cond b x y)
pick f true x y = refl
pick f false x y = refl

module _ (m : Mark) (r : List ℕ) where
  abbrev with_rest : List ℕ → List ℕ
  with_rest s = s ++ (byte m ∷ r)

  digits_run : (s : List ℕ) → prefix_len is_ascii_digit (with_rest s) ≡ prefix_len is_ascii_digit s
  digits_run [] = ap (λ b. cond b (1 + prefix_len is_ascii_digit r) 0) (not_digit m)
  digits_run (x ∷ xs) = ap (λ n. cond (is_ascii_digit x) (1 + n) 0) (digits_run xs)

  digits-more : (s : List ℕ) → after_digits (with_rest s) ≡ option_map with_rest (after_digits s)
  digits-more s =
      let n = prefix_len is_ascii_digit s in
      ap (λ k. cond (k == 0) None (Some (drop k (with_rest s)))) (digits_run s)
      ∙ map_cond with_rest (n == 0) (drop n s) (drop n (with_rest s)) (sym (drop-append-le n s (byte m ∷ r) (prefix_len-le-length is_ascii_digit s)))

  minus-more : (s : List ℕ) → after_minus (with_rest s) ≡ with_rest (after_minus s)
  minus-more [] = ap (λ b. cond b r (byte m ∷ r)) (minus_at m)
  minus-more (x ∷ xs) = pick with_rest (x == 45) xs (x ∷ xs)

  sign-more : (s : List ℕ) → after_sign (with_rest s) ≡ with_rest (after_sign s)
  sign-more [] = ap (λ b. cond b r (byte m ∷ r)) (sign_at m)
  sign-more (x ∷ xs) = pick with_rest ((x == 45) || (x == 43)) xs (x ∷ xs)

  by_test : (b : Bool) (x y : Option (List ℕ)) (u v : Option (List ℕ)) → u ≡ option_map with_rest x → v ≡ option_map with_rest y → cond b u v ≡ option_map with_rest (cond b x y)
  by_test true x y u v e f = e
  by_test false x y u v e f = f

  whole-more : (s : List ℕ) → after_whole (with_rest s) ≡ option_map with_rest (after_whole s)
  whole-more [] = ap (λ b. cond b (Some r) (after_digits (with_rest []))) (zero_at m) ∙ digits-more []
  whole-more (x ∷ xs) = by_test (x == 48) (Some xs) (after_digits (x ∷ xs)) (Some (with_rest xs)) (after_digits (with_rest (x ∷ xs))) refl (digits-more (x ∷ xs))

  fraction-more : (s : List ℕ) → after_fraction (with_rest s) ≡ option_map with_rest (after_fraction s)
  fraction-more [] = ap (λ b. cond b (after_digits r) (Some (with_rest []))) (dot_at m)
  fraction-more (x ∷ xs) = by_test (x == 46) (after_digits xs) (Some (x ∷ xs)) (after_digits (with_rest xs)) (Some (with_rest (x ∷ xs))) (digits-more xs) refl

  exponent-more : (s : List ℕ) → after_exponent (with_rest s) ≡ option_map with_rest (after_exponent s)
  exponent-more [] = ap (λ b. cond b (after_digits (after_sign r)) (Some (with_rest []))) (letter_at m)
  exponent-more (x ∷ xs) =
      by_test ((x == 101) || (x == 69)) (after_digits (after_sign xs)) (Some (x ∷ xs)) (after_digits (after_sign (with_rest xs))) (Some (with_rest (x ∷ xs)))
      (ap after_digits (sign-more xs) ∙ digits-more (after_sign xs)) refl

  number-more : (s : List ℕ) → after_number (with_rest s) ≡ option_map with_rest (after_number s)
  unfolding after_number
  number-more s =
      ap (λ a. option_and_then after_exponent (option_and_then after_fraction (after_whole a))) (minus-more s)
      ∙ ap (λ o. option_and_then after_exponent (option_and_then after_fraction o)) (whole-more (after_minus s))
      ∙ ap (option_and_then after_exponent) (then_map with_rest after_fraction fraction-more (after_whole (after_minus s)))
      ∙ then_map with_rest after_exponent exponent-more (option_and_then after_fraction (after_whole (after_minus s)))

  ends-more : (s : List ℕ) → ends_word (with_rest s) ≡ ends_word s
  ends-more [] = ends_at m
  ends-more (x ∷ xs) = refl

  number_before-more : (s : List ℕ) (o : Option (List ℕ)) → number_before (with_rest s) (option_map with_rest o) ≡ number_before s o
  number_before-more s None = refl
  number_before-more s (Some a) =
      let n = length s - length a in
      let same : length (with_rest s) - length (with_rest a) ≡ n = omega (arith, length-append s (byte m ∷ r), length-append a (byte m ∷ r)) in
      ap (λ b. cond b (number (take (length (with_rest s) - length (with_rest a)) (with_rest s))) bad) (ends-more a)
      ∙ ap (λ k. cond (ends_word a) (number (take k (with_rest s))) bad) same
      ∙ ap (λ x. cond (ends_word a) (number x) bad) (take-append-le n s (byte m ∷ r) (omega arith))

  starts-more : (name s : List ℕ) → Apart m name → starts_with nat_eq (with_rest s) name ≡ starts_with nat_eq s name
  starts-more [] [] a = refl
  starts-more [] (x ∷ xs) a = refl
  starts-more (n ∷ ns) [] a = ap (λ b. b && starts_with nat_eq r ns) a.0
  starts-more (n ∷ ns) (x ∷ xs) a = ap (λ b. nat_eq n x && b) (starts-more ns xs a.1)

  starts-long : (name s : List ℕ) → starts_with nat_eq s name ≡ true → length name ≤ length s
  starts-long [] s h = omega arith
  starts-long (n ∷ ns) [] h = absurd (false≢true h)
  starts-long (n ∷ ns) (x ∷ xs) h = omega (arith, starts-long ns xs (and_parts (nat_eq n x) _ h).1)

  literal-more : (name : List ℕ) (k : Token) (s : List ℕ) → Apart m name → literal name k (with_rest s) ≡ literal name k s
  literal-more name k s a =
      ap (λ b. cond (b && ends_word (drop (length name) (with_rest s))) k bad) (starts-more name s a) ∙ go (starts_with nat_eq s name) refl
    where
      go : (b : Bool) → starts_with nat_eq s name ≡ b → cond (b && ends_word (drop (length name) (with_rest s))) k bad ≡ cond (b && ends_word (drop (length name) s)) k bad
      go true e = ap (λ x. cond (ends_word x) k bad) (drop-append-le (length name) s (byte m ∷ r) (starts-long name s e)) ∙ ap (λ b. cond b k bad) (ends-more (drop (length name) s))
      go false e = refl

  first : (f : ℕ → Bool) → f (byte m) ≡ f 32 → (s : List ℕ) → f (head (with_rest s)) ≡ f (head s)
  first f e [] = e
  first f e (x ∷ xs) = refl

  -- a word's two readings, of a test's answer
  abbrev from_null : (w : List ℕ) → Bool → Token
  from_null w b = cond b (literal ascii.null_text null w) (number_before w (after_number w))

  abbrev from_false : (w : List ℕ) → Bool → Bool → Token
  from_false w b c = cond b (literal ascii.false_text (boolean false) w) (from_null w c)

  abbrev from_true : (w : List ℕ) → Bool → Bool → Bool → Token
  from_true w a b c = cond a (literal ascii.true_text (boolean true) w) (from_false w b c)

  same_null : (s : List ℕ) (b : Bool) → from_null (with_rest s) b ≡ from_null s b
  same_null s true = literal-more ascii.null_text null s (apart_null m)
  same_null s false = ap (number_before (with_rest s)) (number-more s) ∙ number_before-more s (after_number s)

  same_false : (s : List ℕ) (b c : Bool) → from_false (with_rest s) b c ≡ from_false s b c
  same_false s true c = literal-more ascii.false_text (boolean false) s (apart_false m)
  same_false s false c = same_null s c

  same_true : (s : List ℕ) (a b c : Bool) → from_true (with_rest s) a b c ≡ from_true s a b c
  same_true s true b c = literal-more ascii.true_text (boolean true) s (apart_true m)
  same_true s false b c = same_false s b c

  pub word-more : (s : List ℕ) → word (with_rest s) ≡ word s
  unfolding word
  word-more s =
      let w = with_rest s in
      ap (λ a. from_true w a (head w == 102) (head w == 110)) (first (λ x. x == 116) (true_at m) s)
      ∙ ap (λ b. from_true w (head s == 116) b (head w == 110)) (first (λ x. x == 102) (false_at m) s)
      ∙ ap (λ c. from_true w (head s == 116) (head s == 102) c) (first (λ x. x == 110) (null_at m) s)
      ∙ same_true s (head s == 116) (head s == 102) (head s == 110)
