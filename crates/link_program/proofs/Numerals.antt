-- Words that are numbers.
use Rattle.std.proofs.Common.{◌≡◌, ◌≢◌, ℕ, ◌<◌, ◌≤◌, ◌^◌, List, [], ◌∷◌, length, get_or, Result, Ok, Err, sym, ◌∙◌, subst, ap, arith}
use Rattle.std.specs.Prelude.{decimal}
use Rattle.std.specs.Str.Parse.{IsNumeral, digits_value, ParsesUnsigned, without_leading_plus}
use Rattle.std.proofs.lemmas.Fmt.{parse-decimal, first_decimal, decimal-digits_value, decimal_injective}
use Rattle.std.proofs.lemmas.Str.Parse.{numerals_by_value, tells_digits, without_leading_plus_none}

-- a number is written without a sign and without a zero in front
pub first-of_decimal : (bs : List ℕ) (n : ℕ) → 0 < n → n < 2 ^ 64 → bs ≡ decimal n → 48 < get_or bs 0 0
first-of_decimal bs n some fits is = rw is (first_decimal n some fits)

-- what `parse` reads of bytes without these is the number that they write
pub decimal-of_parse : {E : Type 0} (bs : List ℕ) (n : ℕ) (r : Result ℕ E) → get_or bs 0 0 ≢ 48 → get_or bs 0 0 ≢ 43 → ParsesUnsigned 64 10 bs r → r ≡ Ok n → bs ≡ decimal n
decimal-of_parse bs n r no_zero no_plus parses is =
    let plain : without_leading_plus bs ≡ bs = without_leading_plus_none bs no_plus in
    let read = subst (λ q. ParsesUnsigned 64 10 bs q) is parses in
    let numeral : IsNumeral 10 bs = subst (IsNumeral 10) plain read.0.0 in
    let small : digits_value 10 bs < 2 ^ 64 = subst (λ ds. digits_value 10 ds < 2 ^ 64) plain read.0.1 in
    let value : n ≡ digits_value 10 bs = read.1 ∙ ap (digits_value 10) plain in
    sym (ap decimal value ∙ decimal-digits_value (numerals_by_value _ tells_digits) bs numeral.1 numeral.0 (λ zero. absurd (no_zero zero)) small)

ok-inj : {X E : Type 0} (r : Result X E) (x y : X) → r ≡ Ok x → r ≡ Ok y → x ≡ y
ok-inj r x y is is' = cc

-- what `parse` reads of a number is that number
pub same-of_parse : {E : Type 0} (bs : List ℕ) (n m : ℕ) (r : Result ℕ E) → n < 2 ^ 64 → bs ≡ decimal n → ParsesUnsigned 64 10 bs r → r ≡ Ok m → m ≡ n
same-of_parse bs n m r fits is parses read = ok-inj r m n read (parse-decimal 64 n bs r fits fits is parses)

-- `parse` reads each number
pub no-err_of_parse : {E : Type 0} (bs : List ℕ) (n : ℕ) (r : Result ℕ E) (e : E) → n < 2 ^ 64 → bs ≡ decimal n → ParsesUnsigned 64 10 bs r → r ≡ Err e → ⊥
no-err_of_parse bs n r e fits is parses fails = let read : r ≡ Ok n = parse-decimal 64 n bs r fits fits is parses in cc

-- one word
pub one-word : (words : List (List ℕ)) (a x : List ℕ) → length words ≡ 1 → a ≡ get_or words 0 a → a ≡ x → words ≡ x ∷ []
one-word [] a x one first is_x = absurd (omega arith)
one-word (v ∷ []) a x one first is_x = cc
one-word (v ∷ w ∷ ws) a x one first is_x = absurd (omega arith)

-- two words
pub two-words : (words : List (List ℕ)) (a b x y : List ℕ) → length words ≡ 2 → a ≡ get_or words 0 a → b ≡ get_or words 1 b → a ≡ x → b ≡ y → words ≡ x ∷ y ∷ []
two-words [] a b x y two first second is_x is_y = absurd (omega arith)
two-words (v ∷ []) a b x y two first second is_x is_y = absurd (omega arith)
two-words (v ∷ w ∷ []) a b x y two first second is_x is_y = cc
two-words (v ∷ w ∷ u ∷ us) a b x y two first second is_x is_y = absurd (omega arith)

-- three words
pub three-words : (words : List (List ℕ)) (a b c x y z : List ℕ) → length words ≡ 3 → a ≡ get_or words 0 a → b ≡ get_or words 1 b → c ≡ get_or words 2 c → a ≡ x → b ≡ y → c ≡ z
    → words ≡ x ∷ y ∷ z ∷ []
three-words [] a b c x y z three first second third is_x is_y is_z = absurd (omega arith)
three-words (u ∷ []) a b c x y z three first second third is_x is_y is_z = absurd (omega arith)
three-words (u ∷ v ∷ []) a b c x y z three first second third is_x is_y is_z = absurd (omega arith)
three-words (u ∷ v ∷ w ∷ []) a b c x y z three first second third is_x is_y is_z = cc
three-words (u ∷ v ∷ w ∷ t ∷ ts) a b c x y z three first second third is_x is_y is_z = absurd (omega arith)

-- numbers that are written alike are the same
pub decimal-one : (m n : ℕ) → m ≤ 100000 → n ≤ 100000 → decimal m ≡ decimal n → m ≡ n
decimal-one m n small small' same = decimal_injective m n (omega (arith, small)) (omega (arith, small')) same
