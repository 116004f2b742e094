-- Readings taken apart: what was read first, which words stood there, and which byte comes next.
use Rattle.std.proofs.Common.{◌≡◌, ℕ, suc, ◌+◌, ◌<◌, ◌≤◌, ◌==◌, Bool, true, false, cond, List, [], ◌∷◌, ◌++◌, length, Option, Some, None, Result, Ok, Err, refl, ap, ◌∙◌, ◌⊎◌, inl, inr, arith}
use Rattle.std.specs.Prelude.{◌&&◌, not, nat_lt}
use Rattle.std.specs.List.{list_any, prefix_len}
use Rattle.std.proofs.lemmas.Bool.{eqb-true, eq-eqb, lt-ltb, le-ltb}
use Rattle.std.proofs.lemmas.Option.{same_Some}
use Rattle.std.proofs.lemmas.List.{length-append}
use Rattle.link_script_syntax.specs.declared.fault.Fault.{Fault}
use Rattle.link_script_syntax.specs.declared.profile.TokenEnd.{TokenEnd}
use Rattle.link_script_syntax.specs.Fault.{◌>>=◌}
use Rattle.link_script_syntax.specs.Blanks.{Piece, blank, line, block, InFront, Skipped}
use Rattle.link_script_syntax.specs.Skip.{strips, begins_with}
use Rattle.link_script_syntax.specs.Block.{or_else, close_place, semicolon_before}
use Rattle.link_script_syntax.specs.Token.{IsToken, after_semicolon}
use Rattle.link_script_syntax.specs.Grammar.{NotHere, NoClose}

pub bind_err : {A B : Type 0} (r : Result A Fault) (f : A → Result B Fault) (d : Fault) → r ≡ Err d → (r >>= f) ≡ Err d
bind_err r f d is = rw is refl

pub bind_is : {A B : Type 0} (r : Result A Fault) (f : A → Result B Fault) (x : A) (y : Result B Fault) → r ≡ Ok x → f x ≡ y → (r >>= f) ≡ y
bind_is r f x y is e = rw is e

pub ok_same : {A : Type 0} (x y : A) → ◌≡◌ {A = Result A Fault} (Ok x) (Ok y) → x ≡ y
ok_same x y e = cc

pub some_same : {A : Type 0} (x y : A) → ◌≡◌ {A = Option A} (Some x) (Some y) → x ≡ y
some_same x y e = same_Some x y e

pub pair_parts : {A B : Type 0} (a c : A) (b d : B) → ◌≡◌ {A = A × B} (a, b) (c, d) → (a ≡ c) × (b ≡ d)
pair_parts {A} {B} a c b d e = (ap (λ (p : A × B). p.0) e, ap (λ (p : A × B). p.1) e)

pub or_else_some : {A B : Type 0} (o : Option A) (f : A → B) (y : B) (x : A) → o ≡ Some x → or_else o f y ≡ f x
or_else_some o f y x is = rw is refl

pub or_else_none : {A B : Type 0} (o : Option A) (f : A → B) (y : B) → o ≡ None → or_else o f y ≡ y
or_else_none o f y is = rw is refl

pub no_test : (b : Bool) → (b ≡ true → ⊥) → b ≡ false
no_test true e = absurd (e refl)
no_test false e = refl

pub is_or : (b : Bool) → (b ≡ true) ⊎ (b ≡ false)
is_or true = inl refl
is_or false = inr refl

pub and_true : (a b : Bool) → (a && b) ≡ true → (a ≡ true) × (b ≡ true)
and_true true b e = (refl, e)
and_true false b e = absurd cc

pub and_off : (b : Bool) → (b && false) ≡ false
and_off true = refl
and_off false = refl

-- ---- words

strips_on : (p c : ℕ) (prefix text rest : List ℕ) (b : Bool) → (c == p) ≡ b → (strips prefix text ≡ Some rest → text ≡ prefix ++ rest) → cond b (strips prefix text) None ≡ Some rest → c ∷ text ≡ (p ∷ prefix) ++ rest
strips_on p c prefix text rest true is so e = rw (eqb-true c p is) (ap (λ (t : List ℕ). p ∷ t) (so e))
strips_on p c prefix text rest false is so e = absurd cc

pub stripped : (prefix text rest : List ℕ) → strips prefix text ≡ Some rest → text ≡ prefix ++ rest
stripped [] text rest e = same_Some text rest e
stripped (p ∷ prefix) [] rest e = absurd cc
stripped (p ∷ prefix) (c ∷ text) rest e = strips_on p c prefix text rest (c == p) refl (stripped prefix text rest) e

strips_word : (prefix rest : List ℕ) → strips prefix (prefix ++ rest) ≡ Some rest
strips_word [] rest = refl
strips_word (p ∷ prefix) rest = rw (eq-eqb p p refl) (strips_word prefix rest)

pub strips_is : (prefix text rest : List ℕ) → text ≡ prefix ++ rest → strips prefix text ≡ Some rest
strips_is prefix text rest e = ap (strips prefix) e ∙ strips_word prefix rest

pub not_here : (prefix text : List ℕ) → strips prefix text ≡ None → NotHere prefix text
not_here prefix text e rest is = let k = strips_is prefix text rest is in cc

none_of : (prefix text : List ℕ) (o : Option (List ℕ)) → strips prefix text ≡ o → NotHere prefix text → o ≡ None
none_of prefix text None is never = refl
none_of prefix text (Some rest) is never = absurd (never rest (stripped prefix text rest is))

pub strips_none : (prefix text : List ℕ) → NotHere prefix text → strips prefix text ≡ None
strips_none prefix text never = none_of prefix text (strips prefix text) refl never

word_by : (prefix text : List ℕ) (o : Option (List ℕ)) → strips prefix text ≡ o → ((rest : List ℕ) × (text ≡ prefix ++ rest)) ⊎ NotHere prefix text
word_by prefix text None is = inr (not_here prefix text is)
word_by prefix text (Some rest) is = inl (rest, stripped prefix text rest is)

-- a word stands there or does not
pub word_or_not : (prefix text : List ℕ) → ((rest : List ℕ) × (text ≡ prefix ++ rest)) ⊎ NotHere prefix text
word_or_not prefix text = word_by prefix text (strips prefix text) refl

pub begins_cons : (text : List ℕ) (c : ℕ) → begins_with text c ≡ true → (rest : List ℕ) × (text ≡ c ∷ rest)
begins_cons [] c e = absurd cc
begins_cons (d ∷ text) c e = (text, ap (λ (b : ℕ). b ∷ text) (eqb-true d c e))

-- ---- lengths

length_of : (text rest : List ℕ) → text ≡ rest → length text ≡ length rest
length_of text rest e = ap length e

front_shorter : (pieces : List Piece) (text rest : List ℕ) → InFront pieces text rest → length rest ≤ length text
front_shorter [] text rest s = let e = length_of text rest s in omega arith
front_shorter (blank c ∷ pieces) text rest s = let e = length_of text (c ∷ s.0) s.1 in let k = front_shorter pieces s.0 rest s.3 in omega arith
front_shorter (line bytes ∷ pieces) text rest s =
    let e = length_of text (35 ∷ (bytes ++ s.0)) s.1 in
    let k = front_shorter pieces s.0 rest s.4 in
    omega (arith, length-append bytes s.0)
front_shorter (block bytes ∷ pieces) text rest s =
    let e = length_of text (47 ∷ 42 ∷ (bytes ++ (42 ∷ 47 ∷ s.0))) s.1 in
    let k = front_shorter pieces s.0 rest s.3 in
    omega (arith, length-append bytes (42 ∷ 47 ∷ s.0))

pub skipped_shorter : (text rest : List ℕ) → Skipped text rest → length rest ≤ length text
skipped_shorter text rest s = front_shorter s.0 text rest s.1.0

after_on : (c : ℕ) (rest : List ℕ) (b : Bool) → length (cond b rest (c ∷ rest)) ≤ suc (length rest)
after_on c rest true = omega arith
after_on c rest false = omega arith

after_shorter : (text : List ℕ) → length (after_semicolon text) ≤ length text
after_shorter [] = omega arith
after_shorter (c ∷ rest) = after_on c rest (c == 59)

pub token_shorter : {end : TokenEnd} {text : List ℕ} {m : _} {rest : List ℕ} (t : IsToken end text m rest) → length rest < length text
token_shorter {end} {text} {m} {rest} t =
    let e = length_of text (t.bytes ++ t.stop ∷ t.after) t.whole in
    let r = length_of rest (after_semicolon (t.stop ∷ t.after)) t.follows in
    let some = t.some in
    omega (arith, length-append t.bytes (t.stop ∷ t.after), after_shorter (t.stop ∷ t.after))

-- ---- the next `};`

-- nothing is closed by one byte more
still_open : (c d : ℕ) (inner rest after : List ℕ) → d ∷ rest ≡ inner ++ 125 ∷ 59 ∷ after → ((c ≡ 125) × (d ≡ 59) → ⊥) → NoClose inner → NoClose (c ∷ inner)
still_open c d [] rest after is other free = tt
still_open c d (b ∷ inner) rest after is other free = ((λ p. let same : d ≡ b = cc in other (p.0, same ∙ p.1)), free)

abbrev pub Closes : List ℕ → Type 0
Closes text = (inner after : List ℕ) × (text ≡ inner ++ 125 ∷ 59 ∷ after) × NoClose inner

close_more : (c d : ℕ) (text : List ℕ) → ((c ≡ 125) × (d ≡ 59) → ⊥) → Closes (d ∷ text) ⊎ NoClose (d ∷ text) → Closes (c ∷ d ∷ text) ⊎ NoClose (c ∷ d ∷ text)
close_more c d text other (inl k) = inl (c ∷ k.0, k.1, ap (λ (t : List ℕ). c ∷ t) k.2, still_open c d k.0 text k.1 k.2 other k.3)
close_more c d text other (inr o) = inr (other, o)

-- a `};` comes or does not
pub close_or_not : (text : List ℕ) → Closes text ⊎ NoClose text
close_or_not [] = inr tt
close_or_not (c ∷ []) = inr tt
close_or_not (c ∷ d ∷ text) = elim (is_or (c == 125 && d == 59)) as (λ _. Closes (c ∷ d ∷ text) ⊎ NoClose (c ∷ d ∷ text)) [
  | inl is ↦
      let k = and_true (c == 125) (d == 59) is in
      inl ([], text, ap (λ (b : ℕ). b ∷ d ∷ text) (eqb-true c 125 k.0) ∙ ap (λ (b : ℕ). 125 ∷ b ∷ text) (eqb-true d 59 k.1), tt)
  | inr other ↦ close_more c d text (λ p. let k : (c == 125 && d == 59) ≡ true = rw (p.0, p.1) refl in cc) (close_or_not (d ∷ text))
]

pub close_is : (inner after : List ℕ) → NoClose inner → close_place (inner ++ 125 ∷ 59 ∷ after) ≡ Some (length inner)
close_is [] after free = refl
close_is (c ∷ []) after free = rw (and_off (c == 125)) refl
close_is (c ∷ d ∷ inner) after free =
    rw (no_test (c == 125 && d == 59) (λ t. let k = and_true (c == 125) (d == 59) t in free.0 (eqb-true c 125 k.0, eqb-true d 59 k.1)), close_is (d ∷ inner) after free.1) refl

pub no_close : (text : List ℕ) → NoClose text → close_place text ≡ None
no_close [] free = refl
no_close (c ∷ []) free = rw (and_off (c == 125)) refl
no_close (c ∷ d ∷ text) free =
    rw (no_test (c == 125 && d == 59) (λ t. let k = and_true (c == 125) (d == 59) t in free.0 (eqb-true c 125 k.0, eqb-true d 59 k.1)), no_close (d ∷ text) free.1) refl

-- how far the first semicolon is
abbrev first_semicolon : List ℕ → ℕ
first_semicolon text = prefix_len (λ c. not (c == 59)) text

abbrev SemicolonIs : Bool → ℕ → List ℕ → Type 0
SemicolonIs true n inner = n < length inner
SemicolonIs false n inner = n ≡ suc (length inner)

one_further : (b : Bool) (n : ℕ) (c : ℕ) (inner : List ℕ) → SemicolonIs b n inner → SemicolonIs b (1 + n) (c ∷ inner)
one_further true n c inner s = omega arith
one_further false n c inner s = omega arith

semicolon_on : (c : ℕ) (inner after : List ℕ) (b : Bool) → (c == 59) ≡ b → SemicolonIs (list_any (λ d. d == 59) inner) (first_semicolon (inner ++ 125 ∷ 59 ∷ after)) inner → SemicolonIs (list_any (λ d. d == 59) (c ∷ inner)) (first_semicolon (c ∷ (inner ++ 125 ∷ 59 ∷ after))) (c ∷ inner)
semicolon_on c inner after true is s = rw (is) (omega arith)
semicolon_on c inner after false is s = rw (is) (one_further (list_any (λ d. d == 59) inner) (first_semicolon (inner ++ 125 ∷ 59 ∷ after)) c inner s)

semicolon_at : (inner after : List ℕ) → SemicolonIs (list_any (λ d. d == 59) inner) (first_semicolon (inner ++ 125 ∷ 59 ∷ after)) inner
semicolon_at [] after = refl
semicolon_at (c ∷ inner) after = semicolon_on c inner after (c == 59) refl (semicolon_at inner after)

before_by : (inner after : List ℕ) (b : Bool) (n : ℕ) → SemicolonIs b n inner → or_else (cond (nat_lt n (length (inner ++ 125 ∷ 59 ∷ after))) (Some n) None) (λ at. nat_lt at (length inner)) false ≡ b
before_by inner after true n s = rw (lt-ltb n (length (inner ++ 125 ∷ 59 ∷ after)) (omega (arith, length-append inner (125 ∷ 59 ∷ after))), lt-ltb n (length inner) s) refl
before_by inner after false n s = rw (lt-ltb n (length (inner ++ 125 ∷ 59 ∷ after)) (omega (arith, length-append inner (125 ∷ 59 ∷ after)))) (le-ltb n (length inner) (omega arith))

-- whether a semicolon comes before the `};` is whether one stands in front of it
pub before_is : (inner after : List ℕ) → semicolon_before (inner ++ 125 ∷ 59 ∷ after) (length inner) ≡ list_any (λ c. c == 59) inner
before_is inner after = before_by inner after _ (first_semicolon (inner ++ 125 ∷ 59 ∷ after)) (semicolon_at inner after)
