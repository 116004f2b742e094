-- A string that is closed: what the lexer reads behind it, whatever follows.
use Rattle.std.proofs.Common.{◌≡◌, ℕ, ◌≤◌, Bool, true, false, cond, ◌&&◌, ◌==◌, nat_lt, List, [], ◌∷◌, ◌++◌, length, Option, Some, None, is_some, option_and_then, refl, sym, ap, ◌∙◌, arith, length-append}
use Rattle.std.proofs.lemmas.List.{append_assoc}
use Rattle.std.proofs.lemmas.Bool.{false≢true, eqb-true, and_parts}
use Rattle.std.specs.Char.{is_digit, encode_utf8}
use Rattle.json.specs.Text.{code_unit, short_escape, is_high_surrogate, is_low_surrogate, surrogate_pair, Within, plain, after_backslash, after_u, after_high, prepend, content}
use Rattle.json.specs.Word.{is_operator, is_space}
use Rattle.json.specs.Lex.{quote, backslash, operator, space, other, Lexeme, Mode, between, in_string, in_escape, lex_byte, lex}

abbrev mode : Within → Mode
mode plain = in_string
mode after_backslash = in_escape
mode after_u = in_string
mode (after_high h) = in_string

-- ---- what the lexer passes

passes : (o s : Bool) (x : ℕ) (l : List ℕ) (k : Mode → List Lexeme) → lex_byte in_string (cond o operator (cond s space other)) x l k ≡ k in_string
passes true s x l k = refl
passes false true x l k = refl
passes false false x l k = refl

past_plain : (x : ℕ) (l : List ℕ) → (x == 34) ≡ false → (x == 92) ≡ false → lex in_string (x ∷ l) ≡ lex in_string l
unfolding lex
past_plain x l q b =
    ap (λ y. lex_byte in_string (cond y quote (cond (x == 92) backslash (cond (is_operator x) operator (cond (is_space x) space other)))) x l (λ n. lex n l)) q
    ∙ ap (λ y. lex_byte in_string (cond y backslash (cond (is_operator x) operator (cond (is_space x) space other))) x l (λ n. lex n l)) b
    ∙ passes (is_operator x) (is_space x) x l (λ n. lex n l)

past_quote : (x : ℕ) (l : List ℕ) → (x == 34) ≡ true → lex in_string (x ∷ l) ≡ lex between l
unfolding lex
past_quote x l q = ap (λ y. lex in_string (y ∷ l)) (eqb-true x 34 q)

past_backslash : (x : ℕ) (l : List ℕ) → (x == 92) ≡ true → lex in_string (x ∷ l) ≡ lex in_escape l
unfolding lex
past_backslash x l b = ap (λ y. lex in_string (y ∷ l)) (eqb-true x 92 b)

past_escape : (x : ℕ) (l : List ℕ) → lex in_escape (x ∷ l) ≡ lex in_string l
unfolding lex
past_escape x l = refl

not_this : (c x : ℕ) (t : Bool) → (t ≡ true → x ≡ c) → is_digit c 16 ≡ false → is_digit x 16 ≡ true → t ≡ false
not_this c x false e never h = refl
not_this c x true e never h = absurd (false≢true (sym never ∙ ap (λ y. is_digit y 16) (sym (e refl)) ∙ h))

past_hex : (x : ℕ) (l : List ℕ) → is_digit x 16 ≡ true → lex in_string (x ∷ l) ≡ lex in_string l
past_hex x l h = past_plain x l (not_this 34 x (x == 34) (eqb-true x 34) refl h) (not_this 92 x (x == 92) (eqb-true x 92) refl h)

all_hex : (b : Bool) (n u : ℕ) → cond b (Some n) None ≡ Some u → b ≡ true
all_hex true n u h = refl
all_hex false n u h = absurd (false≢true (ap is_some h))

past_unit : (a b c d : ℕ) (l : List ℕ) (u : ℕ) → code_unit a b c d ≡ Some u → lex in_string (a ∷ b ∷ c ∷ d ∷ l) ≡ lex in_string l
unfolding code_unit
past_unit a b c d l u h =
    let p = and_parts (is_digit a 16 && is_digit b 16 && is_digit c 16) (is_digit d 16) (all_hex _ _ u h) in
    let q = and_parts (is_digit a 16 && is_digit b 16) (is_digit c 16) p.0 in
    let r = and_parts (is_digit a 16) (is_digit b 16) q.0 in
    past_hex a (b ∷ c ∷ d ∷ l) r.0 ∙ past_hex b (c ∷ d ∷ l) r.1 ∙ past_hex c (d ∷ l) q.1 ∙ past_hex d l p.1

-- ---- what is found

if_cond : {P : Type 0} (b : Bool) (x y : Option (List ℕ)) → is_some (cond b x y) ≡ true → (b ≡ true → is_some x ≡ true → P) → (b ≡ false → is_some y ≡ true → P) → P
if_cond true x y h f g = f refl h
if_cond false x y h f g = g refl h

if_then : {P : Type 0} (o : Option ℕ) (k : ℕ → Option (List ℕ)) → is_some (option_and_then k o) ≡ true → ((u : ℕ) → o ≡ Some u → is_some (k u) ≡ true → P) → P
if_then None k h f = absurd (false≢true h)
if_then (Some u) k h f = f u refl h

if_prepend : (a : List ℕ) (r : Option (List ℕ)) → is_some (prepend a r) ≡ true → is_some r ≡ true
if_prepend a None h = h
if_prepend a (Some s) h = refl

never : {P : Type 0} → false ≡ true → P
never h = absurd (false≢true h)

-- ---- a closed string

-- where the string ends, the lexer goes on between words, and the content is the same whatever follows
pub record Closes (w : Within) (xs : List ℕ) : Type 0 where
  pub after : List ℕ
  pub shorter : length after ≤ length xs
  pub alone : lex (mode w) xs ≡ lex between after
  pub goes_on : (t : List ℕ) → lex (mode w) (xs ++ t) ≡ lex between (after ++ t)
  pub same : (t : List ℕ) → content w (xs ++ t) ≡ content w xs

passed : (w v : Within) (pre xs : List ℕ) (g : Option (List ℕ) → Option (List ℕ)) → ((l : List ℕ) → lex (mode w) (pre ++ l) ≡ lex (mode v) l) → ((l : List ℕ) → content w (pre ++ l) ≡ g (content v l))
    → Closes v xs → Closes w (pre ++ xs)
passed w v pre xs g lexes reads c = record {
  after = c.after;
  shorter = omega (arith, c.shorter, length-append pre xs);
  alone = lexes xs ∙ c.alone;
  goes_on = λ t. ap (lex (mode w)) (append_assoc pre xs t) ∙ lexes (xs ++ t) ∙ c.goes_on t;
  same = λ t. ap (content w) (append_assoc pre xs t) ∙ reads (xs ++ t) ∙ ap g (c.same t) ∙ sym (reads xs);
}

at_quote : (x : ℕ) (l : List ℕ) → (x == 34) ≡ true → content plain (x ∷ l) ≡ Some []
unfolding content
at_quote x l q = ap (λ b. cond b (Some []) (cond (x == 92) (content after_backslash l) (cond (nat_lt x 32) None (prepend (x ∷ []) (content plain l))))) q

at_backslash : (x : ℕ) (l : List ℕ) → (x == 34) ≡ false → (x == 92) ≡ true → content plain (x ∷ l) ≡ content after_backslash l
unfolding content
at_backslash x l q b =
    ap (λ y. cond y (Some []) (cond (x == 92) (content after_backslash l) (cond (nat_lt x 32) None (prepend (x ∷ []) (content plain l))))) q
    ∙ ap (λ y. cond y (content after_backslash l) (cond (nat_lt x 32) None (prepend (x ∷ []) (content plain l)))) b

at_plain : (x : ℕ) (l : List ℕ) → (x == 34) ≡ false → (x == 92) ≡ false → nat_lt x 32 ≡ false → content plain (x ∷ l) ≡ prepend (x ∷ []) (content plain l)
unfolding content
at_plain x l q b s =
    ap (λ y. cond y (Some []) (cond (x == 92) (content after_backslash l) (cond (nat_lt x 32) None (prepend (x ∷ []) (content plain l))))) q
    ∙ ap (λ y. cond y (content after_backslash l) (cond (nat_lt x 32) None (prepend (x ∷ []) (content plain l)))) b
    ∙ ap (λ y. cond y None (prepend (x ∷ []) (content plain l))) s

at_u : (x : ℕ) (l : List ℕ) → (x == 117) ≡ true → content after_backslash (x ∷ l) ≡ content after_u l
unfolding content
at_u x l u = ap (λ y. cond y (content after_u l) (option_and_then (λ c. prepend (c ∷ []) (content plain l)) (short_escape x))) u

at_short : (x c : ℕ) (l : List ℕ) → (x == 117) ≡ false → short_escape x ≡ Some c → content after_backslash (x ∷ l) ≡ prepend (c ∷ []) (content plain l)
unfolding content
at_short x c l u e =
    ap (λ y. cond y (content after_u l) (option_and_then (λ k. prepend (k ∷ []) (content plain l)) (short_escape x))) u
    ∙ ap (option_and_then (λ k. prepend (k ∷ []) (content plain l))) e

at_high : (a b c d u : ℕ) (l : List ℕ) → code_unit a b c d ≡ Some u → is_high_surrogate u ≡ true → content after_u (a ∷ b ∷ c ∷ d ∷ l) ≡ content (after_high u) l
unfolding content
at_high a b c d u l e h =
    ap (option_and_then (λ k. cond (is_high_surrogate k) (content (after_high k) l) (cond (is_low_surrogate k) None (prepend (encode_utf8 k) (content plain l))))) e
    ∙ ap (λ y. cond y (content (after_high u) l) (cond (is_low_surrogate u) None (prepend (encode_utf8 u) (content plain l)))) h

at_unit : (a b c d u : ℕ) (l : List ℕ) → code_unit a b c d ≡ Some u → is_high_surrogate u ≡ false → is_low_surrogate u ≡ false → content after_u (a ∷ b ∷ c ∷ d ∷ l) ≡ prepend (encode_utf8 u) (content plain l)
unfolding content
at_unit a b c d u l e h low =
    ap (option_and_then (λ k. cond (is_high_surrogate k) (content (after_high k) l) (cond (is_low_surrogate k) None (prepend (encode_utf8 k) (content plain l))))) e
    ∙ ap (λ y. cond y (content (after_high u) l) (cond (is_low_surrogate u) None (prepend (encode_utf8 u) (content plain l)))) h
    ∙ ap (λ y. cond y None (prepend (encode_utf8 u) (content plain l))) low

at_low : (h s u a b c d v : ℕ) (l : List ℕ) → ((s == 92) && (u == 117)) ≡ true → code_unit a b c d ≡ Some v → is_low_surrogate v ≡ true
    → content (after_high h) (s ∷ u ∷ a ∷ b ∷ c ∷ d ∷ l) ≡ prepend (encode_utf8 (surrogate_pair h v)) (content plain l)
unfolding content
at_low h s u a b c d v l e f low =
    ap (λ y. cond y (option_and_then (λ k. cond (is_low_surrogate k) (prepend (encode_utf8 (surrogate_pair h k)) (content plain l)) None) (code_unit a b c d)) None) e
    ∙ ap (option_and_then (λ k. cond (is_low_surrogate k) (prepend (encode_utf8 (surrogate_pair h k)) (content plain l)) None)) f
    ∙ ap (λ y. cond y (prepend (encode_utf8 (surrogate_pair h v)) (content plain l)) None) low

pub closes : (w : Within) (xs : List ℕ) → is_some (content w xs) ≡ true → Closes w xs
unfolding content
closes plain [] h = never h
closes plain (x ∷ xs) h =
    if_cond (x == 34) _ _ h
    (λ q k. record { after = xs; shorter = omega arith; alone = past_quote x xs q; goes_on = λ t. past_quote x (xs ++ t) q; same = λ t. at_quote x (xs ++ t) q ∙ sym (at_quote x xs q) })
    (λ q k. if_cond (x == 92) _ _ k
    (λ b found. passed plain after_backslash (x ∷ []) xs (λ r. r) (λ l. past_backslash x l b) (λ l. at_backslash x l q b) (closes after_backslash xs found))
    (λ b found. if_cond (nat_lt x 32) _ _ found (λ s none. never none)
    (λ s more. passed plain plain (x ∷ []) xs (prepend (x ∷ [])) (λ l. past_plain x l q b) (λ l. at_plain x l q b s) (closes plain xs (if_prepend (x ∷ []) _ more)))))
closes after_backslash [] h = never h
closes after_backslash (x ∷ xs) h =
    if_cond (x == 117) _ _ h
    (λ u found. passed after_backslash after_u (x ∷ []) xs (λ r. r) (λ l. past_escape x l) (λ l. at_u x l u) (closes after_u xs found))
    (λ u found. if_then (short_escape x) _ found (λ c e more.
    passed after_backslash plain (x ∷ []) xs (prepend (c ∷ [])) (λ l. past_escape x l) (λ l. at_short x c l u e) (closes plain xs (if_prepend (c ∷ []) _ more))))
closes after_u [] h = never h
closes after_u (a ∷ []) h = never h
closes after_u (a ∷ b ∷ []) h = never h
closes after_u (a ∷ b ∷ c ∷ []) h = never h
closes after_u (a ∷ b ∷ c ∷ d ∷ xs) h =
    if_then (code_unit a b c d) _ h (λ u e found.
    if_cond (is_high_surrogate u) _ _ found
    (λ s more. passed after_u (after_high u) (a ∷ b ∷ c ∷ d ∷ []) xs (λ r. r) (λ l. past_unit a b c d l u e) (λ l. at_high a b c d u l e s) (closes (after_high u) xs more))
    (λ s more. if_cond (is_low_surrogate u) _ _ more (λ low none. never none)
    (λ low rest. passed after_u plain (a ∷ b ∷ c ∷ d ∷ []) xs (prepend (encode_utf8 u)) (λ l. past_unit a b c d l u e) (λ l. at_unit a b c d u l e s low)
    (closes plain xs (if_prepend (encode_utf8 u) _ rest)))))
closes (after_high high) [] h = never h
closes (after_high high) (s ∷ []) h = never h
closes (after_high high) (s ∷ u ∷ []) h = never h
closes (after_high high) (s ∷ u ∷ a ∷ []) h = never h
closes (after_high high) (s ∷ u ∷ a ∷ b ∷ []) h = never h
closes (after_high high) (s ∷ u ∷ a ∷ b ∷ c ∷ []) h = never h
closes (after_high high) (s ∷ u ∷ a ∷ b ∷ c ∷ d ∷ xs) h =
    if_cond ((s == 92) && (u == 117)) _ _ h
    (λ e found. if_then (code_unit a b c d) _ found (λ v f more.
    if_cond (is_low_surrogate v) _ _ more
    (λ low rest. passed (after_high high) plain (s ∷ u ∷ a ∷ b ∷ c ∷ d ∷ []) xs (prepend (encode_utf8 (surrogate_pair high v)))
    (λ l. past_backslash s (u ∷ a ∷ b ∷ c ∷ d ∷ l) (and_parts _ _ e).0 ∙ past_escape u (a ∷ b ∷ c ∷ d ∷ l) ∙ past_unit a b c d l v f)
    (λ l. at_low high s u a b c d v l e f low) (closes plain xs (if_prepend _ _ rest)))
    (λ low none. never none)))
    (λ e none. never none)
