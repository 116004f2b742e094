-- A glob read from the back fits a name read from the back.
use Rattle.std.proofs.Common.{◌≡◌, ◌≤◌, ℕ, zero, suc, List, [], ◌∷◌, ◌++◌, length, drop, take, reverse, refl, sym, subst, subst₂, ap, ◌∙◌, arith}
use Rattle.std.specs.Prelude.{IsUtf8, chars, encode_utf8}
use Rattle.std.proofs.lemmas.List.{append_assoc, append-nil, nil_from_length, reverse-append, take-append-drop, drop-append-le, drop_all}
use Rattle.std.proofs.lemmas.Str.{IsUtf8-past_char, chars-append, chars-nil, chars_past_char}
use Rattle.std.proofs.Math.Utf8.{encodes}
use Rattle.link_glob.specs.Glob.{GlobToken, literal, one, any, class, GlobMatches}

-- a star takes no more than the name
short : (p : List GlobToken) (n : ℕ) (name : List ℕ) → GlobMatches p (drop n name) → (m : ℕ) × (m ≤ length name) × GlobMatches p (drop m name)
short p zero name g = (0, omega arith, g)
short p (suc n) [] g = (0, omega arith, g)
short p (suc n) (c ∷ name) g = let k = short p n name g in (suc k.0, omega (arith, k.1), k.2)

-- what fits one name and then what fits another fits both together
pub joined : (p q : List GlobToken) (a b : List ℕ) → GlobMatches p a → GlobMatches q b → GlobMatches (p ++ q) (a ++ b)
joined [] q a b g h = subst (λ (l : List ℕ). GlobMatches q (l ++ b)) (sym g) h
joined (any ∷ p) q a b g h =
    let k = short p g.0 a g.1 in
    (k.0, subst (GlobMatches (p ++ q)) (sym (drop-append-le k.0 a b k.1)) (joined p q (drop k.0 a) b k.2 h))
joined (literal d ∷ p) q [] b g h = absurd g
joined (literal d ∷ p) q (c ∷ a) b g h = (g.0, joined p q a b g.1 h)
joined (one ∷ p) q [] b g h = absurd g
joined (one ∷ p) q (c ∷ a) b g h = (g.0, joined p q a b g.1 h)
joined (class n ranges ∷ p) q [] b g h = absurd g
joined (class n ranges ∷ p) q (c ∷ a) b g h = (g.0, joined p q a b g.1 h)

-- the first item comes last
first_last : {A : Type 0} (x : A) (xs : List A) → reverse (x ∷ xs) ≡ reverse xs ++ x ∷ []
first_last x xs = reverse-append (x ∷ []) xs

on_turned : (t : GlobToken) (p : List GlobToken) (c : ℕ) (name : List ℕ) → GlobMatches (reverse p) (reverse name) → GlobMatches (t ∷ []) (c ∷ []) → GlobMatches (reverse (t ∷ p)) (reverse (c ∷ name))
on_turned t p c name g h = subst₂ GlobMatches (sym (first_last t p)) (sym (first_last c name)) (joined (reverse p) (t ∷ []) (reverse name) (c ∷ []) g h)

-- whatever fits a name fits it from the back
pub turned : (p : List GlobToken) (name : List ℕ) → GlobMatches p name → GlobMatches (reverse p) (reverse name)
turned [] name g = ap reverse g
turned (any ∷ p) name g =
    let front = reverse (take g.0 name) in
    let parts : reverse name ≡ reverse (drop g.0 name) ++ front = ap reverse (sym (take-append-drop g.0 name)) ∙ reverse-append (take g.0 name) (drop g.0 name) in
    subst₂ GlobMatches (sym (first_last any p)) (sym parts)
    (joined (reverse p) (any ∷ []) (reverse (drop g.0 name)) front (turned p (drop g.0 name) g.1) (length front, drop_all (length front) front (omega arith)))
turned (literal d ∷ p) [] g = absurd g
turned (literal d ∷ p) (c ∷ name) g = on_turned (literal d) p c name (turned p name g.1) (g.0, refl)
turned (one ∷ p) [] g = absurd g
turned (one ∷ p) (c ∷ name) g = on_turned one p c name (turned p name g.1) (g.0, refl)
turned (class n ranges ∷ p) [] g = absurd g
turned (class n ranges ∷ p) (c ∷ name) g = on_turned (class n ranges) p c name (turned p name g.1) (g.0, refl)

-- what follows some characters of a text is a text
behind : (cs text tail : List ℕ) → IsUtf8 text → text ≡ encodes cs ++ tail → IsUtf8 tail
behind [] text tail u e = subst IsUtf8 e u
behind (c ∷ cs) text tail u e =
    let parts = e ∙ append_assoc (encode_utf8 c) (encodes cs) tail in
    behind cs (encodes cs ++ tail) tail (IsUtf8-past_char text (encodes cs ++ tail) c u parts) refl

-- the last character of a text, and the text before it
pub past_last : (text rest : List ℕ) (c : ℕ) → IsUtf8 rest → IsUtf8 text → text ≡ rest ++ encode_utf8 c → reverse (chars text) ≡ c ∷ reverse (chars rest)
past_last text rest c u t e =
    let tail = behind u.0 text (encode_utf8 c) t (e ∙ ap (λ (l : List ℕ). l ++ encode_utf8 c) (sym u.1.1)) in
    let last : chars (encode_utf8 c) ≡ c ∷ [] = chars_past_char (encode_utf8 c) [] c tail (sym (append-nil (encode_utf8 c))) ∙ ap (λ (l : List ℕ). c ∷ l) chars-nil in
    ap (λ (l : List ℕ). reverse (chars l)) e ∙ ap reverse (chars-append rest (encode_utf8 c) u ∙ ap (λ (l : List ℕ). chars rest ++ l) last) ∙ reverse-append (chars rest) (c ∷ [])

-- a text of no bytes has no characters
pub no_last : (text : List ℕ) → length text ≡ 0 → reverse (chars text) ≡ []
no_last text e = ap (λ (l : List ℕ). reverse (chars l)) (nil_from_length text e) ∙ ap reverse chars-nil
