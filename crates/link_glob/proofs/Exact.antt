-- The tokens that spell a text are those that the steps give.
use Rattle.std.proofs.Common.{◌≡◌, ℕ, zero, suc, ◌<◌, ◌≤◌, ◌==◌, Bool, true, false, cond, List, [], ◌∷◌, length, drop, take, Option, Some, None, Result, Ok, Err, refl, sym, ap, subst, ◌∙◌, arith, inl, inr, ◌⊎◌, length-drop}
use Rattle.std.specs.Prelude.{position}
use Rattle.std.specs.Option.{option_map, option_and_then}
use Rattle.std.specs.Str.{IsUtf8, is_utf8, chars}
use Rattle.std.proofs.lemmas.Option.{same_Some, none-some}
use Rattle.std.proofs.lemmas.Str.{is_utf8-from_IsUtf8, IsUtf8-from_is_utf8}
use Rattle.link_glob.specs.declared.fault.GlobError.{GlobError}
use Rattle.link_glob.specs.declared.fault.GlobError.TheVariants as errors
use Rattle.link_glob.specs.Glob.{GlobToken, any, one, literal, class}
use Rattle.link_glob.specs.declared.compile.Dialect.{Dialect}
use Rattle.link_glob.specs.declared.compile.Dialect.TheVariants.{Gnu, MachO}
use Rattle.link_glob.specs.Grammar.{ranges_of, with_marks}
use Rattle.link_glob.specs.Reading.{token_at, star_at, class_at, class_from, IsRead, ReadsBytes, tokens_by, tokens_of}
use Rattle.link_glob.specs.Compile.{glob_of, IsGlob}

-- a step leaves less than it is given
abbrev pub Shrinks : (List ℕ → Option (GlobToken × List ℕ)) → Type 0
Shrinks step = (text : List ℕ) (t : GlobToken) (rest : List ℕ) → step text ≡ Some (t, rest) → length rest < length text

second : (a : GlobToken) (b : List ℕ) (t : GlobToken) (rest : List ℕ) → ◌≡◌ {A = Option (GlobToken × List ℕ)} (Some (a, b)) (Some (t, rest)) → b ≡ rest
second a b t rest e = ap (λ (p : GlobToken × List ℕ). p.1) (same_Some (a, b) (t, rest) e)

cond_cases : {A : Type 0} (b : Bool) (x y : A) → (cond b x y ≡ x) ⊎ (cond b x y ≡ y)
cond_cases true x y = inl refl
cond_cases false x y = inr refl

star_short : (dialect : Dialect) (text : List ℕ) (t : GlobToken) (rest : List ℕ) → star_at dialect text ≡ Some (t, rest) → length rest ≤ length text
star_short Gnu [] t rest e = let h = second any [] t rest e in rw (← h) (omega arith)
star_short MachO [] t rest e = let h = second any [] t rest e in rw (← h) (omega arith)
star_short MachO (c ∷ text) t rest e =
    elim (cond_cases (c == 42) (star_at MachO text) (Some (any, c ∷ text))) [
      | inl h ↦ let s = star_short MachO text t rest (sym h ∙ e) in omega arith
      | inr h ↦ let s = second any (c ∷ text) t rest (sym h ∙ e) in rw (← s) (omega arith)
    ]
star_short Gnu (c ∷ text) t rest e =
    elim (cond_cases {A = Option (GlobToken × List ℕ)} (c == 42) None (Some (any, c ∷ text))) [
      | inl h ↦ absurd (none-some (t, rest) (sym h ∙ e))
      | inr h ↦ let s = second any (c ∷ text) t rest (sym h ∙ e) in rw (← s) (omega arith)
    ]

class_found : (negated : Bool) (first : ℕ) (text : List ℕ) (t : GlobToken) (rest : List ℕ) (o : Option ℕ) → option_map {U = GlobToken × List ℕ} (λ n. (class negated (ranges_of (first ∷ take n text)), drop (suc n) text)) o ≡ Some (t, rest) → length rest ≤ length (first ∷ text)
class_found negated first text t rest None e = absurd cc
class_found negated first text t rest (Some n) e = let s = second (class negated (ranges_of (first ∷ take n text))) (drop (suc n) text) t rest e in rw (← s) (omega (arith, length-drop (suc n) text))

class_short : (negated : Bool) (text : List ℕ) (t : GlobToken) (rest : List ℕ) → class_from negated text ≡ Some (t, rest) → length rest ≤ length text
class_short negated [] t rest e = absurd cc
class_short negated (first ∷ text) t rest e = class_found negated first text t rest (position (λ c. c == 93) text) e

class_at_short : (text : List ℕ) (t : GlobToken) (rest : List ℕ) → class_at text ≡ Some (t, rest) → length rest ≤ length text
class_at_short [] t rest e = absurd cc
class_at_short (c ∷ text) t rest e =
    elim (cond_cases (c == 33) (class_from true text) (class_from false (c ∷ text))) [
      | inl h ↦ let s = class_short true text t rest (sym h ∙ e) in omega arith
      | inr h ↦ class_short false (c ∷ text) t rest (sym h ∙ e)
    ]

pub token_shrinks : (dialect : Dialect) → Shrinks (token_at dialect)
token_shrinks dialect [] t rest e = absurd cc
token_shrinks dialect (c ∷ text) t rest e =
    elim (cond_cases (c == 42) (star_at dialect text) (cond (c == 63) (Some (one, text)) (cond (c == 91) (class_at text) (Some (literal c, text))))) [
      | inl h ↦ let s = star_short dialect text t rest (sym h ∙ e) in omega arith
      | inr h ↦ elim (cond_cases (c == 63) (Some (one, text)) (cond (c == 91) (class_at text) (Some (literal c, text)))) [
        | inl k ↦ let s = second one text t rest (sym k ∙ sym h ∙ e) in rw (← s) (omega arith)
        | inr k ↦ elim (cond_cases (c == 91) (class_at text) (Some (literal c, text))) [
          | inl m ↦ let s = class_at_short text t rest (sym m ∙ sym k ∙ sym h ∙ e) in omega arith
          | inr m ↦ let s = second (literal c) text t rest (sym m ∙ sym k ∙ sym h ∙ e) in rw (← s) (omega arith)
        ]
      ]
    ]

spelled_short : (dialect : Dialect) (tokens : List GlobToken) (text : List ℕ) → IsRead dialect tokens text → length tokens ≤ length text
spelled_short dialect [] text s = omega arith
spelled_short dialect (t ∷ ts) text s = let h = token_shrinks dialect text t s.0 s.1 in let k = spelled_short dialect ts s.0 s.2 in omega arith

step_by : (step : List ℕ → Option (GlobToken × List ℕ)) (n c : ℕ) (text : List ℕ) (t : GlobToken) (rest : List ℕ) (ts : List GlobToken) → step (c ∷ text) ≡ Some (t, rest) → tokens_by step n rest ≡ Some ts → tokens_by step (suc n) (c ∷ text) ≡ Some (t ∷ ts)
step_by step n c text t rest ts e k = rw (e, k) refl

mapped : (t : GlobToken) (o : Option (List GlobToken)) (tokens : List GlobToken) → option_map (λ ts. t ∷ ts) o ≡ Some tokens → (ts : List GlobToken) × (o ≡ Some ts) × (t ∷ ts ≡ tokens)
mapped t None tokens e = absurd cc
mapped t (Some ts) tokens e = (ts, refl, same_Some (t ∷ ts) tokens e)

chained : (step : List ℕ → Option (GlobToken × List ℕ)) (n : ℕ) (o : Option (GlobToken × List ℕ)) (tokens : List GlobToken) → option_and_then (λ t. option_map (λ ts. t.0 ∷ ts) (tokens_by step n t.1)) o ≡ Some tokens
    → (t : GlobToken × List ℕ) × (ts : List GlobToken) × ((o ≡ Some t) × (tokens_by step n t.1 ≡ Some ts)) × (t.0 ∷ ts ≡ tokens)
chained step n None tokens e = absurd cc
chained step n (Some t) tokens e = let m = mapped t.0 (tokens_by step n t.1) tokens e in (t, m.0, (refl, m.1), m.2)

by_step : (step : List ℕ → Option (GlobToken × List ℕ)) (n c : ℕ) (text : List ℕ) (tokens : List GlobToken) → tokens_by step (suc n) (c ∷ text) ≡ Some tokens
    → (t : GlobToken × List ℕ) × (ts : List GlobToken) × ((step (c ∷ text) ≡ Some t) × (tokens_by step n t.1 ≡ Some ts)) × (t.0 ∷ ts ≡ tokens)
by_step step n c text tokens e = chained step n (step (c ∷ text)) tokens e

spelled_by : (dialect : Dialect) (n : ℕ) (tokens : List GlobToken) (text : List ℕ) → IsRead dialect tokens text → length tokens < n → tokens_by (token_at dialect) n text ≡ Some tokens
spelled_by dialect zero tokens text s lt = absurd (omega arith)
spelled_by dialect (suc n) [] text s lt = rw s refl
spelled_by dialect (suc n) (t ∷ ts) [] s lt = absurd (let e = s.1 in cc)
spelled_by dialect (suc n) (t ∷ ts) (c ∷ text) s lt =
    step_by (token_at dialect) n c text t s.0 ts s.1 (spelled_by dialect n ts s.0 s.2 (omega arith))

by_spelled : (dialect : Dialect) (n : ℕ) (tokens : List GlobToken) (text : List ℕ) → tokens_by (token_at dialect) n text ≡ Some tokens → IsRead dialect tokens text
by_spelled dialect zero tokens text e = absurd cc
by_spelled dialect (suc n) tokens [] e = subst (λ (ts : List GlobToken). IsRead dialect ts []) (same_Some [] tokens e) refl
by_spelled dialect (suc n) tokens (c ∷ text) e =
    let s = by_step (token_at dialect) n c text tokens e in
    subst (λ (ts : List GlobToken). IsRead dialect ts (c ∷ text)) s.3 (s.0.1, s.2.0, by_spelled dialect n s.1 s.0.1 s.2.1)

pub exact_ok : (dialect : Dialect) (text : List ℕ) (tokens : List GlobToken) → IsRead dialect tokens text → tokens_of dialect text ≡ Some tokens
unfolding tokens_of
exact_ok dialect text tokens s = spelled_by dialect (suc (length text)) tokens text s (let h = spelled_short dialect tokens text s in omega arith)

none_by : (dialect : Dialect) (text : List ℕ) (o : Option (List GlobToken)) → ((tokens : List GlobToken) → o ≡ Some tokens → ⊥) → o ≡ None
none_by dialect text None never = refl
none_by dialect text (Some tokens) never = absurd (never tokens refl)

false_of : (b : Bool) → (b ≡ true → ⊥) → b ≡ false
false_of true never = absurd (never refl)
false_of false never = refl

not_utf8 : (bytes : List ℕ) → ¬ (IsUtf8 bytes) → is_utf8 bytes ≡ false
not_utf8 bytes never = false_of (is_utf8 bytes) (λ e. never (IsUtf8-from_is_utf8 bytes e))

pub exact_none : (dialect : Dialect) (text : List ℕ) → ((tokens : List GlobToken) → IsRead dialect tokens text → ⊥) → tokens_of dialect text ≡ None
unfolding tokens_of
exact_none dialect text never = none_by dialect text (tokens_by (token_at dialect) (suc (length text)) text) (λ tokens e. never tokens (by_spelled dialect (suc (length text)) tokens text e))

pub exact : (dialect : Dialect) (bytes : List ℕ) (r : Result (List GlobToken) GlobError) → ReadsBytes dialect bytes r → IsGlob r (glob_of dialect bytes)
unfolding glob_of
exact dialect bytes (Ok tokens) c = rw (is_utf8-from_IsUtf8 bytes c.0, exact_ok dialect (with_marks (chars bytes)) tokens c.1) refl
exact dialect bytes (Err errors.InvalidGlob) c = rw (is_utf8-from_IsUtf8 bytes c.0, exact_none dialect (with_marks (chars bytes)) c.1) refl
exact dialect bytes (Err errors.InvalidUtf8) c = rw (not_utf8 bytes c) refl
exact dialect bytes (Err errors.Memory) c = tt
