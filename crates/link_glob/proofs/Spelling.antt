-- Reading tokens one after the other.
use Rattle.std.proofs.Common.{◌≡◌, ℕ, suc, ◌-◌, ◌+◌, ◌==◌, take, ◌≤◌, Bool, true, false, List, [], ◌∷◌, ◌++◌, length, drop, Some, None, refl, sym, ap, subst, ◌∙◌, append_assoc, take_all, add-one, zero, arith}
use Rattle.std.specs.Prelude.{position}
use Rattle.std.proofs.lemmas.List.{append-nil}
use Rattle.std.proofs.lemmas.Option.{some_pair_parts}
use Rattle.link_glob.specs.declared.fault.GlobError.{GlobError}
use Rattle.link_glob.specs.declared.fault.GlobError.TheVariants as errors
use Rattle.link_glob.specs.Glob.{GlobToken, class}
use Rattle.link_glob.specs.declared.compile.Dialect.{Dialect}
use Rattle.link_glob.specs.Grammar.{ranges_of}
use Rattle.link_glob.specs.Reading.{Fails, Refuses, class_from, token_at, IsRead}

-- the tokens read so far and what spells the rest are what spells the text
pub record ReadSoFar (dialect : Dialect) (text : List ℕ) (done : List GlobToken) (rest : List ℕ) : Type 0 where
  pub forth : (tokens : List GlobToken) → IsRead dialect tokens rest → IsRead dialect (done ++ tokens) text
  pub back : (tokens : List GlobToken) → IsRead dialect tokens text → (more : List GlobToken) × (tokens ≡ done ++ more) × IsRead dialect more rest

pub read_none : (dialect : Dialect) (text : List ℕ) → ReadSoFar dialect text [] text
read_none dialect text = record { forth = λ tokens s. s; back = λ tokens s. (tokens, refl, s) }

step_back : (dialect : Dialect) (rest : List ℕ) (token : GlobToken) (after : List ℕ) → token_at dialect rest ≡ Some (token, after) → (more : List GlobToken) → IsRead dialect more rest → (others : List GlobToken) × (more ≡ token ∷ others) × IsRead dialect others after
step_back dialect rest token after is [] s = absurd (let e = ap (token_at dialect) s in cc)
step_back dialect rest token after is (t ∷ ts) s =
    let e = some_pair_parts t token s.0 after (sym s.1 ∙ is) in
    (ts, ap (λ (x : GlobToken). x ∷ ts) e.0, subst (λ (r : List ℕ). IsRead dialect ts r) e.1 s.2)

pub read_one : (dialect : Dialect) (text : List ℕ) (done : List GlobToken) (rest : List ℕ) (token : GlobToken) (after : List ℕ) → token_at dialect rest ≡ Some (token, after) → ReadSoFar dialect text done rest → ReadSoFar dialect text (done ++ token ∷ []) after
read_one dialect text done rest token after is so_far = record {
  forth = λ tokens s. rw append_assoc (so_far.forth (token ∷ tokens) (after, is, s));
  back = λ tokens s.
      let a = so_far.back tokens s in
      let b = step_back dialect rest token after is a.0 a.2 in
      (b.0, a.1 ∙ ap (λ (x : List GlobToken). done ++ x) b.1 ∙ sym (append_assoc done (token ∷ []) b.0), b.2);
}

none_spells : (dialect : Dialect) (rest : List ℕ) → (rest ≡ [] → ⊥) → token_at dialect rest ≡ None → (tokens : List GlobToken) → IsRead dialect tokens rest → ⊥
none_spells dialect rest more is [] s = more s
none_spells dialect rest more is (t ∷ ts) s = absurd (let e = s.1 in cc)

pub read_refused : (dialect : Dialect) (text : List ℕ) (done : List GlobToken) (rest : List ℕ) → (rest ≡ [] → ⊥) → token_at dialect rest ≡ None → ReadSoFar dialect text done rest → (tokens : List GlobToken) → IsRead dialect tokens text → ⊥
read_refused dialect text done rest more is so_far tokens s = let a = so_far.back tokens s in none_spells dialect rest more is a.0 a.2

nothing_more : (dialect : Dialect) (rest : List ℕ) → rest ≡ [] → (more : List GlobToken) → IsRead dialect more rest → more ≡ []
nothing_more dialect rest is [] s = refl
nothing_more dialect rest is (t ∷ ts) s = absurd (let e = ap (token_at dialect) is in cc)

pub read_all : (dialect : Dialect) (text : List ℕ) (done : List GlobToken) (rest : List ℕ) → rest ≡ [] → ReadSoFar dialect text done rest → IsRead dialect done text × ((tokens : List GlobToken) → IsRead dialect tokens text → tokens ≡ done)
read_all dialect text done rest is so_far = (rw (← append-nil done) (so_far.forth [] is), λ tokens s. let a = so_far.back tokens s in a.1 ∙ ap (λ (x : List GlobToken). done ++ x) (nothing_more dialect rest is a.0 a.2) ∙ append-nil done)

pub read_fault : (e : GlobError) (dialect : Dialect) (text : List ℕ) (done : List GlobToken) (rest : List ℕ) → (rest ≡ [] → ⊥) → Fails e (token_at dialect rest) → ReadSoFar dialect text done rest → Refuses e dialect text
read_fault errors.InvalidGlob dialect text done rest more is so_far = read_refused dialect text done rest more is so_far
read_fault errors.InvalidUtf8 dialect text done rest more is so_far = is
read_fault errors.Memory dialect text done rest more is so_far = tt

-- a text that has a first character is not empty
pub not_empty : (b : Bool) (xs : List ℕ) → b ≡ (length xs == 0) → b ≡ false → xs ≡ [] → ⊥
not_empty b xs is more e = absurd (let k : true ≡ false = sym (is ∙ ap (λ (l : List ℕ). length l == 0) e) ∙ more in cc)

drop_next : (n : ℕ) (text : List ℕ) (x : ℕ) (rest : List ℕ) → drop n text ≡ x ∷ rest → drop (suc n) text ≡ rest
drop_next zero [] x rest e = absurd cc
drop_next zero (y ∷ text) x rest e = cc
drop_next (suc n) [] x rest e = absurd cc
drop_next (suc n) (y ∷ text) x rest e = drop_next n text x rest e

tail_is : (x : ℕ) (xs : List ℕ) → take (length (x ∷ xs) - 1) (drop 1 (x ∷ xs)) ≡ xs
tail_is x xs = take_all (length (x ∷ xs) - 1) xs (omega arith)

-- what is left behind the first element
tail_of : (text : List ℕ) → 1 ≤ length text → (x : ℕ) × (text ≡ x ∷ take (length text - 1) (drop 1 text))
tail_of [] more = absurd (omega arith)
tail_of (x ∷ xs) more = (x, ap (λ (ys : List ℕ). x ∷ ys) (sym (tail_is x xs)))

pub class_is : (negated : Bool) (text content closed : List ℕ) (n : ℕ) → 1 ≤ length text → position (λ c. c == 93) (take (length text - 1) (drop 1 text)) ≡ Some n → content ≡ take (n + 1) text → closed ≡ drop (n + 1) text → 1 ≤ length closed
    → class_from negated text ≡ Some (class negated (ranges_of content), take (length closed - 1) (drop 1 closed))
class_is negated [] content closed n some at front back more = absurd (omega arith)
class_is negated (first ∷ text) content closed n some at front back more =
    let found : position (λ c. c == 93) text ≡ Some n = ap (position (λ c. c == 93)) (sym (tail_is first text)) ∙ at in
    let shown : content ≡ first ∷ take n text = front ∙ rw add-one refl in
    let closed_is : closed ≡ drop n text = back ∙ rw add-one refl in
    let t = tail_of closed more in
    let rest : drop (suc n) text ≡ take (length closed - 1) (drop 1 closed) = drop_next n text t.0 _ (sym closed_is ∙ t.1) in
    rw (found, shown, rest) refl
