-- Going back to the last star alone finds a match wherever there is one.
use Rattle.std.proofs.Common.{◌≡◌, ℕ, zero, suc, ◌+◌, ◌*◌, ◌≤◌, List, [], ◌∷◌, length, drop, Option, Some, None, ◌⊎◌, inl, inr, refl, sym, subst, ◌∙◌, arith}
use Rattle.std.specs.Prelude.{IsTrue}
use Rattle.std.proofs.lemmas.List.{drop-drop, nil_from_length}
use Rattle.std.proofs.Math.Seq.{drop-nil}
use Rattle.link_glob.specs.Glob.{GlobToken, literal, one, any, class, takes, GlobMatches}
use Rattle.link_glob.specs.Step.{IsStep, NoStep, BeginsPlain}

-- what follows a star, and what is left of the name where that star took nothing
abbrev pub Star : Type 0
Star = Option (List GlobToken × List ℕ)

-- the star takes a character more, or several
abbrev pub Later : Star → Type 0
Later None = ⊥
Later (Some s) = (k : ℕ) × GlobMatches s.0 (drop (suc k) s.1)

-- wherever the star's rest matches, what is left to match does so there or further on
abbrev pub Reaches : Star → List GlobToken → List ℕ → Type 0
Reaches None pattern rest = Unit {0}
Reaches (Some s) pattern rest = (k : ℕ) → GlobMatches s.0 (drop k s.1) → (m : ℕ) × GlobMatches pattern (drop m rest)

-- how much of the name the star has left, or one more than all of it
abbrev pub star_left : Star → List ℕ → ℕ
star_left None name = suc (length name)
star_left (Some s) name = length s.1

abbrev pub star_size : Star → ℕ
star_size None = 0
star_size (Some s) = length s.0

pub record Greedy (tokens : List GlobToken) (name : List ℕ) (pattern : List GlobToken) (rest : List ℕ) (star : Star) : Type 0 where
  pub there : GlobMatches tokens name → GlobMatches pattern rest ⊎ Later star
  pub back : GlobMatches pattern rest ⊎ Later star → GlobMatches tokens name
  pub reach : Reaches star pattern rest
  pub short : length rest ≤ star_left star name
  pub size : length pattern ≤ length tokens
  pub after_size : star_size star ≤ length tokens

-- the work that is left
abbrev pub work : ℕ → Star → List ℕ → List GlobToken → ℕ
work size star name pattern = star_left star name * suc size + length pattern

pub begin : (tokens : List GlobToken) (name : List ℕ) → Greedy tokens name tokens name None
begin tokens name = record {
  there = λ g. inl g;
  back = λ e. elim e [ inl g ↦ g | inr n ↦ absurd n ];
  reach = tt;
  short = omega arith;
  size = omega arith;
  after_size = omega arith;
}

split_star : (after : List GlobToken) (rest : List ℕ) (n : ℕ) → GlobMatches after (drop n rest) → GlobMatches after rest ⊎ ((k : ℕ) × GlobMatches after (drop (suc k) rest))
split_star after rest zero g = inl g
split_star after rest (suc k) g = inr (k, g)

drop_twice : (m n : ℕ) (xs : List ℕ) → drop n (drop m xs) ≡ drop (m + n) xs
drop_twice m n xs = drop-drop n m xs

any_there : (after : List GlobToken) (rest : List ℕ) (star : Star) → Reaches star (any ∷ after) rest → GlobMatches (any ∷ after) rest ⊎ Later star → GlobMatches after rest ⊎ ((k : ℕ) × GlobMatches after (drop (suc k) rest))
any_there after rest star reach (inl g) = split_star after rest g.0 g.1
any_there after rest None reach (inr l) = absurd l
any_there after rest (Some s) reach (inr l) =
    let found = reach (suc l.0) l.1 in
    let g : GlobMatches after (drop (found.0 + found.1.0) rest) = subst (λ (xs : List ℕ). GlobMatches after xs) (drop_twice found.0 found.1.0 rest) found.1.1 in
    split_star after rest (found.0 + found.1.0) g

pub at_star : (tokens : List GlobToken) (name : List ℕ) (after : List GlobToken) (rest : List ℕ) (star : Star) → Greedy tokens name (any ∷ after) rest star → Greedy tokens name after rest (Some (after, rest))
at_star tokens name after rest star g = record {
  there = λ m. any_there after rest star g.reach (g.there m);
  back = λ e. g.back (inl (elim e as (λ _. (n : ℕ) × GlobMatches after (drop n rest)) [ inl h ↦ (0, h) | inr l ↦ (suc l.0, l.1) ]));
  reach = λ k h. (k, h);
  short = omega arith;
  size = let h = g.size in omega arith;
  after_size = let h = g.size in omega arith;
}

-- a token that takes a character is no star, and what it leaves is what the rest of the pattern has to match
one_there : (token : GlobToken) (after : List GlobToken) (c : ℕ) (more : List ℕ) → IsTrue (takes token c) → GlobMatches (token ∷ after) (c ∷ more) → GlobMatches after more
one_there (literal d) after c more t g = g.1
one_there one after c more t g = g.1
one_there any after c more t g = absurd cc
one_there (class b ranges) after c more t g = g.1

one_back : (token : GlobToken) (after : List GlobToken) (c : ℕ) (more : List ℕ) → IsTrue (takes token c) → GlobMatches after more → GlobMatches (token ∷ after) (c ∷ more)
one_back (literal d) after c more t g = (t, g)
one_back one after c more t g = (t, g)
one_back any after c more t g = absurd cc
one_back (class b ranges) after c more t g = (t, g)

-- a token that is no star takes one character, wherever it stands
one_further : (token : GlobToken) (after : List GlobToken) (j : ℕ) (more : List ℕ) → BeginsPlain (token ∷ after) → GlobMatches (token ∷ after) (drop j more) → GlobMatches after (drop (suc j) more)
one_further (literal d) after zero [] t g = absurd g
one_further one after zero [] t g = absurd g
one_further any after zero [] t g = absurd t
one_further (class b ranges) after zero [] t g = absurd g
one_further (literal d) after zero (x ∷ more) t g = g.1
one_further one after zero (x ∷ more) t g = g.1
one_further any after zero (x ∷ more) t g = absurd t
one_further (class b ranges) after zero (x ∷ more) t g = g.1
one_further (literal d) after (suc j) [] t g = absurd g
one_further one after (suc j) [] t g = absurd g
one_further any after (suc j) [] t g = absurd t
one_further (class b ranges) after (suc j) [] t g = absurd g
one_further token after (suc j) (x ∷ more) t g = one_further token after j more t g

takes_plain : (token : GlobToken) (after : List GlobToken) (c : ℕ) → IsTrue (takes token c) → BeginsPlain (token ∷ after)
takes_plain (literal d) after c t = tt
takes_plain one after c t = tt
takes_plain any after c t = absurd cc
takes_plain (class b ranges) after c t = tt

one_falls : (token : GlobToken) (after : List GlobToken) (c : ℕ) (more : List ℕ) → IsTrue (takes token c) → (m : ℕ) → GlobMatches (token ∷ after) (drop m (c ∷ more)) → (n : ℕ) × GlobMatches after (drop n more)
one_falls token after c more t zero g = (0, one_there token after c more t g)
one_falls token after c more t (suc j) g = (suc j, one_further token after j more (takes_plain token after c t) g)

one_reaches : (token : GlobToken) (after : List GlobToken) (c : ℕ) (more : List ℕ) (star : Star) → IsTrue (takes token c) → Reaches star (token ∷ after) (c ∷ more) → Reaches star after more
one_reaches token after c more None t reach = tt
one_reaches token after c more (Some s) t reach = λ k h. let found = reach k h in one_falls token after c more t found.0 found.1

at_char : (tokens : List GlobToken) (name : List ℕ) (token : GlobToken) (c : ℕ) (after : List GlobToken) (more : List ℕ) (star : Star) → IsTrue (takes token c) → Greedy tokens name (token ∷ after) (c ∷ more) star → Greedy tokens name after more star
at_char tokens name token c after more star t g = record {
  there = λ m. elim (g.there m) [ inl h ↦ inl (one_there token after c more t h) | inr l ↦ inr l ];
  back = λ e. g.back (elim e as (λ _. GlobMatches (token ∷ after) (c ∷ more) ⊎ Later star) [ inl h ↦ inl (one_back token after c more t h) | inr l ↦ inr l ]);
  reach = one_reaches token after c more star t g.reach;
  short = let h = g.short in omega arith;
  size = let h = g.size in omega arith;
  after_size = g.after_size;
}

pub at_step : (tokens : List GlobToken) (name : List ℕ) (pattern : List GlobToken) (rest : List ℕ) (after : List GlobToken) (more : List ℕ) (star : Star) → IsStep pattern rest after more → Greedy tokens name pattern rest star → Greedy tokens name after more star
at_step tokens name pattern rest after more star s g =
    let h : Greedy tokens name (s.0 ∷ after) (s.1 ∷ more) star = subst (λ (r : List ℕ). Greedy tokens name (s.0 ∷ after) r star) s.3 (subst (λ (p : List GlobToken). Greedy tokens name p rest star) s.2 g) in
    at_char tokens name s.0 s.1 after more star s.4 h

pub at_back : (tokens : List GlobToken) (name : List ℕ) (pattern : List GlobToken) (rest : List ℕ) (after : List GlobToken) (at : List ℕ) (c : ℕ) (more : List ℕ) → (GlobMatches pattern rest → ⊥) → at ≡ c ∷ more → Greedy tokens name pattern rest (Some (after, at)) → Greedy tokens name after more (Some (after, more))
at_back tokens name pattern rest after at c more never is given =
    let g : Greedy tokens name pattern rest (Some (after, c ∷ more)) = subst (λ (a : List ℕ). Greedy tokens name pattern rest (Some (after, a))) is given in
    record {
      there = λ m. elim (g.there m) as (λ _. GlobMatches after more ⊎ ((k : ℕ) × GlobMatches after (drop (suc k) more))) [ inl h ↦ absurd (never h) | inr l ↦ split_star after more l.0 l.1 ];
      back = λ e. g.back (inr (elim e as (λ _. (k : ℕ) × GlobMatches after (drop (suc k) (c ∷ more))) [ inl h ↦ (0, h) | inr l ↦ (suc l.0, l.1) ]));
      reach = λ k h. (k, h);
      short = omega arith;
      size = g.after_size;
      after_size = g.after_size;
    }

-- no step, no star in front, and not both at their end: nothing matches here
pub at_none : (pattern : List GlobToken) (rest : List ℕ) → BeginsPlain pattern → NoStep pattern rest → ((pattern ≡ []) × (rest ≡ []) → ⊥) → GlobMatches pattern rest → ⊥
at_none [] rest p never ends g = ends (refl, g)
at_none (literal d ∷ after) [] p never ends g = g
at_none (one ∷ after) [] p never ends g = g
at_none (any ∷ after) [] p never ends g = absurd p
at_none (class b ranges ∷ after) [] p never ends g = g
at_none (literal d ∷ after) (c ∷ more) p never ends g = never after more (literal d, c, refl, refl, g.0)
at_none (one ∷ after) (c ∷ more) p never ends g = never after more (one, c, refl, refl, g.0)
at_none (any ∷ after) (c ∷ more) p never ends g = absurd p
at_none (class b ranges ∷ after) (c ∷ more) p never ends g = never after more (class b ranges, c, refl, refl, g.0)

pub at_end : (tokens : List GlobToken) (name : List ℕ) (pattern : List GlobToken) (rest : List ℕ) (star : Star) → pattern ≡ [] → rest ≡ [] → Greedy tokens name pattern rest star → GlobMatches tokens name
at_end tokens name pattern rest star p r g = g.back (inl (subst (λ (ts : List GlobToken). GlobMatches ts rest) (sym p) r))

pub fails_first : (tokens : List GlobToken) (name : List ℕ) (pattern : List GlobToken) (rest : List ℕ) → (GlobMatches pattern rest → ⊥) → Greedy tokens name pattern rest None → GlobMatches tokens name → ⊥
fails_first tokens name pattern rest never g m = elim (g.there m) [ inl h ↦ never h | inr l ↦ l ]

-- the star has the whole name already
pub fails_last : (tokens : List GlobToken) (name : List ℕ) (pattern : List GlobToken) (rest : List ℕ) (after : List GlobToken) (at : List ℕ) → (GlobMatches pattern rest → ⊥) → at ≡ [] → Greedy tokens name pattern rest (Some (after, at)) → GlobMatches tokens name → ⊥
fails_last tokens name pattern rest after at never is given m =
    let g : Greedy tokens name pattern rest (Some (after, [])) = subst (λ (a : List ℕ). Greedy tokens name pattern rest (Some (after, a))) is given in
    let ended : rest ≡ [] = nil_from_length rest (let h = g.short in omega arith) in
    elim (g.there m) [
      | inl h ↦ never h
      | inr l ↦ let found = g.reach (suc l.0) l.1 in
          let here : GlobMatches pattern (drop found.0 []) = subst (λ (r : List ℕ). GlobMatches pattern (drop found.0 r)) ended found.1 in
          never (subst (λ (r : List ℕ). GlobMatches pattern r) (drop-nil found.0 ∙ sym ended) here)
    ]

pub at_any : (tokens : List GlobToken) (name : List ℕ) (pattern after : List GlobToken) (rest : List ℕ) (star : Star) → pattern ≡ any ∷ after → Greedy tokens name pattern rest star → Greedy tokens name after rest (Some (after, rest))
at_any tokens name pattern after rest star is g = at_star tokens name after rest star (subst (λ (p : List GlobToken). Greedy tokens name p rest star) is g)
