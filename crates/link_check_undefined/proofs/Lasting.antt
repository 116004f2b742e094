-- The last reference to a name and version, reference by reference.
use Rattle.std.proofs.Common.{◌≡◌, ◌∙◌, ℕ, Bool, true, false, List, [], ◌∷◌, Option, Some, None, cond, filter, if◌then◌else◌, option_map, refl}
use Rattle.std.specs.Prelude.{fold}
use Rattle.std.specs.Option.{option_or}
use Rattle.link_input.specs.Symbols.{Symbol}
use Rattle.link_rules.specs.Places.{last_of}
use Rattle.link_rules.specs.Undefined.{Numbered, asks_same, last_alike}

-- the last that asks for the same, with one reference more
abbrev pub later : Symbol → Option ℕ → Numbered → Option ℕ
later x known u = if asks_same u.1 x then Some u.0 else known

or-none : (o : Option ℕ) → option_or o None ≡ o
or-none None = refl
or-none (Some n) = refl

-- the last of a list stands behind its first
behind-first : (u : Numbered) (us : List Numbered) → option_or (option_map (λ (p : Numbered). p.0) (last_of us)) (Some u.0) ≡ option_map (λ (p : Numbered). p.0) (last_of (u ∷ us))
behind-first u [] = refl
behind-first u (v ∷ us) = more v us
  where
    more : (v : Numbered) (us : List Numbered) → option_or (option_map (λ (p : Numbered). p.0) (last_of (v ∷ us))) (Some u.0) ≡ option_map (λ (p : Numbered). p.0) (last_of (v ∷ us))
    more v [] = refl
    more v (w ∷ ws) = more w ws

-- from what was known before
known-last : (us : List Numbered) (x : Symbol) (known : Option ℕ) → fold (later x) known us ≡ option_or (last_alike us x) known
known-last [] x known = refl
known-last (u ∷ us) x known = known-last us x (later x known u) ∙ by (asks_same u.1 x)
  where
    rest : List Numbered
    rest = filter (λ (p : Numbered). asks_same p.1 x) us

    by : (b : Bool) → option_or (option_map (λ (p : Numbered). p.0) (last_of rest)) (if b then Some u.0 else known)
        ≡ option_or (option_map (λ (p : Numbered). p.0) (last_of (cond b (u ∷ rest) rest))) known
    by true = behind-first u rest ∙ there u rest
      where
        there : (v : Numbered) (vs : List Numbered) → option_map (λ (p : Numbered). p.0) (last_of (v ∷ vs)) ≡ option_or (option_map (λ (p : Numbered). p.0) (last_of (v ∷ vs))) known
        there v [] = refl
        there v (w ∷ ws) = there w ws
    by false = refl

-- the last of all
pub last-is : (us : List Numbered) (x : Symbol) → fold (later x) None us ≡ last_alike us x
last-is us x = known-last us x None ∙ or-none (last_alike us x)
