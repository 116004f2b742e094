-- A repetition, turn by turn.
use Rattle.std.proofs.Common.{◌≡◌, ℕ, zero, suc, ◌<◌, Bool, true, false, cond, ltb, List, [], ◌∷◌, ◌++◌, length, Option, Some, None, Result, Ok, Err, refl, arith}
use Rattle.std.proofs.lemmas.Bool.{ltb-true, lt-ltb}
use Rattle.link_script_syntax.specs.declared.fault.ReadError.{ReadError}
use Rattle.link_script_syntax.specs.declared.fault.ReadError.TheVariants as errors
use Rattle.link_script_syntax.specs.declared.fault.Fault.{Fault}
use Rattle.link_script_syntax.specs.Fault.{◌>>=◌, Fails}
use Rattle.link_script_syntax.specs.Many.{grow_on, grow_by, grow}

guard_same : {X : Type 0} (b : Bool) (x y z : X) → (b ≡ true → x ≡ y) → cond b x z ≡ cond b y z
guard_same true x y z so = so refl
guard_same false x y z so = refl

after_turn : {A : Type 0} (turn : List A → List ℕ → Result (Option A × List ℕ) Fault) (n m size : ℕ) (front : List A) (r : Result (Option A × List ℕ) Fault)
    → ((f : List A) (rest : List ℕ) → length rest < size → grow_by turn n f rest ≡ grow_by turn m f rest)
    → (r >>= λ t. grow_on (λ f rest. grow_by turn n f rest) size front t.0 t.1) ≡ (r >>= λ t. grow_on (λ f rest. grow_by turn m f rest) size front t.0 t.1)
after_turn turn n m size front (Err e) so = refl
after_turn turn n m size front (Ok (None, rest)) so = refl
after_turn turn n m size front (Ok (Some x, rest)) so = guard_same (ltb (length rest) size) _ _ _ (λ t. so (front ++ x ∷ []) rest (ltb-true (length rest) size t))

-- it doesn't matter how many more turns are allowed than there are bytes
enough : {A : Type 0} (turn : List A → List ℕ → Result (Option A × List ℕ) Fault) (n m : ℕ) (front : List A) (text : List ℕ) → length text < n → length text < m → grow_by turn n front text ≡ grow_by turn m front text
enough turn zero m front text a b = absurd (omega arith)
enough turn (suc n) zero front text a b = absurd (omega arith)
enough turn (suc n) (suc m) front text a b = after_turn turn n m (length text) front (turn front text) (λ f rest lt. enough turn n m f rest (omega arith) (omega arith))

pub grow_step : {A : Type 0} (turn : List A → List ℕ → Result (Option A × List ℕ) Fault) (front : List A) (rest after : List ℕ) (x : A) → turn front rest ≡ Ok (Some x, after) → length after < length rest → grow turn front rest ≡ grow turn (front ++ x ∷ []) after
unfolding grow
grow_step turn front rest after x is lt = rw (is, lt-ltb (length after) (length rest) lt) (enough turn (length rest) (suc (length after)) (front ++ x ∷ []) after lt (omega arith))

pub grow_fails : {A : Type 0} (turn : List A → List ℕ → Result (Option A × List ℕ) Fault) (e : ReadError) (front : List A) (rest : List ℕ) → Fails e (turn front rest) → Fails e (grow turn front rest)
unfolding grow
grow_fails turn errors.Memory front rest is = tt
grow_fails turn (errors.Fault f) front rest is = rw is refl

pub grow_ends : {A : Type 0} (turn : List A → List ℕ → Result (Option A × List ℕ) Fault) (front : List A) (rest after : List ℕ) → turn front rest ≡ Ok (None, after) → grow turn front rest ≡ Ok (front, after)
unfolding grow
grow_ends turn front rest after is = rw is refl
