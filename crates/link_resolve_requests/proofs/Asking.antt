-- What a symbol asks for by where its target stands is what the definition of loading says.
use Rattle.std.proofs.Common.{◌≡◌, ℕ, ◌∙◌, Bool, true, false, cond, Option, Some, None, refl, ap}
use Rattle.std.specs.Prelude.{◌&&◌, ◌||◌, not, slice_get, option_map}
use Rattle.std.specs.Option.{option_and_then, option_map_or}
use Rattle.std.proofs.lemmas.Option.{slice_get-map}
use Rattle.link_input.specs.Symbols.{Symbol, is_shared, object_in}
use Rattle.link_rules.specs.Places.{same_number}
use Rattle.link_rules.specs.Loading.{request_between}
use Rattle.link_rules.specs.World.{Stage}
use Rattle.link_resolve_requests.specs.Requests.{requested}
use Rattle.link_db_files.specs.Sources.{source_of, sources_of}

-- no object, whatever is tested
none-anyway : (b : Bool) → ◌≡◌ {A = Option ℕ} None (cond b None None)
none-anyway true = refl
none-anyway false = refl

-- what is asked for by a symbol that may be there
asked-of : (u : Symbol) (o : Option Symbol) → option_and_then (requested (source_of u)) (option_map source_of o)
    ≡ cond ((is_shared u.origin && option_map_or (λ x. is_shared x.origin) o false) || same_number (object_in u.origin) (option_and_then (λ x. object_in x.origin) o))
    None (option_and_then (λ x. object_in x.origin) o)
asked-of u None = none-anyway ((is_shared u.origin && false) || same_number (object_in u.origin) None)
asked-of u (Some y) = refl

-- sources tell what a target is asked for
pub asked-by : (w : Stage) (u : Symbol) (o : Option ℕ) → option_and_then (requested (source_of u)) (option_and_then (slice_get (sources_of w.symbols)) o) ≡ option_and_then (request_between w u) o
asked-by w u None = refl
asked-by w u (Some t) = ap (option_and_then (requested (source_of u))) (slice_get-map source_of w.symbols t) ∙ asked-of u (slice_get w.symbols t)

-- both tests, in either order
pub tested : (A B : Option ℕ → Option ℕ) → ((o : Option ℕ) → A o ≡ B o) → A None ≡ None → (is_asking is_weak : Bool) (o : Option ℕ)
    → cond is_weak None (A (cond is_asking o None)) ≡ cond (is_asking && not is_weak) (B o) None
tested A B agree none true true o = refl
tested A B agree none true false o = agree o
tested A B agree none false true o = refl
tested A B agree none false false o = none
