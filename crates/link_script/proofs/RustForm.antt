-- A body of the Rust form hides exactly the names that it doesn't list.
use Rattle.std.proofs.Common.{◌≡◌, ℕ, zero, suc, ◌≤◌, Bool, true, false, List, [], ◌∷◌, Option, Some, None, refl, sym, ap, subst, ◌∙◌, ◌⊎◌, inl, inr, arith}
use Rattle.std.specs.Prelude.{slice_get, ◌&&◌, ◌||◌, not}
use Rattle.std.specs.List.{list_any, list_all}
use Rattle.std.specs.Str.{bytes_eq}
use Rattle.std.proofs.lemmas.Option.{same_Some}
use Rattle.std.proofs.lemmas.Slice.Eq.{bytes_eq-Decides}
use Rattle.link_script_syntax.specs.declared.body.Side.{Side}
use Rattle.link_script_syntax.specs.declared.body.Side.TheVariants.{Global, Local}
use Rattle.link_script_syntax.specs.declared.body.RawVersionBody.{RawVersionBody}
use Rattle.link_script_syntax.specs.declared.named.RawVersion.{RawVersion}
use Rattle.link_script_syntax.specs.declared.matcher.SymbolMatcher.TheVariants as matchers
use Rattle.link_script_syntax.specs.declared.matcher.ParsedSymbolMatcher.{ParsedSymbolMatcher}
use Rattle.link_script_syntax.specs.declared.matcher.ParsedSymbolMatcher.TheVariants.{Single, Multiple, CxxMatchers}
use Rattle.link_script.specs.declared.rules.Class.{Class}
use Rattle.link_script.specs.declared.rules.Class.TheVariants.{Exact, Every}
use Rattle.link_script.specs.Lookup.{Asked, name_of, text_of}
use Rattle.link_names.specs.Names.{has_name}
use Rattle.link_script.specs.Filter.{Filter, name, every, EntryHas, EntriesHave, entries_in}
use Rattle.link_script.specs.Rank.{Fits, Place, filters_in, IsMatch, IsBest, exact_order, NotAfter, Precedes}
use Rattle.link_script.specs.RustForm.{is_bare_star, is_exact_name, is_rust_form, listed_names}
use Rattle.link_script.specs.Regular.{unnamed}
use Rattle.link_script.specs.VersionOf.{is_local_match}

and_parts : (a b : Bool) → (a && b) ≡ true → (a ≡ true) × (b ≡ true)
and_parts true b e = (refl, e)
and_parts false b e = absurd cc

or_parts : (a b : Bool) → (a || b) ≡ true → (a ≡ true) ⊎ (b ≡ true)
or_parts true b e = inl refl
or_parts false b e = inr e

or_left : (a b : Bool) → a ≡ true → (a || b) ≡ true
or_left true b p = refl
or_left false b p = absurd cc

or_right : (a b : Bool) → b ≡ true → (a || b) ≡ true
or_right true b p = refl
or_right false b p = p

exact_entry : (e : ParsedSymbolMatcher) → is_exact_name e ≡ true → (n : List ℕ) × (e ≡ Single (matchers.Exact n))
exact_entry (Single (matchers.Exact n)) x = (n, refl)
exact_entry (Single (matchers.EscapedExact n)) x = absurd cc
exact_entry (Single (matchers.StarGlob p)) x = absurd cc
exact_entry (Single (matchers.NonstarGlob p)) x = absurd cc
exact_entry (Single matchers.MatchesAll) x = absurd cc
exact_entry (Multiple ms) x = absurd cc
exact_entry (CxxMatchers ms) x = absurd cc

listed_head : (e : ParsedSymbolMatcher) (es : List ParsedSymbolMatcher) (n : List ℕ) → e ≡ Single (matchers.Exact n) → listed_names (e ∷ es) ≡ n ∷ listed_names es
listed_head e es n is = rw is refl

single_has : (n : List ℕ) (cxx : Bool) (f : Filter) → EntryHas (Single (matchers.Exact n)) cxx f → (cxx ≡ false) × (f ≡ name n)
single_has n false f h = (refl, h)
single_has n true f h = absurd h

-- what the global entries ask for is a listed name, of no language
global_names : (es : List ParsedSymbolMatcher) (cxx : Bool) (f : Filter) → list_all is_exact_name es ≡ true → EntriesHave es cxx f → (cxx ≡ false) × (n : List ℕ) × (f ≡ name n) × (has_name (listed_names es) n ≡ true)
global_names [] cxx f all h = absurd h
global_names (e ∷ es) cxx f all (inl h) =
    let a = and_parts (is_exact_name e) (list_all is_exact_name es) all in
    let x = exact_entry e a.0 in
    let s = single_has x.0 cxx f (subst (λ (d : ParsedSymbolMatcher). EntryHas d cxx f) x.1 h) in
    (s.0, x.0, s.1, ap (λ (ns : List (List ℕ)). has_name ns x.0) (listed_head e es x.0 x.1) ∙ or_left (bytes_eq x.0 x.0) (has_name (listed_names es) x.0) ((bytes_eq-Decides x.0 x.0).1 refl))
global_names (e ∷ es) cxx f all (inr h) =
    let a = and_parts (is_exact_name e) (list_all is_exact_name es) all in
    let x = exact_entry e a.0 in
    let k = global_names es cxx f a.1 h in
    (k.0, k.1, k.2, ap (λ (ns : List (List ℕ)). has_name ns k.1) (listed_head e es x.0 x.1) ∙ or_right (bytes_eq k.1 x.0) (has_name (listed_names es) k.1) k.3)

-- a listed name is asked for
name_listed : (es : List ParsedSymbolMatcher) (n : List ℕ) → list_all is_exact_name es ≡ true → has_name (listed_names es) n ≡ true → EntriesHave es false (name n)
name_listed [] n all h = absurd cc
name_listed (e ∷ es) n all h =
    let a = and_parts (is_exact_name e) (list_all is_exact_name es) all in
    let x = exact_entry e a.0 in
    let o = or_parts (bytes_eq n x.0) (has_name (listed_names es) n) (ap (λ (ns : List (List ℕ)). has_name ns n) (sym (listed_head e es x.0 x.1)) ∙ h) in
    elim o as (λ _. EntriesHave (e ∷ es) false (name n)) [
      | inl same ↦ inl (subst (λ (d : ParsedSymbolMatcher). EntryHas d false (name n)) (sym x.1) (ap name ((bytes_eq-Decides n x.0).0 same)))
      | inr there ↦ inr (name_listed es n a.1 there)
    ]

star_has : (e : ParsedSymbolMatcher) → is_bare_star e ≡ true → EntryHas e false every
star_has (Single matchers.MatchesAll) x = refl
star_has (Single (matchers.Exact n)) x = absurd cc
star_has (Single (matchers.EscapedExact n)) x = absurd cc
star_has (Single (matchers.StarGlob p)) x = absurd cc
star_has (Single (matchers.NonstarGlob p)) x = absurd cc
star_has (Multiple ms) x = absurd cc
star_has (CxxMatchers ms) x = absurd cc

-- a bare star is asked for
stars : (es : List ParsedSymbolMatcher) → list_any is_bare_star es ≡ true → EntriesHave es false every
stars [] h = absurd cc
stars (e ∷ es) h = elim (or_parts (is_bare_star e) (list_any is_bare_star es) h) as (λ _. EntriesHave (e ∷ es) false every) [ inl x ↦ inl (star_has e x) | inr k ↦ inr (stars es k) ]

abbrev has : RawVersionBody → ℕ → Side → Bool → Filter → Type 0
has body = filters_in (unnamed body ∷ [])

-- the first place of all, and the place of a bare star that is local
abbrev first_place : Place
first_place = record { version = 0; side = Global; cxx = false; class = Exact }

abbrev star_place : Place
star_place = record { version = 0; side = Local; cxx = false; class = Every }

local_match : (body : RawVersionBody) (a : Asked) → list_any is_bare_star body.locals ≡ true → IsMatch (has body) a star_place
local_match body a any = record { filter = every; class = refl; there = (unnamed body, refl, stars body.locals any); fits = tt }

listed_match : (body : RawVersionBody) (a : Asked) → list_all is_exact_name body.globals ≡ true → has_name (listed_names body.globals) a.bytes ≡ true → IsMatch (has body) a first_place
listed_match body a all listed = record { filter = name a.bytes; class = refl; there = (unnamed body, refl, name_listed body.globals a.bytes all listed); fits = refl }

only_version : (body : RawVersionBody) (n : ℕ) (raw : RawVersion) → slice_get (unnamed body ∷ []) n ≡ Some raw → unnamed body ≡ raw
only_version body zero raw e = same_Some (unnamed body) raw e
only_version body (suc n) raw e = absurd cc

listed_by : (body : RawVersionBody) (a : Asked) (cxx : Bool) (f : Filter) → list_all is_exact_name body.globals ≡ true → EntriesHave body.globals cxx f → Fits (name_of a cxx) (text_of a cxx) f → has_name (listed_names body.globals) a.bytes ≡ true
listed_by body a true f all h fits = absurd (let k : true ≡ false = (global_names body.globals true f all h).0 in cc)
listed_by body a false f all h fits =
    let k = global_names body.globals false f all h in
    let same : a.bytes ≡ k.1 = same_Some a.bytes k.1 (subst (λ (g : Filter). Fits (Some a.bytes) a.text g) k.2 fits) in
    ap (has_name (listed_names body.globals)) same ∙ k.3

-- a match in the global section is a listed name
global_listed : (body : RawVersionBody) (a : Asked) (p : Place) → list_all is_exact_name body.globals ≡ true → IsMatch (has body) a p → p.side ≡ Global → has_name (listed_names body.globals) a.bytes ≡ true
global_listed body a p all m is =
    let one = only_version body p.version m.there.0 m.there.1 in
    let h : EntriesHave body.globals p.cxx m.filter =
    subst (λ (raw : RawVersion). EntriesHave (entries_in raw.body Global) p.cxx m.filter) (sym one) (subst (λ (s : Side). EntriesHave (entries_in m.there.0.body s) p.cxx m.filter) is m.there.2) in
    listed_by body a p.cxx m.filter all h m.fits

local_late : (c : Bool) → exact_order Local c ≤ 0 → ⊥
local_late false h = omega arith
local_late true h = omega arith

-- a local match comes after a listed name's
not_first : (p : Place) → p.side ≡ Local → Precedes p first_place → ⊥
not_first p is (inl less) = omega arith
not_first p is (inr same) =
    let q : NotAfter Exact p first_place = subst (λ (c : Class). NotAfter c p first_place) same.0 same.1 in
    elim q [
      | inl less ↦ omega arith
      | inr e ↦ local_late p.cxx (subst (λ (s : Side). exact_order s p.cxx ≤ 0) is e.1)
    ]

hides_by : (body : RawVersionBody) (a : Asked) (listed : Bool) (r : Option (ℕ × Side)) → has_name (listed_names body.globals) a.bytes ≡ listed → list_any is_bare_star body.locals ≡ true → list_all is_exact_name body.globals ≡ true → IsBest (has body) a r → is_local_match r ≡ not listed
hides_by body a listed None is any all best = absurd (best star_place (local_match body a any))
hides_by body a true (Some (n, Global)) is any all best = refl
hides_by body a true (Some (n, Local)) is any all best = absurd (not_first best.0 best.2.1 (best.3 first_place (listed_match body a all is)))
hides_by body a false (Some (n, Local)) is any all best = refl
hides_by body a false (Some (n, Global)) is any all best = absurd (let k : has_name (listed_names body.globals) a.bytes ≡ true = global_listed body a best.0 all best.1 best.2.1 in cc)

pub hides_the_rest : (body : RawVersionBody) (a : Asked) (r : Option (ℕ × Side)) → is_rust_form body ≡ true → IsBest (filters_in (unnamed body ∷ [])) a r → is_local_match r ≡ not (has_name (listed_names body.globals) a.bytes)
hides_the_rest body a r form best =
    let k = and_parts (list_any is_bare_star body.locals) (list_all is_exact_name body.globals) form in
    hides_by body a _ r refl k.0 k.1 best
