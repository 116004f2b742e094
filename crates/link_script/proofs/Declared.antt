-- The version of a symbol, by what is declared and by the rank.
use Rattle.std.proofs.Common.{◌≡◌, ℕ, zero, suc, ◌<◌, ◌≤◌, ◌==◌, Bool, true, false, cond, List, [], ◌∷◌, length, Option, Some, None, Result, Ok, Err, refl, sym, ap, subst, inl, inr, arith}
use Rattle.std.specs.Prelude.{slice_get}
use Rattle.std.proofs.lemmas.Bool.{cases_lt, ne_eqb}
use Rattle.std.proofs.lemmas.Option.{same_Some}
use Rattle.std.proofs.lemmas.Slice.Eq.{bytes_eq-Decides}
use Rattle.link_script_syntax.specs.declared.named.RawVersion.{RawVersion}
use Rattle.link_script.specs.declared.rules.Version.{Version}
use Rattle.link_script.specs.Filter.{AreVersions}
use Rattle.link_script.specs.Lookup.{Asked}
use Rattle.link_script.specs.Rules.{best_match}
use Rattle.link_script.specs.Rank.{filters_of, filters_in}
use Rattle.link_script_syntax.specs.Named.{raw_names}
use Rattle.link_script.specs.VersionOf.{Undeclared, version_names, IsVersionOf, is_named, last_named, declared_as, version_of}
use Rattle.link_script.proofs.Best.{is_best, best_of_text}

name_at : (versions : List Version) (name : List ℕ) (k : ℕ) → is_named (slice_get versions k) name ≡ true → slice_get (version_names versions) k ≡ Some name
name_at [] name k e = absurd cc
name_at (v ∷ versions) name zero e = ap (λ (n : List ℕ). Some n) ((bytes_eq-Decides v.name name).0 e)
name_at (v ∷ versions) name (suc k) e = name_at versions name k e

named_at : (versions : List Version) (name : List ℕ) (k : ℕ) → slice_get (version_names versions) k ≡ Some name → is_named (slice_get versions k) name ≡ true
named_at [] name k e = absurd cc
named_at (v ∷ versions) name zero e = (bytes_eq-Decides v.name name).1 (same_Some v.name name e)
named_at (v ∷ versions) name (suc k) e = named_at versions name k e

-- no version from k on, below n, has the name
abbrev NoneFrom : List Version → List ℕ → ℕ → ℕ → Type 0
NoneFrom versions name k n = (j : ℕ) → k ≤ j → j < n → slice_get (version_names versions) j ≡ Some name → ⊥

here_not : (versions : List Version) (name : List ℕ) (n j : ℕ) → is_named (slice_get versions n) name ≡ false → j ≡ n → slice_get (version_names versions) j ≡ Some name → ⊥
here_not versions name n j e same at = let k = named_at versions name n (subst (λ (i : ℕ). slice_get (version_names versions) i ≡ Some name) same at) in cc

none_more : (versions : List Version) (name : List ℕ) (k n : ℕ) → is_named (slice_get versions n) name ≡ false → NoneFrom versions name k n → NoneFrom versions name k (suc n)
none_more versions name k n e none j from below at =
    elim (cases_lt j n) [
      | inl less ↦ none j from less at
      | inr le ↦ here_not versions name n j e (omega arith) at
    ]

abbrev LastBelow : List Version → List ℕ → ℕ → Option ℕ → Type 0
LastBelow versions name n None = NoneFrom versions name 0 n
LastBelow versions name n (Some k) = (k < n) × (slice_get (version_names versions) k ≡ Some name) × NoneFrom versions name (suc k) n

below_on : (versions : List Version) (name : List ℕ) (n : ℕ) (o : Option ℕ) → is_named (slice_get versions n) name ≡ false → LastBelow versions name n o → LastBelow versions name (suc n) o
below_on versions name n None e last = none_more versions name 0 n e last
below_on versions name n (Some k) e last = let lt = last.0 in (omega arith, last.1, none_more versions name (suc k) n e last.2)

last_by : (versions : List Version) (name : List ℕ) (n : ℕ) (b : Bool) → is_named (slice_get versions n) name ≡ b → LastBelow versions name n (last_named versions name n) → LastBelow versions name (suc n) (cond b (Some n) (last_named versions name n))
last_by versions name n true e last = (omega arith, name_at versions name n e, λ j from below at. omega arith)
last_by versions name n false e last = below_on versions name n (last_named versions name n) e last

last_below : (versions : List Version) (name : List ℕ) (n : ℕ) → LastBelow versions name n (last_named versions name n)
last_below versions name zero = λ j from below at. omega arith
last_below versions name (suc n) = last_by versions name n _ refl (last_below versions name n)

names_within : (versions : List Version) (name : List ℕ) (j : ℕ) → slice_get (version_names versions) j ≡ Some name → j < length versions
names_within [] name j at = absurd cc
names_within (v ∷ versions) name zero at = omega arith
names_within (v ∷ versions) name (suc j) at = let k = names_within versions name j at in omega arith

declared_by : (versions : List Version) (a : Asked) (c : ℕ) (version : List ℕ) (o : Option ℕ) → LastBelow versions (c ∷ version) (length versions) o
    → IsVersionOf (filters_of versions) (version_names versions) a (Some (c ∷ version)) (declared_as (record { name = a.bytes; version = c ∷ version }) o)
declared_by versions a c version None last = (λ j at. last j (omega arith) (names_within versions (c ∷ version) j at) at, refl)
declared_by versions a c version (Some n) last = (n, (last.1, λ j after at. last.2 j (omega arith) (names_within versions (c ∷ version) j at) at), refl)

not_empty : {A : Type 0} (c : ℕ) (version : List ℕ) (x y : A) → cond (length (c ∷ version) == 0) x y ≡ y
not_empty c version x y = rw (ne_eqb (length (c ∷ version)) 0 (λ e. omega arith)) refl

pub version_is : (versions : List Version) (a : Asked) (explicit : Option (List ℕ)) → IsVersionOf (filters_of versions) (version_names versions) a explicit (version_of versions a explicit)
version_is versions a None = (best_match versions a, is_best versions a, refl)
version_is versions a (Some []) = refl
version_is versions a (Some (c ∷ version)) =
    subst (λ (r : Result (Option ℕ) Undeclared). IsVersionOf (filters_of versions) (version_names versions) a (Some (c ∷ version)) r)
    (sym (not_empty c version (Ok (Some 1)) (declared_as (record { name = a.bytes; version = c ∷ version }) (last_named versions (c ∷ version) (length versions)))))
    (declared_by versions a c version _ (last_below versions (c ∷ version) (length versions)))

-- ---- by the text

same_names : (raws : List RawVersion) (versions : List Version) → AreVersions raws versions → version_names versions ≡ raw_names raws
same_names [] [] are = refl
same_names [] (v ∷ versions) are = absurd are
same_names (r ∷ raws) [] are = absurd are
same_names (r ∷ raws) (v ∷ versions) are = rw (are.0.name, same_names raws versions are.1) refl

by_text : (raws : List RawVersion) (versions : List Version) (a : Asked) (explicit : Option (List ℕ)) (r : Result (Option ℕ) Undeclared) → AreVersions raws versions → IsVersionOf (filters_of versions) (raw_names raws) a explicit r → IsVersionOf (filters_in raws) (raw_names raws) a explicit r
by_text raws versions a None (Ok v) are h = (h.0, best_of_text raws versions a h.0 are h.1, h.2)
by_text raws versions a None (Err e) are h = h
by_text raws versions a (Some []) (Ok v) are h = h
by_text raws versions a (Some []) (Err e) are h = h
by_text raws versions a (Some (c ∷ version)) (Ok v) are h = h
by_text raws versions a (Some (c ∷ version)) (Err e) are h = h

pub version_of_text : (raws : List RawVersion) (versions : List Version) (a : Asked) (explicit : Option (List ℕ)) → AreVersions raws versions → IsVersionOf (filters_in raws) (raw_names raws) a explicit (version_of versions a explicit)
version_of_text raws versions a explicit are =
    by_text raws versions a explicit (version_of versions a explicit) are
    (subst (λ (names : List (List ℕ)). IsVersionOf (filters_of versions) names a explicit (version_of versions a explicit)) (same_names raws versions are) (version_is versions a explicit))
