-- Names with their versions as keys of a map.
use Rattle.std.proofs.Common.{◌≡◌, ℕ, List, ◌&&◌, ◌∙◌, Bool, true, false, Ordering, Option, Some, None, Bor, if◌then◌else◌, refl, sym, ap, subst, is_some, not}
use Rattle.std.specs.Option.{option_cmp, option_map, option_or}
use Rattle.std.specs.declared.cmp.Ordering.TheVariants.{Less, Equal, Greater}
use Rattle.std.specs.Ordering.{is_eq, nat_cmp, ordering_then}
use Rattle.std.specs.Cmp.Lexicographic.{slice_cmp}
use Rattle.std.specs.Map.{lookup, KeepsOthers, IsKeyTest, AreApart}
use Rattle.std.specs.Str.{bytes_eq}
use Rattle.link_rules.specs.Places.{same_version}
use Rattle.std.proofs.lemmas.Slice.Eq.{bytes_eq-Decides}
use Rattle.std.proofs.lemmas.Map.Text.{is_eq-slice_cmp}
use Rattle.link_resolve_undefined.specs.declared.asked_name.AskedName.{AskedName}
use Rattle.link_resolve_undefined.specs.Keys.{same_name, version_of}
use Rattle.link_resolve_undefined.specs.NameIds.{is_asked}

is_eq-then : (r s : Ordering) → is_eq (ordering_then r s) ≡ is_eq r && is_eq s
is_eq-then Less s = refl
is_eq-then Equal s = refl
is_eq-then Greater s = refl

is_eq-version : (v w : Option (Bor (List ℕ))) → is_eq (option_cmp (λ x y. slice_cmp nat_cmp x.now y.now) v w) ≡ same_version (option_map (λ x. x.now) v) (option_map (λ x. x.now) w)
is_eq-version None None = refl
is_eq-version None (Some w) = refl
is_eq-version (Some v) None = refl
is_eq-version (Some v) (Some w) = is_eq-slice_cmp v.now w.now

-- a key is found by its name and version
pub is_eq-key : (k q : AskedName) → is_eq (ordering_then (slice_cmp nat_cmp k.name.now q.name.now) (option_cmp (λ x y. slice_cmp nat_cmp x.now y.now) k.version q.version)) ≡ is_asked k.name.now (version_of k) q
is_eq-key k q =
    is_eq-then (slice_cmp nat_cmp k.name.now q.name.now) (option_cmp (λ x y. slice_cmp nat_cmp x.now y.now) k.version q.version)
    ∙ (λ i. is_eq-slice_cmp k.name.now q.name.now i && is_eq-version k.version q.version i)

both : (a b : Bool) → a && b ≡ true → (a ≡ true) × (b ≡ true)
both true b h = (refl, h)
both false b h = absurd (cc)

same : (a b : Bool) → (a ≡ true → b ≡ true) → (b ≡ true → a ≡ true) → a ≡ b
same true true f g = refl
same true false f g = sym (f refl)
same false true f g = g refl
same false false f g = refl

version-is : (v w : Option (List ℕ)) → same_version v w ≡ true → v ≡ w
version-is None None h = refl
version-is None (Some w) h = absurd (cc)
version-is (Some v) None h = absurd (cc)
version-is (Some v) (Some w) h = ap Some ((bytes_eq-Decides v w).0 h)

-- the same name and version are found to be the same, and no others
pub same_name-is : (n o : List ℕ) (v w : Option (List ℕ)) → same_name n v o w ≡ true → (n ≡ o) × (v ≡ w)
same_name-is n o v w h =
    let parts = both (bytes_eq n o) (same_version v w) h in ((bytes_eq-Decides n o).0 parts.0, version-is v w parts.1)

version-self : (v : Option (List ℕ)) → same_version v v ≡ true
version-self None = refl
version-self (Some v) = (bytes_eq-Decides v v).1 refl

pub same_name-self : (n : List ℕ) (v : Option (List ℕ)) → same_name n v n v ≡ true
same_name-self n v = λ i. (bytes_eq-Decides n n).1 refl i && version-self v i

turned : (n o : List ℕ) (v w : Option (List ℕ)) → same_name n v o w ≡ true → same_name o w n v ≡ true
turned n o v w h =
    let is = same_name-is n o v w h in
    subst (λ m. same_name m w n v ≡ true) is.0 (subst (λ u. same_name n u n v ≡ true) is.1 (same_name-self n v))

-- which of two comes first doesn't matter
pub same_name-symm : (n o : List ℕ) (v w : Option (List ℕ)) → same_name n v o w ≡ same_name o w n v
same_name-symm n o v w = same (same_name n v o w) (same_name o w n v) (turned n o v w) (turned o n w v)

-- a name that is the same as another is the same as what that is the same as
pub same_name-along : (n o m : List ℕ) (v w u : Option (List ℕ)) → same_name n v o w ≡ true → same_name n v m u ≡ same_name o w m u
same_name-along n o m v w u h =
    let is = same_name-is n o v w h in (λ i. same_name (is.0 i) (is.1 i) m u)

key-test : (n : List ℕ) (v : Option (List ℕ)) → IsKeyTest (λ x y. is_asked x.name.now (version_of x) y) (is_asked n v)
key-test n v x y h = same_name-along n x.name.now y.name.now v (version_of x) (version_of y) h

apart : (n o : List ℕ) (v w : Option (List ℕ)) → same_name n v o w ≡ false → AreApart (is_asked n v) (is_asked o w)
apart n o v w h k here =
    same_name-symm o k.name.now w (version_of k) ∙ (sym (same_name-along n k.name.now o v (version_of k) w here) ∙ h)

noted-by : (old new : List (AskedName × ℕ)) (n o : List ℕ) (v u : Option (List ℕ)) (w : Option ℕ) (b : Bool) → same_name n v o u ≡ b
    → lookup (is_asked n v) new ≡ w → KeepsOthers (λ x y. is_asked x.name.now (version_of x) y) (is_asked n v) old new
    → lookup (is_asked o u) new ≡ (if b then w else lookup (is_asked o u) old)
unfolding KeepsOthers
noted-by old new n o v u w true e here keeps =
    let is = same_name-is n o v u e in subst (λ m. lookup (is_asked m u) new ≡ w) is.0 (subst (λ t. lookup (is_asked n t) new ≡ w) is.1 here)
noted-by old new n o v u w false e here keeps = keeps (is_asked o u) (key-test o u) (apart n o v u e)

-- what a note leaves at any name and version
pub noted : (old new : List (AskedName × ℕ)) (n : List ℕ) (v : Option (List ℕ)) (w : Option ℕ)
    → lookup (is_asked n v) new ≡ w → KeepsOthers (λ x y. is_asked x.name.now (version_of x) y) (is_asked n v) old new
    → (o : List ℕ) (u : Option (List ℕ)) → lookup (is_asked o u) new ≡ (if same_name n v o u then w else lookup (is_asked o u) old)
noted old new n v w here keeps o u = noted-by old new n o v u w (same_name n v o u) refl here keeps

abbrev KeyOrder : AskedName → AskedName → Ordering
KeyOrder k q = ordering_then (slice_cmp nat_cmp k.name.now q.name.now) (option_cmp (λ x y. slice_cmp nat_cmp x.now y.now) k.version q.version)

-- a key is looked up by its name and version
pub looked_up : (entries : List (AskedName × ℕ)) (k : AskedName) → lookup (λ q. is_eq (KeyOrder k q)) entries ≡ lookup (is_asked k.name.now (version_of k)) entries
looked_up entries k = λ i. lookup (λ q. is_eq-key k q i) entries

-- what an insertion leaves at any name and version
pub inserted : (old new : List (AskedName × ℕ)) (k : AskedName) (w : Option ℕ)
    → lookup (λ q. is_eq (KeyOrder k q)) new ≡ w → KeepsOthers (λ x y. is_eq (KeyOrder x y)) (λ q. is_eq (KeyOrder k q)) old new
    → (o : List ℕ) (u : Option (List ℕ)) → lookup (is_asked o u) new ≡ (if same_name k.name.now (version_of k) o u then w else lookup (is_asked o u) old)
inserted old new k w here keeps =
    let eqs : (λ (x y : AskedName). is_eq (KeyOrder x y)) ≡ (λ (x y : AskedName). is_asked x.name.now (version_of x) y) = (λ i. λ x y. is_eq-key x y i) in
    let same_eq : KeepsOthers (λ x y. is_asked x.name.now (version_of x) y) (λ q. is_eq (KeyOrder k q)) old new = subst (λ (e : AskedName → AskedName → Bool). KeepsOthers e (λ q. is_eq (KeyOrder k q)) old new) eqs keeps in
    let tests : (λ (q : AskedName). is_eq (KeyOrder k q)) ≡ is_asked k.name.now (version_of k) = (λ i. λ q. is_eq-key k q i) in
    noted old new k.name.now (version_of k) w (sym (looked_up new k) ∙ here)
    (subst (λ (t : AskedName → Bool). KeepsOthers (λ x y. is_asked x.name.now (version_of x) y) t old new) tests same_eq)

first_noted : (n o : List ℕ) (v u : Option (List ℕ)) (id : ℕ) (found : List ℕ → Option (List ℕ) → Option ℕ) (b : Bool) → same_name n v o u ≡ b → found n v ≡ None
    → (if b then Some id else found o u) ≡ option_or (found o u) (if b then Some id else None)
first_noted n o v u id found true e none =
    let is = same_name-is n o v u e in
    let none_here : found o u ≡ None = subst (λ m. found m u ≡ None) is.0 (subst (λ t. found n t ≡ None) is.1 none) in
    rw none_here refl
first_noted n o v u id found false e none = or_none (found o u)
  where
    or_none : (f : Option ℕ) → f ≡ option_or f None
    or_none None = refl
    or_none (Some t) = refl

first_kept : (n o : List ℕ) (v u : Option (List ℕ)) (id : ℕ) (found : List ℕ → Option (List ℕ) → Option ℕ) (b : Bool) → same_name n v o u ≡ b → is_some (found n v) ≡ true
    → found o u ≡ option_or (found o u) (if b then Some id else None)
first_kept n o v u id found true e some =
    let is = same_name-is n o v u e in
    or_some (found o u) (subst (λ m. is_some (found m u) ≡ true) is.0 (subst (λ t. is_some (found n t) ≡ true) is.1 some))
  where
    or_some : (f : Option ℕ) → is_some f ≡ true → f ≡ option_or f (Some id)
    or_some None h = absurd (cc)
    or_some (Some t) h = refl
first_kept n o v u id found false e some = or_none (found o u)
  where
    or_none : (f : Option ℕ) → f ≡ option_or f None
    or_none None = refl
    or_none (Some t) = refl

-- the first that is noted
pub noted_first : (n : List ℕ) (v : Option (List ℕ)) (id : ℕ) (old new : List ℕ → Option (List ℕ) → Option ℕ) → old n v ≡ None
    → ((o : List ℕ) (u : Option (List ℕ)) → new o u ≡ (if same_name n v o u then Some id else old o u))
    → (o : List ℕ) (u : Option (List ℕ)) → new o u ≡ option_or (old o u) (if same_name n v o u then Some id else None)
noted_first n v id old new none step o u = step o u ∙ first_noted n o v u id old (same_name n v o u) refl none

-- what was noted first stays
pub kept_first : (n : List ℕ) (v : Option (List ℕ)) (id : ℕ) (old : List ℕ → Option (List ℕ) → Option ℕ) → is_some (old n v) ≡ true
    → (o : List ℕ) (u : Option (List ℕ)) → old o u ≡ option_or (old o u) (if same_name n v o u then Some id else None)
kept_first n v id old some o u = first_kept n o v u id old (same_name n v o u) refl some

-- there is nothing where it is told that there is none
pub none_where : (f : Option ℕ) (b : Bool) → is_some f ≡ not b → b ≡ true → f ≡ None
none_where None b told is = refl
none_where (Some t) true told is = absurd (cc)
none_where (Some t) false told is = absurd (cc)
