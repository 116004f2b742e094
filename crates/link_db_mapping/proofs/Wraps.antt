-- Mappings where names are overridden.
use Rattle.std.proofs.Common.{◌≡◌, ◌∙◌, ◌++◌, ℕ, Bool, true, false, cond, List, length, Option, Some, None, refl, sym, ap, arith, if◌then◌else◌, length-append}
use Rattle.std.specs.Prelude.{codes}
use Rattle.std.specs.Option.{is_some, option_or}
use Rattle.std.specs.Str.{bytes_eq}
use Rattle.std.proofs.lemmas.Slice.Eq.{bytes_eq-Decides}
use Rattle.link_rules.specs.Names.{Mapping, mapping_with, wrapped}
use Rattle.link_rules.specs.Places.{first_of}
use Rattle.link_db_mapping.specs.Changes.{with_override}
use Rattle.link_db_mapping.specs.Keys.{plain_key}
use Rattle.link_db_mapping.specs.Mapped.{Mapped, mapping_of}

-- two mappings are one where they map each name alike
same_mapping : (f g : Mapping) → ((name : List ℕ) → f name ≡ g name) → f ≡ g
same_mapping f g same = λ i. λ name. same name i

-- a name that is overridden is mapped so
pub override_maps : {P : Type 0} (m : Mapped P) (name : List ℕ) (id : ℕ) → mapping_of (with_override name id m) ≡ mapping_with name (Some id) (mapping_of m)
override_maps m name id = same_mapping (mapping_of (with_override name id m)) (mapping_with name (Some id) (mapping_of m)) (λ n. by n (bytes_eq n name))
  where
    by : (n : List ℕ) (b : Bool) → option_or (cond b (Some id) (m.overridden n)) (first_of (m.lists (plain_key n))) ≡ cond b (Some id) (option_or (m.overridden n) (first_of (m.lists (plain_key n))))
    by n true = refl
    by n false = refl

-- what is mapped stays mapped
pub still_mapped : {P : Type 0} (m : Mapped P) (name : List ℕ) (id : ℕ) (asked : List ℕ) → is_some (mapping_of m asked) ≡ true → is_some (mapping_of (with_override name id m) asked) ≡ true
still_mapped m name id asked mapped = ap (λ (f : Mapping). is_some (f asked)) (override_maps m name id) ∙ by (bytes_eq asked name)
  where
    by : (b : Bool) → is_some (cond b (Some id) (mapping_of m asked)) ≡ true
    by true = refl
    by false = mapped

-- two names are mapped anew, in either order
pub maps_turned : (f : Mapping) (a b : List ℕ) (i j : ℕ) → (b ≡ a → ⊥) → mapping_with b (Some j) (mapping_with a (Some i) f) ≡ mapping_with a (Some i) (mapping_with b (Some j) f)
maps_turned f a b i j apart = same_mapping (mapping_with b (Some j) (mapping_with a (Some i) f)) (mapping_with a (Some i) (mapping_with b (Some j) f)) (λ n. by n (bytes_eq n b) refl (bytes_eq n a) refl)
  where
    by : (n : List ℕ) (p : Bool) → bytes_eq n b ≡ p → (q : Bool) → bytes_eq n a ≡ q → cond p (Some j) (cond q (Some i) (f n)) ≡ cond q (Some i) (cond p (Some j) (f n))
    by n true e true g = absurd (apart (sym ((bytes_eq-Decides n b).0 e) ∙ (bytes_eq-Decides n a).0 g))
    by n true e false g = refl
    by n false e true g = refl
    by n false e false g = refl

-- a name that is mapped to a symbol already
maps_again : (f : Mapping) (name : List ℕ) (id : ℕ) → f name ≡ Some id → f ≡ mapping_with name (Some id) f
maps_again f name id is = same_mapping f (mapping_with name (Some id) f) (λ n. by n (bytes_eq n name) refl)
  where
    by : (n : List ℕ) (b : Bool) → bytes_eq n name ≡ b → f n ≡ cond b (Some id) (f n)
    by n true e = ap f ((bytes_eq-Decides n name).0 e) ∙ is
    by n false e = refl

-- another name stays
other_stays : (f : Mapping) (name : List ℕ) (o : Option ℕ) (other : List ℕ) → (name ≡ other → ⊥) → mapping_with name o f other ≡ f other
other_stays f name None other apart = refl
other_stays f name (Some id) other apart = by (bytes_eq other name) refl
  where
    by : (b : Bool) → bytes_eq other name ≡ b → cond b (Some id) (f other) ≡ f other
    by true e = absurd (apart (sym ((bytes_eq-Decides other name).0 e)))
    by false e = refl

-- a real name that is mapped already need not be mapped anew
pub original_maps : (f : Mapping) (name real : List ℕ) (wrapper original : Option ℕ) → (name ≡ real → ⊥) → original ≡ (if is_some (f real) then None else f name)
    → mapping_with real original (mapping_with name wrapper f) ≡ mapping_with real (option_or (f real) (f name)) (mapping_with name wrapper f)
original_maps f name real wrapper original apart is = by (f real) refl (is)
  where
    by : (o : Option ℕ) → f real ≡ o → original ≡ (if is_some o then None else f name) → mapping_with real original (mapping_with name wrapper f) ≡ mapping_with real (option_or o (f name)) (mapping_with name wrapper f)
    by None e g = ap (λ (p : Option ℕ). mapping_with real p (mapping_with name wrapper f)) g
    by (Some r) e g = ap (λ (p : Option ℕ). mapping_with real p (mapping_with name wrapper f)) g ∙ maps_again (mapping_with name wrapper f) real r (other_stays f name wrapper real apart ∙ e)

-- a name is not the real name of another
pub real_apart : (name real : List ℕ) → real ≡ codes "__real_" ++ name → name ≡ real → ⊥
real_apart name real is same =
    let count : length name ≡ length (codes "__real_" ++ name) = ap (λ (l : List ℕ). length l) (same ∙ is) in
    omega (arith, count, length-append (codes "__real_") name)

-- what has an original is mapped
pub original_mapped : (f : Mapping) (name real : List ℕ) (original : Option ℕ) → original ≡ (if is_some (f real) then None else f name) → is_some original ≡ true → is_some (f name) ≡ true
original_mapped f name real original is there = by (is_some (f real)) is
  where
    by : (b : Bool) → original ≡ cond b None (f name) → is_some (f name) ≡ true
    by true e = let no : is_some original ≡ false = ap (λ (o : Option ℕ). is_some o) e in let wrong : false ≡ true = sym no ∙ there in absurd cc
    by false e = ap (λ (o : Option ℕ). is_some o) (sym e) ∙ there

-- ---- what was told

-- two overrides, of a name and of its real name
pub both_map : {P : Type 0} (m new : Mapped P) (name real : List ℕ) (w o : ℕ) (wrapper original : Option ℕ) → (name ≡ real → ⊥) → wrapper ≡ Some w → original ≡ Some o → new ≡ with_override name w (with_override real o m)
    → mapping_of new ≡ mapping_with real original (mapping_with name wrapper (mapping_of m))
both_map {P} m new name real w o wrapper original apart wraps has told =
    let f = mapping_of m in
    ap (λ (x : Mapped P). mapping_of x) told ∙ override_maps (with_override real o m) name w ∙ ap (mapping_with name (Some w)) (override_maps m real o)
    ∙ maps_turned f real name o w apart
    ∙ ap (λ (p : Option ℕ). mapping_with real (Some o) (mapping_with name p f)) (sym wraps)
    ∙ ap (λ (p : Option ℕ). mapping_with real p (mapping_with name wrapper f)) (sym has)

-- that of the name alone
pub name_maps : {P : Type 0} (m new : Mapped P) (name real : List ℕ) (w : ℕ) (wrapper original : Option ℕ) → wrapper ≡ Some w → original ≡ None → new ≡ with_override name w m → mapping_of new ≡ mapping_with real original (mapping_with name wrapper (mapping_of m))
name_maps {P} m new name real w wrapper original wraps has told =
    let f = mapping_of m in
    ap (λ (x : Mapped P). mapping_of x) told ∙ override_maps m name w
    ∙ ap (λ (p : Option ℕ). mapping_with real None (mapping_with name p f)) (sym wraps)
    ∙ ap (λ (p : Option ℕ). mapping_with real p (mapping_with name wrapper f)) (sym has)

-- that of the real name alone
pub real_maps : {P : Type 0} (m new : Mapped P) (name real : List ℕ) (o : ℕ) (wrapper original : Option ℕ) → wrapper ≡ None → original ≡ Some o → new ≡ with_override real o m → mapping_of new ≡ mapping_with real original (mapping_with name wrapper (mapping_of m))
real_maps {P} m new name real o wrapper original wraps has told =
    let f = mapping_of m in
    ap (λ (x : Mapped P). mapping_of x) told ∙ override_maps m real o
    ∙ ap (λ (p : Option ℕ). mapping_with real (Some o) (mapping_with name p f)) (sym wraps)
    ∙ ap (λ (p : Option ℕ). mapping_with real p (mapping_with name wrapper f)) (sym has)

-- a name was wrapped
pub wrap_maps : (f : Mapping) (base name real wrap : List ℕ) (wrapper original : Option ℕ) → name ≡ base → real ≡ codes "__real_" ++ base → wrap ≡ codes "__wrap_" ++ base → wrapper ≡ f wrap → original ≡ (if is_some (f real) then None else f name)
    → mapping_with real original (mapping_with name wrapper f) ≡ wrapped f base
wrap_maps f base name real wrap wrapper original is_name is_real is_wrap wraps has =
    let apart = real_apart name real (is_real ∙ ap (λ (l : List ℕ). codes "__real_" ++ l) (sym is_name)) in
    original_maps f name real wrapper original apart has
    ∙ ap (λ (p : Option ℕ). mapping_with real (option_or (f real) (f name)) (mapping_with name p f)) (wraps ∙ ap f is_wrap)
    ∙ ap (λ (n : List ℕ). mapping_with real (option_or (f real) (f n)) (mapping_with n (f (codes "__wrap_" ++ base)) f)) is_name
    ∙ ap (λ (r : List ℕ). mapping_with r (option_or (f r) (f base)) (mapping_with base (f (codes "__wrap_" ++ base)) f)) is_real
