-- Nothing comes later than a symbol without a mark.
use Rattle.std.proofs.Common.{◌≡◌, ◌∙◌, ◌<◌, ℕ, zero, suc, Bool, true, false, List, [], ◌∷◌, length, Option, Some, None, refl, sym, subst, arith, inl, inr}
use Rattle.std.specs.Prelude.{slice_get}
use Rattle.std.specs.List.{slice_index_or}
use Rattle.std.specs.Option.{option_map_or}
use Rattle.std.proofs.lemmas.Bool.Decides.{eqb_tells}
use Rattle.std.proofs.lemmas.Option.{slice_get_within}
use Rattle.link_db_buckets.specs.Heads.{IsMarked}
use Rattle.link_db_buckets.specs.Keys.{Key}
use Rattle.link_db_files.specs.HeldFiles.{names_in, version_of}
use Rattle.link_rules.specs.Places.{behind_head}
use Rattle.link_db_mapping.specs.Mapped.{AreHeadsMarked, Mapped, later_with}

-- a mark is read
marked-is : (marks : List Bool) (id : ℕ) → slice_get marks id ≡ Some true → slice_index_or marks id false ≡ true
marked-is [] id is = absurd cc
marked-is (m ∷ marks) zero is = let same : m ≡ true = cc in same
marked-is (m ∷ marks) (suc id) is = marked-is marks id is

-- nothing comes behind one of some ids that has no mark, where the first of several has one
pub behind-none : (marks : List Bool) (id : ℕ) (ids : List ℕ) → IsMarked marks ids → id < length marks → slice_index_or marks id false ≡ false → behind_head id ids ≡ []
behind-none marks id [] is within fails = refl
behind-none marks id (x ∷ []) is within fails = elim (eqb_tells x id) [
  | inl told ↦ rw told.0 refl
  | inr told ↦ rw told.0 refl
]
behind-none marks id (x ∷ y ∷ ids) is within fails = elim (eqb_tells x id) [
  | inl told ↦
      let at : slice_get marks id ≡ Some true = subst (λ n. slice_get marks n ≡ Some true) told.1 (is (subst (λ n. n < length marks) (sym told.1) within)) in
      let wrong : false ≡ true = sym fails ∙ marked-is marks id at in
      absurd cc
  | inr told ↦ rw told.0 refl
]

-- the definitions of its name, with this version or without one
later-none : {P : Type 0} (m : Mapped P) (marks : List Bool) (version : Option (List ℕ)) (id : ℕ)
    → ((name : List ℕ) → IsMarked marks (m.lists (record { name = name; version = version }))) → length marks ≡ length (names_in m.files) → slice_index_or marks id false ≡ false
    → later_with m version id ≡ []
later-none m marks version id all many fails = by (slice_get (names_in m.files) id) refl
  where
    by : (o : Option (List ℕ)) → slice_get (names_in m.files) id ≡ o → option_map_or (λ name. behind_head id (m.lists (record { name = name; version = version }))) o [] ≡ []
    by None at = refl
    by (Some name) at = behind-none marks id (m.lists (record { name = name; version = version })) (all name) (omega (arith, many, slice_get_within (names_in m.files) id name at)) fails

-- by its name, and by its name and version
pub heads-marked : {P : Type 0} (m : Mapped P) (marks : List Bool) → ((key : Key) → IsMarked marks (m.lists key)) → length marks ≡ length (names_in m.files) → AreHeadsMarked m marks
heads-marked m marks all many = record {
  plain = λ id fails. later-none m marks None id (λ name. all (record { name = name; version = None })) many fails;
  versioned = λ id fails. by id fails (version_of m.files id);
}
  where
    by : (id : ℕ) → slice_index_or marks id false ≡ false → (o : Option (List ℕ)) → option_map_or (λ version. later_with m (Some version) id) o [] ≡ []
    by id fails None = refl
    by id fails (Some version) = later-none m marks (Some version) id (λ name. all (record { name = name; version = Some version })) many fails
