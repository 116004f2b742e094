-- Groups without symbols of files.
use Rattle.std.specs.Prelude.{OnOk, OnErr}
use Rattle.std.proofs.Common.{Result, Ok, Err, ◌≡◌, ◌<◌, ◌∙◌, ℕ, List, All, refl, sym, ap, subst, length}
use Rattle.link_input_groups.specs.declared.group.Group.{Group}
use Rattle.link_db_files.specs.Adding.{CanFollow, synthetic_group}
use Rattle.link_db_files.specs.HeldFiles.{HeldFiles, names_in}
use Rattle.link_db_files.proofs.Growing.{names-more}
use Rattle.link_db_mapping.specs.Changes.{with_group}
use Rattle.link_db_mapping.specs.Mapped.{Mapped}
use Rattle.link_db.specs.Database.{Database, IsSound, symbol_names}

-- the group of symbols that the linker makes can follow
pub synthetic-follows : {P : Type 0} (held : HeldFiles P) → CanFollow held (synthetic_group held)
synthetic-follows held = record { ids = refl; none = ((refl, refl), tt) }

-- a database is sound with a group of files without symbols more
pub sound-with-group : {P : Type 0} (db : Database P) (g : Group P) (m : Mapped P) → IsSound db → CanFollow db.mapping.files g → m ≡ with_group g db.mapping → IsSound (record db { mapping = m })
sound-with-group {P} db g m sound can is =
    let same : names_in m.files ≡ symbol_names db = ap (λ (k : Mapped P). names_in k.files) is ∙ names-more db.mapping.files g can in
    record {
      some = sound.some;
      few = sound.few;
      some_files = sound.some_files;
      few_files = sound.few_files;
      within = subst (λ (l : List (List ℕ)). All (λ e. e < length l) db.table) (sym same) sound.within;
    }

-- and so it is where the group may not have come
pub sound-either : {P A E : Type 0} (db : Database P) (g : Group P) (m : Mapped P) (r : Result A E) → IsSound db → CanFollow db.mapping.files g → OnOk r (m ≡ with_group g db.mapping) → OnErr r (m ≡ db.mapping)
    → IsSound (record db { mapping = m })
sound-either db g m (Ok x) sound can came kept = sound-with-group db g m sound can came
sound-either {P} db g m (Err e) sound can came kept = subst (λ (k : Mapped P). IsSound (record db { mapping = k })) (sym kept) sound
