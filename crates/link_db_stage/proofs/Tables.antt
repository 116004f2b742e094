-- What a database knows of names and symbols, and the table of names of its stage.
use Rattle.std.proofs.Common.{◌≡◌, ◌∙◌, ◌++◌, ℕ, zero, suc, false, List, [], ◌∷◌, map, refl, sym, ap, append-nil}
use Rattle.std.specs.Prelude.{slice_get}
use Rattle.std.specs.Option.{option_map_or}
use Rattle.link_flags.specs.declared.strength.SymbolStrength.TheVariants.{Undefined}
use Rattle.link_input.specs.Symbols.{Symbol, binding_strength, is_shared}
use Rattle.link_rules.specs.Names.{later_definitions}
use Rattle.link_rules.specs.Places.{Bytes, behind_head, first_of}
use Rattle.link_rules.specs.Rules.{PlatformRules, Rules}
use Rattle.link_rules.specs.Targets.{NameTable, is_open, name_table, target, target_in}
use Rattle.link_rules.specs.World.{Stage}
use Rattle.link_db_files.specs.GroupFiles.{symbols_in}
use Rattle.link_db_mapping.specs.Keys.{plain_key}
use Rattle.link_db_mapping.specs.Mapped.{later_in}
use Rattle.link_db.specs.Database.{Database, name_table_of}
use Rattle.link_db_stage.specs.AtStage.{IsAtStage}

-- what is at a place of a list that was mapped
mapped-at : {X Y Z : Type 0} (f : X → Y) (g : Y → Z) (z : Z) (xs : List X) (i : ℕ) → option_map_or g (slice_get (map f xs) i) z ≡ option_map_or (λ x. g (f x)) (slice_get xs i) z
mapped-at f g z [] i = refl
mapped-at f g z (x ∷ xs) zero = refl
mapped-at f g z (x ∷ xs) (suc i) = mapped-at f g z xs i

-- the later definitions of a symbol's name
later-at : {P : Type 0} (platform : PlatformRules) (demangle : Bytes → Bytes) (db : Database P) (w : Stage) → IsAtStage platform demangle db w
    → (s : ℕ) → later_in db.mapping s ≡ later_definitions w.symbols s
later-at platform demangle db w at s =
    ap (λ (added : List Bytes). option_map_or (λ name. behind_head s (db.mapping.lists (plain_key name))) (slice_get (map (λ (x : Symbol). x.name) (symbols_in db.mapping.files.groups) ++ added) s) []) at.added
    ∙ (ap (λ (names : List Bytes). option_map_or (λ name. behind_head s (db.mapping.lists (plain_key name))) (slice_get names s) []) (append-nil (map (λ (x : Symbol). x.name) (symbols_in db.mapping.files.groups)))
    ∙ (mapped-at (λ (x : Symbol). x.name) (λ name. behind_head s (db.mapping.lists (plain_key name))) [] (symbols_in db.mapping.files.groups) s
    ∙ (ap (λ (xs : List Symbol). option_map_or (λ x. behind_head s (db.mapping.lists (plain_key x.name))) (slice_get xs s) []) (sym at.symbols)
    ∙ ap (λ (f : Bytes → List ℕ). option_map_or (λ x. behind_head s (f x.name)) (slice_get w.symbols s) []) (λ i. λ name. at.lists.plain name i))))

-- all that a database knows of names and symbols is what is so at its stage
pub table-at : {P : Type 0} (platform : PlatformRules) (demangle : Bytes → Bytes) (db : Database P) (w : Stage) → IsAtStage platform demangle db w → name_table_of db ≡ name_table w
table-at platform demangle db w at = λ i. record {
  plain = λ name. at.names name i;
  versioned = λ name version. ap (λ (l : List ℕ). first_of l) (at.lists.versioned name version) i;
  later = λ s. later-at platform demangle db w at s i;
  is_shared = λ s. ap (λ (xs : List Symbol). option_map_or (λ x. is_shared x.origin) (slice_get xs s) false) (sym at.symbols) i;
  strength = λ s. ap (λ (xs : List Symbol). option_map_or (λ x. binding_strength x.origin) (slice_get xs s) Undefined) (sym at.symbols) i;
}

-- so what it answers for a reference is the reference's target
pub stands-for : {P : Type 0} (platform : PlatformRules) (demangle : Bytes → Bytes) (db : Database P) (w : Stage) → IsAtStage platform demangle db w
    → (u : Symbol) → target_in platform.weak_overrides_common (name_table_of db) (is_open u) u.name u.version ≡ target w u
stands-for platform demangle db w at u =
    ap (λ (t : NameTable). target_in platform.weak_overrides_common t (is_open u) u.name u.version) (table-at platform demangle db w at)
    ∙ ap (λ (r : Rules). target_in r.weak_overrides_common (name_table w) (is_open u) u.name u.version) (sym at.rules.same)
