-- Which section groups are kept (ELF gABI, "Section Groups", `GRP_COMDAT`).
use Rattle.std.specs.Prelude.{ℕ, ◌==◌, ◌&&◌, ◌||◌, List, [], ◌∷◌, map, filter, Bool, false, not, Option, Some, None, if◌then◌else◌, nat_lt, slice_get}
use Rattle.std.specs.Option.{option_map_or}
use Rattle.std.specs.List.{enumerate_from, flat_map}
use Rattle.std.specs.Str.{bytes_eq}
use Rattle.link_closure.specs.Closure.{is_marked}
use Rattle.link_input.specs.declared.object.SectionGroup.{SectionGroup}
use Rattle.link_input.specs.ObjectFile.{ObjectFile}
use Rattle.link_rules.specs.Places.{Bytes, contains}
use Rattle.link_rules.specs.World.{Stage}

-- the place of a group's object, and of the group among those of the object
abbrev pub GroupPlace : Type 0
GroupPlace = ℕ × ℕ

-- in the order of objects, and in an object of its groups
abbrev pub is_before : GroupPlace → GroupPlace → Bool
is_before p q = nat_lt p.0 q.0 || (p.0 == q.0 && nat_lt p.1 q.1)

-- the same group
abbrev pub is_same_place : GroupPlace → GroupPlace → Bool
is_same_place p q = p.0 == q.0 && p.1 == q.1

-- the one that comes before the other, if there is another
abbrev pub lesser : GroupPlace → Option GroupPlace → GroupPlace
lesser p None = p
lesser p (Some q) = if is_before q p then q else p

-- the first of some groups
abbrev pub least_place : List GroupPlace → Option GroupPlace
least_place [] = None
least_place (p ∷ ps) = Some (lesser p (least_place ps))

-- a COMDAT group: where it stands, and its signature
pub record Comdat : Type 0 where
  pub place : GroupPlace
  pub signature : Bytes

-- of the COMDAT groups of one signature the first is kept: the gABI wants one of them and leaves open which, GNU ld and lld keep the first too
abbrev pub kept_place : List Comdat → Bytes → Option GroupPlace
kept_place comdats signature = least_place (map (λ c. c.place) (filter (λ c. bytes_eq c.signature signature) comdats))

-- the signature: the name, without a version, of the symbol that the group names
abbrev pub signature_of : ObjectFile → SectionGroup → Bytes
signature_of o g = option_map_or (λ e. e.name) (slice_get o.object.symbols g.signature_symbol) []

-- a group with its place and its signature
pub record PlacedGroup : Type 0 where
  pub place : GroupPlace
  pub signature : Bytes
  pub group : SectionGroup

-- the group of an object with its place
abbrev pub placed_group : ℕ → ObjectFile → ℕ × SectionGroup → PlacedGroup
placed_group f o g = record { place = (f, g.0); signature = signature_of o g.1; group = g.1 }

-- the groups of an object
abbrev pub groups_of : ℕ × ObjectFile → List PlacedGroup
groups_of o = map (placed_group o.0 o.1) (enumerate_from 0 o.1.object.groups)

-- the loaded objects that are not shared, each with its place
abbrev pub loaded_regular : Stage → List Bool → List (ℕ × ObjectFile)
loaded_regular w marks = filter (λ o. is_marked marks o.0 && not o.1.object.is_dynamic) (enumerate_from 0 w.objects)

-- the groups of the loaded regular objects, in order
abbrev pub loaded_groups : Stage → List Bool → List PlacedGroup
loaded_groups w marks = flat_map groups_of (loaded_regular w marks)

-- the COMDAT groups among groups
abbrev pub comdats_among : List PlacedGroup → List Comdat
comdats_among groups = map (λ g. record { place = g.place; signature = g.signature }) (filter (λ g. g.group.is_comdat) groups)

-- a group that is no COMDAT group, or the first COMDAT group of its signature
abbrev pub is_kept_among : List Comdat → PlacedGroup → Bool
is_kept_among comdats g =
    not g.group.is_comdat || option_map_or (is_same_place g.place) (kept_place comdats g.signature) false

-- the groups of the loaded regular objects that are kept
abbrev pub kept_groups : Stage → List Bool → List PlacedGroup
kept_groups w marks = filter (is_kept_among (comdats_among (loaded_groups w marks))) (loaded_groups w marks)

-- those that are not kept
abbrev pub discarded_groups : Stage → List Bool → List PlacedGroup
discarded_groups w marks =
    filter (λ g. not (is_kept_among (comdats_among (loaded_groups w marks)) g)) (loaded_groups w marks)

-- the header and the members of a group, where it is one of this object
abbrev pub sections_in : ℕ → PlacedGroup → List ℕ
sections_in f g = if g.place.0 == f then g.group.index ∷ g.group.members else []

-- a section that is the header or a member of a discarded group
abbrev pub is_discarded_by : List PlacedGroup → ℕ → ℕ → Bool
is_discarded_by discarded f section = contains section (flat_map (sections_in f) discarded)
