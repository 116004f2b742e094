-- Roots and edges as they are gathered of a link.
use Rattle.std.specs.Prelude.{◌≡◌, ◌⊎◌, ℕ, ◌+◌, List, Option, Some, Contains, filter_map, slice_get}
use Rattle.link_input.specs.declared.object.SectionGroup.{SectionGroup}
use Rattle.link_input.specs.declared.object.SectionReference.{SectionReference}
use Rattle.link_input.specs.ObjectFile.{ObjectFile}
use Rattle.link_rules.specs.Places.{first_of}
use Rattle.link_rules.specs.Selection.{Selection}
use Rattle.link_rules.specs.World.{first_symbol_of}
use Rattle.link_gc.specs.Numbering.{home_number, node_number}

-- an edge for a reference of a section that may be kept
abbrev pub IsReferenceEdge : Selection → ℕ → ObjectFile → ℕ → ℕ → Type 0
IsReferenceEdge l f o n m = (reference : SectionReference) × Contains o.object.section_references reference
    × (node_number l (f, reference.from) ≡ Some n) × (home_number l (first_symbol_of l.stage f + reference.to) ≡ Some m)

-- the members of a group that may be kept, by their numbers
abbrev pub kept_members : Selection → ℕ → SectionGroup → List ℕ
kept_members l f g = filter_map (λ member. node_number l (f, member)) g.members

-- the first of these stands for the group: each of them leads to it, and it leads to each and to the header
abbrev pub IsHubEdge : List ℕ → Option ℕ → ℕ → ℕ → Type 0
IsHubEdge members header n m = (hub : ℕ) × (first_of members ≡ Some hub)
    × ((Contains members n × (m ≡ hub)) ⊎ ((n ≡ hub) × Contains members m) ⊎ ((n ≡ hub) × (header ≡ Some m)))

-- an edge of a group of an object
abbrev pub IsGroupEdge : Selection → ℕ → ObjectFile → ℕ → ℕ → Type 0
IsGroupEdge l f o n m = (group : SectionGroup) × Contains o.object.groups group × IsHubEdge (kept_members l f group) (node_number l (f, group.index)) n m

-- an edge of an object: of a reference of one of its sections, or of one of its groups
abbrev pub IsGatheredEdge : Selection → ℕ → ℕ → Type 0
IsGatheredEdge l n m = (f : ℕ) × (o : ObjectFile) × (slice_get l.stage.objects f ≡ Some o) × (IsReferenceEdge l f o n m ⊎ IsGroupEdge l f o n m)
