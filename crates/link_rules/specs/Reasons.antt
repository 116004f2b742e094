-- Why each loaded object of a link is loaded.
use Rattle.std.specs.Prelude.{◌≡◌, ℕ, zero, suc, ◌+◌, ◌≤◌, ◌==◌, ◌||◌, List, find, filter, map, length, All, Contains, Bool, false, not, IsTrue, Option, None, Some, is_some, option_and_then, option_map, slice_get, if◌then◌else◌}
use Rattle.std.specs.List.{range_with_len}
use Rattle.std.specs.Option.{option_map_or}
use Rattle.link_closure.specs.Closure.{is_marked}
use Rattle.link_closure.specs.Levels.{IsLevel}
use Rattle.link_input.specs.Entries.{is_weak}
use Rattle.link_input.specs.ObjectFile.{is_optional}
use Rattle.link_input.specs.Symbols.{Symbol, object_in, entry_passes}
use Rattle.link_rules.specs.declared.explanation.FoundRoot.{FoundRoot}
use Rattle.link_rules.specs.declared.explanation.LoadedReason.{LoadedReason}
use Rattle.link_rules.specs.declared.explanation.Reason.{Reason}
use Rattle.link_rules.specs.declared.explanation.Reason.TheVariants.{Required, Root, Reference}
use Rattle.link_rules.specs.Places.{Bytes}
use Rattle.link_rules.specs.World.{Stage}
use Rattle.link_rules.specs.Loading.{request_between}
use Rattle.link_rules.specs.Selection.{Selection, target_of}

-- the object that a symbol asks for by what it stands for as a reference of a loaded object, unless it is weak
abbrev pub asked_for : Selection → ℕ → Symbol → Option ℕ
asked_for l s u = if entry_passes (λ e. is_weak e.binding) u.origin then None else option_and_then (request_between l.stage u) (target_of l s)

-- the reference of this id, in the loaded object f, asks for g
abbrev pub LoadsBy : Selection → ℕ → ℕ → ℕ → Type 0
LoadsBy l s f g = (u : Symbol) × (slice_get l.stage.symbols s ≡ Some u) × (object_in u.origin ≡ Some f) × (asked_for l s u ≡ Some g)

-- some reference of the loaded object f asks for g
abbrev pub Loads : Selection → ℕ → ℕ → Type 0
Loads l f g = (s : ℕ) × LoadsBy l s f g

-- the object is loaded in any case
abbrev pub is_mandatory : Stage → ℕ → Bool
is_mandatory w f = option_map_or (λ o. not (is_optional o)) (slice_get w.objects f) false

-- the first root name for which the object was found
abbrev pub root_name_of : List FoundRoot → ℕ → Option Bytes
root_name_of roots f = option_map (λ r. r.name) (find (λ r. r.object == f) roots)

-- the object is loaded whatever refers to it, in any case or for a root name
abbrev pub is_rooted : Stage → List FoundRoot → ℕ → Bool
is_rooted w roots f = is_mandatory w f || is_some (root_name_of roots f)

-- how few references lead to the object from what is loaded without any
abbrev pub HasLevel : Selection → List FoundRoot → ℕ → ℕ → Type 0
HasLevel l roots n f = IsLevel (λ g. IsTrue (is_rooted l.stage roots g)) (Loads l) n f

-- of the references of objects of level n that ask for f, this is the one with the least id
pub record IsLeastReference (l : Selection) (roots : List FoundRoot) (n f s object : ℕ) : Type 0 where
  pub asks : LoadsBy l s object f
  pub level : HasLevel l roots n object
  pub least : (t e : ℕ) → LoadsBy l t e f → HasLevel l roots n e → s ≤ t

-- the reason for which the object is loaded
abbrev pub IsReason : Selection → List FoundRoot → ℕ → Reason → Type 0
IsReason l roots f Required = IsTrue (is_mandatory l.stage f)
IsReason l roots f (Root name) = (is_mandatory l.stage f ≡ false) × (root_name_of roots f ≡ Some name)
IsReason l roots f (Reference s object) = (is_rooted l.stage roots f ≡ false) × (n : ℕ) × HasLevel l roots (n + 1) f × IsLeastReference l roots n f s object

-- the places of the loaded objects, in order
abbrev pub loaded_places : Selection → List ℕ
loaded_places l = filter (is_marked l.marks) (range_with_len 0 (length l.stage.objects))

-- a reason for each loaded object, in order
pub record AreReasons (l : Selection) (roots : List FoundRoot) (reasons : List LoadedReason) : Type 0 where
  pub each : map (λ r. r.object) reasons ≡ loaded_places l
  pub reason : All (λ r. IsReason l roots r.object r.reason) reasons

-- the object is loaded without a reference
abbrev pub IsFirstReason : Reason → Type 0
IsFirstReason Required = Unit {0}
IsFirstReason (Root name) = Unit {0}
IsFirstReason (Reference s object) = ⊥

-- these reasons lead in so many steps from the object to one that is loaded without a reference, each step to the object of the reference
abbrev pub LeadBack : List LoadedReason → ℕ → ℕ → Type 0
LeadBack reasons zero f = (r : LoadedReason) × Contains reasons r × (r.object ≡ f) × IsFirstReason r.reason
LeadBack reasons (suc n) f =
    (r : LoadedReason) × Contains reasons r × (r.object ≡ f) × (s object : ℕ) × (r.reason ≡ Reference s object) × LeadBack reasons n object
