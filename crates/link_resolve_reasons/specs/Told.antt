-- The reason of each loaded object, by what is looked up for it.
use Rattle.std.specs.Prelude.{◌≡◌, ℕ, ◌+◌, ◌&&◌, ◌||◌, ◌==◌, nat_lt, List, map, filter_map, Bool, false, IsTrue, Option, None, Some, is_some, length, option_and_then, option_map, slice_get, if◌then◌else◌}
use Rattle.std.specs.Option.{option_map_or}
use Rattle.link_closure.specs.Closure.{IsLeastClosed, is_marked}
use Rattle.link_closure.specs.declared.Edge.{Edge}
use Rattle.link_db_files.specs.GroupFiles.{symbols_in}
use Rattle.link_db_files.specs.HeldFiles.{HeldFiles}
use Rattle.link_db_files.specs.Inputs.{objects_in}
use Rattle.link_rules.specs.declared.explanation.FoundRoot.{FoundRoot}
use Rattle.link_rules.specs.declared.explanation.LoadedReason.{LoadedReason}
use Rattle.link_rules.specs.declared.explanation.Reason.{Reason}
use Rattle.link_rules.specs.declared.explanation.Reason.TheVariants.{Required, Root, Reference}
use Rattle.link_rules.specs.Places.{each_from, some_from}
use Rattle.link_rules.specs.Reasons.{Loads, is_rooted}
use Rattle.link_rules.specs.Selection.{Selection}
use Rattle.link_resolve_reasons.specs.declared.requests.Request.{Request}

-- these files, loaded objects, targets and found roots are those of the selection; its loaded objects follow from the roots, as at the end of each link
pub record TellsLoaded {P : Type 0} (files : HeldFiles P) (loaded : List Bool) (targets : List (Option ℕ)) (roots : List FoundRoot) (l : Selection) : Type 0 where
  pub symbols_are : l.stage.symbols ≡ symbols_in files.groups
  pub objects_are : l.stage.objects ≡ objects_in files.groups
  pub marks_are : l.marks ≡ loaded
  pub targets_are : l.targets ≡ targets
  pub follows : IsLeastClosed (λ g. IsTrue (is_rooted l.stage roots g)) (Loads l) (length l.stage.objects) l.marks

-- what a list has for a number, if anything
abbrev pub entry_at : List (Option ℕ) → ℕ → Option ℕ
entry_at entries f = option_map_or (λ e. e) (slice_get entries f) None

-- the objects that were found for root names
abbrev pub root_keys : List FoundRoot → List (Option ℕ)
root_keys roots = map (λ r. Some r.object) roots

-- a mark for each object that is loaded in any case, or was found for a root name
abbrev pub rooted_marks : List Bool → List (Option ℕ) → List Bool
rooted_marks mandatory first_roots = each_from (λ f is_mandatory. is_mandatory || is_some (entry_at first_roots f)) 0 mandatory

-- the edge of a request between objects below a count
abbrev pub edge_in : ℕ → Request → Option Edge
edge_in count q = if nat_lt q.from count && nat_lt q.to count then Some (record { from = q.from; to = q.to }) else None

-- the edges of all requests
abbrev pub edges_in : ℕ → List Request → List Edge
edges_in count requests = filter_map (edge_in count) requests

-- the second number is one more than the first
abbrev pub is_next : Option ℕ → Option ℕ → Bool
is_next None second = false
is_next (Some n) None = false
is_next (Some n) (Some m) = m == n + 1

-- the object that is asked for, if it is one level further than the object of the reference
abbrev pub step_key : List (Option ℕ) → Request → Option ℕ
step_key levels q = if is_next (entry_at levels q.from) (entry_at levels q.to) then Some q.to else None

-- the same of each request
abbrev pub step_keys : List (Option ℕ) → List Request → List (Option ℕ)
step_keys levels requests = map (step_key levels) requests

-- the reason by the first request, if there is one
abbrev pub reason_by_request : Option Request → Option Reason
reason_by_request None = None
reason_by_request (Some q) = Some (Reference q.symbol q.from)

-- the reason by the first root name, else by the first request
abbrev pub reason_by_root : Option FoundRoot → Option Request → Option Reason
reason_by_root None request = reason_by_request request
reason_by_root (Some r) request = Some (Root r.name)

-- the first reason that there is
abbrev pub reason_by : Bool → Option FoundRoot → Option Request → Option Reason
reason_by is_mandatory root request = if is_mandatory then Some Required else reason_by_root root request

-- what is known of the objects of a link: which are loaded in any case, the found roots, the requests, and for each object the places of the first root and
-- of the first request by an object one level nearer
pub record KnownObjects : Type 0 where
  pub mandatory : List Bool
  pub roots : List FoundRoot
  pub first_roots : List (Option ℕ)
  pub requests : List Request
  pub first_requests : List (Option ℕ)

-- the reason of an object by what is known
abbrev pub reason_in : KnownObjects → ℕ → Option Reason
reason_in k f = reason_by (is_marked k.mandatory f) (option_and_then (slice_get k.roots) (entry_at k.first_roots f))
    (option_and_then (slice_get k.requests) (entry_at k.first_requests f))

-- the same with the object, if it is loaded
abbrev pub loaded_reason : KnownObjects → ℕ → Bool → Option LoadedReason
loaded_reason k f is_loaded = if is_loaded then option_map (λ r. record { object = f; reason = r }) (reason_in k f) else None

-- the same of all objects, in order
abbrev pub reasons_in : KnownObjects → List Bool → List LoadedReason
reasons_in k loaded = some_from (loaded_reason k) 0 loaded
