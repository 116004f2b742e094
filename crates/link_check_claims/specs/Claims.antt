-- What is claimed of the link of one batch, and when that holds.
use Rattle.std.specs.Prelude.{◌≡◌, ℕ, ◌<◌, ◌==◌, Bool, List, [], ◌∷◌, All, Contains, MatchOption, Some, length, map, slice_get}
use Rattle.std.specs.List.{list_any, range_with_len}
use Rattle.link_closure.specs.Closure.{IsClosed}
use Rattle.link_input.specs.Symbols.{Symbol, object_in}
use Rattle.link_rules.specs.declared.linked.KeptGroup.{KeptGroup}
use Rattle.link_rules.specs.Answer.{kept_comdats}
use Rattle.link_rules.specs.Loading.{HasEdge, IsRoot, request_of}
use Rattle.link_rules.specs.Selection.{selection_of}
use Rattle.link_rules.specs.Undefined.{resolved}
use Rattle.link_rules.specs.World.{World, Stage, first_stage}
use Rattle.link_check_claims.specs.declared.claim.Claim.{Claim}
use Rattle.link_check_claims.specs.declared.claim.ClaimedGroup.{ClaimedGroup}
use Rattle.link_check_claims.specs.declared.claim.ClaimedObject.{ClaimedObject}

-- the object is claimed to be loaded
abbrev pub is_claimed : List ClaimedObject → ℕ → Bool
is_claimed loaded f = list_any (λ o. o.object == f) loaded

-- the places of the objects rise
abbrev pub AreRising : List ClaimedObject → Type 0
AreRising [] = Unit {0}
AreRising (o ∷ os) = All (λ next. o.object < next.object) os × AreRising os

-- the reference of this id stands in an object of a smaller rank that is claimed to be loaded, and asks for f; a weak one asks for none
abbrev pub IsReferredBy : Stage → List ClaimedObject → ℕ → ℕ → ℕ → Type 0
IsReferredBy w loaded f rank s = (u : Symbol) × (from : ClaimedObject)
    × (slice_get w.symbols s ≡ Some u) × (object_in u.origin ≡ Some from.object) × (request_of w s u ≡ Some f)
    × Contains loaded from × (from.rank < rank)

-- the object is loaded whatever refers to it, or by the reference that is claimed
abbrev pub IsGrounded : Stage → List ClaimedObject → ClaimedObject → Type 0
IsGrounded w loaded o = MatchOption o.by (IsRoot w o.object) (IsReferredBy w loaded o.object o.rank)

-- these objects, in their order, are those that are loaded at the stage
pub record AreLoaded (w : Stage) (loaded : List ClaimedObject) : Type 0 where
  pub rising : AreRising loaded
  pub grounded : All (IsGrounded w loaded) loaded
  pub closed : IsClosed (IsRoot w) (HasEdge w) (is_claimed loaded)

-- a mark for each object
abbrev pub claimed_marks : Stage → List ClaimedObject → List Bool
claimed_marks w loaded = map (is_claimed loaded) (range_with_len 0 (length w.objects))

-- a group that is kept, by its place
abbrev pub claimed_group : KeptGroup → ClaimedGroup
claimed_group g = record { object = g.object; group = g.group }

-- what is claimed of a world without further batches is so: which objects are loaded, and with these which COMDAT groups are kept, and what each
-- symbol points to at the end
pub record ClaimHolds (world : World) (claim : Claim) : Type 0 where
  pub loaded : AreLoaded (first_stage world) claim.loaded
  pub kept : claim.kept ≡ map claimed_group (kept_comdats (first_stage world) (claimed_marks (first_stage world) claim.loaded))
  pub table : claim.table ≡ (resolved (selection_of (first_stage world) (claimed_marks (first_stage world) claim.loaded))).table
