-- What was found in items.
use Rattle.std.specs.Prelude.{◌≡◌, ℕ, ◌+◌, ◌<◌, Bool, true, false, ◌⊎◌, List, [], ◌∷◌, ◌++◌, reverse, length, Contains, Option, None, Some, slice_get}
use Rattle.link_closure.specs.declared.workload.Item.{Item}
use Rattle.link_claim.specs.declared.view.View.{View}
use Rattle.link_closure.specs.Workload.{HasItem}
use Rattle.link_closure.specs.declared.workload.Workload.{Workload}
use Rattle.link_claim.specs.Views.{MayBegin}
use Rattle.link_claim.specs.Later.{HasRead}

-- there is such an item, its file is known, and so is that it was begun
abbrev pub IsBegun : Workload → View → ℕ → Type 0
IsBegun w v i = (i < length w.items) × Contains v.known_items i × MayBegin v i

-- the item is of a known file and was read, and this is what is found in it
abbrev pub IsFound : {T : Type 0} → (ℕ → T → Type 0) → View → ℕ → T → Type 0
IsFound found v i x = ((it : Item) × HasItem v.work i it × Contains v.known it.file) × HasRead v i × found i x

-- the seat claimed these files since, in this order: its list has the latest first
abbrev pub AreClaimed : List ℕ → View → View → Type 0
AreClaimed files v later = later.claims ≡ reverse files ++ v.claims

-- the seat requested these files since, each once, in this order, and came to know no other: its list has the latest first
abbrev pub AreAsked : List ℕ → View → View → Type 0
AreAsked files v later = later.known ≡ reverse files ++ v.known

-- each result that is there was found so
abbrev pub AreFound : {T : Type 0} → (ℕ → T → Type 0) → View → List (Option T) → Type 0
AreFound found v results = (i : ℕ) (x : _) → slice_get results i ≡ Some (Some x) → IsFound found v i x

-- the item has a result
abbrev pub HasResult : {T : Type 0} → List (Option T) → ℕ → Type 0
HasResult results i = (x : _) × (slice_get results i ≡ Some (Some x))

-- each item that the seat began, but for those that it began before, has a result
abbrev pub AreWritten : {T : Type 0} → List ℕ → View → List (Option T) → Type 0
AreWritten before v results = (i : ℕ) → Contains v.begins i → Contains before i ⊎ HasResult results i

-- how many results are missing
abbrev pub missing : {T : Type 0} → List (Option T) → ℕ
missing [] = 0
missing (None ∷ xs) = 1 + missing xs
missing (Some x ∷ xs) = missing xs

-- the result of the item is missing, but its file is not known
abbrev pub IsNotDue : {T : Type 0} → List (Option T) → View → ℕ → Type 0
IsNotDue results v i = slice_get results i ≡ Some None → (it : Item) → HasItem v.work i it → ¬ Contains v.known it.file

-- none of the first n items is due
abbrev pub AreNotDue : {T : Type 0} → List (Option T) → View → ℕ → Type 0
AreNotDue results v n = (i : ℕ) → i < n → IsNotDue results v i

-- either a missing result was found, or nothing was done and the item's is not due
abbrev pub Visits : {T : Type 0} → Bool → List (Option T) → View → List (Option T) → View → ℕ → Type 0
Visits true results v results' v' i = missing results' < missing results
Visits false results v results' v' i = (results' ≡ results) × (v' ≡ v) × IsNotDue results v i

-- either some missing result was found, or nothing was done and none of these items' is due
abbrev pub Sweeps : {T : Type 0} → Bool → List (Option T) → View → List (Option T) → View → ℕ → Type 0
Sweeps true results v results' v' n = missing results' < missing results
Sweeps false results v results' v' n = (results' ≡ results) × (v' ≡ v) × AreNotDue results v n
