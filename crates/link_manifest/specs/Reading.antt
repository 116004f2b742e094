-- What reading a value gives: what it stands for, or its first fault, with the path from the value to it.
use Rattle.std.specs.Prelude.{◌≡◌, ℕ, ◌+◌, List, [], ◌∷◌, true, Bool, cond, Option, Some, None, is_some, Result, Ok, Err, ⊤, if◌then◌else◌}
use Rattle.std.specs.List.{list_any}
use Rattle.std.specs.Cmp.Lexicographic.{slice_cmp}
use Rattle.std.specs.Ordering.{is_lt, nat_cmp}
use Rattle.std.specs.Str.{bytes_eq}
use Rattle.serde_json.specs.Data.{Data, Items, no_items, item, Members, no_members, member}
use Rattle.serde_json.specs.Find.{get, as_array, as_null, as_object}
use Rattle.link_manifest.specs.declared.fault.Step.{Step}
use Rattle.link_manifest.specs.declared.fault.Step.TheVariants.{Key, Item}
use Rattle.link_manifest.specs.declared.fault.Kind.TheVariants as kind
use Rattle.link_manifest.specs.declared.fault.Problem.{Problem}
use Rattle.link_manifest.specs.declared.fault.Problem.TheVariants.{UnknownKey, Missing, Expected}
use Rattle.link_manifest.specs.declared.fault.ManifestFault.{ManifestFault}
use Rattle.link_manifest.specs.declared.fault.ManifestError.{ManifestError}
use Rattle.link_manifest.specs.declared.fault.ManifestError.TheVariants.{At, Memory}

-- ---- faults, and the path to them

-- a fault of the value itself
abbrev pub fault_here : Problem → ManifestFault
fault_here problem = record { path = []; problem = problem }

-- a fault of a value inside, seen from one step further out
abbrev pub outward : Step → ManifestFault → ManifestFault
outward step fault = record { path = step ∷ fault.path; problem = fault.problem }

-- what was read inside, seen from one step further out
abbrev pub within : {A : Type 0} → Step → Result A ManifestFault → Result A ManifestFault
within step (Ok value) = Ok value
within step (Err fault) = Err (outward step fault)

-- first this, and then what follows it
abbrev pub and_read : {A B : Type 0} → Result A ManifestFault → (A → Result B ManifestFault) → Result B ManifestFault
and_read (Ok value) next = next value
and_read (Err fault) next = Err fault

-- the value, where there is one, and else this fault
abbrev pub read_or : {A : Type 0} → Problem → Option A → Result A ManifestFault
read_or problem None = Err (fault_here problem)
read_or problem (Some value) = Ok value

-- ---- objects and lists

-- the least key that is none of these; the members of an object stand in the order of their keys
abbrev pub unknown_key : List (List ℕ) → Members → Option (List ℕ)
unknown_key known no_members = None
unknown_key known (member key value members) = cond (list_any (λ k. bytes_eq k key) known) (unknown_key known members) (Some key)

-- the key comes before the other one, or there is no other
abbrev pub is_sooner : List ℕ → Option (List ℕ) → Bool
is_sooner key None = true
is_sooner key (Some other) = is_lt (slice_cmp nat_cmp key other)

-- the least unknown key among those so far and one more
abbrev pub with_key : List (List ℕ) → List ℕ → Option (List ℕ) → Option (List ℕ)
with_key known key least = cond (list_any (λ k. bytes_eq k key) known) least (cond (is_sooner key least) (Some key) least)

-- there is no unknown key
abbrev pub none_unknown : Option (List ℕ) → Result ⊤ ManifestFault
none_unknown None = Ok tt
none_unknown (Some key) = within (Key key) (Err (fault_here UnknownKey))

-- an object that has no other keys than these
abbrev pub object_of_keys : List (List ℕ) → Data → Result ⊤ ManifestFault
object_of_keys known value = and_read (read_or (Expected kind.Object) (as_object value)) (λ members. none_unknown (unknown_key known members))

abbrev pub or_missing : {A : Type 0} → (Data → Result A ManifestFault) → Option Data → Result A ManifestFault
or_missing read None = Err (fault_here Missing)
or_missing read (Some value) = read value

-- the value of a key that has to be there
abbrev pub required : {A : Type 0} → List ℕ → (Data → Result A ManifestFault) → Data → Result A ManifestFault
required key read value = within (Key key) (or_missing read (get key value))

abbrev pub or_default : {A : Type 0} → A → (Data → Result A ManifestFault) → Option Data → Result A ManifestFault
or_default default read None = Ok default
or_default default read (Some value) = read value

-- the value of a key that may be left out
abbrev pub optional : {A : Type 0} → List ℕ → (Data → Result A ManifestFault) → A → Data → Result A ManifestFault
optional key read default value = within (Key key) (or_default default read (get key value))

-- such a value, or null, which stands for none
abbrev pub or_null : {A : Type 0} → (Data → Result A ManifestFault) → Data → Result (Option A) ManifestFault
or_null read value = if is_some (as_null value) then Ok None else and_read (read value) (λ found. Ok (Some found))

-- items one after another, of which the first has this place
abbrev pub items_read : {A : Type 0} → (Data → Result A ManifestFault) → ℕ → Items → Result (List A) ManifestFault
items_read read place no_items = Ok []
items_read read place (item value values) =
    and_read (within (Item place) (read value)) (λ first. and_read (items_read read (place + 1) values) (λ others. Ok (first ∷ others)))

-- a list of such values
abbrev pub list_read : {A : Type 0} → (Data → Result A ManifestFault) → Data → Result (List A) ManifestFault
list_read read value = and_read (read_or (Expected kind.List) (as_array value)) (items_read read 0)

-- ---- what a call answers

-- it is this fault, or want of memory
abbrev pub IsFault : ManifestError → ManifestFault → Type 0
IsFault (At fault) due = fault ≡ due
IsFault Memory due = Unit {0}

-- it is the same fault, seen from one step further out, or want of memory
abbrev pub IsSeenFrom : Step → ManifestError → ManifestError → Type 0
IsSeenFrom step (At fault) seen = IsFault seen (outward step fault)
IsSeenFrom step Memory seen = seen ≡ Memory

-- it is the fault that reading gives, or want of memory
abbrev pub IsFaultOf : {A : Type 0} → ManifestError → Result A ManifestFault → Type 0
IsFaultOf (At fault) reading = reading ≡ Err fault
IsFaultOf Memory reading = Unit {0}

-- the answer is what reading gives, unless memory ran out
abbrev pub Reads : {A : Type 0} → Result A ManifestError → Result A ManifestFault → Type 0
Reads (Ok value) reading = reading ≡ Ok value
Reads (Err error) reading = IsFaultOf error reading

-- the answer is what reading gives, unless there is none or memory ran out
abbrev pub ReadsIfAny : {A : Type 0} → Result (Option A) ManifestError → Result A ManifestFault → Type 0
ReadsIfAny (Ok None) reading = Unit {0}
ReadsIfAny (Ok (Some value)) reading = reading ≡ Ok value
ReadsIfAny (Err error) reading = IsFaultOf error reading

-- each answer is what reading gives of the item at its place, unless memory ran out
abbrev pub AllRead : {A : Type 0} → (Data → Result A ManifestFault) → Items → List (Result A ManifestError) → Type 0
AllRead read no_items [] = ⊤
AllRead read no_items (answer ∷ answers) = ⊥
AllRead read (item value values) [] = ⊥
AllRead read (item value values) (answer ∷ answers) = Reads answer (read value) × AllRead read values answers
