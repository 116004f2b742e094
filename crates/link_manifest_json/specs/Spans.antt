-- A text that is cut around the items of a list, and what is read of its pieces.
use Rattle.std.specs.Prelude.{◌≡◌, ◌≢◌, ℕ, List, [], ◌∷◌, ◌++◌, map, Some, None, Option, Result, Ok, ⊤}
use Rattle.std.specs.Borrow.{Bor}
use Rattle.std.specs.Global.{Global, Vec}
use Rattle.std.specs.Fn.{FnReturnsAt, Shared}
use Rattle.std.specs.List.{AllZip, flat_map}
use Rattle.json.specs.Token.{Token}
use Rattle.json.specs.Lex.{tokens}
use Rattle.json.specs.Json.{value, read_key}
use Rattle.json.specs.declared.value.Value.{Value}
use Rattle.serde_json.specs.Data.{Data, object, array, Items, no_items, item, Members, no_members, put}
use Rattle.serde_json.specs.Read.{converted, of_json, read}
use Rattle.link_manifest_json.specs.declared.root.CutRoot.{CutRoot}
use Rattle.link_manifest_json.specs.Tree.{view, items_view}

-- the bytes at which a text is cut
pub data Mark : Type 0 where
  comma : Mark
  opening : Mark
  closing : Mark

abbrev pub byte : Mark → ℕ
byte comma = 44
byte opening = 91
byte closing = 93

-- the texts, each with a comma behind it, and then the rest
abbrev pub followed : List (List ℕ) → List ℕ → List ℕ
followed [] rest = rest
followed (s ∷ ss) rest = s ++ (44 ∷ followed ss rest)

-- the text is one value by itself, with two lists or objects around it
abbrev pub IsItem : List ℕ → Data → Type 0
IsItem text d = converted of_json (value 125 (tokens text)) ≡ Some (d, [])

abbrev pub Entry : Type 0
Entry = Bor (List ℕ) × Value Global

-- from the tokens `old` on, these members of the root are read, and `new` is left
abbrev pub MembersRead : List Entry → List Token → List Token → Type 0
MembersRead [] old new = old ≡ new
MembersRead (m ∷ ms) old new =
    (s : List Token) × (r : List Token) × (read_key old ≡ Some (Some m.0.now, s)) × (converted of_json (value 126 s) ≡ Some (view m.1, r)) × MembersRead ms r new

-- none of these members has the key
abbrev pub AreOthers : List ℕ → List Entry → Type 0
AreOthers key [] = ⊤
AreOthers key (m ∷ ms) = (key ≢ m.0.now) × AreOthers key ms

-- these members without the key, then a key or the end of the object, and what is left behind that
abbrev pub MembersBefore : List ℕ → List Entry → Option (List ℕ) → List Token → List Token → Type 0
MembersBefore key ms last old new = (mid : List Token) × MembersRead ms old mid × (read_key mid ≡ Some (last, new)) × AreOthers key ms

-- the root begins with these members, and the key of the next one is the text's end
abbrev pub IsFront : List ℕ → List ℕ → List Entry → Type 0
IsFront text key ms = (ts : List Token) × (tokens text ≡ Token.begin_object ∷ ts) × MembersBefore key ms (Some key) ts []

-- behind a list, the root ends with these members, of which none has the key
abbrev pub IsBack : List ℕ → List ℕ → List Entry → Type 0
IsBack text key ms = (ts : List Token) × (tokens text ≡ Token.end_array ∷ ts) × MembersBefore key ms None ts []

-- members put into an object one after another
abbrev pub put_entries : List Entry → Members → Members
put_entries [] found = found
put_entries (m ∷ ms) found = put_entries ms (put m.0.now (view m.1) found)

abbrev pub items_with : List Data → Data → Items
items_with [] last = item last no_items
items_with (d ∷ ds) last = item d (items_with ds last)

-- a text, cut at the brackets of a list and at the commas between its items; the bracket behind them begins the tail
abbrev pub IsCut : List ℕ → List ℕ → List (List ℕ) → List ℕ → List ℕ → Type 0
IsCut text head ss last tail = (r : List ℕ) × (tail ≡ 93 ∷ r) × (text ≡ head ++ (91 ∷ followed ss (last ++ tail)))

-- members put into an object behind others
abbrev pub rest_of : List Entry → List Entry → Data
rest_of before after = object (put_entries after (put_entries before no_members))

-- the members before a list that a key has, and behind it, make this object
abbrev pub IsRest : List ℕ → List ℕ → List ℕ → Data → Type 0
IsRest head tail key rest = (before : List Entry) × (after : List Entry) × IsFront head key before × IsBack tail key after × (rest ≡ rest_of before after)

-- the text is cut around the items of the list that a key has, and this is the object without it
abbrev pub IsAround : List ℕ → List ℕ → CutRoot → Type 0
IsAround text key root =
    (head : List ℕ) × (tail : List ℕ) × IsRest head tail key (view root.rest)
    × IsCut text head (map (λ s. s.now) root.items.items) root.last.now tail

-- each result is a list, and these are their items one after another
abbrev pub AreJoined : {T E : Type 0} → List (Result (Vec T) E) → List T → Type 0
AreJoined {T} results all = (lists : List (Vec T)) × AllZip (λ r list. r ≡ Ok list) results lists × (flat_map (λ list. list.items) lists ≡ all)

-- the text is an item, and f makes t of its tree
abbrev pub IsMade : {F T : Type 0} → Shared F (Bor (Value Global) × Unit {0}) T → F → List ℕ → T → Type 0
IsMade g f text t = (v : Value Global) × IsItem text (view v) × FnReturnsAt g f v t

-- the whole is the rest with one member more: the key, with this value; it is the last one with that key
abbrev pub IsRootOf : List ℕ → Data → Data → Data → Type 0
IsRootOf key value rest whole =
    (before : List Entry) × (after : List Entry) × AreOthers key after × (rest ≡ rest_of before after)
    × (whole ≡ object (put_entries after (put key value (put_entries before no_members))))

-- the text is an object: this rest and a list that the key has, and of each item of the list f makes one of the values
abbrev pub IsRoot : {F T : Type 0} → Shared F (Bor (Value Global) × Unit {0}) T → F → List ℕ → List ℕ → Data → List T → Type 0
IsRoot g f text key rest made =
    (vs : List (Value Global)) × (whole : Data) × AllZip (FnReturnsAt g f) vs made × IsRootOf key (array (items_view vs)) rest whole × (read text ≡ Some whole)
