-- Lists that grow at their end.
use Rattle.std.proofs.Common.{◌≡◌, ◌≢◌, ℕ, List, [], ◌∷◌, ◌++◌, map, IfOk, IfSome, Option, Some, None, Result, Ok, refl, sym, ap, ap₂, ◌∙◌, subst}
use Rattle.std.proofs.lemmas.List.{append-nil, map-append}
use Rattle.std.proofs.lemmas.Grind.{flat_map-append}
use Rattle.std.specs.List.{AllZip, flat_map}
use Rattle.std.proofs.Common.{take, get_or, length, ◌<◌, ◌+◌}
use Rattle.std.proofs.Math.Seq.{take-suc}
use native.Mathlib.Numerals.{unary_clauses}
use Rattle.std.specs.Borrow.{Bor}
use Rattle.std.specs.Global.{Global, Vec}
use Rattle.std.specs.Fn.{FnReturnsAt, Shared}
use Rattle.json.specs.Token.{Token}
use Rattle.json.specs.Json.{value, read_key}
use Rattle.json.specs.declared.value.Value.{Value}
use Rattle.json.specs.Value.{members_view}
use Rattle.serde_json.specs.Data.{item, Members, no_members, put}
use Rattle.serde_json.specs.Read.{converted, of_json}
use Rattle.link_manifest_json.specs.Tree.{view, items_view, put_all}
use Rattle.link_manifest_json.specs.Spans.{AreJoined, AreOthers, followed, Entry, MembersRead, IsItem, IsMade, items_with, put_entries}

pub one_more_member : (ms : List Entry) (m : Entry) (old mid s r : List Token) → MembersRead ms old mid → read_key mid ≡ Some (Some m.0.now, s) → converted of_json (value 126 s) ≡ Some (view m.1, r) → MembersRead (ms ++ m ∷ []) old r
one_more_member [] m old mid s r h key read = (s, r, ap read_key h ∙ key, read, refl)
one_more_member (n ∷ ms) m old mid s r h key read = (h.0, h.1, h.2, h.3, one_more_member ms m h.1 mid s r h.4 key read)

followed_push : (ss : List (List ℕ)) (s rest : List ℕ) → followed ss (s ++ (44 ∷ rest)) ≡ followed (ss ++ s ∷ []) rest
followed_push [] s rest = refl
followed_push (x ∷ ss) s rest = ap (λ l. x ++ (44 ∷ l)) (followed_push ss s rest)

pub one_more_text : (bs : List (Bor (List ℕ))) (b : Bor (List ℕ)) (rest : List ℕ) → followed (map (λ s. s.now) bs) (b.now ++ (44 ∷ rest)) ≡ followed (map (λ s. s.now) (bs ++ b ∷ [])) rest
one_more_text bs b rest = followed_push (map (λ s. s.now) bs) b.now rest ∙ ap (λ l. followed l rest) (sym (map-append (λ s. s.now) bs (b ∷ [])))

pub zip_push : {A B : Type 0} (R : A → B → Type 0) (xs : List A) (ys : List B) (x : A) (y : B) → AllZip R xs ys → R x y → AllZip R (xs ++ x ∷ []) (ys ++ y ∷ [])
zip_push R [] [] x y h r = (r, tt)
zip_push R [] (b ∷ ys) x y h r = absurd h
zip_push R (a ∷ xs) [] x y h r = absurd h
zip_push R (a ∷ xs) (b ∷ ys) x y h r = (h.0, zip_push R xs ys x y h.1 r)

-- where each result is made of an item, and each is a value, the values are
pub all_made : {A E T : Type 0} (P : A → T → Type 0) (xs : List A) (rs : List (Result T E)) (ts : List T) → AllZip (λ x r. IfOk r (P x)) xs rs → AllZip (λ r t. r ≡ Ok t) rs ts → AllZip P xs ts
all_made P [] [] [] h k = tt
all_made P [] [] (t ∷ ts) h k = absurd k
all_made P [] (r ∷ rs) ts h k = absurd h
all_made P (x ∷ xs) [] ts h k = absurd h
all_made P (x ∷ xs) (r ∷ rs) [] h k = absurd k
all_made P (x ∷ xs) (r ∷ rs) (t ∷ ts) h k = (subst (λ o. IfOk o (P x)) k.0 h.0, all_made P xs rs ts h.1 k.1)

-- ---- what was made, of which trees

module _ {F T : Type 0} (g : Shared F (Bor (Value Global) × Unit {0}) T) (f : F) where
  pub trees : (ss : List (List ℕ)) (ts : List T) → AllZip (IsMade g f) ss ts → (vs : List (Value Global)) × AllZip IsItem ss (map view vs) × AllZip (FnReturnsAt g f) vs ts
  trees [] [] h = ([], tt, tt)
  trees [] (t ∷ ts) h = absurd h
  trees (s ∷ ss) [] h = absurd h
  trees (s ∷ ss) (t ∷ ts) h = let more = trees ss ts h.1 in (h.0.0 ∷ more.0, (h.0.1, more.1), (h.0.2, more.2))

pub items_with-push : (vs : List (Value Global)) (v : Value Global) → items_with (map view vs) (view v) ≡ items_view (vs ++ v ∷ [])
items_with-push [] v = refl
items_with-push (w ∷ vs) v = ap (item (view w)) (items_with-push vs v)

pub some_then : {A : Type 0} (o : Option A) {P Q : A → Type 0} → ((a : A) → P a → Q a) → IfSome o P → IfSome o Q
some_then None f h = tt
some_then (Some a) f h = f a h

-- one member more without the key
pub one_more_other : (key : List ℕ) (ms : List Entry) (m : Entry) → AreOthers key ms → (key ≢ m.0.now) → AreOthers key (ms ++ m ∷ [])
one_more_other key [] m others other = (other, tt)
one_more_other key (n ∷ ms) m others other = (others.0, one_more_other key ms m others.1 other)

-- lists of two kinds, joined one after another
pub zip_append : {A B : Type 0} (R : A → B → Type 0) (xs us : List A) (ys vs : List B) → AllZip R xs ys → AllZip R us vs → AllZip R (xs ++ us) (ys ++ vs)
zip_append R [] us [] vs h k = k
zip_append R [] us (y ∷ ys) vs h k = absurd h
zip_append R (x ∷ xs) us [] vs h k = absurd h
zip_append R (x ∷ xs) us (y ∷ ys) vs h k = (h.0, zip_append R xs us ys vs h.1 k)

-- one list more is joined
pub one_more_list : {T E : Type 0} (results : List (Result (Vec T) E)) (all : List T) (list : Vec T) → AreJoined results all → AreJoined (results ++ Ok list ∷ []) (all ++ list.items)
one_more_list {T} results all list joined = (
  joined.0 ++ list ∷ [],
  zip_push (λ r l. r ≡ Ok l) results joined.0 (Ok list) list joined.1 refl,
  flat_map-append (λ (l : Vec T). l.items) joined.0 (list ∷ []) ∙ ap₂ (λ xs ys. xs ++ ys) joined.2 (append-nil list.items),
)

-- pieces that match one another, joined one after another
flat_zip : {X V T : Type 0} (R : X → T → Type 0) (items : V → List T) (runs : List (Bor (List X))) (lists : List V)
    → AllZip (λ run list. AllZip R run.now (items list)) runs lists → AllZip R (flat_map (λ (run : Bor (List X)). run.now) runs) (flat_map items lists)
flat_zip R items [] [] h = tt
flat_zip R items [] (l ∷ lists) h = absurd h
flat_zip R items (r ∷ runs) [] h = absurd h
flat_zip R items (r ∷ runs) (l ∷ lists) h = zip_append R r.now (flat_map (λ run. run.now) runs) (items l) (flat_map items lists) h.0 (flat_zip R items runs lists h.1)

-- what was made of runs, joined, is made of all that is in the runs
pub joined_made : {X T E : Type 0} (R : X → T → Type 0) (runs : List (Bor (List X))) (results : List (Result (Vec T) E)) (all : List T)
    → AllZip (λ run r. IfOk r (λ made. AllZip R run.now made.items)) runs results → AreJoined results all → AllZip R (flat_map (λ (run : Bor (List X)). run.now) runs) all
joined_made {X} {T} R runs results all each joined =
    subst (AllZip R (flat_map (λ (run : Bor (List X)). run.now) runs)) joined.2
    (flat_zip R (λ (list : Vec T). list.items) runs joined.0 (all_made (λ run made. AllZip R run.now made.items) runs results joined.0 each joined.1))

-- one item more at the front
pub take_next : {A : Type 0} (xs : List A) (i : ℕ) (d : A) → i < length xs → take (i + 1) xs ≡ take i xs ++ (get_or xs i d ∷ [])
take_next xs i d lt = simp unary_clauses (take-suc xs i d lt)

-- the members of a tree, put into an object one after another
pub put_entries-put_all : (ms : List Entry) (found : Members) → put_all (members_view ms) found ≡ put_entries ms found
put_entries-put_all [] found = refl
put_entries-put_all (m ∷ ms) found = put_entries-put_all ms (put m.0.now (view m.1) found)

pub put_entries-append : (ms ns : List Entry) (found : Members) → put_entries (ms ++ ns) found ≡ put_entries ns (put_entries ms found)
put_entries-append [] ns found = refl
put_entries-append (m ∷ ms) ns found = put_entries-append ms ns (put m.0.now (view m.1) found)

-- an object of members before and behind
pub joined_entries : (all before after : List Entry) → all ≡ before ++ after → put_all (members_view all) no_members ≡ put_entries after (put_entries before no_members)
joined_entries all before after e = put_entries-put_all all no_members ∙ ap (λ ms. put_entries ms no_members) e ∙ put_entries-append before after no_members
