-- What a text means that was cut, from what its pieces mean.
use Rattle.std.proofs.Common.{◌≡◌, ℕ, ◌-◌, ◌<◌, ◌≤◌, Bool, true, false, List, [], ◌∷◌, ◌++◌, length, drop, Option, Some, None, option_map, refl, sym, ap, ◌∙◌, subst, arith, length-append}
use Rattle.std.proofs.lemmas.List.{append_assoc}
use Rattle.std.proofs.lemmas.Bool.{false≢true}
use Rattle.std.specs.List.{AllZip}
use Rattle.json.specs.Token.{Token}
use Rattle.json.specs.Json.{after_end_array, read_key, items, members, value, parse_map}
use Rattle.json.specs.Lex.{between, lex, Place, fresh, after_value, after_comma, after_key, punctuate, tokens}
use Rattle.json.specs.Tree.{json_tokens}
use Rattle.json.proofs.Grammar.{value-begin_array, value-begin_object, read_key-shorter, read_key_is, key_token}
use Rattle.json.proofs.Nesting.{value-depth}
use Rattle.json.proofs.Printed.Trees.{value-json_tokens}
use Rattle.serde_json.specs.Data.{Data, array, object, item, Members, no_members, put}
use Rattle.serde_json.specs.Read.{of_json, of_items, of_members, converted, read}
use Rattle.link_manifest_json.specs.Tree.{view}
use Rattle.link_manifest_json.specs.Spans.{Mark, comma, opening, closing, byte, followed, IsItem, Entry, MembersRead, IsFront, IsBack, put_entries, items_with}
use Rattle.link_manifest_json.proofs.Reading.{converted_some, converted-array, converted-object, item_read, items_over, member_read, members_over, whole_read}
use Rattle.link_manifest_json.proofs.Placing.{AreGood, left_at, tokens-more}
use Rattle.link_manifest_json.proofs.Exact.{value-spelled, good, left, starts, starts_value, behind_comma}

-- ---- more tokens behind what is read

framed : (d : ℕ) (ts r more : List Token) (x : Data) → converted of_json (value d ts) ≡ Some (x, r) → converted of_json (value d (ts ++ more)) ≡ Some (x, r ++ more)
framed d ts r more x e =
    let j = converted_some of_json (value d ts) x r e in
    let spelled : ts ++ more ≡ json_tokens j.0 ++ (r ++ more) = ap (λ l. l ++ more) (value-spelled d ts r j.0 j.1) ∙ append_assoc (json_tokens j.0) r more in
    ap (λ l. converted of_json (value d l)) spelled ∙ ap (converted of_json) (value-json_tokens j.0 d (r ++ more) (value-depth d ts r j.0 j.1)) ∙ ap (λ o. option_map (λ y. (y, r ++ more)) o) j.2

not_longer : (d : ℕ) (ts r : List Token) (x : Data) → converted of_json (value d ts) ≡ Some (x, r) → length r ≤ length ts
not_longer d ts r x e =
    let j = converted_some of_json (value d ts) x r e in
    omega (arith, ap length (value-spelled d ts r j.0 j.1), length-append (json_tokens j.0) r)

framed_key : (ts r more : List Token) (k : Option (List ℕ)) → read_key ts ≡ Some (k, r) → read_key (ts ++ more) ≡ Some (k, r ++ more)
framed_key ts r more k e = ap (λ l. read_key (l ++ more)) (read_key_is ts k r e) ∙ spelled k
  where
    spelled : (k : Option (List ℕ)) → read_key (key_token k ∷ (r ++ more)) ≡ Some (k, r ++ more)
    spelled None = refl
    spelled (Some s) = refl

pub framed_members : (ms : List Entry) (old new more : List Token) → MembersRead ms old new → MembersRead ms (old ++ more) (new ++ more)
framed_members [] old new more h = ap (λ l. l ++ more) h
framed_members (m ∷ ms) old new more h =
    (h.0 ++ more, h.1 ++ more, framed_key old h.0 more (Some m.0.now) h.2, framed 126 h.0 h.1 more (view m.1) h.3, framed_members ms h.1 new more h.4)

-- ---- an item before a mark

abbrev from : Bool → Place
from true = after_comma
from false = fresh

from_either : (b : Bool) (s : List ℕ) → starts_value (tokens s) ≡ true → punctuate (from b) (lex between s) ≡ tokens s
from_either true s h = behind_comma (lex between s) h
from_either false s h = refl

item_cut : (b : Bool) (s : List ℕ) (m : Mark) (r : List ℕ) (d : Data) → IsItem s d → punctuate (from b) (lex between (s ++ byte m ∷ r)) ≡ tokens s ++ punctuate after_value (lex between (byte m ∷ r))
item_cut b s m r d e =
    let j = converted_some of_json (value 125 (tokens s)) d [] e in
    let spelled : tokens s ≡ json_tokens j.0 ++ [] = value-spelled 125 (tokens s) [] j.0 j.1 in
    let here : punctuate (from b) (lex between s) ≡ tokens s = from_either b s (ap starts_value spelled ∙ starts j.0 []) in
    let all : punctuate (from b) (lex between s) ≡ json_tokens j.0 ++ [] = here ∙ spelled in
    tokens-more (from b) s m r (subst AreGood (sym all) (good j.0 [] tt))
    ∙ ap (λ p. punctuate (from b) (lex between s) ++ punctuate p (lex between (byte m ∷ r))) (ap (left_at (from b)) all ∙ left (from b) j.0 [])
    ∙ ap (λ ts. ts ++ punctuate after_value (lex between (byte m ∷ r))) here

past_comma : (r : List ℕ) → punctuate after_value (lex between (44 ∷ r)) ≡ punctuate after_comma (lex between r)
unfolding lex punctuate
past_comma r = refl

past_closing : (r : List ℕ) → punctuate after_value (lex between (93 ∷ r)) ≡ Token.end_array ∷ punctuate after_value (lex between r)
unfolding lex punctuate
past_closing r = refl

closing_alone : (r : List ℕ) → tokens (93 ∷ r) ≡ Token.end_array ∷ punctuate after_value (lex between r)
unfolding lex punctuate
closing_alone r = refl

past_opening : (r : List ℕ) → punctuate fresh (lex between (91 ∷ r)) ≡ Token.begin_array ∷ punctuate fresh (lex between r)
unfolding lex punctuate
past_opening r = refl

goes_on : (ts : List Token) → starts_value ts ≡ true → after_end_array ts ≡ None
goes_on [] h = refl
goes_on (Token.begin_object ∷ ts) h = refl
goes_on (Token.end_object ∷ ts) h = refl
goes_on (Token.begin_array ∷ ts) h = refl
goes_on (Token.end_array ∷ ts) h = absurd (false≢true h)
goes_on (Token.key s ∷ ts) h = refl
goes_on (Token.string s ∷ ts) h = refl
goes_on (Token.number s ∷ ts) h = refl
goes_on (Token.boolean b ∷ ts) h = refl
goes_on (Token.null ∷ ts) h = refl
goes_on (Token.bad ∷ ts) h = refl

some_token : (ts : List Token) → starts_value ts ≡ true → 0 < length ts
some_token [] h = absurd (false≢true h)
some_token (t ∷ ts) h = omega arith

-- one item, where tokens of one stand before others
one_item : (s : List ℕ) (d : Data) (n : ℕ) (us : List Token) → IsItem s d → length (tokens s ++ us) ≤ n
    → (length us ≤ n - 1) × (converted of_items (items (value 125) n (tokens s ++ us)) ≡ parse_map (item d) (converted of_items (items (value 125) (n - 1) us)))
one_item s d n us e le =
    let j = converted_some of_json (value 125 (tokens s)) d [] e in
    let spelled : tokens s ≡ json_tokens j.0 ++ [] = value-spelled 125 (tokens s) [] j.0 j.1 in
    let begins : starts_value (tokens s) ≡ true = ap starts_value spelled ∙ starts j.0 [] in
    let some = some_token (tokens s) begins in
    let total = length-append (tokens s) us in
    let all : tokens s ++ us ≡ json_tokens j.0 ++ ([] ++ us) = ap (λ l. l ++ us) spelled ∙ append_assoc (json_tokens j.0) [] us in
    (omega arith, item_read (value 125) n (tokens s ++ us) us d (omega arith) (goes_on (tokens s ++ us) (ap starts_value all ∙ starts j.0 us)) (framed 125 (tokens s) [] us d e))

module _ (last : List ℕ) (r : List ℕ) (end : Data) (is : IsItem last end) where
  abbrev left_over : List Token
  left_over = punctuate after_value (lex between r)

  abbrev items_text : List (List ℕ) → List ℕ
  items_text ss = followed ss (last ++ (93 ∷ r))

  pub items_at : (ss : List (List ℕ)) (ds : List Data) (b : Bool) (n : ℕ) → AllZip IsItem ss ds → length (punctuate (from b) (lex between (items_text ss))) ≤ n
      → converted of_items (items (value 125) n (punctuate (from b) (lex between (items_text ss)))) ≡ Some (items_with ds end, left_over)
  items_at [] [] b n h le =
      let here : punctuate (from b) (lex between (last ++ (93 ∷ r))) ≡ tokens last ++ (Token.end_array ∷ left_over) = item_cut b last closing r end is ∙ ap (λ ts. tokens last ++ ts) (past_closing r) in
      let one = one_item last end n (Token.end_array ∷ left_over) is (subst (λ l. length l ≤ n) here le) in
      ap (λ l. converted of_items (items (value 125) n l)) here ∙ one.1
      ∙ ap (parse_map (item end)) (items_over (value 125) (n - 1) (Token.end_array ∷ left_over) left_over one.0 refl)
  items_at [] (d ∷ ds) b n h le = absurd h
  items_at (s ∷ ss) [] b n h le = absurd h
  items_at (s ∷ ss) (d ∷ ds) b n h le =
      let us = punctuate after_comma (lex between (items_text ss)) in
      let here : punctuate (from b) (lex between (s ++ (44 ∷ items_text ss))) ≡ tokens s ++ us = item_cut b s comma (items_text ss) d h.0 ∙ ap (λ ts. tokens s ++ ts) (past_comma (items_text ss)) in
      let one = one_item s d n us h.0 (subst (λ l. length l ≤ n) here le) in
      ap (λ l. converted of_items (items (value 125) n l)) here ∙ one.1
      ∙ ap (parse_map (item d)) (items_at ss ds true (n - 1) h.1 one.0)

-- ---- the members of the root

pub walked : (ms : List Entry) (old new : List Token) (found : Members) (n : ℕ) → MembersRead ms old new → length old ≤ n
    → (k : ℕ) × (length new ≤ k) × (converted (λ js. of_members js found) (members (value 126) n old) ≡ converted (λ js. of_members js (put_entries ms found)) (members (value 126) k new))
walked [] old new found n h le = (n, omega (arith, ap length h), ap (λ l. converted (λ js. of_members js found) (members (value 126) n l)) h)
walked (m ∷ ms) old new found n h le =
    let s = h.0 in
    let r = h.1 in
    let less = read_key-shorter old (Some m.0.now) s h.2 in
    let lesser = not_longer 126 s r (view m.1) h.3 in
    let more = walked ms r new (put m.0.now (view m.1) found) (n - 1) h.4 (omega arith) in
    (more.0, more.1, member_read (value 126) found n m.0.now old s r (view m.1) (omega arith) h.2 h.3 ∙ more.2)

-- the tokens up to a key are fine, and a value may begin behind them
front_good : (ms : List Entry) (old : List Token) (key : List ℕ) → MembersRead ms old (Token.key key ∷ []) → AreGood old
front_good [] old key h = subst AreGood (sym h) (refl, tt)
front_good (m ∷ ms) old key h =
    let j = converted_some of_json (value 126 h.0) (view m.1) h.1 h.3 in
    let spelled = value-spelled 126 h.0 h.1 j.0 j.1 in
    subst AreGood (sym (read_key_is old (Some m.0.now) h.0 h.2)) (refl, subst AreGood (sym spelled) (good j.0 h.1 (front_good ms h.1 key h.4)))

front_left : (ms : List Entry) (old : List Token) (key : List ℕ) (p : Place) → MembersRead ms old (Token.key key ∷ []) → left_at p old ≡ fresh
front_left [] old key p h = ap (left_at p) h
front_left (m ∷ ms) old key p h =
    let j = converted_some of_json (value 126 h.0) (view m.1) h.1 h.3 in
    let spelled = value-spelled 126 h.0 h.1 j.0 j.1 in
    ap (left_at p) (read_key_is old (Some m.0.now) h.0 h.2) ∙ ap (left_at after_key) spelled ∙ left after_key j.0 h.1 ∙ front_left ms h.1 key after_value h.4

-- ---- the whole

pub whole : (key head last tail r : List ℕ) (ss : List (List ℕ)) (before after : List Entry) (ds : List Data) (end : Data)
    → tail ≡ 93 ∷ r → IsFront head key before → AllZip IsItem ss ds → IsItem last end → IsBack tail key after
    → read (head ++ (91 ∷ followed ss (last ++ tail))) ≡ Some (object (put_entries after (put key (array (items_with ds end)) (put_entries before no_members))))
whole key head last tail r ss before after ds end shut front each is back =
    let ts = front.0 in
    let mid = front.2.0 in
    let at_key : mid ≡ Token.key key ∷ [] = read_key_is mid (Some key) [] front.2.2 in
    let read_front : MembersRead before ts (Token.key key ∷ []) = subst (MembersRead before ts) at_key front.2.1 in
    let inner = followed ss (last ++ (93 ∷ r)) in
    let us = punctuate fresh (lex between inner) in
    let text = head ++ (91 ∷ inner) in
    let left_over = punctuate after_value (lex between r) in
    let fine : AreGood (tokens head) = subst AreGood (sym front.1) (refl, front_good before ts key read_front) in
    let place : left_at fresh (tokens head) ≡ fresh = ap (left_at fresh) front.1 ∙ front_left before ts key fresh read_front in
    let cut : tokens text ≡ Token.begin_object ∷ (ts ++ (Token.begin_array ∷ us)) =
    tokens-more fresh head opening inner fine ∙ ap (λ p. tokens head ++ punctuate p (lex between (91 ∷ inner))) place ∙ ap (λ l. tokens head ++ l) (past_opening inner)
    ∙ ap (λ l. l ++ (Token.begin_array ∷ us)) front.1 in
    let rest = ts ++ (Token.begin_array ∷ us) in
    let listed : converted of_json (value 126 (Token.begin_array ∷ us)) ≡ Some (array (items_with ds end), left_over) =
    ap (converted of_json) (value-begin_array 126 us (omega arith)) ∙ converted-array (items (value 125) (length us) us)
    ∙ ap (parse_map array) (items_at last r end is ss ds false (length us) each (omega arith)) in
    let first = walked before rest (Token.key key ∷ (Token.begin_array ∷ us)) no_members (length rest)
    (framed_members before ts (Token.key key ∷ []) (Token.begin_array ∷ us) read_front) (omega arith) in
    let found = put_entries before no_members in
    let n = first.0 in
    let shorter = not_longer 126 (Token.begin_array ∷ us) left_over (array (items_with ds end)) listed in
    let here = member_read (value 126) found n key (Token.key key ∷ (Token.begin_array ∷ us)) (Token.begin_array ∷ us) left_over (array (items_with ds end)) (omega (arith, first.1)) refl listed in
    let behind : back.0 ≡ left_over = ap (drop 1) (sym back.1 ∙ ap tokens shut ∙ closing_alone r) in
    let read_back : MembersRead after left_over back.2.0 = subst (λ l. MembersRead after l back.2.0) behind back.2.1 in
    let second = walked after left_over back.2.0 (put key (array (items_with ds end)) found) (n - 1) read_back (omega (arith, first.1, shorter)) in
    let all = put_entries after (put key (array (items_with ds end)) found) in
    let over = members_over (value 126) all second.0 back.2.0 [] second.1 back.2.2 in
    let objects : converted of_json (value 127 (tokens text)) ≡ Some (object all, []) =
    ap (λ l. converted of_json (value 127 l)) cut ∙ ap (converted of_json) (value-begin_object 127 rest (omega arith)) ∙ converted-object (members (value 126) (length rest) rest)
    ∙ ap (parse_map object) (first.2 ∙ here ∙ second.2 ∙ over) in
    ap (λ t. read (head ++ (91 ∷ followed ss (last ++ t)))) shut ∙ whole_read (value 127 (tokens text)) (object all) objects
