-- A value that was read is its tokens, and what is left; so is one with more behind it.
use Rattle.std.proofs.Common.{◌≡◌, ℕ, zero, suc, Bool, true, false, List, [], ◌∷◌, ◌++◌, length, Option, Some, None, option_and_then, refl, sym, ap, ◌∙◌, subst}
use Rattle.std.proofs.lemmas.List.{append_assoc}
use Rattle.std.proofs.lemmas.Bool.{false≢true}
use Rattle.std.specs.Prelude.{⊤}
use Rattle.json.specs.Token.{Token}
use Rattle.json.specs.Json.{Json, null, boolean, number, string, array, object, Items, no_items, item, Members, no_members, member, Parse, parse_map, after_end_array, read_key, items_step, members_step, items, members, value_with, value}
use Rattle.json.specs.Lex.{Lexeme, token, comma, colon, Place, fresh, after_value, after_comma, after_key, begins_colon, place_token, punctuate}
use Rattle.json.specs.Tree.{json_tokens, items_tokens, members_tokens}
use Rattle.json.proofs.Grammar.{closed_array, read_key_is}
use Rattle.link_manifest_json.proofs.Placing.{AreGood, left_at}

abbrev Spelled : {A : Type 0} → (A → List Token) → List Token → Option (A × List Token) → Type 0
Spelled f ts None = ⊤
Spelled f ts (Some p) = ts ≡ f p.0 ++ p.1

abbrev Spells : {A : Type 0} → (A → List Token) → Parse A → Type 0
Spells f p = (ts : List Token) → Spelled f ts (p ts)

mapped : {A B : Type 0} (f : A → List Token) (g : B → List Token) (pre ts : List Token) (h : A → B) → ((a : A) → g (h a) ≡ pre ++ f a) → (o : Option (A × List Token)) → Spelled f ts o → Spelled g (pre ++ ts) (parse_map h o)
mapped f g pre ts h e None x = tt
mapped f g pre ts h e (Some p) x = ap (λ l. pre ++ l) x ∙ sym (append_assoc pre (f p.0) p.1) ∙ ap (λ l. l ++ p.1) (sym (e p.0))

and_more : {B : Type 0} (g : B → List Token) (pre ts : List Token) (h : Json → B → B) → ((j : Json) (b : B) → g (h j b) ≡ pre ++ (json_tokens j ++ g b)) → (more : Parse B) → Spells g more
    → (o : Option (Json × List Token)) → Spelled json_tokens ts o → Spelled g (pre ++ ts) (option_and_then (λ q. parse_map (h q.0) (more q.1)) o)
and_more g pre ts h is more again None x = tt
and_more g pre ts h is more again (Some q) x =
    subst (λ l. Spelled g l (parse_map (h q.0) (more q.1))) (append_assoc pre (json_tokens q.0) q.1 ∙ ap (λ l. pre ++ l) (sym x))
    (mapped g g (pre ++ json_tokens q.0) q.1 (h q.0) (λ b. is q.0 b ∙ sym (append_assoc pre (json_tokens q.0) (g b))) (more q.1) (again q.1))

module _ (p : Parse Json) (spells : Spells json_tokens p) where
  item_turn : (more : Parse Items) → Spells items_tokens more → (ts : List Token) (o : Option (List Token)) → after_end_array ts ≡ o → Spelled items_tokens ts (items_step p more ts o)
  item_turn more again ts (Some r) e = closed_array ts r e
  item_turn more again ts None e = and_more items_tokens [] ts item (λ j b. refl) more again (p ts) (spells ts)

  Spells-items : (n : ℕ) → Spells items_tokens (items p n)
  unfolding items
  Spells-items zero ts = tt
  Spells-items (suc n) ts = item_turn (items p n) (Spells-items n) ts (after_end_array ts) refl

  member_turn : (more : Parse Members) → Spells members_tokens more → (ts : List Token) (o : Option (Option (List ℕ) × List Token)) → read_key ts ≡ o
      → Spelled members_tokens ts (option_and_then (λ q. members_step p more q.0 q.1) o)
  member_turn more again ts None e = tt
  member_turn more again ts (Some (None, s)) e = read_key_is ts None s e
  member_turn more again ts (Some (Some k, s)) e =
      subst (λ l. Spelled members_tokens l (option_and_then (λ q. parse_map (member k q.0) (more q.1)) (p s))) (sym (read_key_is ts (Some k) s e))
      (and_more members_tokens (Token.key k ∷ []) s (member k) (λ j b. refl) more again (p s) (spells s))

  Spells-members : (n : ℕ) → Spells members_tokens (members p n)
  unfolding members
  Spells-members zero ts = tt
  Spells-members (suc n) ts = member_turn (members p n) (Spells-members n) ts (read_key ts) refl

one_level : (a : Parse Items) (o : Parse Members) → ((ts : List Token) → Spelled json_tokens (Token.begin_array ∷ ts) (parse_map array (a ts))) → ((ts : List Token) → Spelled json_tokens (Token.begin_object ∷ ts) (parse_map object (o ts)))
    → Spells json_tokens (value_with a o)
one_level a o p q [] = tt
one_level a o p q (Token.begin_object ∷ ts) = q ts
one_level a o p q (Token.end_object ∷ ts) = tt
one_level a o p q (Token.begin_array ∷ ts) = p ts
one_level a o p q (Token.end_array ∷ ts) = tt
one_level a o p q (Token.key s ∷ ts) = tt
one_level a o p q (Token.string s ∷ ts) = refl
one_level a o p q (Token.number s ∷ ts) = refl
one_level a o p q (Token.boolean b ∷ ts) = refl
one_level a o p q (Token.null ∷ ts) = refl
one_level a o p q (Token.bad ∷ ts) = tt

Spells-value : (d : ℕ) → Spells json_tokens (value d)
unfolding value
Spells-value zero = one_level (λ ts. None) (λ ts. None) (λ ts. tt) (λ ts. tt)
Spells-value (suc d) =
    one_level (λ ts. items (value d) (length ts) ts) (λ ts. members (value d) (length ts) ts)
    (λ ts. mapped items_tokens json_tokens (Token.begin_array ∷ []) ts array (λ js. refl) _ (Spells-items (value d) (Spells-value d) (length ts) ts))
    (λ ts. mapped members_tokens json_tokens (Token.begin_object ∷ []) ts object (λ ms. refl) _ (Spells-members (value d) (Spells-value d) (length ts) ts))

pub value-spelled : (d : ℕ) (ts r : List Token) (j : Json) → value d ts ≡ Some (j, r) → ts ≡ json_tokens j ++ r
value-spelled d ts r j e = subst (Spelled json_tokens ts) e (Spells-value d ts)

-- ---- the tokens of a value

mutual
  pub good : (j : Json) (ts : List Token) → AreGood ts → AreGood (json_tokens j ++ ts)
  good null ts h = (refl, h)
  good (boolean b) ts h = (refl, h)
  good (number s) ts h = (refl, h)
  good (string s) ts h = (refl, h)
  good (array js) ts h = (refl, good_items js ts h)
  good (object ms) ts h = (refl, good_members ms ts h)

  good_items : (js : Items) (ts : List Token) → AreGood ts → AreGood (items_tokens js ++ ts)
  good_items no_items ts h = (refl, h)
  good_items (item j js) ts h = subst AreGood (sym (append_assoc (json_tokens j) (items_tokens js) ts)) (good j (items_tokens js ++ ts) (good_items js ts h))

  good_members : (ms : Members) (ts : List Token) → AreGood ts → AreGood (members_tokens ms ++ ts)
  good_members no_members ts h = (refl, h)
  good_members (member k j ms) ts h = (refl, subst AreGood (sym (append_assoc (json_tokens j) (members_tokens ms) ts)) (good j (members_tokens ms ++ ts) (good_members ms ts h)))

mutual
  pub left : (p : Place) (j : Json) (ts : List Token) → left_at p (json_tokens j ++ ts) ≡ left_at after_value ts
  left p null ts = refl
  left p (boolean b) ts = refl
  left p (number s) ts = refl
  left p (string s) ts = refl
  left p (array js) ts = left_items fresh js ts
  left p (object ms) ts = left_members fresh ms ts

  left_items : (p : Place) (js : Items) (ts : List Token) → left_at p (items_tokens js ++ ts) ≡ left_at after_value ts
  left_items p no_items ts = refl
  left_items p (item j js) ts = ap (left_at p) (append_assoc (json_tokens j) (items_tokens js) ts) ∙ left p j (items_tokens js ++ ts) ∙ left_items after_value js ts

  left_members : (p : Place) (ms : Members) (ts : List Token) → left_at p (members_tokens ms ++ ts) ≡ left_at after_value ts
  left_members p no_members ts = refl
  left_members p (member k j ms) ts =
      ap (left_at after_key) (append_assoc (json_tokens j) (members_tokens ms) ts) ∙ left after_key j (members_tokens ms ++ ts) ∙ left_members after_value ms ts

abbrev pub starts_value : List Token → Bool
starts_value [] = false
starts_value (Token.begin_object ∷ ts) = true
starts_value (Token.end_object ∷ ts) = false
starts_value (Token.begin_array ∷ ts) = true
starts_value (Token.end_array ∷ ts) = false
starts_value (Token.key s ∷ ts) = false
starts_value (Token.string s ∷ ts) = true
starts_value (Token.number s ∷ ts) = true
starts_value (Token.boolean b ∷ ts) = true
starts_value (Token.null ∷ ts) = true
starts_value (Token.bad ∷ ts) = false

pub starts : (j : Json) (ts : List Token) → starts_value (json_tokens j ++ ts) ≡ true
starts null ts = refl
starts (boolean b) ts = refl
starts (number s) ts = refl
starts (string s) ts = refl
starts (array js) ts = refl
starts (object ms) ts = refl

other : {P : Type 0} → false ≡ true → P
other h = absurd (false≢true h)

text_too : (s : List ℕ) (b : Bool) (k : Place → List Token) → starts_value (place_token fresh (Token.string s) b k) ≡ true → place_token after_comma (Token.string s) b k ≡ place_token fresh (Token.string s) b k
text_too s true k h = refl
text_too s false k h = refl

-- a value behind a comma is one that stands alone
pub behind_comma : (ls : List Lexeme) → starts_value (punctuate fresh ls) ≡ true → punctuate after_comma ls ≡ punctuate fresh ls
unfolding punctuate
behind_comma [] h = other h
behind_comma (token Token.begin_object ∷ ls) h = refl
behind_comma (token Token.end_object ∷ ls) h = other h
behind_comma (token Token.begin_array ∷ ls) h = refl
behind_comma (token Token.end_array ∷ ls) h = other h
behind_comma (token (Token.key s) ∷ ls) h = other h
behind_comma (token (Token.string s) ∷ ls) h = text_too s (begins_colon ls) (λ n. punctuate n ls) h
behind_comma (token (Token.number s) ∷ ls) h = refl
behind_comma (token (Token.boolean b) ∷ ls) h = refl
behind_comma (token Token.null ∷ ls) h = refl
behind_comma (token Token.bad ∷ ls) h = other h
behind_comma (comma ∷ ls) h = other h
behind_comma (colon ∷ ls) h = other h
