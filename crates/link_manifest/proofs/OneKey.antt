-- Objects with the one key `hex`, and those with another.
use Rattle.std.proofs.Common.{◌≡◌, ℕ, List, Bool, true, false, not, ◌||◌, None, Ordering, Less, Equal, Greater, nat_cmp, refl, sym, ap, ◌∙◌, codes, if◌then◌else◌}
use Rattle.std.proofs.lemmas.Map.Text.{is_eq-slice_cmp}
use Rattle.std.proofs.lemmas.Slice.Eq.{bytes_eq-Decides}
use Rattle.std.specs.Cmp.Lexicographic.{slice_cmp}
use Rattle.std.specs.Ordering.{is_eq, match_ordering}
use Rattle.std.specs.Str.{bytes_eq}
use Rattle.json.specs.Json as json
use Rattle.serde_json.specs.Data.{Data, Members, no_members, member, put}
use Rattle.serde_json.specs.Find.{as_str}
use Rattle.link_manifest_json.specs.Tree.{data_of, put_all}
use Rattle.link_manifest.specs.Values.{hex_text}

-- a member with the key `hex` stands alone once it is put
abbrev pub IsReplaced : Members → Type 0
IsReplaced ms = (d : Data) → put (codes "hex") d ms ≡ member (codes "hex") d no_members

pub none-replaced : IsReplaced no_members
none-replaced d = refl

pub one-replaced : (e : Data) → IsReplaced (member (codes "hex") e no_members)
one-replaced e d = refl

pub hex_text-one : (d : Data) → hex_text (member (codes "hex") d no_members) ≡ as_str d
hex_text-one d = refl

-- a key is not `hex`
abbrev has_other : Members → Bool
has_other no_members = false
has_other (member k d ms) = not (bytes_eq k (codes "hex")) || has_other ms

other-here : (b : Bool) (d : Data) → not b || false ≡ true → (if b then as_str d else None) ≡ None
other-here true d e = cc
other-here false d e = refl

hex_text-other : (ms : Members) → has_other ms ≡ true → hex_text ms ≡ None
hex_text-other no_members e = cc
hex_text-other (member k d no_members) e = other-here (bytes_eq k (codes "hex")) d e
hex_text-other (member k d (member l f ms)) e = refl

behind : (b c : Bool) → c ≡ true → not b || c ≡ true
behind true c e = e
behind false c e = refl

kept-behind : (b c d : Bool) → (c ≡ true → d ≡ true) → not b || c ≡ true → not b || d ≡ true
kept-behind true c d f e = f e
kept-behind false c d f e = refl

other-put_at : (o : Ordering) (k l : List ℕ) (d e : Data) (ms : Members) → has_other (member l e ms) ≡ true → (has_other ms ≡ true → has_other (put k d ms) ≡ true)
    → has_other (match_ordering o (member k d (member l e ms)) (member l d ms) (member l e (put k d ms))) ≡ true
other-put_at Less k l d e ms other later = behind (bytes_eq k (codes "hex")) _ other
other-put_at Equal k l d e ms other later = other
other-put_at Greater k l d e ms other later = kept-behind (bytes_eq l (codes "hex")) (has_other ms) (has_other (put k d ms)) later other

other-put : (k : List ℕ) (d : Data) (ms : Members) → has_other ms ≡ true → has_other (put k d ms) ≡ true
other-put k d no_members other = cc
other-put k d (member l e ms) other = other-put_at (slice_cmp nat_cmp k l) k l d e ms other (other-put k d ms)

new-put_at : (o : Ordering) (k l : List ℕ) (d e : Data) (ms : Members) → slice_cmp nat_cmp k l ≡ o → bytes_eq k (codes "hex") ≡ false → has_other (put k d ms) ≡ true
    → has_other (match_ordering o (member k d (member l e ms)) (member l d ms) (member l e (put k d ms))) ≡ true
new-put_at Less k l d e ms is other later = rw other
new-put_at Equal k l d e ms is other later =
    let same : k ≡ l = (bytes_eq-Decides k l).0 (sym (is_eq-slice_cmp k l) ∙ ap is_eq is) in
    let there : bytes_eq l (codes "hex") ≡ false = rw same at other in
    rw there
new-put_at Greater k l d e ms is other later = behind (bytes_eq l (codes "hex")) _ later

new-put : (k : List ℕ) (d : Data) (ms : Members) → bytes_eq k (codes "hex") ≡ false → has_other (put k d ms) ≡ true
new-put k d no_members other = rw other
new-put k d (member l e ms) other = new-put_at (slice_cmp nat_cmp k l) k l d e ms refl other (new-put k d ms other)

other-put_all : (js : json.Members) (found : Members) → has_other found ≡ true → has_other (put_all js found) ≡ true
other-put_all json.no_members found other = other
other-put_all (json.member k j js) found other = other-put_all js (put k (data_of j) found) (other-put k (data_of j) found other)

-- an object with another key has no such text
pub no-hex_text : (k : List ℕ) (j : json.Json) (js : json.Members) (found : Members) → bytes_eq k (codes "hex") ≡ false → hex_text (put_all (json.member k j js) found) ≡ None
no-hex_text k j js found other = hex_text-other (put_all js (put k (data_of j) found)) (other-put_all js (put k (data_of j) found) (new-put k (data_of j) found other))
