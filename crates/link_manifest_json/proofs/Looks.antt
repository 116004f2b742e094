-- Looking into the data of a value is looking into the value.
use Rattle.std.proofs.Common.{◌≡◌, ℕ, List, Bool, true, false, cond, Option, Some, None, option_map, Bor, refl, sym, ap, ◌∙◌}
use Rattle.std.proofs.lemmas.Slice.Eq.{bytes_eq-Decides}
use Rattle.std.specs.Str.{bytes_eq}
use Rattle.json.specs.Find as find
use Rattle.json.specs.Json as json
use Rattle.serde_json.specs.Data.{Data, Members, no_members, put}
use Rattle.serde_json.specs.Find.{get, get_member}
use Rattle.serde_json.proofs.Views.{get_member-put, get_member-put_other}
use Rattle.json.specs.Value.{value_view}
use Rattle.json.specs.declared.value.Value.{Value}
use Rattle.link_manifest_json.specs.Tree.{data_of, put_all, view}

-- the first of two values, where there is one
abbrev or_earlier : Option Data → Option Data → Option Data
or_earlier None earlier = earlier
or_earlier (Some d) earlier = Some d

-- the value of a key after one more member, by whether the member has the key
found_here : (name k : List ℕ) (j : json.Json) (found : Members) (b : Bool) → bytes_eq k name ≡ b
    → get_member name (put k (data_of j) found) ≡ or_earlier (option_map data_of (cond b (Some j) None)) (get_member name found)
found_here name k j found true is =
    let same : k ≡ name = (bytes_eq-Decides k name).0 is in
    rw same (get_member-put name (data_of j) found)
found_here name k j found false is =
    get_member-put_other name k (data_of j) found (λ same. absurd (let here : bytes_eq k name ≡ true = (bytes_eq-Decides k name).1 (sym same) in cc))

-- a later member counts before an earlier one
found_later : (o e : Option json.Json) (d : Option Data)
    → or_earlier (option_map data_of o) (or_earlier (option_map data_of e) d) ≡ or_earlier (option_map data_of (find.later_or o e)) d
found_later None e d = refl
found_later (Some j) e d = refl

get_member-put_all : (name : List ℕ) (ms : json.Members) (found : Members)
    → get_member name (put_all ms found) ≡ or_earlier (option_map data_of (find.get_member name ms)) (get_member name found)
get_member-put_all name json.no_members found = refl
get_member-put_all name (json.member k j ms) found =
    get_member-put_all name ms (put k (data_of j) found)
    ∙ ap (or_earlier (option_map data_of (find.get_member name ms))) (found_here name k j found (bytes_eq k name) refl)
    ∙ found_later (find.get_member name ms) (cond (bytes_eq k name) (Some j) None) (get_member name found)

or_none : (o : Option Data) → or_earlier o None ≡ o
or_none None = refl
or_none (Some d) = refl

pub get-data_of : (name : List ℕ) (j : json.Json) → get name (data_of j) ≡ option_map data_of (find.get name j)
get-data_of name json.null = refl
get-data_of name (json.boolean b) = refl
get-data_of name (json.number s) = refl
get-data_of name (json.string s) = refl
get-data_of name (json.array js) = refl
get-data_of name (json.object ms) = get_member-put_all name ms no_members ∙ or_none _

-- the data of a value that was found
pub seen-within : {A : Type 0} (found : Option (Bor (Value A))) → option_map (λ v. view v.now) found ≡ option_map data_of (option_map (λ v. value_view v.now) found)
seen-within None = refl
seen-within (Some v) = refl
