-- Named versions by their grammar, with their faults.
use Rattle.std.proofs.Common.{◌≡◌, ◌==◌, ℕ, zero, suc, ◌+◌, ◌<◌, true, false, cond, List, [], ◌∷◌, ◌++◌, length, take, drop, Option, Some, None, Result, Ok, refl, sym, ap, subst, ◌∙◌, ◌⊎◌, inl, inr, arith}
use Rattle.std.specs.Prelude.{position, slice_get}
use Rattle.std.specs.Str.{bytes_eq}
use Rattle.std.proofs.lemmas.Bool.{eqb-true, eqb-false, eq-eqb, ne_eqb}
use Rattle.std.proofs.lemmas.Slice.Eq.{bytes_eq-Decides}
use Rattle.std.proofs.lemmas.List.{length-append, take_at, drop_at}
use Rattle.link_script_syntax.specs.declared.fault.Fault.{Fault}
use Rattle.link_script_syntax.specs.declared.fault.ScriptErrorKind.{ScriptErrorKind}
use Rattle.link_script_syntax.specs.declared.fault.ScriptErrorKind.TheVariants.{Syntax, UnknownParentVersion, TooManyVersions}
use Rattle.link_script_syntax.specs.declared.body.RawVersionBody.{RawVersionBody}
use Rattle.link_script_syntax.specs.declared.named.RawVersion.{RawVersion}
use Rattle.link_script_syntax.specs.declared.profile.ScriptProfile.{ScriptProfile}
use Rattle.link_script_syntax.specs.Fault.{◌>>=◌, refuse}
use Rattle.link_script_syntax.specs.Blanks.{Skipped}
use Rattle.link_script_syntax.specs.Many.{grow}
use Rattle.link_script_syntax.specs.Skip.{skip}
use Rattle.link_script_syntax.specs.Token.{Without}
use Rattle.link_script_syntax.specs.Body.{body_at}
use Rattle.link_script_syntax.specs.Named.{is_name_byte, name_len, number_of, raw_names, most_versions, parent_known, parent_ended, parent_at, named_at, as_item, version_turn, versions_only, versions_at}
use Rattle.link_script_syntax.specs.Grammar.{Repeats, IsBody, IsFirstNamed, ParentIs, IsParent, AreNameBytes, EndsName, IsNamed, VersionTurn}
use Rattle.link_script_syntax.specs.Faults as faults
use Rattle.link_script_syntax.specs.Faults.{RepeatFails, IsUnknown, ParentFails, IsNameOfVersion, NamedFails, VersionTurnFails}
use Rattle.link_script_syntax.proofs.Skipping.{skip_is, skip_fails, skip_or_not}
use Rattle.link_script_syntax.proofs.TokenLaws.{place_is, no_place, stops_or_not}
use Rattle.link_script_syntax.proofs.Places.{is_or, bind_is, bind_err, some_same, no_test, skipped_shorter}
use Rattle.link_script_syntax.proofs.Judged.{Either, Judges}
use Rattle.link_script_syntax.proofs.Repeated.{TurnJudged, repeats_judged}
use Rattle.link_script_syntax.proofs.BodyLaws.{body_judged, body_shorter}

-- ---- names

abbrev NameEnds : List ℕ → Type 0
NameEnds text = (name behind : List ℕ) × (text ≡ name ++ behind) × AreNameBytes name × EndsName behind

-- the bytes of a name that stand in front
name_of : (text : List ℕ) → NameEnds text
name_of [] = ([], [], refl, tt, tt)
name_of (c ∷ text) = elim (is_or (is_name_byte c)) as (λ _. NameEnds (c ∷ text)) [
  | inl is ↦ let k = name_of text in (c ∷ k.0, k.1, ap (λ (t : List ℕ). c ∷ t) k.2, (is, k.3), k.4)
  | inr ends ↦ ([], c ∷ text, refl, tt, ends)
]

name_len_is : (name behind : List ℕ) → AreNameBytes name → EndsName behind → name_len (name ++ behind) ≡ length name
name_len_is [] [] are ends = refl
name_len_is [] (c ∷ behind) are ends = rw ends refl
name_len_is (c ∷ name) behind are ends = rw (are.0) (ap (λ n. suc n) (name_len_is name behind are.1 ends))

-- ---- parents

number_only : (k : ℕ) (versions : List RawVersion) (name : List ℕ) (n : ℕ) → IsFirstNamed (raw_names versions) name n → number_of k versions name ≡ Some (k + n)
number_only k [] name n f = absurd (let at = f.0 in cc)
number_only k (v ∷ versions) name zero f = rw ((bytes_eq-Decides v.name name).1 (some_same v.name name f.0)) (ap (λ (j : ℕ). Some j) (omega arith))
number_only k (v ∷ versions) name (suc n) f =
    rw (no_test (bytes_eq v.name name) (λ t. f.1 0 (omega arith) (ap (λ (x : List ℕ). Some x) ((bytes_eq-Decides v.name name).0 t))))
    (number_only (suc k) versions name n (f.0, λ j less at. f.1 (suc j) (omega arith) at) ∙ ap (λ (j : ℕ). Some j) (omega arith))

number_none : (k : ℕ) (versions : List RawVersion) (name : List ℕ) → IsUnknown (raw_names versions) name → number_of k versions name ≡ None
number_none k [] name never = refl
number_none k (v ∷ versions) name never =
    rw (no_test (bytes_eq v.name name) (λ t. never 0 (ap (λ (x : List ℕ). Some x) ((bytes_eq-Decides v.name name).0 t)))) (number_none (suc k) versions name (λ n at. never (suc n) at))

not_before : (v : RawVersion) (versions : List RawVersion) (name : List ℕ) (n : ℕ) → bytes_eq v.name name ≡ false → IsFirstNamed (raw_names versions) name n → (j : ℕ) → j < suc n → slice_get (raw_names (v ∷ versions)) j ≡ Some name → ⊥
not_before v versions name n is f zero less at = let k : bytes_eq v.name name ≡ true = (bytes_eq-Decides v.name name).1 (some_same v.name name at) in cc
not_before v versions name n is f (suc j) less at = f.1 j (omega arith) at

unknown_more : (v : RawVersion) (versions : List RawVersion) (name : List ℕ) → bytes_eq v.name name ≡ false → IsUnknown (raw_names versions) name → IsUnknown (raw_names (v ∷ versions)) name
unknown_more v versions name is never zero at = let k : bytes_eq v.name name ≡ true = (bytes_eq-Decides v.name name).1 (some_same v.name name at) in cc
unknown_more v versions name is never (suc n) at = never n at

abbrev KnownOrNot : List RawVersion → List ℕ → Type 0
KnownOrNot versions name = ((n : ℕ) × IsFirstNamed (raw_names versions) name n) ⊎ IsUnknown (raw_names versions) name

known_more : (v : RawVersion) (versions : List RawVersion) (name : List ℕ) → bytes_eq v.name name ≡ false → KnownOrNot versions name → KnownOrNot (v ∷ versions) name
known_more v versions name is (inl f) = inl (suc f.0, (f.1.0, λ j less at. not_before v versions name f.0 is f.1 j less at))
known_more v versions name is (inr never) = inr (unknown_more v versions name is never)

known_or_not : (versions : List RawVersion) (name : List ℕ) → KnownOrNot versions name
known_or_not [] name = inr (λ n at. cc)
known_or_not (v ∷ versions) name = elim (is_or (bytes_eq v.name name)) as (λ _. KnownOrNot (v ∷ versions) name) [
  | inl is ↦ inl (0, (ap (λ (x : List ℕ). Some x) ((bytes_eq-Decides v.name name).0 is), λ j less at. omega arith))
  | inr other ↦ known_more v versions name other (known_or_not versions name)
]

-- what a parent that ends there leaves to be read
parent_by : (front : List RawVersion) (text name after : List ℕ) → text ≡ name ++ 59 ∷ after → Without 59 name → parent_at front text ≡ cond (length name == 0) (Ok (None, after)) (parent_known (number_of 1 front name) text after)
unfolding parent_at
parent_by front text name after whole plain =
    let at : position (λ c. c == 59) text ≡ Some (length name) = ap (position (λ c. c == 59)) whole ∙ place_is 59 name after plain in
    let front_is : take (length name) text ≡ name = ap (take (length name)) whole ∙ take_at name (59 ∷ after) (length name) refl in
    let back : drop (length name) text ≡ 59 ∷ after = ap (drop (length name)) whole ∙ drop_at name (59 ∷ after) (length name) refl in
    ap (parent_ended front text) at ∙ rw (front_is, back) refl

parent_means : (front : List RawVersion) (text name : List ℕ) (p : Option ℕ) (after : List ℕ) → ParentIs front name p → cond (length name == 0) (Ok (None, after)) (parent_known (number_of 1 front name) text after) ≡ Ok (p, after)
parent_means front text [] p after is = ap (λ (q : Option ℕ). Ok (q, after)) (sym is)
parent_means front text (c ∷ name) p after is =
    rw (ne_eqb (length (c ∷ name)) 0 (λ e. omega arith), number_only 1 front (c ∷ name) is.0 is.1) (ap (λ (q : Option ℕ). Ok (q, after)) (sym (is.2 ∙ ap (λ (j : ℕ). Some j) (omega arith))))

parent_only : (front : List RawVersion) (text : List ℕ) (p : Option ℕ) (after : List ℕ) → IsParent front text p after → parent_at front text ≡ Ok (p, after)
parent_only front text p after h = parent_by front text h.0 after h.1 h.2 ∙ parent_means front text h.0 p after h.3

parent_fails : (front : List RawVersion) (text : List ℕ) (kind : ScriptErrorKind) (at : List ℕ) → ParentFails front text kind at → parent_at front text ≡ refuse kind at
unfolding parent_at
parent_fails front text kind at (faults.endless never) = ap (parent_ended front text) (no_place 59 text never)
parent_fails front text kind at (faults.unknown name after whole plain some never) =
    parent_by front text name after whole plain ∙ rw (ne_eqb (length name) 0 (λ e. omega arith), number_none 1 front name never) refl

abbrev IsParentHere : List RawVersion → List ℕ → Option ℕ × List ℕ → Type 0
IsParentHere front text x = IsParent front text x.0 x.1

parent_on : (front : List RawVersion) (text name after : List ℕ) → text ≡ name ++ 59 ∷ after → Without 59 name → Either (IsParentHere front text) (ParentFails front text)
parent_on front text [] after whole plain = inl ((None, after), ([], whole, plain, refl))
parent_on front text (c ∷ name) after whole plain = elim (known_or_not front (c ∷ name)) as (λ _. Either (IsParentHere front text) (ParentFails front text)) [
  | inl n ↦ inl ((Some (suc n.0), after), (c ∷ name, whole, plain, (n.0, n.1, refl)))
  | inr never ↦ inr (UnknownParentVersion, text, faults.unknown (c ∷ name) after whole plain (omega arith) never)
]

parent_either : (front : List RawVersion) (text : List ℕ) → Either (IsParentHere front text) (ParentFails front text)
parent_either front text = elim (stops_or_not 59 text) as (λ _. Either (IsParentHere front text) (ParentFails front text)) [
  | inl s ↦ parent_on front text s.0 s.1 s.2 s.3
  | inr never ↦ inr (Syntax, text, faults.endless never)
]

parent_shorter : (front : List RawVersion) (text : List ℕ) (p : Option ℕ) (after : List ℕ) → IsParent front text p after → length after < length text
parent_shorter front text p after h = let w : length text ≡ length (h.0 ++ 59 ∷ after) = ap length h.1 in omega (arith, length-append h.0 (59 ∷ after))

-- ---- a named version

abbrev version_of_parts : List ℕ → RawVersionBody → Option ℕ → RawVersion
version_of_parts name body parent = record { name = name; parent_index = parent; body = body }

-- behind the parent, behind the body, and at the body
abbrev ended : List ℕ → RawVersionBody → Option ℕ → List ℕ → Result (RawVersion × List ℕ) Fault
ended name body parent rest = Ok (version_of_parts name body parent, rest)

abbrev at_the_end : List ℕ → RawVersionBody → Option ℕ × List ℕ → Result (RawVersion × List ℕ) Fault
at_the_end name body p = skip p.1 >>= ended name body p.0

abbrev at_the_parent : List RawVersion → List ℕ → RawVersionBody × List ℕ → Result (RawVersion × List ℕ) Fault
at_the_parent front name b = parent_at front b.1 >>= at_the_end name b.0

abbrev at_the_body : ScriptProfile → List RawVersion → List ℕ → List ℕ → Result (RawVersion × List ℕ) Fault
at_the_body profile front name rest = body_at profile rest >>= at_the_parent front name

behind_name : (profile : ScriptProfile) (front : List RawVersion) (text name behind : List ℕ) → IsNameOfVersion front text name behind → named_at profile front text ≡ (skip behind >>= at_the_body profile front name)
unfolding named_at
behind_name profile front text name behind n =
    let some = n.some in
    let len : name_len text ≡ length name = ap name_len n.whole ∙ name_len_is name behind n.bytes n.ends in
    let front_is : take (length name) text ≡ name = ap (take (length name)) n.whole ∙ take_at name behind (length name) refl in
    let back : drop (length name) text ≡ behind = ap (drop (length name)) n.whole ∙ drop_at name behind (length name) refl in
    rw (len, front_is, back, ne_eqb (length name) 0 (λ e. omega arith), ne_eqb (length front) most_versions n.room) refl

behind_blanks : (profile : ScriptProfile) (front : List RawVersion) (text name behind here : List ℕ) (r : Result (RawVersion × List ℕ) Fault) → IsNameOfVersion front text name behind → Skipped behind here → at_the_body profile front name here ≡ r → named_at profile front text ≡ r
behind_blanks profile front text name behind here r n s is = behind_name profile front text name behind n ∙ bind_is (skip behind) (at_the_body profile front name) here r (skip_is behind here s) is

behind_body : (profile : ScriptProfile) (front : List RawVersion) (text name behind here there : List ℕ) (body : RawVersionBody) (r : Result (RawVersion × List ℕ) Fault) → IsNameOfVersion front text name behind → Skipped behind here → IsBody profile here body there
    → at_the_parent front name (body, there) ≡ r → named_at profile front text ≡ r
behind_body profile front text name behind here there body r n s b is = behind_blanks profile front text name behind here r n s (bind_is (body_at profile here) (at_the_parent front name) (body, there) r ((body_judged profile here).values (body, there) b) is)

behind_parent : (profile : ScriptProfile) (front : List RawVersion) (text name behind here there after : List ℕ) (body : RawVersionBody) (parent : Option ℕ) (r : Result (RawVersion × List ℕ) Fault) → IsNameOfVersion front text name behind → Skipped behind here → IsBody profile here body there → IsParent front there parent after
    → at_the_end name body (parent, after) ≡ r → named_at profile front text ≡ r
behind_parent profile front text name behind here there after body parent r n s b p is =
    behind_body profile front text name behind here there body r n s b (bind_is (parent_at front there) (at_the_end name body) (parent, after) r (parent_only front there parent after p) is)

named_only : (profile : ScriptProfile) (front : List RawVersion) (text : List ℕ) (v : RawVersion) (rest : List ℕ) → IsNamed profile front text v rest → named_at profile front text ≡ Ok (v, rest)
named_only profile front text v rest n =
    behind_parent profile front text v.name n.behind n.at_body n.at_parent n.at_end v.body v.parent_index (Ok (v, rest)) (record { whole = n.whole; some = n.some; bytes = n.name; ends = n.ends; room = n.room }) n.blanks n.body n.parent
    (bind_is (skip n.at_end) (ended v.name v.body v.parent_index) rest (Ok (v, rest)) (skip_is n.at_end rest n.end) refl)

no_name_fails : (profile : ScriptProfile) (front : List RawVersion) (text : List ℕ) → EndsName text → named_at profile front text ≡ refuse Syntax text
unfolding named_at
no_name_fails profile front text ends = let none : name_len text ≡ 0 = name_len_is [] text tt ends in rw none refl

too_many_fails : (profile : ScriptProfile) (front : List RawVersion) (c : ℕ) (rest : List ℕ) → is_name_byte c ≡ true → length front ≡ most_versions → named_at profile front (c ∷ rest) ≡ refuse TooManyVersions (c ∷ rest)
unfolding named_at
too_many_fails profile front c rest is many = rw (is, ne_eqb (suc (name_len rest)) 0 (λ e. omega arith), eq-eqb (length front) most_versions many) refl

named_fails : (profile : ScriptProfile) (front : List RawVersion) (text : List ℕ) (kind : ScriptErrorKind) (at : List ℕ) → NamedFails profile front text kind at → named_at profile front text ≡ refuse kind at
named_fails profile front text kind at (faults.no_name ends) = no_name_fails profile front text ends
named_fails profile front text kind at (faults.too_many c rest whole is many) = ap (named_at profile front) whole ∙ too_many_fails profile front c rest is many ∙ ap (λ t. refuse TooManyVersions t) (sym whole)
named_fails profile front text kind at (faults.comment name behind at' n u) =
    behind_name profile front text name behind n ∙ bind_err (skip behind) (at_the_body profile front name) (record { left = length at; kind = Syntax }) (skip_fails behind at u)
named_fails profile front text kind at (faults.body name behind here at' kind' n s f) =
    behind_blanks profile front text name behind here (refuse kind at) n s (bind_err (body_at profile here) (at_the_parent front name) (record { left = length at; kind = kind }) ((body_judged profile here).faults kind at f))
named_fails profile front text kind at (faults.parent name behind here there at' kind' body n s b f) =
    behind_body profile front text name behind here there body (refuse kind at) n s b (bind_err (parent_at front there) (at_the_end name body) (record { left = length at; kind = kind }) (parent_fails front there kind at f))
named_fails profile front text kind at (faults.comment_behind name behind here there after at' body parent n s b p u) =
    behind_parent profile front text name behind here there after body parent (refuse Syntax at) n s b p (bind_err (skip after) (ended name body parent) (record { left = length at; kind = Syntax }) (skip_fails after at u))

abbrev IsNamedHere : ScriptProfile → List RawVersion → List ℕ → RawVersion × List ℕ → Type 0
IsNamedHere profile front text x = IsNamed profile front text x.0 x.1

end_either : (profile : ScriptProfile) (front : List RawVersion) (text name behind here there after : List ℕ) (body : RawVersionBody) (parent : Option ℕ) → IsNameOfVersion front text name behind → Skipped behind here → IsBody profile here body there → IsParent front there parent after → Either (IsNamedHere profile front text) (NamedFails profile front text)
end_either profile front text name behind here there after body parent n s b p = elim (skip_or_not after) as (λ _. Either (IsNamedHere profile front text) (NamedFails profile front text)) [
  | inl e ↦ inl (
    (version_of_parts name body parent, e.0),
    record { behind = behind; at_body = here; at_parent = there; at_end = after; whole = n.whole; some = n.some; name = n.bytes; ends = n.ends; room = n.room; blanks = s; body = b; parent = p; end = e.1 },
  )
  | inr u ↦ inr (Syntax, u.0, faults.comment_behind name behind here there after u.0 body parent n s b p u.1)
]

body_either : (profile : ScriptProfile) (front : List RawVersion) (text name behind here there : List ℕ) (body : RawVersionBody) → IsNameOfVersion front text name behind → Skipped behind here → IsBody profile here body there → Either (IsNamedHere profile front text) (NamedFails profile front text)
body_either profile front text name behind here there body n s b = elim (parent_either front there) as (λ _. Either (IsNamedHere profile front text) (NamedFails profile front text)) [
  | inl p ↦ end_either profile front text name behind here there p.0.1 body p.0.0 n s b p.1
  | inr f ↦ inr (f.0, f.1, faults.parent name behind here there f.1 f.0 body n s b f.2)
]

blanks_either : (profile : ScriptProfile) (front : List RawVersion) (text name behind here : List ℕ) → IsNameOfVersion front text name behind → Skipped behind here → Either (IsNamedHere profile front text) (NamedFails profile front text)
blanks_either profile front text name behind here n s = elim ((body_judged profile here).either) as (λ _. Either (IsNamedHere profile front text) (NamedFails profile front text)) [
  | inl b ↦ body_either profile front text name behind here b.0.1 b.0.0 n s b.1
  | inr f ↦ inr (f.0, f.1, faults.body name behind here f.1 f.0 n s f.2)
]

room_either : (profile : ScriptProfile) (front : List RawVersion) (text name behind : List ℕ) → IsNameOfVersion front text name behind → Either (IsNamedHere profile front text) (NamedFails profile front text)
room_either profile front text name behind n = elim (skip_or_not behind) as (λ _. Either (IsNamedHere profile front text) (NamedFails profile front text)) [
  | inl s ↦ blanks_either profile front text name behind s.0 n s.1
  | inr u ↦ inr (Syntax, u.0, faults.comment name behind u.0 n u.1)
]

name_either : (profile : ScriptProfile) (front : List RawVersion) (text name behind : List ℕ) → text ≡ name ++ behind → AreNameBytes name → EndsName behind → Either (IsNamedHere profile front text) (NamedFails profile front text)
name_either profile front text [] behind whole are ends = inr (Syntax, text, faults.no_name (subst EndsName (sym whole) ends))
name_either profile front text (c ∷ name) behind whole are ends = elim (is_or (length front == most_versions)) as (λ _. Either (IsNamedHere profile front text) (NamedFails profile front text)) [
  | inl many ↦ inr (TooManyVersions, text, faults.too_many c (name ++ behind) whole are.0 (eqb-true (length front) most_versions many))
  | inr room ↦ room_either profile front text (c ∷ name) behind (record { whole = whole; some = omega arith; bytes = are; ends = ends; room = λ is. eqb-false (length front) most_versions room is })
]

named_either : (profile : ScriptProfile) (front : List RawVersion) (text : List ℕ) → Either (IsNamedHere profile front text) (NamedFails profile front text)
named_either profile front text = let k = name_of text in name_either profile front text k.0 k.1 k.2 k.3 k.4

named_shorter : (profile : ScriptProfile) (front : List RawVersion) (text : List ℕ) (v : RawVersion) (rest : List ℕ) → IsNamed profile front text v rest → length rest < length text
named_shorter profile front text v rest n =
    let w : length text ≡ length (v.name ++ n.behind) = ap length n.whole in
    let some = n.some in
    let a = skipped_shorter n.behind n.at_body n.blanks in
    let b = body_shorter profile n.at_body v.body n.at_parent n.body in
    let c = parent_shorter front n.at_parent v.parent_index n.at_end n.parent in
    let d = skipped_shorter n.at_end rest n.end in
    omega (arith, length-append v.name n.behind)

-- ---- all versions

named_turn : (profile : ScriptProfile) (front : List RawVersion) (text : List ℕ) (r : Result (RawVersion × List ℕ) Fault) → (text ≡ [] → ⊥) → named_at profile front text ≡ r → version_turn profile front text ≡ (r >>= as_item)
named_turn profile front [] r some e = absurd (some refl)
named_turn profile front (c ∷ text) r some e = ap (λ r. r >>= as_item) e

not_empty : (profile : ScriptProfile) (front : List RawVersion) (text : List ℕ) (v : RawVersion) (rest : List ℕ) → IsNamed profile front text v rest → text ≡ [] → ⊥
not_empty profile front text v rest n is = let less = named_shorter profile front text v rest n in let none = ap length is in omega arith

version_turn_only : (profile : ScriptProfile) (front : List RawVersion) (text : List ℕ) (o : Option RawVersion) (rest : List ℕ) → VersionTurn profile front text o rest → version_turn profile front text ≡ Ok (o, rest)
version_turn_only profile front text None rest t = ap (version_turn profile front) t.0 ∙ ap (λ (r : List ℕ). Ok (None, r)) (sym t.1)
version_turn_only profile front text (Some v) rest t = named_turn profile front text (Ok (v, rest)) (not_empty profile front text v rest t) (named_only profile front text v rest t)

version_turn_fails : (profile : ScriptProfile) (front : List RawVersion) (text : List ℕ) (kind : ScriptErrorKind) (at : List ℕ) → VersionTurnFails profile front text kind at → version_turn profile front text ≡ refuse kind at
version_turn_fails profile front text kind at f = named_turn profile front text (refuse kind at) f.0 (named_fails profile front text kind at f.1)

abbrev IsTurn : ScriptProfile → List RawVersion → List ℕ → Option RawVersion × List ℕ → Type 0
IsTurn profile front text t = VersionTurn profile front text t.0 t.1

turn_either : (profile : ScriptProfile) (front : List RawVersion) (text : List ℕ) → Either (IsTurn profile front text) (VersionTurnFails profile front text)
turn_either profile front [] = inl ((None, []), (refl, refl))
turn_either profile front (c ∷ text) = elim (named_either profile front (c ∷ text)) as (λ _. Either (IsTurn profile front (c ∷ text)) (VersionTurnFails profile front (c ∷ text))) [
  | inl v ↦ inl ((Some v.0.0, v.0.1), v.1)
  | inr f ↦ inr (f.0, f.1, ((λ is. cc), f.2))
]

version_turn_judged : (profile : ScriptProfile) → TurnJudged (version_turn profile) (VersionTurn profile) (VersionTurnFails profile)
version_turn_judged profile = record {
  judged = λ front text. record {
    values = λ t said. version_turn_only profile front text t.0 t.1 said;
    faults = version_turn_fails profile front text;
    either = turn_either profile front text;
  };
  shortens = named_shorter profile;
}

-- the versions end with the text
ends_empty : (profile : ScriptProfile) (versions front : List RawVersion) (text rest : List ℕ) → Repeats (VersionTurn profile) front versions text rest → rest ≡ []
ends_empty profile [] front text rest r = r.1
ends_empty profile (v ∷ versions) front text rest r = ends_empty profile versions (front ++ v ∷ []) r.0 rest r.2

abbrev AreVersions : ScriptProfile → List ℕ → List RawVersion → Type 0
AreVersions profile text versions = Repeats (VersionTurn profile) [] versions text []

abbrev SomeVersionFails : ScriptProfile → List ℕ → ScriptErrorKind → List ℕ → Type 0
SomeVersionFails profile text kind at = (versions : List RawVersion) × RepeatFails (VersionTurn profile) (VersionTurnFails profile) [] versions text kind at

abbrev Grown : ScriptProfile → List ℕ → List RawVersion × List ℕ → Type 0
Grown profile text t = Repeats (VersionTurn profile) [] t.0 text t.1

grown_judged : (profile : ScriptProfile) (text : List ℕ) → Judges (grow (version_turn profile) [] text) (Grown profile text) (SomeVersionFails profile text)
grown_judged profile text = repeats_judged (version_turn profile) (VersionTurn profile) (VersionTurnFails profile) (version_turn_judged profile) text

versions_either : (profile : ScriptProfile) (text : List ℕ) → Either (Grown profile text) (SomeVersionFails profile text) → Either (AreVersions profile text) (SomeVersionFails profile text)
versions_either profile text (inl t) = inl (t.0.0, subst (λ (rest : List ℕ). Repeats (VersionTurn profile) [] t.0.0 text rest) (ends_empty profile t.0.0 [] text t.0.1 t.1) t.1)
versions_either profile text (inr f) = inr f

pub versions_judged : (profile : ScriptProfile) (text : List ℕ) → Judges (versions_at profile text) (λ versions. Repeats (VersionTurn profile) [] versions text []) (λ kind at. (versions : List RawVersion) × RepeatFails (VersionTurn profile) (VersionTurnFails profile) [] versions text kind at)
unfolding versions_at
versions_judged profile text = record {
  values = λ versions r. bind_is (grow (version_turn profile) [] text) versions_only (versions, []) (Ok versions) ((grown_judged profile text).values (versions, []) r) refl;
  faults = λ kind at f. bind_err (grow (version_turn profile) [] text) versions_only (record { left = length at; kind = kind }) ((grown_judged profile text).faults kind at f);
  either = versions_either profile text (grown_judged profile text).either;
}
