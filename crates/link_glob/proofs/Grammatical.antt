-- What is read from left to right is what the grammar spells.
use Rattle.std.proofs.Common.{◌≡◌, ℕ, suc, ◌+◌, ◌==◌, Bool, true, false, List, [], ◌∷◌, ◌++◌, length, drop, take, Option, Some, None, Result, Ok, Err, refl, sym, ap, subst, ◌∙◌, arith, inl, inr, ◌⊎◌, append_assoc}
use Rattle.std.specs.Prelude.{position, IsTrue, ◌||◌, ◌&&◌, not}
use Rattle.std.specs.List.{position_from, list_all}
use Rattle.std.specs.Option.{option_map}
use Rattle.std.specs.Str.{chars}
use Rattle.std.proofs.lemmas.Bool.{eqb-true}
use Rattle.std.proofs.lemmas.Option.{same_Some, some_pair_parts}
use Rattle.std.proofs.lemmas.Iterator.Adapters.{position_from-zero}
use Rattle.link_glob.specs.declared.compile.Dialect.{Dialect}
use Rattle.link_glob.specs.declared.compile.Dialect.TheVariants.{Gnu, MachO}
use Rattle.link_glob.specs.declared.fault.GlobError.{GlobError}
use Rattle.link_glob.specs.declared.fault.GlobError.TheVariants as errors
use Rattle.link_glob.specs.Glob.{GlobToken, any, one, literal, class}
use Rattle.link_glob.specs.Grammar.{ranges_of, is_plain, opening, IsContent, IsSpelling, MayPrecede, Spells, with_marks}
use Rattle.link_glob.specs.Reading.{token_at, star_at, class_at, class_from, IsRead, ReadsBytes, marked}
use Rattle.link_glob.specs.Compile.{Compiles}
use Rattle.link_glob.specs.Laws.{HasOnePattern, GnuIsMachO}
use Rattle.link_glob.proofs.Exact.{exact_ok}

is_or : (b : Bool) → (b ≡ true) ⊎ (b ≡ false)
is_or true = inl refl
is_or false = inr refl

is_not : (b : Bool) → b ≡ false → IsTrue (not b)
is_not b e = rw e refl

not_is : (b : Bool) → IsTrue (not b) → b ≡ false
not_is true t = absurd cc
not_is false t = refl

and_parts : (a b : Bool) → IsTrue (a && b) → IsTrue a × IsTrue b
and_parts true b e = (refl, e)
and_parts false b e = absurd cc

and_both : (a b : Bool) → IsTrue a → IsTrue b → IsTrue (a && b)
and_both true b p q = q
and_both false b p q = absurd cc

-- A front of the text spells the token, and this is the rest.
pub record Begins (dialect : Dialect) (token : GlobToken) (text rest : List ℕ) : Type 0 where
  pub front : List ℕ
  pub whole : text ≡ front ++ rest
  pub spells : IsSpelling dialect token front
  pub ends : MayPrecede token rest

no_star : (text : List ℕ) (c : ℕ) (rest : List ℕ) → text ≡ c ∷ rest → (c == 42) ≡ false → MayPrecede any text
no_star text c rest e f = rw e (is_not (c == 42) f)

-- stars

gnu_star : (text : List ℕ) (token : GlobToken) (rest : List ℕ) → star_at Gnu text ≡ Some (token, rest) → Begins Gnu token (42 ∷ text) rest
gnu_star [] token rest e =
    let p = some_pair_parts any token [] rest e in
    subst (λ (r : List ℕ). Begins Gnu token (42 ∷ []) r) p.1 (subst (λ (t : GlobToken). Begins Gnu t (42 ∷ []) []) p.0 (record { front = 42 ∷ []; whole = refl; spells = refl; ends = tt }))
gnu_star (c ∷ text) token rest e = elim (is_or (c == 42)) [
  | inl star ↦ absurd (let f = rw star at e in cc)
  | inr other ↦
      let f = rw other at e in
      let p = some_pair_parts any token (c ∷ text) rest f in
      subst (λ (r : List ℕ). Begins Gnu token (42 ∷ c ∷ text) r) p.1 (subst (λ (t : GlobToken). Begins Gnu t (42 ∷ c ∷ text) (c ∷ text)) p.0 (record { front = 42 ∷ []; whole = refl; spells = refl; ends = is_not (c == 42) other }))
]

-- one star more in front of a run of stars
more_stars : (token : GlobToken) (text rest : List ℕ) → token ≡ any → Begins MachO token text rest → Begins MachO token (42 ∷ text) rest
more_stars token text rest is b =
    let spells : IsSpelling MachO any b.front = subst (λ (t : GlobToken). IsSpelling MachO t b.front) is b.spells in
    let more : IsSpelling MachO any (42 ∷ b.front) = (omega arith, spells.1) in
    record {
      front = 42 ∷ b.front;
      whole = ap (λ (xs : List ℕ). 42 ∷ xs) b.whole;
      spells = subst (λ (t : GlobToken). IsSpelling MachO t (42 ∷ b.front)) (sym is) more;
      ends = b.ends;
    }

macho_any : (text : List ℕ) (token : GlobToken) (rest : List ℕ) → star_at MachO text ≡ Some (token, rest) → token ≡ any
macho_any [] token rest e = sym (some_pair_parts any token [] rest e).0
macho_any (c ∷ text) token rest e = elim (is_or (c == 42)) [
  | inl star ↦ macho_any text token rest (rw star at e)
  | inr other ↦ let f = rw other at e in sym (some_pair_parts any token (c ∷ text) rest f).0
]

macho_star : (text : List ℕ) (token : GlobToken) (rest : List ℕ) → star_at MachO text ≡ Some (token, rest) → Begins MachO token (42 ∷ text) rest
macho_star [] token rest e =
    let p = some_pair_parts any token [] rest e in
    subst (λ (r : List ℕ). Begins MachO token (42 ∷ []) r) p.1 (subst (λ (t : GlobToken). Begins MachO t (42 ∷ []) []) p.0 (record { front = 42 ∷ []; whole = refl; spells = (omega arith, refl); ends = tt }))
macho_star (c ∷ text) token rest e = elim (is_or (c == 42)) [
  | inl star ↦
      let f = rw star at e in
      let b = more_stars token (42 ∷ text) rest (macho_any text token rest f) (macho_star text token rest f) in
      subst (λ (x : ℕ). Begins MachO token (42 ∷ x ∷ text) rest) (sym (eqb-true c 42 star)) b
  | inr other ↦
      let f = rw other at e in
      let p = some_pair_parts any token (c ∷ text) rest f in
      subst (λ (r : List ℕ). Begins MachO token (42 ∷ c ∷ text) r) p.1 (subst (λ (t : GlobToken). Begins MachO t (42 ∷ c ∷ text) (c ∷ text)) p.0 (record { front = 42 ∷ []; whole = refl; spells = (omega arith, refl); ends = is_not (c == 42) other }))
]

star_begins : (dialect : Dialect) (text : List ℕ) (token : GlobToken) (rest : List ℕ) → star_at dialect text ≡ Some (token, rest) → Begins dialect token (42 ∷ text) rest
star_begins Gnu text token rest e = gnu_star text token rest e
star_begins MachO text token rest e = macho_star text token rest e

gnu_back : (rest : List ℕ) → MayPrecede any rest → star_at Gnu rest ≡ Some (any, rest)
gnu_back [] m = refl
gnu_back (c ∷ rest) m = rw (not_is (c == 42) m) refl

macho_back : (more rest : List ℕ) → IsTrue (list_all (λ c. c == 42) more) → MayPrecede any rest → star_at MachO (more ++ rest) ≡ Some (any, rest)
macho_back [] [] s m = refl
macho_back [] (c ∷ rest) s m = rw (not_is (c == 42) m) refl
macho_back (c ∷ more) rest s m = let p = and_parts (c == 42) (list_all (λ c. c == 42) more) s in rw p.0 (macho_back more rest p.1 m)

-- classes

-- The text up to place k has no `]`, and there is one at it.
pub record ClosesAt (k : ℕ) (text : List ℕ) : Type 0 where
  pub whole : text ≡ take k text ++ 93 ∷ drop (suc k) text
  pub open_before : IsTrue (list_all (λ c. not (c == 93)) (take k text))

pub record Closes (i n : ℕ) (text : List ℕ) : Type 0 where
  pub k : ℕ
  pub place : n ≡ i + k
  pub closes : ClosesAt k text

close_first : (i n c : ℕ) (text : List ℕ) → (c == 93) ≡ true → Some i ≡ Some n → Closes i n (c ∷ text)
close_first i n c text is e = record {
  k = 0;
  place = let s = same_Some i n e in omega arith;
  closes = record { whole = ap (λ (x : ℕ). x ∷ text) (eqb-true c 93 is); open_before = refl };
}

close_later : (i n c : ℕ) (text : List ℕ) → (c == 93) ≡ false → Closes (i + 1) n text → Closes i n (c ∷ text)
close_later i n c text other s = record {
  k = suc s.k;
  place = let p = s.place in omega arith;
  closes = record {
    whole = ap (λ (xs : List ℕ). c ∷ xs) s.closes.whole;
    open_before = and_both (not (c == 93)) (list_all (λ c. not (c == 93)) (take s.k text)) (is_not (c == 93) other) s.closes.open_before;
  };
}

closes_from : (i n : ℕ) (text : List ℕ) → position_from (λ c. c == 93) i text ≡ Some n → Closes i n text
closes_from i n [] e = absurd cc
closes_from i n (c ∷ text) e = elim (is_or (c == 93)) [
  | inl close ↦ close_first i n c text close (rw close at e)
  | inr other ↦ close_later i n c text other (closes_from (i + 1) n text (rw other at e))
]

closes_at : (n : ℕ) (text : List ℕ) → position (λ c. c == 93) text ≡ Some n → ClosesAt n text
closes_at n text e =
    let s = closes_from 0 n text (sym (position_from-zero (λ c. c == 93) text) ∙ e) in
    let k : s.k ≡ n = let p = s.place in omega arith in
    subst (λ (m : ℕ). ClosesAt m text) k s.closes

place_from : (i : ℕ) (more rest : List ℕ) → IsTrue (list_all (λ c. not (c == 93)) more) → position_from (λ c. c == 93) i (more ++ 93 ∷ rest) ≡ Some (i + length more)
place_from i [] rest t = ap (λ (n : ℕ). Some n) (omega arith)
place_from i (c ∷ more) rest t =
    let p = and_parts (not (c == 93)) (list_all (λ c. not (c == 93)) more) t in
    let at : i + 1 + length more ≡ i + suc (length more) = omega arith in
    rw (not_is (c == 93) p.0) (place_from (i + 1) more rest p.1 ∙ ap (λ (n : ℕ). Some n) at)

place_of : (more rest : List ℕ) → IsTrue (list_all (λ c. not (c == 93)) more) → position (λ c. c == 93) (more ++ 93 ∷ rest) ≡ Some (length more)
place_of more rest t =
    let at : 0 + length more ≡ length more = omega arith in
    position_from-zero (λ c. c == 93) (more ++ 93 ∷ rest) ∙ place_from 0 more rest t ∙ ap (λ (n : ℕ). Some n) at

take_front : (more rest : List ℕ) → take (length more) (more ++ rest) ≡ more
take_front [] rest = refl
take_front (c ∷ more) rest = ap (λ (xs : List ℕ). c ∷ xs) (take_front more rest)

drop_front : (more : List ℕ) (c : ℕ) (rest : List ℕ) → drop (suc (length more)) (more ++ c ∷ rest) ≡ rest
drop_front [] c rest = refl
drop_front (d ∷ more) c rest = drop_front more c rest

class_back : (negated : Bool) (first : ℕ) (more rest : List ℕ) → IsTrue (list_all (λ c. not (c == 93)) more) → class_from negated (first ∷ (more ++ 93 ∷ rest)) ≡ Some (class negated (ranges_of (first ∷ more)), rest)
class_back negated first more rest t = rw (place_of more rest t, take_front more (93 ∷ rest), drop_front more 93 rest) refl

-- What a class from its first character on has.
pub record HasClass (negated : Bool) (token : GlobToken) (text rest : List ℕ) : Type 0 where
  pub first : ℕ
  pub more : List ℕ
  pub whole : text ≡ first ∷ (more ++ 93 ∷ rest)
  pub closed : IsTrue (list_all (λ c. not (c == 93)) more)
  pub is : token ≡ class negated (ranges_of (first ∷ more))

class_found : (negated : Bool) (first : ℕ) (text : List ℕ) (token : GlobToken) (rest : List ℕ) (o : Option ℕ) → position (λ c. c == 93) text ≡ o
    → option_map {U = GlobToken × List ℕ} (λ n. (class negated (ranges_of (first ∷ take n text)), drop (suc n) text)) o ≡ Some (token, rest) → HasClass negated token (first ∷ text) rest
class_found negated first text token rest None at e = absurd cc
class_found negated first text token rest (Some n) at e =
    let p = some_pair_parts (class negated (ranges_of (first ∷ take n text))) token (drop (suc n) text) rest e in
    let s = closes_at n text at in
    record {
      first = first;
      more = take n text;
      whole = ap (λ (xs : List ℕ). first ∷ xs) (s.whole ∙ ap (λ (r : List ℕ). take n text ++ 93 ∷ r) p.1);
      closed = s.open_before;
      is = sym p.0;
    }

has_class : (negated : Bool) (text : List ℕ) (token : GlobToken) (rest : List ℕ) → class_from negated text ≡ Some (token, rest) → HasClass negated token text rest
has_class negated [] token rest e = absurd cc
has_class negated (first ∷ text) token rest e = class_found negated first text token rest (position (λ c. c == 93) text) refl e

negated_begins : (dialect : Dialect) (text : List ℕ) (token : GlobToken) (rest : List ℕ) → HasClass true token text rest → Begins dialect token (91 ∷ 33 ∷ text) rest
negated_begins dialect text token rest h =
    let spells : IsSpelling dialect (class true (ranges_of (h.first ∷ h.more))) (91 ∷ 33 ∷ h.first ∷ (h.more ++ 93 ∷ [])) = (h.first ∷ h.more, refl, h.closed, refl) in
    let b : Begins dialect (class true (ranges_of (h.first ∷ h.more))) (91 ∷ 33 ∷ text) rest = record {
      front = 91 ∷ 33 ∷ h.first ∷ (h.more ++ 93 ∷ []);
      whole = ap (λ (xs : List ℕ). 91 ∷ 33 ∷ xs) (h.whole ∙ ap (λ (xs : List ℕ). h.first ∷ xs) (sym (append_assoc h.more (93 ∷ []) rest)));
      spells = spells;
      ends = tt;
    } in
    subst (λ (t : GlobToken). Begins dialect t (91 ∷ 33 ∷ text) rest) (sym h.is) b

plain_begins : (dialect : Dialect) (c : ℕ) (text : List ℕ) (token : GlobToken) (rest : List ℕ) → (c == 33) ≡ false → HasClass false token (c ∷ text) rest → Begins dialect token (91 ∷ c ∷ text) rest
plain_begins dialect c text token rest other h =
    let same : c ≡ h.first = let w = h.whole in cc in
    let first : (h.first == 33) ≡ false = subst (λ (x : ℕ). (x == 33) ≡ false) same other in
    let spells : IsSpelling dialect (class false (ranges_of (h.first ∷ h.more))) (91 ∷ h.first ∷ (h.more ++ 93 ∷ [])) = (h.first ∷ h.more, refl, (is_not (h.first == 33) first, h.closed), refl) in
    let b : Begins dialect (class false (ranges_of (h.first ∷ h.more))) (91 ∷ c ∷ text) rest = record {
      front = 91 ∷ h.first ∷ (h.more ++ 93 ∷ []);
      whole = ap (λ (xs : List ℕ). 91 ∷ xs) (h.whole ∙ ap (λ (xs : List ℕ). h.first ∷ xs) (sym (append_assoc h.more (93 ∷ []) rest)));
      spells = spells;
      ends = tt;
    } in
    subst (λ (t : GlobToken). Begins dialect t (91 ∷ c ∷ text) rest) (sym h.is) b

class_begins : (dialect : Dialect) (text : List ℕ) (token : GlobToken) (rest : List ℕ) → class_at text ≡ Some (token, rest) → Begins dialect token (91 ∷ text) rest
class_begins dialect [] token rest e = absurd cc
class_begins dialect (c ∷ text) token rest e = elim (is_or (c == 33)) [
  | inl mark ↦ subst (λ (x : ℕ). Begins dialect token (91 ∷ x ∷ text) rest) (sym (eqb-true c 33 mark)) (negated_begins dialect text token rest (has_class true text token rest (rw mark at e)))
  | inr other ↦ plain_begins dialect c text token rest other (has_class false (c ∷ text) token rest (rw other at e))
]

-- one token

one_begins : (dialect : Dialect) (text : List ℕ) (token : GlobToken) (rest : List ℕ) → ◌≡◌ {A = Option (GlobToken × List ℕ)} (Some (one, text)) (Some (token, rest)) → Begins dialect token (63 ∷ text) rest
one_begins dialect text token rest e =
    let p = some_pair_parts one token text rest e in
    subst (λ (r : List ℕ). Begins dialect token (63 ∷ text) r) p.1 (subst (λ (t : GlobToken). Begins dialect t (63 ∷ text) text) p.0 (record { front = 63 ∷ []; whole = refl; spells = refl; ends = tt }))

plain_of : (c : ℕ) → (c == 42) ≡ false → (c == 63) ≡ false → (c == 91) ≡ false → IsTrue (is_plain c)
plain_of c star mark bracket = rw (star, mark, bracket) refl

literal_begins : (dialect : Dialect) (c : ℕ) (text : List ℕ) (token : GlobToken) (rest : List ℕ) → IsTrue (is_plain c) → ◌≡◌ {A = Option (GlobToken × List ℕ)} (Some (literal c, text)) (Some (token, rest)) → Begins dialect token (c ∷ text) rest
literal_begins dialect c text token rest plain e =
    let p = some_pair_parts (literal c) token text rest e in
    subst (λ (r : List ℕ). Begins dialect token (c ∷ text) r) p.1 (subst (λ (t : GlobToken). Begins dialect t (c ∷ text) text) p.0 (record { front = c ∷ []; whole = refl; spells = (refl, plain); ends = tt }))

begins : (dialect : Dialect) (text : List ℕ) (token : GlobToken) (rest : List ℕ) → token_at dialect text ≡ Some (token, rest) → Begins dialect token text rest
begins dialect [] token rest e = absurd cc
begins dialect (c ∷ text) token rest e = elim (is_or (c == 42)) [
  | inl star ↦ subst (λ (x : ℕ). Begins dialect token (x ∷ text) rest) (sym (eqb-true c 42 star)) (star_begins dialect text token rest (rw star at e))
  | inr star ↦ let e1 = rw star at e in elim (is_or (c == 63)) [
    | inl mark ↦ subst (λ (x : ℕ). Begins dialect token (x ∷ text) rest) (sym (eqb-true c 63 mark)) (one_begins dialect text token rest (rw mark at e1))
    | inr mark ↦ let e2 = rw mark at e1 in elim (is_or (c == 91)) [
      | inl bracket ↦ subst (λ (x : ℕ). Begins dialect token (x ∷ text) rest) (sym (eqb-true c 91 bracket)) (class_begins dialect text token rest (rw bracket at e2))
      | inr bracket ↦ literal_begins dialect c text token rest (plain_of c star mark bracket) (rw bracket at e2)
    ]
  ]
]

plain_parts : (a b c : Bool) → IsTrue (not (a || b || c)) → (a ≡ false) × (b ≡ false) × (c ≡ false)
plain_parts true b c t = absurd cc
plain_parts false true c t = absurd cc
plain_parts false false true t = absurd cc
plain_parts false false false t = (refl, refl, refl)

literal_back : (dialect : Dialect) (c : ℕ) (rest : List ℕ) → IsTrue (is_plain c) → token_at dialect (c ∷ rest) ≡ Some (literal c, rest)
literal_back dialect c rest plain = let p = plain_parts (c == 42) (c == 63) (c == 91) plain in rw (p.0, p.1, p.2) refl

gnu_run : (front rest : List ℕ) → front ≡ 42 ∷ [] → MayPrecede any rest → token_at Gnu (front ++ rest) ≡ Some (any, rest)
gnu_run front rest e m = rw e (gnu_back rest m)

macho_run : (front rest : List ℕ) → IsSpelling MachO any front → MayPrecede any rest → token_at MachO (front ++ rest) ≡ Some (any, rest)
macho_run [] rest s m = absurd (let h = s.0 in omega arith)
macho_run (c ∷ more) rest s m = let p = and_parts (c == 42) (list_all (λ c. c == 42) more) s.1 in rw p.0 (macho_back more rest p.1 m)

class_run : (dialect : Dialect) (negated : Bool) (content rest : List ℕ) → IsContent negated content → token_at dialect ((opening negated ++ content ++ 93 ∷ []) ++ rest) ≡ Some (class negated (ranges_of content), rest)
class_run dialect negated [] rest i = absurd i
class_run dialect true (first ∷ more) rest i = rw (append_assoc more (93 ∷ []) rest) (class_back true first more rest i)
class_run dialect false (first ∷ more) rest i = rw (append_assoc more (93 ∷ []) rest, not_is (first == 33) i.0) (class_back false first more rest i.1)

token_back : (dialect : Dialect) (token : GlobToken) (front rest : List ℕ) → IsSpelling dialect token front → MayPrecede token rest → token_at dialect (front ++ rest) ≡ Some (token, rest)
token_back dialect (literal c) front rest s m = rw s.0 (literal_back dialect c rest s.1)
token_back dialect one front rest s m = rw s refl
token_back Gnu any front rest s m = gnu_run front rest s m
token_back MachO any front rest s m = macho_run front rest s m
token_back dialect (class negated ranges) front rest s m =
    rw (s.1, s.3) (class_run dialect negated s.0 rest s.2)

-- all tokens

pub spelled : (dialect : Dialect) (tokens : List GlobToken) (text : List ℕ) → IsRead dialect tokens text → Spells dialect tokens text
spelled dialect [] text r = r
spelled dialect (token ∷ tokens) text r =
    let b = begins dialect text token r.0 r.1 in
    (b.front, r.0, b.whole, b.spells, b.ends, spelled dialect tokens r.0 r.2)

pub read : (dialect : Dialect) (tokens : List GlobToken) (text : List ℕ) → Spells dialect tokens text → IsRead dialect tokens text
read dialect [] text s = s
read dialect (token ∷ tokens) text s =
    (s.1, ap (token_at dialect) s.2 ∙ token_back dialect token s.0 s.1 s.3 s.4, read dialect tokens s.1 s.5)

pub compiles : (dialect : Dialect) (bytes : List ℕ) (r : Result (List GlobToken) GlobError) → ReadsBytes dialect bytes r → Compiles dialect bytes r
compiles dialect bytes (Ok tokens) c = (c.0, spelled dialect tokens (with_marks (chars bytes)) c.1)
compiles dialect bytes (Err errors.InvalidGlob) c = (c.0, λ tokens t. c.1 tokens (read dialect tokens (with_marks (chars bytes)) t.1))
compiles dialect bytes (Err errors.InvalidUtf8) c = c
compiles dialect bytes (Err errors.Memory) c = tt

-- marks

pair_parts : (c next : ℕ) → (c == 91 && next == 94) ≡ true → ((c == 91) ≡ true) × (next ≡ 94)
pair_parts c next e = let p = and_parts (c == 91) (next == 94) e in (p.0, eqb-true next 94 p.1)

pub marks : (text : List ℕ) → marked false text ≡ with_marks text
marks [] = refl
marks (c ∷ []) = refl
marks (c ∷ next ∷ rest) = elim (is_or (c == 91 && next == 94)) [
  | inl mark ↦
      let p = pair_parts c next mark in
      let follows : marked (next == 91) rest ≡ with_marks rest = subst (λ (x : ℕ). marked (x == 91) rest ≡ with_marks rest) (sym p.1) (marks rest) in
      rw (mark, follows) refl
  | inr other ↦ rw other (ap (λ (xs : List ℕ). c ∷ xs) (marks (next ∷ rest)))
]

pub one_pattern : HasOnePattern
one_pattern dialect text p q s t = same_Some p q (sym (exact_ok dialect text p (read dialect p text s)) ∙ exact_ok dialect text q (read dialect q text t))

one_star : (text : List ℕ) → text ≡ 42 ∷ [] → IsSpelling MachO any text
one_star text e = rw e (omega arith, refl)

spelling_too : (token : GlobToken) (text : List ℕ) → IsSpelling Gnu token text → IsSpelling MachO token text
spelling_too (literal c) text s = s
spelling_too one text s = s
spelling_too any text s = one_star text s
spelling_too (class negated ranges) text s = s

pub gnu_is_macho : GnuIsMachO
gnu_is_macho text [] s = s
gnu_is_macho text (token ∷ tokens) s = (s.0, s.1, s.2, spelling_too token s.0 s.3, s.4, gnu_is_macho s.1 tokens s.5)
