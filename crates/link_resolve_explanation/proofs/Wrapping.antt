-- What wraps leave as it was, and the first definitions of the names that they change.
use Rattle.std.proofs.Common.{◌≡◌, ◌∙◌, ◌+◌, ◌++◌, ◌&&◌, ◌||◌, ℕ, Bool, true, false, List, [], ◌∷◌, Option, Some, None, if◌then◌else◌, option_map, refl, sym, ap, codes}
use Rattle.std.specs.Prelude.{fold}
use Rattle.std.specs.Option.{option_or}
use Rattle.std.specs.Str.{bytes_eq}
use Rattle.std.proofs.lemmas.Slice.Eq.{bytes_eq-Decides}
use Rattle.link_input.specs.Symbols.{Symbol}
use Rattle.link_names.specs.Names.{Noted, value_in}
use Rattle.link_rules.specs.Names.{Mapping, is_listed, mapping_with, original_of, wrapped}
use Rattle.link_rules.specs.Places.{Bytes, first_of, kept_if, places_from}
use Rattle.link_resolve_explanation.specs.Wraps.{is_wrap_of, is_wrapped, lacks_first, with_definition}

-- neither of both
neither : (a b : Bool) → (a || b) ≡ false → (a ≡ false) × (b ≡ false)
neither false b fails = (refl, fails)
neither true b fails = absurd cc

-- ---- what wraps leave

-- another name stays mapped to what it was
other-stays : (name : Bytes) (o : Option ℕ) (f : Mapping) (asked : Bytes) → bytes_eq asked name ≡ false → mapping_with name o f asked ≡ f asked
other-stays name None f asked apart = refl
other-stays name (Some s) f asked apart = ap (λ b. if b then Some s else f asked) apart

-- a wrap leaves it
wrap-leaves : (f : Mapping) (wrap asked : Bytes) → is_wrap_of asked wrap ≡ false → wrapped f wrap asked ≡ f asked
wrap-leaves f wrap asked apart =
    let both = neither (bytes_eq asked wrap) (bytes_eq asked (codes "__real_" ++ wrap)) apart in
    other-stays (codes "__real_" ++ wrap) (original_of f wrap) (mapping_with wrap (f (codes "__wrap_" ++ wrap)) f) asked both.1
    ∙ other-stays wrap (f (codes "__wrap_" ++ wrap)) f asked both.0

-- and so do all
pub wraps-leave : (wraps : List Bytes) (f : Mapping) (asked : Bytes) → is_wrapped wraps asked ≡ false → fold wrapped f wraps asked ≡ f asked
wraps-leave [] f asked apart = refl
wraps-leave (w ∷ ws) f asked apart =
    let both = neither (is_wrap_of asked w) (is_wrapped ws asked) apart in
    wraps-leave ws (wrapped f w) asked both.1 ∙ wrap-leaves f w asked both.0

-- ---- the first definitions of the names that they change

-- the same bytes either way round
bytes-turned : (x y : List ℕ) → bytes_eq x y ≡ bytes_eq y x
bytes-turned x y = by (bytes_eq x y) (bytes_eq y x) refl refl
  where
    by : (b c : Bool) → bytes_eq x y ≡ b → bytes_eq y x ≡ c → b ≡ c
    by true true e f = refl
    by true false e f = sym ((bytes_eq-Decides y x).1 (sym ((bytes_eq-Decides x y).0 e))) ∙ f
    by false true e f = sym e ∙ (bytes_eq-Decides x y).1 (sym ((bytes_eq-Decides y x).0 f))
    by false false e f = refl

-- nothing behind changes nothing
or-none : (o : Option ℕ) → option_or o None ≡ o
or-none None = refl
or-none (Some s) = refl

stays : (o : Option (Option ℕ)) → o ≡ option_map (λ first. option_or first None) o
stays None = refl
stays (Some first) = ap Some (sym (or-none first))

-- a symbol that is no definition of a plain name changes nothing
pub unlisted-stays : (id : ℕ) (x : Symbol) (asked : Bytes) (o : Option (Option ℕ)) → is_listed x ≡ false → o ≡ option_map (with_definition id x asked) o
unlisted-stays id x asked o fails =
    stays o ∙ sym (ap (λ b. option_map (λ first. option_or first (if b && bytes_eq x.name asked then Some id else None)) o) fails)

-- nor does one whose name has a definition, or is no such name
pub noted-stays : (id : ℕ) (x : Symbol) (noted : Noted (Option ℕ)) (asked : Bytes) → lacks_first (value_in noted x.name) ≡ false
    → value_in noted asked ≡ option_map (with_definition id x asked) (value_in noted asked)
noted-stays id x noted asked has = by (bytes_eq x.name asked) refl
  where
    own : (o : Option (Option ℕ)) (more : Option ℕ) → lacks_first o ≡ false → o ≡ option_map (λ first. option_or first more) o
    own None more fails = refl
    own (Some None) more fails = cc
    own (Some (Some first)) more fails = refl

    unlisted : (b : Bool) (o : Option (Option ℕ)) → o ≡ option_map (λ first. option_or first (if b && false then Some id else None)) o
    unlisted true o = stays o
    unlisted false o = stays o

    by : (same : Bool) → bytes_eq x.name asked ≡ same → value_in noted asked ≡ option_map (λ first. option_or first (if is_listed x && same then Some id else None)) (value_in noted asked)
    by true is =
        own (value_in noted asked) (if is_listed x && true then Some id else None) (ap (λ name. lacks_first (value_in noted name)) (sym ((bytes_eq-Decides x.name asked).0 is)) ∙ has)
    by false is = unlisted (is_listed x) (value_in noted asked)

-- the first definition of such a name is noted
pub first-noted : (id : ℕ) (x : Symbol) (noted : Noted (Option ℕ)) (asked : Bytes) (new : Option (Option ℕ)) → is_listed x ≡ true → lacks_first (value_in noted x.name) ≡ true
    → new ≡ (if bytes_eq asked x.name then Some (Some id) else value_in noted asked) → new ≡ option_map (with_definition id x asked) (value_in noted asked)
first-noted id x noted asked new listed lacks is =
    is ∙ ap (λ (b : Bool). if b then Some (Some id) else value_in noted asked) (bytes-turned asked x.name)
    ∙ by (bytes_eq x.name asked) refl
    ∙ sym (ap (λ b. option_map (λ first. option_or first (if b && bytes_eq x.name asked then Some id else None)) (value_in noted asked)) listed)
  where
    none : (o : Option (Option ℕ)) → lacks_first o ≡ true → Some (Some id) ≡ option_map (λ first. option_or first (Some id)) o
    none None fails = cc
    none (Some None) holds = refl
    none (Some (Some first)) fails = cc

    by : (same : Bool) → bytes_eq x.name asked ≡ same
        → (if same then Some (Some id) else value_in noted asked) ≡ option_map (λ first. option_or first (if true && same then Some id else None)) (value_in noted asked)
    by true e = none (value_in noted asked) (ap (λ name. lacks_first (value_in noted name)) (sym ((bytes_eq-Decides x.name asked).0 e)) ∙ lacks)
    by false e = stays (value_in noted asked)

-- what is noted once the symbols from a number on are passed too
abbrev pub passed : Bytes → ℕ → List Symbol → Option (Option ℕ) → Option (Option ℕ)
passed asked next left o = option_map (λ first. option_or first (first_of (places_from (λ x. is_listed x && bytes_eq x.name asked) next left))) o

-- one symbol more
pub passed-more : (asked : Bytes) (i id next : ℕ) (x : Symbol) (xs rest : List Symbol) (old new all : Option (Option ℕ)) → id ≡ i → xs ≡ x ∷ rest → next ≡ i + 1
    → new ≡ option_map (with_definition id x asked) old → passed asked i xs old ≡ all → passed asked next rest new ≡ all
passed-more asked i id next x xs rest old new all at is more gives before =
    ap (passed asked next rest) (gives ∙ ap (λ n. option_map (with_definition n x asked) old) at)
    ∙ ap (λ n. passed asked n rest (option_map (with_definition i x asked) old)) more ∙ by old ∙ sym (ap (λ l. passed asked i l old) is) ∙ before
  where
    both : (b : Bool) (first : Option ℕ) (later : List ℕ) → option_or (option_or first (if b then Some i else None)) (first_of later) ≡ option_or first (first_of (kept_if b i later))
    both b (Some s) later = refl
    both true None later = refl
    both false None later = refl

    by : (o : Option (Option ℕ)) → passed asked (i + 1) rest (option_map (with_definition i x asked) o) ≡ passed asked i (x ∷ rest) o
    by None = refl
    by (Some first) =
        ap Some (both (is_listed x && bytes_eq x.name asked) first (places_from (λ (y : Symbol). is_listed y && bytes_eq y.name asked) (i + 1) rest))
