-- Maps from names: what is noted, where one more is.
use Rattle.std.proofs.Common.{◌≡◌, ◌||◌, ℕ, suc, Bool, true, false, cond, if◌then◌else◌, List, [], ◌∷◌, Option, Some, None, refl, sym, ap, subst, ◌∙◌, arith}
use Rattle.std.specs.Prelude.{OnOk, Result, Ok, Err}
use Rattle.std.specs.Option.{option_or, is_some}
use Rattle.std.specs.Ordering.{is_eq, eq_by_cmp, nat_cmp}
use Rattle.std.specs.Cmp.Lexicographic.{slice_cmp}
use Rattle.std.specs.Str.{bytes_eq}
use Rattle.std.specs.Global.{Vec}
use Rattle.std.specs.Map.{lookup, KeepsOthers}
use Rattle.std.specs.BTreeMap as tree
use Rattle.std.specs.BTreeMap.{BTreeMap}
use Rattle.std.proofs.lemmas.Map.Text.{is_eq-slice_cmp}
use Rattle.std.proofs.lemmas.Slice.Eq.{bytes_eq-Decides}
use Rattle.std.specs.List.{All}
use Rattle.link_names.specs.Names.{Noted, Names, AreNoted, noted_in, noted_true, value_in, is_member}

-- the key has these bytes, as the tree asks it
abbrev pub has_bytes : List ℕ → Vec ℕ → Bool
has_bytes bs k = is_eq (slice_cmp nat_cmp bs k.items)

-- what is noted of a name is what its bytes find in the tree
pub value_of : {V : Type 0} (entries : List (Vec ℕ × V)) (asked : List ℕ) → value_in (noted_in entries) asked ≡ lookup (has_bytes asked) entries
value_of [] asked = refl
value_of (e ∷ entries) asked = rw (is_eq-slice_cmp asked e.0.items) (ap (λ o. cond (bytes_eq asked e.0.items) (Some e.1) o) (value_of entries asked))

-- what holds of a name's bytes holds of the bytes that are equal to them
same_test : (asked : List ℕ) (x y : Vec ℕ) → has_bytes asked x ≡ true → has_bytes asked y ≡ is_eq (slice_cmp nat_cmp x.items y.items)
same_test asked x y e = ap (λ (bs : List ℕ). is_eq (slice_cmp nat_cmp bs y.items)) ((bytes_eq-Decides asked x.items).0 (sym (is_eq-slice_cmp asked x.items) ∙ e))

other_test : (asked bs : List ℕ) (k : Vec ℕ) → bytes_eq asked bs ≡ false → has_bytes bs k ≡ true → has_bytes asked k ≡ false
other_test asked bs k n e =
    is_eq-slice_cmp asked k.items ∙ subst (λ (x : List ℕ). bytes_eq asked x ≡ false) ((bytes_eq-Decides bs k.items).0 (sym (is_eq-slice_cmp bs k.items) ∙ e)) n

-- other names find what they found before
found_before : {V : Type 0} (old new : List (Vec ℕ × V)) (bs asked : List ℕ) → KeepsOthers (eq_by_cmp (λ (x y : Vec ℕ). slice_cmp nat_cmp x.items y.items)) (has_bytes bs) old new
    → bytes_eq asked bs ≡ false → lookup (has_bytes asked) new ≡ lookup (has_bytes asked) old
unfolding KeepsOthers
found_before old new bs asked keeps n = keeps (has_bytes asked) (λ x y e. same_test asked x y e) (λ k e. other_test asked bs k n e)

noted_by : {V : Type 0} (old new : List (Vec ℕ × V)) (bs asked : List ℕ) (v : V) (same : Bool) → bytes_eq asked bs ≡ same
    → KeepsOthers (eq_by_cmp (λ (x y : Vec ℕ). slice_cmp nat_cmp x.items y.items)) (has_bytes bs) old new → lookup (has_bytes bs) new ≡ Some v
    → lookup (has_bytes asked) new ≡ (if same then Some v else lookup (has_bytes asked) old)
noted_by old new bs asked v true e keeps here = subst (λ (x : List ℕ). lookup (has_bytes x) new ≡ Some v) (sym ((bytes_eq-Decides asked bs).0 e)) here
noted_by old new bs asked v false e keeps here = found_before old new bs asked keeps e

-- after a value was noted of a name
pub noted : {V : Type 0} (m n : BTreeMap (Vec ℕ) V) (key : Vec ℕ) (v : V) → tree.Updates (λ (x y : Vec ℕ). slice_cmp nat_cmp x.items y.items) m n key (Some v)
    → (asked : List ℕ) → value_in (noted_in n.entries) asked ≡ (if bytes_eq asked key.items then Some v else value_in (noted_in m.entries) asked)
noted m n key v updates asked =
    rw (value_of n.entries asked, value_of m.entries asked) (noted_by m.entries n.entries key.items asked v (bytes_eq asked key.items) refl updates.3 updates.1)

-- ---- a value that is noted only where there is none

or_known : {V : Type 0} (o next : Option V) → is_some o ≡ true → o ≡ option_or o next
or_known None next e = absurd cc
or_known (Some v) next e = refl

or_none : {V : Type 0} (o : Option V) → o ≡ option_or o None
or_none None = refl
or_none (Some v) = refl

none_from : {V : Type 0} (o : Option V) → is_some o ≡ false → o ≡ None
none_from None e = refl
none_from (Some v) e = absurd cc

-- a name of which nothing is noted takes the value
pub first_noted : {V : Type 0} (old : Noted V) (bs asked : List ℕ) (v : V) (same : Bool) → bytes_eq asked bs ≡ same → is_some (value_in old bs) ≡ false
    → (if same then Some v else value_in old asked) ≡ option_or (value_in old asked) (if same then Some v else None)
first_noted old bs asked v true e absent = rw (none_from (value_in old asked) (subst (λ (x : List ℕ). is_some (value_in old x) ≡ false) (sym ((bytes_eq-Decides asked bs).0 e)) absent)) refl
first_noted old bs asked v false e absent = or_none (value_in old asked)

-- a name of which something is noted keeps it
pub known_noted : {V : Type 0} (old : Noted V) (bs asked : List ℕ) (v : V) (same : Bool) → bytes_eq asked bs ≡ same → is_some (value_in old bs) ≡ true
    → value_in old asked ≡ option_or (value_in old asked) (if same then Some v else None)
known_noted old bs asked v true e there = or_known (value_in old asked) (Some v) (subst (λ (x : List ℕ). is_some (value_in old x) ≡ true) (sym ((bytes_eq-Decides asked bs).0 e)) there)
known_noted old bs asked v false e there = or_none (value_in old asked)

-- what is known, then the first name's value, then that of the names behind it
pub or_more : {V : Type 0} (o : Option V) (v : V) (here behind : Bool) → option_or (option_or o (if here then Some v else None)) (if behind then Some v else None) ≡ option_or o (if here || behind then Some v else None)
or_more None v true behind = refl
or_more None v false behind = refl
or_more (Some k) v here behind = refl

-- a known name is one that the tree finds
pub not_absent : {V : Type 0} (entries : List (Vec ℕ × V)) (old : Noted V) (key : Vec ℕ) (name : List ℕ) → noted_in entries ≡ old → key.items ≡ name
    → lookup (has_bytes key.items) entries ≡ None → is_some (value_in old name) ≡ true → ⊥
not_absent entries old key name view is absent there =
    let e = ap (λ (o : Option _). is_some o) (sym (value_of entries key.items) ∙ ap (λ s. value_in s key.items) view) in
    cc

-- what the tree finds of each entry is noted of its name
pub are_noted : {V : Type 0} (entries some : List (Vec ℕ × V)) → All (λ e. lookup (has_bytes e.0.items) entries ≡ Some e.1) some → AreNoted (noted_in entries) (noted_in some)
are_noted entries [] all = tt
are_noted entries (e ∷ some) all = (value_of entries e.0.items ∙ all 0 e (omega arith), are_noted entries some (λ k d lt. all (suc k) d (omega arith)))

-- ---- the members of a set, one after the other

some_false : (b : Bool) → Some b ≡ Some false → b ≡ false
some_false true e = cc
some_false false e = refl

out_at : (names some : Names) (e : List ℕ × Bool) (name : List ℕ) (same : Bool) → bytes_eq name e.0 ≡ same → value_in names name ≡ Some false → value_in names e.0 ≡ Some e.1
    → is_member some name ≡ false → noted_true (cond same (Some e.1) (value_in some name)) ≡ false
out_at names some e name true at out here behind = some_false e.1 (sym here ∙ ap (value_in names) (sym ((bytes_eq-Decides name e.0).0 at)) ∙ out)
out_at names some e name false at out here behind = behind

-- a name that is no member is none behind a place
stays_out : (names some : Names) (name : List ℕ) → value_in names name ≡ Some false → AreNoted names some → is_member some name ≡ false
stays_out names [] name out are = refl
stays_out names (e ∷ some) name out are = out_at names some e name (bytes_eq name e.0) refl out are.0 (stays_out names some name out are.1)

-- the members from a name on: it, where it is one, and those behind it
pub members_on : (names some : Names) (e : List ℕ × Bool) (asked : List ℕ) → value_in names e.0 ≡ Some e.1 → AreNoted names some
    → is_member (e ∷ some) asked ≡ (if e.1 then bytes_eq asked e.0 || is_member some asked else is_member some asked)
members_on names some (name, true) asked here are = by (bytes_eq asked name)
  where
    by : (same : Bool) → noted_true (cond same (Some true) (value_in some asked)) ≡ (same || is_member some asked)
    by true = refl
    by false = refl
members_on names some (name, false) asked here are = by (bytes_eq asked name) refl
  where
    by : (same : Bool) → bytes_eq asked name ≡ same → noted_true (cond same (Some false) (value_in some asked)) ≡ is_member some asked
    by true at = sym (subst (λ (x : List ℕ). is_member some x ≡ false) (sym ((bytes_eq-Decides asked name).0 at)) (stays_out names some name here are))
    by false at = refl

-- the notes behind one name of a set more
pub noted_on : {V : Type 0} (first old new : Noted V) (names some : Names) (e : List ℕ × Bool) (v : V) → value_in names e.0 ≡ Some e.1 → AreNoted names some
    → ((asked : List ℕ) → option_or (value_in old asked) (if is_member (e ∷ some) asked then Some v else None) ≡ option_or (value_in first asked) (if is_member names asked then Some v else None))
    → (e.1 ≡ true → (asked : List ℕ) → value_in new asked ≡ option_or (value_in old asked) (if bytes_eq asked e.0 then Some v else None)) → (e.1 ≡ false → new ≡ old)
    → (asked : List ℕ) → option_or (value_in new asked) (if is_member some asked then Some v else None) ≡ option_or (value_in first asked) (if is_member names asked then Some v else None)
noted_on first old new names some (name, true) v here are so_far more same asked =
    ap (λ o. option_or o (if is_member some asked then Some v else None)) (more refl asked)
    ∙ or_more (value_in old asked) v (bytes_eq asked name) (is_member some asked)
    ∙ ap (λ (b : Bool). option_or (value_in old asked) (if b then Some v else None)) (sym (members_on names some (name, true) asked here are))
    ∙ so_far asked
noted_on first old new names some (name, false) v here are so_far more same asked =
    ap (λ n. option_or (value_in n asked) (if is_member some asked then Some v else None)) (same refl)
    ∙ ap (λ (b : Bool). option_or (value_in old asked) (if b then Some v else None)) (sym (members_on names some (name, false) asked here are))
    ∙ so_far asked

-- ---- results

pub on_ok : {T E : Type 0} (r : Result T E) (P Q : Type 0) → (P → Q) → OnOk r P → OnOk r Q
on_ok (Ok x) P Q to h = to h
on_ok (Err e) P Q to h = tt

pub not_both : (b : Bool) → b ≡ true → b ≡ false → ⊥
not_both b t f = cc
