-- The symbols that name groups, as they are listed.
use Rattle.std.proofs.Common.{◌≡◌, ◌<◌, ◌≤◌, ◌+◌, ◌∙◌, ◌++◌, ℕ, Bool, true, false, cond, not, if◌then◌else◌, List, [], ◌∷◌, length, get_or, drop, map, All, arith, Option, Some, None, refl, sym, ap}
use Rattle.std.specs.Prelude.{filter, slice_get}
use Rattle.std.specs.Option.{option_or}
use Rattle.std.proofs.lemmas.List.{append_assoc, drop_more}
use Rattle.std.proofs.lemmas.List.Elements.{All-filter, All-map}
use Rattle.std.proofs.lemmas.Option.{get_or_from_slice_get}
use Rattle.link_input.specs.declared.object.SectionGroup.{SectionGroup}
use Rattle.link_input.specs.Symbols.{Symbol, object_in}
use Rattle.link_rules.specs.Places.{is_number}
use Rattle.link_resolve_comdat.specs.ObjectGroups.{ObjectGroups, is_discarded}
use Rattle.link_resolve_discarded.specs.Signatures.{first_id, signatures_of}

-- a symbol more: what was noted before, or the symbol, or a later one
pub noted-more : (f : ℕ) (old new object : Option ℕ) (id next after : ℕ) (x : Symbol) (left rest : List Symbol) → id ≡ next → left ≡ x ∷ rest → after ≡ next + 1 → object ≡ object_in x.origin
    → new ≡ option_or old (if is_number object f then Some id else None) → option_or new (first_id f after rest) ≡ option_or old (first_id f next left)
noted-more f old new object id next after x left rest at is more of noted =
    ap (λ (o : Option ℕ). option_or o (first_id f after rest)) noted
    ∙ (by old (is_number object f) (first_id f after rest)
    ∙ (ap (λ (o : Option ℕ). option_or old (if is_number o f then Some id else first_id f after rest)) of
    ∙ (ap (λ n. option_or old (if is_number (object_in x.origin) f then Some n else first_id f after rest)) at
    ∙ (ap (λ n. option_or old (if is_number (object_in x.origin) f then Some next else first_id f n rest)) more
    ∙ ap (λ (xs : List Symbol). option_or old (first_id f next xs)) (sym is)))))
  where
    by : (o : Option ℕ) (b : Bool) (r : Option ℕ) → option_or (option_or o (if b then Some id else None)) r ≡ option_or o (if b then Some id else r)
    by None true r = refl
    by None false r = refl
    by (Some n) b r = refl

-- the groups from one on
from : (groups : List SectionGroup) (i : ℕ) (h : SectionGroup) → i < length groups → slice_get groups i ≡ Some h → drop i groups ≡ h ∷ drop (i + 1) groups
from groups i h lt is = drop_more groups i h lt ∙ ap (λ (x : SectionGroup). x ∷ drop (i + 1) groups) (get_or_from_slice_get groups i h h is)

-- a group whose header stays
pub signature-more : (first : ℕ) (own : ObjectGroups) (groups : List SectionGroup) (i : ℕ) (h : SectionGroup) (old new all : List ℕ) → i < length groups → slice_get groups i ≡ Some h
    → is_discarded own h.index ≡ false → new ≡ old ++ (first + h.signature_symbol) ∷ [] → old ++ signatures_of first own (drop i groups) ≡ all → new ++ signatures_of first own (drop (i + 1) groups) ≡ all
signature-more first own groups i h old new all lt is stays more before =
    let rest = signatures_of first own (drop (i + 1) groups) in
    let next : signatures_of first own (drop i groups) ≡ (first + h.signature_symbol) ∷ rest =
    ap (λ (gs : List SectionGroup). signatures_of first own gs) (from groups i h lt is)
    ∙ ap (λ (b : Bool). map (λ x. first + x.signature_symbol) (cond (not b) (h ∷ filter (λ x. not (is_discarded own x.index)) (drop (i + 1) groups)) (filter (λ x. not (is_discarded own x.index)) (drop (i + 1) groups)))) stays in
    ap (λ ns. ns ++ rest) more ∙ (append_assoc old ((first + h.signature_symbol) ∷ []) rest ∙ (ap (λ ns. old ++ ns) (sym next) ∙ before))

-- a group whose header is left out
pub signature-lost : (first : ℕ) (own : ObjectGroups) (groups : List SectionGroup) (i : ℕ) (h : SectionGroup) (old new all : List ℕ) → i < length groups → slice_get groups i ≡ Some h
    → is_discarded own h.index ≡ true → new ≡ old → old ++ signatures_of first own (drop i groups) ≡ all → new ++ signatures_of first own (drop (i + 1) groups) ≡ all
signature-lost first own groups i h old new all lt is lost same before =
    let rest = signatures_of first own (drop (i + 1) groups) in
    let next : signatures_of first own (drop i groups) ≡ rest =
    ap (λ (gs : List SectionGroup). signatures_of first own gs) (from groups i h lt is)
    ∙ ap (λ (b : Bool). map (λ x. first + x.signature_symbol) (cond (not b) (h ∷ filter (λ x. not (is_discarded own x.index)) (drop (i + 1) groups)) (filter (λ x. not (is_discarded own x.index)) (drop (i + 1) groups)))) lost in
    ap (λ ns. ns ++ rest) same ∙ (ap (λ ns. old ++ ns) (sym next) ∙ before)

-- they are below a number that the object's symbols are below
pub names-below : (first count bound : ℕ) (own : ObjectGroups) (groups : List SectionGroup) → first + count ≤ bound → All (λ x. x.signature_symbol < count) groups
    → All (λ s. s < bound) (signatures_of first own groups)
names-below first count bound own groups fits within =
    let Inside : SectionGroup → Type 0 = λ x. x.signature_symbol < count in
    let Below : ℕ → Type 0 = λ s. s < bound in
    let left = filter (λ x. not (is_discarded own x.index)) groups in
    let each : (x : SectionGroup) → Inside x → Below (first + x.signature_symbol) = λ x lt. omega (arith, fits, lt) in
    let inside : All Inside left = All-filter (λ x. not (is_discarded own x.index)) Inside groups within in
    All-map Below (λ x. first + x.signature_symbol) left (λ k d lt. each (get_or left k d) (inside k d lt))
