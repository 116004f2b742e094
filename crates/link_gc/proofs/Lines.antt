-- What is told of sections of loaded regular objects.
use Rattle.std.proofs.Common.{◌≡◌, ◌++◌, ◌+◌, ◌-◌, ◌<◌, ◌≤◌, ◌&&◌, ◌∙◌, ℕ, suc, Bool, true, false, List, [], ◌∷◌, Option, Contains, IsTrue, get_or, slice_get, take, length, ap, append-nil, append_assoc, arith, subst, sym, if◌then◌else◌}
use Rattle.std.specs.Prelude.{codes, filter, nat_lt, not}
use Rattle.std.specs.List.{enumerate_from, flat_map, range_with_len}
use Rattle.std.specs.Option.{option_map_or}
use Rattle.std.proofs.lemmas.Bool.{lt-ltb}
use Rattle.std.proofs.lemmas.Grind.{flat_map-append}
use Rattle.std.proofs.lemmas.List.{take_more}
use Rattle.std.proofs.lemmas.List.Elements.{All-contains, All-contains_itself, All-filter, filter_passes}
use Rattle.link_closure.specs.Closure.{is_marked}
use Rattle.link_core_answer.specs.Parts.{Parts}
use Rattle.link_db_files.specs.Inputs.{objects_in}
use Rattle.link_input.specs.InputFiles.{sections_of}
use Rattle.link_input.specs.ObjectFile.{ObjectFile}
use Rattle.link_resolve.specs.Known.{Known}
use Rattle.link_resolve_discarded.specs.Regular.{regular_among}
use Rattle.link_rules.specs.Comdat.{loaded_regular}
use Rattle.link_rules.specs.Selection.{Selection}
use Rattle.link_rules.proofs.Settled.{both_true}
use Rattle.link_gc_sections.specs.LiveSections.{SectionPlace, is_gone, is_loaded_section, section_number}
use Rattle.link_gc_sections.specs.SectionText.{section_word}
use Rattle.link_gc.specs.Live.{is_live}
use Rattle.link_gc.specs.Numbering.{IsOf}
use Rattle.link_gc.proofs.AllEdges.{placed-in}

-- a section of a loaded regular object is one
pub section-loaded : (l : Selection) (o : ℕ × ObjectFile) (section : ℕ) → Contains (loaded_regular l.stage l.marks) o → section < o.1.object.sections → IsTrue (is_loaded_section l (o.0, section))
section-loaded l o section within lt =
    let all = enumerate_from 0 l.stage.objects in
    let Test : ℕ × ObjectFile → Bool = λ x. is_marked l.marks x.0 && not x.1.object.is_dynamic in
    let passes : Test o ≡ true = All-contains (λ x. Test x ≡ true) (filter Test all) o (filter_passes Test all) within in
    let listed : Contains all o = All-contains (Contains all) (filter Test all) o (All-filter Test (Contains all) all (All-contains_itself all)) within in
    let both = both_true (is_marked l.marks o.0) (not o.1.object.is_dynamic) passes in
    let here : nat_lt section (sections_of o.1) ≡ true = regular o.1.object.is_dynamic both.1 in
    ap (λ (b : Bool). b && option_map_or (λ x. nat_lt section (sections_of x)) (slice_get l.stage.objects o.0) false) both.0
    ∙ (ap (λ (x : Option ObjectFile). option_map_or (λ y. nat_lt section (sections_of y)) x false) (placed-in l.stage.objects o listed) ∙ here)
  where
    regular : (shared : Bool) → not shared ≡ true → nat_lt section (if shared then 0 else o.1.object.sections) ≡ true
    regular true is = absurd cc
    regular false is = lt-ltb section o.1.object.sections lt

-- the line of one number more
pub lines-more : {X : Type 0} (line : ℕ → List X) (k n : ℕ) (old new all : List X) → k < n → new ≡ old ++ line k → old ++ flat_map line (range_with_len k (n - k)) ≡ all
    → new ++ flat_map line (range_with_len (k + 1) (n - (k + 1))) ≡ all
lines-more {X} line k n old new all lt more before =
    let rest = flat_map line (range_with_len (k + 1) (n - (k + 1))) in
    let left : n - k ≡ suc (n - (k + 1)) = omega (arith, lt) in
    ap (λ (xs : List X). xs ++ rest) more ∙ (append_assoc old (line k) rest ∙ (ap (λ (m : ℕ). old ++ flat_map line (range_with_len k m)) (sym left) ∙ before))

-- at the end no lines are left
pub lines-end : {X : Type 0} (line : ℕ → List X) (k n : ℕ) (old all : List X) → n ≤ k → old ++ flat_map line (range_with_len k (n - k)) ≡ all → old ≡ all
lines-end {X} line k n old all past before =
    let none : n - k ≡ 0 = omega (arith, past) in
    sym (append-nil old) ∙ (ap (λ (m : ℕ). old ++ flat_map line (range_with_len k m)) (sym none) ∙ before)

-- at the start all are left
pub lines-start : {X : Type 0} (line : ℕ → List X) (n : ℕ) (old : List X) → old ++ flat_map line (range_with_len 0 (n - 0)) ≡ old ++ flat_map line (range_with_len 0 n)
lines-start {X} line n old = let all : n - 0 ≡ n = omega arith in ap (λ (m : ℕ). old ++ flat_map line (range_with_len 0 m)) all

-- of one object more come its lines
pub texts-more : {X Y : Type 0} (lines : X → List Y) (xs : List X) (i : ℕ) (x : X) (old new : List Y) → i < length xs → x ≡ get_or xs i x → old ≡ flat_map lines (take i xs) → new ≡ old ++ lines x
    → new ≡ flat_map lines (take (i + 1) xs)
texts-more {X} {Y} lines xs i x old new lt is before more =
    let next : take (i + 1) xs ≡ take i xs ++ x ∷ [] = take_more xs i x lt ∙ ap (λ (y : X). take i xs ++ y ∷ []) (sym is) in
    more ∙ (ap (λ (ys : List Y). ys ++ lines x) before ∙ (ap (λ (ys : List Y). flat_map lines (take i xs) ++ ys) (sym (append-nil (lines x)))
    ∙ (sym (flat_map-append lines (take i xs) (x ∷ [])) ∙ ap (flat_map lines) (sym next))))

-- the loaded regular objects of a link are those of its selection
pub regular-of : {P : Type 0} (l : Selection) (x : Parts P) → IsOf l x → regular_among x.known.marks (objects_in x.db.mapping.files.groups) ≡ loaded_regular l.stage l.marks
regular-of l x of =
    ap (λ (k : Known). regular_among k.marks (objects_in x.db.mapping.files.groups)) of.kept.known_is ∙ ap (λ (os : List ObjectFile). regular_among l.marks os) of.kept.objects

-- an object that is listed is one of a list that is the same
pub within-same : {X : Type 0} (xs ys : List X) (i : ℕ) (x : X) → xs ≡ ys → i < length xs → x ≡ get_or xs i x → Contains ys x
within-same {X} xs ys i x same lt is = subst (λ (zs : List X). Contains zs x) same (i, lt, sym is)

-- the word of a section that goes with its group
pub word-gone : (l : Selection) (marks : List Bool) (p : SectionPlace) → is_gone l p ≡ true → codes "gone" ≡ section_word l marks p
word-gone l marks p gone = ap (λ (b : Bool). if b then codes "gone" else (if is_marked marks (section_number l.stage p) then codes "live" else codes "dead")) (sym gone)

-- the word of one that stays, by its mark
word-kept : (l : Selection) (marks : List Bool) (p : SectionPlace) (mark : Bool) → is_gone l p ≡ false → IsTrue (is_loaded_section l p) → is_live l marks p ≡ mark
    → (if mark then codes "live" else codes "dead") ≡ section_word l marks p
word-kept l marks p mark stays loaded is =
    let marked : is_marked marks (section_number l.stage p) ≡ mark = sym (ap (λ (b : Bool). b && is_marked marks (section_number l.stage p)) loaded) ∙ is in
    ap (λ (b : Bool). if b then codes "live" else codes "dead") (sym marked)
    ∙ ap (λ (b : Bool). if b then codes "gone" else (if is_marked marks (section_number l.stage p) then codes "live" else codes "dead")) (sym stays)

-- that of a live one
pub word-live : (l : Selection) (marks : List Bool) (p : SectionPlace) → is_gone l p ≡ false → IsTrue (is_loaded_section l p) → is_live l marks p ≡ true → codes "live" ≡ section_word l marks p
word-live l marks p stays loaded is = word-kept l marks p true stays loaded is

-- that of one that nothing keeps
pub word-dead : (l : Selection) (marks : List Bool) (p : SectionPlace) → is_gone l p ≡ false → IsTrue (is_loaded_section l p) → is_live l marks p ≡ false → codes "dead" ≡ section_word l marks p
word-dead l marks p stays loaded is = word-kept l marks p false stays loaded is
