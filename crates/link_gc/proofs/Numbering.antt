-- The numbers that are found are those of the sections that may be kept.
use Rattle.std.proofs.Common.{◌≡◌, ◌+◌, ◌∙◌, ◌<◌, ◌≤◌, ◌&&◌, ℕ, zero, suc, Bool, true, false, not, ◌++◌, All, List, [], ◌∷◌, Option, None, Some, ap, append_assoc, arith, drop, map, refl, subst, sym, take, if◌then◌else◌}
use Rattle.std.specs.Prelude.{nat_lt, option_map, slice_get}
use Rattle.std.specs.Option.{option_map_or}
use Rattle.std.proofs.lemmas.Bool.{le-ltb, lt-ltb}
use Rattle.std.proofs.lemmas.List.Elements.{All-push, All-weaker}
use Rattle.std.proofs.lemmas.Option.{same_Some}
use Rattle.std.specs.List.{enumerate_from}
use Rattle.link_closure.specs.Closure.{is_marked}
use Rattle.link_input.specs.InputFiles.{sections_of}
use Rattle.link_input.specs.Limits.{total}
use Rattle.link_input.specs.ObjectFile.{ObjectFile}
use Rattle.link_resolve_discarded.specs.Discarded.{discarded_in}
use Rattle.link_resolve_discarded.specs.Indexed.{IndexedGroups}
use Rattle.link_resolve_discarded.proofs.Same.{same-sections}
use Rattle.link_rules.specs.Comdat.{is_discarded_by}
use Rattle.link_rules.specs.Selection.{Selection}
use Rattle.link_gc_sections.specs.LiveSections.{is_gone, is_loaded_section, section_number, sections_before}
use Rattle.link_gc.specs.declared.numbers.SectionSpan.{SectionSpan}
use Rattle.link_gc.specs.Numbering.{AreNumbersOf, node_number, spans_from}

-- how many sections of an object have a number that is of use
abbrev pub len_of : List Bool → ℕ → ObjectFile → ℕ
len_of marks f o = if is_marked marks f then sections_of o else 0

-- the numbers of the sections of an object
abbrev pub span : ℕ → ℕ → SectionSpan
span start len = record { start = start; len = len }

-- what stands at a place of the numbers
pub span-at : (marks : List Bool) (first start : ℕ) (objects : List ObjectFile) (f : ℕ)
    → slice_get (spans_from marks start (enumerate_from first objects)) f
    ≡ option_map (λ o. span (start + total sections_of (take f objects)) (len_of marks (first + f) o)) (slice_get objects f)
span-at marks first start [] f = refl
span-at marks first start (o ∷ os) zero =
    let here : start ≡ start + 0 = omega arith in
    let place : first ≡ first + 0 = omega arith in
    ap (λ n. Some (span n (len_of marks first o))) here ∙ ap (λ n. Some (span (start + 0) (len_of marks n o))) place
span-at marks first start (o ∷ os) (suc f) =
    let before : start + sections_of o + total sections_of (take f os) ≡ start + (sections_of o + total sections_of (take f os)) = omega arith in
    let place : first + 1 + f ≡ first + suc f = omega arith in
    span-at marks (first + 1) (start + sections_of o) os f
    ∙ (ap (λ n. option_map (λ x. span n (len_of marks (first + 1 + f) x)) (slice_get os f)) before
    ∙ ap (λ n. option_map (λ x. span (start + (sections_of o + total sections_of (take f os))) (len_of marks n x)) (slice_get os f)) place)

-- the numbers of an object's sections stand at its place
pub span-there : (l : Selection) (spans : List SectionSpan) (f : ℕ) → spans ≡ spans_from l.marks 0 (enumerate_from 0 l.stage.objects)
    → slice_get spans f ≡ option_map (λ o. span (sections_before l.stage f) (len_of l.marks f o)) (slice_get l.stage.objects f)
span-there l spans f are =
    let before : 0 + sections_before l.stage f ≡ sections_before l.stage f = omega arith in
    let place : 0 + f ≡ f = omega arith in
    ap (λ (xs : List SectionSpan). slice_get xs f) are ∙ (span-at l.marks 0 0 l.stage.objects f
    ∙ (ap (λ n. option_map (λ o. span n (len_of l.marks (0 + f) o)) (slice_get l.stage.objects f)) before
    ∙ ap (λ n. option_map (λ o. span (sections_before l.stage f) (len_of l.marks n o)) (slice_get l.stage.objects f)) place))

-- there is a section of this number where there are so many
abbrev pub is_within : ℕ → Option SectionSpan → Bool
is_within section s = option_map_or (λ (x : SectionSpan). nat_lt section x.len) s false

-- the sections of loaded regular objects are those that have numbers
pub loaded-within : (l : Selection) (spans : List SectionSpan) (f section : ℕ) → spans ≡ spans_from l.marks 0 (enumerate_from 0 l.stage.objects)
    → is_loaded_section l (f, section) ≡ is_within section (slice_get spans f)
loaded-within l spans f section are = by (is_marked l.marks f) (slice_get l.stage.objects f) ∙ ap (is_within section) (sym (span-there l spans f are))
  where
    by : (loaded : Bool) (o : Option ObjectFile) → (loaded && option_map_or (λ x. nat_lt section (sections_of x)) o false)
        ≡ is_within section (option_map (λ x. span (sections_before l.stage f) (if loaded then sections_of x else 0)) o)
    by true None = refl
    by false None = refl
    by true (Some o) = refl
    by false (Some o) = sym (le-ltb section 0 (omega arith))

-- the first number of an object's sections
pub starts-there : (l : Selection) (spans : List SectionSpan) (f : ℕ) (s : SectionSpan) → spans ≡ spans_from l.marks 0 (enumerate_from 0 l.stage.objects)
    → slice_get spans f ≡ Some s → s.start ≡ sections_before l.stage f
starts-there l spans f s are at = by (slice_get l.stage.objects f) (sym at ∙ span-there l spans f are)
  where
    by : (o : Option ObjectFile) → Some s ≡ option_map (λ x. span (sections_before l.stage f) (len_of l.marks f x)) o → s.start ≡ sections_before l.stage f
    by None is = cc
    by (Some o) is = ap (λ (x : SectionSpan). x.start) (same_Some s (span (sections_before l.stage f) (len_of l.marks f o)) is)

-- a section below their count is one of a loaded regular object
pub loaded-there : (l : Selection) (spans : List SectionSpan) (f section : ℕ) (s : SectionSpan) → spans ≡ spans_from l.marks 0 (enumerate_from 0 l.stage.objects)
    → slice_get spans f ≡ Some s → section < s.len → is_loaded_section l (f, section) ≡ true
loaded-there l spans f section s are at lt = loaded-within l spans f section are ∙ (ap (is_within section) at ∙ lt-ltb section s.len lt)

-- a section past their count is not
pub lost-past : (l : Selection) (spans : List SectionSpan) (f section : ℕ) (s : SectionSpan) → spans ≡ spans_from l.marks 0 (enumerate_from 0 l.stage.objects)
    → slice_get spans f ≡ Some s → s.len ≤ section → is_loaded_section l (f, section) ≡ false
lost-past l spans f section s are at past = loaded-within l spans f section are ∙ (ap (is_within section) at ∙ le-ltb section s.len past)

-- nor is one where there are no numbers
pub lost-nowhere : (l : Selection) (spans : List SectionSpan) (f section : ℕ) → spans ≡ spans_from l.marks 0 (enumerate_from 0 l.stage.objects)
    → slice_get spans f ≡ None → is_loaded_section l (f, section) ≡ false
lost-nowhere l spans f section are at = loaded-within l spans f section are ∙ ap (is_within section) at

-- the groups tell which sections go with theirs
pub gone-by : (l : Selection) (spans : List SectionSpan) (groups : IndexedGroups) (f section : ℕ) → AreNumbersOf l spans groups
    → is_discarded_by (discarded_in groups) f section ≡ is_gone l (f, section)
gone-by l spans groups f section are = same-sections l.stage l.marks groups are.groups_are f section

-- what is no section of a loaded regular object has no number
pub unloaded-number : (l : Selection) (f section : ℕ) → is_loaded_section l (f, section) ≡ false → None ≡ node_number l (f, section)
unloaded-number l f section not_loaded =
    sym (ap (λ (b : Bool). if b && not (is_gone l (f, section)) then Some (section_number l.stage (f, section)) else None) not_loaded)

-- what goes with its group has none
pub gone-number : (l : Selection) (f section : ℕ) → is_gone l (f, section) ≡ true → None ≡ node_number l (f, section)
gone-number l f section gone = by (is_loaded_section l (f, section)) ∙ sym (ap (λ (b : Bool). if is_loaded_section l (f, section) && not b then Some (section_number l.stage (f, section)) else None) gone)
  where
    by : (loaded : Bool) → None ≡ (if loaded && false then Some (section_number l.stage (f, section)) else None)
    by true = refl
    by false = refl

-- each other one has that of its place
pub kept-number : (l : Selection) (f section start : ℕ) → is_loaded_section l (f, section) ≡ true → is_gone l (f, section) ≡ false → start ≡ sections_before l.stage f
    → Some (start + section) ≡ node_number l (f, section)
kept-number l f section start loaded stays starts =
    ap (λ n. Some (n + section)) starts
    ∙ (sym (ap (λ (b : Bool). if b && true then Some (section_number l.stage (f, section)) else None) loaded)
    ∙ sym (ap (λ (b : Bool). if is_loaded_section l (f, section) && not b then Some (section_number l.stage (f, section)) else None) stays))

-- the numbers of the sections of one object more
pub spans-more : (marks : List Bool) (objects : List (ℕ × ObjectFile)) (i count next : ℕ) (o : ℕ × ObjectFile) (s : SectionSpan) (old new all : List SectionSpan)
    → drop i objects ≡ o ∷ drop (i + 1) objects → s ≡ span count (len_of marks o.0 o.1) → next ≡ count + sections_of o.1 → new ≡ old ++ s ∷ []
    → old ++ spans_from marks count (drop i objects) ≡ all → new ++ spans_from marks next (drop (i + 1) objects) ≡ all
spans-more marks objects i count next o s old new all at is on more before =
    let own : SectionSpan = span count (len_of marks o.0 o.1) in
    let rest : List (ℕ × ObjectFile) = drop (i + 1) objects in
    ap (λ (xs : List SectionSpan). xs ++ spans_from marks next rest) (more ∙ ap (λ x. old ++ x ∷ []) is)
    ∙ (ap (λ n. (old ++ own ∷ []) ++ spans_from marks n rest) on
    ∙ (append_assoc old (own ∷ []) (spans_from marks (count + sections_of o.1) rest)
    ∙ (ap (λ (os : List (ℕ × ObjectFile)). old ++ spans_from marks count os) (sym at) ∙ before)))

-- how many sections there are with those of one object more
pub counted-more : (objects : List (ℕ × ObjectFile)) (i count next all : ℕ) (o : ℕ × ObjectFile) → drop i objects ≡ o ∷ drop (i + 1) objects → next ≡ count + sections_of o.1
    → count + total sections_of (map (λ (x : ℕ × ObjectFile). x.1) (drop i objects)) ≡ all → next + total sections_of (map (λ (x : ℕ × ObjectFile). x.1) (drop (i + 1) objects)) ≡ all
counted-more objects i count next all o at on before =
    let left : total sections_of (map (λ (x : ℕ × ObjectFile). x.1) (drop i objects)) ≡ sections_of o.1 + total sections_of (map (λ (x : ℕ × ObjectFile). x.1) (drop (i + 1) objects)) =
    ap (λ (os : List (ℕ × ObjectFile)). total sections_of (map (λ (x : ℕ × ObjectFile). x.1) os)) at in
    omega (arith, left, on, before)

-- so far go the numbers of sections
abbrev pub EndsBy : ℕ → SectionSpan → Type 0
EndsBy count s = s.start + s.len ≤ count

-- those of one object more end by then
pub within-more : (old new : List SectionSpan) (s : SectionSpan) (count next : ℕ) → new ≡ old ++ s ∷ [] → count ≤ next → EndsBy next s
    → All (λ (x : SectionSpan). x.start + x.len ≤ count) old → All (λ (x : SectionSpan). x.start + x.len ≤ next) new
within-more old new s count next more on here before =
    let longer : (x : SectionSpan) → EndsBy count x → EndsBy next x = λ x ends. omega (arith, on, ends) in
    subst (λ (xs : List SectionSpan). All (EndsBy next) xs) (sym more) (All-push (EndsBy next) old s (All-weaker (EndsBy count) (EndsBy next) longer old before) here)
