-- Rules that grow by a pattern, by a block and by an entry.
use Rattle.std.proofs.Common.{◌≡◌, ℕ, zero, suc, Bool, true, false, List, [], ◌∷◌, ◌++◌, length, Some, refl, sym, ap, subst, ◌∙◌, ◌⊎◌, inl, inr}
use Rattle.std.specs.Prelude.{slice_get, ◌||◌, ◌↔◌, Result, Ok, Err, IsOk, OnOk, OnErr}
use Rattle.std.specs.Str.{bytes_eq}
use Rattle.std.proofs.lemmas.Option.{same_Some}
use Rattle.std.proofs.lemmas.Slice.Eq.{bytes_eq-Decides}
use Rattle.link_glob.specs.Glob.{GlobToken}
use Rattle.link_script.specs.declared.rules.BasicMatchRules.{BasicMatchRules}
use Rattle.link_script.specs.declared.rules.MatchRules.{MatchRules}
use Rattle.link_script_syntax.specs.declared.matcher.SymbolMatcher.{SymbolMatcher}
use Rattle.link_script_syntax.specs.declared.matcher.ParsedSymbolMatcher.{ParsedSymbolMatcher}
use Rattle.link_script_syntax.specs.declared.matcher.ParsedSymbolMatcher.TheVariants.{Single, Multiple, CxxMatchers}
use Rattle.link_names.specs.Names.{Names, is_member, AddsName}
use Rattle.link_script.specs.Filter.{Filter, name, nonstar, star, every, HasGlob, HasFilter, filter_of, AreFilters, SameRules, SameFilters, Adds, AddsAll, of_language, EntryHas, EntriesHave, AddsEntry, HasEntries}

slice_pushed : {A : Type 0} (xs : List A) (x y : A) (k : ℕ) → slice_get (xs ++ x ∷ []) k ≡ Some y → (slice_get xs k ≡ Some y) ⊎ (x ≡ y)
slice_pushed [] x y zero e = inr (same_Some x y e)
slice_pushed [] x y (suc k) e = absurd cc
slice_pushed (z ∷ xs) x y zero e = inl e
slice_pushed (z ∷ xs) x y (suc k) e = slice_pushed xs x y k e

slice_kept : {A : Type 0} (xs : List A) (x y : A) (k : ℕ) → slice_get xs k ≡ Some y → slice_get (xs ++ x ∷ []) k ≡ Some y
slice_kept [] x y k e = absurd cc
slice_kept (z ∷ xs) x y zero e = e
slice_kept (z ∷ xs) x y (suc k) e = slice_kept xs x y k e

slice_last : {A : Type 0} (xs : List A) (x : A) → slice_get (xs ++ x ∷ []) (length xs) ≡ Some x
slice_last [] x = refl
slice_last (z ∷ xs) x = slice_last xs x

-- the rules at one filter, behind a change that adds one
abbrev AddsAt : Filter → BasicMatchRules → BasicMatchRules → Filter → Type 0
AddsAt added old new f = HasFilter new f ↔ (HasFilter old f ⊎ (f ≡ added))

or_parts : (a b : Bool) → (a || b) ≡ true → (a ≡ true) ⊎ (b ≡ true)
or_parts true b e = inl refl
or_parts false b e = inr e

or_left : (a b : Bool) → a ≡ true → (a || b) ≡ true
or_left true b p = refl
or_left false b p = absurd cc

or_right : (a b : Bool) → b ≡ true → (a || b) ≡ true
or_right true b p = refl
or_right false b p = p

name_same : (a b : List ℕ) → name a ≡ name b → a ≡ b
name_same a b e = cc

nonstar_same : (a b : List GlobToken) → nonstar a ≡ nonstar b → a ≡ b
nonstar_same a b e = cc

star_same : (a b : List GlobToken) → star a ≡ star b → a ≡ b
star_same a b e = cc

-- what isn't changed is kept, and is no added filter
same_filter : {A : Type 0} (P : A → Type 0) (old new : A) (Q : Type 0) → new ≡ old → (Q → ⊥) → P new ↔ (P old ⊎ Q)
same_filter P old new Q e never = (λ h. inl (subst P e h), λ o. elim o as (λ _. P new) [ inl h ↦ subst P (sym e) h | inr q ↦ absurd (never q) ])

glob_pushed : (old new : List (List GlobToken)) (q p : List GlobToken) → new ≡ old ++ q ∷ [] → HasGlob new p ↔ (HasGlob old p ⊎ (p ≡ q))
glob_pushed old new q p e = (
  λ h. elim (slice_pushed old q p h.0 (ap (λ (xs : List (List GlobToken)). slice_get xs h.0) (sym e) ∙ h.1)) as (λ _. HasGlob old p ⊎ (p ≡ q)) [ inl at ↦ inl (h.0, at) | inr is ↦ inr (sym is) ],
  λ o. elim o as (λ _. HasGlob new p) [
    | inl h ↦ (h.0, ap (λ (xs : List (List GlobToken)). slice_get xs h.0) e ∙ slice_kept old q p h.0 h.1)
    | inr is ↦ (length old, ap (λ (xs : List (List GlobToken)). slice_get xs (length old)) e ∙ slice_last old q ∙ ap (λ (x : List GlobToken). Some x) (sym is))
  ],
)

pub adds_name : (old new : BasicMatchRules) (n : List ℕ) → AddsName n old.exact new.exact → new.nonstar_globs.items ≡ old.nonstar_globs.items → new.star_globs.items ≡ old.star_globs.items → new.matches_all ≡ old.matches_all → (f : Filter) → AddsAt (name n) old new f
adds_name old new n adds ns s a (name b) = (
  λ h. elim (or_parts (bytes_eq b n) (is_member old.exact b) (sym (adds b) ∙ h)) as (λ _. HasFilter old (name b) ⊎ (name b ≡ name n)) [
    | inl same ↦ inr (ap name ((bytes_eq-Decides b n).0 same))
    | inr there ↦ inl there
  ],
  λ o. elim o as (λ _. HasFilter new (name b)) [
    | inl h ↦ adds b ∙ or_right (bytes_eq b n) (is_member old.exact b) h
    | inr is ↦ adds b ∙ or_left (bytes_eq b n) (is_member old.exact b) ((bytes_eq-Decides b n).1 (name_same b n is))
  ],
)
adds_name old new n adds ns s a (nonstar p) = same_filter (λ (gs : List (List GlobToken)). HasGlob gs p) old.nonstar_globs.items new.nonstar_globs.items (nonstar p ≡ name n) ns (λ e. cc)
adds_name old new n adds ns s a (star p) = same_filter (λ (gs : List (List GlobToken)). HasGlob gs p) old.star_globs.items new.star_globs.items (star p ≡ name n) s (λ e. cc)
adds_name old new n adds ns s a every = same_filter (λ (b : Bool). b ≡ true) old.matches_all new.matches_all (every ≡ name n) a (λ e. cc)

pub adds_nonstar : (old new : BasicMatchRules) (q : List GlobToken) → new.nonstar_globs.items ≡ old.nonstar_globs.items ++ q ∷ [] → new.exact ≡ old.exact → new.star_globs.items ≡ old.star_globs.items → new.matches_all ≡ old.matches_all → (f : Filter) → AddsAt (nonstar q) old new f
adds_nonstar old new q e x s a (name b) = same_filter (λ (names : Names). is_member names b ≡ true) old.exact new.exact (name b ≡ nonstar q) x (λ e. cc)
adds_nonstar old new q e x s a (nonstar p) =
    let k = glob_pushed old.nonstar_globs.items new.nonstar_globs.items q p e in (
      λ h. elim (k.0 h) as (λ _. HasFilter old (nonstar p) ⊎ (nonstar p ≡ nonstar q)) [ inl at ↦ inl at | inr is ↦ inr (ap nonstar is) ],
      λ o. elim o as (λ _. HasFilter new (nonstar p)) [ inl h ↦ k.1 (inl h) | inr is ↦ k.1 (inr (nonstar_same p q is)) ],
    )
adds_nonstar old new q e x s a (star p) = same_filter (λ (gs : List (List GlobToken)). HasGlob gs p) old.star_globs.items new.star_globs.items (star p ≡ nonstar q) s (λ e. cc)
adds_nonstar old new q e x s a every = same_filter (λ (b : Bool). b ≡ true) old.matches_all new.matches_all (every ≡ nonstar q) a (λ e. cc)

pub adds_star : (old new : BasicMatchRules) (q : List GlobToken) → new.star_globs.items ≡ old.star_globs.items ++ q ∷ [] → new.exact ≡ old.exact → new.nonstar_globs.items ≡ old.nonstar_globs.items → new.matches_all ≡ old.matches_all → (f : Filter) → AddsAt (star q) old new f
adds_star old new q e x n a (name b) = same_filter (λ (names : Names). is_member names b ≡ true) old.exact new.exact (name b ≡ star q) x (λ e. cc)
adds_star old new q e x n a (nonstar p) = same_filter (λ (gs : List (List GlobToken)). HasGlob gs p) old.nonstar_globs.items new.nonstar_globs.items (nonstar p ≡ star q) n (λ e. cc)
adds_star old new q e x n a (star p) =
    let k = glob_pushed old.star_globs.items new.star_globs.items q p e in (
      λ h. elim (k.0 h) as (λ _. HasFilter old (star p) ⊎ (star p ≡ star q)) [ inl at ↦ inl at | inr is ↦ inr (ap star is) ],
      λ o. elim o as (λ _. HasFilter new (star p)) [ inl h ↦ k.1 (inl h) | inr is ↦ k.1 (inr (star_same p q is)) ],
    )
adds_star old new q e x n a every = same_filter (λ (b : Bool). b ≡ true) old.matches_all new.matches_all (every ≡ star q) a (λ e. cc)

are_more : (ms : List SymbolMatcher) (m : SymbolMatcher) (f : Filter) → AreFilters (ms ++ m ∷ []) f ↔ (AreFilters ms f ⊎ (f ≡ filter_of m))
are_more [] m f = (
  λ a. elim a as (λ _. AreFilters [] f ⊎ (f ≡ filter_of m)) [ inl e ↦ inr e | inr n ↦ absurd n ],
  λ o. elim o as (λ _. AreFilters (m ∷ []) f) [ inl n ↦ absurd n | inr e ↦ inl e ],
)
are_more (x ∷ ms) m f = let k = are_more ms m f in (
  λ a. elim a as (λ _. AreFilters (x ∷ ms) f ⊎ (f ≡ filter_of m)) [
    | inl e ↦ inl (inl e)
    | inr b ↦ elim (k.0 b) as (λ _. AreFilters (x ∷ ms) f ⊎ (f ≡ filter_of m)) [ inl p ↦ inl (inr p) | inr q ↦ inr q ]
  ],
  λ o. elim o as (λ _. AreFilters (x ∷ (ms ++ m ∷ [])) f) [
    | inl a ↦ elim a as (λ _. AreFilters (x ∷ (ms ++ m ∷ [])) f) [ inl e ↦ inl e | inr p ↦ inr (k.1 (inl p)) ]
    | inr q ↦ inr (k.1 (inr q))
  ],
)

-- ---- entries

no_more : {P : Type 0} → P ↔ (P ⊎ ⊥)
no_more {P} = (λ h. inl h, λ o. elim o as (λ _. P) [ inl h ↦ h | inr n ↦ absurd n ])

pub adds_single : (old new : MatchRules) (m : SymbolMatcher) → Adds m old.general new.general → new.cxx ≡ old.cxx → AddsEntry (Single m) old new
adds_single old new m adds same false f = adds f
adds_single old new m adds same true f = subst (λ (r : BasicMatchRules). HasFilter r f ↔ (HasFilter old.cxx f ⊎ ⊥)) (sym same) no_more

pub adds_several : (old new : MatchRules) (ms : List SymbolMatcher) → AddsAll ms old.general new.general → new.cxx ≡ old.cxx → AddsEntry (Multiple ms) old new
adds_several old new ms adds same false f = adds f
adds_several old new ms adds same true f = subst (λ (r : BasicMatchRules). HasFilter r f ↔ (HasFilter old.cxx f ⊎ ⊥)) (sym same) no_more

pub adds_cxx : (old new : MatchRules) (ms : List SymbolMatcher) → AddsAll ms old.cxx new.cxx → new.general ≡ old.general → AddsEntry (CxxMatchers ms) old new
adds_cxx old new ms adds same false f = subst (λ (r : BasicMatchRules). HasFilter r f ↔ (HasFilter old.general f ⊎ ⊥)) (sym same) no_more
adds_cxx old new ms adds same true f = adds f

entries_more : (es : List ParsedSymbolMatcher) (e : ParsedSymbolMatcher) (cxx : Bool) (f : Filter) → EntriesHave (es ++ e ∷ []) cxx f ↔ (EntriesHave es cxx f ⊎ EntryHas e cxx f)
entries_more [] e cxx f = (
  λ a. elim a as (λ _. EntriesHave [] cxx f ⊎ EntryHas e cxx f) [ inl h ↦ inr h | inr n ↦ absurd n ],
  λ o. elim o as (λ _. EntriesHave (e ∷ []) cxx f) [ inl n ↦ absurd n | inr h ↦ inl h ],
)
entries_more (x ∷ es) e cxx f = let k = entries_more es e cxx f in (
  λ a. elim a as (λ _. EntriesHave (x ∷ es) cxx f ⊎ EntryHas e cxx f) [
    | inl h ↦ inl (inl h)
    | inr b ↦ elim (k.0 b) as (λ _. EntriesHave (x ∷ es) cxx f ⊎ EntryHas e cxx f) [ inl p ↦ inl (inr p) | inr q ↦ inr q ]
  ],
  λ o. elim o as (λ _. EntriesHave (x ∷ (es ++ e ∷ [])) cxx f) [
    | inl a ↦ elim a as (λ _. EntriesHave (x ∷ (es ++ e ∷ [])) cxx f) [ inl h ↦ inl h | inr p ↦ inr (k.1 (inl p)) ]
    | inr q ↦ inr (k.1 (inr q))
  ],
)

pub entries_none : (rules : MatchRules) → ((cxx : Bool) (f : Filter) → HasFilter (of_language rules cxx) f → ⊥) → HasEntries [] rules
entries_none rules never cxx f = (λ h. never cxx f h, λ n. absurd n)

pub entries_grow : (es : List ParsedSymbolMatcher) (e : ParsedSymbolMatcher) (old new : MatchRules) → HasEntries es old → AddsEntry e old new → HasEntries (es ++ e ∷ []) new
entries_grow es e old new all one cxx f = (
  λ h. elim ((one cxx f).0 h) as (λ _. EntriesHave (es ++ e ∷ []) cxx f) [
    | inl o ↦ (entries_more es e cxx f).1 (inl ((all cxx f).0 o))
    | inr b ↦ (entries_more es e cxx f).1 (inr b)
  ],
  λ h. elim ((entries_more es e cxx f).0 h) as (λ _. HasFilter (of_language new cxx) f) [
    | inl a ↦ (one cxx f).1 (inl ((all cxx f).1 a))
    | inr b ↦ (one cxx f).1 (inr b)
  ],
)

-- ---- results

pub on_ok : {T E : Type 0} (r : Result T E) (P Q : Type 0) → (P → Q) → OnOk r P → OnOk r Q
on_ok (Ok x) P Q to h = to h
on_ok (Err e) P Q to h = tt

pub on_err : {T E : Type 0} (r : Result T E) (P Q : Type 0) → (P → Q) → OnErr r P → OnErr r Q
on_err (Ok x) P Q to h = tt
on_err (Err e) P Q to h = to h

pub from_ok : {T E : Type 0} (r : Result T E) (P : Type 0) → IsOk r → OnOk r P → P
from_ok (Ok x) P is h = h
from_ok (Err e) P is h = absurd cc

-- one language's rules have the same filters, and the other's are the same
pub same_general : (old new : MatchRules) → SameRules old.general new.general → new.cxx ≡ old.cxx → SameFilters old new
same_general old new same cxx false f = same f
same_general old new same cxx true f = (λ h. subst (λ (r : BasicMatchRules). HasFilter r f) cxx h, λ h. subst (λ (r : BasicMatchRules). HasFilter r f) (sym cxx) h)

pub same_cxx : (old new : MatchRules) → SameRules old.cxx new.cxx → new.general ≡ old.general → SameFilters old new
same_cxx old new same general false f = (λ h. subst (λ (r : BasicMatchRules). HasFilter r f) general h, λ h. subst (λ (r : BasicMatchRules). HasFilter r f) (sym general) h)
same_cxx old new same general true f = same f

-- the patterns that are left and the rules have what there was in the beginning, also where one goes over
pub goes_over : (left rest all : List SymbolMatcher) (m : SymbolMatcher) (first old new : BasicMatchRules) → left ≡ rest ++ m ∷ []
    → ((f : Filter) → (HasFilter old f ⊎ AreFilters left f) ↔ (HasFilter first f ⊎ AreFilters all f)) → Adds m old new
    → (f : Filter) → (HasFilter new f ⊎ AreFilters rest f) ↔ (HasFilter first f ⊎ AreFilters all f)
goes_over left rest all m first old new is so adds f =
    let k = are_more rest m f in (
      λ h. (so f).0 (elim h as (λ _. HasFilter old f ⊎ AreFilters left f) [
        | inl n ↦ elim ((adds f).0 n) as (λ _. HasFilter old f ⊎ AreFilters left f) [ inl o ↦ inl o | inr e ↦ inr (subst (λ (ms : List SymbolMatcher). AreFilters ms f) (sym is) (k.1 (inr e))) ]
        | inr r ↦ inr (subst (λ (ms : List SymbolMatcher). AreFilters ms f) (sym is) (k.1 (inl r)))
      ]),
      λ h. elim ((so f).1 h) as (λ _. HasFilter new f ⊎ AreFilters rest f) [
        | inl o ↦ inl ((adds f).1 (inl o))
        | inr l ↦ elim (k.0 (subst (λ (ms : List SymbolMatcher). AreFilters ms f) is l)) as (λ _. HasFilter new f ⊎ AreFilters rest f) [ inl r ↦ inr r | inr e ↦ inl ((adds f).1 (inr e)) ]
      ],
    )
