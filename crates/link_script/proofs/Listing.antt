-- Whether some pattern fits a name, by class or by filter.
use Rattle.std.proofs.Common.{Bool, true, false, refl, ◌⊎◌, inl, inr}
use Rattle.std.specs.Prelude.{IsTrue, ◌||◌}
use Rattle.link_script.specs.declared.rules.Class.{Class}
use Rattle.link_script.specs.declared.rules.Class.TheVariants.{Exact, Nonstar, Star, Every}
use Rattle.link_script.specs.declared.rules.MatchRules.{MatchRules}
use Rattle.link_script.specs.ExportRules.{class_fits, some_fits}
use Rattle.link_script.specs.Filter.{Filter, class_of, HasFilter, of_language}
use Rattle.link_script.specs.Lookup.{Asked, name_of, text_of}
use Rattle.link_script.specs.Rank.{Fits}
use Rattle.link_script.specs.Rules.{plain_fits, cxx_fits}
use Rattle.link_script.proofs.Best.{fit_found, fit_is}

-- some filter of the rules fits the name
abbrev pub SomeFilter : MatchRules → Asked → Type 0
SomeFilter rules a = (cxx : Bool) × (f : Filter) × HasFilter (of_language rules cxx) f × Fits (name_of a cxx) (text_of a cxx) f

or_parts : (a b : Bool) → IsTrue (a || b) → IsTrue a ⊎ IsTrue b
or_parts true b e = inl refl
or_parts false b e = inr e

or_left : (a b : Bool) → IsTrue a → IsTrue (a || b)
or_left true b p = refl
or_left false b p = absurd cc

or_right : (a b : Bool) → IsTrue b → IsTrue (a || b)
or_right true b p = refl
or_right false b p = p

class_found : (rules : MatchRules) (a : Asked) (class : Class) → IsTrue (class_fits rules a class) → SomeFilter rules a
class_found rules a class t = elim (or_parts (plain_fits rules class a) (cxx_fits rules class a) t) [
  | inl p ↦ let f = fit_found rules.general class (name_of a false) (text_of a false) p in (false, f.0, f.2, f.3)
  | inr p ↦ let f = fit_found rules.cxx class (name_of a true) (text_of a true) p in (true, f.0, f.2, f.3)
]

class_is : (rules : MatchRules) (a : Asked) (cxx : Bool) (f : Filter) → HasFilter (of_language rules cxx) f → Fits (name_of a cxx) (text_of a cxx) f → IsTrue (class_fits rules a (class_of f))
class_is rules a false f has fits = or_left (plain_fits rules (class_of f) a) (cxx_fits rules (class_of f) a) (fit_is rules.general f (name_of a false) (text_of a false) has fits)
class_is rules a true f has fits = or_right (plain_fits rules (class_of f) a) (cxx_fits rules (class_of f) a) (fit_is rules.cxx f (name_of a true) (text_of a true) has fits)

pub some_found : (rules : MatchRules) (a : Asked) → IsTrue (some_fits rules a) → SomeFilter rules a
unfolding some_fits
some_found rules a t = elim (or_parts (class_fits rules a Exact) (class_fits rules a Every || (class_fits rules a Nonstar || class_fits rules a Star)) t) [
  | inl p ↦ class_found rules a Exact p
  | inr t ↦ elim (or_parts (class_fits rules a Every) (class_fits rules a Nonstar || class_fits rules a Star) t) [
    | inl p ↦ class_found rules a Every p
    | inr t ↦ elim (or_parts (class_fits rules a Nonstar) (class_fits rules a Star) t) [
      | inl p ↦ class_found rules a Nonstar p
      | inr p ↦ class_found rules a Star p
    ]
  ]
]

of_class : (rules : MatchRules) (a : Asked) (class : Class) → IsTrue (class_fits rules a class) → IsTrue (some_fits rules a)
unfolding some_fits
of_class rules a Exact t = or_left (class_fits rules a Exact) (class_fits rules a Every || (class_fits rules a Nonstar || class_fits rules a Star)) t
of_class rules a Every t = or_right (class_fits rules a Exact) (class_fits rules a Every || (class_fits rules a Nonstar || class_fits rules a Star))
    (or_left (class_fits rules a Every) (class_fits rules a Nonstar || class_fits rules a Star) t)
of_class rules a Nonstar t = or_right (class_fits rules a Exact) (class_fits rules a Every || (class_fits rules a Nonstar || class_fits rules a Star))
    (or_right (class_fits rules a Every) (class_fits rules a Nonstar || class_fits rules a Star)
    (or_left (class_fits rules a Nonstar) (class_fits rules a Star) t))
of_class rules a Star t = or_right (class_fits rules a Exact) (class_fits rules a Every || (class_fits rules a Nonstar || class_fits rules a Star))
    (or_right (class_fits rules a Every) (class_fits rules a Nonstar || class_fits rules a Star)
    (or_right (class_fits rules a Nonstar) (class_fits rules a Star) t))

pub some_is : (rules : MatchRules) (a : Asked) → SomeFilter rules a → IsTrue (some_fits rules a)
some_is rules a s = of_class rules a (class_of s.1) (class_is rules a s.0 s.1 s.2 s.3)
