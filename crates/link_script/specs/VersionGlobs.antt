-- The globs of all versions one after the other, each with the place where it stands.
use Rattle.std.specs.Prelude.{◌≡◌, ℕ, zero, suc, Bool, true, false, nat_lt, List, [], ◌∷◌, ◌++◌, length, if◌then◌else◌, slice_get, Option, Some, None}
use Rattle.link_glob.specs.Glob.{GlobToken}
use Rattle.link_glob.specs.GlobKey.{IsWholeIndexOf}
use Rattle.link_script_syntax.specs.declared.body.Side.{Side}
use Rattle.link_script_syntax.specs.declared.body.Side.TheVariants.{Global, Local}
use Rattle.link_script.specs.declared.rules.Version.{Version}
use Rattle.link_script.specs.declared.rules.Class.{Class}
use Rattle.link_script.specs.declared.rules.Class.TheVariants.{Nonstar, Star}
use Rattle.link_script.specs.declared.version_globs.GlobPlace.{GlobPlace}
use Rattle.link_script.specs.declared.version_globs.VersionGlobs.{VersionGlobs}
use Rattle.link_script.specs.declared.version_globs.ClassGlobs.{ClassGlobs}
use Rattle.link_script.specs.Filter.{rules_of}
use Rattle.link_script.specs.Rules.{globs_in, glob_fits, placed}

-- what has a glob: the number of a version, and a section
abbrev pub Owner : Type 0
Owner = ℕ × Side

-- the globs of a version, those of its local section first
abbrev pub globs_at : Class → Bool → Option Version → List (List GlobToken)
globs_at class cxx None = []
globs_at class cxx (Some v) = globs_in class (rules_of v Local cxx) ++ globs_in class (rules_of v Global cxx)

-- the places of the globs of one section, from this number on
abbrev pub places_from : ℕ → Side → ℕ → List (List GlobToken) → List GlobPlace
places_from n side k [] = []
places_from n side k (glob ∷ globs) = record { version = n; side = side; number = k } ∷ places_from n side (suc k) globs

-- where each glob of a version stands
abbrev pub places_at : Class → Bool → ℕ → Option Version → List GlobPlace
places_at class cxx n None = []
places_at class cxx n (Some v) = places_from n Local 0 (globs_in class (rules_of v Local cxx)) ++ places_from n Global 0 (globs_in class (rules_of v Global cxx))

-- the globs of the versions below n
abbrev pub globs_below : List Version → Class → Bool → ℕ → List (List GlobToken)
globs_below versions class cxx zero = []
globs_below versions class cxx (suc n) = globs_below versions class cxx n ++ globs_at class cxx (slice_get versions n)

-- where each of them stands
abbrev pub places_below : List Version → Class → Bool → ℕ → List GlobPlace
places_below versions class cxx zero = []
places_below versions class cxx (suc n) = places_below versions class cxx n ++ places_at class cxx n (slice_get versions n)

-- the index is that of the globs of these versions, and the places are theirs
pub record AreGlobsOf (versions : List Version) (class : Class) (cxx : Bool) (all : VersionGlobs) : Type 0 where
  pub index : IsWholeIndexOf (globs_below versions class cxx (length versions)) all.index
  pub places : all.places ≡ places_below versions class cxx (length versions)

-- the section of a version with a glob that fits the text, the global one first
abbrev pub section_at : Class → Bool → Option (List ℕ) → Option Version → Option Side
section_at class cxx text None = None
section_at class cxx text (Some v) =
    if glob_fits (globs_in class (rules_of v Global cxx)) text then Some Global else
    (if glob_fits (globs_in class (rules_of v Local cxx)) text then Some Local else None)

-- the last version below n with one
abbrev pub found_below : List Version → Class → Bool → Option (List ℕ) → ℕ → Option Owner
found_below versions class cxx text zero = None
found_below versions class cxx text (suc n) = placed n (section_at class cxx text (slice_get versions n)) (found_below versions class cxx text n)

-- the global section where one of both is
abbrev pub global_first : Side → Side → Side
global_first Global t = Global
global_first Local t = t

-- the later of two versions; of one version, the global section before the local one
abbrev pub stronger : Option Owner → Option Owner → Option Owner
stronger None y = y
stronger (Some x) None = Some x
stronger (Some x) (Some y) = if nat_lt x.0 y.0 then Some y else (if nat_lt y.0 x.0 then Some x else Some (x.0, global_first x.1 y.1))

-- the globs of a class in both languages
pub record AreClassOf (versions : List Version) (class : Class) (all : ClassGlobs) : Type 0 where
  pub plain : AreGlobsOf versions class false all.plain
  pub cxx : AreGlobsOf versions class true all.cxx

-- a class of globs
abbrev pub IsGlobClass : Class → Type 0
IsGlobClass Nonstar = Unit {0}
IsGlobClass Star = Unit {0}
IsGlobClass class = ⊥
