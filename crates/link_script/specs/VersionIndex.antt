-- The index over the versions of a script.
use Rattle.std.specs.Prelude.{◌≡◌, ℕ, min, Bool, false, true, ◌||◌, List, length, filter, position, slice_get, Option, Some, None, is_some}
use Rattle.std.specs.List.{range_with_len}
use Rattle.link_script.specs.declared.rules.Version.{Version}
use Rattle.link_script.specs.declared.rules.Class.{Class}
use Rattle.link_script.specs.declared.rules.Class.TheVariants.{Exact, Nonstar, Star, Every}
use Rattle.link_script_syntax.specs.declared.body.Side.TheVariants.{Global, Local}
use Rattle.link_script.specs.declared.version_index.VersionIndex.{VersionIndex}
use Rattle.link_script.specs.Filter.{rules_of}
use Rattle.link_script.specs.Lookup.{Asked}
use Rattle.link_names.specs.Names.{is_member, value_in}
use Rattle.link_script.specs.Rules.{version_has, side_in}
use Rattle.link_script.specs.VersionGlobs.{AreClassOf}
use Rattle.link_script.specs.VersionOf.{last_named}

-- whether the version lists the name exactly, in blocks of C++ (`true`) or outside them
abbrev pub lists : Bool → List ℕ → Version → Bool
lists cxx name v = is_member (rules_of v Global cxx).exact name || is_member (rules_of v Local cxx).exact name

-- the number of the first version that lists it
abbrev pub first_listing : List Version → Bool → List ℕ → Option ℕ
first_listing versions cxx name = position (lists cxx name) versions

-- the number of the first version with an exact match
abbrev pub first_exact : List Version → Asked → Option ℕ
first_exact versions a = position (λ v. is_some (side_in Exact v a)) versions

-- the smaller of two numbers, where there are both
abbrev pub earlier : Option ℕ → Option ℕ → Option ℕ
earlier (Some m) (Some n) = Some (min m n)
earlier (Some m) None = Some m
earlier None n = n

-- whether there is a version, with a pattern of this class
abbrev pub has_at : Class → Option Version → Bool
has_at class None = false
has_at class (Some v) = version_has class v

-- the numbers, in order, of the versions that have a pattern of this class
abbrev pub numbers_with : List Version → Class → List ℕ
numbers_with versions class = filter (λ n. has_at class (slice_get versions n)) (range_with_len 0 (length versions))

-- the index has what a look at each of these versions finds
pub record IsIndexOf (versions : List Version) (index : VersionIndex) : Type 0 where
  pub named : (name : List ℕ) → value_in index.named name ≡ last_named versions name (length versions)
  pub plain : (name : List ℕ) → value_in index.plain name ≡ first_listing versions false name
  pub cxx : (name : List ℕ) → value_in index.cxx name ≡ first_listing versions true name
  pub nonstar : AreClassOf versions Nonstar index.nonstar
  pub star : AreClassOf versions Star index.star
  pub every : index.every ≡ numbers_with versions Every
