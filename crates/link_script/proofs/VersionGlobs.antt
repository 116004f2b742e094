-- The globs of all versions: where one more version is noted, and what is found among them.
use Rattle.std.proofs.Common.{◌≡◌, ℕ, zero, suc, ◌+◌, ◌<◌, ◌≤◌, Bool, true, false, ◌||◌, if◌then◌else◌, List, [], ◌∷◌, ◌++◌, length, map, replicate, slice_get, subst, Option, Some, None, refl, sym, ap, ap₂, ◌∙◌, arith}
use Rattle.std.specs.Option.{option_and_then, option_map, is_some}
use Rattle.std.specs.Str.{chars}
use Rattle.std.proofs.lemmas.List.{length-append, length-replicate, length_push, map-append}
use Rattle.std.proofs.lemmas.Option.{slice_get-map}
use Rattle.std.proofs.lemmas.Bool.{lt-ltb, le-ltb}
use Rattle.link_glob.specs.Glob.{GlobToken}
use Rattle.link_glob.specs.GlobKey.{IsWholeIndexOf, filed}
use Rattle.link_glob.specs.GlobList.{last_of, fits_at, fits_name, last_fit}
use Rattle.link_script_syntax.specs.declared.body.Side.{Side}
use Rattle.link_script_syntax.specs.declared.body.Side.TheVariants.{Global, Local}
use Rattle.link_script.specs.declared.rules.Version.{Version}
use Rattle.link_script.specs.declared.rules.Class.{Class}
use Rattle.link_script.specs.declared.rules.Class.TheVariants.{Exact, Nonstar, Star, Every}
use Rattle.link_script.specs.declared.version_globs.GlobPlace.{GlobPlace}
use Rattle.link_script.specs.declared.version_globs.VersionGlobs.{VersionGlobs}
use Rattle.link_script.specs.Filter.{rules_of}
use Rattle.link_script.specs.Lookup.{Asked, text_of}
use Rattle.link_script.specs.Rules.{globs_in, has_glob, placed, side_at, last_in}
use Rattle.link_script.specs.VersionGlobs.{Owner, globs_at, globs_below, places_from, places_at, places_below, AreGlobsOf, section_at, found_below, global_first, stronger, IsGlobClass}
use Rattle.link_glob.proofs.LastOf.{below, same}
use Rattle.link_glob.proofs.Chains as chains
use Rattle.link_script.proofs.Globs.{some_fits}
use Rattle.link_script.proofs.VersionIndex.{in_front, at_end}

-- ---- the last glob that fits, in two lists

-- what the second list has, and else the first
abbrev first_of : {A : Type 0} → Option A → Option A → Option A
first_of None y = y
first_of (Some x) y = Some x

abbrev moved : ℕ → Option ℕ → Option ℕ
moved k o = option_map (λ n. k + n) o

behind : {A : Type 0} (xs ys : List A) (k : ℕ) → slice_get (xs ++ ys) (length xs + k) ≡ slice_get ys k
behind [] ys k = let e : 0 + k ≡ k = omega arith in ap (slice_get ys) e
behind (x ∷ xs) ys k = let e : suc (length xs) + k ≡ suc (length xs + k) = omega arith in ap (slice_get (x ∷ xs ++ ys)) e ∙ behind xs ys k

moved_on : (b : Bool) (k n m : ℕ) (rest all : Option ℕ) (first : Option ℕ) → m ≡ k + n → all ≡ first_of (moved k rest) first → (if b then Some m else all) ≡ first_of (moved k (if b then Some n else rest)) first
moved_on true k n m rest all first e h = ap (λ (j : ℕ). Some j) e
moved_on false k n m rest all first e h = h

last_joined : (xs ys : List (List GlobToken)) (name : List ℕ) (n : ℕ)
    → last_of (fits_at (xs ++ ys) name) (length xs + n) ≡ first_of (moved (length xs) (last_of (fits_at ys name) n)) (last_of (fits_at xs name) (length xs))
last_joined xs ys name zero =
    let e : length xs + 0 ≡ length xs = omega arith in
    ap (last_of (fits_at (xs ++ ys) name)) e ∙ same (fits_at (xs ++ ys) name) (fits_at xs name) (length xs) (λ k l. ap (fits_name name) (chains.in_front xs ys k l))
last_joined xs ys name (suc n) =
    let e : length xs + suc n ≡ suc (length xs + n) = omega arith in
    ap (last_of (fits_at (xs ++ ys) name)) e
    ∙ ap (λ (b : Bool). if b then Some (length xs + n) else last_of (fits_at (xs ++ ys) name) (length xs + n)) (ap (fits_name name) (behind xs ys n))
    ∙ moved_on (fits_at ys name n) (length xs) n (length xs + n) (last_of (fits_at ys name) n) _ _ refl (last_joined xs ys name n)

fit_joined : (xs ys : List (List GlobToken)) (name : List ℕ) → last_fit (xs ++ ys) name ≡ first_of (moved (length xs) (last_fit ys name)) (last_fit xs name)
unfolding last_fit
fit_joined xs ys name = ap (last_of (fits_at (xs ++ ys) name)) (length-append xs ys) ∙ last_joined xs ys name (length ys)

fit_below : (globs : List (List GlobToken)) (name : List ℕ) (k : ℕ) → last_fit globs name ≡ Some k → k < length globs
unfolding last_fit
fit_below globs name k e = below (fits_at globs name) (length globs) k e

-- ---- where the last one stands

-- the owner of the last glob that fits
abbrev owner_of : List (List GlobToken) → List Owner → List ℕ → Option Owner
owner_of globs owners name = option_and_then (slice_get owners) (last_fit globs name)

owner_on : (os ps : List Owner) (k : ℕ) (second first : Option ℕ) → k ≡ length os → ((n : ℕ) → second ≡ Some n → n < length ps) → ((n : ℕ) → first ≡ Some n → n < k)
    → option_and_then (slice_get (os ++ ps)) (first_of (moved k second) first) ≡ first_of (option_and_then (slice_get ps) second) (option_and_then (slice_get os) first)
owner_on os ps k None None e l m = refl
owner_on os ps k None (Some n) e l m = chains.in_front os ps n (omega (arith, e, m n refl))
owner_on os ps k (Some n) first e l m = ap (λ (j : ℕ). slice_get (os ++ ps) (j + n)) e ∙ behind os ps n ∙ there (slice_get ps n) (slice_some ps n (l n refl))
  where
    slice_some : (xs : List Owner) (n : ℕ) → n < length xs → (x : Owner) × (slice_get xs n ≡ Some x)
    slice_some [] n l = absurd (omega (arith, l))
    slice_some (x ∷ xs) zero l = (x, refl)
    slice_some (x ∷ xs) (suc n) l = slice_some xs n (omega (arith, l))

    there : (o : Option Owner) → (x : Owner) × (o ≡ Some x) → o ≡ first_of o (option_and_then (slice_get os) first)
    there None x = absurd (let e = x.1 in cc)
    there (Some y) x = refl

owner_joined : (xs ys : List (List GlobToken)) (os ps : List Owner) (name : List ℕ) → length xs ≡ length os → length ys ≡ length ps
    → owner_of (xs ++ ys) (os ++ ps) name ≡ first_of (owner_of ys ps name) (owner_of xs os name)
owner_joined xs ys os ps name e f =
    ap (option_and_then (slice_get (os ++ ps))) (fit_joined xs ys name)
    ∙ owner_on os ps (length xs) (last_fit ys name) (last_fit xs name) e (λ n l. omega (arith, f, fit_below ys name n l)) (λ n l. fit_below xs name n l)

one_owner : (o : Owner) (count : ℕ) (found : Option ℕ) → ((n : ℕ) → found ≡ Some n → n < count) → option_and_then (slice_get (replicate count o)) found ≡ (if is_some found then Some o else None)
one_owner o count None l = refl
one_owner o count (Some n) l = copy count n (l n refl)
  where
    copy : (count n : ℕ) → n < count → slice_get (replicate count o) n ≡ Some o
    copy zero n l = absurd (omega (arith, l))
    copy (suc count) zero l = refl
    copy (suc count) (suc n) l = copy count n (omega (arith, l))

owner_alone : (globs : List (List GlobToken)) (o : Owner) (name : List ℕ) → owner_of globs (replicate (length globs) o) name ≡ (if has_glob globs name then Some o else None)
owner_alone globs o name = one_owner o (length globs) (last_fit globs name) (λ n e. fit_below globs name n e) ∙ ap (λ (b : Bool). if b then Some o else None) (some_fits globs name)

-- ---- the globs of the versions below a number

-- what has each of the globs of a version
abbrev owners_at : Class → Bool → ℕ → Option Version → List Owner
owners_at class cxx n None = []
owners_at class cxx n (Some v) = replicate (length (globs_in class (rules_of v Local cxx))) (n, Local) ++ replicate (length (globs_in class (rules_of v Global cxx))) (n, Global)

-- what has each of the globs of the versions below n
abbrev owners_below : List Version → Class → Bool → ℕ → List Owner
owners_below versions class cxx zero = []
owners_below versions class cxx (suc n) = owners_below versions class cxx n ++ owners_at class cxx n (slice_get versions n)

as_long_at : (class : Class) (cxx : Bool) (n : ℕ) (v : Option Version) → length (globs_at class cxx v) ≡ length (owners_at class cxx n v)
as_long_at class cxx n None = refl
as_long_at class cxx n (Some v) =
    let locals = globs_in class (rules_of v Local cxx) in
    let globals = globs_in class (rules_of v Global cxx) in
    let local : Owner = (n, Local) in
    let global : Owner = (n, Global) in
    omega (arith, length-append locals globals, length-append (replicate (length locals) local) (replicate (length globals) global), length-replicate (length locals) local, length-replicate (length globals) global)

as_long : (versions : List Version) (class : Class) (cxx : Bool) (n : ℕ) → length (globs_below versions class cxx n) ≡ length (owners_below versions class cxx n)
as_long versions class cxx zero = refl
as_long versions class cxx (suc n) =
    omega (arith, as_long versions class cxx n, as_long_at class cxx n (slice_get versions n), length-append (globs_below versions class cxx n) (globs_at class cxx (slice_get versions n)), length-append (owners_below versions class cxx n) (owners_at class cxx n (slice_get versions n)))

-- the owner that is found in one version
abbrev owned : ℕ → Option Side → Option Owner
owned n None = None
owned n (Some s) = Some (n, s)

nothing : (name : List ℕ) → owner_of [] [] name ≡ None
unfolding last_fit
nothing name = refl

two_on : (g l : Bool) (n : ℕ) → first_of (if g then Some (n, Global) else None) (if l then Some (n, Local) else None) ≡ owned n (if g then Some Global else (if l then Some Local else None))
two_on true l n = refl
two_on false true n = refl
two_on false false n = refl

owner_at : (class : Class) (cxx : Bool) (n : ℕ) (text : List ℕ) (v : Option Version) → owner_of (globs_at class cxx v) (owners_at class cxx n v) (chars text) ≡ owned n (section_at class cxx (Some text) v)
owner_at class cxx n text None = nothing (chars text)
owner_at class cxx n text (Some v) =
    let locals = globs_in class (rules_of v Local cxx) in
    let globals = globs_in class (rules_of v Global cxx) in
    let local : Owner = (n, Local) in
    let global : Owner = (n, Global) in
    owner_joined locals globals (replicate (length locals) local) (replicate (length globals) global) (chars text) (sym (length-replicate (length locals) local)) (sym (length-replicate (length globals) global))
    ∙ ap₂ first_of (owner_alone globals global (chars text)) (owner_alone locals local (chars text))
    ∙ two_on (has_glob globals (chars text)) (has_glob locals (chars text)) n

placed_on : (n : ℕ) (s : Option Side) (o : Option Owner) → first_of (owned n s) o ≡ placed n s o
placed_on n None o = refl
placed_on n (Some s) o = refl

owner_below : (versions : List Version) (class : Class) (cxx : Bool) (text : List ℕ) (n : ℕ)
    → owner_of (globs_below versions class cxx n) (owners_below versions class cxx n) (chars text) ≡ found_below versions class cxx (Some text) n
owner_below versions class cxx text zero = nothing (chars text)
owner_below versions class cxx text (suc n) =
    owner_joined (globs_below versions class cxx n) (globs_at class cxx (slice_get versions n)) (owners_below versions class cxx n) (owners_at class cxx n (slice_get versions n)) (chars text) (as_long versions class cxx n) (as_long_at class cxx n (slice_get versions n))
    ∙ ap₂ first_of (owner_at class cxx n text (slice_get versions n)) (owner_below versions class cxx text n)
    ∙ placed_on n (section_at class cxx (Some text) (slice_get versions n)) (found_below versions class cxx (Some text) n)

-- ---- the places of globs

-- what has the glob of a place
abbrev pub owner_in : GlobPlace → Owner
owner_in p = (p.version, p.side)

owners_from : (n : ℕ) (side : Side) (k : ℕ) (globs : List (List GlobToken)) → map owner_in (places_from n side k globs) ≡ replicate (length globs) (n, side)
owners_from n side k [] = refl
owners_from n side k (glob ∷ globs) = ap (λ (os : List Owner). (n, side) ∷ os) (owners_from n side (suc k) globs)

owners_of : (class : Class) (cxx : Bool) (n : ℕ) (v : Option Version) → map owner_in (places_at class cxx n v) ≡ owners_at class cxx n v
owners_of class cxx n None = refl
owners_of class cxx n (Some v) =
    let locals = globs_in class (rules_of v Local cxx) in
    let globals = globs_in class (rules_of v Global cxx) in
    map-append owner_in (places_from n Local 0 locals) (places_from n Global 0 globals) ∙ ap₂ (λ xs ys. xs ++ ys) (owners_from n Local 0 locals) (owners_from n Global 0 globals)

owners_are : (versions : List Version) (class : Class) (cxx : Bool) (n : ℕ) → map owner_in (places_below versions class cxx n) ≡ owners_below versions class cxx n
owners_are versions class cxx zero = refl
owners_are versions class cxx (suc n) =
    map-append owner_in (places_below versions class cxx n) (places_at class cxx n (slice_get versions n)) ∙ ap₂ (λ xs ys. xs ++ ys) (owners_are versions class cxx n) (owners_of class cxx n (slice_get versions n))

owner_there : (places : List GlobPlace) (found : Option ℕ) → option_map owner_in (option_and_then (slice_get places) found) ≡ option_and_then (slice_get (map owner_in places)) found
owner_there places None = refl
owner_there places (Some k) = sym (slice_get-map owner_in places k)

last_is : (globs : List (List GlobToken)) (name : List ℕ) (n : ℕ) → n ≡ length globs → last_of (fits_at globs name) n ≡ last_fit globs name
unfolding last_fit
last_is globs name n e = ap (last_of (fits_at globs name)) e

-- what has the last glob that fits is what is found
pub owner_found : (versions : List Version) (class : Class) (cxx : Bool) (all : VersionGlobs) (text : List ℕ) (found : Option ℕ) → AreGlobsOf versions class cxx all
    → found ≡ last_of (fits_at (globs_below versions class cxx (length versions)) (chars text)) (filed all.index)
    → option_map owner_in (option_and_then (slice_get all.places) found) ≡ found_below versions class cxx (Some text) (length versions)
owner_found versions class cxx all text found is last =
    owner_there all.places found
    ∙ ap₂ (λ (os : List Owner) (k : Option ℕ). option_and_then (slice_get os) k) (ap (map owner_in) is.places ∙ owners_are versions class cxx (length versions))
    (last ∙ last_is (globs_below versions class cxx (length versions)) (chars text) (filed all.index) is.index.all)
    ∙ owner_below versions class cxx text (length versions)

-- the glob of a place in a version
abbrev pub glob_in : Class → Bool → GlobPlace → Option Version → Option (List GlobToken)
glob_in class cxx p None = None
glob_in class cxx p (Some v) = slice_get (globs_in class (rules_of v p.side cxx)) p.number

-- the glob of a place, where there is one
abbrev pub glob_there : List Version → Class → Bool → Option GlobPlace → Option (List GlobToken)
glob_there versions class cxx None = None
glob_there versions class cxx (Some p) = glob_in class cxx p (slice_get versions p.version)

-- where the places of two lists lead to two others, those of both lead to both
there_joined : (f : Option GlobPlace → Option (List GlobToken)) (ps qs : List GlobPlace) (xs ys : List (List GlobToken)) → length ps ≡ length xs
    → ((k : ℕ) → f (slice_get ps k) ≡ slice_get xs k) → ((k : ℕ) → f (slice_get qs k) ≡ slice_get ys k) → (k : ℕ) → f (slice_get (ps ++ qs) k) ≡ slice_get (xs ++ ys) k
there_joined f [] qs [] ys e h g k = g k
there_joined f [] qs (x ∷ xs) ys e h g k = absurd (omega (arith, e))
there_joined f (p ∷ ps) qs [] ys e h g k = absurd (omega (arith, e))
there_joined f (p ∷ ps) qs (x ∷ xs) ys e h g zero = h zero
there_joined f (p ∷ ps) qs (x ∷ xs) ys e h g (suc k) = there_joined f ps qs xs ys (omega (arith, e)) (λ j. h (suc j)) g k

there_from : (versions : List Version) (class : Class) (cxx : Bool) (n : ℕ) (v : Version) → slice_get versions n ≡ Some v → (side : Side) (j : ℕ) (globs : List (List GlobToken))
    → ((k : ℕ) → slice_get (globs_in class (rules_of v side cxx)) (j + k) ≡ slice_get globs k) → (k : ℕ) → glob_there versions class cxx (slice_get (places_from n side j globs) k) ≡ slice_get globs k
there_from versions class cxx n v e side j [] h k = refl
there_from versions class cxx n v e side j (glob ∷ globs) h zero =
    let same : j ≡ j + 0 = omega arith in
    ap (glob_in class cxx (record { version = n; side = side; number = j })) e ∙ ap (slice_get (globs_in class (rules_of v side cxx))) same ∙ h zero
there_from versions class cxx n v e side j (glob ∷ globs) h (suc k) =
    there_from versions class cxx n v e side (suc j) globs (λ i. let same : suc j + i ≡ j + suc i = omega arith in ap (slice_get (globs_in class (rules_of v side cxx))) same ∙ h (suc i)) k

places_long : (n : ℕ) (side : Side) (k : ℕ) (globs : List (List GlobToken)) → length (places_from n side k globs) ≡ length globs
places_long n side k [] = refl
places_long n side k (glob ∷ globs) = ap suc (places_long n side (suc k) globs)

there_at : (versions : List Version) (class : Class) (cxx : Bool) (n : ℕ) (v : Option Version) → slice_get versions n ≡ v → (k : ℕ) → glob_there versions class cxx (slice_get (places_at class cxx n v) k) ≡ slice_get (globs_at class cxx v) k
there_at versions class cxx n None e k = refl
there_at versions class cxx n (Some v) e k =
    let locals = globs_in class (rules_of v Local cxx) in
    let globals = globs_in class (rules_of v Global cxx) in
    there_joined (glob_there versions class cxx) (places_from n Local 0 locals) (places_from n Global 0 globals) locals globals (places_long n Local 0 locals)
    (there_from versions class cxx n v e Local 0 locals (λ i. let same : 0 + i ≡ i = omega arith in ap (slice_get locals) same))
    (there_from versions class cxx n v e Global 0 globals (λ i. let same : 0 + i ≡ i = omega arith in ap (slice_get globals) same)) k

places_long_at : (class : Class) (cxx : Bool) (n : ℕ) (v : Option Version) → length (places_at class cxx n v) ≡ length (globs_at class cxx v)
places_long_at class cxx n None = refl
places_long_at class cxx n (Some v) =
    let locals = globs_in class (rules_of v Local cxx) in
    let globals = globs_in class (rules_of v Global cxx) in
    omega (arith, length-append (places_from n Local 0 locals) (places_from n Global 0 globals), length-append locals globals, places_long n Local 0 locals, places_long n Global 0 globals)

places_long_below : (versions : List Version) (class : Class) (cxx : Bool) (n : ℕ) → length (places_below versions class cxx n) ≡ length (globs_below versions class cxx n)
places_long_below versions class cxx zero = refl
places_long_below versions class cxx (suc n) =
    omega (arith, places_long_below versions class cxx n, places_long_at class cxx n (slice_get versions n), length-append (globs_below versions class cxx n) (globs_at class cxx (slice_get versions n)), length-append (places_below versions class cxx n) (places_at class cxx n (slice_get versions n)))

-- the places lead to the globs
there_below : (versions : List Version) (class : Class) (cxx : Bool) (n k : ℕ) → glob_there versions class cxx (slice_get (places_below versions class cxx n) k) ≡ slice_get (globs_below versions class cxx n) k
there_below versions class cxx zero k = refl
there_below versions class cxx (suc n) k =
    there_joined (glob_there versions class cxx) (places_below versions class cxx n) (places_at class cxx n (slice_get versions n)) (globs_below versions class cxx n) (globs_at class cxx (slice_get versions n))
    (places_long_below versions class cxx n) (there_below versions class cxx n) (there_at versions class cxx n (slice_get versions n) refl) k

-- a place of all versions leads to its glob
pub glob_found : (versions : List Version) (class : Class) (cxx : Bool) (places : List GlobPlace) (k : ℕ) → places ≡ places_below versions class cxx (length versions)
    → glob_there versions class cxx (slice_get places k) ≡ slice_get (globs_below versions class cxx (length versions)) k
glob_found versions class cxx places k is = ap (λ (ps : List GlobPlace). glob_there versions class cxx (slice_get ps k)) is ∙ there_below versions class cxx (length versions) k

-- the glob of a place, step by step
pub glob_is : (versions : List Version) (class : Class) (cxx : Bool) (place : Option GlobPlace) (p : GlobPlace) (version : Option Version) → place ≡ Some p → slice_get versions p.version ≡ version
    → glob_there versions class cxx place ≡ glob_in class cxx p version
glob_is versions class cxx place p version there found = ap (glob_there versions class cxx) there ∙ ap (glob_in class cxx p) found

-- one place more
pub place_more : (n : ℕ) (side : Side) (k : ℕ) (globs : List (List GlobToken)) (glob : List GlobToken)
    → places_from n side k (globs ++ glob ∷ []) ≡ places_from n side k globs ++ record { version = n; side = side; number = k + length globs } ∷ []
place_more n side k [] glob = let same : k ≡ k + 0 = omega arith in ap (λ (j : ℕ). record { version = n; side = side; number = j } ∷ []) same
place_more n side k (g ∷ globs) glob =
    let same : suc k + length globs ≡ k + suc (length globs) = omega arith in
    ap (λ (ps : List GlobPlace). record { version = n; side = side; number = k } ∷ ps) (place_more n side (suc k) globs glob ∙ ap (λ (j : ℕ). places_from n side (suc k) globs ++ record { version = n; side = side; number = j } ∷ []) same)

no_section : (class : Class) (cxx : Bool) (v : Option Version) → section_at class cxx None v ≡ None
no_section class cxx None = refl
no_section class cxx (Some v) = refl

-- what is no text is found nowhere
pub none_found : (versions : List Version) (class : Class) (cxx : Bool) (n : ℕ) → None ≡ found_below versions class cxx None n
none_found versions class cxx zero = refl
none_found versions class cxx (suc n) = rw (no_section class cxx (slice_get versions n)) (none_found versions class cxx n)

-- ---- one version more

globs_in_front : (versions : List Version) (v : Version) (class : Class) (cxx : Bool) (n : ℕ) → n ≤ length versions → globs_below (versions ++ v ∷ []) class cxx n ≡ globs_below versions class cxx n
globs_in_front versions v class cxx zero l = refl
globs_in_front versions v class cxx (suc n) l = ap₂ (λ xs ys. xs ++ ys) (globs_in_front versions v class cxx n (omega (arith, l))) (ap (globs_at class cxx) (in_front versions v n (omega (arith, l))))

places_in_front : (versions : List Version) (v : Version) (class : Class) (cxx : Bool) (n : ℕ) → n ≤ length versions → places_below (versions ++ v ∷ []) class cxx n ≡ places_below versions class cxx n
places_in_front versions v class cxx zero l = refl
places_in_front versions v class cxx (suc n) l = ap₂ (λ xs ys. xs ++ ys) (places_in_front versions v class cxx n (omega (arith, l))) (ap (places_at class cxx n) (in_front versions v n (omega (arith, l))))

pub noted_globs : (versions : List Version) (v : Version) (class : Class) (cxx : Bool) (n : ℕ) (old new : VersionGlobs) → length versions ≡ n → AreGlobsOf versions class cxx old
    → ((before : List (List GlobToken)) → IsWholeIndexOf before old.index → IsWholeIndexOf (before ++ globs_at class cxx (Some v)) new.index)
    → new.places ≡ old.places ++ places_at class cxx n (Some v) → AreGlobsOf (versions ++ v ∷ []) class cxx new
noted_globs versions v class cxx n old new e is index places =
    let more : length (versions ++ v ∷ []) ≡ suc (length versions) = omega (arith, length_push versions v) in
    record {
      index = subst (λ (globs : List (List GlobToken)). IsWholeIndexOf globs new.index)
          (ap₂ (λ xs ys. xs ++ ys) (sym (globs_in_front versions v class cxx (length versions) (omega arith))) (ap (globs_at class cxx) (sym (at_end versions v))) ∙ ap (globs_below (versions ++ v ∷ []) class cxx) (sym more))
          (index (globs_below versions class cxx (length versions)) is.index);
      places = places ∙ ap₂ (λ xs ys. xs ++ ys) (is.places ∙ sym (places_in_front versions v class cxx (length versions) (omega arith))) (ap₂ (places_at class cxx) (sym e) (sym (at_end versions v))) ∙ ap (places_below (versions ++ v ∷ []) class cxx) (sym more);
    }

-- ---- both languages

-- the section that is stronger
abbrev side_of : Option Side → Option Side → Option Side
side_of None t = t
side_of (Some s) None = Some s
side_of (Some s) (Some t) = Some (global_first s t)

placed_below : (n m : ℕ) (s : Option Side) (o : Option Owner) (x : Owner) → ((y : Owner) → o ≡ Some y → y.0 < n) → placed n s o ≡ Some x → x.0 < suc n
placed_below n m None o x l e = omega (arith, l x e)
placed_below n m (Some s) o x l e = let k : n ≡ x.0 = ap fst (same_Some e) in omega (arith, k)
  where
    fst : Owner → ℕ
    fst y = y.0

    same_Some : {A : Type 0} {x y : A} → ◌≡◌ {A = Option A} (Some x) (Some y) → x ≡ y
    same_Some e = cc

pub within : (versions : List Version) (class : Class) (cxx : Bool) (text : Option (List ℕ)) (n : ℕ) (x : Owner) → found_below versions class cxx text n ≡ Some x → x.0 < n
within versions class cxx text zero x e = absurd cc
within versions class cxx text (suc n) x e = placed_below n n (section_at class cxx text (slice_get versions n)) (found_below versions class cxx text n) x (λ y f. within versions class cxx text n y f) e

stronger_on : (n : ℕ) (s t : Option Side) (p q : Option Owner) → ((x : Owner) → p ≡ Some x → x.0 < n) → ((x : Owner) → q ≡ Some x → x.0 < n) → stronger (placed n s p) (placed n t q) ≡ placed n (side_of s t) (stronger p q)
stronger_on n None None p q l m = refl
stronger_on n (Some s) None p None l m = refl
stronger_on n (Some s) None p (Some y) l m = let k = m y refl in rw (le-ltb n y.0 (omega (arith, k)), lt-ltb y.0 n k) refl
stronger_on n None (Some t) None q l m = refl
stronger_on n None (Some t) (Some x) q l m = let k = l x refl in rw (lt-ltb x.0 n k) refl
stronger_on n (Some s) (Some t) p q l m = rw (le-ltb n n (omega arith)) refl

sides_on : (g0 l0 g1 l1 : Bool) → side_of (if g0 then Some Global else (if l0 then Some Local else None)) (if g1 then Some Global else (if l1 then Some Local else None))
    ≡ (if g0 || g1 then Some Global else (if l0 || l1 then Some Local else None))
sides_on true l0 true l1 = refl
sides_on true l0 false true = refl
sides_on true l0 false false = refl
sides_on false true true l1 = refl
sides_on false true false true = refl
sides_on false true false false = refl
sides_on false false true l1 = refl
sides_on false false false true = refl
sides_on false false false false = refl

sides_at : (class : Class) (a : Asked) (v : Option Version) → IsGlobClass class → side_of (section_at class false (text_of a false) v) (section_at class true (text_of a true) v) ≡ side_at class a v
sides_at class a None is = refl
sides_at Nonstar a (Some v) is = sides_on _ _ _ _
sides_at Star a (Some v) is = sides_on _ _ _ _
sides_at Exact a (Some v) is = absurd is
sides_at Every a (Some v) is = absurd is

-- the stronger of what is found in both languages is the last version with a match
pub last_found : (versions : List Version) (class : Class) (a : Asked) (n : ℕ) → IsGlobClass class
    → stronger (found_below versions class false (text_of a false) n) (found_below versions class true (text_of a true) n) ≡ last_in class a versions n
last_found versions class a zero is = refl
last_found versions class a (suc n) is =
    stronger_on n (section_at class false (text_of a false) (slice_get versions n)) (section_at class true (text_of a true) (slice_get versions n)) (found_below versions class false (text_of a false) n) (found_below versions class true (text_of a true) n)
    (within versions class false (text_of a false) n) (within versions class true (text_of a true) n)
    ∙ ap₂ (placed n) (sides_at class a (slice_get versions n) is) (last_found versions class a n is)

last_below : (class : Class) (a : Asked) (versions : List Version) (n : ℕ) (x : Owner) → last_in class a versions n ≡ Some x → x.0 < n
last_below class a versions zero x e = absurd cc
last_below class a versions (suc n) x e = placed_below n n (side_at class a (slice_get versions n)) (last_in class a versions n) x (λ y f. last_below class a versions n y f) e

-- it is one of the versions
pub last_within : (class : Class) (a : Asked) (versions : List Version) (x : Owner) → last_in class a versions (length versions) ≡ Some x → x.0 < length versions
last_within class a versions x e = last_below class a versions (length versions) x e
