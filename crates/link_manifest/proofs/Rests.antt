-- A root and the rest of it, which is cut around its objects: what else is read of both is the same.
use Rattle.std.proofs.Common.{◌≡◌, ℕ, List, [], ◌∷◌, Bool, true, false, Option, Some, Result, Ok, Err, true≢false, refl, sym, ap, subst, ◌∙◌, codes, bytes_eq}
use Rattle.std.specs.Result.{IsErr, IsErrAnd}
use Rattle.std.proofs.lemmas.Bool.{false≢true}
use Rattle.std.proofs.lemmas.Slice.Eq.{bytes_eq-Decides}
use Rattle.serde_json.specs.Data.{Data, array, Items, Members, no_members, put}
use Rattle.serde_json.specs.Find.{get, get_member}
use Rattle.serde_json.proofs.Views.{get_member-put, get_member-put_other}
use Rattle.link_manifest_json.specs.Spans.{AreOthers, Entry, IsRootOf, put_entries}
use Rattle.link_manifest_json.specs.Tree.{view}
use Rattle.serde_json.specs.Read.{read}
use Rattle.link_input.specs.ObjectFile.{ObjectFile}
use Rattle.link_input.specs.declared.options.Options.{Options}
use Rattle.link_manifest.specs.declared.fault.ManifestError.{ManifestError}
use Rattle.link_manifest.specs.declared.fault.ManifestFault.{ManifestFault}
use Rattle.link_manifest.specs.declared.fault.Problem.TheVariants.{NotJson}
use Rattle.link_manifest.specs.declared.fault.Step.TheVariants.{Key}
use Rattle.link_manifest.specs.declared.words.PlatformName.{PlatformName}
use Rattle.link_manifest.specs.declared.words.PlatformName.TheVariants as platform
use Rattle.link_manifest.specs.Batches.{batches_read, files_read, objects_read}
use Rattle.link_manifest.specs.LinkOptions.{later_keys_read, options_read, texts_read}
use Rattle.link_manifest.specs.Manifest.{contents_read, has_null_entry, platform_name_read, platform_read, root_keys, root_read, text_manifest}
use Rattle.link_manifest.specs.Objects.{object_read}
use Rattle.link_manifest.specs.Reading.{IsFaultOf, ReadsIfAny, and_read, items_read, list_read, object_of_keys, optional, or_default, read_or, unknown_key, with_key, within}
use Rattle.link_manifest.proofs.Keys.{IsSorted, sorted-put, unknown-put}

same-or_other : (q k : List ℕ) (b : Bool) (d : Data) (ms ns : Members) → bytes_eq q k ≡ b → get_member q ms ≡ get_member q ns → get_member q (put k d ms) ≡ get_member q (put k d ns)
same-or_other q k true d ms ns is e =
    let same : q ≡ k = (bytes_eq-Decides q k).0 is in
    rw same (get_member-put k d ms ∙ sym (get_member-put k d ns))
same-or_other q k false d ms ns is e =
    let other = λ (h : q ≡ k). true≢false (sym ((bytes_eq-Decides q k).1 h) ∙ is) in
    get_member-put_other q k d ms other ∙ e ∙ sym (get_member-put_other q k d ns other)

-- a key that has one value in two objects has one in both with further members
get-put_entries : (q : List ℕ) (es : List Entry) (ms ns : Members) → get_member q ms ≡ get_member q ns → get_member q (put_entries es ms) ≡ get_member q (put_entries es ns)
get-put_entries q [] ms ns e = e
get-put_entries q (m ∷ es) ms ns e =
    get-put_entries q es (put m.0.now (view m.1) ms) (put m.0.now (view m.1) ns) (same-or_other q m.0.now (bytes_eq q m.0.now) (view m.1) ms ns refl e)

-- a key keeps its value where members with other keys are put
get-others : (q : List ℕ) (es : List Entry) (ms : Members) → AreOthers q es → get_member q (put_entries es ms) ≡ get_member q ms
get-others q [] ms others = refl
get-others q (m ∷ es) ms others = get-others q es (put m.0.now (view m.1) ms) others.1 ∙ get_member-put_other q m.0.now (view m.1) ms others.0

-- two objects with one least unknown key have one with further members
unknown-put_entries : (known : List (List ℕ)) (es : List Entry) (ms ns : Members) → IsSorted ms → IsSorted ns → unknown_key known ms ≡ unknown_key known ns
    → unknown_key known (put_entries es ms) ≡ unknown_key known (put_entries es ns)
unknown-put_entries known [] ms ns left right e = e
unknown-put_entries known (m ∷ es) ms ns left right e =
    let k = m.0.now in
    let d = view m.1 in
    unknown-put_entries known es (put k d ms) (put k d ns) (sorted-put k d ms left) (sorted-put k d ns right)
    (unknown-put known k d ms left ∙ ap (with_key known k) e ∙ sym (unknown-put known k d ns right))

-- members that are put leave the keys sorted
sorted-put_entries : (es : List Entry) (ms : Members) → IsSorted ms → IsSorted (put_entries es ms)
sorted-put_entries [] ms sorted = sorted
sorted-put_entries (m ∷ es) ms sorted = sorted-put_entries es (put m.0.now (view m.1) ms) (sorted-put m.0.now (view m.1) ms sorted)

-- a key other than that of the member more has the same value in the whole and in the rest
pub get-rest : (key q : List ℕ) (value rest whole : Data) → bytes_eq q key ≡ false → IsRootOf key value rest whole → get q whole ≡ get q rest
get-rest key q value rest whole other root =
    let before = put_entries root.0 no_members in
    let apart = λ (h : q ≡ key). true≢false (sym ((bytes_eq-Decides q key).1 h) ∙ other) in
    ap (get q) root.4 ∙ get-put_entries q root.1 (put key value before) before (get_member-put_other q key value before apart) ∙ sym (ap (get q) root.3)

-- in the whole, the key of the member more has its value
pub get-more : (key : List ℕ) (value rest whole : Data) → IsRootOf key value rest whole → get key whole ≡ Some value
get-more key value rest whole root =
    let before = put_entries root.0 no_members in
    ap (get key) root.4 ∙ get-others key root.1 (put key value before) root.2 ∙ get_member-put key value before

-- the whole and the rest have the same least unknown key
pub keys-rest : (value rest whole : Data) → IsRootOf (codes "objects") value rest whole → object_of_keys root_keys whole ≡ object_of_keys root_keys rest
keys-rest value rest whole root =
    let before = put_entries root.0 no_members in
    let sorted = sorted-put_entries root.0 no_members tt in
    let known : unknown_key root_keys (put (codes "objects") value before) ≡ unknown_key root_keys before = unknown-put root_keys (codes "objects") value before sorted in
    let same = unknown-put_entries root_keys root.1 (put (codes "objects") value before) before (sorted-put (codes "objects") value before sorted) sorted known in
    rw (root.3, root.4, same)

-- every other key has one value in both
abbrev pub Same : Data → Data → Type 0
Same whole rest = (q : List ℕ) → bytes_eq q (codes "objects") ≡ false → get q whole ≡ get q rest

-- first the same, and then the same
and-same : {A B : Type 0} {a b : Result A ManifestFault} {f g : A → Result B ManifestFault} → a ≡ b → ((x : A) → f x ≡ g x) → and_read a f ≡ and_read b g
and-same {A} {B} {a} {b} {f} {g} is then = and-same-of a b f g is then
  where
    and-same-of : (a b : Result A ManifestFault) (f g : A → Result B ManifestFault) → a ≡ b → ((x : A) → f x ≡ g x) → and_read a f ≡ and_read b g
    and-same-of (Ok x) b f g is then = then x ∙ ap (λ r. and_read r g) is
    and-same-of (Err e) b f g is then = ap (λ r. and_read r g) is

module _ (whole rest : Data) (same : Same whole rest) where
  -- the value of another key that may be left out
  other : {A : Type 0} (key : List ℕ) (read : Data → Result A ManifestFault) (default : A) → bytes_eq key (codes "objects") ≡ false
      → optional key read default whole ≡ optional key read default rest
  other key read default apart = ap (λ found. within (Key key) (or_default default read found)) (same key apart)

  options-same : options_read whole ≡ options_read rest
  options-same =
      and-same (other (codes "output") _ _ refl) (λ output.
      and-same (other (codes "entry") _ _ refl) (λ entry.
      and-same (other (codes "default_entry") _ _ refl) (λ default_entry.
      and-same (other (codes "allow_multiple") _ _ refl) (λ allow_multiple.
      and-same (other (codes "files_per_group") _ _ refl) (λ files_per_group.
      and-same (other (codes "wrap") _ _ refl) (λ wrap.
      and-same (other (codes "force_undefined") _ _ refl) (λ force_undefined.
      and-same (other (codes "force_export") _ _ refl) (λ force_export.
      and-same (other (codes "defsym") _ _ refl) (λ defsym.
      and-same (other (codes "linker_symbols") _ _ refl) (λ linker_symbols.
      and-same (other (codes "custom_sections") _ _ refl) (λ custom_sections. refl)))))))))))

  texts-same : texts_read whole ≡ texts_read rest
  texts-same = and-same (other (codes "version_script") _ _ refl) (λ version_script. and-same (other (codes "export_list") _ _ refl) (λ export_list. refl))

  later-same : (options : Options) → later_keys_read options whole ≡ later_keys_read options rest
  later-same options =
      and-same (other (codes "script_profile") _ _ refl) (λ profile. and-same (other (codes "claim") _ _ refl) (λ claim. and-same (other (codes "soname") _ _ refl) (λ soname. refl)))

  files-same : (objects : Result (List ObjectFile) ManifestFault) → files_read objects whole ≡ files_read objects rest
  files-same objects =
      and-same {a = objects} refl (λ found. and-same (other (codes "scripts") _ _ refl) (λ scripts. and-same (other (codes "stubs") _ _ refl) (λ stubs. refl)))

  batches-same : (has_null : Bool) (objects : Result (List ObjectFile) ManifestFault) → batches_read has_null objects whole ≡ batches_read has_null objects rest
  batches-same has_null objects = and-same (files-same objects) (λ first. and-same (other (codes "batches") _ _ refl) (λ later. refl))

  contents-same : (has_null : Bool) (objects : Result (List ObjectFile) ManifestFault) → contents_read has_null objects whole ≡ contents_read has_null objects rest
  contents-same has_null objects =
      and-same options-same (λ options. and-same texts-same (λ texts. and-same (batches-same has_null objects) (λ batches. and-same (later-same options) (λ keys. refl))))

  platform-same : (name : PlatformName) (objects : Result (List ObjectFile) ManifestFault) → platform_read name objects whole ≡ platform_read name objects rest
  platform-same platform.Elf objects = and-same (and-same (contents-same true objects) (λ contents. refl)) (λ read. refl)
  platform-same platform.Mach objects = and-same (and-same (contents-same false objects) (λ contents. refl)) (λ read. refl)

-- a text that is cut around its objects is the manifest of the rest, beside what was read of the objects
pub beside : (name : PlatformName) (text : List ℕ) (rest whole : Data) (values : Items) → IsRootOf (codes "objects") (array values) rest whole → read text ≡ Some whole → platform_name_read rest ≡ Ok name
    → text_manifest text ≡ platform_read name (within (Key (codes "objects")) (items_read (object_read (has_null_entry name)) 0 values)) rest
beside name text rest whole values root is named =
    let same : Same whole rest = λ q apart. get-rest (codes "objects") q (array values) rest whole apart root in
    let keys : platform_name_read whole ≡ platform_name_read rest = and-same (keys-rest (array values) rest whole root) (λ x. other whole rest same (codes "platform") _ _ refl) in
    let objects : objects_read (has_null_entry name) whole ≡ within (Key (codes "objects")) (items_read (object_read (has_null_entry name)) 0 values) =
    ap (λ found. within (Key (codes "objects")) (or_default [] (list_read (object_read (has_null_entry name))) found)) (get-more (codes "objects") (array values) rest whole root) in
    ap (λ o. and_read (read_or NotJson o) root_read) is
    ∙ ap (λ r. and_read r (λ n. platform_read n (objects_read (has_null_entry n) whole) whole)) (keys ∙ named)
    ∙ ap (λ o. platform_read name o whole) objects
    ∙ platform-same whole rest same name (within (Key (codes "objects")) (items_read (object_read (has_null_entry name)) 0 values))

-- an error that is passed on is told as it was
pub told-error : {A : Type 0} (r : Result (Option A) ManifestError) (error : ManifestError) (due : Result A ManifestFault) → IsErr r × IsErrAnd r (λ e. e ≡ error) → IsFaultOf error due → ReadsIfAny r due
told-error (Ok x) error due is fault = absurd (false≢true is.0)
told-error (Err e) error due is fault = subst (λ e. IsFaultOf e due) (sym is.1) fault
