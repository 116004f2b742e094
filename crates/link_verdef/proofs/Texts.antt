-- The items of a script that was read from a text.
use Rattle.std.proofs.Common.{◌≡◌, ℕ, suc, ◌+◌, ◌<◌, ◌≤◌, true, cond, eqb, ltb, List, [], ◌∷◌, ◌++◌, length, map, Option, None, arith, refl, ◌∙◌, ap}
use Rattle.std.proofs.lemmas.Bool.{le-leb, le-ltb, lt-ltb, ne_eqb, and_from}
use Rattle.std.proofs.lemmas.List.{length-map, length_push}
use Rattle.std.proofs.lemmas.Option.{slice_get_within}
use Rattle.std.specs.List.{enumerate_from, list_all}
use Rattle.link_script.specs.declared.rules.Version.{Version}
use Rattle.link_script.specs.declared.script.VersionScript.{VersionScript}
use Rattle.link_script.specs.declared.script.VersionScript.TheVariants.{Regular, Rust}
use Rattle.link_script.specs.Filter.{AreVersions}
use Rattle.link_script.specs.Script.{IsScriptOf}
use Rattle.link_script_syntax.specs.declared.named.RawVersion.{RawVersion}
use Rattle.link_script_syntax.specs.declared.profile.ScriptProfile.{ScriptProfile}
use Rattle.link_script_syntax.specs.declared.script.RawScript.{RawScript}
use Rattle.link_script_syntax.specs.declared.script.RawScript.TheVariants.{Anonymous, Named}
use Rattle.link_script_syntax.specs.Grammar.{IsVersionScript, ParentIs, Repeats, VersionTurn}
use Rattle.link_script_syntax.specs.Named.{raw_names}
use Rattle.link_verdef.specs.declared.item.VersionItem.{VersionItem}
use Rattle.link_verdef.specs.Item.{is_lawful, is_lawful_item, is_lawful_parent, is_lawful_count, are_lawful}
use Rattle.link_verdef.specs.ScriptItems.{item_of, item_of_text, items_of, items_of_text}

-- versions that were read give the items of their text
items_same : (raws : List RawVersion) (versions : List Version) → AreVersions raws versions → map item_of versions ≡ map item_of_text raws
items_same [] [] h = refl
items_same [] (v ∷ versions) h = absurd h
items_same (raw ∷ raws) [] h = absurd h
items_same (raw ∷ raws) (v ∷ versions) h =
    ap (λ name. record { name = name; parent = v.parent_index } ∷ map item_of versions) h.0.name
    ∙ ap (λ parent. record { name = raw.name; parent = parent } ∷ map item_of versions) h.0.parent
    ∙ ap (λ items. record { name = raw.name; parent = raw.parent_index } ∷ items) (items_same raws versions h.1)

-- two versions or more are counted
counts : (n : ℕ) (xs ys : List VersionItem) → 2 ≤ n → cond (eqb (cond (ltb n 2) 0 n) 0) xs ys ≡ ys
counts n xs ys h = rw (le-ltb n 2 h, ne_eqb n 0 (λ e. omega arith)) refl

-- the items of a script are those of its text
pub of_text : (raw : RawScript) (script : VersionScript) (soname : List ℕ) → IsScriptOf raw script → items_of script soname ≡ items_of_text raw soname
of_text (Anonymous body) (Rust script) soname h = refl
of_text (Named versions) (Rust script) soname h = absurd h
of_text (Anonymous body) (Regular []) soname h = absurd h.1
of_text (Anonymous body) (Regular (v ∷ [])) soname h = refl
of_text (Anonymous body) (Regular (v ∷ w ∷ versions)) soname h = absurd h.1.1
of_text (Named []) (Regular []) soname h = absurd h.1
of_text (Named []) (Regular (v ∷ [])) soname h = refl
of_text (Named []) (Regular (v ∷ w ∷ versions)) soname h = absurd h.1.1
of_text (Named (raw ∷ raws)) (Regular []) soname h = absurd h.1
of_text (Named (raw ∷ raws)) (Regular (v ∷ [])) soname h = absurd h.1.1
of_text (Named (raw ∷ raws)) (Regular (v ∷ w ∷ versions)) soname h =
    counts (suc (suc (length versions))) [] _ (omega arith)
    ∙ ap (λ parent. record { name = soname; parent = parent } ∷ map item_of (w ∷ versions)) h.1.0.parent
    ∙ ap (λ items. record { name = soname; parent = None } ∷ items) (items_same (raw ∷ raws) (w ∷ versions) h.1.1)

-- a parent that a text names stands in front
parent_in_front : (front : List RawVersion) (name : List ℕ) (parent : Option ℕ) → ParentIs front name parent → is_lawful_parent (length front + 1) parent ≡ true
parent_in_front front [] parent e = rw e refl
parent_in_front front (c ∷ name) parent (n, first, e) =
    let within = slice_get_within (raw_names front) n (c ∷ name) first.0 in
    let below : n < length front = omega (arith, within, length-map front (λ (raw : RawVersion). raw.name)) in
    rw (e, le-leb 1 (suc n) (omega arith), lt-ltb (suc n) (length front + 1) (omega arith)) refl

-- each version of a text has such a parent or none
all_in_front : (profile : ScriptProfile) (front versions : List RawVersion) (text rest : List ℕ) → Repeats (VersionTurn profile) front versions text rest
    → list_all is_lawful_item (enumerate_from (length front + 1) (map item_of_text versions)) ≡ true
all_in_front profile front [] text rest h = refl
all_in_front profile front (v ∷ versions) text rest (after, named, more) =
    and_from _ _ (parent_in_front front named.parent.0 v.parent_index named.parent.3)
    (let e = length_push front v in rw e at (all_in_front profile (front ++ v ∷ []) versions after rest more))

counted_lawful : (n : ℕ) → 2 ≤ n → n ≤ 32767 → is_lawful_count n ≡ true
counted_lawful n two few = rw (ne_eqb n 0 (λ e. omega arith), le-leb 2 n two, le-leb n 32767 few) refl

-- a file can define what a text spells
pub lawful_text : (profile : ScriptProfile) (text : List ℕ) (raw : RawScript) (soname : List ℕ) → IsVersionScript profile text raw → length (items_of_text raw soname) ≤ 32767
    → is_lawful (items_of_text raw soname) ≡ true
lawful_text profile text (Anonymous body) soname h few = refl
lawful_text profile text (Named []) soname h few = refl
lawful_text profile text (Named (v ∷ versions)) soname h few =
    and_from (is_lawful_count (length (items_of_text (Named (v ∷ versions)) soname))) (are_lawful (items_of_text (Named (v ∷ versions)) soname))
    (counted_lawful _ (omega arith) few) (all_in_front profile [] (v ∷ versions) h.0 [] h.3)
