-- What is kept at the end of a link is its answer.
use Rattle.std.proofs.Common.{◌≡◌, ◌∙◌, ◌+◌, ◌<◌, ◌++◌, ℕ, zero, suc, List, [], ◌∷◌, Bool, true, false, Option, None, Some, append_assoc, drop, get_or, length, refl, sym, ap, subst, map, if◌then◌else◌}
use Rattle.std.proofs.lemmas.List.{drop_more}
use Rattle.std.specs.Prelude.{◌&&◌, filter, is_none, is_some, not, option_and_then, slice_get}
use Rattle.std.specs.Option.{option_map_or}
use Rattle.std.specs.List.{enumerate_from, slice_index_or}
use Rattle.link_input.specs.ObjectFile.{ObjectFile}
use Rattle.link_input.specs.Symbols.{Symbol}
use Rattle.link_resolve_discarded.specs.Indexed.{AreGroupsOf}
use Rattle.link_db_files.specs.GroupFiles.{symbols_in}
use Rattle.link_db_files.specs.HeldFiles.{HeldFiles}
use Rattle.link_db_files.specs.Inputs.{objects_in}
use Rattle.link_resolve_comdat.specs.Selected.{SelectedGroups}
use Rattle.link_rules.specs.declared.linked.GivenVersion.{GivenVersion}
use Rattle.link_rules.specs.Linked.{UndefinedName}
use Rattle.link_rules.specs.Answer.{linked_from, missing_exports}
use Rattle.link_rules.specs.Names.{Mapping, first_definition}
use Rattle.link_rules.specs.Places.{Bytes}
use Rattle.link_rules.specs.Rules.{PlatformRules}
use Rattle.link_rules.specs.Selection.{Selection}
use Rattle.link_rules.specs.Undefined.{Numbered, is_boundary_maker, is_last_alike, left_undefined, resolved, stays_undefined}
use Rattle.link_rules.specs.Versions.{versions_given}
use Rattle.link_rules.specs.World.{Stage, World}
use Rattle.link_resolve_undefined.proofs.Numbering.{AreAt, all-at, filter-at}
use Rattle.link_db.specs.Database.{Database}
use Rattle.link_resolve.specs.Resolving.{Resolving}
use Rattle.link_core_answer.specs.Parts.{answer_of, loaded_among, told_object, undefined_name}
use Rattle.link_core.specs.Steps.{IsEndedWith, undefined_ids}

-- the name of a symbol among those of all
name-before : (symbols : List Symbol) (added : List Bytes) (s : ℕ) (x : Symbol) → slice_get symbols s ≡ Some x → slice_index_or (map (λ (y : Symbol). y.name) symbols ++ added) s [] ≡ x.name
name-before [] added s x at = absurd (cc)
name-before (y ∷ ys) added zero x at = ap (λ (o : Option Symbol). option_map_or (λ z. z.name) o []) at
name-before (y ∷ ys) added (suc s) x at = name-before ys added s x at

-- a name as it is told by its reference
abbrev told_name : Numbered → UndefinedName
told_name u = record { symbol = u.0; name = u.1.name; version = u.1.version }

-- what is told of names by the ids of references is what these say
named-each : {P : Type 0} (held : HeldFiles P) (us : List Numbered) → AreAt (symbols_in held.groups) us
    → map (undefined_name held) (map (λ (u : Numbered). u.0) us) ≡ map told_name us
named-each held [] at = refl
named-each {P} held (u ∷ us) at = (λ i. one i ∷ named-each held us at.1 i)
  where
    one : undefined_name held u.0 ≡ told_name u
    one = λ i. record {
      symbol = u.0;
      name = name-before (symbols_in held.groups) held.added u.0 u.1 at.0 i;
      version = ap (λ (o : Option Symbol). option_and_then (λ x. x.version) o) at.0 i;
    }

-- the references of undefined names are found by their ids
undefined-at : (l : Selection) → AreAt l.stage.symbols (filter (λ u. is_last_alike (left_undefined l) u && not (is_boundary_maker l.stage (left_undefined l) u)) (left_undefined l))
undefined-at l =
    let symbols = l.stage.symbols in
    let left = left_undefined l in
    filter-at symbols (λ (u : Numbered). is_last_alike left u && not (is_boundary_maker l.stage left u)) left
    (filter-at symbols (λ (u : Numbered). stays_undefined l u) (enumerate_from 0 symbols) (all-at symbols))

-- the exports that nothing defines, by the mapping that was held
pub missing-are : (w : Stage) (mapping : Mapping) (names : List Bytes) → ((name : Bytes) → mapping name ≡ first_definition w name)
    → names ≡ filter (λ name. is_none (mapping name)) w.rules.required_exports → names ≡ missing_exports w
missing-are w mapping names same are =
    let all : mapping ≡ first_definition w = λ i. λ name. same name i in
    are ∙ ap (λ (m : Mapping). filter (λ name. is_none (m name)) w.rules.required_exports) all

-- all parts make the answer
pub same-answer : {P : Type 0} (platform : PlatformRules) (demangle : Bytes → Bytes) (w : World) (l : Selection) (db : Database P) (flags : List ℕ) (r : Resolving)
    (versions : List GivenVersion) (undefined : List ℕ) (missing : List Bytes) (roots : List ℕ)
    → IsEndedWith platform demangle w l db flags r → versions ≡ versions_given (resolved l) → undefined ≡ undefined_ids l
    → missing ≡ missing_exports l.stage
    → answer_of (record { db = db; known = r.known; groups = r.groups; flags = flags; versions = versions; undefined = undefined; missing = missing; roots = roots })
    ≡ linked_from (resolved l)
same-answer {P} platform demangle w l db flags r versions undefined missing roots is versions_are undefined_are missing_are =
    let us = filter (λ (u : Numbered). is_last_alike (left_undefined l) u && not (is_boundary_maker l.stage (left_undefined l) u)) (left_undefined l) in
    let groups = subst (λ (ms : List Bool). AreGroupsOf ms l.stage.objects r.groups) (sym is.ended.marks) is.groups in
    let kept = ap (λ (s : SelectedGroups). s.kept) groups.groups in
    let loaded : map told_object (loaded_among r.known.marks (objects_in db.mapping.files.groups)) ≡ map told_object (loaded_among l.marks l.stage.objects) =
    ap (λ (os : List ObjectFile). map told_object (loaded_among r.known.marks os)) (sym is.objects) ∙ ap (λ (ms : List Bool). map told_object (loaded_among ms l.stage.objects)) (sym is.ended.marks) in
    let names : map (undefined_name db.mapping.files) undefined ≡ map told_name us =
    ap (λ (ids : List ℕ). map (undefined_name db.mapping.files) ids) undefined_are
    ∙ named-each db.mapping.files us (subst (λ (xs : List Symbol). AreAt xs us) is.ended.symbols (undefined-at l)) in
    λ i. record {
      loaded = loaded i;
      kept = kept i;
      names = map (λ (x : Symbol). x.name) (sym is.ended.symbols i) ++ is.added i;
      table = is.ended.table i;
      flags = map (λ flags. record { 0 = flags }) (is.flags i);
      versions = versions_are i;
      undefined = names i;
      missing = missing_are i;
    }

-- a name is kept, or not, in front of the others
kept-first : (p : Bytes → Bool) (name : Bytes) (rest : List Bytes) → filter p (name ∷ rest) ≡ (if p name then name ∷ [] else []) ++ filter p rest
kept-first p name rest = by (p name) refl
  where
    by : (b : Bool) → p name ≡ b → filter p (name ∷ rest) ≡ (if p name then name ∷ [] else []) ++ filter p rest
    by true is = rw is refl
    by false is = rw is refl

-- one name more
pub kept-more : (p : Bytes → Bool) (names : List Bytes) (i : ℕ) (name : Bytes) (old new all : List Bytes) → i < length names → name ≡ get_or names i name
    → new ≡ old ++ (if p name then name ∷ [] else []) → old ++ filter p (drop i names) ≡ all → new ++ filter p (drop (i + 1) names) ≡ all
kept-more p names i name old new all lt is more before =
    let rest = filter p (drop (i + 1) names) in
    let next : drop i names ≡ name ∷ drop (i + 1) names = drop_more names i name lt ∙ ap (λ (n : Bytes). n ∷ drop (i + 1) names) (sym is) in
    ap (λ (xs : List Bytes). xs ++ rest) more
    ∙ (append_assoc old (if p name then name ∷ [] else []) rest
    ∙ (ap (λ (xs : List Bytes). old ++ xs) (sym (kept-first p name (drop (i + 1) names)) ∙ ap (λ (xs : List Bytes). filter p xs) (sym next)) ∙ before))

-- there is none where there isn't some
pub none-is : (o : Option ℕ) (b : Bool) → is_some o ≡ not b → b ≡ is_none o
none-is None true is = refl
none-is None false is = absurd (cc)
none-is (Some x) true is = absurd (cc)
none-is (Some x) false is = refl
