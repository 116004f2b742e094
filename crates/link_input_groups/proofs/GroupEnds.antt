-- What the ends of a group tell of its files.
use Rattle.std.proofs.Common.{◌≡◌, ℕ, zero, suc, ◌+◌, cond, true, false, Bool, drop, List, [], ◌∷◌, length, map, Some, slice_get, refl, sym, ap, ◌∙◌, arith}
use Rattle.std.proofs.lemmas.Option.{same_Some}
use Rattle.link_ids.specs.Span.{Span}
use Rattle.link_input.specs.InputFiles.{InputFile, prelude, object, linker_script, stub_library, synthetic, section_count, symbol_count}
use Rattle.link_input.specs.SequencedFiles.{SequencedFile, file_sections, no_sections, sequenced}
use Rattle.link_input.specs.Limits.{total}
use Rattle.link_input_groups.specs.declared.sequenced.SequencedInputObject.{SequencedInputObject}
use Rattle.link_input_groups.specs.declared.sequenced.SequencedLinkerScript.{SequencedLinkerScript}
use Rattle.link_input_groups.specs.declared.sequenced.SequencedStubLibrary.{SequencedStubLibrary}
use Rattle.link_input_groups.specs.FileCounts.{counts_in}
use Rattle.link_input_groups.specs.Groups.{length_of_spans, object_file, script_file, stub_file}
use Rattle.link_input_groups.proofs.FileTotals.{section-ids}
use Rattle.link_input_groups.proofs.Numbering.{first_of_files}

-- ids of sections, where a file has any, begin where those before them end
sections-start : (c : ℕ) (f : InputFile) → ((file_sections c f).len ≡ 0 → ⊥) → (file_sections c f).start ≡ c
sections-start c (prelude symbols) some = absurd (some refl)
sections-start c (object o) some = of-object o.object.is_dynamic some
  where
    of-object : (b : Bool) → ((cond b no_sections (record { start = c; len = o.object.sections })).len ≡ 0 → ⊥) → (cond b no_sections (record { start = c; len = o.object.sections })).start ≡ c
    of-object true some = absurd (some refl)
    of-object false some = refl
sections-start c (linker_script s) some = absurd (some refl)
sections-start c (stub_library input symbols) some = absurd (some refl)
sections-start c synthetic some = absurd (some refl)

-- behind the last object that has sections their ids end
pub sections-end : {P : Type 0} (s c : ℕ) (objects : List (SequencedInputObject P)) (fs : List InputFile) → map object_file objects ≡ sequenced s c fs → (k : ℕ) (o : SequencedInputObject P) → slice_get objects k ≡ Some o → (o.section_id_range.len ≡ 0 → ⊥) → total (λ o. o.section_id_range.len) (drop (k + 1) objects) ≡ 0 → o.section_id_range.start + o.section_id_range.len ≡ c + total (λ o. o.section_id_range.len) objects
sections-end s c [] fs are k o at some none = cc
sections-end s c (x ∷ xs) [] are k o at some none = cc
sections-end {P} s c (x ∷ xs) (f ∷ fs) are zero o at some none =
    let first : object_file x ≡ first_of_files s c f = cc in
    let same : x ≡ o = same_Some x o at in
    let own : o.section_id_range ≡ file_sections c f = sym (ap (λ (y : SequencedInputObject P). y.section_id_range) same) ∙ ap (λ (g : SequencedFile). g.sections) first in
    let start : o.section_id_range.start ≡ c = ap (λ (r : Span). r.start) own ∙ sections-start c f (λ e. some (ap (λ (r : Span). r.len) own ∙ e)) in
    let len : x.section_id_range.len ≡ o.section_id_range.len = ap (λ (y : SequencedInputObject P). y.section_id_range.len) same in
    omega (arith, start, len, none)
sections-end s c (x ∷ xs) (f ∷ fs) are (suc k) o at some none =
    let first : object_file x ≡ first_of_files s c f = cc in
    let len : x.section_id_range.len ≡ section_count f = ap (λ (g : SequencedFile). g.sections.len) first ∙ section-ids c f in
    let next : suc k + 1 ≡ suc (k + 1) = omega arith in
    let rest = sections-end (s + symbol_count f) (c + section_count f) xs fs (cc) k o at some (rw next at none) in
    omega (arith, rest, len)

-- what is counted of the objects of a group
pub counts-objects : {P : Type 0} (objects : List (SequencedInputObject P)) → counts_in (map object_file objects) ≡ record { objects = length objects; scripts = 0; stubs = 0; sections = total (λ o. o.section_id_range.len) objects; symbols = length_of_spans (map (λ o. o.symbol_id_range) objects) }
counts-objects [] = refl
counts-objects (o ∷ os) =
    let more : 1 + length os ≡ suc (length os) = omega arith in
    rw (counts-objects os, ← more) refl

-- what is counted of its linker scripts
pub counts-scripts : (scripts : List SequencedLinkerScript) → counts_in (map script_file scripts) ≡ record { objects = 0; scripts = length scripts; stubs = 0; sections = 0; symbols = length_of_spans (map (λ s. s.symbol_id_range) scripts) }
counts-scripts [] = refl
counts-scripts (s ∷ ss) =
    let more : 1 + length ss ≡ suc (length ss) = omega arith in
    rw (counts-scripts ss, ← more) refl

-- what is counted of its stub libraries
pub counts-stubs : (stubs : List SequencedStubLibrary) → counts_in (map stub_file stubs) ≡ record { objects = 0; scripts = 0; stubs = length stubs; sections = 0; symbols = length_of_spans (map (λ s. s.symbol_id_range) stubs) }
counts-stubs [] = refl
counts-stubs (s ∷ ss) =
    let more : 1 + length ss ≡ suc (length ss) = omega arith in
    rw (counts-stubs ss, ← more) refl
