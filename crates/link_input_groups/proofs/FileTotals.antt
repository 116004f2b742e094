-- What is counted of files, in either way.
use Rattle.std.proofs.Common.{◌≡◌, ℕ, zero, suc, drop, Some, slice_get, ◌+◌, cond, true, false, Bool, List, [], ◌∷◌, ◌++◌, length, map, refl, sym, ap, ◌∙◌, arith, length-append}
use Rattle.std.specs.List.{flat_map}
use Rattle.std.proofs.lemmas.List.{append-nil}
use Rattle.std.proofs.lemmas.Option.{same_Some}
use Rattle.std.proofs.lemmas.List.Concat.{flat_map-append}
use Rattle.link_input.specs.declared.options.Options.{Options}
use Rattle.link_input.specs.ObjectFile.{ObjectFile}
use Rattle.link_input.specs.InputFiles.{InputFile, prelude, object, linker_script, stub_library, synthetic, stub_input, object_count, symbol_count, section_count, sections_of, Batch, batch_files, input_files}
use Rattle.link_input.specs.SequencedFiles.{SequencedFile, file_sections, no_sections, sequenced}
use Rattle.link_input.specs.Limits.{AreWithinLimits, Counts, counts_of, section_total, total, with_boundaries}
use Rattle.link_input_groups.specs.declared.counting.FileCounts.{FileCounts}
use Rattle.link_input_groups.specs.FileCounts.{AreSmall, counts_in, counts_with, file_counts, no_files, plus, script_count, stub_count}
use Rattle.link_input_groups.proofs.Cutting.{total-append}
use Rattle.link_input_groups.proofs.Numbering.{first_of_files}
use Rattle.link_input_groups.proofs.Whole.{in-batch, sections-of-objects}

-- the counts of files, without their ids
abbrev pub file_totals : List InputFile → FileCounts
file_totals fs = record { objects = total object_count fs; scripts = total script_count fs; stubs = total stub_count fs; sections = total section_count fs; symbols = total symbol_count fs }

-- so many sections of a file have ids
pub section-ids : (c : ℕ) (f : InputFile) → (file_sections c f).len ≡ section_count f
section-ids c (prelude symbols) = refl
section-ids c (object o) = of-object o.object.is_dynamic
  where
    of-object : (b : Bool) → (cond b no_sections (record { start = c; len = o.object.sections })).len ≡ cond b 0 o.object.sections
    of-object true = refl
    of-object false = refl
section-ids c (linker_script s) = refl
section-ids c (stub_library input symbols) = refl
section-ids c synthetic = refl

-- ids one after another count all
pub counts-sequenced : (s c : ℕ) (fs : List InputFile) → counts_in (sequenced s c fs) ≡ file_totals fs
counts-sequenced s c [] = refl
counts-sequenced s c (f ∷ fs) = rw (counts-sequenced (s + symbol_count f) (c + section_count f) fs, section-ids c f) refl

-- equal counts
same-files : (o p s t u v n m y z : ℕ) → o ≡ p → s ≡ t → u ≡ v → n ≡ m → y ≡ z → ◌≡◌ {A = FileCounts} (record { objects = o; scripts = s; stubs = u; sections = n; symbols = y }) (record { objects = p; scripts = t; stubs = v; sections = m; symbols = z })
same-files o p s t u v n m y z a b c d e = cc

-- no file, and others
none-plus : (c : FileCounts) → plus no_files c ≡ c
none-plus c = same-files _ _ _ _ _ _ _ _ _ _ (nothing c.objects) (nothing c.scripts) (nothing c.stubs) (nothing c.sections) (nothing c.symbols)
  where
    nothing : (n : ℕ) → 0 + n ≡ n
    nothing n = omega arith

-- three in either order
pub plus-assoc : (a b c : FileCounts) → plus (plus a b) c ≡ plus a (plus b c)
plus-assoc a b c = same-files _ _ _ _ _ _ _ _ _ _ (three a.objects b.objects c.objects) (three a.scripts b.scripts c.scripts) (three a.stubs b.stubs c.stubs) (three a.sections b.sections c.sections) (three a.symbols b.symbols c.symbols)
  where
    three : (n m k : ℕ) → n + m + k ≡ n + (m + k)
    three n m k = omega arith

-- files in two parts
pub counts-append : (xs ys : List SequencedFile) → counts_in (xs ++ ys) ≡ plus (counts_in xs) (counts_in ys)
counts-append [] ys = sym (none-plus (counts_in ys))
counts-append (x ∷ xs) ys = ap (plus (file_counts x)) (counts-append xs ys) ∙ sym (plus-assoc (file_counts x) (counts_in xs) (counts_in ys))

-- files one after another, in two parts: the ids of the second begin where those of the first end
pub sequenced-parts : (s c : ℕ) (xs ys : List SequencedFile) (fs : List InputFile) → xs ++ ys ≡ sequenced s c fs → ((own : List InputFile) × (xs ≡ sequenced s c own)) × ((rest : List InputFile) × (ys ≡ sequenced (s + (counts_in xs).symbols) (c + (counts_in xs).sections) rest))
sequenced-parts s c [] ys fs are =
    let s_is : s + 0 ≡ s = omega arith in
    let c_is : c + 0 ≡ c = omega arith in
    (([], refl), (fs, rw (s_is, c_is) are))
sequenced-parts s c (x ∷ xs) ys [] are = cc
sequenced-parts s c (x ∷ xs) ys (f ∷ fs) are =
    let first : x ≡ first_of_files s c f = cc in
    let parts = sequenced-parts (s + symbol_count f) (c + section_count f) xs ys fs (cc) in
    let symbols : x.symbols.len ≡ symbol_count f = ap (λ (g : SequencedFile). g.symbols.len) first in
    let sections : x.sections.len ≡ section_count f = ap (λ (g : SequencedFile). g.sections.len) first ∙ section-ids c f in
    let s_is : s + (x.symbols.len + (counts_in xs).symbols) ≡ s + symbol_count f + (counts_in xs).symbols = omega arith in
    let c_is : c + (x.sections.len + (counts_in xs).sections) ≡ c + section_count f + (counts_in xs).sections = omega arith in
    ((f ∷ parts.0.0, cc), (parts.1.0, rw (s_is, c_is) parts.1.1))

-- what is left of a list, from an item on
pub drop-at : {A : Type 0} (xs : List A) (k : ℕ) (x : A) → slice_get xs k ≡ Some x → drop k xs ≡ x ∷ drop (k + 1) xs
drop-at [] k x is = cc
drop-at (y ∷ xs) zero x is = ap (λ z. z ∷ xs) (same_Some y x is)
drop-at (y ∷ xs) (suc k) x is =
    let k_is : suc k + 1 ≡ suc (k + 1) = omega arith in rw k_is (drop-at xs k x is)

-- a part of what is small
pub small-part : (a b c : FileCounts) → plus a b ≡ c → AreSmall c → AreSmall a
small-part a b c is small = record {
  objects = omega (arith, ap (λ (n : FileCounts). n.objects) is, small.objects);
  scripts = omega (arith, ap (λ (n : FileCounts). n.scripts) is, small.scripts);
  stubs = omega (arith, ap (λ (n : FileCounts). n.stubs) is, small.stubs);
  sections = omega (arith, ap (λ (n : FileCounts). n.sections) is, small.sections);
  symbols = omega (arith, ap (λ (n : FileCounts). n.symbols) is, small.symbols);
}

-- files of which each is one, and files of which none is
ones : {A : Type 0} (count : InputFile → ℕ) (f : A → InputFile) → ((x : A) → count (f x) ≡ 1) → (xs : List A) → total count (map f xs) ≡ length xs
ones count f one [] = refl
ones count f one (x ∷ xs) = omega (arith, one x, ones count f one xs)

zeros : {A : Type 0} (count : InputFile → ℕ) (f : A → InputFile) → ((x : A) → count (f x) ≡ 0) → (xs : List A) → total count (map f xs) ≡ 0
zeros count f none [] = refl
zeros count f none (x ∷ xs) = omega (arith, none x, zeros count f none xs)

-- one kind of files of batches, by a count and by its size
in-batches : {X : Type 0} (count : InputFile → ℕ) (size : List X → ℕ) (part : Batch → List X) → size [] ≡ 0 → ((xs ys : List X) → size (xs ++ ys) ≡ size xs + size ys) → ((b : Batch) → total count (batch_files b) ≡ size (part b)) → (bs : List Batch) → total count (flat_map batch_files bs) ≡ size (flat_map part bs)
in-batches count size part none append one [] = sym none
in-batches count size part none append one (b ∷ bs) = omega (arith, total-append count (batch_files b) (flat_map batch_files bs), one b, in-batches count size part none append one bs, append (part b) (flat_map part bs))

-- the same, of a batch more
one-more : {X : Type 0} (size : List X → ℕ) (part : Batch → List X) → ((xs ys : List X) → size (xs ++ ys) ≡ size xs + size ys) → (bs : List Batch) (b : Batch) → size (flat_map part (bs ++ b ∷ [])) ≡ size (flat_map part bs) + size (part b)
one-more size part append bs b =
    ap size (flat_map-append part bs (b ∷ [])) ∙ append (flat_map part bs) (part b ++ []) ∙ ap (λ l. size (flat_map part bs) + size l) (append-nil (part b))

section-append : (xs ys : List ObjectFile) → section_total (xs ++ ys) ≡ section_total xs + section_total ys
section-append xs ys = total-append sections_of xs ys

objects-in : (b : Batch) → total object_count (batch_files b) ≡ length b.objects
objects-in b = omega (arith, in-batch object_count b, ones object_count object (λ o. refl) b.objects, zeros object_count linker_script (λ s. refl) b.scripts, zeros object_count stub_input (λ s. refl) b.stubs)

scripts-in : (b : Batch) → total script_count (batch_files b) ≡ length b.scripts
scripts-in b = omega (arith, in-batch script_count b, zeros script_count object (λ o. refl) b.objects, ones script_count linker_script (λ s. refl) b.scripts, zeros script_count stub_input (λ s. refl) b.stubs)

stubs-in : (b : Batch) → total stub_count (batch_files b) ≡ length b.stubs
stubs-in b = omega (arith, in-batch stub_count b, zeros stub_count object (λ o. refl) b.objects, zeros stub_count linker_script (λ s. refl) b.scripts, ones stub_count stub_input (λ s. refl) b.stubs)

sections-in : (b : Batch) → total section_count (batch_files b) ≡ section_total b.objects
sections-in b = omega (arith, in-batch section_count b, sections-of-objects b.objects, zeros section_count linker_script (λ s. refl) b.scripts, zeros section_count stub_input (λ s. refl) b.stubs)

-- the counts of a link, of its files
pub objects-of : (options : Options) (bs : List Batch) → total object_count (input_files options bs) ≡ (counts_of options bs).objects
objects-of options bs = omega (arith, in-batches object_count (λ xs. length xs) (λ b. b.objects) refl length-append objects-in bs)

pub scripts-of : (options : Options) (bs : List Batch) → total script_count (input_files options bs) ≡ (counts_of options bs).scripts
scripts-of options bs = omega (arith, in-batches script_count (λ xs. length xs) (λ b. b.scripts) refl length-append scripts-in bs)

pub stubs-of : (options : Options) (bs : List Batch) → total stub_count (input_files options bs) ≡ (counts_of options bs).stubs
stubs-of options bs = omega (arith, in-batches stub_count (λ xs. length xs) (λ b. b.stubs) refl length-append stubs-in bs)

pub sections-of : (options : Options) (bs : List Batch) → total section_count (input_files options bs) ≡ (counts_of options bs).sections
sections-of options bs = omega (arith, in-batches section_count section_total (λ b. b.objects) refl section-append sections-in bs)

-- the files of a batch more
pub files-more : (options : Options) (bs : List Batch) (b : Batch) → input_files options (bs ++ b ∷ []) ≡ input_files options bs ++ batch_files b
files-more options bs b = rw (flat_map-append batch_files bs (b ∷ []), append-nil (batch_files b)) refl

same-counts : (o p s t u v n m y z : ℕ) → o ≡ p → s ≡ t → u ≡ v → n ≡ m → y ≡ z → ◌≡◌ {A = Counts} (record { objects = o; scripts = s; stubs = u; sections = n; symbols = y }) (record { objects = p; scripts = t; stubs = v; sections = m; symbols = z })
same-counts o p s t u v n m y z a b c d e = cc

-- the counts with a batch more
pub counts-more : (options : Options) (bs : List Batch) (b : Batch) → counts_with options (file_totals (input_files options bs)) b ≡ counts_of options (bs ++ b ∷ [])
counts-more options bs b =
    same-counts _ _ _ _ _ _ _ _ _ _
    (ap (λ n. n + length b.objects) (objects-of options bs) ∙ sym (one-more (λ xs. length xs) (λ b. b.objects) length-append bs b))
    (ap (λ n. n + length b.scripts) (scripts-of options bs) ∙ sym (one-more (λ xs. length xs) (λ b. b.scripts) length-append bs b))
    (ap (λ n. n + length b.stubs) (stubs-of options bs) ∙ sym (one-more (λ xs. length xs) (λ b. b.stubs) length-append bs b))
    (ap (λ n. n + section_total b.objects) (sections-of options bs) ∙ sym (one-more section_total (λ b. b.objects) section-append bs b))
    (ap (with_boundaries options) (sym (ap (total symbol_count) (files-more options bs b) ∙ total-append symbol_count (input_files options bs) (batch_files b))))

-- counts within their limits are small
pub small-within : (options : Options) (bs : List Batch) → AreWithinLimits (counts_of options bs) → AreSmall (file_totals (input_files options bs))
small-within options bs within = record {
  objects = omega (arith, objects-of options bs, within.objects);
  scripts = omega (arith, scripts-of options bs, within.scripts);
  stubs = omega (arith, stubs-of options bs, within.stubs);
  sections = omega (arith, sections-of options bs, within.sections);
  symbols = omega (arith, within.symbols);
}
