-- What a plan tells of its items, its flags and its roots.
use Rattle.std.proofs.Common.{◌≡◌, ◌<◌, ◌≤◌, ◌∙◌, ℕ, zero, suc, Bool, List, [], ◌∷◌, Some, Contains, filter, length, map, refl, sym, ap, subst, arith, slice_get, slice_index, Result, Ok, Err, IfOk}
use Rattle.std.specs.Prelude.{◌↔◌, IsTrue}
use Rattle.std.specs.List.{flat_map, range_with_len}
use Rattle.link_closure.specs.Closure.{is_marked}
use Rattle.link_closure.specs.declared.workload.Item.{Item}
use Rattle.link_flags.specs.FlagWords.{bits_at, numbers_of}
use Rattle.link_flags.specs.declared.value_flags.RawFlags.{RawFlags}
use Rattle.link_input.specs.Symbols.{Symbol}
use Rattle.link_rules.proofs.Members.{kept_in, range_in}
use Rattle.link_rules.proofs.Twice.{passes}
use Rattle.link_db_symbols.specs.Walk.{SymbolsLeft}
use Rattle.link_resolve_extraction.specs.declared.found.FoundItem.{FoundItem}
use Rattle.link_resolve_extraction.specs.declared.found.FoundReference.{FoundReference}
use Rattle.link_resolve_extraction.specs.declared.found.ReadItem.{ReadItem}
use Rattle.link_resolve_extraction.specs.declared.items.WorkItem.{WorkItem}
use Rattle.link_resolve_extraction.specs.Asked.{IsFoundIn, IsReadIn, Known, found_mark, found_target, marks_by}
use Rattle.link_resolve_extraction.specs.Items.{symbols_of_item}
use Rattle.link_resolve_extraction.specs.Planned.{item_by}
use Rattle.link_resolve_extraction.proofs.Sound.{made-item}

module _ (known : Known) (objects : List SymbolsLeft) (items : List WorkItem) (i : ℕ) (it : Item) where
  -- what was read requests what the item does
  pub told-requests : (read : ReadItem) → ((z : WorkItem) → slice_get items i ≡ Some z → IsReadIn known (symbols_of_item objects z) read)
      → slice_get (map (item_by known objects) items) i ≡ Some it → read.requests.items ≡ it.requests
  told-requests read is at =
      let z = made-item known objects items i it at in
      (is z.0 z.1).requests ∙ ap (λ (j : Item). j.requests) z.2

  -- and its references mark what the item does, read or found
  pub told-marks : (references : List FoundReference) → ((z : WorkItem) → slice_get items i ≡ Some z → map found_mark references ≡ flat_map (marks_by known) (symbols_of_item objects z))
      → slice_get (map (item_by known objects) items) i ≡ Some it → map found_mark references ≡ it.marks
  told-marks references is at =
      let z = made-item known objects items i it at in
      is z.0 z.1 ∙ ap (λ (j : Item). j.marks) z.2

-- the root of a mark
pub root-is : (marks : List Bool) (roots : List ℕ) (f : ℕ) → roots ≡ filter (is_marked marks) (range_with_len 0 (length marks)) → f < length marks → IsTrue (is_marked marks f) ↔ Contains roots f
root-is marks roots f is below = (
  λ marked. subst (λ (l : List ℕ). Contains l f) (sym is) (kept_in (is_marked marks) (range_with_len 0 (length marks)) f (range_in (length marks) f below) marked),
  λ within. passes (is_marked marks) (range_with_len 0 (length marks)) f (subst (λ (l : List ℕ). Contains l f) is within),
)

-- the number of a word
pub word-number : (words : List RawFlags) (s : ℕ) → slice_index (numbers_of words) s ≡ bits_at words s
word-number [] s = refl
word-number (w ∷ ws) zero = refl
word-number (w ∷ ws) (suc s) = word-number ws s

-- past the end there are none
pub no-flags : (words : List RawFlags) (s : ℕ) → length words ≤ s → bits_at words s ≡ 0
no-flags [] s past = refl
no-flags (w ∷ ws) zero past = absurd (omega arith)
no-flags (w ∷ ws) (suc s) past = no-flags ws s (omega arith)

-- what holds of what is there holds of what follows from it
pub ok-each : {T E : Type 0} (r : Result T E) (P Q : T → Type 0) → IfOk r P → ((x : T) → P x → Q x) → IfOk r Q
ok-each (Ok x) P Q held each = each x held
ok-each (Err e) P Q held each = held

-- nothing is read in no symbols
pub nothing-read : (known : Known) (read : ReadItem) → read.requests.items ≡ [] → read.references.items ≡ [] → IsReadIn known [] read
nothing-read known read requests references = record {
  requests = requests;
  targets = ap (λ (rs : List FoundReference). map found_target rs) references;
  marks = ap (λ (rs : List FoundReference). map found_mark rs) references;
}

-- what is kept of what was read is what is found
pub kept-found : (known : Known) (symbols : List (ℕ × Symbol)) (read : ReadItem) (found : FoundItem) → found.requests ≡ length read.requests.items → found.references ≡ read.references
    → IsReadIn known symbols read → IsFoundIn known symbols found
kept-found known symbols read found count same is = record {
  requests = count ∙ ap (λ (l : List ℕ). length l) is.requests;
  targets = ap (λ r. map found_target r.items) same ∙ is.targets;
  marks = ap (λ r. map found_mark r.items) same ∙ is.marks;
}
