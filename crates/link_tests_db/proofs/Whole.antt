-- Table and flags keep an entry for each symbol.
use Rattle.std.specs.Prelude.{OnOk, OnErr}
use Rattle.std.proofs.Common.{Result, Ok, Err, ◌≡◌, ◌++◌, ◌∙◌, ℕ, List, [], ◌∷◌, length, sym, ap, subst, arith}
use Rattle.std.proofs.lemmas.List.{length-append, length-map}
use Rattle.link_flags.specs.declared.per_symbol_flags.PerSymbolFlags.{PerSymbolFlags}
use Rattle.link_flags.specs.declared.value_flags.RawFlags.{RawFlags}
use Rattle.link_flags.specs.FlagWords.{numbers_of, words_of}
use Rattle.link_input_groups.specs.declared.group.Group.{Group}
use Rattle.link_db_files.specs.Adding.{CanFollow, EndsInSynthetic}
use Rattle.link_db_files.specs.HeldFiles.{HeldFiles, names_in}
use Rattle.link_db_files.proofs.Changing.{names-kept}
use Rattle.link_db_files.proofs.Growing.{names-more}
use Rattle.link_db_mapping.specs.Changes.{with_group}
use Rattle.link_db.specs.Adding.{IsGrown}
use Rattle.link_db.specs.Database.{Database, symbol_names}
use Rattle.link_db.specs.Synthetic.{with_linker_symbol}
use Rattle.link_tests_db.specs.Held.{IsWhole}

-- where the files and the numbers of entries are as before
pub kept : {P : Type 0} (old new : Database P) (before after : List RawFlags) → new.mapping.files ≡ old.mapping.files → length new.table ≡ length old.table → length after ≡ length before → IsWhole old before → IsWhole new after
kept {P} old new before after files table flags held =
    let names : length (symbol_names new) ≡ length (symbol_names old) = ap (λ (h : HeldFiles P). length (names_in h)) files in
    record { table = table ∙ (held.table ∙ sym names); flags = flags ∙ (held.flags ∙ sym names) }

-- with a batch, where it was not refused
pub with_batch : {P A E : Type 0} (old new : Database P) (before after : PerSymbolFlags) (r : Result A E) → OnOk r (IsGrown old new) → OnOk r (length (words_of after) ≡ length (symbol_names new))
    → OnErr r (new ≡ old) → OnErr r (after ≡ before) → IsWhole old (words_of before) → IsWhole new (words_of after)
with_batch old new before after (Ok x) grown whole same same_flags held = record { table = grown.whole; flags = whole }
with_batch {P} old new before after (Err e) grown whole same same_flags held =
    subst (λ (d : Database P). IsWhole d (words_of after)) (sym same) (subst (λ (f : PerSymbolFlags). IsWhole old (words_of f)) (sym same_flags) held)

-- with a group without symbols, where memory lasted
pub with_files : {P A E : Type 0} (old new : Database P) (words : List RawFlags) (g : Group P) (r : Result A E) → CanFollow old.mapping.files g
    → OnOk r (new ≡ record old { mapping = with_group g old.mapping }) → OnErr r (new ≡ old) → IsWhole old words → IsWhole new words
with_files {P} old new words g (Ok x) can came same held =
    let names = ap (λ (l : List (List ℕ)). length l) (names-more old.mapping.files g can) in
    subst (λ (d : Database P). IsWhole d words) (sym came) (record { table = held.table ∙ sym names; flags = held.flags ∙ sym names })
with_files {P} old new words g (Err e) can came same held = subst (λ (d : Database P). IsWhole d words) (sym same) held

-- with a symbol of the linker, where memory lasted
pub with_symbol : {P A E : Type 0} (old new : Database P) (before after : List RawFlags) (name : List ℕ) (bits : ℕ) (r : Result A E) → EndsInSynthetic old.mapping.files.groups
    → OnOk r (new ≡ with_linker_symbol name old) → OnOk r (numbers_of after ≡ numbers_of before ++ bits ∷ []) → OnErr r (new ≡ old) → OnErr r (after ≡ before) → IsWhole old before → IsWhole new after
with_symbol {P} old new before after name bits (Ok x) last came flags same same_flags held =
    let names : length (symbol_names (with_linker_symbol name old)) ≡ length (symbol_names old ++ name ∷ []) = ap (λ (l : List (List ℕ)). length l) (names-kept old.mapping.files name last) in
    let words : length (numbers_of after) ≡ length (numbers_of before ++ bits ∷ []) = ap (λ (ns : List ℕ). length ns) flags in
    let table : length old.table ≡ length (symbol_names old) = held.table in
    subst (λ (d : Database P). IsWhole d after) (sym came) (record {
      table = omega (arith, names, table, length-append old.table (length (symbol_names old) ∷ []), length-append (symbol_names old) (name ∷ []));
      flags = omega (arith, names, words, held.flags, length-map after (λ (w : RawFlags). w.0), length-map before (λ (w : RawFlags). w.0), length-append (numbers_of before) (bits ∷ []), length-append (symbol_names old) (name ∷ []));
    })
with_symbol {P} old new before after name bits (Err e) last came flags same same_flags held =
    subst (λ (d : Database P). IsWhole d after) (sym same) (subst (λ (ws : List RawFlags). IsWhole old ws) (sym same_flags) held)
