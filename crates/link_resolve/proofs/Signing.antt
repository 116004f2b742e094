-- The marks on the symbols that name groups.
use Rattle.std.proofs.Common.{◌≡◌, ◌∙◌, ◌+◌, ◌<◌, ◌≤◌, ◌==◌, ◌||◌, ℕ, Bool, true, false, List, [], ◌∷◌, drop, refl, sym, ap, length, map, bit_or, get_or, if◌then◌else◌}
use Rattle.std.proofs.lemmas.List.{at_drop_all, at_drop_more}
use Rattle.std.specs.Int.Bits.{or_self, or_zero_l, or_zero_r}
use Rattle.std.proofs.lemmas.List.{length-map}
use Rattle.std.proofs.lemmas.Simd.{map-map}
use Rattle.link_resolve_undefined.proofs.Passing.{signed-all}
use Rattle.link_closure.specs.Workload.{bits_for}
use Rattle.link_closure.specs.declared.workload.Mark.{Mark}
use Rattle.link_flags.specs.FlagWords.{numbers_of}
use Rattle.link_flags.specs.declared.value_flags.RawFlags.{RawFlags}
use Rattle.link_db_symbols.proofs.Listed.{each-length}
use Rattle.link_rules.specs.Flags.{flags_if}
use Rattle.link_flags.specs.FlagBits as flag
use Rattle.link_input.specs.declared.options.OutputKind.{OutputKind}
use Rattle.link_input.specs.declared.options.OutputKind.TheVariants.{Partial}
use Rattle.link_rules.specs.Comdat.{PlacedGroup}
use Rattle.link_rules.specs.FinalFlags.{final_flags, groups_with_header, is_partial, signature_symbols}
use Rattle.link_rules.specs.Places.{contains, each_from}
use Rattle.link_rules.specs.Rivals.{two_steps}
use Rattle.link_rules.specs.Selection.{Selection}
use Rattle.link_rules.specs.Undefined.{final_table, resolved}
use Rattle.link_rules.specs.Visibility.{narrowed_flags}
use Rattle.link_rules.specs.World.{first_symbol_of}
use Rattle.link_resolve_undefined.specs.Flagged.{flagged, new_words, with_signatures}
use Rattle.link_resolve_marks.specs.Marks.{mark_on, with_marks}
use Rattle.link_resolve_marks.proofs.Joined.{marked-both, marked-none}

-- one mark of some bits, or none, and a further one are one
one-or-both : (a b : Bool) (bits : ℕ) → bit_or (if a then bits else 0) (flags_if b bits) ≡ flags_if (a || b) bits
one-or-both true true bits = or_self bits
one-or-both true false bits = or_zero_r bits
one-or-both false b bits = or_zero_l (flags_if b bits)

-- of marks with the same bits a symbol has these bits, if it is one of those that are marked
bits-alike : (bits s : ℕ) (ts : List ℕ) → bits_for s (map (λ t. mark_on t bits) ts) ≡ flags_if (contains s ts) bits
bits-alike bits s [] = refl
bits-alike bits s (t ∷ ts) = ap (bit_or (if t == s then bits else 0)) (bits-alike bits s ts) ∙ one-or-both (t == s) (contains s ts) bits

-- the same of all symbols from some id on
marked-from : (bits : ℕ) (ts : List ℕ) (i : ℕ) (flags : List ℕ)
    → each_from (λ s old. bit_or old (bits_for s (map (λ t. mark_on t bits) ts))) i flags ≡ each_from (λ s old. bit_or old (flags_if (contains s ts) bits)) i flags
marked-from bits ts i [] = refl
marked-from bits ts i (old ∷ flags) =
    ap (λ n. bit_or old n ∷ each_from (λ s x. bit_or x (bits_for s (map (λ t. mark_on t bits) ts))) (i + 1) flags) (bits-alike bits i ts)
    ∙ ap (λ rest. bit_or old (flags_if (contains i ts) bits) ∷ rest) (marked-from bits ts (i + 1) flags)

-- flags with the same marks on some symbols have these bits, if their symbol is one of them
pub marked-alike : (bits : ℕ) (ts flags : List ℕ) → with_marks (map (λ t. mark_on t bits) ts) flags ≡ each_from (λ s old. bit_or old (flags_if (contains s ts) bits)) 0 flags
marked-alike bits ts flags = marked-from bits ts 0 flags

-- marks leave a word for each symbol
pub marked-length : (marks : List Mark) (before after : List RawFlags) → numbers_of after ≡ with_marks marks (numbers_of before) → length after ≡ length before
marked-length marks before after is =
    sym (length-map after (λ (w : RawFlags). w.0)) ∙ (ap (λ (ns : List ℕ). length ns) is
    ∙ (each-length (λ s old. bit_or old (bits_for s marks)) 0 (numbers_of before) ∙ length-map before (λ (w : RawFlags). w.0)))

-- the mark of one symbol more
pub mark-next : (mark : ℕ → Mark) (ids : List ℕ) (d i : ℕ) (old new : List ℕ) → i < length ids → new ≡ with_marks (mark (get_or ids i d) ∷ []) old
    → with_marks (map mark (drop (i + 1) ids)) new ≡ with_marks (map mark (drop i ids)) old
mark-next mark ids d i old new lt is =
    ap (with_marks (map mark (drop (i + 1) ids))) is
    ∙ (marked-both (mark (get_or ids i d) ∷ []) (map mark (drop (i + 1) ids)) old ∙ sym (at_drop_more (λ ys. with_marks (map mark ys) old) ids i d lt))

-- no symbol is left
pub marks-done : (mark : ℕ → Mark) (ids : List ℕ) (i : ℕ) (flags : List ℕ) → length ids ≤ i → flags ≡ with_marks (map mark (drop i ids)) flags
marks-done mark ids i flags le = sym (at_drop_all (λ ys. with_marks (map mark ys) flags) ids i le ∙ marked-none flags)

-- what the symbols mean that name groups are the signatures of an output that is an object again
pub signatures-are : (l : Selection) (table ids : List ℕ) → l.stage.options.output ≡ Partial
    → ids ≡ map (λ g. first_symbol_of l.stage g.place.0 + g.group.signature_symbol) (groups_with_header l.stage l.marks)
    → map (two_steps table) ids ≡ signature_symbols (record (resolved l) { table = table })
signatures-are l table ids output ids_are =
    ap (map (two_steps table)) ids_are
    ∙ (map-map (two_steps table) (λ (g : PlacedGroup). first_symbol_of l.stage g.place.0 + g.group.signature_symbol) (groups_with_header l.stage l.marks)
    ∙ sym (ap (λ (o : OutputKind). if is_partial o then map (λ (g : PlacedGroup). two_steps table (first_symbol_of l.stage g.place.0 + g.group.signature_symbol)) (groups_with_header l.stage l.marks) else []) output))

-- with marks on its signatures flags are those at the end
pub signed-are : (l : Selection) (table ids flags : List ℕ) → table ≡ final_table l → map (two_steps table) ids ≡ signature_symbols (record (resolved l) { table = table })
    → flags ≡ flagged (resolved l) (narrowed_flags l) (new_words (resolved l))
    → with_marks (map (λ id. mark_on (two_steps table id) flag.group_signature) ids) flags ≡ final_flags (resolved l)
signed-are l table ids flags table_is ids_are flags_are =
    let own : map (two_steps table) ids ≡ signature_symbols (resolved l) = ids_are ∙ ap (λ (t : List ℕ). signature_symbols (record (resolved l) { table = t })) table_is in
    ap (λ (ms : List Mark). with_marks ms flags) (sym (map-map (λ t. mark_on t flag.group_signature) (two_steps table) ids))
    ∙ (marked-alike flag.group_signature (map (two_steps table) ids) flags
    ∙ (ap (λ (ts : List ℕ). each_from (λ s old. bit_or old (flags_if (contains s ts) flag.group_signature)) 0 flags) own
    ∙ (ap (λ (fs : List ℕ). with_signatures (resolved l) fs) flags_are ∙ signed-all (resolved l))))
