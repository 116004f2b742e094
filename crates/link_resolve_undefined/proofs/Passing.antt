-- What undefined references have for themselves and pass to others makes the flags at the end.
use Rattle.std.proofs.Common.{◌≡◌, ◌≢◌, ◌+◌, ◌<◌, ◌≤◌, ◌∙◌, ◌++◌, ℕ, List, [], ◌∷◌, Bool, true, false, Option, Some, None, if◌then◌else◌, eqb, length, map, slice_get, slice_index, slice_set, append_assoc, drop, get_or, refl, sym, ap, subst, arith, suc, bit_or}
use Rattle.std.specs.Prelude.{fold}
use Rattle.std.specs.Int.Bits.{or_zero_l, or_zero_r}
use Rattle.std.specs.Option.{option_map_or}
use Rattle.std.proofs.lemmas.Bool.Decides.{Decides-eqb}
use Rattle.std.proofs.lemmas.List.{get_or-map, get_or-set_other, get_or-set_same, length-set, map-set, set_past}
use Rattle.std.proofs.lemmas.Option.{slice_get_past}
use Rattle.link_closure.proofs.Joins.{or_assoc}
use Rattle.link_flags.specs.FlagBits as flag
use Rattle.link_flags.specs.FlagWords.{bits_at, with_flag}
use Rattle.link_flags.specs.declared.value_flags.RawFlags.{RawFlags}
use Rattle.link_flags.specs.declared.visibility.Visibility.{Visibility}
use Rattle.link_input.specs.declared.options.OutputKind.{OutputKind}
use Rattle.link_input.specs.Symbols.{Symbol, is_shared, visibility_in}
use Rattle.link_rules.specs.FinalFlags.{final_flags, passed_flags, visibility_target}
use Rattle.link_rules.specs.Flags.{flags_if, joined_flags}
use Rattle.link_rules.specs.Marking.{visibility_flags}
use Rattle.link_rules.specs.Names.{Mapping}
use Rattle.link_rules.specs.Places.{each_from, is_number}
use Rattle.link_rules.specs.Selection.{Selection}
use Rattle.link_rules.specs.Undefined.{Numbered, Resolution, left_undefined, resolution_from, stays_undefined}
use Rattle.link_rules.specs.Visibility.{narrowed_flags}
use Rattle.link_rules.specs.World.{Stage, is_shared_at}
use Rattle.link_resolve_undefined.specs.declared.asked_names.AskedNames.{AskedNames}
use Rattle.link_resolve_undefined.specs.Edited.{edited}
use Rattle.link_resolve_undefined.specs.Flagged.{IsEnd, IsEndOf, all_passed, flagged, flagged_new, flagged_symbol, new_words, own_flags, signed, with_own, with_passed, with_signatures}
use Rattle.link_resolve_undefined.specs.Records.{numbered_at}
use Rattle.link_resolve_undefined.proofs.Alike.{drop-next, numbered-first}
use Rattle.link_resolve_undefined.proofs.Editing.{changed, edited-all, length-each}

fold-join : (a : ℕ) (xs : List ℕ) → fold bit_or a xs ≡ bit_or a (joined_flags xs)
fold-join a [] = sym (or_zero_r a)
fold-join a (x ∷ xs) =
    fold-join (bit_or a x) xs
    ∙ (or_assoc a x (joined_flags xs) ∙ ap (bit_or a) (sym (fold-join (bit_or 0 x) xs ∙ (λ i. bit_or (or_zero_l x i) (joined_flags xs)))))

joined-cons : (x : ℕ) (xs : List ℕ) → joined_flags (x ∷ xs) ≡ bit_or x (joined_flags xs)
joined-cons x xs = fold-join (bit_or 0 x) xs ∙ (λ i. bit_or (or_zero_l x i) (joined_flags xs))

written-at : (b : Bool) (flags : List ℕ) (t s : ℕ) (bits : ℕ → ℕ) → eqb t s ≡ b → s < length flags
    → slice_index (slice_set flags t (bit_or (slice_index flags t) (bits t))) s ≡ bit_or (slice_index flags s) (flags_if b (bits s))
written-at true flags t s bits is below =
    let e : t ≡ s = (Decides-eqb t s).0 is in
    let inside : t < length flags = omega (arith, e, below) in
    subst (λ k. slice_index (slice_set flags t (bit_or (slice_index flags t) (bits t))) k ≡ bit_or (slice_index flags k) (bits k)) e
    (get_or-set_same flags t (bit_or (slice_index flags t) (bits t)) 0 inside)
written-at false flags t s bits is below =
    let apart : s ≢ t = (λ e. let told : eqb t s ≡ true = (Decides-eqb t s).1 (sym e) in absurd (cc)) in
    get_or-set_other flags t s (bit_or (slice_index flags t) (bits t)) 0 apart ∙ sym (or_zero_r (slice_index flags s))

passed-at : (w : Stage) (t : Option ℕ) (v : Visibility) (flags : List ℕ) (s : ℕ) → s < length flags
    → slice_index (with_passed w t v flags) s ≡ bit_or (slice_index flags s) (flags_if (is_number t s) (visibility_flags v (is_shared_at w s)))
passed-at w None v flags s below = sym (or_zero_r (slice_index flags s))
passed-at w (Some t) v flags s below = written-at (eqb t s) flags t s (λ k. visibility_flags v (is_shared_at w k)) refl below

length-passed : (w : Stage) (t : Option ℕ) (v : Visibility) (flags : List ℕ) → length (with_passed w t v flags) ≡ length flags
length-passed w None v flags = refl
length-passed w (Some t) v flags = length-set flags t (bit_or (slice_index flags t) (visibility_flags v (is_shared_at w t)))

-- what a function of place and element gives, place by place
by-index : (f : ℕ → ℕ → ℕ) (i : ℕ) (xs ys : List ℕ) → length ys ≡ length xs → ((s : ℕ) → s < length xs → slice_index ys s ≡ f (i + s) (slice_index xs s)) → ys ≡ each_from f i xs
by-index f i [] [] len at = refl
by-index f i [] (y ∷ ys) len at = absurd (omega (arith, len))
by-index f i (x ∷ xs) [] len at = absurd (omega (arith, len))
by-index f i (x ∷ xs) (y ∷ ys) len at =
    let e : i + 0 ≡ i = omega arith in
    let head : y ≡ f i x = subst (λ n. y ≡ f n x) e (at 0 (omega arith)) in
    let next : (s : ℕ) → s < length xs → slice_index ys s ≡ f (i + 1 + s) (slice_index xs s) =
    (λ s below. let m : i + suc s ≡ i + 1 + s = omega arith in subst (λ n. slice_index ys s ≡ f n (slice_index xs s)) m (at (suc s) (omega (arith, below)))) in
    let tail = by-index f (i + 1) xs ys (omega (arith, len)) next in
    (λ j. head j ∷ tail j)

each-append : (f : ℕ → ℕ → ℕ) (i : ℕ) (xs ys : List ℕ) → each_from f i (xs ++ ys) ≡ each_from f i xs ++ each_from f (i + length xs) ys
each-append f i [] ys = let e : i ≡ i + 0 = omega arith in ap (λ n. each_from f n ys) e
each-append f i (x ∷ xs) ys =
    let e : i + 1 + length xs ≡ i + suc (length xs) = omega arith in
    ap (λ (l : List ℕ). f i x ∷ l) (each-append f (i + 1) xs ys) ∙ ap (λ n. f i x ∷ each_from f (i + 1) xs ++ each_from f n ys) e

each-each : {X : Type 0} (f : ℕ → ℕ → ℕ) (g : ℕ → X → ℕ) (i : ℕ) (xs : List X) → each_from f i (each_from g i xs) ≡ each_from (λ s x. f s (g s x)) i xs
each-each f g i [] = refl
each-each f g i (x ∷ xs) = ap (λ (l : List ℕ). f i (g i x) ∷ l) (each-each f g (i + 1) xs)

each-map : (f : ℕ → ℕ → ℕ) (n i : ℕ) (us : List Numbered) → each_from f i (map (λ (u : Numbered). n) us) ≡ each_from (λ s (u : Numbered). f s n) i us
each-map f n i [] = refl
each-map f n i (u ∷ us) = ap (λ (l : List ℕ). f i n ∷ l) (each-map f n (i + 1) us)

each-found : (f g : ℕ → Symbol → ℕ) (i : ℕ) (xs : List Symbol) → ((k : ℕ) (x : Symbol) → slice_get xs k ≡ Some x → f (i + k) x ≡ g (i + k) x) → each_from f i xs ≡ each_from g i xs
each-found f g i [] same = refl
each-found f g i (x ∷ xs) same =
    let e : i + 0 ≡ i = omega arith in
    let head : f i x ≡ g i x = subst (λ n. f n x ≡ g n x) e (same 0 x refl) in
    let next : (k : ℕ) (y : Symbol) → slice_get xs k ≡ Some y → f (i + 1 + k) y ≡ g (i + 1 + k) y =
    (λ k y at. let m : i + suc k ≡ i + 1 + k = omega arith in subst (λ n. f n y ≡ g n y) m (same (suc k) y at)) in
    let tail = each-found f g (i + 1) xs next in
    (λ j. head j ∷ tail j)

each-past : (f g : ℕ → ℕ → ℕ) (low i : ℕ) (xs : List ℕ) → low ≤ i → ((s x : ℕ) → low ≤ s → f s x ≡ g s x) → each_from f i xs ≡ each_from g i xs
each-past f g low i [] le same = refl
each-past f g low i (x ∷ xs) le same =
    let head = same i x le in
    let tail = each-past f g low (i + 1) xs (omega (arith, le)) same in
    (λ j. head j ∷ tail j)

own-or-none : (b : Bool) (old own : ℕ) → (if b then bit_or old own else old) ≡ bit_or old (flags_if b own)
own-or-none true old own = refl
own-or-none false old own = sym (or_zero_r old)

module _ (r : Resolution) where
  -- what these pass to the symbol of this id
  abbrev parts : ℕ → Bool → List Numbered → List ℕ
  parts s is_dynamic us = map (λ (u : Numbered). flags_if (is_number (visibility_target r u) s) (visibility_flags (visibility_in u.1.origin) is_dynamic)) us

  all-passed-at : (us : List Numbered) (flags : List ℕ) (s : ℕ) → s < length flags
      → slice_index (all_passed r us flags) s ≡ bit_or (slice_index flags s) (joined_flags (parts s (is_shared_at r.selection.stage s) us))
  all-passed-at [] flags s below = sym (or_zero_r (slice_index flags s))
  all-passed-at (u ∷ us) flags s below =
      let w = r.selection.stage in
      let t = visibility_target r u in
      let v = visibility_in u.1.origin in
      let own = flags_if (is_number t s) (visibility_flags v (is_shared_at w s)) in
      let rest = parts s (is_shared_at w s) us in
      let grown : s < length (with_passed w t v flags) = omega (arith, below, length-passed w t v flags) in
      all-passed-at us (with_passed w t v flags) s grown
      ∙ ((λ i. bit_or (passed-at w t v flags s below i) (joined_flags rest))
      ∙ (or_assoc (slice_index flags s) own (joined_flags rest) ∙ ap (bit_or (slice_index flags s)) (sym (joined-cons own rest))))

  length-all-passed : (us : List Numbered) (flags : List ℕ) → length (all_passed r us flags) ≡ length flags
  length-all-passed [] flags = refl
  length-all-passed (u ∷ us) flags =
      let w = r.selection.stage in
      let t = visibility_target r u in
      let v = visibility_in u.1.origin in
      length-all-passed us (with_passed w t v flags) ∙ length-passed w t v flags

  all-passed : (us : List Numbered) (flags : List ℕ) → all_passed r us flags ≡ each_from (λ s old. bit_or old (joined_flags (parts s (is_shared_at r.selection.stage s) us))) 0 flags
  all-passed us flags =
      by-index (λ s old. bit_or old (joined_flags (parts s (is_shared_at r.selection.stage s) us))) 0 flags (all_passed r us flags) (length-all-passed us flags)
      (λ s below. let e : s ≡ 0 + s = omega arith in subst (λ n. slice_index (all_passed r us flags) s ≡ bit_or (slice_index flags s) (joined_flags (parts n (is_shared_at r.selection.stage n) us))) e (all-passed-at us flags s below))

module _ (l : Selection) (before : List ℕ) where
  symbol-is : (s : ℕ) (x : Symbol) → slice_get l.stage.symbols s ≡ Some x →
      let r = resolution_from l (left_undefined l) in
      bit_or (changed (with_own l.stage.options.output r.table) (stays_undefined l) before s x) (joined_flags (parts r s (is_shared_at l.stage s) r.left)) ≡ flagged_symbol r before s x
  symbol-is s x at =
      let r = resolution_from l (left_undefined l) in
      let own = own_flags l.stage.options.output x s (slice_index r.table s) in
      (λ i. bit_or (own-or-none (stays_undefined l (s, x)) (slice_index before s) own i) (joined_flags (parts r s (option_map_or (λ (y : Symbol). is_shared y.origin) (at i) false) r.left)))
      ∙ (λ i. bit_or (bit_or (sym (or_zero_l (slice_index before s)) i) (flags_if (stays_undefined l (s, x)) own)) (passed_flags r s (is_shared x.origin)))

  new-is : (s old : ℕ) → length l.stage.symbols ≤ s →
      let r = resolution_from l (left_undefined l) in
      bit_or old (joined_flags (parts r s (is_shared_at l.stage s) r.left)) ≡ flagged_new r s old
  new-is s old past =
      let r = resolution_from l (left_undefined l) in
      let none = slice_get_past l.stage.symbols s past in
      (λ i. bit_or (sym (or_zero_l old) i) (joined_flags (parts r s (option_map_or (λ (y : Symbol). is_shared y.origin) (none i) false) r.left)))

  -- first what they have for themselves, and then what they pass
  pub flagged-all : (more : List ℕ) → length before ≡ length l.stage.symbols →
      let r = resolution_from l (left_undefined l) in
      all_passed r r.left (edited (with_own l.stage.options.output r.table) r.left (before ++ more)) ≡ flagged r before more
  flagged-all more len =
      let r = resolution_from l (left_undefined l) in
      let change = with_own l.stage.options.output r.table in
      let join = λ (s old : ℕ). bit_or old (joined_flags (parts r s (is_shared_at l.stage s) r.left)) in
      let own = each_from (changed change (stays_undefined l) before) 0 l.stage.symbols in
      let count : 0 + length own ≡ length l.stage.symbols = omega (arith, length-each (changed change (stays_undefined l) before) 0 l.stage.symbols) in
      let olds = each-each join (changed change (stays_undefined l) before) 0 l.stage.symbols
      ∙ each-found (λ s x. join s (changed change (stays_undefined l) before s x)) (flagged_symbol r before) 0 l.stage.symbols
      (λ k x at. let e : k ≡ 0 + k = omega arith in symbol-is (0 + k) x (subst (λ n. slice_get l.stage.symbols n ≡ Some x) e at)) in
      let news = ap (λ n. each_from join n more) count ∙ each-past join (flagged_new r) (length l.stage.symbols) (length l.stage.symbols) more (omega arith) new-is in
      ap (all_passed r r.left) (edited-all change (stays_undefined l) before l.stage.symbols more len)
      ∙ (all-passed r r.left (own ++ more)
      ∙ (each-append join 0 own more
      ∙ (λ i. olds i ++ news i)))

-- a word gets more flags
pub joined-word : (words : List RawFlags) (s bits : ℕ) → s < length words
    → map (λ (w : RawFlags). w.0) (with_flag words s bits) ≡ slice_set (map (λ (w : RawFlags). w.0) words) s (bit_or (slice_index (map (λ (w : RawFlags). w.0) words) s) bits)
joined-word words s bits below =
    map-set (λ (w : RawFlags). w.0) words s (record { 0 = bit_or (bits_at words s) bits })
    ∙ (λ i. slice_set (map (λ (w : RawFlags). w.0) words) s (bit_or (sym (get_or-map (λ (w : RawFlags). w.0) words s (record { 0 = 0 }) 0 below) i) bits))

module _ (r : Resolution) (symbols : List Symbol) (id t : ℕ) (x : Symbol) (flags : List ℕ) (at : slice_get symbols id ≡ Some x) (target : visibility_target r (id, x) ≡ Some t) where
  one-passed : all_passed r (numbered_at symbols (id ∷ [])) flags ≡ slice_set flags t (bit_or (slice_index flags t) (visibility_flags (visibility_in x.origin) (is_shared_at r.selection.stage t)))
  one-passed =
      ap (λ (us : List Numbered). all_passed r us flags) (numbered-first symbols id [] x at)
      ∙ (λ i. with_passed r.selection.stage (target i) (visibility_in x.origin) flags)

  -- one reference passes its visibility
  pub passed-one : (bits : ℕ) → r.selection.stage.symbols ≡ symbols → bits ≡ visibility_flags (visibility_in x.origin) (option_map_or (λ (y : Symbol). is_shared y.origin) (slice_get symbols t) false)
      → slice_set flags t (bit_or (slice_index flags t) bits) ≡ all_passed r (numbered_at symbols (id ∷ [])) flags
  passed-one bits are is =
      (λ i. slice_set flags t (bit_or (slice_index flags t) (is i)))
      ∙ ((λ i. slice_set flags t (bit_or (slice_index flags t) (visibility_flags (visibility_in x.origin) (option_map_or (λ (y : Symbol). is_shared y.origin) (slice_get (sym are i) t) false))))
      ∙ sym one-passed)

  -- it passes nothing to what is no symbol
  pub passed-past : length flags ≤ t → flags ≡ all_passed r (numbered_at symbols (id ∷ [])) flags
  passed-past past =
      sym (one-passed ∙ set_past flags t (bit_or (slice_index flags t) (visibility_flags (visibility_in x.origin) (is_shared_at r.selection.stage t))) past)

-- what is known at the end of a selection
pub end-of : (symbols : List Symbol) (left : List ℕ) (asked : AskedNames) (mapping : Mapping) (table : List ℕ) (output : OutputKind) (l : Selection) → IsEndOf symbols left asked mapping table output l
    → IsEnd symbols asked mapping table (resolution_from l (left_undefined l))
end-of symbols left asked mapping table output l end = record {
  symbols_are = end.left_are.symbols_are;
  asked_are = end.left_are.asked_are;
  made_are = refl;
  names_are = end.names_are;
  table_is = sym end.table_is;
}

-- both passes make the flags at the end
pub flagged-end : (symbols : List Symbol) (left : List ℕ) (asked : AskedNames) (mapping : Mapping) (table : List ℕ) (output : OutputKind) (l : Selection) (before more flags : List ℕ)
    → IsEndOf symbols left asked mapping table output l → flags ≡ before ++ more → length before ≡ length symbols
    → all_passed (resolution_from l (left_undefined l)) (numbered_at symbols left) (edited (with_own output table) (numbered_at symbols left) flags) ≡ flagged (resolution_from l (left_undefined l)) before more
flagged-end symbols left asked mapping table output l before more flags end is len =
    let r = resolution_from l (left_undefined l) in
    (λ i. all_passed r (end.left_are.records_are i) (edited (with_own (end.output_is i) (end.table_is i)) (end.left_are.records_are i) (is i)))
    ∙ flagged-all l before more (len ∙ ap length (sym end.left_are.symbols_are))

-- a word is put behind the others
pub word-pushed : (olds news ms : List ℕ) (n i m : ℕ) → i < length ms → m ≡ get_or ms i m → news ≡ olds ++ n ∷ []
    → news ++ map (λ (k : ℕ). n) (drop (i + 1) ms) ≡ olds ++ map (λ (k : ℕ). n) (drop i ms)
word-pushed olds news ms n i m below at is =
    (λ j. is j ++ map (λ (k : ℕ). n) (drop (i + 1) ms))
    ∙ (append_assoc olds (n ∷ []) (map (λ (k : ℕ). n) (drop (i + 1) ms))
    ∙ (λ j. olds ++ map (λ (k : ℕ). n) (sym (drop-next ms i m below at) j)))

-- one word for each maker
pub words-of-makers : (n : ℕ) (us : List Numbered) → map (λ (k : ℕ). n) (map (λ (u : Numbered). u.0) us) ≡ map (λ (u : Numbered). n) us
words-of-makers n [] = refl
words-of-makers n (u ∷ us) = ap (λ (l : List ℕ). n ∷ l) (words-of-makers n us)

-- with the flags of signatures these are the flags at the end
pub signed-all : (r : Resolution) → with_signatures r (flagged r (narrowed_flags r.selection) (new_words r)) ≡ final_flags r
signed-all r =
    let symbols = r.selection.stage.symbols in
    let before = narrowed_flags r.selection in
    let olds = each_from (flagged_symbol r before) 0 symbols in
    let news = each_from (flagged_new r) (length symbols) (new_words r) in
    let count : 0 + length olds ≡ length symbols = omega (arith, length-each (flagged_symbol r before) 0 symbols) in
    let old-signed = each-each (signed r) (flagged_symbol r before) 0 symbols in
    let new-signed = ap (λ n. each_from (signed r) n news) count
    ∙ (each-each (signed r) (flagged_new r) (length symbols) (new_words r)
    ∙ each-map (λ s old. signed r s (flagged_new r s old)) flag.non_interposable (length symbols) r.made) in
    each-append (signed r) 0 olds news ∙ (λ i. old-signed i ++ new-signed i)
