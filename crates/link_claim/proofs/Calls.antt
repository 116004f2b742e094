-- What a seat's place shows of the words that its calls name, and what the steps of a call come to.
use Rattle.std.proofs.lemmas.Nat.{or_lt, le_or_l}
use Rattle.link_closure.specs.declared.workload.Mark.{Mark}
use Rattle.link_closure.specs.declared.workload.Item.{Item}
use Rattle.link_closure.proofs.Joins.{contains_here, contains_later}
use Rattle.std.proofs.Common.{Bool, true, false, refl, Some, cond, ⊎_elim, ◌≡◌, ℕ, ◌+◌, ◌^◌, ◌<◌, List, [], ◌∷◌, sym, subst, arith, zero, suc, get_or, length, eq-eqb}
use Rattle.std.specs.Prelude.{◌==◌, MatchBool, Contains, IsTrue, slice_get}
use mathlib.Core.Option.{some, some-injective, some-ne-none}
use lib.ListN.{get_elem?}
use Rattle.atomic_table.specs.Seated.{TableId}
use Rattle.atomic_table.specs.Table.{Final, Seen}
use Rattle.link_closure.specs.declared.workload.Workload.{Workload}
use Rattle.link_claim.specs.declared.view.View.{View}
use Rattle.link_closure.specs.Workload.{Requests, bits_for, item_bits, marked}
use Rattle.link_claim.specs.Workload.{FitsU32, flag_base}
use Rattle.link_claim.specs.Rule.{Holds}
use Rattle.link_claim.specs.Views.{MayRequest, MayBegin, Shows}
use Rattle.link_claim.specs.Seats.{IsPlaced, IsEnding}
use Rattle.link_claim.proofs.Kept.{item_index}
use Rattle.link_claim.proofs.Moves.{shown}

module _ (table : TableId) (view : View) (files items : ℕ) (placed : IsPlaced table view files items) where
  -- a file that may be requested is one of the files
  pub file_known : (f : ℕ) → MayRequest view f → f < view.work.files
  file_known f may = ⊎_elim (λ root. placed.sound.roots f root) (λ (t : (i : ℕ) × Contains view.known_items i × Requests view.work i f). placed.sound.requests t.0 f t.2) may

  -- its word is in the table
  pub file_word : (f : ℕ) → MayRequest view f → (1 + f < table.words) × (1 + f < 2 ^ 64)
  file_word f may = let lt = file_known f may in let wide = placed.wide in let small = placed.small in (omega arith, omega arith)

  -- so is the word of any file
  pub claim_word : (f : ℕ) → f < view.work.files → (1 + f < table.words) × (1 + f < 2 ^ 64)
  claim_word f lt = let wide = placed.wide in let small = placed.small in (omega arith, omega arith)

  -- and that of an item that may be begun
  pub item_word : (i : ℕ) → MayBegin view i → (1 + files + i < table.words) × (1 + files + i < 2 ^ 64)
  item_word i may = let lt = item_index view.work.items i may.0 may.1 in let wide = placed.wide in let small = placed.small in let same = placed.files_is in (omega arith, omega arith)

  -- and that of a symbol
  pub flag_word : (x : ℕ) → x < length view.work.opening → (1 + files + items + x < table.words) × (1 + files + items + x < 2 ^ 64)
  flag_word x lt = let wide = placed.wide in let small = placed.small in let same = placed.files_is in let as_many = placed.items_is in (omega arith, omega arith)

  -- there is a word
  pub some_word : 0 < table.words
  some_word = let wide = placed.wide in omega arith

-- ---- flags of 32 bits

-- a mark that counts or not has 32 bits
picked_fits : (b : Bool) (n : ℕ) → n < 2 ^ 32 → cond b n 0 < 2 ^ 32
picked_fits true n h = h
picked_fits false n h = omega arith

-- the bits of marks of 32 bits are 32 bits
bits_fit : (x : ℕ) (ms : List Mark) → ((m : Mark) → Contains ms m → m.bits < 2 ^ 32) → bits_for x ms < 2 ^ 32
bits_fit x [] all = omega arith
bits_fit x (m ∷ ms) all = or_lt 32 _ _ (picked_fits (m.symbol == x) m.bits (all m (contains_here m ms))) (bits_fit x ms (λ k has. all k (contains_later m k ms has)))

-- so are those of items
items_fit : (holds : ℕ → Bool) (x : ℕ) (its : List Item) → ((i : ℕ) (it : Item) → slice_get its i ≡ Some it → bits_for x it.marks < 2 ^ 32) → item_bits holds x its < 2 ^ 32
items_fit holds x [] all = omega arith
items_fit holds x (it ∷ its) all = or_lt 32 _ _ (picked_fits (holds it.file) (bits_for x it.marks) (all 0 it refl)) (items_fit holds x its (λ i j is. all (suc i) j is))

-- all bits that a word may have are 32 bits
pub marked_fits : (w : Workload) (holds : ℕ → Bool) (x : ℕ) → FitsU32 w → x < length w.opening → marked w holds x < 2 ^ 32
marked_fits w holds x fits lt = or_lt 32 _ _ (or_lt 32 _ _ (fits.opening x lt) (bits_fit x w.root_marks fits.root_marks))
    (items_fit holds x w.items (λ i it is. bits_fit x it.marks (λ m has. fits.marks i m (it, is, has))))

-- what a word shows is a set of flags
pub shows_fits : (v : View) (x n : ℕ) → FitsU32 v.work → x < length v.work.opening → Shows v x n → n < 2 ^ 32
shows_fits v x n fits lt shows =
    let most = marked_fits v.work (λ f. true) x fits lt in
    let less = le_or_l n (marked v.work (λ f. true) x) in
    let same = shows.most.joined in omega arith

-- ---- from what the steps tell

-- what a step tells where it found 0
pub when_zero : (n : ℕ) (P Q : Type 0) → n ≡ 0 → MatchBool (n == 0) P Q → P
when_zero n P Q e h = subst (λ b. MatchBool b P Q) (eq-eqb n 0 e) h

-- ---- the end

-- a word by its index
pub value_at : (l : List ℕ) (i n : ℕ) → get_elem? l i ≡ some n → n ≡ get_or l i 0
value_at [] i n e = absurd (some-ne-none n (sym e))
value_at (x ∷ xs) zero n e = sym (some-injective x n e)
value_at (x ∷ xs) (suc i) n e = value_at xs i n e

-- the final words with the view of the seat that was closed with
pub ends : (w : Workload) (id : ℕ) (v : View) (words : List ℕ) (slots : List (Unit {0})) → IsTrue v.live → Final (Seen (Holds w) id v) words slots → IsEnding words v
ends w id v words slots live last = let same = ((last.1.0).views id v last.1.1).same live in
    record { state = last.0; id = id; holds = subst (λ z. Holds z last.0) (sym same) last.1.0; seen = last.1.1; same = last.2 }

-- a final flag word is a set of flags
pub ending_fits : (words : List ℕ) (v : View) (x : ℕ) → IsEnding words v → IsTrue v.live → FitsU32 v.work → x < length v.work.opening → get_or words (flag_base v.work + x) 0 < 2 ^ 32
ending_fits words v x end live fits lt =
    subst (λ ws. get_or ws (flag_base v.work + x) 0 < 2 ^ 32) end.same (shows_fits v x _ fits lt (shown v.work end.state end.holds end.id (v, []) end.seen live refl x lt))
