-- Views that only grow.
use Rattle.std.proofs.lemmas.Nat.{or_comm}
use Rattle.std.proofs.Common.{bit_or, inl, eq-eqb, ne_eqb, ⊎_elim, ◌≡◌, ℕ, Bool, true, false, Contains, sym, refl, ◌∙◌, subst}
use Rattle.std.specs.Prelude.{◌==◌, MatchBool}
use Rattle.std.specs.Bool.{OnTrue}
use Rattle.link_closure.specs.declared.workload.Mark.{Mark}
use Rattle.link_claim.specs.declared.view.View.{View}
use Rattle.link_claim.specs.Views.{with_file, with_claim, with_item, with_begin, with_mark, with_missed, with_write, joined, IsMarked}
use Rattle.link_claim.specs.Later.{IsLater, HasRead}
use Rattle.link_closure.specs.Workload.{Requests, Marks, IsWithin}
use Rattle.link_closure.proofs.Joins.{contains_here, contains_later, contains_left, contains_right}

-- a view is no earlier than itself
pub later_self : (v : View) → IsLater v v
later_self v = record { same = refl; known = λ f h. h; items = λ i h. h; marks = λ m h. h }

-- what is later than a later view is later
pub later_then : {v u x : View} → IsLater v u → IsLater u x → IsLater v x
later_then a b = record { same = b.same ∙ a.same; known = λ f h. b.known f (a.known f h); items = λ i h. b.items i (a.items i h); marks = λ m h. b.marks m (a.marks m h) }

-- each new view of a call is later
file_later : (f : ℕ) (v : View) → IsLater v (with_file f v)
file_later f v = record { same = refl; known = λ g h. contains_later f g v.known h; items = λ i h. h; marks = λ m h. h }

-- with a claim
claim_later : (f : ℕ) (v : View) → IsLater v (with_claim f v)
claim_later f v = record { same = refl; known = λ g h. contains_later f g v.known h; items = λ i h. h; marks = λ m h. h }

-- with a known item
item_later : (i : ℕ) (v : View) → IsLater v (with_item i v)
item_later i v = record { same = refl; known = λ f h. h; items = λ j h. contains_later i j v.known_items h; marks = λ m h. h }

-- with a begin
begin_later : (i : ℕ) (v : View) → IsLater v (with_begin i v)
begin_later i v = record { same = refl; known = λ f h. h; items = λ j h. contains_later i j v.known_items h; marks = λ m h. h }

-- with a mark
mark_later : (m : Mark) (v : View) → IsLater v (with_mark m v)
mark_later m v = record { same = refl; known = λ f h. h; items = λ i h. h; marks = λ k h. contains_later m k v.marks h }

-- with a mark that was missing and is written
write_later : (m : Mark) (n : ℕ) (v : View) → IsLater v (with_write m n (with_missed m v))
write_later m n v = record { same = refl; known = λ f h. h; items = λ i h. h; marks = λ k h. contains_later m k v.marks h }

-- what each call comes to
pub after_request : (b : Bool) (f : ℕ) (v u : View) → MatchBool b (u ≡ with_claim f v) (u ≡ with_file f v) → IsLater v u × Contains u.known f
after_request true f v u e = subst (λ (z : View). IsLater v z × Contains z.known f) (sym e) (claim_later f v, contains_here f v.known)
after_request false f v u e = subst (λ (z : View). IsLater v z × Contains z.known f) (sym e) (file_later f v, contains_here f v.known)

-- after a check
pub after_check : (b : Bool) (f : ℕ) (v u : View) → MatchBool b (u ≡ with_file f v) ((u ≡ v) × ¬ Contains v.known f) → IsLater v u × OnTrue b (Contains u.known f)
after_check true f v u e = subst (λ (z : View). IsLater v z × Contains z.known f) (sym e) (file_later f v, contains_here f v.known)
after_check false f v u e = (subst (IsLater v) (sym e.0) (later_self v), tt)

-- after a begin
pub after_begin : (b : Bool) (i : ℕ) (v u : View) → MatchBool b (u ≡ with_begin i v) (u ≡ with_item i v) → IsLater v u × Contains u.known_items i
after_begin true i v u e = subst (λ (z : View). IsLater v z × Contains z.known_items i) (sym e) (begin_later i v, contains_here i v.known_items)
after_begin false i v u e = subst (λ (z : View). IsLater v z × Contains z.known_items i) (sym e) (item_later i v, contains_here i v.known_items)

-- after a mark
pub after_mark : (m : Mark) (n : ℕ) (v u : View) → IsMarked m n v u → IsLater v u × Contains u.marks m × (u.known ≡ v.known)
after_mark m n v u marked = ⊎_elim
    (λ (t : IsWithin m.bits n × (u ≡ with_mark m v)). subst (λ (z : View). IsLater v z × Contains z.marks m × (z.known ≡ v.known)) (sym t.1) (mark_later m v, contains_here m v.marks, refl))
    (λ (e : u ≡ with_write m n (with_missed m v)). subst (λ (z : View). IsLater v z × Contains z.marks m × (z.known ≡ v.known)) (sym e) (write_later m n v, contains_here m v.marks, refl))
    marked

-- a load that asks for a mark found all its bits
pub asked_all : (m : Mark) (n : ℕ) (v u : View) → MatchBool (bit_or n m.bits == n) (u ≡ with_mark m v) (u ≡ with_missed m v) → bit_or n m.bits ≡ n → IsMarked m n v u
asked_all m n v u told all = inl (record { joined = or_comm m.bits n ∙ all }, subst (λ b. MatchBool b (u ≡ with_mark m v) (u ≡ with_missed m v)) (eq-eqb (bit_or n m.bits) n all) told)

-- or not all
pub asked_missing : (m : Mark) (n : ℕ) (v u : View) → MatchBool (bit_or n m.bits == n) (u ≡ with_mark m v) (u ≡ with_missed m v) → (bit_or n m.bits ≡ n → ⊥) → u ≡ with_missed m v
asked_missing m n v u told some_missing = subst (λ b. MatchBool b (u ≡ with_mark m v) (u ≡ with_missed m v)) (ne_eqb (bit_or n m.bits) n some_missing) told

-- a joined view is later than the one that took the other back
pub joined_left : (v u : View) → IsLater v (joined v u)
joined_left v u = record { same = refl; known = λ f h. contains_left f v.known u.known h; items = λ i h. contains_left i v.known_items u.known_items h; marks = λ m h. contains_left m v.marks u.marks h }

-- and than the other, where both name one work
pub joined_right : (v u : View) → u.work ≡ v.work → IsLater u (joined v u)
joined_right v u same = record { same = sym same; known = λ f h. contains_right f v.known u.known h; items = λ i h. contains_right i v.known_items u.known_items h; marks = λ m h. contains_right m v.marks u.marks h }

-- what has been read stays read
pub read_later : (v u : View) (i : ℕ) → IsLater v u → HasRead v i → HasRead u i
read_later v u i later read = record {
  begun = later.items i read.begun;
  requests = λ f asked. later.known f (read.requests f (subst (λ w. Requests w i f) later.same asked));
  marks = λ m has. later.marks m (read.marks m (subst (λ w. Marks w i m) later.same has));
}
