-- Marks of the first of several definitions.
use Rattle.std.proofs.Common.{◌≡◌, ◌∙◌, ◌+◌, ◌<◌, ℕ, zero, suc, Bool, true, List, [], ◌∷◌, length, take, get_or, Option, Some, None, refl, sym, subst, arith}
use Rattle.std.specs.Prelude.{All, IfSome, slice_get}
use Rattle.std.specs.Option.{option_map_or}
use Rattle.std.proofs.lemmas.List.{take_more}
use Rattle.std.proofs.lemmas.List.Elements.{All-append}
use Rattle.link_db_buckets.specs.declared.bucket.Bucket.{Bucket}
use Rattle.link_db_buckets.specs.declared.head.Head.{Head}
use Rattle.link_db_buckets.specs.declared.label.Label.{Label}
use Rattle.link_db_buckets.specs.Bucket.{definitions_in, heads_in}
use Rattle.link_db_buckets.specs.Heads.{HaveGrown, IsMarked, first_of_several, head_of, ids_of, is_head}
use Rattle.link_db_buckets.specs.Keys.{Key}
use Rattle.link_db_buckets.proofs.Scanning.{found_somewhere}

-- some marks came, and then some
pub grown-both : (a b c : List Bool) → HaveGrown a b → HaveGrown b c → HaveGrown a c
grown-both a b c first second = record { len = second.len ∙ first.len; kept = λ id is. second.kept id (first.kept id is) }

-- what is marked stays so
pub stays : (a b : List Bool) (ids : List ℕ) → HaveGrown a b → IsMarked a ids → IsMarked b ids
stays a b ids grown is = by (first_of_several ids) is
  where
    by : (o : Option ℕ) → IfSome o (λ id. id < length a → slice_get a id ≡ Some true) → IfSome o (λ id. id < length b → slice_get b id ≡ Some true)
    by None is = tt
    by (Some id) is = λ l. grown.kept id (is (omega (arith, l, grown.len)))

-- of each head of a list
pub all-stay : (a b : List Bool) (heads : List Head) → HaveGrown a b → All (λ h. IsMarked a (ids_of h)) heads → All (λ h. IsMarked b (ids_of h)) heads
all-stay a b heads grown all = λ k d l. stays a b (ids_of (get_or heads k d)) grown (all k d l)

-- and of each bucket
pub buckets-stay : (a b : List Bool) (buckets : List Bucket) → HaveGrown a b → All (λ c. All (λ h. IsMarked a (ids_of h)) (heads_in c)) buckets → All (λ c. All (λ h. IsMarked b (ids_of h)) (heads_in c)) buckets
buckets-stay a b buckets grown all = λ k d l. all-stay a b (heads_in (get_or buckets k d)) grown (all k d l)

-- what holds of the first of a list, and of the next, holds of one more of them
pub all-next : {X : Type 0} (P : X → Type 0) (xs : List X) (i : ℕ) (d : X) → i < length xs → All P (take i xs) → P (get_or xs i d) → All P (take (i + 1) xs)
all-next P xs i d l all next = subst (All P) (sym (take_more xs i d l)) (All-append P (take i xs) (get_or xs i d ∷ []) all (λ k e m. only k e m))
  where
    only : (k : ℕ) (e : _) → k < length (get_or xs i d ∷ []) → P (get_or (get_or xs i d ∷ []) k e)
    only zero e m = next
    only (suc k) e m = absurd (omega (arith, m))

-- what holds of all of a list holds of each
at-place : {X : Type 0} (P : X → Type 0) (xs : List X) (k : ℕ) (x : X) → All P xs → slice_get xs k ≡ Some x → P x
at-place P [] k x all is = absurd cc
at-place P (y ∷ xs) zero x all is = let same : y ≡ x = cc in subst P same (all 0 x (omega arith))
at-place P (y ∷ xs) (suc k) x all is = at-place P xs k x (λ i d l. all (suc i) d (omega (arith, l))) is

-- the definitions of a key in a bucket whose heads are marked
in-bucket : (marks : List Bool) (names : Label → Option Key) (b : Bucket) (key : Key) → All (λ h. IsMarked marks (ids_of h)) (heads_in b) → IsMarked marks (definitions_in names b key)
in-bucket marks names b key all = by (head_of names (heads_in b) key) refl
  where
    by : (o : Option Head) → head_of names (heads_in b) key ≡ o → IsMarked marks (option_map_or ids_of o [])
    by None e = tt
    by (Some h) e =
        let at = found_somewhere (is_head names key) (heads_in b) h e in
        at-place (λ (x : Head). IsMarked marks (ids_of x)) (heads_in b) at.0 h all at.1

-- those in all buckets
pub in-buckets : (marks : List Bool) (names : Label → Option Key) (buckets : List Bucket) (place : ℕ) (key : Key) → All (λ b. All (λ h. IsMarked marks (ids_of h)) (heads_in b)) buckets
    → IsMarked marks (option_map_or (λ b. definitions_in names b key) (slice_get buckets place) [])
in-buckets marks names buckets place key all = by (slice_get buckets place) refl
  where
    by : (o : Option Bucket) → slice_get buckets place ≡ o → IsMarked marks (option_map_or (λ b. definitions_in names b key) o [])
    by None e = tt
    by (Some b) e = in-bucket marks names b key (at-place (λ (c : Bucket). All (λ h. IsMarked marks (ids_of h)) (heads_in c)) buckets place b all e)
