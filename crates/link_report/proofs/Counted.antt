-- What is counted of loaded objects, read off an answer.
use Rattle.std.proofs.Common.{◌≡◌, ◌∙◌, ℕ, suc, ◌+◌, ◌==◌, Bool, true, false, not, cond, List, [], ◌∷◌, Option, refl, sym, ap, ap₂, map, arith}
use Rattle.std.specs.Prelude.{count_by, filter, slice_get}
use Rattle.std.specs.Option.{option_map_or}
use Rattle.std.specs.List.{enumerate_from}
use Rattle.std.proofs.lemmas.List.Sums.{sum_by-cons}
use Rattle.link_input.specs.Limits.{total}
use Rattle.link_input.specs.ObjectFile.{ObjectFile}
use Rattle.link_rules.specs.Comdat.{GroupPlace}
use Rattle.link_rules.specs.Linked.{LoadedObject}
use Rattle.link_report.specs.Summary.{discarded_at, discarded_of}

-- an object with its place, as a report tells of it
abbrev pub told : ℕ × ObjectFile → LoadedObject
told o = record { object = o.0; name = o.1.input }

-- the objects that don't stand first
pub members-told : (objects : List (ℕ × ObjectFile)) → count_by (λ o. not (o.object == 0)) (map told objects) ≡ count_by (λ o. not (o.0 == 0)) objects
members-told [] = refl
members-told (o ∷ os) =
    sum_by-cons (λ (l : LoadedObject). cond (not (l.object == 0)) 1 0) (told o) (map told os)
    ∙ (ap (λ (n : ℕ). cond (not (o.0 == 0)) 1 0 + n) (members-told os) ∙ sym (sum_by-cons (λ (l : ℕ × ObjectFile). cond (not (l.0 == 0)) 1 0) o os))

-- the discarded groups of some of the objects from a place on, of which each is found by its place among all
discarded-from : (kept : GroupPlace → Bool) (p : ℕ × ObjectFile → Bool) (all : List ObjectFile) (n : ℕ) (xs : List ObjectFile)
    → ((k : ℕ) → slice_get all (n + k) ≡ slice_get xs k)
    → total (λ o. discarded_at kept all o.object) (map told (filter p (enumerate_from n xs))) ≡ total (discarded_of kept) (filter p (enumerate_from n xs))
discarded-from kept p all n [] at = refl
discarded-from kept p all n (x ∷ xs) at = by (p (n, x)) (discarded-from kept p all (n + 1) xs next)
  where
    next : (k : ℕ) → slice_get all (n + 1 + k) ≡ slice_get xs k
    next k = let same : n + 1 + k ≡ n + suc k = omega arith in ap (slice_get all) same ∙ at (suc k)

    here : discarded_at kept all n ≡ discarded_of kept (n, x)
    here = let same : n ≡ n + 0 = omega arith in ap (λ (o : Option ObjectFile). option_map_or (λ o. discarded_of kept (n, o)) o 0) (ap (slice_get all) same ∙ at 0)

    rest : List (ℕ × ObjectFile)
    rest = filter p (enumerate_from (n + 1) xs)

    by : (b : Bool) → total (λ o. discarded_at kept all o.object) (map told rest) ≡ total (discarded_of kept) rest
        → total (λ o. discarded_at kept all o.object) (map told (cond b ((n, x) ∷ rest) rest)) ≡ total (discarded_of kept) (cond b ((n, x) ∷ rest) rest)
    by true same = ap₂ (λ (m k : ℕ). m + k) here same
    by false same = same

-- the discarded groups of some of all objects
pub discarded-told : (kept : GroupPlace → Bool) (p : ℕ × ObjectFile → Bool) (all : List ObjectFile)
    → total (λ o. discarded_at kept all o.object) (map told (filter p (enumerate_from 0 all))) ≡ total (discarded_of kept) (filter p (enumerate_from 0 all))
discarded-told kept p all = discarded-from kept p all 0 all (λ k. let same : 0 + k ≡ k = omega arith in ap (slice_get all) same)
