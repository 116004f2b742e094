-- Two small works, for worked examples and tests.
use Rattle.std.specs.Prelude.{◌≡◌, ℕ, ◌+◌, ◌<◌, ◌^◌, Bool, true, false, IsTrue, List, [], ◌∷◌, Contains, nat_lt, slice_index}
use Rattle.std.specs.List.{list_all, range_with_len}
use Rattle.std.proofs.Common.{zero, suc, sym, refl, ◌∙◌, subst, arith}
use Rattle.std.proofs.lemmas.Bool.Decides.{nat_tests}
use Rattle.std.proofs.lemmas.List.Elements.{All-contains}
use Rattle.std.proofs.lemmas.List.Sums.{AllPass-from_list_all}
use Rattle.std.proofs.lemmas.List.FromFn.{get_or-range_with_len}
use Rattle.link_closure.specs.declared.workload.Mark.{Mark}
use Rattle.link_closure.specs.declared.workload.Item.{Item}
use Rattle.link_closure.specs.declared.workload.Workload.{Workload}
use Rattle.link_claim.specs.declared.state.Core.{Core}
use Rattle.link_claim.specs.declared.state.Step.{Step}
use Rattle.link_claim.specs.declared.state.Step.TheVariants.{Claim, Begin, Mark as MarkStep, Read}
use Rattle.link_closure.specs.Workload.{HasItem, IsRoot, IsSound}
use Rattle.link_claim.specs.Workload.{FitsU32}

-- a mark of these bits for the symbol x
abbrev pub mark : ℕ → ℕ → Mark
mark x b = record { symbol = x; bits = b }

-- ---- three files, of which the first is a root and asks for the second; nothing asks for the third

abbrev pub item0 : Item
item0 = record { file = 0; requests = 1 ∷ []; marks = mark 0 2 ∷ [] }

abbrev pub item1 : Item
item1 = record { file = 1; requests = 0 ∷ []; marks = [] }

abbrev pub item2 : Item
item2 = record { file = 2; requests = 1 ∷ []; marks = mark 1 8 ∷ [] }

-- what is to be done
abbrev pub three_files : Workload
three_files = record {
  files = 3;
  roots = 0 ∷ [];
  root_marks = mark 1 1 ∷ [];
  opening = 4 ∷ 0 ∷ [];
  items = item0 ∷ item1 ∷ item2 ∷ [];
}

-- what the workers 5 and 6 do, one step at a time, until all is read
abbrev pub two_workers : List Step
two_workers =
    Claim 5 0 ∷ Read 6 ∷ Begin 5 0 ∷ Begin 6 0 ∷ Claim 6 1 ∷ Claim 5 1 ∷ MarkStep 5 (mark 0 2) ∷ MarkStep 6 (mark 1 1)
    ∷ Begin 6 1 ∷ Claim 6 0 ∷ []

-- where that ends
abbrev pub three_files_read : Core
three_files_read = record {
  claimed = true ∷ true ∷ false ∷ [];
  begun = true ∷ true ∷ false ∷ [];
  flags = 6 ∷ 1 ∷ [];
  claims = record { worker = 6; file = 1 } ∷ record { worker = 5; file = 0 } ∷ [];
  begins = record { worker = 6; item = 1 } ∷ record { worker = 5; item = 0 } ∷ [];
  marks = record { worker = 6; mark = mark 1 1 } ∷ record { worker = 5; mark = mark 0 2 } ∷ [];
}

-- what passes for all elements passes for one
each : {X : Type 0} (p : X → Bool) (xs : List X) → list_all p xs ≡ true → (x : X) → Contains xs x → IsTrue (p x)
each p xs all x has = All-contains (λ y. IsTrue (p y)) xs x (AllPass-from_list_all p xs all) has

-- a test that computes, as a fact
less : (a b : ℕ) → nat_lt a b ≡ true → a < b
less a b e = grind (arith, nat_tests)

-- what passes a test of each item passes it of the item at an index
at : (p : Item → Bool) → (p item0 ≡ true) × (p item1 ≡ true) × (p item2 ≡ true) → (i : ℕ) (it : Item) → HasItem three_files i it → p it ≡ true
at p ok zero it has = let e : item0 ≡ it = cc in subst (λ t. p t ≡ true) e ok.0
at p ok (suc zero) it has = let e : item1 ≡ it = cc in subst (λ t. p t ≡ true) e ok.1
at p ok (suc (suc zero)) it has = let e : item2 ≡ it = cc in subst (λ t. p t ≡ true) e ok.2
at p ok (suc (suc (suc i))) it has = absurd (cc)

-- each file and symbol that is named exists
pub three_files_sound : IsSound three_files
three_files_sound = record {
  roots = λ f has. less f 3 (each (λ g. nat_lt g 3) three_files.roots refl f has);
  items = λ i it has. less it.file 3 (at (λ t. nat_lt t.file 3) (refl, refl, refl) i it has);
  requests = λ i f has. less f 3 (each (λ g. nat_lt g 3) has.0.requests (at (λ t. list_all (λ g. nat_lt g 3) t.requests) (refl, refl, refl) i has.0 has.1) f has.2);
  root_marks = λ m has. less m.symbol 2 (each (λ (k : Mark). nat_lt k.symbol 2) three_files.root_marks refl m has);
  marks = λ i m has. less m.symbol 2 (each (λ (k : Mark). nat_lt k.symbol 2) has.0.marks (at (λ t. list_all (λ (k : Mark). nat_lt k.symbol 2) t.marks) (refl, refl, refl) i has.0 has.1) m has.2);
}

-- the opening flags are of 32 bits
opening_of_three : (x : ℕ) → x < 2 → slice_index three_files.opening x < 2 ^ 32
opening_of_three zero h = omega arith
opening_of_three (suc zero) h = omega arith
opening_of_three (suc (suc x)) h = absurd (omega arith)

-- all flags are of 32 bits
pub three_files_fit : FitsU32 three_files
three_files_fit = record {
  symbols = omega arith;
  opening = opening_of_three;
  root_marks = λ m has. let small = less m.bits 16 (each (λ (k : Mark). nat_lt k.bits 16) three_files.root_marks refl m has) in omega arith;
  marks = λ i m has. let small = less m.bits 16 (each (λ (k : Mark). nat_lt k.bits 16) has.0.marks (at (λ t. list_all (λ (k : Mark). nat_lt k.bits 16) t.marks) (refl, refl, refl) i has.0 has.1) m has.2) in omega arith;
}

-- ---- eight files, all of them roots, with one item and four marks of two symbols

abbrev pub only_item : Item
only_item = record { file = 0; requests = 1 ∷ []; marks = [] }

-- what is to be done
abbrev pub eight_files : Workload
eight_files = record {
  files = 8;
  roots = range_with_len 0 8;
  root_marks = mark 0 1 ∷ mark 0 2 ∷ mark 1 4 ∷ mark 1 8 ∷ [];
  opening = 16 ∷ 32 ∷ [];
  items = only_item ∷ [];
}

-- there is one item
item_is : (i : ℕ) (it : Item) → HasItem eight_files i it → only_item ≡ it
item_is zero it e = cc
item_is (suc i) it e = absurd (cc)

-- each number below 8 is a root
pub is_root_of_eight : (f : ℕ) → f < 8 → IsRoot eight_files f
is_root_of_eight f lt = let e : 0 + f ≡ f = omega arith in (f, lt, get_or-range_with_len 0 8 f f lt ∙ e)

-- each file and symbol that is named exists
pub eight_files_sound : IsSound eight_files
eight_files_sound = record {
  roots = λ f has. less f 8 (each (λ g. nat_lt g 8) (range_with_len 0 8) refl f has);
  items = λ i it has. subst (λ (t : Item). t.file < 8) (item_is i it has) (omega arith);
  requests = λ i f has. let asked = subst (λ (t : Item). Contains t.requests f) (sym (item_is i has.0 has.1)) has.2 in less f 8 (each (λ g. nat_lt g 8) (1 ∷ []) refl f asked);
  root_marks = λ m has. less m.symbol 2 (each (λ (k : Mark). nat_lt k.symbol 2) eight_files.root_marks refl m has);
  marks = λ i m has. let none = subst (λ (t : Item). Contains t.marks m) (sym (item_is i has.0 has.1)) has.2 in let h = none.1 in absurd (omega arith);
}

-- the opening flags are of 32 bits
opening_small : (x : ℕ) → x < 2 → slice_index eight_files.opening x < 2 ^ 32
opening_small zero h = omega arith
opening_small (suc zero) h = omega arith
opening_small (suc (suc x)) h = absurd (omega arith)

-- all flags are of 32 bits
pub eight_files_fit : FitsU32 eight_files
eight_files_fit = record {
  symbols = omega arith;
  opening = opening_small;
  root_marks = λ m has. let small = less m.bits 16 (each (λ (k : Mark). nat_lt k.bits 16) eight_files.root_marks refl m has) in omega arith;
  marks = λ i m has. let none = subst (λ (t : Item). Contains t.marks m) (sym (item_is i has.0 has.1)) has.2 in let h = none.1 in absurd (omega arith);
}
