-- One file is taken from those that wait, and all to which it leads is marked.
use Rattle.std.proofs.Common.{◌≡◌, ℕ, ◌⊎◌, List, [], ◌∷◌, ◌++◌, Bool, Some, Vec, Global, subst, sym, ◌∙◌, inl, inr}
use Rattle.std.specs.List.{Contains, slice_get}
use Rattle.std.proofs.lemmas.List.Elements.{Contains-push_cases}
use Rattle.link_closure.specs.Closure.{IsPartOfEachClosed, is_marked}
use Rattle.link_closure.specs.Graph.{Graph, IsMarked, Leads}
use Rattle.link_closure.proofs.Waiting.{IsDone, WaitsOrIsDone}

pub either : {A B C : Type 0} → A ⊎ B → (A → C) → (B → C) → C
either (inl a) f g = f a
either (inr b) f g = g b

pub some-inj : {X : Type 0} {x y : X} → Some x ≡ Some y → x ≡ y
some-inj e = cc

-- the file that was taken, before and after
pub record Turn (graph : Graph) (marks marks' : List Bool) (rest todo' : List ℕ) (file : ℕ) (row : Vec ℕ Global) : Type 0 where
  pub at : slice_get graph file ≡ Some row
  pub row_marked : (g : ℕ) → Contains row.items g → IsMarked marks' g
  pub kept : (f : ℕ) → IsMarked marks f → IsMarked marks' f
  pub waits : (f : ℕ) → IsMarked marks' f → IsMarked marks f ⊎ Contains todo' f
  pub only : (f : ℕ) → IsMarked marks' f → IsMarked marks f ⊎ Contains row.items f
  pub waiting : (f : ℕ) → Contains rest f → Contains todo' f

pub least-turn : (Root : ℕ → Type 0) (graph : Graph) (marks marks' : List Bool) (rest todo' : List ℕ) (file : ℕ) (row : Vec ℕ Global)
    → Turn graph marks marks' rest todo' file row → IsMarked marks file
    → IsPartOfEachClosed Root (Leads graph) (is_marked marks) → IsPartOfEachClosed Root (Leads graph) (is_marked marks')
least-turn Root graph marks marks' rest todo' file row turn is_marked least other closed f held =
    either (turn.only f held) (least other closed f)
    (λ inside. closed.1 file f (least other closed file is_marked) (row, turn.at, inside))

-- the file itself is done
done-here : (graph : Graph) (marks marks' : List Bool) (rest todo' : List ℕ) (file : ℕ) (row : Vec ℕ Global)
    → Turn graph marks marks' rest todo' file row → IsDone graph marks' file
done-here graph marks marks' rest todo' file row turn g (row', at', inside) =
    let P : Vec ℕ Global → Type 0 = λ r. Contains r.items g in
    turn.row_marked g (subst P (some-inj (sym at' ∙ turn.at)) inside)

pub done-turn : (graph : Graph) (marks marks' : List Bool) (rest todo todo' : List ℕ) (file : ℕ) (row : Vec ℕ Global)
    → todo ≡ rest ++ file ∷ [] → Turn graph marks marks' rest todo' file row
    → ((f : ℕ) → WaitsOrIsDone graph marks todo f) → (f : ℕ) → WaitsOrIsDone graph marks' todo' f
done-turn graph marks marks' rest todo todo' file row is turn done f held =
    either (turn.waits f held)
    (λ before. either (done f before)
    (λ waits. either (Contains-push_cases rest file f (rw is at waits))
    (λ later. inl (turn.waiting f later))
    (λ same. inr (subst (IsDone graph marks') same (done-here graph marks marks' rest todo' file row turn))))
    (λ was. inr (λ g leads. turn.kept g (was g leads))))
    inl
