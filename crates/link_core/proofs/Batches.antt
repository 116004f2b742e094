-- How a link ends that has one batch more.
use Rattle.std.proofs.Common.{◌≡◌, ◌∙◌, ◌++◌, List, [], ◌∷◌, Bool, true, Option, None, Some, MatchOption, Ok, Err, refl, sym, ap, subst}
use Rattle.std.specs.Option.{option_or}
use Rattle.link_input.specs.InputFiles.{Batch}
use Rattle.link_rules.specs.declared.refusal.LinkError.{LinkError}
use Rattle.link_rules.specs.Answer.{End, EndsWith, LinksBatch}
use Rattle.link_rules.specs.Loading.{IsLoaded}
use Rattle.link_rules.specs.Marking.{ended}
use Rattle.link_rules.specs.Refusals.{batch_refusal, empty_refusal, group_refusal}
use Rattle.link_rules.specs.Selection.{Selection, selection_of}
use Rattle.link_rules.specs.World.{Stage, with_batch}
use Rattle.link_resolve.specs.Resolving.{loading_cause}
use Rattle.link_core.specs.Steps.{inputs_refusal}

-- ---- one cause of several

-- where two causes make none, neither is one
pub first-none : (a b : Option LinkError) → option_or a (option_or b None) ≡ None → a ≡ None
first-none None b is = refl
first-none (Some x) b is = absurd (cc)

pub second-none : (a b : Option LinkError) → option_or a (option_or b None) ≡ None → b ≡ None
second-none None None is = refl
second-none None (Some x) is = absurd (cc)
second-none (Some x) b is = absurd (cc)

-- the second of two causes, where the first is none
second-told : (a b : Option LinkError) (e : LinkError) → option_or a (option_or b None) ≡ Some e → a ≡ None → b ≡ Some e
second-told None None e is none = absurd (cc)
second-told None (Some x) e is none = is
second-told (Some x) b e is none = absurd (cc)

-- a third cause stands behind two
third : (a b c : Option LinkError) (e : LinkError) → option_or a (option_or b None) ≡ Some e → option_or a (option_or b (option_or c None)) ≡ Some e
third (Some x) b c e is = is
third None (Some x) c e is = is
third None None c e is = absurd (cc)

-- and is told where these are none
third-told : (a b c : Option LinkError) → option_or a (option_or b None) ≡ None → option_or a (option_or b (option_or c None)) ≡ c
third-told None None None is = refl
third-told None None (Some x) is = refl
third-told None (Some x) c is = absurd (cc)
third-told (Some x) b c is = absurd (cc)

-- ---- how the last batch is linked

-- what follows where a batch brings no cause before it is loaded
abbrev Follows : Stage → (Selection → Type 0) → End → Type 0
Follows s GoesOn end = (marks : List Bool) × IsLoaded s marks × MatchOption (group_refusal (selection_of s marks)) (GoesOn (selection_of s marks)) (λ e. ◌≡◌ {A = End} end (Err e))

-- its end is this selection
abbrev Is : End → Selection → Type 0
Is end l = ◌≡◌ {A = End} end (Ok l)

-- a cause that it brings before it is loaded ends it
links-refused : (is_late : Bool) (before : Stage) (b : Batch) (GoesOn : Selection → Type 0) (e : LinkError) → batch_refusal is_late before b ≡ Some e → LinksBatch is_late before b GoesOn (Err e)
links-refused is_late before b GoesOn e is =
    let end : End = Err e in
    subst (λ (o : Option LinkError). MatchOption o (Follows (with_batch before b) GoesOn end) (λ x. ◌≡◌ {A = End} end (Err x))) (sym is) refl

-- the inputs are the cause
pub links-inputs : (is_late : Bool) (before : Stage) (b : Batch) (GoesOn : Selection → Type 0) (e : LinkError) → inputs_refusal is_late before b ≡ Some e → LinksBatch is_late before b GoesOn (Err e)
links-inputs is_late before b GoesOn e is = links-refused is_late before b GoesOn e (third _ _ (empty_refusal (with_batch before b)) e is)

-- so does a section in two groups, once it is loaded
links-groups : (is_late : Bool) (before : Stage) (b : Batch) (GoesOn : Selection → Type 0) (marks : List Bool) (e : LinkError) → batch_refusal is_late before b ≡ None
    → IsLoaded (with_batch before b) marks → group_refusal (selection_of (with_batch before b) marks) ≡ Some e → LinksBatch is_late before b GoesOn (Err e)
links-groups is_late before b GoesOn marks e none loaded is =
    let end : End = Err e in
    let l = selection_of (with_batch before b) marks in
    let follows : Follows (with_batch before b) GoesOn end = (marks, loaded, subst (λ (o : Option LinkError). MatchOption o (GoesOn l) (λ x. ◌≡◌ {A = End} end (Err x))) (sym is) refl) in
    subst (λ (o : Option LinkError). MatchOption o (Follows (with_batch before b) GoesOn end) (λ x. ◌≡◌ {A = End} end (Err x))) (sym none) follows

-- else it ends with what is selected
links-selected : (is_late : Bool) (before : Stage) (b : Batch) (marks : List Bool) → batch_refusal is_late before b ≡ None
    → IsLoaded (with_batch before b) marks → group_refusal (selection_of (with_batch before b) marks) ≡ None
    → LinksBatch is_late before b (Is (Ok (selection_of (with_batch before b) marks))) (Ok (selection_of (with_batch before b) marks))
links-selected is_late before b marks none loaded fine =
    let l = selection_of (with_batch before b) marks in
    let end : End = Ok l in
    let follows : Follows (with_batch before b) (Is end) end = (marks, loaded, subst (λ (o : Option LinkError). MatchOption o (Is end l) (λ x. ◌≡◌ {A = End} end (Err x))) (sym fine) refl) in
    subst (λ (o : Option LinkError). MatchOption o (Follows (with_batch before b) (Is end) end) (λ x. ◌≡◌ {A = End} end (Err x))) (sym none) follows

-- what loading tells is the cause, where the inputs are none
pub links-loading : (is_late : Bool) (before : Stage) (b : Batch) (GoesOn : Selection → Type 0) (marks : List Bool) (e : LinkError) → inputs_refusal is_late before b ≡ None
    → IsLoaded (with_batch before b) marks → loading_cause (with_batch before b) marks ≡ Some e → LinksBatch is_late before b GoesOn (Err e)
links-loading is_late before b GoesOn marks e inputs loaded is = by (empty_refusal s) refl
  where
    s : Stage
    s = with_batch before b

    by : (o : Option LinkError) → empty_refusal s ≡ o → LinksBatch is_late before b GoesOn (Err e)
    by None empty =
        links-groups is_late before b GoesOn marks e (third-told _ _ (empty_refusal s) inputs ∙ empty) loaded
        (second-told (empty_refusal s) (group_refusal (selection_of s marks)) e is empty)
    by (Some x) empty =
        let same : Some x ≡ Some e = sym (ap (λ (o : Option LinkError). option_or o (option_or (group_refusal (selection_of s marks)) None)) empty) ∙ is in
        links-refused is_late before b GoesOn e (third-told _ _ (empty_refusal s) inputs ∙ (empty ∙ same))

-- where nothing is a cause, it ends with what is selected
pub links-loaded : (is_late : Bool) (before : Stage) (b : Batch) (marks : List Bool) → inputs_refusal is_late before b ≡ None
    → IsLoaded (with_batch before b) marks → loading_cause (with_batch before b) marks ≡ None
    → LinksBatch is_late before b (Is (Ok (selection_of (with_batch before b) marks))) (Ok (selection_of (with_batch before b) marks))
links-loaded is_late before b marks inputs loaded fine =
    let s = with_batch before b in
    let empty = first-none (empty_refusal s) (group_refusal (selection_of s marks)) fine in
    let groups = second-none (empty_refusal s) (group_refusal (selection_of s marks)) fine in
    links-selected is_late before b marks (third-told _ _ (empty_refusal s) inputs ∙ empty) loaded groups

-- ---- one batch more

-- the same selection
ok-same : (a b : Selection) → ◌≡◌ {A = End} (Ok a) (Ok b) → a ≡ b
ok-same a b same = cc

-- where there was no cause, there is none for another end
goes-on : (o : Option LinkError) (A B : Type 0) (l : Selection) (end : End) → (A → B) → MatchOption o A (λ e. ◌≡◌ {A = End} (Ok l) (Err e)) → MatchOption o B (λ e. ◌≡◌ {A = End} end (Err e))
goes-on None A B l end f held = f held
goes-on (Some e) A B l end f held = absurd (cc)

-- a batch that is linked well may lead to another end
leads-to : (is_late : Bool) (before : Stage) (b : Batch) (l : Selection) (end : End) (F G : Selection → Type 0) → ((k : Selection) → F k → G k)
    → LinksBatch is_late before b F (Ok l) → LinksBatch is_late before b G end
leads-to is_late before b l end F G f held =
    goes-on (batch_refusal is_late before b) (Follows (with_batch before b) F (Ok l)) (Follows (with_batch before b) G end) l end
    (λ found. (
      found.0,
      found.1,
      goes-on (group_refusal (selection_of (with_batch before b) found.0)) (F (selection_of (with_batch before b) found.0)) (G (selection_of (with_batch before b) found.0)) l end
          (f (selection_of (with_batch before b) found.0)) found.2,
    ))
    held

-- where batches end with a selection, a batch behind them ends the link
pub ends-behind : (is_late : Bool) (before : Stage) (b : Batch) (later : List Batch) (l : Selection) (c : Batch) (end : End) → EndsWith is_late before b later (Ok l)
    → LinksBatch true (ended l) c (Is end) end → EndsWith is_late before b (later ++ c ∷ []) end
ends-behind is_late before b [] l c end held links =
    leads-to is_late before b l end (Is (Ok l)) (λ k. LinksBatch true (ended k) c (Is end) end)
    (λ k same. subst (λ (j : Selection). LinksBatch true (ended j) c (Is end) end) (ok-same l k same) links) held
ends-behind is_late before b (d ∷ ds) l c end held links =
    leads-to is_late before b l end (λ k. EndsWith true (ended k) d ds (Ok l)) (λ k. EndsWith true (ended k) d (ds ++ c ∷ []) end)
    (λ k rest. ends-behind true (ended k) d ds l c end rest links) held

-- where a batch is a cause, it is one for all that comes behind
fails-on : (o : Option LinkError) (A B : Type 0) (e : LinkError) → (A → B) → MatchOption o A (λ x. ◌≡◌ {A = End} (Err e) (Err x)) → MatchOption o B (λ x. ◌≡◌ {A = End} (Err e) (Err x))
fails-on None A B e f held = f held
fails-on (Some x) A B e f held = held

fails-with : (is_late : Bool) (before : Stage) (b : Batch) (e : LinkError) (F G : Selection → Type 0) → ((k : Selection) → F k → G k)
    → LinksBatch is_late before b F (Err e) → LinksBatch is_late before b G (Err e)
fails-with is_late before b e F G f held =
    fails-on (batch_refusal is_late before b) (Follows (with_batch before b) F (Err e)) (Follows (with_batch before b) G (Err e)) e
    (λ found. (
      found.0,
      found.1,
      fails-on (group_refusal (selection_of (with_batch before b) found.0)) (F (selection_of (with_batch before b) found.0)) (G (selection_of (with_batch before b) found.0)) e
          (f (selection_of (with_batch before b) found.0)) found.2,
    ))
    held

-- where batches end with a cause, so they do with more behind them
pub fails-behind : (is_late : Bool) (before : Stage) (b : Batch) (later more : List Batch) (e : LinkError) → EndsWith is_late before b later (Err e) → EndsWith is_late before b (later ++ more) (Err e)
fails-behind is_late before b [] [] e held = held
fails-behind is_late before b [] (m ∷ ms) e held =
    fails-with is_late before b e (Is (Err e)) (λ k. EndsWith true (ended k) m ms (Err e)) (λ k same. absurd (cc)) held
fails-behind is_late before b (d ∷ ds) more e held =
    fails-with is_late before b e (λ k. EndsWith true (ended k) d ds (Err e)) (λ k. EndsWith true (ended k) d (ds ++ more) (Err e)) (λ k rest. fails-behind true (ended k) d ds more e rest) held
