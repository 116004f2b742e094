-- A link has one end, one answer, one refusal, and the texts of these.
use Rattle.std.proofs.Common.{◌≡◌, ℕ, List, [], ◌∷◌, Bool, true, false, Option, None, Some, MatchOption, sym, ◌∙◌, ap, subst, refl, ◌⊎◌, inl, inr}
use Rattle.std.specs.Prelude.{Ok, Err}
use Rattle.link_closure.proofs.Least.{one-least}
use Rattle.link_input.specs.InputFiles.{Batch}
use Rattle.link_rules.specs.Linked.{Linked}
use Rattle.link_rules.specs.declared.refusal.LinkError.{LinkError}
use Rattle.link_rules.specs.World.{World, Stage, start_of, with_batch}
use Rattle.link_rules.specs.Loading.{IsLoaded}
use Rattle.link_rules.specs.Marking.{ended}
use Rattle.link_rules.specs.Work.{ComesTo}
use Rattle.link_rules.proofs.Existence.{stage-loads}
use Rattle.link_rules.specs.Selection.{Selection, selection_of}
use Rattle.link_rules.specs.Undefined.{resolved}
use Rattle.link_rules.specs.Refusals.{text_refusal, batch_refusal, group_refusal, late_refusal}
use Rattle.link_rules.specs.Answer.{End, LinksBatch, EndsWith, BatchesEnd, linked_from, IsLinked, IsRefused, IsRefusedLate, IsReport, IsRefusalText}
use Rattle.link_rules.specs.Report.{report_text, refusal_text}

-- one set of loaded objects
pub one-loaded : (w : Stage) (a b : List Bool) → IsLoaded w a → IsLoaded w b → a ≡ b
one-loaded w a b first second = one-least _ _ _ a b first second

-- ---- one end

-- two ends by one cause, or else by what follows, are the same
by-cause : (o : Option LinkError) (x y : End) (A B : Type 0) → (A → B → x ≡ y) → MatchOption o A (λ e. x ≡ Err e) → MatchOption o B (λ e. y ≡ Err e) → x ≡ y
by-cause None x y A B both first second = both first second
by-cause (Some e) x y A B both first second = first ∙ sym second

-- what follows once these objects are loaded
abbrev IsAtGroups : Stage → (Selection → Type 0) → End → List Bool → Type 0
IsAtGroups w GoesOn end m = MatchOption (group_refusal (selection_of w m)) (GoesOn (selection_of w m)) (λ e. end ≡ Err e)

-- a batch leads to one end, if what follows does
one-batch : (is_late : Bool) (before : Stage) (b : Batch) (x y : End) (P Q : Selection → Type 0) → ((l : Selection) → P l → Q l → x ≡ y)
    → LinksBatch is_late before b P x → LinksBatch is_late before b Q y → x ≡ y
one-batch is_late before b x y P Q goes_on = by-cause (batch_refusal is_late before b) x y _ _ once_loaded
  where
    once_loaded : ((m : List Bool) × IsLoaded (with_batch before b) m × IsAtGroups (with_batch before b) P x m)
        → ((n : List Bool) × IsLoaded (with_batch before b) n × IsAtGroups (with_batch before b) Q y n) → x ≡ y
    once_loaded (m, loaded, first) (n, loaded', second) =
        by-cause (group_refusal (selection_of (with_batch before b) m)) x y _ _ (goes_on (selection_of (with_batch before b) m)) first
        (subst (IsAtGroups (with_batch before b) Q y) (one-loaded (with_batch before b) n m loaded' loaded) second)

-- the batches lead to one end
pub one-end : (is_late : Bool) (before : Stage) (b : Batch) (later : List Batch) (x y : End)
    → EndsWith is_late before b later x → EndsWith is_late before b later y → x ≡ y
one-end is_late before b [] x y = one-batch is_late before b x y (λ l. x ≡ Ok l) (λ l. y ≡ Ok l) (λ l first second. first ∙ sym second)
one-end is_late before b (c ∷ cs) x y =
    one-batch is_late before b x y (λ l. EndsWith true (ended l) c cs x) (λ l. EndsWith true (ended l) c cs y) (λ l. one-end true (ended l) c cs x y)

-- the batches of a world lead to one end
pub one-world : (w : World) (x y : End) → BatchesEnd w x → BatchesEnd w y → x ≡ y
one-world w x y first second = one-end false (start_of w) w.first w.later x y first second

-- ---- one answer

-- what is selected is the same at one end
ok-same : (a b : Selection) → ◌≡◌ {A = End} (Ok a) (Ok b) → a ≡ b
ok-same a b same = cc

-- the cause is the same at one end
err-same : (a b : LinkError) → ◌≡◌ {A = End} (Err a) (Err b) → a ≡ b
err-same a b same = cc

-- no end is of both kinds
ok-err : (l : Selection) (e : LinkError) → ◌≡◌ {A = End} (Ok l) (Err e) → ⊥
ok-err l e same = cc

-- what is selected last is the same
pub one-last : (w : World) (a b : Selection) → BatchesEnd w (Ok a) → BatchesEnd w (Ok b) → a ≡ b
one-last w a b first second = ok-same a b (one-world w (Ok a) (Ok b) first second)

-- one answer
pub one-linked : (w : World) (a b : Linked) → IsLinked w a → IsLinked w b → a ≡ b
one-linked w a b p q = p.is ∙ ap (λ (l : Selection). linked_from (resolved l)) (one-last w p.last q.last p.ends q.ends) ∙ sym q.is

-- one report
pub one-report : (w : World) (a b : List ℕ) → IsReport w a → IsReport w b → a ≡ b
one-report w a b (m, linked, is) (n, linked', is') = is ∙ ap report_text (one-linked w m n linked linked') ∙ sym is'

-- ---- one refusal

-- equal causes that are there are equal
some-one : (a b : LinkError) → Some a ≡ Some b → a ≡ b
some-one a b same = cc

-- the late cause by what is selected last
late : Selection → Option LinkError
late l = late_refusal (resolved l)

-- one late cause
one-late : (w : World) (a b : LinkError) → IsRefusedLate w a → IsRefusedLate w b → a ≡ b
unfolding late
one-late w a b (inl p) (inl q) = err-same a b (one-world w (Err a) (Err b) p q)
one-late w a b (inl p) (inr (l, q, is)) = absurd (ok-err l a (one-world w (Ok l) (Err a) q p))
one-late w a b (inr (l, p, is)) (inl q) = absurd (ok-err l b (one-world w (Ok l) (Err b) p q))
one-late w a b (inr (l, p, is)) (inr (k, q, is')) = some-one a b (sym is ∙ ap late (one-last w l k p q) ∙ is')

-- one cause, by whether a text is one
one-of : (w : World) (text : Option LinkError) (a b : LinkError) → MatchOption text (IsRefusedLate w a) (λ e. a ≡ e)
    → MatchOption text (IsRefusedLate w b) (λ e. b ≡ e) → a ≡ b
one-of w None a b first second = one-late w a b first second
one-of w (Some e) a b first second = first ∙ sym second

-- one refusal
pub one-refusal : (w : World) (a b : LinkError) → IsRefused w a → IsRefused w b → a ≡ b
one-refusal w a b first second = one-of w (text_refusal w) a b first second

-- one text of a refusal
pub one-refusal_text : (w : World) (a b : List ℕ) → IsRefusalText w a → IsRefusalText w b → a ≡ b
one-refusal_text w a b (e, refused, is) (f, refused', is') = is ∙ ap refusal_text (one-refusal w e f refused refused') ∙ sym is'

-- ---- never both

-- what is missing is not there
none-some : (b : LinkError) → None ≡ Some b → ⊥
none-some b same = cc

-- what is linked has no late cause
not-late : (w : World) (a : Linked) (b : LinkError) → IsLinked w a → IsRefusedLate w b → ⊥
unfolding late
not-late w a b p (inl q) = ok-err p.last b (one-world w (Ok p.last) (Err b) p.ends q)
not-late w a b p (inr (l, q, is)) = none-some b (sym p.goes_on ∙ ap late (one-last w p.last l p.ends q) ∙ is)

-- what is linked is not refused, by whether a text is a cause
not-of : (w : World) (text : Option LinkError) (a : Linked) (b : LinkError) → text ≡ None → IsLinked w a
    → MatchOption text (IsRefusedLate w b) (λ e. b ≡ e) → ⊥
not-of w None a b starts p second = not-late w a b p second
not-of w (Some e) a b starts p second = none-some e (sym starts)

-- what is linked is not refused
pub not-both : (w : World) (a : Linked) (b : LinkError) → IsLinked w a → IsRefused w b → ⊥
not-both w a b p second = not-of w (text_refusal w) a b p.starts p second

-- ---- one of both

-- an end by a cause, or else by what follows
some-by : (o : Option LinkError) (A : End → Type 0) → ((end : End) × A end) → (end : End) × MatchOption o (A end) (λ e. end ≡ Err e)
some-by None A found = found
some-by (Some e) A found = (Err e, refl)

-- a batch leads to an end, if what follows does
some-batch : (is_late : Bool) (before : Stage) (b : Batch) (P : Selection → End → Type 0) (loaded : (marks : List Bool) × IsLoaded (with_batch before b) marks)
    → ((end : End) × P (selection_of (with_batch before b) loaded.0) end) → (end : End) × LinksBatch is_late before b (λ l. P l end) end
some-batch is_late before b P loaded goes_on = some-by (batch_refusal is_late before b) _ once_loaded
  where
    once_loaded : (end : End) × ((m : List Bool) × IsLoaded (with_batch before b) m × IsAtGroups (with_batch before b) (λ l. P l end) end m)
    once_loaded =
        let l = selection_of (with_batch before b) loaded.0 in
        let found = some-by (group_refusal l) (P l) goes_on in
        (found.0, (loaded.0, loaded.1, found.1))

-- the batches lead to an end, where each stage has loaded objects
some-end : (is_late : Bool) (before : Stage) (b : Batch) (later : List Batch) → ((w : Stage) → ComesTo before b later w → (marks : List Bool) × IsLoaded w marks)
    → (end : End) × EndsWith is_late before b later end
some-end is_late before b [] loads =
    let loaded = loads (with_batch before b) refl in
    some-batch is_late before b (λ l end. end ≡ Ok l) loaded (Ok (selection_of (with_batch before b) loaded.0), refl)
some-end is_late before b (c ∷ cs) loads =
    let loaded = loads (with_batch before b) (inl refl) in
    some-batch is_late before b (λ l end. EndsWith true (ended l) c cs end) loaded
    (some-end true (ended (selection_of (with_batch before b) loaded.0)) c cs (λ w to. loads w (inr (loaded.0, loaded.1, to))))

-- linked, or refused for a late cause
by-late : (w : World) (last : Selection) (late : Option LinkError) → text_refusal w ≡ None → BatchesEnd w (Ok last) → late_refusal (resolved last) ≡ late
    → ((linked : Linked) × IsLinked w linked) ⊎ ((error : LinkError) × IsRefused w error)
by-late w last None starts ends is = inl (linked_from (resolved last), record { starts = starts; last = last; ends = ends; goes_on = is; is = refl })
by-late w last (Some error) starts ends is = inr (error, rw starts (inr (last, ends, is)))

-- linked or refused, by how the batches end
by-end : (w : World) (end : End) → text_refusal w ≡ None → BatchesEnd w end
    → ((linked : Linked) × IsLinked w linked) ⊎ ((error : LinkError) × IsRefused w error)
by-end w (Ok last) starts ends = by-late w last (late_refusal (resolved last)) starts ends refl
by-end w (Err error) starts ends = inr (error, rw starts (inl ends))

-- linked or refused, by whether a text is a cause
by-text : (w : World) (text : Option LinkError) → text_refusal w ≡ text → (end : End) → BatchesEnd w end
    → ((linked : Linked) × IsLinked w linked) ⊎ ((error : LinkError) × IsRefused w error)
by-text w None is end ends = by-end w end is ends
by-text w (Some error) is end ends = inr (error, rw is refl)

-- a world is linked or refused
pub one-of-both : (w : World) → ((linked : Linked) × IsLinked w linked) ⊎ ((error : LinkError) × IsRefused w error)
one-of-both w =
    let found = some-end false (start_of w) w.first w.later (stage-loads w) in
    by-text w (text_refusal w) refl found.0 found.1
