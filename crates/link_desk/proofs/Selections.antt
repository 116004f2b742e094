-- What is selected when the batches of a session have been linked.
use Rattle.std.proofs.Common.{ℕ, ◌≡◌, ◌+◌, ◌<◌, ◌≤◌, ◌++◌, ◌∙◌, Bool, true, false, List, [], ◌∷◌, length, length-append, slice_get, Option, Some, None, IfSome, MatchOption, refl, sym, ap, arith}
use Rattle.std.specs.Prelude.{Ok, Err}
use Rattle.std.specs.List.{flat_map}
use Rattle.std.specs.Option.{option_and_then, option_map_or}
use Rattle.std.proofs.lemmas.Option.{none-some}
use Rattle.std.proofs.Math.ListN.{get_or-eq_default}
use Rattle.link_closure.specs.Closure.{is_marked}
use Rattle.link_input.specs.declared.options.Options.{Options}
use Rattle.link_input.specs.declared.world.Scripts.{Scripts}
use Rattle.link_input.specs.InputFiles.{Batch}
use Rattle.link_input.specs.ObjectFile.{ObjectFile}
use Rattle.link_input.specs.Symbols.{object_in}
use Rattle.link_rules.specs.declared.refusal.LinkError.{LinkError}
use Rattle.link_rules.specs.Answer.{End, EndsWith, LinksBatch}
use Rattle.link_rules.specs.Loading.{IsLoaded}
use Rattle.link_rules.specs.Marking.{ended}
use Rattle.link_rules.specs.Names.{first_definition}
use Rattle.link_rules.specs.Places.{Bytes}
use Rattle.link_rules.specs.Refusals.{batch_refusal, group_refusal}
use Rattle.link_rules.specs.Rules.{elf_like}
use Rattle.link_rules.specs.Selection.{Selection, selection_of}
use Rattle.link_rules.specs.World.{Stage, World, with_batch, world_of}
use Rattle.link_rules.proofs.WorldOnce.{one-last}
use Rattle.link_core.specs.Given.{given_in_batches, world_of_batches}
use Rattle.link_core.specs.Sessions.{batches_of, objects_of}
use Rattle.link_core.specs.Steps.{Selects}
use Rattle.link_desk.specs.declared.entry.AskReply.TheVariants.{Known, Unknown}
use Rattle.link_desk.specs.declared.entry.Entry.TheVariants.{Ask}
use Rattle.link_desk.specs.Replay.{IsFound, IsReply, Standing, is_symbol_loaded, world_held}

ok-same : (a b : Selection) → ◌≡◌ {A = End} (Ok a) (Ok b) → a ≡ b
ok-same a b same = cc

-- what ends with a selection had no cause on the way
went_on : (o : Option LinkError) (l : Selection) (A : Type 0) → MatchOption o A (λ e. ◌≡◌ {A = End} (Ok l) (Err e)) → A
went_on None l A goes = goes
went_on (Some e) l A goes = absurd (cc)

-- a batch that is linked on the way to a selection
loaded_batch : (is_late : Bool) (before : Stage) (b : Batch) (GoesOn : Selection → Type 0) (l : Selection) → LinksBatch is_late before b GoesOn (Ok l)
    → (marks : List Bool) × IsLoaded (with_batch before b) marks × GoesOn (selection_of (with_batch before b) marks)
loaded_batch is_late before b GoesOn l links =
    let m = went_on (batch_refusal is_late before b) l
    ((marks : List Bool) × IsLoaded (with_batch before b) marks
    × MatchOption (group_refusal (selection_of (with_batch before b) marks)) (GoesOn (selection_of (with_batch before b) marks)) (λ e. ◌≡◌ {A = End} (Ok l) (Err e))) links in
    (m.0, m.1, went_on (group_refusal (selection_of (with_batch before b) m.0)) l (GoesOn (selection_of (with_batch before b) m.0)) m.2)

-- the last batch leads to what is selected
pub is_last_batch : (is_late : Bool) (before : Stage) (b : Batch) (l : Selection) → EndsWith is_late before b [] (Ok l)
    → (marks : List Bool) × (l ≡ selection_of (with_batch before b) marks) × IsLoaded (with_batch before b) marks
is_last_batch is_late before b l ends =
    let m = loaded_batch is_late before b (λ k. ◌≡◌ {A = End} (Ok l) (Ok k)) l ends in
    (m.0, ok-same l (selection_of (with_batch before b) m.0) m.2, m.1)

-- another batch leads on
pub is_later_batch : (is_late : Bool) (before : Stage) (b c : Batch) (cs : List Batch) (l : Selection) → EndsWith is_late before b (c ∷ cs) (Ok l)
    → (marks : List Bool) × EndsWith true (ended (selection_of (with_batch before b) marks)) c cs (Ok l)
is_later_batch is_late before b c cs l ends =
    let m = loaded_batch is_late before b (λ k. EndsWith true (ended k) c cs (Ok l)) l ends in
    (m.0, m.2)

-- the objects of batches, one after another
abbrev objects_in : List Batch → List ObjectFile
objects_in bs = flat_map (λ b. b.objects) bs

-- there is a mark for each object
marks_of : (is_late : Bool) (before : Stage) (b : Batch) (later : List Batch) (l : Selection)
    → EndsWith is_late before b later (Ok l) → length l.marks ≡ length before.objects + length (objects_in (b ∷ later))
marks_of is_late before b [] l ends =
    let m = is_last_batch is_late before b l ends in
    let marks : length l.marks ≡ length m.0 = ap (λ (k : Selection). length k.marks) m.1 in
    omega (arith, marks, m.2.each, length-append before.objects b.objects, length-append b.objects [])
marks_of is_late before b (c ∷ cs) l ends =
    let m = is_later_batch is_late before b c cs l ends in
    let rest = marks_of true (ended (selection_of (with_batch before b) m.0)) c cs l m.1 in
    omega (arith, rest, length-append before.objects b.objects, length-append b.objects (objects_in (c ∷ cs)))

-- a world's selection by which this object has the symbol
abbrev pub HasSymbol : ℕ → ℕ → World → Type 0
HasSymbol symbol object w = (l : Selection) × Selects w l × (Some object ≡ option_and_then (λ x. object_in x.origin) (slice_get l.stage.symbols symbol))

-- a world's selection by which the symbol counts as loaded, or doesn't
abbrev pub IsSymbolLoaded : ℕ → Bool → World → Type 0
IsSymbolLoaded symbol loaded w = (l : Selection) × Selects w l × (loaded ≡ is_symbol_loaded l symbol)

-- a symbol counts as loaded if its object is
loaded_in : (o : Option World) (symbol object : ℕ) (loaded : Bool) → IfSome o (HasSymbol symbol object)
    → IfSome o (λ w. (l : Selection) × Selects w l × (loaded ≡ is_marked l.marks object)) → IfSome o (IsSymbolLoaded symbol loaded)
loaded_in None symbol object loaded at mark = tt
loaded_in (Some w) symbol object loaded at mark =
    let same : mark.0 ≡ at.0 = one-last w mark.0 at.0 mark.1.ends at.1.ends in
    let marked = mark.2 ∙ ap (λ (l : Selection). is_marked l.marks object) same in
    (at.0, at.1, marked ∙ ap (λ (f : Option ℕ). option_map_or (is_marked at.0.marks) f true) at.2)

-- no object behind those of the batches is loaded
loaded_past : (options : Options) (texts : Scripts) (bs : List Batch) (symbol object : ℕ)
    → IfSome (world_of_batches elf_like (λ name. name) options texts bs) (HasSymbol symbol object) → length (objects_in bs) ≤ object
    → IfSome (world_of_batches elf_like (λ name. name) options texts bs) (IsSymbolLoaded symbol false)
loaded_past options texts [] symbol object at past = tt
loaded_past options texts (b ∷ bs) symbol object at past =
    let count = marks_of false _ b bs at.0 at.1.ends in
    let none : is_marked at.0.marks object ≡ false = get_or-eq_default at.0.marks false (omega (arith, count, past)) in
    (at.0, at.1, sym none ∙ ap (λ (f : Option ℕ). option_map_or (is_marked at.0.marks) f true) at.2)

-- ---- the same of a session

pub session_loaded_in : (s : Standing) (symbol object : ℕ) (loaded : Bool) → IfSome s (λ h. IfSome (world_held h) (HasSymbol symbol object))
    → IfSome s (λ h. IfSome (world_held h) (λ w. (l : Selection) × Selects w l × (loaded ≡ is_marked l.marks object)))
    → IfSome s (λ h. IfSome (world_held h) (IsSymbolLoaded symbol loaded))
session_loaded_in None symbol object loaded at mark = tt
session_loaded_in (Some h) symbol object loaded at mark = loaded_in (world_held h) symbol object loaded at mark

pub session_loaded_past : (s : Standing) (symbol object : ℕ) → IfSome s (λ h. IfSome (world_held h) (HasSymbol symbol object)) → length (objects_of s) ≤ object
    → IfSome s (λ h. IfSome (world_held h) (IsSymbolLoaded symbol false))
session_loaded_past None symbol object at past = tt
session_loaded_past (Some h) symbol object at past = loaded_past h.options h.texts h.batches symbol object at past

-- ---- what a name is answered

-- a world's selection by which the name is mapped to the symbol
abbrev pub IsMapped : Bytes → ℕ → World → Type 0
IsMapped name symbol w = (l : Selection) × Selects w l × (Some symbol ≡ first_definition l.stage name)

known : (options : Options) (texts : Scripts) (bs : List Batch) (name : Bytes) (symbol : ℕ) (loaded : Bool)
    → IfSome (world_of_batches elf_like (λ name. name) options texts bs) (IsMapped name symbol) → (bs ≡ [] → Some symbol ≡ None)
    → IfSome (world_of_batches elf_like (λ name. name) options texts bs) (IsSymbolLoaded symbol loaded)
    → MatchOption (world_of_batches elf_like (λ name. name) options texts bs) (Known symbol loaded ≡ Unknown) (λ w. (l : Selection) × Selects w l × IsFound l name (Known symbol loaded))
known options texts [] name symbol loaded at none mark = absurd (none-some symbol (sym (none refl)))
known options texts (b ∷ bs) name symbol loaded at none mark =
    let same : mark.0 ≡ at.0 = one-last (world_of elf_like (λ name. name) (given_in_batches b bs options texts)) mark.0 at.0 mark.1.ends at.1.ends in
    (at.0, at.1, (sym at.2, mark.2 ∙ ap (λ (l : Selection). is_symbol_loaded l symbol) same))

pub known_reply : (s : Standing) (name : Bytes) (symbol : ℕ) (loaded : Bool) → IfSome s (λ h. IfSome (world_held h) (IsMapped name symbol))
    → (batches_of s ≡ [] → Some symbol ≡ None) → IfSome s (λ h. IfSome (world_held h) (IsSymbolLoaded symbol loaded)) → IsReply s (Ask name (Known symbol loaded))
known_reply None name symbol loaded at none mark = absurd (none-some symbol (sym (none refl)))
known_reply (Some h) name symbol loaded at none mark = known h.options h.texts h.batches name symbol loaded at none mark
