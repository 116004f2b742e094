-- What a closed desk answers, from what its state and the passes are.
use Rattle.std.proofs.Common.{ℕ, ◌≡◌, ◌∙◌, List, IfOk, length, Result, Ok, Err, sym, ap, subst}
use Rattle.link_input.specs.declared.options.Options.{Options}
use Rattle.link_input.specs.declared.world.Scripts.{Scripts}
use Rattle.link_desk.specs.declared.entry.Entry.{Entry}
use Rattle.link_desk.specs.declared.closing.CloseError.{CloseError}
use Rattle.link_desk.specs.declared.closing.CloseError.TheVariants.{SharesMissing, Differs}
use Rattle.link_desk.specs.Closing.{IsClosed, IsSettled}
use Rattle.link_desk.specs.Passes.{AreRight, Carried, IsFirstWrong}
use Rattle.link_desk.specs.Replay.{Desked, IsReplayed, opened}
use Rattle.link_desk.specs.Seeing.{SeesAdded, SeesOwn}
use Rattle.link_desk.proofs.Found.{all_called}
use Rattle.link_desk.proofs.Seeing.{sees, sees_own}

pub closed_of : {L : Type 0} (options : Options) (texts : Scripts) (d : Desked) (passes : List Carried) (r : Result Desked (CloseError L)) → IsReplayed options texts d → IsSettled d passes r → IsClosed options texts passes r
closed_of options texts d passes (Ok state) replayed s =
    let P : Desked → Type 0 = IsReplayed options texts in
    let Q : Desked → Type 0 = λ e. AreRight e.history passes in
    let history : d.history ≡ state.history = ap (λ (e : Desked). e.history) (sym s.0) in
    (subst P (sym s.0) replayed, all_called state.history passes (subst Q (sym s.0) s.2) (s.1 ∙ (replayed.book ∙ ap (λ (es : List Entry). length es) history)))
closed_of options texts d passes (Err (SharesMissing book sum total)) replayed s = (s.1, s.2, s.3)
closed_of options texts d passes (Err (Differs state pass call place)) replayed s =
    let P : Desked → Type 0 = IsReplayed options texts in
    let Q : Desked → Type 0 = λ e. (k : ℕ) × IsFirstWrong e.history passes pass k (record { place = place; entry = call }) in
    let history : state.history ≡ d.history = ap (λ (e : Desked). e.history) s.0 in
    (subst P (sym s.0) replayed, ap (λ (es : List Entry). length es) history ∙ (sym replayed.book ∙ sym s.1), subst Q (sym s.0) s.2)

-- a state that is given back sees what was added, and so does each pass
pub closed_sees : {L : Type 0} (options : Options) (texts : Scripts) (passes : List Carried) (r : Result Desked (CloseError L)) → IsClosed options texts passes r → IfOk r (λ state. SeesAdded state.history)
closed_sees options texts passes (Ok state) closed = sees (opened options texts) state.history closed.0.legal
closed_sees options texts passes (Err e) closed = tt

pub closed_sees_own : {L : Type 0} (options : Options) (texts : Scripts) (passes : List Carried) (r : Result Desked (CloseError L)) → IsClosed options texts passes r
    → IfOk r (λ state. SeesOwn state.history passes)
closed_sees_own options texts passes (Ok state) closed = sees_own state.history passes (sees (opened options texts) state.history closed.0.legal) closed.1
closed_sees_own options texts passes (Err e) closed = tt
