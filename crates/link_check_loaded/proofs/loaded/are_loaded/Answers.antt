use Rattle.std.proofs.Common.{◌≡◌, ◌∙◌, Bool, List, Option, ℕ, ap, sym}
use Rattle.std.specs.Prelude.{IfOk, Result, Ok, Err}
use Rattle.link_input.specs.Symbols.{Symbol}
use Rattle.link_check_targets.specs.Stages.{stage_requests}
use Rattle.link_check_loaded.specs.Accepted.{accepts}
use Rattle.link_check_loaded.proofs.Accepting.{accepted-loaded, loaded-accepted}
use Rattle.link_check_loaded.proofs.loaded.are_loaded.Goals as goal

if_ok : {T E : Type 0} (r : Result T E) (P Q : T → Type 0) → ((x : T) → P x → Q x) → IfOk r P → IfOk r Q
if_ok (Ok x) P Q to h = to x h
if_ok (Err e) P Q to h = tt

pub returns : goal.returns
returns c =
    let symbols = c.args.symbols.now in
    let requests = c.args.requests.now in
    let roots = c.args.roots.now in
    let loaded = c.args.loaded.now in
    if_ok c.accepts.result (λ (holds : Bool). holds ≡ accepts symbols requests roots loaded) _
    (λ holds is w same asks told.
    let all : holds ≡ accepts w.symbols (stage_requests w) roots loaded =
    is ∙ (ap (λ (l : List Symbol). accepts l requests roots loaded) (sym same) ∙ ap (λ (r : List (Option ℕ)). accepts w.symbols r roots loaded) asks) in
    ((λ yes. accepted-loaded w roots loaded told (sym all ∙ yes)), (λ are. all ∙ loaded-accepted w roots loaded told are)))
    c.accepts.ensures
