use Rattle.std.proofs.Common.{◌≡◌, ◌∙◌, ◌+◌, ◌++◌, ap, drop, refl, sym, take}
use Rattle.std.proofs.lemmas.List.{take-append-drop}
use Rattle.link_report.proofs.Cut.{below-more, on_ok, run-more}
use Rattle.link_report.proofs.runs.+push_runs.Goals as goal

pub returns-in_ok-push-in-Some-clause-symbols : goal.returns-in_ok-push-in-Some-clause-symbols
returns-in_ok-push-in-Some-clause-symbols g t c =
    let groups = c.args.groups.now in
    let run = c.split_at.result.0 in
    let behind = c.split_at.result.1.now in
    let front : run.now ≡ take c.min.result groups = c.split_at.ensures.front in
    let back : behind ≡ drop c.min.result groups = c.split_at.ensures.back in
    let cut : groups ≡ run.now ++ behind =
    sym (ap (λ gs. gs ++ behind) front ∙ (ap (λ gs. take c.min.result groups ++ gs) back ∙ take-append-drop c.min.result groups)) in
    on_ok c.push_runs.result
    (run-more c.push_runs.new.runs.items c.push.new.self.items c.args.runs.now.items (record { groups = run; first = c.args.first }) groups run.now behind c.args.first
    _ c.in_ok-push-in-Some.ensures.items cut refl refl (ap (λ n. c.args.first + n) c.symbols_of_groups.ensures))
    c.push_runs.ensures.symbols

pub returns-in_ok-push-in-Some-clause-below : goal.returns-in_ok-push-in-Some-clause-below
returns-in_ok-push-in-Some-clause-below g t c =
    let groups = c.args.groups.now in
    let run = c.split_at.result.0 in
    let behind = c.split_at.result.1.now in
    let front : run.now ≡ take c.min.result groups = c.split_at.ensures.front in
    let back : behind ≡ drop c.min.result groups = c.split_at.ensures.back in
    let cut : groups ≡ run.now ++ behind =
    sym (ap (λ gs. gs ++ behind) front ∙ (ap (λ gs. take c.min.result groups ++ gs) back ∙ take-append-drop c.min.result groups)) in
    on_ok c.push_runs.result
    (below-more c.push_runs.new.runs.items c.push.new.self.items c.args.runs.now.items (record { groups = run; first = c.args.first }) groups run.now behind c.args.first
    _ c.in_ok-push-in-Some.ensures.items cut refl refl (ap (λ n. c.args.first + n) c.symbols_of_groups.ensures))
    c.push_runs.ensures.below
