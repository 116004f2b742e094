use Rattle.std.proofs.Common.{◌∙◌, ◌++◌, ◌<◌, [], None, drop, length, subst, sym, take}
use Rattle.std.proofs.lemmas.List.{append-nil}
use Rattle.std.proofs.lemmas.Result.{on_err_weaker, on_ok_weaker}
use Rattle.link_db_buckets.specs.Bucket.{definitions_in, label_in}
use Rattle.link_db_buckets.specs.Buckets.{asked_of}
use Rattle.link_db_buckets.specs.Runs.{joined}
use Rattle.link_db_buckets.proofs.Changes.{on_both}
use Rattle.link_db_buckets.proofs.Releasing.{all_written}
use Rattle.link_db_buckets.proofs.Running.{or_none, run_own}
use Rattle.link_db_buckets.proofs.Whole.{grown_definitions, grown_labels, grown_overridden, whole_grown, whole_keyed}
use Rattle.link_db_buckets.proofs.buckets.Buckets.apply.Goals as goal

pub returns-clause-keyed : goal.returns-clause-keyed
returns-clause-keyed g c =
    let names = g.T.Names.key_at c.args.table.now in
    let olds = c.args.self.now.buckets.items in
    let run = c.apply_run.new.run in
    let lent = c.as_mut_slice-run in
    let all = c.args.self.now.buckets.ok.0 in
    let news = take c.args.self.now.buckets.len (run ++ drop (length run) olds) in
    on_both c.apply_run.result
    (on_ok_weaker c.apply_run.result (λ grown. let all_grown = whole_grown names c.len-count.result (joined c.args.parts.now) olds lent.result.now news run (c.len-count.ensures ∙ all) lent.ensures.value (all_written _ run lent.result.now olds all lent.ensures.value grown.len) grown in whole_keyed names _ (length olds) (sym all_grown.len) (run_own names (length olds) 0 (joined c.args.parts.now) olds news all_grown)) c.apply_run.ensures.ok)
    (on_err_weaker c.apply_run.result (λ grown. let all_grown = whole_grown names c.len-count.result [] olds lent.result.now news run (c.len-count.ensures ∙ all) lent.ensures.value (all_written _ run lent.result.now olds all lent.ensures.value grown.len) grown in whole_keyed names _ (length olds) (sym all_grown.len) (run_own names (length olds) 0 [] olds news all_grown)) c.apply_run.ensures.err)

pub returns-clause-definitions : goal.returns-clause-definitions
returns-clause-definitions g c =
    let names = g.T.Names.key_at c.args.table.now in
    let olds = c.args.self.now.buckets.items in
    let run = c.apply_run.new.run in
    let lent = c.as_mut_slice-run in
    let all = c.args.self.now.buckets.ok.0 in
    let news = take c.args.self.now.buckets.len (run ++ drop (length run) olds) in
    on_ok_weaker c.apply_run.result (λ grown. grown_definitions names (joined c.args.parts.now) olds news (subst (λ n. 0 < n) all c.args.self.now.filled) (whole_grown names c.len-count.result (joined c.args.parts.now) olds lent.result.now news run (c.len-count.ensures ∙ all) lent.ensures.value (all_written _ run lent.result.now olds all lent.ensures.value grown.len) grown)) c.apply_run.ensures.ok

pub returns-clause-err : goal.returns-clause-err
returns-clause-err g c =
    let names = g.T.Names.key_at c.args.table.now in
    let olds = c.args.self.now.buckets.items in
    let run = c.apply_run.new.run in
    let lent = c.as_mut_slice-run in
    let all = c.args.self.now.buckets.ok.0 in
    let news = take c.args.self.now.buckets.len (run ++ drop (length run) olds) in
    on_err_weaker c.apply_run.result (λ grown asked. grown_definitions names [] olds news (subst (λ n. 0 < n) all c.args.self.now.filled) (whole_grown names c.len-count.result [] olds lent.result.now news run (c.len-count.ensures ∙ all) lent.ensures.value (all_written _ run lent.result.now olds all lent.ensures.value grown.len) grown) asked ∙ append-nil (asked_of (definitions_in names) [] olds asked)) c.apply_run.ensures.err

pub returns-clause-overridden : goal.returns-clause-overridden
returns-clause-overridden g c =
    let names = g.T.Names.key_at c.args.table.now in
    let olds = c.args.self.now.buckets.items in
    let run = c.apply_run.new.run in
    let lent = c.as_mut_slice-run in
    let all = c.args.self.now.buckets.ok.0 in
    let news = take c.args.self.now.buckets.len (run ++ drop (length run) olds) in
    on_both c.apply_run.result
    (on_ok_weaker c.apply_run.result (λ grown. grown_overridden names (joined c.args.parts.now) olds news (subst (λ n. 0 < n) all c.args.self.now.filled) (whole_grown names c.len-count.result (joined c.args.parts.now) olds lent.result.now news run (c.len-count.ensures ∙ all) lent.ensures.value (all_written _ run lent.result.now olds all lent.ensures.value grown.len) grown)) c.apply_run.ensures.ok)
    (on_err_weaker c.apply_run.result (λ grown. grown_overridden names [] olds news (subst (λ n. 0 < n) all c.args.self.now.filled) (whole_grown names c.len-count.result [] olds lent.result.now news run (c.len-count.ensures ∙ all) lent.ensures.value (all_written _ run lent.result.now olds all lent.ensures.value grown.len) grown)) c.apply_run.ensures.err)

pub returns-clause-labels : goal.returns-clause-labels
returns-clause-labels g c =
    let names = g.T.Names.key_at c.args.table.now in
    let olds = c.args.self.now.buckets.items in
    let run = c.apply_run.new.run in
    let lent = c.as_mut_slice-run in
    let all = c.args.self.now.buckets.ok.0 in
    let news = take c.args.self.now.buckets.len (run ++ drop (length run) olds) in
    on_ok_weaker c.apply_run.result (λ grown. grown_labels names (joined c.args.parts.now) olds news (subst (λ n. 0 < n) all c.args.self.now.filled) (whole_grown names c.len-count.result (joined c.args.parts.now) olds lent.result.now news run (c.len-count.ensures ∙ all) lent.ensures.value (all_written _ run lent.result.now olds all lent.ensures.value grown.len) grown)) c.apply_run.ensures.ok

pub returns-clause-labels_err : goal.returns-clause-labels_err
returns-clause-labels_err g c =
    let names = g.T.Names.key_at c.args.table.now in
    let olds = c.args.self.now.buckets.items in
    let run = c.apply_run.new.run in
    let lent = c.as_mut_slice-run in
    let all = c.args.self.now.buckets.ok.0 in
    let news = take c.args.self.now.buckets.len (run ++ drop (length run) olds) in
    on_err_weaker c.apply_run.result (λ grown asked. grown_labels names [] olds news (subst (λ n. 0 < n) all c.args.self.now.filled) (whole_grown names c.len-count.result [] olds lent.result.now news run (c.len-count.ensures ∙ all) lent.ensures.value (all_written _ run lent.result.now olds all lent.ensures.value grown.len) grown) asked ∙ or_none (asked_of (label_in names) None olds asked)) c.apply_run.ensures.err
