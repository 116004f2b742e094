use Rattle.std.proofs.Common.{◌∙◌, ◌++◌, ◌<◌, drop, length, subst, sym, take}
use Rattle.link_db_buckets.specs.Runs.{joined}
use Rattle.link_db_buckets.proofs.Releasing.{all_written}
use Rattle.link_db_buckets.proofs.Running.{run_taken_own}
use Rattle.link_db_buckets.proofs.Whole.{taken_definitions, taken_labels, taken_overridden, whole_keyed, whole_taken}
use Rattle.link_db_buckets.proofs.buckets.Buckets.undo.Goals as goal

pub returns-clause-keyed : goal.returns-clause-keyed
returns-clause-keyed g c =
    let names = g.T.Names.key_at c.args.table.now in
    let olds = c.args.self.now.buckets.items in
    let run = c.undo_parts.new.run in
    let lent = c.as_mut_slice-run in
    let all = c.args.self.now.buckets.ok.0 in
    let news = take c.args.self.now.buckets.len (run ++ drop (length run) olds) in
    let taken = whole_taken names c.len-count.result (joined c.args.parts.now) olds lent.result.now news run (c.len-count.ensures ∙ all) lent.ensures.value (all_written _ run lent.result.now olds all lent.ensures.value c.undo_parts.ensures.len) c.undo_parts.ensures in
    whole_keyed names _ (length olds) (sym taken.len) (run_taken_own names (length olds) 0 (joined c.args.parts.now) olds news taken)

pub returns-clause-definitions : goal.returns-clause-definitions
returns-clause-definitions g c =
    let names = g.T.Names.key_at c.args.table.now in
    let olds = c.args.self.now.buckets.items in
    let run = c.undo_parts.new.run in
    let lent = c.as_mut_slice-run in
    let all = c.args.self.now.buckets.ok.0 in
    let news = take c.args.self.now.buckets.len (run ++ drop (length run) olds) in
    let taken = whole_taken names c.len-count.result (joined c.args.parts.now) olds lent.result.now news run (c.len-count.ensures ∙ all) lent.ensures.value (all_written _ run lent.result.now olds all lent.ensures.value c.undo_parts.ensures.len) c.undo_parts.ensures in
    taken_definitions names (joined c.args.parts.now) olds news (subst (λ n. 0 < n) all c.args.self.now.filled) taken

pub returns-clause-overridden : goal.returns-clause-overridden
returns-clause-overridden g c =
    let names = g.T.Names.key_at c.args.table.now in
    let olds = c.args.self.now.buckets.items in
    let run = c.undo_parts.new.run in
    let lent = c.as_mut_slice-run in
    let all = c.args.self.now.buckets.ok.0 in
    let news = take c.args.self.now.buckets.len (run ++ drop (length run) olds) in
    let taken = whole_taken names c.len-count.result (joined c.args.parts.now) olds lent.result.now news run (c.len-count.ensures ∙ all) lent.ensures.value (all_written _ run lent.result.now olds all lent.ensures.value c.undo_parts.ensures.len) c.undo_parts.ensures in
    taken_overridden names (joined c.args.parts.now) olds news (subst (λ n. 0 < n) all c.args.self.now.filled) taken

pub returns-clause-labels : goal.returns-clause-labels
returns-clause-labels g c =
    let names = g.T.Names.key_at c.args.table.now in
    let olds = c.args.self.now.buckets.items in
    let run = c.undo_parts.new.run in
    let lent = c.as_mut_slice-run in
    let all = c.args.self.now.buckets.ok.0 in
    let news = take c.args.self.now.buckets.len (run ++ drop (length run) olds) in
    let taken = whole_taken names c.len-count.result (joined c.args.parts.now) olds lent.result.now news run (c.len-count.ensures ∙ all) lent.ensures.value (all_written _ run lent.result.now olds all lent.ensures.value c.undo_parts.ensures.len) c.undo_parts.ensures in
    taken_labels names (joined c.args.parts.now) olds news (subst (λ n. 0 < n) all c.args.self.now.filled) taken
