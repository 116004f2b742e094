use Rattle.std.proofs.Common.{◌≡◌, ℕ, ◌+◌, ◌∙◌, ap, sym, refl, drop, length, List, Some, slice_get}
use Rattle.std.specs.List.{flat_map}
use Rattle.std.proofs.lemmas.Option.{slice_get_read}
use Rattle.link_input.specs.InputFiles.{InputFile}
use Rattle.link_input.specs.SequencedFiles.{sequenced}
use Rattle.link_input_groups.specs.declared.counting.FileCounts.{FileCounts}
use Rattle.link_input_groups.specs.declared.group.Group.{Group}
use Rattle.link_input_groups.specs.FileCounts.{counts_in, plus}
use Rattle.link_input_groups.specs.Groups.{files_of}
use Rattle.link_input_groups.proofs.FileTotals.{counts-append, drop-at, plus-assoc, sequenced-parts, small-part}
use Rattle.link_input_groups.proofs.counting.counts_of_groups.Goals as goal

-- a group more is counted
counted-more : {P : Type 0} (counts all : FileCounts) (groups : List (Group P)) (k : ℕ) (x : Group P) → slice_get groups k ≡ Some x → plus counts (counts_in (flat_map files_of (drop k groups))) ≡ all → plus (plus counts (counts_in (files_of x))) (counts_in (flat_map files_of (drop (k + 1) groups))) ≡ all
counted-more counts all groups k x at counted =
    let rest = flat_map files_of (drop (k + 1) groups) in
    plus-assoc counts (counts_in (files_of x)) (counts_in rest) ∙ sym (ap (plus counts) (counts-append (files_of x) rest)) ∙ (rw (drop-at groups k x at) at counted)

-- the files of the group and those behind them have ids one after another
parts : {P : Type 0} (counts : FileCounts) (groups : List (Group P)) (k : ℕ) (x : Group P) (fs : List InputFile) → slice_get groups k ≡ Some x → flat_map files_of (drop k groups) ≡ sequenced counts.symbols counts.sections fs → ((own : List InputFile) × (files_of x ≡ sequenced counts.symbols counts.sections own)) × ((rest : List InputFile) × (flat_map files_of (drop (k + 1) groups) ≡ sequenced (plus counts (counts_in (files_of x))).symbols (plus counts (counts_in (files_of x))).sections rest))
parts counts groups k x fs at follow =
    sequenced-parts counts.symbols counts.sections (files_of x) (flat_map files_of (drop (k + 1) groups)) fs (rw (drop-at groups k x at) at follow)

pub counts_behind-counts-requires-clause-follow : goal.counts_behind-counts-requires-clause-follow
counts_behind-counts-requires-clause-follow g c =
    let groups = c.args.groups.now in
    let k = c.loop-group.group-index in
    let x = c.group-item.result in
    let at : slice_get groups k ≡ Some x = slice_get_read groups (length groups) k x refl c.loop-group-test.true c.group-item.is in
    (parts c.loop-group.counts groups k x c.loop-group.invariant.follow.0 at c.loop-group.invariant.follow.1).0

pub counts_behind-counts-requires-clause-small : goal.counts_behind-counts-requires-clause-small
counts_behind-counts-requires-clause-small g c =
    let groups = c.args.groups.now in
    let k = c.loop-group.group-index in
    let x = c.group-item.result in
    let at : slice_get groups k ≡ Some x = slice_get_read groups (length groups) k x refl c.loop-group-test.true c.group-item.is in
    let all = counts_in (flat_map files_of groups) in
    let more = counted-more c.loop-group.counts all groups k x at c.loop-group.invariant.counted in
    small-part (plus c.loop-group.counts (counts_in (files_of x))) (counts_in (flat_map files_of (drop (k + 1) groups))) all more c.requires.small

pub loop-group-preserved : goal.loop-group-preserved
loop-group-preserved g c =
    let groups = c.args.groups.now in
    let k = c.loop-group.group-index in
    let x = c.group-item.result in
    let at : slice_get groups k ≡ Some x = slice_get_read groups (length groups) k x refl c.loop-group-test.true c.group-item.is in
    let asked = rw (drop-at groups k x at) at c.loop-group.invariant.asked in
    record {
      asked = asked.1;
      follow = rw c.counts_behind-counts.ensures (parts c.loop-group.counts groups k x c.loop-group.invariant.follow.0 at c.loop-group.invariant.follow.1).1;
      counted = rw c.counts_behind-counts.ensures (counted-more c.loop-group.counts (counts_in (flat_map files_of groups)) groups k x at c.loop-group.invariant.counted);
    }
