use Rattle.std.proofs.Common.{◌≡◌, ◌+◌, ◌-◌, length, arith}
use Rattle.link_input_groups.specs.Groups.{symbol_spans}
use Rattle.link_input_groups.proofs.Runs.{length-files, runs-cover}
use Rattle.link_input_groups.proofs.group.Group.symbol_id_range.Goals as goal

pub covering-requires : goal.covering-requires
covering-requires g c =
    let spans = symbol_spans c.args.self.now in
    let at : c.num_files.result - 1 + 1 ≡ length spans = omega (arith, c.num_files.ensures, length-files c.args.self.now, c.requires.some) in
    let end = runs-cover spans c.requires.runs c.symbol_ids_of-first.result c.symbol_ids_of-last.result (c.num_files.result - 1) at c.symbol_ids_of-first.ensures c.symbol_ids_of-last.ensures in
    omega (arith, end)

pub returns-clause-len : goal.returns-clause-len
returns-clause-len g c =
    let spans = symbol_spans c.args.self.now in
    let at : c.num_files.result - 1 + 1 ≡ length spans = omega (arith, c.num_files.ensures, length-files c.args.self.now, c.requires.some) in
    let end = runs-cover spans c.requires.runs c.symbol_ids_of-first.result c.symbol_ids_of-last.result (c.num_files.result - 1) at c.symbol_ids_of-first.ensures c.symbol_ids_of-last.ensures in
    omega (arith, end, c.covering.ensures.start, c.covering.ensures.end)
