use Rattle.std.proofs.lemmas.List.{nil_from_length}
use Rattle.std.proofs.lemmas.Result.{on_ok_weaker}
use Rattle.link_db_files.specs.Numbered.{CanBeHeld}
use Rattle.link_db_files.specs.Starts.{starts_of}
use Rattle.link_db_files.proofs.Batches.{held-more, none-added}
use Rattle.link_db_files.proofs.files.Files.add_groups.Goals as goal

-- groups of a link's batches can be held
pub append_groups-requires : goal.append_groups-requires
append_groups-requires g c = λ held. held-more c.args.self.now (starts_of c.args.self.now.groups) c.args.groups.items held c.requires

pub returns-clause-none : goal.returns-clause-none
returns-clause-none g c =
    let before = c.args.self.now in
    on_ok_weaker c.append_groups.result (λ (held : CanBeHeld before). nil_from_length before.added (none-added before (starts_of before.groups) c.args.groups.items held c.requires)) c.append_groups.ensures.held
