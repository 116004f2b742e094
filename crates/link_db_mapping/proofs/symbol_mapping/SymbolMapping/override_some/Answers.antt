use Rattle.std.proofs.lemmas.Result.{on_ok_weaker}
use Rattle.link_db_mapping.specs.Seen.{seen}
use Rattle.link_db_mapping.proofs.Wraps.{both_map, name_maps, real_maps}
use Rattle.link_db_mapping.proofs.symbol_mapping.SymbolMapping.override_some.Goals as goal

pub returns-in-Some-Some-clause-ok : goal.returns-in-Some-Some-clause-ok
returns-in-Some-Some-clause-ok g c =
    let arm = c.in-Some-Some in
    on_ok_weaker c.override_both.result
    (λ told. both_map (seen c.args.self.now) (seen c.override_both.new.self) c.args.name c.args.real arm.wrapper arm.original c.args.wrapper c.args.original c.requires.apart arm.is-0 arm.is-1 told)
    c.override_both.ensures.ok

pub returns-in-Some-None-clause-ok : goal.returns-in-Some-None-clause-ok
returns-in-Some-None-clause-ok g c =
    let arm = c.in-Some-None in
    name_maps (seen c.args.self.now) (seen c.override_name.new.self) c.args.name c.args.real arm.wrapper c.args.wrapper c.args.original arm.is-0 arm.is-1 c.in_ok-_before-in-Some-None.ensures.ok

pub returns-in-None-Some-clause-ok : goal.returns-in-None-Some-clause-ok
returns-in-None-Some-clause-ok g c =
    let arm = c.in-None-Some in
    real_maps (seen c.args.self.now) (seen c.override_name-in-None-Some.new.self) c.args.name c.args.real arm.original c.args.wrapper c.args.original arm.is-0 arm.is-1 c.in_ok-_before-in-None-Some.ensures.ok
