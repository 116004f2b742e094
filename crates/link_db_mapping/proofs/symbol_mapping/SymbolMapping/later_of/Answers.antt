use Rattle.std.proofs.Common.{◌<◌, ℕ, [], length, refl, subst, sym}
use Rattle.std.specs.Prelude.{All, option_map}
use Rattle.link_db_files.specs.HeldFiles.{names_in}
use Rattle.link_db_mapping.specs.Seen.{seen}
use Rattle.link_db_mapping.proofs.Telling.{all_behind, later_found}
use Rattle.link_db_mapping.proofs.symbol_mapping.SymbolMapping.later_of.Goals as goal

pub returns-in-Some-clause-value : goal.returns-in-Some-clause-value
returns-in-Some-clause-value g c =
    later_found (seen c.args.self.now) (option_map (λ v. v.now) c.args.version) c.args.id c.symbol_name-name.result c.as_slice-2.result.now c.in-Some.definitions.now c.behind.result.now c.symbol_name-name.ensures c.as_slice-2.ensures c.in-Some.ensures.value c.behind.ensures

pub returns-in-Some-clause-within : goal.returns-in-Some-clause-within
returns-in-Some-clause-within g c =
    let within = λ (id : ℕ). id < length (names_in c.args.self.now.tables.files) in
    subst (All within) (sym c.behind.ensures) (all_behind within c.args.id c.in-Some.definitions.now c.in-Some.ensures.within)

pub returns-in-None-clause-value : goal.returns-in-None-clause-value
returns-in-None-clause-value g c =
    later_found (seen c.args.self.now) (option_map (λ v. v.now) c.args.version) c.args.id c.symbol_name-name.result c.as_slice-2.result.now [] [] c.symbol_name-name.ensures c.as_slice-2.ensures c.in-None.ensures.value refl
