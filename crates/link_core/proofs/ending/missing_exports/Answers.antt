use Rattle.std.proofs.Common.{◌∙◌, List, ap}
use Rattle.std.specs.Prelude.{filter, is_none}
use Rattle.link_db_mapping.specs.Mapped.{mapping_of}
use Rattle.link_rules.specs.Places.{Bytes}
use Rattle.link_db.specs.Seen.{seen}
use Rattle.link_core.proofs.ending.missing_exports.Goals as goal

pub returns : goal.returns
returns g c = λ demangle rules are.
    c.in_ok-missing.ensures
    ∙ ap (λ (names : List Bytes). filter (λ name. is_none (mapping_of (seen c.args.db.now).mapping name)) names) (c.required_export_symbols.ensures demangle rules are)
