use Rattle.std.proofs.Common.{◌∙◌, sym}
use Rattle.link_db_mapping.specs.Mapped.{mapping_of}
use Rattle.link_db.specs.Seen.{seen}
use Rattle.link_names.specs.Names.{value_in}
use Rattle.link_resolve_explanation.specs.Heads.{known_first}
use Rattle.link_resolve_explanation.proofs.Naming.{listed-first}
use Rattle.link_resolve_explanation.proofs.heads.plain_head.Goals as goal

pub returns-then-is_listed : goal.returns-then-is_listed
returns-then-is_listed g c =
    listed-first (known_first (mapping_of (seen c.args.db.now).mapping) (value_in c.args.noted.now)) c.args.symbol.now c.as_slice.result.now c.known_first.result
    c.known_first.ensures (c.as_slice.ensures ∙ c.name.ensures) (sym c.is_listed.ensures ∙ c.if-is_listed.true)
