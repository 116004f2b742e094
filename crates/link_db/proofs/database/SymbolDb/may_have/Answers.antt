use Rattle.std.proofs.Common.{◌≡◌, Option, None, Some, false}
use Rattle.link_db_buckets.specs.Keys.{hash_of}
use Rattle.link_db_mapping.specs.Keys.{plain_key, versioned_key}
use Rattle.link_rules.specs.Places.{Bytes}
use Rattle.link_rules.specs.Targets.{mapped_in}
use Rattle.link_db.specs.Database.{name_table_of}
use Rattle.link_db.specs.Seen.{seen}
use Rattle.link_db.proofs.database.SymbolDb.may_have.Goals as goal

-- neither is a plain name mapped, nor one with a version
pub returns : goal.returns
returns g c = λ none. by none
  where
    by : c.may_have.result ≡ false → (name : Bytes) (version : Option Bytes) → hash_of (record { name = name; version = version }) ≡ c.args.hash
        → mapped_in (name_table_of (seen c.args.self.now)) name version ≡ None
    by none name None same = c.may_have.ensures none (plain_key name) same
    by none name (Some version) same = c.may_have.ensures none (versioned_key name version) same
