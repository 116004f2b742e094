use Rattle.std.proofs.Common.{refl}
use Rattle.std.specs.Str.{is_utf8, chars}
use Rattle.hex.proofs.OnLiterals.{hex_on_literals}
use Rattle.serde_json.proofs.OnLiterals.{serde_json_on_literals}
use Rattle.link_manifest.proofs.laws.read_batches.Goals as goal

pub returns : goal.returns
unfolding serde_json_on_literals hex_on_literals is_utf8 chars
returns c = record { batches = refl; unknown = refl; table = refl }
