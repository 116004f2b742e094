use Rattle.std.proofs.Common.{refl}
use Rattle.std.specs.Str.{is_utf8, chars}
use Rattle.hex.proofs.OnLiterals.{hex_on_literals}
use Rattle.serde_json.proofs.OnLiterals.{serde_json_on_literals}
use Rattle.link_manifest.proofs.laws.read_claims.Goals as goal

pub returns : goal.returns
unfolding serde_json_on_literals hex_on_literals is_utf8 chars
returns c = record { none = refl; claim = refl; macho = refl; missing = refl; group = refl; behind_profile = refl; before_soname = refl }
