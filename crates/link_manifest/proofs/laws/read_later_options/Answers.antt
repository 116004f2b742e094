use Rattle.std.proofs.Common.{refl}
use Rattle.std.specs.Str.{is_utf8, chars}
use Rattle.hex.proofs.OnLiterals.{hex_on_literals}
use Rattle.serde_json.proofs.OnLiterals.{serde_json_on_literals}
use Rattle.link_manifest.proofs.laws.read_later_options.Goals as goal

pub returns : goal.returns
unfolding serde_json_on_literals hex_on_literals is_utf8 chars
returns c = record { keys = refl; first_profile = refl; no_profile = refl; files_first = refl; profile_first = refl; soname = refl }
