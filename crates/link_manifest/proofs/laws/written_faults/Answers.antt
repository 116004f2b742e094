use Rattle.std.proofs.Common.{refl}
use Rattle.std.specs.Fmt.{digits}
use Rattle.std.specs.Str.{is_utf8, chars}
use lib.Utf8.{encode}
use Rattle.link_manifest.proofs.laws.written_faults.Goals as goal

pub returns : goal.returns
unfolding is_utf8 chars digits encode
returns c = record { root = refl; value = refl; table = refl }
