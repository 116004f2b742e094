-- How strict a visibility is.
use Rattle.std.specs.Prelude.{ℕ, nat_le, if◌then◌else◌}
use Rattle.link_flags.specs.declared.visibility.Visibility.{Visibility}
use Rattle.link_flags.specs.declared.visibility.Visibility.TheVariants.{Default, Protected, Hidden}

-- its rank, the least strict first
abbrev pub strictness : Visibility → ℕ
strictness Default = 0
strictness Protected = 1
strictness Hidden = 2

-- the stricter of two
abbrev pub strictest : Visibility → Visibility → Visibility
strictest a b = if nat_le (strictness a) (strictness b) then b else a
