-- How the one mangled name reads.
use Rattle.std.specs.Prelude.{ℕ, List, codes, if◌then◌else◌}
use Rattle.std.specs.Str.{bytes_eq}

-- a name as it reads
abbrev pub read_name : List ℕ → List ℕ
read_name name = if bytes_eq name (codes "_RNvC1a3foo") then codes "a::foo" else name
