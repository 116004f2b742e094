-- Scripts of versions: number 0 is the base version, which has no name.
use Rattle.std.specs.Prelude.{ℕ, List, [], None, nat_lt, if◌then◌else◌, length, count_by, is_some}
use Rattle.link_script_syntax.specs.declared.body.RawVersionBody.{RawVersionBody}
use Rattle.link_script_syntax.specs.declared.named.RawVersion.{RawVersion}
use Rattle.link_script.specs.declared.rules.Version.{Version}

-- a base version with the entries of this body
abbrev pub unnamed : RawVersionBody → RawVersion
unnamed body = record { name = []; parent_index = None; body = body }

-- the base version of a script of named versions, without entries
abbrev pub base : RawVersion
base = unnamed (record { globals = []; locals = [] })

-- how many versions a script counts: none where there is only the base
abbrev pub counted : List Version → ℕ
counted versions = if nat_lt (length versions) 2 then 0 else length versions

-- how many versions have a parent
abbrev pub parents : List Version → ℕ
parents versions = count_by (λ (v : Version). is_some v.parent_index) versions
