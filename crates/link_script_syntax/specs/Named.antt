-- Named versions.
use Rattle.std.specs.Prelude.{◌≡◌, ℕ, suc, Bool, ◌==◌, ◌||◌, not, if◌then◌else◌, List, [], ◌∷◌, map, length, take, drop, position, Option, Some, None, Result, Ok}
use Rattle.std.specs.Str.{bytes_eq}
use Rattle.link_script_syntax.specs.declared.named.RawVersion.{RawVersion}
use Rattle.link_script_syntax.specs.declared.fault.Fault.{Fault}
use Rattle.link_script_syntax.specs.declared.fault.ScriptErrorKind.TheVariants.{Syntax, UnknownParentVersion, TooManyVersions}
use Rattle.link_script_syntax.specs.declared.profile.ScriptProfile.{ScriptProfile}
use Rattle.link_script_syntax.specs.Fault.{◌>>=◌, refuse}
use Rattle.link_script_syntax.specs.Skip.{skip}
use Rattle.link_script_syntax.specs.Many.{grow}
use Rattle.link_names.specs.Names.{value_in}
use Rattle.link_script_syntax.specs.Body.{body_at}

-- not a space, tab, LF, parenthesis or brace
abbrev pub is_name_byte : ℕ → Bool
is_name_byte c = not (c == 32 || c == 9 || c == 10 || c == 40 || c == 41 || c == 123 || c == 125)

-- how many bytes of a name stand in front
abbrev pub name_len : List ℕ → ℕ
name_len [] = 0
name_len (c ∷ rest) = if is_name_byte c then suc (name_len rest) else 0

-- the number of the first version of this name, where the first in the list has number n
abbrev pub number_of : ℕ → List RawVersion → List ℕ → Option ℕ
number_of n [] name = None
number_of n (v ∷ versions) name = if bytes_eq v.name name then Some n else number_of (suc n) versions name

-- the numbers are those of the versions' names
abbrev pub AreNumbers : List RawVersion → List (List ℕ × ℕ) → Type 0
AreNumbers versions numbers = (name : List ℕ) → value_in numbers name ≡ number_of 1 versions name

-- the names of versions
abbrev pub raw_names : List RawVersion → List (List ℕ)
raw_names raws = map (λ (raw : RawVersion). raw.name) raws

-- behind the first byte
abbrev pub without_first : List ℕ → List ℕ
without_first [] = []
without_first (c ∷ rest) = rest

-- the parent of this number, if there is a version of its name
abbrev pub parent_known : Option ℕ → List ℕ → List ℕ → Result (Option ℕ × List ℕ) Fault
parent_known None text rest = refuse UnknownParentVersion text
parent_known (Some n) text rest = Ok (Some n, rest)

-- the parent that ends at the place of the first semicolon
abbrev pub parent_ended : List RawVersion → List ℕ → Option ℕ → Result (Option ℕ × List ℕ) Fault
parent_ended versions text None = refuse Syntax text
parent_ended versions text (Some end) =
    if end == 0 then Ok (None, without_first (drop end text)) else parent_known (number_of 1 versions (take end text)) text (without_first (drop end text))

-- up to a semicolon: nothing, or the name of an earlier version
unfoldable pub parent_at : List RawVersion → List ℕ → Result (Option ℕ × List ℕ) Fault
parent_at versions text = parent_ended versions text (position (λ c. c == 59) text)

-- how many named versions there may be
abbrev pub most_versions : ℕ
most_versions = 32766

-- a name, a body and a parent, where these versions are in front
unfoldable pub named_at : ScriptProfile → List RawVersion → List ℕ → Result (RawVersion × List ℕ) Fault
named_at profile versions text =
    if name_len text == 0 then refuse Syntax text else
    (if length versions == most_versions then refuse TooManyVersions text else
    (skip (drop (name_len text) text) >>= λ rest. body_at profile rest >>= λ b. parent_at versions b.1 >>= λ p. skip p.1 >>= λ rest.
    Ok (record { name = take (name_len text) text; parent_index = p.0; body = b.0 }, rest)))

-- one version more
abbrev pub as_item : RawVersion × List ℕ → Result (Option RawVersion × List ℕ) Fault
as_item x = Ok (Some x.0, x.1)

-- the next version, or the end of the text
abbrev pub version_turn : ScriptProfile → List RawVersion → List ℕ → Result (Option RawVersion × List ℕ) Fault
version_turn profile front [] = Ok (None, [])
version_turn profile front (c ∷ text) = named_at profile front (c ∷ text) >>= as_item

-- the versions without the text behind them, which is empty
abbrev pub versions_only : List RawVersion × List ℕ → Result (List RawVersion) Fault
versions_only x = Ok x.0

-- all versions up to the end of the text
unfoldable pub versions_at : ScriptProfile → List ℕ → Result (List RawVersion) Fault
versions_at profile text = grow (version_turn profile) [] text >>= versions_only
