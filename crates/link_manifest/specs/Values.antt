-- Kinds of value of a manifest, and what a value of each stands for.
use Rattle.std.specs.Prelude.{ℕ, ◌^◌, ◌==◌, ◌&&◌, List, [], ◌∷◌, Bool, Option, Some, None, Result, codes, nat_le, nat_lt, option_map, option_and_then, if◌then◌else◌}
use Rattle.std.specs.Option.{option_or}
use Rattle.std.specs.Result.{result_ok}
use Rattle.std.specs.Str.{bytes_eq}
use Rattle.hex.specs.Hex.{decode_of}
use Rattle.serde_json.specs.Data.{Data, Members, no_members, member}
use Rattle.serde_json.specs.Find.{as_bool, as_number, as_object, as_str, as_u64}
use Rattle.link_input.specs.declared.symbol_entry.Place.{Place}
use Rattle.link_input.specs.declared.symbol_entry.Place.TheVariants.{Undefined, Absolute, Common, Section}
use Rattle.link_script_syntax.specs.declared.profile.ScriptProfile.{ScriptProfile}
use Rattle.link_script_syntax.specs.declared.profile.ScriptProfile.TheVariants.{Wild, Lenient}
use Rattle.link_names.specs.Names.{value_in}
use Rattle.link_manifest.specs.declared.fault.Kind.TheVariants as kind
use Rattle.link_manifest.specs.declared.fault.Problem.TheVariants.{Expected}
use Rattle.link_manifest.specs.declared.fault.ManifestFault.{ManifestFault}
use Rattle.link_manifest.specs.Reading.{read_or}

-- a JSON text
abbrev pub text_read : Data → Result (List ℕ) ManifestFault
text_read value = read_or (Expected kind.Text) (as_str value)

-- the text of the one key of an object, where that key is `hex`
abbrev pub hex_text : Members → Option (List ℕ)
hex_text no_members = None
hex_text (member key value no_members) = if bytes_eq key (codes "hex") then as_str value else None
hex_text (member _ _ (member _ _ _)) = None

-- the bytes that hexadecimal digits of either case spell, two for each byte
abbrev pub hex_bytes : List ℕ → Option (List ℕ)
hex_bytes digits = result_ok (decode_of digits)

-- the bytes of a JSON text, or those that the digits of an object with the one key `hex` spell
abbrev pub bytes_of : Data → Option (List ℕ)
bytes_of value = option_or (as_str value) (option_and_then hex_bytes (option_and_then hex_text (as_object value)))

abbrev pub bytes_read : Data → Result (List ℕ) ManifestFault
bytes_read value = read_or (Expected kind.Bytes) (bytes_of value)

-- `true` or `false`
abbrev pub bool_read : Data → Result Bool ManifestFault
bool_read value = read_or (Expected kind.Bool) (as_bool value)

-- a whole number without fraction or exponent, below 2 ^ 32
abbrev pub number_of : Data → Option ℕ
number_of value = option_and_then (λ n. if nat_lt n (2 ^ 32) then Some n else None) (option_and_then as_u64 (as_number value))

abbrev pub number_read : Data → Result ℕ ManifestFault
number_read value = read_or (Expected kind.Number) (number_of value)

-- a whole number without fraction or exponent, below 2 ^ 64: those of JSON have no more bits
abbrev pub size_of : Data → Option ℕ
size_of value = option_and_then as_u64 (as_number value)

abbrev pub size_read : Data → Result ℕ ManifestFault
size_read value = read_or (Expected kind.Number) (size_of value)

-- how many files may be one group: a number from 1 to 256
abbrev pub group_size_of : Data → Option ℕ
group_size_of value = option_and_then (λ n. if nat_le 1 n && nat_le n 256 then Some n else None) (number_of value)

abbrev pub group_size_read : Data → Result ℕ ManifestFault
group_size_read value = read_or (Expected kind.Number) (group_size_of value)

-- the number of a profile in which scripts are read: 1 is Wild's, 2 the lenient one
abbrev pub profile_numbered : ℕ → Option ScriptProfile
profile_numbered n = if n == 1 then Some Wild else (if n == 2 then Some Lenient else None)

abbrev pub profile_of : Data → Option ScriptProfile
profile_of value = option_and_then profile_numbered (number_of value)

abbrev pub profile_read : Data → Result ScriptProfile ManifestFault
profile_read value = read_or (Expected kind.Number) (profile_of value)

-- the words for places outside every section
abbrev pub place_words : List (List ℕ × Place)
place_words = (codes "undefined", Undefined) ∷ (codes "absolute", Absolute) ∷ (codes "common", Common) ∷ []

-- one of these words, or the number of a section
abbrev pub place_of : Option (List ℕ) → Option ℕ → Option Place
place_of (Some word) number = value_in place_words word
place_of None number = option_map (λ n. Section n) number

abbrev pub place_read : Data → Result Place ManifestFault
place_read value = read_or (Expected kind.Place) (place_of (as_str value) (number_of value))
