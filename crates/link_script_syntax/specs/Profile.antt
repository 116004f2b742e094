-- Which byte ends a name or pattern. This is all that the profiles differ in.
use Rattle.std.specs.Prelude.{◌≡◌, ℕ, Bool, false, ◌==◌, ◌||◌, List, [], ◌∷◌}
use Rattle.link_script_syntax.specs.declared.profile.ScriptProfile.{ScriptProfile}
use Rattle.link_script_syntax.specs.declared.profile.ScriptProfile.TheVariants.{Wild, Lenient}
use Rattle.link_script_syntax.specs.declared.profile.TokenEnd.{TokenEnd}
use Rattle.link_script_syntax.specs.declared.profile.TokenEnd.TheVariants.{Semicolon, Brace, SemicolonOrBrace}

-- whether the byte is one that ends it
abbrev pub is_end : TokenEnd → ℕ → Bool
is_end Semicolon c = c == 59
is_end Brace c = c == 125
is_end SemicolonOrBrace c = c == 59 || c == 125

-- the test holds for none of the bytes
abbrev pub HoldsNowhere : (ℕ → Bool) → List ℕ → Type 0
HoldsNowhere test [] = Unit {0}
HoldsNowhere test (c ∷ bytes) = (test c ≡ false) × HoldsNowhere test bytes

-- none of the bytes ends it
abbrev pub IsUnended : TokenEnd → List ℕ → Type 0
IsUnended end bytes = HoldsNowhere (is_end end) bytes

-- what ends a name or pattern outside extern blocks: a semicolon, or, in the lenient profile, also a brace
abbrev pub token_end : ScriptProfile → TokenEnd
token_end Wild = Semicolon
token_end Lenient = SemicolonOrBrace
