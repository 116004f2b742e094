-- Versions, one after the other.
use Rattle.std.proofs.Common.{◌≡◌, ℕ, ◌<◌, List, [], ◌∷◌, ◌++◌, length, Some, None, Result, Ok, refl, sym, ◌∙◌, arith}
use Rattle.link_script_syntax.specs.declared.fault.ReadError.{ReadError}
use Rattle.link_script_syntax.specs.declared.fault.ReadError.TheVariants as errors
use Rattle.link_script_syntax.specs.declared.fault.Fault.{Fault}
use Rattle.link_script_syntax.specs.declared.named.RawVersion.{RawVersion}
use Rattle.link_script_syntax.specs.declared.profile.ScriptProfile.{ScriptProfile}
use Rattle.link_script_syntax.specs.Fault.{◌>>=◌, Fails}
use Rattle.link_script_syntax.specs.Many.{grow}
use Rattle.link_script_syntax.specs.Named.{named_at, version_turn, versions_only, versions_at}
use Rattle.link_script_syntax.proofs.Repeat.{grow_step, grow_fails, grow_ends}

turn_step : (profile : ScriptProfile) (front : List RawVersion) (rest after : List ℕ) (x : RawVersion) → named_at profile front rest ≡ Ok (x, after) → length after < length rest → version_turn profile front rest ≡ Ok (Some x, after)
turn_step profile front [] after x is lt = absurd (omega arith)
turn_step profile front (c ∷ rest) after x is lt = rw is refl

pub version_step : (profile : ScriptProfile) (front : List RawVersion) (rest after : List ℕ) (x : RawVersion) → named_at profile front rest ≡ Ok (x, after) → length after < length rest → grow (version_turn profile) front rest ≡ grow (version_turn profile) (front ++ x ∷ []) after
version_step profile front rest after x is lt = grow_step (version_turn profile) front rest after x (turn_step profile front rest after x is lt) lt

turn_fails : (profile : ScriptProfile) (e : ReadError) (front : List RawVersion) (rest : List ℕ) → (rest ≡ [] → ⊥) → Fails e (named_at profile front rest) → Fails e (version_turn profile front rest)
turn_fails profile e front [] more f = absurd (more refl)
turn_fails profile errors.Memory front (c ∷ rest) more f = tt
turn_fails profile (errors.Fault k) front (c ∷ rest) more f = rw f refl

only_fails : (e : ReadError) (r : Result (List RawVersion × List ℕ) Fault) → Fails e r → Fails e (r >>= versions_only)
only_fails errors.Memory r f = tt
only_fails (errors.Fault k) r f = rw f refl

pub versions_fail : (profile : ScriptProfile) (e : ReadError) (front : List RawVersion) (rest text : List ℕ) → (rest ≡ [] → ⊥) → grow (version_turn profile) front rest ≡ grow (version_turn profile) [] text → Fails e (named_at profile front rest) → Fails e (versions_at profile text)
unfolding versions_at
versions_fail profile e front rest text more so_far f = only_fails e (grow (version_turn profile) [] text) (rw (← so_far) (grow_fails (version_turn profile) e front rest (turn_fails profile e front rest more f)))

turn_ends : (profile : ScriptProfile) (front : List RawVersion) (rest : List ℕ) → rest ≡ [] → version_turn profile front rest ≡ Ok (None, [])
turn_ends profile front rest is = rw is refl

pub versions_end : (profile : ScriptProfile) (front : List RawVersion) (rest text : List ℕ) → rest ≡ [] → grow (version_turn profile) front rest ≡ grow (version_turn profile) [] text → versions_at profile text ≡ Ok front
unfolding versions_at
versions_end profile front rest text is so_far = rw (sym so_far ∙ grow_ends (version_turn profile) front rest [] (turn_ends profile front rest is)) refl
