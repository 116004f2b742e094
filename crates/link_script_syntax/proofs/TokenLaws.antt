-- Names and patterns by their grammar, with their faults.
use Rattle.std.proofs.Common.{◌≡◌, ℕ, ◌-◌, ◌<◌, ◌==◌, Bool, true, false, cond, List, [], ◌∷◌, ◌++◌, length, take, drop, Option, Some, None, Result, Ok, Err, refl, sym, ap, subst, ◌∙◌, ◌⊎◌, inl, inr, arith}
use Rattle.std.specs.Prelude.{position, not, IfOk}
use Rattle.std.specs.List.{prefix_len}
use Rattle.std.proofs.lemmas.Bool.{eqb-true, eqb-false, eq-eqb, ne_eqb, lt-ltb, le-ltb}
use Rattle.std.proofs.lemmas.List.{length-append, take_at, drop_at}
use Rattle.link_glob.specs.declared.fault.GlobError.{GlobError}
use Rattle.link_glob.specs.declared.fault.GlobError.TheVariants as globs
use Rattle.link_glob.specs.declared.analyze.GlobPatternType.{GlobPatternType}
use Rattle.link_glob.specs.declared.analyze.GlobPatternType.TheVariants as types
use Rattle.link_glob.specs.declared.compile.Dialect.{Dialect}
use Rattle.link_glob.specs.declared.compile.Dialect.TheVariants.{Gnu}
use Rattle.link_glob.specs.Glob.{GlobToken}
use Rattle.link_glob.specs.Analyze.{pattern_type}
use Rattle.link_glob.specs.Compile.{or_invalid, glob_of}
use Rattle.link_script_syntax.specs.declared.fault.ReadError.{ReadError}
use Rattle.link_script_syntax.specs.declared.fault.Fault.{Fault}
use Rattle.link_script_syntax.specs.declared.fault.ScriptErrorKind.{ScriptErrorKind}
use Rattle.link_script_syntax.specs.declared.fault.ScriptErrorKind.TheVariants.{Syntax, InvalidUtf8String, InvalidGlobPattern}
use Rattle.link_script_syntax.specs.declared.matcher.SymbolMatcher.{SymbolMatcher}
use Rattle.link_script_syntax.specs.declared.matcher.SymbolMatcher.TheVariants.{Exact, StarGlob, NonstarGlob, MatchesAll}
use Rattle.link_script_syntax.specs.declared.profile.TokenEnd.{TokenEnd}
use Rattle.link_script_syntax.specs.Fault.{◌>>=◌, refuse, Gives}
use Rattle.link_script_syntax.specs.Profile.{is_end, HoldsNowhere, IsUnended}
use Rattle.link_script_syntax.specs.Token.{is_quoted, is_star, glob_from, glob_at, matcher_by, matcher_of, token_ended, token_at, trimmed, after_semicolon, Without, IsToken}
use Rattle.link_script_syntax.specs.Faults.{IsGlobFault, IsBadPattern, TokenFails, endless, empty, bad_pattern}
use Rattle.link_script_syntax.proofs.Places.{is_or}
use Rattle.link_script_syntax.proofs.Judged.{Either, Judges, found}

-- ---- the first byte for which a test holds

place_in : (test : ℕ → Bool) (bytes : List ℕ) (stop : ℕ) (after : List ℕ) → HoldsNowhere test bytes → test stop ≡ true → prefix_len (λ c. not (test c)) (bytes ++ stop ∷ after) ≡ length bytes
place_in test [] stop after w ends = rw ends refl
place_in test (c ∷ bytes) stop after w ends = rw (w.0, place_in test bytes stop after w.1 ends) (omega arith)

place_by : (test : ℕ → Bool) (bytes : List ℕ) (stop : ℕ) (after : List ℕ) → HoldsNowhere test bytes → test stop ≡ true → position test (bytes ++ stop ∷ after) ≡ Some (length bytes)
place_by test bytes stop after w ends = rw (place_in test bytes stop after w ends, lt-ltb (length bytes) (length (bytes ++ stop ∷ after)) (omega (arith, length-append bytes (stop ∷ after)))) refl

all_in : (test : ℕ → Bool) (text : List ℕ) → HoldsNowhere test text → prefix_len (λ c. not (test c)) text ≡ length text
all_in test [] w = refl
all_in test (c ∷ text) w = rw (w.0, all_in test text w.1) (omega arith)

no_place_by : (test : ℕ → Bool) (text : List ℕ) → HoldsNowhere test text → position test text ≡ None
no_place_by test text w = rw (all_in test text w, le-ltb (length text) (length text) (omega arith)) refl

abbrev HoldsAt : (ℕ → Bool) → List ℕ → Type 0
HoldsAt test text = (bytes : List ℕ) × (stop : ℕ) × (after : List ℕ) × (text ≡ bytes ++ stop ∷ after) × HoldsNowhere test bytes × (test stop ≡ true)

holds_later : (test : ℕ → Bool) (c : ℕ) (text : List ℕ) → test c ≡ false → HoldsAt test text ⊎ HoldsNowhere test text → HoldsAt test (c ∷ text) ⊎ HoldsNowhere test (c ∷ text)
holds_later test c text other (inl s) = inl (c ∷ s.0, s.1, s.2, ap (λ (t : List ℕ). c ∷ t) s.3, (other, s.4), s.5)
holds_later test c text other (inr w) = inr (other, w)

holds_or_not : (test : ℕ → Bool) (text : List ℕ) → HoldsAt test text ⊎ HoldsNowhere test text
holds_or_not test [] = inr tt
holds_or_not test (c ∷ text) = elim (is_or (test c)) as (λ _. HoldsAt test (c ∷ text) ⊎ HoldsNowhere test (c ∷ text)) [
  | inl is ↦ inl ([], c, text, refl, tt, is)
  | inr other ↦ holds_later test c text other (holds_or_not test text)
]

-- ---- the first byte that is this one

without_test : (stop : ℕ) (bytes : List ℕ) → Without stop bytes → HoldsNowhere (λ c. c == stop) bytes
without_test stop [] w = tt
without_test stop (c ∷ bytes) w = (ne_eqb c stop w.0, without_test stop bytes w.1)

test_without : (stop : ℕ) (bytes : List ℕ) → HoldsNowhere (λ c. c == stop) bytes → Without stop bytes
test_without stop [] w = tt
test_without stop (c ∷ bytes) w = (eqb-false c stop w.0, test_without stop bytes w.1)

pub place_is : (stop : ℕ) (bytes after : List ℕ) → Without stop bytes → position (λ c. c == stop) (bytes ++ stop ∷ after) ≡ Some (length bytes)
place_is stop bytes after w = place_by (λ c. c == stop) bytes stop after (without_test stop bytes w) (eq-eqb stop stop refl)

pub no_place : (stop : ℕ) (text : List ℕ) → Without stop text → position (λ c. c == stop) text ≡ None
no_place stop text w = no_place_by (λ c. c == stop) text (without_test stop text w)

abbrev pub StopsAt : ℕ → List ℕ → Type 0
StopsAt stop text = (bytes after : List ℕ) × (text ≡ bytes ++ stop ∷ after) × Without stop bytes

pub stops_or_not : (stop : ℕ) (text : List ℕ) → StopsAt stop text ⊎ Without stop text
stops_or_not stop text = elim (holds_or_not (λ c. c == stop) text) as (λ _. StopsAt stop text ⊎ Without stop text) [
  | inl s ↦ inl (s.0, s.2, s.3 ∙ ap (λ (b : ℕ). s.0 ++ b ∷ s.2) (eqb-true s.1 stop s.5), test_without stop s.0 s.4)
  | inr w ↦ inr (test_without stop text w)
]

-- ---- what the bytes mean

never_by : (b : Bool) (o : Option (List GlobToken)) → cond b (or_invalid o) (Err globs.InvalidUtf8) ≡ Err globs.Memory → ⊥
never_by true None e = cc
never_by true (Some tokens) e = cc
never_by false o e = cc

-- compiling is not refused for want of memory
pub never_memory : (dialect : Dialect) (bytes : List ℕ) → glob_of dialect bytes ≡ Err globs.Memory → ⊥
unfolding glob_of
never_memory dialect bytes e = never_by _ _ e

pub glob_fails : (left : ℕ) (star : Bool) (glob : Result (List GlobToken) GlobError) (kind : ScriptErrorKind) → IsGlobFault glob kind → glob_from left star glob ≡ Err (record { left = left; kind = kind })
glob_fails left star (Ok tokens) kind f = absurd f
glob_fails left true (Err globs.InvalidUtf8) kind f = ap (λ (k : ScriptErrorKind). Err (record { left = left; kind = k })) (sym f)
glob_fails left false (Err globs.InvalidUtf8) kind f = ap (λ (k : ScriptErrorKind). Err (record { left = left; kind = k })) (sym f)
glob_fails left true (Err globs.InvalidGlob) kind f = ap (λ (k : ScriptErrorKind). Err (record { left = left; kind = k })) (sym f)
glob_fails left false (Err globs.InvalidGlob) kind f = ap (λ (k : ScriptErrorKind). Err (record { left = left; kind = k })) (sym f)
glob_fails left star (Err globs.Memory) kind f = absurd f

by_type : (left : ℕ) (bytes : List ℕ) (t : GlobPatternType) → is_quoted bytes ≡ false → is_star bytes ≡ false → pattern_type bytes ≡ t → matcher_of left bytes ≡ matcher_by left bytes t
unfolding matcher_of
by_type left bytes t unquoted not_all at = rw (unquoted, not_all, at) refl

by_glob : (left : ℕ) (bytes : List ℕ) (star : Bool) → glob_at left star bytes ≡ glob_from left star (glob_of Gnu bytes)
unfolding glob_at
by_glob left bytes star = refl

pub bad_fails : (left : ℕ) (bytes : List ℕ) (kind : ScriptErrorKind) → IsBadPattern bytes kind → matcher_of left bytes ≡ Err (record { left = left; kind = kind })
bad_fails left bytes kind bad = elim (bad.pattern) as (λ _. matcher_of left bytes ≡ Err (record { left = left; kind = kind })) [
  | inl star ↦ by_type left bytes types.Star bad.unquoted bad.not_all star ∙ by_glob left bytes true ∙ glob_fails left true (glob_of Gnu bytes) kind bad.fault
  | inr other ↦ by_type left bytes types.NonStar bad.unquoted bad.not_all other ∙ by_glob left bytes false ∙ glob_fails left false (glob_of Gnu bytes) kind bad.fault
]

abbrev pub MeantOrBad : ℕ → List ℕ → Type 0
MeantOrBad left bytes = ((m : SymbolMatcher) × (matcher_of left bytes ≡ Ok m)) ⊎ ((kind : ScriptErrorKind) × IsBadPattern bytes kind)

compiled_or_bad : (left : ℕ) (bytes : List ℕ) (star : Bool) (glob : Result (List GlobToken) GlobError) → is_quoted bytes ≡ false → is_star bytes ≡ false → (pattern_type bytes ≡ types.Star) ⊎ (pattern_type bytes ≡ types.NonStar)
    → matcher_of left bytes ≡ glob_from left star (glob_of Gnu bytes) → glob_of Gnu bytes ≡ glob → MeantOrBad left bytes
compiled_or_bad left bytes true (Ok tokens) unquoted not_all pattern is at = inl (StarGlob tokens, is ∙ ap (glob_from left true) at)
compiled_or_bad left bytes false (Ok tokens) unquoted not_all pattern is at = inl (NonstarGlob tokens, is ∙ ap (glob_from left false) at)
compiled_or_bad left bytes star (Err globs.InvalidUtf8) unquoted not_all pattern is at =
    inr (InvalidUtf8String, record { unquoted = unquoted; not_all = not_all; pattern = pattern; fault = subst (λ glob. IsGlobFault glob InvalidUtf8String) (sym at) refl })
compiled_or_bad left bytes star (Err globs.InvalidGlob) unquoted not_all pattern is at =
    inr (InvalidGlobPattern, record { unquoted = unquoted; not_all = not_all; pattern = pattern; fault = subst (λ glob. IsGlobFault glob InvalidGlobPattern) (sym at) refl })
compiled_or_bad left bytes star (Err globs.Memory) unquoted not_all pattern is at = absurd (never_memory Gnu bytes at)

typed_or_bad : (left : ℕ) (bytes : List ℕ) (t : GlobPatternType) → is_quoted bytes ≡ false → is_star bytes ≡ false → pattern_type bytes ≡ t → MeantOrBad left bytes
typed_or_bad left bytes types.Exact unquoted not_all at = inl (_, by_type left bytes types.Exact unquoted not_all at)
typed_or_bad left bytes types.EscapedExact unquoted not_all at = inl (_, by_type left bytes types.EscapedExact unquoted not_all at)
typed_or_bad left bytes types.Star unquoted not_all at = compiled_or_bad left bytes true (glob_of Gnu bytes) unquoted not_all (inl at) (by_type left bytes types.Star unquoted not_all at ∙ by_glob left bytes true) refl
typed_or_bad left bytes types.NonStar unquoted not_all at = compiled_or_bad left bytes false (glob_of Gnu bytes) unquoted not_all (inr at) (by_type left bytes types.NonStar unquoted not_all at ∙ by_glob left bytes false) refl

pub meant_or_bad : (left : ℕ) (bytes : List ℕ) → MeantOrBad left bytes
unfolding matcher_of
meant_or_bad left bytes = elim (is_or (is_quoted bytes)) as (λ _. MeantOrBad left bytes) [
  | inl quoted ↦ inl (Exact (take (length bytes - 2) (drop 1 bytes)), rw quoted refl)
  | inr unquoted ↦ elim (is_or (is_star bytes)) as (λ _. MeantOrBad left bytes) [
    | inl all ↦ inl (MatchesAll, rw (unquoted, all) refl)
    | inr not_all ↦ typed_or_bad left bytes (pattern_type bytes) unquoted not_all refl
  ]
]

-- ---- a token is read, and one that fails is refused

-- what the first byte that ends a token leaves to be read
token_by : (end : TokenEnd) (text bytes : List ℕ) (stop : ℕ) (after : List ℕ) (r : Result SymbolMatcher Fault) → text ≡ bytes ++ stop ∷ after → 0 < length bytes → IsUnended end bytes → is_end end stop ≡ true → matcher_of (length text) (trimmed bytes) ≡ r
    → token_at end text ≡ (r >>= λ m. Ok (m, after_semicolon (stop ∷ after)))
unfolding token_at
token_by end text bytes stop after r whole some plain ends means =
    let at : position (is_end end) text ≡ Some (length bytes) = ap (position (is_end end)) whole ∙ place_by (is_end end) bytes stop after plain ends in
    let front : take (length bytes) text ≡ bytes = ap (take (length bytes)) whole ∙ take_at bytes (stop ∷ after) (length bytes) refl in
    let back : drop (length bytes) text ≡ stop ∷ after = ap (drop (length bytes)) whole ∙ drop_at bytes (stop ∷ after) (length bytes) refl in
    ap (token_ended text) at ∙ rw (ne_eqb (length bytes) 0 (λ e. omega arith), front, back, means) refl

pub token_only : (end : TokenEnd) (text : List ℕ) (m : SymbolMatcher) (rest : List ℕ) → IsToken end text m rest → token_at end text ≡ Ok (m, rest)
token_only end text m rest t = token_by end text t.bytes t.stop t.after (Ok m) t.whole t.some t.plain t.ends t.means ∙ ap (λ (r : List ℕ). Ok (m, r)) (sym t.follows)

pub token_fails : (end : TokenEnd) (text : List ℕ) (kind : ScriptErrorKind) (at : List ℕ) → TokenFails end text kind at → token_at end text ≡ refuse kind at
unfolding token_at
token_fails end text kind at (endless never) = ap (token_ended text) (no_place_by (is_end end) text never)
token_fails end text kind at (empty stop after whole ends) = ap (token_ended text) (ap (position (is_end end)) whole ∙ place_by (is_end end) [] stop after tt ends)
token_fails end text kind at (bad_pattern bytes stop after kind' whole some plain ends bad) = token_by end text bytes stop after (refuse kind text) whole some plain ends (bad_fails (length text) (trimmed bytes) kind bad)

-- ---- each text begins with a token or fails as one

abbrev IsTokenHere : TokenEnd → List ℕ → SymbolMatcher × List ℕ → Type 0
IsTokenHere end text x = IsToken end text x.0 x.1

token_on : (end : TokenEnd) (text bytes : List ℕ) (stop : ℕ) (after : List ℕ) → text ≡ bytes ++ stop ∷ after → IsUnended end bytes → is_end end stop ≡ true → Either (IsTokenHere end text) (TokenFails end text)
token_on end text [] stop after whole plain ends = inr (Syntax, text, empty stop after whole ends)
token_on end text (c ∷ bytes) stop after whole plain ends = elim (meant_or_bad (length text) (trimmed (c ∷ bytes))) as (λ _. Either (IsTokenHere end text) (TokenFails end text)) [
  | inl m ↦ inl ((m.0, after_semicolon (stop ∷ after)), record { bytes = c ∷ bytes; stop = stop; after = after; whole = whole; some = omega arith; plain = plain; ends = ends; means = m.1; follows = refl })
  | inr bad ↦ inr (bad.0, text, bad_pattern (c ∷ bytes) stop after bad.0 whole (omega arith) plain ends bad.1)
]

token_either : (end : TokenEnd) (text : List ℕ) → Either (IsTokenHere end text) (TokenFails end text)
token_either end text = elim (holds_or_not (is_end end) text) as (λ _. Either (IsTokenHere end text) (TokenFails end text)) [
  | inl s ↦ token_on end text s.0 s.1 s.2 s.3 s.4 s.5
  | inr never ↦ inr (Syntax, text, endless never)
]

pub token_judged : (end : TokenEnd) (text : List ℕ) → Judges (token_at end text) (λ x. IsToken end text x.0 x.1) (TokenFails end text)
token_judged end text = record {
  values = λ x t. token_only end text x.0 x.1 t;
  faults = token_fails end text;
  either = token_either end text;
}

pub token_of_result : {X : Type 0} (value : X → SymbolMatcher) (behind : X → List ℕ) (end : TokenEnd) (text : List ℕ) (r : Result X ReadError) → Gives (λ x. (value x, behind x)) r (token_at end text) → IfOk r (λ x. IsToken end text (value x) (behind x))
token_of_result value behind end text (Ok x) g = found (token_at end text) (λ x. IsToken end text x.0 x.1) (TokenFails end text) (token_judged end text) (value x, behind x) g
token_of_result value behind end text (Err e) g = tt
