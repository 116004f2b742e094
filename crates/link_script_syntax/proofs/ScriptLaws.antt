-- Whole scripts by their grammar, with their faults.
use Rattle.std.proofs.Common.{◌≡◌, ◌==◌, ℕ, Bool, true, false, cond, List, [], ◌∷◌, ◌++◌, length, Result, Ok, refl, sym, ap, subst, ◌∙◌, inl, inr, arith}
use Rattle.std.proofs.lemmas.Bool.{ne_eqb}
use Rattle.link_script_syntax.specs.declared.fault.Fault.{Fault}
use Rattle.link_script_syntax.specs.declared.fault.ScriptErrorKind.{ScriptErrorKind}
use Rattle.link_script_syntax.specs.declared.fault.ScriptErrorKind.TheVariants.{Syntax}
use Rattle.link_script_syntax.specs.declared.body.RawVersionBody.{RawVersionBody}
use Rattle.link_script_syntax.specs.declared.named.RawVersion.{RawVersion}
use Rattle.link_script_syntax.specs.declared.script.RawScript.{RawScript}
use Rattle.link_script_syntax.specs.declared.script.RawScript.TheVariants.{Anonymous, Named}
use Rattle.link_script_syntax.specs.declared.profile.ScriptProfile.{ScriptProfile}
use Rattle.link_script_syntax.specs.Fault.{◌>>=◌, refuse}
use Rattle.link_script_syntax.specs.Words.{open_word, semicolon_word}
use Rattle.link_script_syntax.specs.Blanks.{Skipped, Unclosed}
use Rattle.link_script_syntax.specs.Skip.{skip, strips, begins_with}
use Rattle.link_script_syntax.specs.Block.{or_else}
use Rattle.link_script_syntax.specs.Body.{body_at}
use Rattle.link_script_syntax.specs.Named.{versions_at}
use Rattle.link_script_syntax.specs.Script.{to_end, anonymous, script_at}
use Rattle.link_script_syntax.specs.Grammar.{NotHere, IsBody, IsVersionScript}
use Rattle.link_script_syntax.specs.Faults as faults
use Rattle.link_script_syntax.specs.Faults.{BodyFails, EndFails, ScriptFails}
use Rattle.link_script_syntax.proofs.Skipping.{skip_is, skip_fails, skip_or_not}
use Rattle.link_script_syntax.proofs.Places.{bind_is, bind_err, or_else_none, strips_none, word_or_not, no_test, begins_cons}
use Rattle.link_script_syntax.proofs.Judged.{Either, Judges}
use Rattle.link_script_syntax.proofs.BodyLaws.{body_judged}
use Rattle.link_script_syntax.proofs.NamedLaws.{versions_judged}

-- ---- the end of a text

abbrev only_end : {A : Type 0} → A → List ℕ → Result A Fault
only_end x rest = cond (length rest == 0) (Ok x) (refuse Syntax rest)

abbrev EndsHere : {A : Type 0} → A → List ℕ → A → Type 0
EndsHere x text y = (y ≡ x) × Skipped text []

more_fails : {A : Type 0} (x : A) (rest : List ℕ) → (rest ≡ [] → ⊥) → only_end x rest ≡ refuse Syntax rest
more_fails x [] some = absurd (some refl)
more_fails x (c ∷ rest) some = rw (ne_eqb (length (c ∷ rest)) 0 (λ e. omega arith)) refl

end_fails : {A : Type 0} (x : A) (text : List ℕ) (kind : ScriptErrorKind) (at : List ℕ) → EndFails text kind at → to_end x text ≡ refuse kind at
end_fails x text kind at (faults.comment at' u) = bind_err (skip text) (only_end x) (record { left = length at; kind = Syntax }) (skip_fails text at u)
end_fails x text kind at (faults.more at' s some) = bind_is (skip text) (only_end x) at (refuse Syntax at) (skip_is text at s) (more_fails x at some)

end_at : {A : Type 0} (x : A) (text here : List ℕ) → Skipped text here → Either (EndsHere x text) (EndFails text)
end_at x text [] s = inl (x, (refl, s))
end_at x text (c ∷ here) s = inr (Syntax, c ∷ here, faults.more (c ∷ here) s (λ is. cc))

end_either : {A : Type 0} (x : A) (text : List ℕ) → Either (EndsHere x text) (EndFails text)
end_either x text = elim (skip_or_not text) as (λ _. Either (EndsHere x text) (EndFails text)) [
  | inl s ↦ end_at x text s.0 s.1
  | inr u ↦ inr (Syntax, u.0, faults.comment u.0 u.1)
]

-- nothing follows, or the first thing that does is a fault
pub end_judged : {A : Type 0} (x : A) (text : List ℕ) → Judges (to_end x text) (λ y. (y ≡ x) × Skipped text []) (EndFails text)
end_judged {A} x text = record {
  values = λ y s. bind_is (skip text) (only_end x) [] (Ok y) (skip_is text [] s.1) (ap (λ (z : A). Ok z) (sym s.0));
  faults = end_fails x text;
  either = end_either x text;
}

-- ---- the anonymous form

abbrev behind_body : RawVersionBody × List ℕ → Result RawVersionBody Fault
behind_body b = or_else (strips semicolon_word b.1) (λ rest. to_end b.0 rest) (refuse Syntax b.1)

anonymous_by : (profile : ScriptProfile) (text there : List ℕ) (body : RawVersionBody) (r : Result RawVersionBody Fault) → IsBody profile text body there → behind_body (body, there) ≡ r → anonymous profile text ≡ r
unfolding anonymous
anonymous_by profile text there body r b is = bind_is (body_at profile text) behind_body (body, there) r ((body_judged profile text).values (body, there) b) is

anonymous_body : (profile : ScriptProfile) (text : List ℕ) (kind : ScriptErrorKind) (at : List ℕ) → BodyFails profile text kind at → anonymous profile text ≡ refuse kind at
unfolding anonymous
anonymous_body profile text kind at f = bind_err (body_at profile text) behind_body (record { left = length at; kind = kind }) ((body_judged profile text).faults kind at f)

anonymous_end : (profile : ScriptProfile) (text after : List ℕ) (body : RawVersionBody) (r : Result RawVersionBody Fault) → IsBody profile text body (semicolon_word ++ after) → to_end body after ≡ r → anonymous profile text ≡ r
anonymous_end profile text after body r b is =
    anonymous_by profile text (semicolon_word ++ after) body r b is

-- ---- whole scripts

abbrev as_anonymous : RawVersionBody → Result RawScript Fault
as_anonymous body = Ok (Anonymous body)

abbrev as_named : List RawVersion → Result RawScript Fault
as_named versions = Ok (Named versions)

abbrev either_form : ScriptProfile → List ℕ → Result RawScript Fault
either_form profile text = cond (begins_with text 123) (anonymous profile text >>= as_anonymous) (versions_at profile text >>= as_named)

begins_open : (here inside : List ℕ) → here ≡ open_word ++ inside → begins_with here 123 ≡ true
begins_open here inside is = ap (λ (t : List ℕ). begins_with t 123) is

begins_other : (here : List ℕ) → NotHere open_word here → begins_with here 123 ≡ false
begins_other here bare = no_test (begins_with here 123) (λ t. let k = begins_cons here 123 t in bare k.0 k.1)

script_unclosed : (profile : ScriptProfile) (text at : List ℕ) → Unclosed text at → script_at profile text ≡ refuse Syntax at
unfolding script_at
script_unclosed profile text at u = bind_err (skip text) (either_form profile) (record { left = length at; kind = Syntax }) (skip_fails text at u)

anonymous_script : (profile : ScriptProfile) (text here inside : List ℕ) → Skipped text here → here ≡ open_word ++ inside → script_at profile text ≡ (anonymous profile here >>= as_anonymous)
unfolding script_at
anonymous_script profile text here inside s is =
    bind_is (skip text) (either_form profile) here (anonymous profile here >>= as_anonymous) (skip_is text here s) (ap (λ (b : Bool). cond b (anonymous profile here >>= as_anonymous) (versions_at profile here >>= as_named)) (begins_open here inside is))

named_script : (profile : ScriptProfile) (text here : List ℕ) → Skipped text here → NotHere open_word here → script_at profile text ≡ (versions_at profile here >>= as_named)
unfolding script_at
named_script profile text here s bare =
    bind_is (skip text) (either_form profile) here (versions_at profile here >>= as_named) (skip_is text here s) (ap (λ (b : Bool). cond b (anonymous profile here >>= as_anonymous) (versions_at profile here >>= as_named)) (begins_other here bare))

script_only : (profile : ScriptProfile) (text : List ℕ) (raw : RawScript) → IsVersionScript profile text raw → script_at profile text ≡ Ok raw
script_only profile text (Anonymous body) x =
    anonymous_script profile text x.0 x.3.0 x.2 x.3.2
    ∙ bind_is (anonymous profile x.0) as_anonymous body (Ok (Anonymous body)) (anonymous_end profile x.0 x.1 body (Ok body) x.3 ((end_judged body x.1).values body (refl, x.4))) refl
script_only profile text (Named versions) x = named_script profile text x.0 x.1 x.2 ∙ bind_is (versions_at profile x.0) as_named versions (Ok (Named versions)) ((versions_judged profile x.0).values versions x.3) refl

script_fails : (profile : ScriptProfile) (text : List ℕ) (kind : ScriptErrorKind) (at : List ℕ) → ScriptFails profile text kind at → script_at profile text ≡ refuse kind at
script_fails profile text kind at (faults.comment at' u) = script_unclosed profile text at u
script_fails profile text kind at (faults.body inside at' kind' s f) =
    anonymous_script profile text (open_word ++ inside) inside s refl ∙ bind_err (anonymous profile (open_word ++ inside)) as_anonymous (record { left = length at; kind = kind }) (anonymous_body profile (open_word ++ inside) kind at f)
script_fails profile text kind at (faults.no_semicolon here at' body s b none) =
    anonymous_script profile text here b.0 s b.2
    ∙ bind_err (anonymous profile here) as_anonymous (record { left = length at; kind = Syntax })
    (anonymous_by profile here at body (refuse Syntax at) b (or_else_none (strips semicolon_word at) (λ rest. to_end body rest) (refuse Syntax at) (strips_none semicolon_word at none)))
script_fails profile text kind at (faults.behind here after at' kind' body s b f) =
    anonymous_script profile text here b.0 s b.2
    ∙ bind_err (anonymous profile here) as_anonymous (record { left = length at; kind = kind }) (anonymous_end profile here after body (refuse kind at) b ((end_judged body after).faults kind at f))
script_fails profile text kind at (faults.version here at' kind' versions s bare f) =
    named_script profile text here s bare ∙ bind_err (versions_at profile here) as_named (record { left = length at; kind = kind }) ((versions_judged profile here).faults kind at (versions, f))

-- ---- each text is a script or has a fault

after_either : (profile : ScriptProfile) (text here after : List ℕ) (body : RawVersionBody) → Skipped text here → IsBody profile here body (semicolon_word ++ after) → Either (IsVersionScript profile text) (ScriptFails profile text)
after_either profile text here after body s b = elim ((end_judged body after).either) as (λ _. Either (IsVersionScript profile text) (ScriptFails profile text)) [
  | inl e ↦ inl (Anonymous body, (here, after, s, b, e.1.1))
  | inr f ↦ inr (f.0, f.1, faults.behind here after f.1 f.0 body s b f.2)
]

behind_either : (profile : ScriptProfile) (text here there : List ℕ) (body : RawVersionBody) → Skipped text here → IsBody profile here body there → Either (IsVersionScript profile text) (ScriptFails profile text)
behind_either profile text here there body s b = elim (word_or_not semicolon_word there) as (λ _. Either (IsVersionScript profile text) (ScriptFails profile text)) [
  | inl after ↦ after_either profile text here after.0 body s (subst (λ (t : List ℕ). IsBody profile here body t) after.1 b)
  | inr none ↦ inr (Syntax, there, faults.no_semicolon here there body s b none)
]

anonymous_either : (profile : ScriptProfile) (text inside : List ℕ) → Skipped text (open_word ++ inside) → Either (IsVersionScript profile text) (ScriptFails profile text)
anonymous_either profile text inside s = elim ((body_judged profile (open_word ++ inside)).either) as (λ _. Either (IsVersionScript profile text) (ScriptFails profile text)) [
  | inl b ↦ behind_either profile text (open_word ++ inside) b.0.1 b.0.0 s b.1
  | inr f ↦ inr (f.0, f.1, faults.body inside f.1 f.0 s f.2)
]

named_either : (profile : ScriptProfile) (text here : List ℕ) → Skipped text here → NotHere open_word here → Either (IsVersionScript profile text) (ScriptFails profile text)
named_either profile text here s bare = elim ((versions_judged profile here).either) as (λ _. Either (IsVersionScript profile text) (ScriptFails profile text)) [
  | inl v ↦ inl (Named v.0, (here, s, bare, v.1))
  | inr f ↦ inr (f.0, f.1, faults.version here f.1 f.0 f.2.0 s bare f.2.1)
]

here_either : (profile : ScriptProfile) (text here : List ℕ) → Skipped text here → Either (IsVersionScript profile text) (ScriptFails profile text)
here_either profile text here s = elim (word_or_not open_word here) as (λ _. Either (IsVersionScript profile text) (ScriptFails profile text)) [
  | inl o ↦ anonymous_either profile text o.0 (subst (λ (t : List ℕ). Skipped text t) o.1 s)
  | inr bare ↦ named_either profile text here s bare
]

script_either : (profile : ScriptProfile) (text : List ℕ) → Either (IsVersionScript profile text) (ScriptFails profile text)
script_either profile text = elim (skip_or_not text) as (λ _. Either (IsVersionScript profile text) (ScriptFails profile text)) [
  | inl s ↦ here_either profile text s.0 s.1
  | inr u ↦ inr (Syntax, u.0, faults.comment u.0 u.1)
]

pub script_judged : (profile : ScriptProfile) (text : List ℕ) → Judges (script_at profile text) (IsVersionScript profile text) (ScriptFails profile text)
script_judged profile text = record {
  values = script_only profile text;
  faults = script_fails profile text;
  either = script_either profile text;
}
