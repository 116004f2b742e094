-- What a version script answers of a name is what its text says of it.
use Rattle.std.proofs.Common.{◌≡◌, ℕ, suc, List, [], ◌∷◌, Bool, true, false, Option, Some, None, Result, Ok, Err, inl, inr, sym, ap, ◌∙◌, arith}
use Rattle.std.specs.Prelude.{not}
use Rattle.std.proofs.lemmas.Bool.{cases_lt}
use Rattle.link_names.specs.Names.{has_name}
use Rattle.link_script_syntax.specs.declared.body.Side.{Side}
use Rattle.link_script_syntax.specs.declared.named.RawVersion.{RawVersion}
use Rattle.link_script_syntax.specs.declared.script.RawScript.{RawScript}
use Rattle.link_script_syntax.specs.declared.script.RawScript.TheVariants.{Anonymous, Named}
use Rattle.link_script_syntax.specs.Named.{raw_names}
use Rattle.link_script.specs.declared.rust_form.RustVersionScript.{RustVersionScript}
use Rattle.link_script.specs.Lookup.{Asked}
use Rattle.link_script.specs.Rank.{filters_in, IsBest}
use Rattle.link_script.specs.Regular.{unnamed}
use Rattle.link_script.specs.Script.{versions_in, of_rust_form, IsRustOf, IsVersionBy, VersionBy}
use Rattle.link_script.specs.VersionOf.{Undeclared, matched, is_local_match, IsLastNamed, IsVersionOf}
use Rattle.link_script.proofs.RustForm.{hides_the_rest}
use Rattle.link_rules.specs.Places.{Bytes}
use Rattle.link_rules.specs.Matching.{rank, is_local_by, version_by}
use Rattle.link_rules.proofs.Matched.{best, one-best, version-by}

-- one of two places of a name is the last
one_last : (names : List Bytes) (name : Bytes) (m n : ℕ) → IsLastNamed names name m → IsLastNamed names name n → m ≡ n
one_last names name m n a b = elim (cases_lt m n) [
  | inl less ↦ absurd (a.1 n less b.0)
  | inr le ↦ elim (cases_lt n m) [
    | inl less ↦ absurd (b.1 m less a.0)
    | inr ge ↦ omega arith
  ]
]

-- a name has one version
one_of : (raws : List RawVersion) (a : Asked) (explicit : Option Bytes) (r q : Result (Option ℕ) Undeclared)
    → IsVersionOf (filters_in raws) (raw_names raws) a explicit r → IsVersionOf (filters_in raws) (raw_names raws) a explicit q → r ≡ q
one_of raws a None (Ok v) (Ok w) h k =
    ap (λ (o : Option ℕ). Ok o) (h.2 ∙ ap matched (one-best raws a h.0 h.1 ∙ sym (one-best raws a k.0 k.1)) ∙ sym k.2)
one_of raws a None (Ok v) (Err e) h k = absurd k
one_of raws a None (Err e) q h k = absurd h
one_of raws a (Some []) (Ok v) (Ok w) h k = ap (λ (o : Option ℕ). Ok o) (h ∙ sym k)
one_of raws a (Some []) (Ok v) (Err e) h k = absurd k
one_of raws a (Some []) (Err e) q h k = absurd h
one_of raws a (Some (c ∷ version)) (Ok v) (Ok w) h k =
    let same : h.0 ≡ k.0 = one_last (raw_names raws) (c ∷ version) h.0 k.0 h.1 k.1 in
    ap (λ (o : Option ℕ). Ok o) (h.2 ∙ ap (λ (n : ℕ). Some (suc n)) same ∙ sym k.2)
one_of raws a (Some (c ∷ version)) (Ok v) (Err e) h k = absurd (k.0 h.0 h.1.0)
one_of raws a (Some (c ∷ version)) (Err e) (Ok w) h k = absurd (h.0 k.0 k.1.0)
one_of raws a (Some (c ∷ version)) (Err e) (Err f) h k = ap (λ (u : Undeclared). Err u) (h.1 ∙ sym k.1)

-- so it has by a script of either form
one_by : (is_rust : Bool) (raw : RawScript) (a : Asked) (explicit : Option Bytes) (r q : Result (Option ℕ) Undeclared)
    → VersionBy is_rust raw a explicit r → VersionBy is_rust raw a explicit q → r ≡ q
one_by true raw a explicit r q h k = h ∙ sym k
one_by false raw a explicit r q h k = one_of (versions_in raw) a explicit r q h k

-- the version by a script's text is the one that is computed
pub one-version : (raw : RawScript) (a : Asked) (explicit : Option Bytes) (r : Result (Option ℕ) Undeclared) → IsVersionBy raw a explicit r
    → r ≡ version_by raw a explicit
one-version raw a explicit r h = one_by (of_rust_form raw) raw a explicit r (version_by raw a explicit) h (version-by raw a explicit)

-- whether the best of all matches is local
pub local_is : (raw : RawScript) (a : Asked) (answer : Bool) (r : Option (ℕ × Side)) → IsBest (filters_in (versions_in raw)) a r
    → answer ≡ is_local_match r → answer ≡ is_local_by raw a
local_is raw a answer r is same = same ∙ ap is_local_match (one-best (versions_in raw) a r is)

-- a script of the Rust form makes local what it doesn't list
pub rust_local_is : (raw : RawScript) (script : RustVersionScript) (a : Asked) → IsRustOf raw script
    → not (has_name script.global a.bytes) ≡ is_local_by raw a
rust_local_is (Anonymous body) script a is =
    ap (λ (names : List Bytes). not (has_name names a.bytes)) is.1
    ∙ sym (hides_the_rest body a (rank (unnamed body ∷ []) a) is.0 (best (unnamed body ∷ []) a))
rust_local_is (Named versions) script a is = absurd is
