-- Versions that are given to one symbol after another.
use Rattle.std.proofs.Common.{◌≡◌, ◌==◌, ◌&&◌, ◌+◌, ◌∙◌, ◌++◌, ℕ, Bool, true, false, not, List, ◌∷◌, Option, Some, None, Result, Ok, if◌then◌else◌, append_assoc, ap, is_none, is_some, option_map, option_to_list, refl, sym}
use Rattle.std.specs.List.{cons_option, enumerate_from, filter_map}
use Rattle.link_input.specs.declared.options.Options.{Options}
use Rattle.link_input.specs.Entries.{is_local}
use Rattle.link_input.specs.Outputs.{is_shared_object}
use Rattle.link_input.specs.Symbols.{Symbol, entry_passes}
use Rattle.link_rules.specs.declared.linked.GivenVersion.{GivenVersion}
use Rattle.link_rules.specs.declared.refusal.LinkError.{LinkError}
use Rattle.link_rules.specs.Places.{Bytes, first_of}
use Rattle.link_rules.specs.Rivals.{is_in_loaded_regular, two_steps}
use Rattle.link_rules.specs.Rules.{PlatformRules}
use Rattle.link_rules.specs.Selection.{Selection}
use Rattle.link_rules.specs.Undefined.{Numbered, Resolution, final_table, resolved}
use Rattle.link_rules.specs.Versions.{asks_version, given_version, undeclared_version, version_given}
use Rattle.link_rules.specs.World.{is_definition}
use Rattle.link_script.specs.VersionOf.{Undeclared}
use Rattle.link_db.specs.Database.{Database}
use Rattle.link_resolve.specs.Known.{Known}
use Rattle.link_resolve.specs.Settled.{IsEnded}

module _ (answer : Numbered → Result (Option ℕ) Undeclared) where
  -- the versions of these symbols
  abbrev pub given_from : ℕ → List Symbol → List GivenVersion
  given_from i xs = filter_map (λ (u : Numbered). given_version u.0 (answer u)) (enumerate_from i xs)

  -- the first cause among these symbols
  abbrev pub cause_from : ℕ → List Symbol → Option LinkError
  cause_from i xs = first_of (filter_map (λ (u : Numbered). undeclared_version (answer u)) (enumerate_from i xs))

  given-next : (i next s : ℕ) (x : Symbol) (left rest : List Symbol) → s ≡ i → left ≡ x ∷ rest → next ≡ i + 1
      → given_from i left ≡ cons_option (given_version s (answer (s, x))) (given_from next rest)
  given-next i next s x left rest id is more =
      ap (given_from i) is ∙ (λ j. cons_option (given_version (sym id j) (answer (sym id j, x))) (given_from (sym more j) rest))

  cause-next : (i next s : ℕ) (x : Symbol) (left rest : List Symbol) → s ≡ i → left ≡ x ∷ rest → next ≡ i + 1
      → cause_from i left ≡ first_of (cons_option (undeclared_version (answer (s, x))) (filter_map (λ (u : Numbered). undeclared_version (answer u)) (enumerate_from next rest)))
  cause-next i next s x left rest id is more =
      ap (cause_from i) is
      ∙ (λ j. first_of (cons_option (undeclared_version (answer (sym id j, x))) (filter_map (λ (u : Numbered). undeclared_version (answer u)) (enumerate_from (sym more j) rest))))

  listed : (o : Option GivenVersion) (vs : List GivenVersion) → option_to_list o ++ vs ≡ cons_option o vs
  listed None vs = refl
  listed (Some v) vs = refl

  -- a symbol that has this version, or none
  pub given-more : (i next s : ℕ) (x : Symbol) (left rest : List Symbol) (v : Option ℕ) (done new all : List GivenVersion) → s ≡ i → left ≡ x ∷ rest → next ≡ i + 1
      → answer (s, x) ≡ Ok v → new ≡ done ++ option_to_list (given_version s (Ok v)) → done ++ given_from i left ≡ all → new ++ given_from next rest ≡ all
  given-more i next s x left rest v done new all id is more ok pushed before =
      ap (λ (vs : List GivenVersion). vs ++ given_from next rest) pushed
      ∙ append_assoc done (option_to_list (given_version s (Ok v))) (given_from next rest)
      ∙ ap (λ (vs : List GivenVersion). done ++ vs)
      (listed (given_version s (Ok v)) (given_from next rest) ∙ sym (given-next i next s x left rest id is more ∙ (λ j. cons_option (given_version s (ok j)) (given_from next rest)))) ∙ before

  -- a symbol that brings no cause
  pub cause-none : (i next s : ℕ) (x : Symbol) (left rest : List Symbol) (v : Option ℕ) (cause : Option LinkError) → s ≡ i → left ≡ x ∷ rest → next ≡ i + 1
      → answer (s, x) ≡ Ok v → cause_from i left ≡ cause → cause_from next rest ≡ cause
  cause-none i next s x left rest v cause id is more ok before =
      sym (cause-next i next s x left rest id is more
      ∙ (λ j. first_of (cons_option (undeclared_version (ok j)) (filter_map (λ (u : Numbered). undeclared_version (answer u)) (enumerate_from next rest))))) ∙ before

  -- the first that brings one
  pub cause-first : (i next s : ℕ) (x : Symbol) (left rest : List Symbol) (error : LinkError) (cause : Option LinkError) → s ≡ i → left ≡ x ∷ rest → next ≡ i + 1
      → undeclared_version (answer (s, x)) ≡ Some error → cause_from i left ≡ cause → cause ≡ Some error
  cause-first i next s x left rest error cause id is more first before =
      sym before ∙ cause-next i next s x left rest id is more
      ∙ (λ j. first_of (cons_option (first j) (filter_map (λ (u : Numbered). undeclared_version (answer u)) (enumerate_from next rest))))

-- where there is none, there is none of it
pub none-told : {X Y : Type 0} (f : X → Y) (o : Option X) (b : Bool) → is_some o ≡ not b → b ≡ is_none (option_map f o)
none-told f None true told = refl
none-told f None false told = absurd (cc)
none-told f (Some x) true told = absurd (cc)
none-told f (Some x) false told = refl

joined : (p c d e f : Bool) → p && (c && d && e) && f ≡ p && c && d && e && f
joined true c d e f = refl
joined false c d e f = refl

-- a database at its end tells of which symbol the version script is asked
pub asks-is : {P : Type 0} (platform : PlatformRules) (demangle : Bytes → Bytes) (db : Database P) (known : Known) (l : Selection) (s : ℕ) (x : Symbol) (v m : Bool)
    → IsEnded platform demangle db known l → v ≡ is_shared_object db.options.output && is_none l.stage.rules.rust_names
    → m ≡ is_in_loaded_regular known.marks x.origin && is_definition x && not (entry_passes (λ e. is_local e.binding) x.origin)
    → v && m && (two_steps db.table s == s) ≡ asks_version (resolved l) (s, x)
asks-is platform demangle db known l s x v m is shared own =
    let regular = is_none l.stage.rules.rust_names in
    let defined = is_definition x in
    let global = not (entry_passes (λ e. is_local e.binding) x.origin) in
    let has : v ≡ is_shared_object l.stage.options.output && regular = shared ∙ ap (λ (o : Options). is_shared_object o.output && regular) (sym is.options) in
    let may : m ≡ is_in_loaded_regular l.marks x.origin && defined && global = own ∙ ap (λ (marks : List Bool). is_in_loaded_regular marks x.origin && defined && global) (sym is.marks) in
    (λ i. has i && may i && (two_steps (is.table i) s == s))
    ∙ joined (is_shared_object l.stage.options.output && regular) (is_in_loaded_regular l.marks x.origin) defined global (two_steps (final_table l) s == s)

-- what the version script answers, where it is asked
pub given-asked : (r : Resolution) (s : Numbered) → asks_version r s ≡ true → version_given r s ≡ r.selection.stage.rules.version_of s.1.name s.1.version
given-asked r s is = (λ i. if is i then r.selection.stage.rules.version_of s.1.name s.1.version else Ok None)

-- elsewhere there is none
pub given-unasked : (r : Resolution) (s : Numbered) → asks_version r s ≡ false → version_given r s ≡ Ok None
given-unasked r s is = (λ i. if is i then r.selection.stage.rules.version_of s.1.name s.1.version else Ok None)
