-- What a link of one batch is refused for before anything is loaded, by how many symbols there are.
use Rattle.std.proofs.Common.{◌≡◌, ◌∙◌, ℕ, Bool, Option, Some, None, length, refl, ap, false}
use Rattle.std.specs.Prelude.{is_some}
use Rattle.std.specs.Option.{option_or}
use Rattle.link_rules.specs.declared.refusal.LinkError.{LinkError}
use Rattle.link_rules.specs.Places.{Bytes}
use Rattle.link_rules.specs.Refusals.{linker_script_cause}
use Rattle.link_rules.specs.Rules.{PlatformRules}
use Rattle.link_rules.specs.World.{Given, first_stage, world_of}
use Rattle.link_check_texts.specs.Causes.{count_refusal, opening_refusal, options_refusal, refusal_with}

-- nothing behind a text changes whether one is given
some-or_none : (text : Option Bytes) → is_some (option_or text None) ≡ is_some text
some-or_none None = refl
some-or_none (Some t) = refl

-- the first of two, or a third, is the first of the three
or-assoc : (a b c : Option LinkError) → option_or (option_or a b) c ≡ option_or a (option_or b c)
or-assoc None b c = refl
or-assoc (Some e) b c = refl

-- all causes, in this order
pub opening-is : (platform : PlatformRules) (demangle : Bytes → Bytes) (given : Given) (n : ℕ) → length (first_stage (world_of platform demangle given)).symbols ≡ n
    → opening_refusal (world_of platform demangle given) ≡ refusal_with platform given.options given.texts given.first n
opening-is platform demangle given n many =
    ap (λ (b : Bool). opened b (length (first_stage (world_of platform demangle given)).symbols)) (some-or_none given.texts.version_script)
    ∙ (ap (λ (k : ℕ). opened (is_some given.texts.version_script) k) many
    ∙ ap (option_or (options_refusal platform given.options given.texts))
    (or-assoc (linker_script_cause given.options.script_profile false (is_some given.texts.version_script) 0 given.first.scripts) (count_refusal given.options given.first n) None))
  where
    opened : Bool → ℕ → Option LinkError
    opened taken k = option_or (options_refusal platform given.options given.texts)
        (option_or (option_or (linker_script_cause given.options.script_profile false taken 0 given.first.scripts) (count_refusal given.options given.first k)) None)
