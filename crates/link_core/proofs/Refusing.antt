-- Why a link is refused, and that it goes on.
use Rattle.std.proofs.Common.{◌≡◌, ◌∙◌, ◌⊎◌, Option, None, Some, MatchOption, Err, refl, sym, ap, subst, inl, inr}
use Rattle.std.specs.Option.{option_or}
use Rattle.link_rules.specs.declared.refusal.LinkError.{LinkError}
use Rattle.link_rules.specs.declared.refusal.LinkError.TheVariants.{Memory}
use Rattle.link_rules.specs.World.{World}
use Rattle.link_rules.specs.Selection.{Selection}
use Rattle.link_rules.specs.Undefined.{resolved}
use Rattle.link_rules.specs.Versions.{version_refusal}
use Rattle.link_rules.specs.Refusals.{duplicate_lines, late_refusal, text_refusal, unless_none}
use Rattle.link_rules.specs.Answer.{BatchesEnd, IsRefused, IsRefusedLate}
use Rattle.link_core.specs.Steps.{IsRefusedBehind, IsRefusedWith, Selects}

-- a text is the cause
pub refused-by-text : (w : World) (e : LinkError) → text_refusal w ≡ Some e → IsRefused w e
refused-by-text w e is = subst (λ (o : Option LinkError). MatchOption o (IsRefusedLate w e) (λ first. e ≡ first)) (sym is) refl

-- else what comes behind the texts
refused-late : (w : World) (e : LinkError) → text_refusal w ≡ None → IsRefusedLate w e → IsRefused w e
refused-late w e none late = subst (λ (o : Option LinkError). MatchOption o (IsRefusedLate w e) (λ first. e ≡ first)) (sym none) late

-- a batch is the cause
pub refused-by-batch : (w : World) (e : LinkError) → text_refusal w ≡ None → BatchesEnd w (Err e) → IsRefused w e
refused-by-batch w e none ends = refused-late w e none (inl ends)

-- what shows behind the batches is the cause
pub refused-behind : (w : World) (e : LinkError) → IsRefusedBehind w e → IsRefused w e
refused-behind w e behind = refused-late w e behind.1.texts (inr (behind.0, behind.1.ends, behind.2))

-- unless memory ran out
pub refused-with : (w : World) (e : LinkError) → IsRefusedWith w e → IsRefused w e ⊎ (e ≡ Memory)
refused-with w e (inl behind) = inl (refused-behind w e behind)
refused-with w e (inr memory) = inr memory

-- it may be duplicates
pub refused-by-duplicates : (w : World) (l : Selection) (e : LinkError) → Selects w l → unless_none (duplicate_lines l) ≡ Some e → IsRefusedBehind w e
refused-by-duplicates w l e selects is = (l, selects, ap (λ (o : Option LinkError). option_or o (option_or (version_refusal (resolved l)) None)) is)

-- or an undeclared version
pub refused-by-version : (w : World) (l : Selection) (e : LinkError) → Selects w l → unless_none (duplicate_lines l) ≡ None → version_refusal (resolved l) ≡ Some e → IsRefusedBehind w e
refused-by-version w l e selects none is =
    (l, selects, ap (λ (o : Option LinkError). option_or o (option_or (version_refusal (resolved l)) None)) none ∙ ap (λ (o : Option LinkError). option_or o None) is)

-- nothing is a cause at the end
pub goes-on : (l : Selection) → unless_none (duplicate_lines l) ≡ None → version_refusal (resolved l) ≡ None → late_refusal (resolved l) ≡ None
goes-on l none fine =
    ap (λ (o : Option LinkError). option_or o (option_or (version_refusal (resolved l)) None)) none ∙ ap (λ (o : Option LinkError). option_or o None) fine
