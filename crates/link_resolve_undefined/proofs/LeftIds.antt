-- The ids of the references that stay undefined.
use Rattle.std.proofs.Common.{◌≡◌, ◌∙◌, ℕ, Bool, List, Option, ap, map, sym, subst}
use Rattle.std.specs.List.{enumerate_from}
use Rattle.link_input.specs.Symbols.{Symbol}
use Rattle.link_rules.specs.Selection.{Selection}
use Rattle.link_rules.specs.Undefined.{Numbered, left_undefined}
use Rattle.link_resolve_undefined.specs.Records.{AreSome, TellsOf, numbered_at}
use Rattle.link_resolve_undefined.specs.Remaining.{held_by, remaining_from, stays_in}
use Rattle.link_resolve_undefined.proofs.Missing.{remaining-left}
use Rattle.link_resolve_undefined.proofs.Numbering.{all-at, filter-at, numbered-at, some-filtered}

module _ (symbols : List Symbol) (marks held : List Bool) (targets : List (Option ℕ)) (ids : List ℕ) where
  -- they are those of the selection
  pub left-ids : held ≡ held_by marks symbols → ids ≡ map (λ (u : Numbered). u.0) (remaining_from marks held targets 0 symbols)
      → (l : Selection) → TellsOf symbols marks targets l → ids ≡ map (λ (u : Numbered). u.0) (left_undefined l)
  left-ids told is l tells =
      is ∙ ((λ i. map (λ (u : Numbered). u.0) (remaining_from marks (told i) targets 0 symbols)) ∙ ap (λ (us : List Numbered). map (λ (u : Numbered). u.0) us) (remaining-left symbols marks targets l tells))

  -- by these the references are found
  pub left-records : held ≡ held_by marks symbols → ids ≡ map (λ (u : Numbered). u.0) (remaining_from marks held targets 0 symbols)
      → (l : Selection) → TellsOf symbols marks targets l → numbered_at symbols ids ≡ left_undefined l
  left-records told is l tells =
      ap (numbered_at symbols) is
      ∙ (numbered-at symbols (remaining_from marks held targets 0 symbols) (filter-at symbols (stays_in marks held targets) (enumerate_from 0 symbols) (all-at symbols))
      ∙ ((λ i. remaining_from marks (told i) targets 0 symbols) ∙ remaining-left symbols marks targets l tells))

  -- they rise
  pub left-some : ids ≡ map (λ (u : Numbered). u.0) (remaining_from marks held targets 0 symbols) → AreSome symbols ids
  left-some is = subst (AreSome symbols) (sym is) (some-filtered (stays_in marks held targets) symbols)
