-- What is collected of the names that undefined references ask for.
use Rattle.std.proofs.Common.{◌≡◌, ◌+◌, ◌*◌, ◌<◌, ◌≤◌, ◌∙◌, ℕ, List, All, length, map, option_map, position, ap, subst, sym, arith}
use Rattle.link_input.specs.Symbols.{Symbol}
use Rattle.link_rules.specs.Places.{Bytes}
use Rattle.link_rules.specs.Undefined.{Numbered, asks_same, boundary_makers, last_alike, new_symbol}
use Rattle.link_rules.specs.World.{Stage}
use Rattle.link_resolve_undefined.specs.declared.name_ids.NameIds.{NameIds}
use Rattle.link_resolve_undefined.specs.Asked.{IsStageOf}
use Rattle.link_resolve_undefined.specs.Boundaries.{makers_by, makes_new}
use Rattle.link_resolve_undefined.specs.NameIds.{Answers}
use Rattle.link_resolve_undefined.specs.Records.{AreSome, numbered_at}
use Rattle.link_resolve_undefined.proofs.Alike.{makers-same}
use Rattle.link_resolve_undefined.proofs.Fewer.{few-makers}
use Rattle.link_resolve_undefined.proofs.Numbering.{AreAt, filter-at, ids-inside, numbered-are, numbered-at, reverse-at}

module _ (symbols : List Symbol) (left : List ℕ) (sections : List Bytes) (last : NameIds) where
  made-at : AreAt symbols (makers_by sections last (numbered_at symbols left))
  made-at =
      let makes = λ (u : Numbered). makes_new sections last u.1.name u.1.version u.0 in
      reverse-at symbols _ (filter-at symbols makes (numbered_at symbols left) (numbered-are symbols left))

  -- makers are ids of symbols
  pub makers-inside : (makers : List ℕ) → makers ≡ map (λ (u : Numbered). u.0) (makers_by sections last (numbered_at symbols left)) → All (λ s. s < length symbols) makers
  makers-inside makers is = subst (All (λ s. s < length symbols)) (sym is) (ids-inside symbols (makers_by sections last (numbered_at symbols left)) made-at)

  -- ids for the new symbols are left
  pub makers-fit : (makers : List ℕ) (first high : ℕ) → makers ≡ map (λ (u : Numbered). u.0) (makers_by sections last (numbered_at symbols left)) → AreSome symbols left
      → first + 2 * length sections ≤ high → first + length makers ≤ high
  makers-fit makers first high is some fits = omega (arith, ap length is, few-makers symbols left last sections some.rising, fits)

  module _ (w : Stage) (stage : IsStageOf symbols sections w) (answers : Answers last (last_alike (numbered_at symbols left))) where
    -- the makers are those of the stage
    pub makers-are : makers_by sections last (numbered_at symbols left) ≡ boundary_makers w (numbered_at symbols left)
    makers-are = (λ i. makers_by (sym stage.sections_are i) last (numbered_at symbols left)) ∙ makers-same w (numbered_at symbols left) last answers

    -- the new symbols are those of the stage
    pub made-are : (first : ℕ) (makers : List ℕ) (x : Symbol) → first ≡ length symbols → makers ≡ map (λ (u : Numbered). u.0) (makers_by sections last (numbered_at symbols left))
        → option_map (λ i. first + i) (position (λ (m : Numbered). asks_same m.1 x) (numbered_at symbols makers)) ≡ new_symbol w (boundary_makers w (numbered_at symbols left)) x
    made-are first makers x is made =
        let found : numbered_at symbols makers ≡ boundary_makers w (numbered_at symbols left) =
        ap (numbered_at symbols) made ∙ (numbered-at symbols (makers_by sections last (numbered_at symbols left)) made-at ∙ makers-are) in
        let from : first ≡ length w.symbols = is ∙ ap length (sym stage.symbols_are) in
        (λ i. option_map (λ k. from i + k) (position (λ (m : Numbered). asks_same m.1 x) (found i)))
