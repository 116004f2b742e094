use Rattle.std.proofs.Common.{◌≡◌, ◌++◌, ◌∷◌, ◌∙◌, [], List, ℕ, length, set, get_or, refl}
use Rattle.std.proofs.Math.Seq.{set-append_seam, get_or-append_seam}
use Rattle.link_input.specs.declared.internal_symbols.InternalSymDefInfo.{InternalSymDefInfo}
use Rattle.link_input.proofs.builder.InternalSymbolsBuilder.add_symbol.Goals as goal

-- the list after the push, with another last definition
seam : (after before now : List InternalSymDefInfo) (def : InternalSymDefInfo) (at : ℕ) → after ≡ before ++ def ∷ [] → at ≡ length before → before ≡ now → (w : InternalSymDefInfo) → set after at w ≡ now ++ w ∷ []
seam after before now def at pushed is same w = rw (pushed, is, ← same) (set-append_seam before def [] w)

-- the last definition after the push
last : (after before : List InternalSymDefInfo) (def d : InternalSymDefInfo) (at : ℕ) → after ≡ before ++ def ∷ [] → at ≡ length before → get_or after at d ≡ def
last after before def d at pushed is = rw (pushed, is) (get_or-append_seam before def [] d)

pub returns : goal.returns
returns c =
    let before = c.self.inside.definitions.items in
    let is = c.len-index.ensures ∙ c.self.inside.definitions.ok.0 in (
      (refl, (λ w ok. seam c.push.new.self.items before c.args.self.now c.args.definition c.len-index.result c.in_ok-push.ensures.items is c.self.view_is w), tt),
      record { writes_back = tt; value = c.index_mut.ensures.value ∙ last c.push.new.self.items before c.args.definition c.index_mut.result.now c.len-index.result c.in_ok-push.ensures.items is },
    )
