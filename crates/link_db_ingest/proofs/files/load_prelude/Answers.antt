use Rattle.std.proofs.Common.{◌≡◌, ◌+◌, ◌++◌, ◌∷◌, [], ℕ, refl, sym, ap, ◌∙◌, arith}
use Rattle.link_input.specs.declared.internal_symbols.InternalSymDefInfo.{InternalSymDefInfo}
use Rattle.link_input.specs.Symbols.{in_prelude, symbol_of}
use Rattle.link_rules.specs.Opening.{opening_flags}
use Rattle.link_db_ingest.specs.Files.{numbers_of}
use Rattle.link_db_ingest.proofs.Steps.{next_definitions, next_flags, one_more, rest_is}
use Rattle.link_db_ingest.proofs.files.load_prelude.Goals as goal

pub loop-place-preserved : goal.loop-place-preserved
loop-place-preserved c =
    let x = c.definition-item.result in
    let symbol = λ (i : InternalSymDefInfo). symbol_of i.name (in_prelude i) in
    let items = c.symbols-definition-items.result.now in
    let i = c.loop-place.place in
    let before = c.loop-place.read in
    let at : c.from_usize-id.result ≡ 0 + i = omega (arith, c.from_usize-id.ensures) in
    let rest = rest_is items i x c.loop-place-test.true c.definition-item.is in
    record {
      definitions = next_definitions symbol items i x rest before.definitions.items _ _ 0 c.from_usize-id.result at
          (c.in_ok-add_symbol.ensures.definitions (symbol x) (sym c.as_slice.ensures) refl c.listing_of_definition-listing.ensures.plain c.listing_of_definition-listing.ensures.versioned)
          c.loop-place.invariant.definitions;
      flags = λ w. next_flags symbol items i x rest (opening_flags w) (numbers_of before.flags.items) _ _
          (c.in_ok-add_symbol.ensures.flags ∙ ap (λ (n : ℕ). numbers_of before.flags.items ++ n ∷ []) (c.flags_of_definition-flags.ensures w))
          (c.loop-place.invariant.flags w);
      count = omega (arith, one_more before.flags.items _ _ c.in_ok-add_symbol.ensures.flags, c.loop-place.invariant.count);
    }
