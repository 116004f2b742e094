use Rattle.std.proofs.Common.{◌≡◌, ◌+◌, ◌++◌, ◌∷◌, [], ℕ, Bool, Some, sym, subst, arith}
use Rattle.std.specs.Prelude.{slice_get}
use Rattle.link_ids.specs.Span.{offset_in}
use Rattle.link_input.specs.Symbols.{object_symbol}
use Rattle.link_rules.specs.Opening.{opening_flags}
use Rattle.link_db_ingest.specs.Definitions.{definitions_by}
use Rattle.link_db_ingest.specs.Files.{entry_symbol, numbers_of}
use Rattle.link_db_ingest.proofs.Steps.{next_definitions, next_flags, rest_at}
use Rattle.link_db_ingest.proofs.loader.SymbolLoader.load_symbols.Goals as goal

pub loop-offset-preserved : goal.loop-offset-preserved
loop-offset-preserved g c =
    let o = c.args.object.now.parsed in
    let es = o.object.symbols in
    let i = c.loop-offset.offset in
    let id = c.offset_to_id-id.result in
    let e = c.symbol_row-row.result in
    let before = c.loop-offset.read in
    let ids = c.args.object.now.symbol_id_range in
    let at : id ≡ ids.start + i = c.offset_to_id-id.ensures.value in
    let back : offset_in ids id ≡ i = omega (arith, at) in
    let rest = rest_at es i e (subst (λ (n : ℕ). slice_get es n ≡ Some e) back c.symbol_row-row.ensures) in
    record {
      definitions = next_definitions (object_symbol 0 o) es i e rest before.definitions.items _ _ ids.start id at
          (subst (λ (shared : Bool). c.load_symbol.new.read.definitions.items ≡ before.definitions.items ++ definitions_by id (entry_symbol shared e))
          (sym c.requires.kind) c.in_ok-load_symbol.ensures.definitions)
          c.loop-offset.invariant.definitions;
      flags = λ w reads. next_flags (object_symbol 0 o) es i e rest (opening_flags w) (numbers_of before.flags.items) _ _
          (subst (λ (shared : Bool). numbers_of c.load_symbol.new.read.flags.items ≡ numbers_of before.flags.items ++ opening_flags w (entry_symbol shared e) ∷ [])
          (sym c.requires.kind) (c.in_ok-load_symbol.ensures.flags w reads))
          (c.loop-offset.invariant.flags w reads);
      count = omega (arith, c.in_ok-load_symbol.ensures.count, c.loop-offset.invariant.count);
    }
