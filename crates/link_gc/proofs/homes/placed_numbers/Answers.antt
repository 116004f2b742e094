use Rattle.std.proofs.Common.{◌∙◌, ◌++◌, List, append-nil, ap, map, sym}
use Rattle.link_db_files.specs.GroupFiles.{symbols_in}
use Rattle.link_input.specs.Symbols.{Symbol}
use Rattle.link_gc.specs.Numbering.{placed_number}
use Rattle.link_gc.proofs.Placed.{below-more, mapped-more}
use Rattle.link_gc.proofs.homes.placed_numbers.Goals as goal

-- one symbol more
pub loop-symbol-preserved : goal.loop-symbol-preserved
loop-symbol-preserved g c =
    let steps = c.in-Some.ensures.steps in
    let old = c.loop-symbol.placed.items in
    let new = c.push.new.self.items in
    record {
      numbers = λ s are.
          mapped-more (λ (x : Symbol). placed_number s x.origin) old new (map (λ (x : Symbol). placed_number s x.origin) (symbols_in c.args.files.now.groups)) c.in-Some.symbol c.placed_number.result
          c.loop-symbol.symbol-iterator.left c.next.new.self.left steps.1.0 (c.placed_number.ensures.number s are) c.in_ok-push.ensures.items (c.loop-symbol.invariant.numbers s are);
      within = below-more c.args.numbers.now.count old new c.placed_number.result c.in_ok-push.ensures.items c.placed_number.ensures.within c.loop-symbol.invariant.within;
    }

-- no symbol is left
pub returns-clause-numbers : goal.returns-clause-numbers
returns-clause-numbers g c = λ s are.
    let placed = c.loop-symbol.placed.items in
    sym (append-nil placed) ∙ (ap (λ (xs : List Symbol). placed ++ map (λ (x : Symbol). placed_number s x.origin) xs) (sym c.in-None.ensures.steps.0) ∙ c.loop-symbol.invariant.numbers s are)
