use Rattle.std.proofs.Common.{arith, length, subst, sym}
use Rattle.link_db_buckets.proofs.Releasing.{all_written}
use Rattle.link_db_mapping.specs.Mapped.{AreHeadsMarked}
use Rattle.link_db_mapping.specs.Seen.{seen}
use Rattle.link_db_mapping.specs.Tables.{key_at}
use Rattle.link_db_mapping.proofs.Unmarked.{heads-marked}
use Rattle.link_db_mapping.proofs.symbol_mapping.SymbolMapping.heads_of_several.Goals as goal

pub returns : goal.returns
returns g c =
    let m = c.args.self.now in
    let marks = c.in_ok-marks.marks in
    let new = c.mark_firsts.new.marks in
    let written = all_written marks.len new c.deref_mut.result.now marks.items marks.ok.0 c.deref_mut.ensures.value c.mark_firsts.auto.marks in
    subst (AreHeadsMarked (seen m)) (sym written)
    (heads-marked (seen m) new (λ key. c.mark_firsts.ensures.marked (key_at m.tables.files m.tables.overridden.items) key)
    (omega (arith, c.mark_firsts.auto.marks, c.deref_mut.ensures.len, c.in_ok-marks.ensures.len, c.num_symbols.ensures.value)))
