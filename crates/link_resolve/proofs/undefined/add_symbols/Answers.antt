use Rattle.std.proofs.Common.{[], ◌∷◌, ap, arith, length, length-append, subst, sym}
use Rattle.std.proofs.lemmas.List.{length-map}
use Rattle.link_db_files.proofs.Changing.{ends-kept}
use Rattle.link_db_files.specs.Adding.{EndsInSynthetic}
use Rattle.link_flags.specs.FlagBits as flag
use Rattle.link_flags.specs.FlagWords.{numbers_of, words_of}
use Rattle.link_flags.specs.declared.value_flags.RawFlags.{RawFlags}
use Rattle.link_db.specs.Database.{Database}
use Rattle.link_db.specs.Seen.{seen}
use Rattle.link_resolve.proofs.Making.{count-kept, made-symbol, whole-kept}
use Rattle.link_resolve.proofs.undefined.add_symbols.Goals as goal

-- a symbol more
pub loop-name-preserved : goal.loop-name-preserved
loop-name-preserved g c =
    let name = c.in-Some.name in
    let before = c.loop-name.invariant in
    let now = seen c.loop-name.db in
    let new = seen c.add_synthetic_symbol.new.self in
    let is = c.in_ok-add_synthetic_symbol.ensures.ok in
    let words = words_of c.loop-name.flags in
    record {
      made = made-symbol c.loop-name.yielded name (seen c.args.db.now) now new before.made is;
      count = omega (arith, before.count, count-kept name now new before.last is, length-append c.loop-name.yielded (name ∷ []));
      last = subst (λ (d : Database g.row.P.Denot). EndsInSynthetic d.mapping.files.groups) (sym is) (ends-kept now.mapping.files name before.last);
      table = whole-kept name now new before.last is before.table;
      flags = omega (
        arith,
        ap length c.in_ok-add_synthetic_symbol.ensures.flags,
        length-append (numbers_of words) (flag.non_interposable ∷ []),
        length-map words (λ (w : RawFlags). w.0),
        length-map (words_of c.add_synthetic_symbol.new.flags) (λ (w : RawFlags). w.0),
        count-kept name now new before.last is,
        before.flags,
      );
    }
