use Rattle.std.proofs.Common.{◌≡◌, ◌+◌, ◌<◌, ◌++◌, ◌∙◌, ℕ, List, [], ◌∷◌, All, length, sym, ap, subst, arith, length-append}
use Rattle.link_db_files.specs.HeldFiles.{HeldFiles, names_in}
use Rattle.link_db_files.proofs.Changing.{names-kept}
use Rattle.link_db_mapping.specs.Seen as names
use Rattle.link_db.specs.Seen.{seen}
use Rattle.link_db.specs.Synthetic.{with_listed_symbol}
use Rattle.link_db.proofs.Ids.{grown-within}
use Rattle.link_db.proofs.SameMapping.{same-mapped}
use Rattle.link_db.proofs.database.SymbolDb.add_synthetic_symbol.Goals as goal

-- the table has an entry more
pub invariant_of-self-in_default : goal.invariant_of-self-in_default
invariant_of-self-in_default g c =
    let files = (seen c.args.self.now).mapping.files in
    let n = length (names_in files) in
    let sound = c.args.self.now.sound in
    let total : length (names_in (names.seen c.add_synthetic_symbol.new.self).files) ≡ n + 1 =
    omega (
      arith,
      ap (λ (f : HeldFiles g.row.P.Denot). length (names_in f)) c.in_default.ensures.files,
      ap (λ (l : List (List ℕ)). length l) (names-kept files c.args.name c.requires.last),
      length-append (names_in files) (c.args.name ∷ []),
    ) in
    let id : c.next_symbol_id-id.result ≡ n = c.next_symbol_id-id.ensures ∙ ap (λ (f : HeldFiles g.row.P.Denot). length (names_in f)) c.files.ensures in
    let rows : c.push.new.self.items ≡ c.args.self.now.table.items ++ n ∷ [] = c.in_ok-push.ensures.items ∙ ap (λ (k : ℕ). c.args.self.now.table.items ++ k ∷ []) id in
    record {
      sound = record {
        some = sound.some;
        few = sound.few;
        some_files = sound.some_files;
        few_files = sound.few_files;
        within = subst (λ (k : ℕ). All (λ e. e < k) c.push.new.self.items) (sym total)
            (subst (λ (xs : List ℕ). All (λ e. e < n + 1) xs) (sym rows) (grown-within n 1 c.args.self.now.table.items sound.within));
      };
    }

pub returns-clause-ok : goal.returns-clause-ok
returns-clause-ok g c =
    let db = seen c.args.self.now in
    let n = length (names_in db.mapping.files) in
    let id : c.next_symbol_id-id.result ≡ n = c.next_symbol_id-id.ensures ∙ ap (λ (f : HeldFiles g.row.P.Denot). length (names_in f)) c.files.ensures in
    let rows : c.push.new.self.items ≡ db.table ++ n ∷ [] = c.in_ok-push.ensures.items ∙ ap (λ (k : ℕ). db.table ++ k ∷ []) id in
    let mapped : names.seen c.add_synthetic_symbol.new.self ≡ with_listed_symbol c.args.name n db.mapping =
    same-mapped (names.seen c.add_synthetic_symbol.new.self) (with_listed_symbol c.args.name n db.mapping) c.in_default.ensures.files c.in_default.ensures.lists c.in_default.ensures.overridden in
    λ i. record db { mapping = mapped i; table = rows i }
