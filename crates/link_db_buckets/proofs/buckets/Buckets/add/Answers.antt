use Rattle.std.proofs.Common.{◌≡◌, ◌++◌, ◌∷◌, [], refl, sym, true, Some, None, length}
use Rattle.std.proofs.lemmas.Option.{slice_get_read}
use Rattle.std.proofs.lemmas.Result.{on_ok_weaker, on_err_weaker}
use Rattle.std.specs.Option.{option_or}
use Rattle.link_db_buckets.specs.Bucket.{definitions_in, label_in, overridden_in}
use Rattle.link_db_buckets.specs.Keys.{Key, leads_to, hash_of}
use Rattle.link_db_buckets.proofs.Keys.{number_there}
use Rattle.link_db_buckets.proofs.Rounds.{asked_of-set, asked_of-same, keyed-set, settled-set}
use Rattle.link_db_buckets.proofs.buckets.Buckets.add.Goals as goal

pub returns-clause-keyed : goal.returns-clause-keyed
returns-clause-keyed g c =
    let names = g.T.Names.key_at c.args.table.now in
    let bs = c.args.self.now.buckets.items in
    let i = c.place_of-place.result in
    let b = c.index_mut-bucket.result.now in
    let is = slice_get_read bs (length bs) i b refl c.place_of-place.ensures.within c.index_mut-bucket.ensures.value in
    record {
      keyed = keyed-set names bs i c.add.new.self c.requires.keyed.keyed c.add.ensures.keyed;
      settled = settled-set bs c.args.hash i b c.add.new.self c.place_of-place.ensures.place is c.add.ensures.hashes c.requires.keyed.settled;
    }

pub returns-clause-definitions : goal.returns-clause-definitions
returns-clause-definitions g c =
    let names = g.T.Names.key_at c.args.table.now in
    let bs = c.args.self.now.buckets.items in
    let i = c.place_of-place.result in
    let b = c.index_mut-bucket.result.now in
    let is = slice_get_read bs (length bs) i b refl c.place_of-place.ensures.within c.index_mut-bucket.ensures.value in
    let only : (asked : Key) → leads_to names c.args.label asked ≡ true → hash_of asked ≡ c.args.hash = λ asked leads. sym (number_there names c.args.label asked c.args.hash c.requires.hashed leads) in
    on_ok_weaker c.add.result (λ changed. asked_of-set (definitions_in names) [] bs c.args.hash i b c.add.new.self (leads_to names c.args.label) (λ l. l ++ c.args.id ∷ []) c.place_of-place.ensures.place is only changed) c.add.ensures.definitions

pub returns-clause-err : goal.returns-clause-err
returns-clause-err g c =
    let names = g.T.Names.key_at c.args.table.now in
    let bs = c.args.self.now.buckets.items in
    let i = c.place_of-place.result in
    let b = c.index_mut-bucket.result.now in
    let is = slice_get_read bs (length bs) i b refl c.place_of-place.ensures.within c.index_mut-bucket.ensures.value in
    on_err_weaker c.add.result (λ same. asked_of-same (definitions_in names) [] bs i b c.add.new.self is same) c.add.ensures.err

pub returns-clause-overridden : goal.returns-clause-overridden
returns-clause-overridden g c =
    let names = g.T.Names.key_at c.args.table.now in
    let bs = c.args.self.now.buckets.items in
    let i = c.place_of-place.result in
    let b = c.index_mut-bucket.result.now in
    let is = slice_get_read bs (length bs) i b refl c.place_of-place.ensures.within c.index_mut-bucket.ensures.value in
    asked_of-same (overridden_in names) None bs i b c.add.new.self is c.add.ensures.overridden

pub returns-clause-labels : goal.returns-clause-labels
returns-clause-labels g c =
    let names = g.T.Names.key_at c.args.table.now in
    let bs = c.args.self.now.buckets.items in
    let i = c.place_of-place.result in
    let b = c.index_mut-bucket.result.now in
    let is = slice_get_read bs (length bs) i b refl c.place_of-place.ensures.within c.index_mut-bucket.ensures.value in
    let only : (asked : Key) → leads_to names c.args.label asked ≡ true → hash_of asked ≡ c.args.hash = λ asked leads. sym (number_there names c.args.label asked c.args.hash c.requires.hashed leads) in
    on_ok_weaker c.add.result (λ changed. asked_of-set (label_in names) None bs c.args.hash i b c.add.new.self (leads_to names c.args.label) (λ o. option_or o (Some c.args.label)) c.place_of-place.ensures.place is only changed) c.add.ensures.labels

pub returns-clause-labels_err : goal.returns-clause-labels_err
returns-clause-labels_err g c =
    let names = g.T.Names.key_at c.args.table.now in
    let bs = c.args.self.now.buckets.items in
    let i = c.place_of-place.result in
    let b = c.index_mut-bucket.result.now in
    let is = slice_get_read bs (length bs) i b refl c.place_of-place.ensures.within c.index_mut-bucket.ensures.value in
    on_err_weaker c.add.result (λ same. asked_of-same (label_in names) None bs i b c.add.new.self is same) c.add.ensures.labels_err
