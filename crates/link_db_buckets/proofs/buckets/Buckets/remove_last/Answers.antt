use Rattle.std.proofs.Common.{◌≡◌, ◌∙◌, [], refl, sym, ap, inl, true, None, length}
use Rattle.std.proofs.lemmas.Option.{slice_get_read}
use Rattle.link_db_buckets.specs.Bucket.{definitions_in, overridden_in}
use Rattle.link_db_buckets.specs.Heads.{without_last}
use Rattle.link_db_buckets.specs.Keys.{Key, key_of, same_key, hash_of}
use Rattle.link_db_buckets.proofs.Keys.{keys_equal}
use Rattle.link_db_buckets.proofs.Rounds.{asked_of-set, asked_of-same, label_at-set, keyed-set, settled-set}
use Rattle.link_db_buckets.proofs.buckets.Buckets.remove_last.Goals as goal

pub returns-clause-keyed : goal.returns-clause-keyed
returns-clause-keyed g c =
    let names = g.T.Names.key_at c.args.table.now in
    let bs = c.args.self.now.buckets.items in
    let i = c.place_of-place.result in
    let b = c.index_mut-bucket.result.now in
    let is = slice_get_read bs (length bs) i b refl c.place_of-place.ensures.within c.index_mut-bucket.ensures.value in
    record {
      keyed = keyed-set names bs i c.remove_last.new.self c.requires.keyed.keyed c.remove_last.ensures.keyed;
      settled = settled-set bs c.args.hash i b c.remove_last.new.self c.place_of-place.ensures.place is (inl c.remove_last.ensures.hashes) c.requires.keyed.settled;
    }

pub returns-clause-definitions : goal.returns-clause-definitions
returns-clause-definitions g c =
    let names = g.T.Names.key_at c.args.table.now in
    let bs = c.args.self.now.buckets.items in
    let i = c.place_of-place.result in
    let b = c.index_mut-bucket.result.now in
    let is = slice_get_read bs (length bs) i b refl c.place_of-place.ensures.within c.index_mut-bucket.ensures.value in
    let only : (asked : Key) → same_key (key_of c.args.name.now c.args.version) asked ≡ true → hash_of asked ≡ c.args.hash = λ asked same. ap hash_of (sym (keys_equal (key_of c.args.name.now c.args.version) asked same)) ∙ sym c.requires.hashed in
    asked_of-set (definitions_in names) [] bs c.args.hash i b c.remove_last.new.self (same_key (key_of c.args.name.now c.args.version)) (without_last 1) c.place_of-place.ensures.place is only c.remove_last.ensures.definitions

pub returns-clause-overridden : goal.returns-clause-overridden
returns-clause-overridden g c =
    let names = g.T.Names.key_at c.args.table.now in
    let bs = c.args.self.now.buckets.items in
    let i = c.place_of-place.result in
    let b = c.index_mut-bucket.result.now in
    let is = slice_get_read bs (length bs) i b refl c.place_of-place.ensures.within c.index_mut-bucket.ensures.value in
    asked_of-same (overridden_in names) None bs i b c.remove_last.new.self is c.remove_last.ensures.overridden

pub returns-clause-labels : goal.returns-clause-labels
returns-clause-labels g c =
    let names = g.T.Names.key_at c.args.table.now in
    let bs = c.args.self.now.buckets.items in
    let i = c.place_of-place.result in
    let b = c.index_mut-bucket.result.now in
    let is = slice_get_read bs (length bs) i b refl c.place_of-place.ensures.within c.index_mut-bucket.ensures.value in
    label_at-set names bs i b c.remove_last.new.self is c.remove_last.ensures.labels
