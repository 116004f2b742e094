use Rattle.std.proofs.Common.{◌≡◌, ◌∙◌, [], refl, sym, ap, true, Some, None, length}
use Rattle.std.proofs.lemmas.Option.{slice_get_read}
use Rattle.std.proofs.lemmas.Result.{on_ok_weaker, on_err_weaker, IfOk-weaker}
use Rattle.std.specs.Option.{option_or}
use Rattle.std.specs.Prelude.{slice_get}
use Rattle.link_db_buckets.specs.Bucket.{definitions_in, label_in, overridden_in, mapped_in}
use Rattle.link_db_buckets.specs.Buckets.{definitions_at, mapped_at}
use Rattle.link_db_buckets.specs.Keys.{Key, leads_to, hash_of}
use Rattle.link_db_buckets.proofs.Keys.{number_there}
use Rattle.link_db_buckets.proofs.Rounds.{asked_of-set, asked_of-same, asked_here, keyed-set, settled-set}
use Rattle.link_db_buckets.proofs.buckets.Buckets.override_name.Goals as goal

pub returns-clause-keyed : goal.returns-clause-keyed
returns-clause-keyed g c =
    let names = g.T.Names.key_at c.args.table.now in
    let bs = c.args.self.now.buckets.items in
    let i = c.place_of-place.result in
    let b = c.index_mut-bucket.result.now in
    let is = slice_get_read bs (length bs) i b refl c.place_of-place.ensures.within c.index_mut-bucket.ensures.value in
    record {
      keyed = keyed-set names bs i c.override_name.new.self c.requires.keyed.keyed c.override_name.ensures.keyed;
      settled = settled-set bs c.args.hash i b c.override_name.new.self c.place_of-place.ensures.place is c.override_name.ensures.hashes c.requires.keyed.settled;
    }

pub returns-clause-before : goal.returns-clause-before
returns-clause-before g c =
    let names = g.T.Names.key_at c.args.table.now in
    let bs = c.args.self.now.buckets.items in
    let i = c.place_of-place.result in
    let b = c.index_mut-bucket.result.now in
    let is = slice_get_read bs (length bs) i b refl c.place_of-place.ensures.within c.index_mut-bucket.ensures.value in
    let only : (asked : Key) → leads_to names c.args.label asked ≡ true → hash_of asked ≡ c.args.hash = λ asked leads. sym (number_there names c.args.label asked c.args.hash c.requires.hashed leads) in
    λ asked leads.
    let there = only asked leads in
    let mapped : mapped_in names b asked ≡ mapped_at names c.args.self.now asked =
    sym (ap (λ o. option_or o (slice_get (definitions_at names c.args.self.now asked) 0)) (asked_here (overridden_in names) None bs c.args.hash i b asked c.place_of-place.ensures.place is there)
    ∙ ap (λ l. option_or (overridden_in names b asked) (slice_get l 0)) (asked_here (definitions_in names) [] bs c.args.hash i b asked c.place_of-place.ensures.place is there)) in
    IfOk-weaker c.override_name.result _ _ (λ before same. same ∙ mapped) (c.override_name.ensures.before asked leads)

pub returns-clause-overridden : goal.returns-clause-overridden
returns-clause-overridden g c =
    let names = g.T.Names.key_at c.args.table.now in
    let bs = c.args.self.now.buckets.items in
    let i = c.place_of-place.result in
    let b = c.index_mut-bucket.result.now in
    let is = slice_get_read bs (length bs) i b refl c.place_of-place.ensures.within c.index_mut-bucket.ensures.value in
    let only : (asked : Key) → leads_to names c.args.label asked ≡ true → hash_of asked ≡ c.args.hash = λ asked leads. sym (number_there names c.args.label asked c.args.hash c.requires.hashed leads) in
    on_ok_weaker c.override_name.result (λ changed. asked_of-set (overridden_in names) None bs c.args.hash i b c.override_name.new.self (leads_to names c.args.label) (λ _. Some c.args.id) c.place_of-place.ensures.place is only changed) c.override_name.ensures.overridden

pub returns-clause-err : goal.returns-clause-err
returns-clause-err g c =
    let names = g.T.Names.key_at c.args.table.now in
    let bs = c.args.self.now.buckets.items in
    let i = c.place_of-place.result in
    let b = c.index_mut-bucket.result.now in
    let is = slice_get_read bs (length bs) i b refl c.place_of-place.ensures.within c.index_mut-bucket.ensures.value in
    on_err_weaker c.override_name.result (λ same. asked_of-same (overridden_in names) None bs i b c.override_name.new.self is same) c.override_name.ensures.err

pub returns-clause-definitions : goal.returns-clause-definitions
returns-clause-definitions g c =
    let names = g.T.Names.key_at c.args.table.now in
    let bs = c.args.self.now.buckets.items in
    let i = c.place_of-place.result in
    let b = c.index_mut-bucket.result.now in
    let is = slice_get_read bs (length bs) i b refl c.place_of-place.ensures.within c.index_mut-bucket.ensures.value in
    asked_of-same (definitions_in names) [] bs i b c.override_name.new.self is c.override_name.ensures.definitions

pub returns-clause-labels : goal.returns-clause-labels
returns-clause-labels g c =
    let names = g.T.Names.key_at c.args.table.now in
    let bs = c.args.self.now.buckets.items in
    let i = c.place_of-place.result in
    let b = c.index_mut-bucket.result.now in
    let is = slice_get_read bs (length bs) i b refl c.place_of-place.ensures.within c.index_mut-bucket.ensures.value in
    let only : (asked : Key) → leads_to names c.args.label asked ≡ true → hash_of asked ≡ c.args.hash = λ asked leads. sym (number_there names c.args.label asked c.args.hash c.requires.hashed leads) in
    on_ok_weaker c.override_name.result (λ changed. asked_of-set (label_in names) None bs c.args.hash i b c.override_name.new.self (leads_to names c.args.label) (λ o. option_or o (Some c.args.label)) c.place_of-place.ensures.place is only changed) c.override_name.ensures.labels

pub returns-clause-labels_err : goal.returns-clause-labels_err
returns-clause-labels_err g c =
    let names = g.T.Names.key_at c.args.table.now in
    let bs = c.args.self.now.buckets.items in
    let i = c.place_of-place.result in
    let b = c.index_mut-bucket.result.now in
    let is = slice_get_read bs (length bs) i b refl c.place_of-place.ensures.within c.index_mut-bucket.ensures.value in
    on_err_weaker c.override_name.result (λ same. asked_of-same (label_in names) None bs i b c.override_name.new.self is same) c.override_name.ensures.labels_err
