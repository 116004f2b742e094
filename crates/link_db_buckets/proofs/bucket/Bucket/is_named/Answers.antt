use Rattle.std.proofs.Common.{◌≡◌, ◌∙◌, List, Bool, Option, Some, false, length, sym, ap, refl}
use Rattle.std.specs.Prelude.{slice_get}
use Rattle.std.specs.Option.{option_map_or}
use Rattle.std.proofs.lemmas.Option.{slice_get_read, slice_get_past}
use Rattle.link_db_buckets.specs.declared.head.Head.{Head}
use Rattle.link_db_buckets.specs.Keys.{key_of}
use Rattle.link_db_buckets.specs.Heads.{is_head}
use Rattle.link_db_buckets.proofs.Search.{named_only, fails, unused}
use Rattle.link_db_buckets.proofs.bucket.Bucket.is_named.Goals.{then-head-hash, else-head-hash}
use Rattle.link_db_buckets.proofs.bucket.Bucket.is_named.Goals as goal

pub returns-else-is_used : goal.returns-else-is_used
returns-else-is_used g c =
    let names = g.T.Names.key_at c.args.table.now in
    let key = key_of c.args.name.now c.args.version in
    let p : Head → Bool = is_head names key in
    let heads = c.args.self.now.heads.items in
    let slice = c.deref.result.now in
    let h = c.in-Some.head.now in
    let look = c.in-Some.ensures.lookup in
    let at : slice_get heads c.args.place ≡ Some h = ap (λ (l : List Head). slice_get l c.args.place) (sym c.deref.ensures.value) ∙ slice_get_read slice (length slice) c.args.place h refl look.3.0 look.1 in
    let no : c.if-head-hash.value ≡ false = c.if-is_used.false in
    let failed : p h ≡ false = elim c.if-head-hash.branch [
      | then-head-hash w ↦ unused names key h (sym w.is_used.ensures ∙ sym w.value-is ∙ no)
      | else-head-hash w ↦ fails (p h) (λ one. w.if-head-hash.false (named_only names heads key c.args.hash c.requires.keyed c.requires.hashed c.args.place h at one))
    ] in
    no ∙ sym (ap (λ (o : Option Head). option_map_or p o false) at ∙ failed)

pub returns-in-None : goal.returns-in-None
returns-in-None g c =
    let names = g.T.Names.key_at c.args.table.now in
    let key = key_of c.args.name.now c.args.version in
    let slice = c.deref.result.now in
    let past = slice_get_past slice c.args.place c.in-None.ensures.lookup.3 in
    sym (ap (λ (l : List Head). option_map_or (is_head names key) (slice_get l c.args.place) false) (sym c.deref.ensures.value) ∙ ap (λ (o : Option Head). option_map_or (is_head names key) o false) past)
