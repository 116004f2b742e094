use Rattle.std.proofs.Common.{◌∙◌, ◌++◌, [], ◌∷◌, ℕ, Bool, List, Option, ap, if◌then◌else◌}
use Rattle.std.specs.Prelude.{is_none}
use Rattle.link_db_mapping.specs.Mapped.{mapping_of}
use Rattle.link_rules.specs.Places.{Bytes}
use Rattle.link_db.specs.Seen.{seen}
use Rattle.link_core.proofs.Answering.{kept-more, none-is}
use Rattle.link_core.proofs.ending.missing_among.Goals as goal

-- one name more
pub loop-name-preserved : goal.loop-name-preserved
loop-name-preserved g c =
    let name : Bytes = c.name-item.result in
    let old : List Bytes = c.loop-name.missing.items in
    let mapping = mapping_of (seen c.args.db.now).mapping in
    let test = none-is c.get_unversioned.result c.is_none-is_missing.result c.is_none-is_missing.ensures ∙ ap (λ (o : Option ℕ). is_none o) (c.get_unversioned.ensures.value ∙ ap mapping c.as_slice.ensures) in
    kept-more (λ (n : Bytes). is_none (mapping n)) c.args.names.now c.loop-name.name-index name old c.push_missing.new.missing.items _
    c.loop-name-test.true c.name-item.is (c.in_ok-push_missing.ensures ∙ ap (λ (b : Bool). old ++ (if b then name ∷ [] else [])) test) c.loop-name.invariant
