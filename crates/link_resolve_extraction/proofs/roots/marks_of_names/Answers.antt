use Rattle.std.proofs.Common.{◌≡◌, ◌+◌, ◌∷◌, ◌∙◌, ◌++◌, ap, drop, length, map, option_to_list}
use Rattle.link_flags.specs.FlagBits as flag
use Rattle.link_db_texts.proofs.Forced.{rest_is}
use Rattle.link_db_mapping.specs.Mapped.{mapping_of}
use Rattle.link_resolve_marks.specs.Marks.{mark_on}
use Rattle.link_claim_pool.specs.Marks.{mark_of_pair}
use Rattle.link_db.specs.Database.{symbol_names}
use Rattle.link_db.specs.Seen.{seen}
use Rattle.link_resolve_extraction.proofs.Rooted.{name-more}
use Rattle.link_resolve_extraction.proofs.roots.marks_of_names.Goals as goal

-- one name more
pub loop-name-preserved : goal.loop-name-preserved
loop-name-preserved g c =
    let names = c.args.names.now in
    let i = c.loop-name.name-index in
    let name = c.name-item.result in
    let mapping = mapping_of (seen c.args.db.now).mapping in
    let next : drop i names ≡ name ∷ drop (i + 1) names = rest_is names i name c.loop-name-test.true c.name-item.is in (
      name-more mapping (drop i names) (drop (i + 1) names) name (map mark_of_pair c.loop-name.marks.items) (map mark_of_pair c.push_mark.new.marks.items) _ next
          (c.in_ok-push_mark.ensures.marks ∙ ap (λ o. map mark_of_pair c.loop-name.marks.items ++ map (λ t. mark_on t flag.has_non_ir_ref) (option_to_list o)) (c.get_unversioned.ensures.value ∙ ap mapping c.as_slice.ensures)) c.loop-name.invariant.0,
      c.in_ok-push_mark.ensures.within (length (symbol_names (seen c.args.db.now))) c.get_unversioned.ensures.within c.loop-name.invariant.1,
    )
