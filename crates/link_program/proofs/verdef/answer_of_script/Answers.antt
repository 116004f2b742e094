use Rattle.std.proofs.Common.{◌≡◌, rules, ◌∙◌, ap}
use Rattle.link_verdef.specs.ScriptItems.{items_of_text}
use Rattle.link_rules.specs.Rules.{script_of}
use Rattle.link_program.proofs.OfWorld.{ok-into}
use Rattle.link_program.proofs.VerdefEndings.{given-lawful, read-ending}
use Rattle.link_program.proofs.verdef.answer_of_script.Goals as goal

-- the versions of a script that is read are such that a file can define
pub unreachable-requires : goal.unreachable-requires
unreachable-requires c =
    let profile = c.args.options.now.script_profile in
    let given = c.args.scripts.now.version_script in
    c.in-None.ensures (given-lawful profile given c.in-Ok.script c.in_ok-items_of.field-0 c.as_slice.result.now c.in-Ok.ensures.cause c.in-Ok.ensures.script
    (c.in_ok-items_of.ensures.of_text (script_of profile given) c.in-Ok.ensures.script) c.in_ok-items_of.ensures.lawful)

-- their answer is that of the text
pub returns : goal.returns
returns c =
    let profile = c.args.options.now.script_profile in
    let given = c.args.scripts.now.version_script in
    let raw = script_of profile given in
    let named : c.as_slice.result.now ≡ c.args.soname.now = search rules in
    let kept : c.in-Some.items ≡ c.in_ok-items_of.field-0 = search rules in
    let is = kept ∙ c.in_ok-items_of.ensures.of_text raw c.in-Ok.ensures.script ∙ ap (items_of_text raw) named in
    ok-into c.answer_of_items.result _ _ (λ a held. read-ending profile given c.in-Some.items c.args.soname.now (a.status, a.text.items) c.in-Ok.ensures.cause is held) c.answer_of_items.ensures
