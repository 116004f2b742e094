use Rattle.std.proofs.Common.{◌≡◌, ◌∙◌, ◌≤◌, IfOk, List, Ok, Err, Result, length, true}
use Rattle.std.proofs.lemmas.Result.{IfOk-weaker}
use Rattle.link_verdef.specs.declared.item.VersionItem.{VersionItem}
use Rattle.link_verdef.specs.Item.{is_lawful}
use Rattle.link_verdef.proofs.Texts.{lawful_text, of_text}
use Rattle.link_verdef.proofs.script_items.items_of.Goals as goal

pub returns-clause-of_text : goal.returns-clause-of_text
returns-clause-of_text c raw h =
    IfOk-weaker c.script_items.result _ _ (λ items e. e ∙ of_text raw c.args.script.now c.args.soname.now h) c.script_items.ensures.value

-- what a call answered is lawful, if the given items are and it answered those
lawful_answer : {E : Type 0} (r : Result (List VersionItem) E) (given : List VersionItem) → IfOk r (λ items. items ≡ given) → IfOk r (λ items. length items ≤ 32767)
    → (length given ≤ 32767 → is_lawful given ≡ true) → IfOk r (λ items. is_lawful items ≡ true)
lawful_answer (Ok items) given e few h = rw e (h (rw e at few))
lawful_answer (Err e) given is few h = tt

pub returns-clause-lawful : goal.returns-clause-lawful
returns-clause-lawful c profile text raw spelled h =
    lawful_answer c.script_items.result _ (returns-clause-of_text c raw h) c.script_items.ensures.few (lawful_text profile text raw c.args.soname.now spelled)
