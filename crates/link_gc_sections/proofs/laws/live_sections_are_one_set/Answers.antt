use Rattle.std.proofs.Common.{◌≡◌, ◌∙◌, Bool, List, ap, subst, sym}
use Rattle.link_closure.proofs.Least.{one-least}
use Rattle.link_rules.proofs.WorldOnce.{one-last}
use Rattle.link_rules.specs.Selection.{Selection}
use Rattle.link_rules.specs.Undefined.{Resolution, resolved}
use Rattle.link_rules.specs.World.{World}
use Rattle.link_gc_sections.specs.LiveSections.{AreLive, IsRootNumber, KeepsNumber, section_count}
use Rattle.link_gc_sections.specs.SectionText.{section_text}
use Rattle.link_gc_sections.proofs.laws.live_sections_are_one_set.Goals as goal

one-set : (r : Resolution) (a b : List Bool) → AreLive r a → AreLive r b → a ≡ b
one-set r a b first second = one-least (IsRootNumber r) (KeepsNumber r) (section_count r.selection.stage) a b first second

pub returns-clause-sections : goal.returns-clause-sections
returns-clause-sections c = one-set

pub returns-clause-world : goal.returns-clause-world
returns-clause-world c = λ w a b (l, ends, first) (k, ends_too, second).
    let same = one-last w l k ends ends_too in
    one-set (resolved k) a b (subst (λ (x : Selection). AreLive (resolved x) a) same first) second

pub returns-clause-text : goal.returns-clause-text
returns-clause-text c = λ w a b (l, live, ends, first, text) (k, live_too, ends_too, second, text_too).
    let same = one-last w l k ends ends_too in
    let one = one-set (resolved k) live live_too (subst (λ (x : Selection). AreLive (resolved x) live) same first) second in
    text ∙ (ap (λ (x : Selection). section_text x live) same ∙ (ap (λ (marks : List Bool). section_text k marks) one ∙ sym text_too))
