-- Which sections are live, by their numbers.
use Rattle.std.proofs.Common.{◌≡◌, ◌+◌, ◌∙◌, ◌<◌, ◌≤◌, ◌&&◌, ℕ, Bool, false, List, None, Some, ap, slice_get, sym}
use Rattle.std.specs.Prelude.{nat_lt}
use Rattle.std.specs.List.{enumerate_from}
use Rattle.std.proofs.lemmas.Bool.{le-ltb}
use Rattle.link_closure.specs.Closure.{is_marked}
use Rattle.link_rules.specs.Selection.{Selection}
use Rattle.link_gc_sections.specs.LiveSections.{section_number}
use Rattle.link_gc.specs.declared.numbers.SectionSpan.{SectionSpan}
use Rattle.link_gc.specs.Live.{is_live}
use Rattle.link_gc.specs.Numbering.{spans_from}
use Rattle.link_gc.proofs.Numbering.{loaded-there, lost-nowhere, lost-past, starts-there}

-- a section below the count of its object's is live where its number has a mark
pub live-there : (l : Selection) (spans : List SectionSpan) (marks : List Bool) (f section : ℕ) (s : SectionSpan) → spans ≡ spans_from l.marks 0 (enumerate_from 0 l.stage.objects)
    → slice_get spans f ≡ Some s → section < s.len → is_marked marks (s.start + section) ≡ is_live l marks (f, section)
live-there l spans marks f section s are at lt =
    ap (λ n. is_marked marks (n + section)) (starts-there l spans f s are at)
    ∙ sym (ap (λ (b : Bool). b && is_marked marks (section_number l.stage (f, section))) (loaded-there l spans f section s are at lt))

-- a section past their count is not live
pub dead-past : (l : Selection) (spans : List SectionSpan) (marks : List Bool) (f section : ℕ) (s : SectionSpan) → spans ≡ spans_from l.marks 0 (enumerate_from 0 l.stage.objects)
    → slice_get spans f ≡ Some s → s.len ≤ section → nat_lt section s.len ≡ is_live l marks (f, section)
dead-past l spans marks f section s are at past =
    le-ltb section s.len past
    ∙ sym (ap (λ (b : Bool). b && is_marked marks (section_number l.stage (f, section))) (lost-past l spans f section s are at past))

-- nor is one where there are no numbers
pub dead-nowhere : (l : Selection) (spans : List SectionSpan) (marks : List Bool) (f section : ℕ) → spans ≡ spans_from l.marks 0 (enumerate_from 0 l.stage.objects)
    → slice_get spans f ≡ None → false ≡ is_live l marks (f, section)
dead-nowhere l spans marks f section are at = sym (ap (λ (b : Bool). b && is_marked marks (section_number l.stage (f, section))) (lost-nowhere l spans f section are at))
