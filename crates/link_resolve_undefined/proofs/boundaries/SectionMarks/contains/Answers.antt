use Rattle.std.proofs.Common.{codes, subst, sym}
use Rattle.std.proofs.lemmas.Bool.Decides.{Decides-eqb}
use Rattle.std.proofs.lemmas.Slice.Eq.{strip_prefix_is}
use Rattle.link_resolve_undefined.proofs.SectionNames.{Stripped, no-mark}
use Rattle.link_resolve_undefined.proofs.boundaries.SectionMarks.contains.Goals as goal

pub returns : goal.returns
returns c = λ sections. λ marks.
    let name = c.args.name.now in
    let start : Stripped name (codes "__start_") c.strip_prefix.result = strip_prefix_is Decides-eqb name (codes "__start_") c.strip_prefix.result c.strip_prefix.ensures.cases in
    let stop : Stripped name (codes "__stop_") c.strip_prefix-2.result = strip_prefix_is Decides-eqb name (codes "__stop_") c.strip_prefix-2.result c.strip_prefix-2.ensures.cases in
    sym (no-mark sections name (subst (Stripped name (codes "__start_")) c.in_default.is start) (subst (Stripped name (codes "__stop_")) c.in_default-strip_prefix.is stop))
