use Rattle.std.proofs.Common.{◌∙◌, List, ap, map, sym}
use Rattle.std.proofs.lemmas.List.{take_all}
use Rattle.link_input.specs.Symbols.{Symbol}
use Rattle.link_rules.specs.Comdat.{PlacedGroup, discarded_groups}
use Rattle.link_rules.specs.Selection.{surviving_origin}
use Rattle.link_check_groups.specs.Sections.{discarded_among}
use Rattle.link_check_groups.proofs.groups.LoadedGroups.surviving_strengths.Goals as goal

pub returns : goal.returns
returns c = λ w symbols same.
    let marks = c.args.marks.now in
    let left : List PlacedGroup → Symbol → _ = λ discarded x. surviving_origin marks discarded x.origin in
    c.loop-symbol.invariant
    ∙ (ap (map (left (discarded_among c.args.self.now))) (take_all c.loop-symbol.symbol-index c.args.symbols.now c.loop-symbol-test.false)
    ∙ (ap (λ gs. map (left (discarded_among gs)) c.args.symbols.now) same ∙ ap (map (left (discarded_groups w marks))) (sym symbols)))
