use Rattle.std.proofs.Common.{◌∙◌, sym, ap, subst, take, [], ◌∷◌, ◌++◌, List, arith}
use Rattle.std.proofs.lemmas.List.{take_more, length-take-le}
use Rattle.link_script.specs.declared.rules.Version.{Version}
use Rattle.link_script.specs.VersionIndex.{IsIndexOf}
use Rattle.link_script.proofs.version_index.VersionIndex.of.Goals as goal

pub loop-number-preserved : goal.loop-number-preserved
loop-number-preserved c =
    let front = take c.loop-number.number c.args.versions.now in
    let more = take_more c.args.versions.now c.loop-number.number c.index-versions-number.result c.loop-number-test.true ∙ ap (λ (v : Version). front ++ v ∷ []) (sym c.index-versions-number.is) in
    subst (λ (versions : List Version). IsIndexOf versions c.note.new.self) (sym more) (c.in_ok-note.ensures front (length-take-le c.loop-number.number c.args.versions.now (omega arith)) c.loop-number.invariant)
