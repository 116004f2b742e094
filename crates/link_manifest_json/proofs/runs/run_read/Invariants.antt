use Rattle.std.proofs.Common.{take}
use Rattle.std.specs.List.{AllZip}
use Rattle.link_manifest_json.specs.Spans.{IsMade}
use Rattle.link_manifest_json.proofs.runs.run_read.Given as goal

-- each text so far has been read
abbrev pub invariant-loop-text : goal.invariant-loop-text
invariant-loop-text g l = AllZip (λ s t. IsMade g.F.Fn l.f s.now t) (take l.text-index l.texts) l.made.items
