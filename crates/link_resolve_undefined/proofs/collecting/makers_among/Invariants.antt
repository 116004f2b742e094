use Rattle.std.proofs.Common.{◌≡◌, ◌++◌, List, drop, filter, map}
use Rattle.link_db_files.specs.GroupFiles.{symbols_in}
use Rattle.link_rules.specs.Places.{Bytes}
use Rattle.link_rules.specs.Undefined.{Numbered}
use Rattle.link_resolve_undefined.specs.Boundaries.{Marks, makes_new}
use Rattle.link_resolve_undefined.specs.Records.{numbered_at}
use Rattle.link_resolve_undefined.proofs.collecting.makers_among.Given as goal

abbrev pub invariant-loop-id : goal.invariant-loop-id
invariant-loop-id g l = (sections : List Bytes) → Marks l.marks sections →
    let makes = λ (u : Numbered). makes_new sections l.last u.1.name u.1.version u.0 in
    let symbols = symbols_in l.files.groups in
    l.makers.items ++ map (λ (u : Numbered). u.0) (filter makes (numbered_at symbols (drop l.id-index l.left)))
    ≡ map (λ (u : Numbered). u.0) (filter makes (numbered_at symbols l.left))
