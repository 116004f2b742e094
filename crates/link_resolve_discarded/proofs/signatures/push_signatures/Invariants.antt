use Rattle.std.proofs.Common.{◌≡◌, ◌<◌, ◌++◌, All, drop, length, take}
use Rattle.link_resolve_discarded.specs.Signatures.{signatures_of}
use Rattle.link_resolve_discarded.proofs.signatures.push_signatures.Given as goal

-- the symbols so far, and those that name the groups that are left
abbrev pub invariant-loop-place : goal.invariant-loop-place
invariant-loop-place g l = record {
  ids : l.ids.items ++ signatures_of l.first l.groups (drop l.place l.object.groups) ≡ l.initial.ids.items ++ signatures_of l.first l.groups l.object.groups;
  within : All (λ x. x.signature_symbol < length l.object.symbols) (take l.place l.object.groups);
}
