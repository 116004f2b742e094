use Rattle.std.proofs.Common.{◌≡◌, ◌++◌, ◌&&◌, ◌<◌, All, drop, filter, length, map, not}
use Rattle.link_db_files.specs.GroupFiles.{symbols_in}
use Rattle.link_rules.specs.Undefined.{Numbered, is_boundary_maker, is_last_alike}
use Rattle.link_rules.specs.World.{Stage}
use Rattle.link_resolve_undefined.specs.Asked.{AreAsked}
use Rattle.link_resolve_undefined.specs.Records.{numbered_at}
use Rattle.link_resolve_undefined.specs.UndefinedNames.{undefined_references}
use Rattle.link_resolve_undefined.proofs.undefined_names.standing_among.Given as goal

-- the references so far, and those of the ids that are left
abbrev pub invariant-loop-id : goal.invariant-loop-id
invariant-loop-id g l = record {
  undefined : (w : Stage) → AreAsked l.asked w (numbered_at (symbols_in l.files.groups) l.left) →
      let records = numbered_at (symbols_in l.files.groups) l.left in
      let stands = λ (u : Numbered). is_last_alike records u && not (is_boundary_maker w records u) in
      l.ids.items ++ map (λ (u : Numbered). u.0) (filter stands (numbered_at (symbols_in l.files.groups) (drop l.id-index l.left))) ≡ map (λ (u : Numbered). u.0) (undefined_references w records);
  inside : All (λ s. s < length (symbols_in l.files.groups)) l.ids.items;
}
