use Rattle.std.proofs.Common.{◌≡◌, ◌++◌, map, take}
use Rattle.link_verdef.specs.ScriptItems.{item_of}
use Rattle.link_verdef.proofs.script_items.script_items.Given as goal

abbrev pub invariant-loop-version : goal.invariant-loop-version
invariant-loop-version l = l.items ≡ l.initial.items ++ map item_of (take l.version-index l.versions)
