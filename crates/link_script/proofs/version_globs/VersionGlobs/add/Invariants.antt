use Rattle.std.proofs.Common.{◌≡◌, ◌++◌, List, take}
use Rattle.link_glob.specs.Glob.{GlobToken}
use Rattle.link_glob.specs.GlobKey.{IsWholeIndexOf}
use Rattle.link_script.specs.VersionGlobs.{places_from}
use Rattle.link_script.proofs.version_globs.VersionGlobs.add.Given as goal

abbrev pub invariant-loop-number : goal.invariant-loop-number
invariant-loop-number l = record {
  index : (before : List (List GlobToken)) → IsWholeIndexOf before l.fn.self.index → IsWholeIndexOf (before ++ take l.number l.globs) l.self.index;
  places : l.self.places ≡ l.fn.self.places ++ places_from l.version l.side 0 (take l.number l.globs);
}
