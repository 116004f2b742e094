use Rattle.std.proofs.Common.{◌≡◌, ◌≤◌, length}
use Rattle.std.specs.Str.{chars}
use Rattle.link_glob.specs.GlobList.{last_of, fits_at}
use Rattle.link_glob.proofs.glob_list.GlobList.last_match.Given as goal

abbrev pub invariant-behind : goal.invariant-behind
invariant-behind l = record {
  found : last_of (fits_at l.self.items (chars l.name)) l.left ≡ last_of (fits_at l.self.items (chars l.name)) (length l.self.items);
  above : length l.self-inside.index.earlier.items ≤ l.left;
  within : l.left ≤ length l.self.items;
}

abbrev pub decreases-behind : goal.decreases-behind
decreases-behind l = l.left
