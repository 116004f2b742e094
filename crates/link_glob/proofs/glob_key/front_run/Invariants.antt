use Rattle.std.proofs.Common.{◌≡◌, ◌+◌, length}
use Rattle.link_glob.specs.Glob.{views}
use Rattle.link_glob.specs.GlobKey.{front_key, run_key, run_length}
use Rattle.link_glob.proofs.glob_key.front_run.Given as goal

abbrev pub invariant-characters : goal.invariant-characters
invariant-characters l = record {
  key : run_key l.key (views l.rest) ≡ run_key front_key (views l.tokens);
  len : run_length (views l.rest) + length l.tokens ≡ run_length (views l.tokens) + length l.rest;
}

abbrev pub decreases-characters : goal.decreases-characters
decreases-characters l = length l.rest
