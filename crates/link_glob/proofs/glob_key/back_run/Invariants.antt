use Rattle.std.proofs.Common.{◌≡◌, ◌+◌, length, reverse}
use Rattle.link_glob.specs.Glob.{views}
use Rattle.link_glob.specs.GlobKey.{back_key, run_key, run_length}
use Rattle.link_glob.proofs.glob_key.back_run.Given as goal

abbrev pub invariant-characters : goal.invariant-characters
invariant-characters l = record {
  key : run_key l.key (reverse (views l.rest)) ≡ run_key back_key (reverse (views l.tokens));
  len : run_length (reverse (views l.rest)) + length l.tokens ≡ run_length (reverse (views l.tokens)) + length l.rest;
}

abbrev pub decreases-characters : goal.decreases-characters
decreases-characters l = length l.rest
