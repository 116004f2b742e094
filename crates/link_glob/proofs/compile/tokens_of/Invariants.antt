use Rattle.std.proofs.Common.{length}
use Rattle.link_glob.specs.Glob.{views}
use Rattle.link_glob.proofs.Spelling.{ReadSoFar}
use Rattle.link_glob.proofs.compile.tokens_of.Given as goal

abbrev pub invariant-tokens : goal.invariant-tokens
invariant-tokens l = ReadSoFar l.dialect l.text (views l.tokens.items) l.rest

abbrev pub decreases-tokens : goal.decreases-tokens
decreases-tokens l = length l.rest
