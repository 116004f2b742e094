use Rattle.std.proofs.Common.{◌≡◌, ◌+◌, ◌++◌, length}
use Rattle.link_db_files.specs.GroupFiles.{symbols_in}
use Rattle.link_db_texts.specs.Holds.{platform_of}
use Rattle.link_rules.specs.Selection.{Selection}
use Rattle.link_rules.specs.Undefined.{resolved}
use Rattle.link_rules.specs.Versions.{version_given, version_refusal, versions_given}
use Rattle.link_db.specs.Seen.{seen}
use Rattle.link_resolve.specs.Settled.{IsEnded}
use Rattle.link_resolve.proofs.Giving.{cause_from, given_from}
use Rattle.link_resolve.proofs.versions.symbol_versions.Given as goal

-- the versions so far, and those of the symbols that are left, of which the first cause is that of all
abbrev pub invariant-loop-id : goal.invariant-loop-id
invariant-loop-id g l = record {
  ids : l.id-iterator.next + length l.id-iterator.left ≡ length (symbols_in (seen l.db).mapping.files.groups);
  given : (s : Selection) → IsEnded (platform_of g.P.Platform) (g.D.Demangler.demangled l.demangler) (seen l.db) l.resolved s
      → l.versions.items ++ given_from (version_given (resolved s)) l.id-iterator.next l.id-iterator.left ≡ versions_given (resolved s);
  cause : (s : Selection) → IsEnded (platform_of g.P.Platform) (g.D.Demangler.demangled l.demangler) (seen l.db) l.resolved s
      → cause_from (version_given (resolved s)) l.id-iterator.next l.id-iterator.left ≡ version_refusal (resolved s);
}
