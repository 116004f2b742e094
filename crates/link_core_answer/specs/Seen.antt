-- What a link that is answered says.
use Rattle.link_input.specs.declared.platform.Platform.{Ghosts}
use Rattle.link_flags.specs.FlagWords.{numbers_of, words_of}
use Rattle.link_db.specs.Seen as database
use Rattle.link_core_answer.specs.declared.linked.Linked.{Linked}
use Rattle.link_core_answer.specs.Parts.{Parts}

-- all that it keeps
abbrev pub seen : {P : Type 0} {G : Ghosts P} → Linked P G → Parts P
seen linked = record {
  db = database.seen linked.db;
  known = linked.resolver.known;
  groups = linked.resolver.groups;
  flags = numbers_of (words_of linked.flags);
  versions = linked.versions.items;
  undefined = linked.undefined.items;
  missing = linked.missing.items;
  roots = linked.roots.items;
}
