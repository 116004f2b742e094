use Rattle.std.proofs.Common.{◌∙◌, ℕ, List, ap, map, subst, sym}
use Rattle.link_resolve_discarded.specs.Indexed.{AreGroupsOf, IndexedGroups}
use Rattle.link_flags.specs.FlagBits as flag
use Rattle.link_flags.specs.FlagWords.{numbers_of, words_of}
use Rattle.link_resolve_marks.specs.Marks.{mark_on, with_marks}
use Rattle.link_rules.specs.Rivals.{two_steps}
use Rattle.link_db.specs.Seen.{seen}
use Rattle.link_resolve.specs.Known.{Known}
use Rattle.link_resolve.specs.Resolving.{Resolving}
use Rattle.link_resolve.specs.Settled.{IsSettled}
use Rattle.link_resolve.proofs.Signing.{marked-length, signed-are}
use Rattle.link_resolve.proofs.resolver.Resolver.canonicalise_undefined.Goals as goal

pub returns-clause-table : goal.returns-clause-table
returns-clause-table g c = λ l is sections table.
    c.in_ok-undefined.ensures.table l (subst (λ (k : Known). IsSettled (seen c.args.db.now) k l) (sym (ap (λ (r : Resolving). r.known) c.self.view_is)) is) sections table

pub returns-clause-added : goal.returns-clause-added
returns-clause-added g c = λ l is sections.
    c.in_ok-undefined.ensures.added l (subst (λ (k : Known). IsSettled (seen c.args.db.now) k l) (sym (ap (λ (r : Resolving). r.known) c.self.view_is)) is) sections

pub returns-clause-mapping : goal.returns-clause-mapping
returns-clause-mapping g c = λ l is sections.
    c.in_ok-undefined.ensures.mapping l (subst (λ (k : Known). IsSettled (seen c.args.db.now) k l) (sym (ap (λ (r : Resolving). r.known) c.self.view_is)) is) sections

pub returns-clause-meanings : goal.returns-clause-meanings
returns-clause-meanings g c = λ l is sections.
    c.in_ok-undefined.ensures.meanings l (subst (λ (k : Known). IsSettled (seen c.args.db.now) k l) (sym (ap (λ (r : Resolving). r.known) c.self.view_is)) is) sections

pub returns-clause-undefined : goal.returns-clause-undefined
returns-clause-undefined g c = λ l is sections.
    c.in_ok-undefined.ensures.undefined l (subst (λ (k : Known). IsSettled (seen c.args.db.now) k l) (sym (ap (λ (r : Resolving). r.known) c.self.view_is)) is) sections

-- signatures come to the flags of the end
pub returns-clause-flags : goal.returns-clause-flags
returns-clause-flags g c = λ l is sections table are narrowed.
    let settled = subst (λ (k : Known). IsSettled (seen c.args.db.now) k l) (sym (ap (λ (r : Resolving). r.known) c.self.view_is)) is in
    let groups = subst (λ (gs : IndexedGroups). AreGroupsOf l.marks l.stage.objects gs) (sym (ap (λ (r : Resolving). r.groups) c.self.view_is)) are in
    let entries = (seen c.canonicalise_references.new.db).table in
    c.mark_signatures.ensures
    ∙ (ap (λ (ids : List ℕ). with_marks (map (λ (id : ℕ). mark_on (two_steps entries id) flag.group_signature) ids) (numbers_of (words_of c.canonicalise_references.new.flags))) c.deref.ensures.value
    ∙ signed-are l entries c.in_ok-signatures.signatures.items (numbers_of (words_of c.canonicalise_references.new.flags)) (c.in_ok-undefined.ensures.table l settled sections table)
    (c.in_ok-signatures.ensures.ids l is.objects is.symbols is.options groups entries) (c.in_ok-undefined.ensures.flags l settled sections table narrowed))

pub returns-clause-words : goal.returns-clause-words
returns-clause-words g c =
    marked-length _ (words_of c.canonicalise_references.new.flags) (words_of c.mark_signatures.new.flags) c.mark_signatures.ensures ∙ c.in_ok-undefined.ensures.words
