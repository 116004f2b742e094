use Rattle.std.proofs.Common.{◌≡◌, ◌+◌, ◌∙◌, ◌++◌, ◌<◌, ℕ, List, All, ap, arith, length, subst, sym}
use Rattle.link_rules.specs.Places.{Bytes}
use Rattle.link_rules.specs.Selection.{Selection}
use Rattle.link_db_mapping.specs.Mapped.{Mapped, mapping_of}
use Rattle.link_db.specs.Database.{Database, symbol_names}
use Rattle.link_db.specs.Seen.{seen}
use Rattle.link_resolve.specs.Settled.{IsSettled, boundary_names, with_linker_group}
use Rattle.link_resolve.proofs.Making.{IsMade, Leaves, count-made, leaves, made-at-end}
use Rattle.link_resolve.proofs.Meaning.{meaning-is}
use Rattle.link_resolve.proofs.undefined.canonicalise_references.Given.{Over}
use Rattle.link_resolve.proofs.undefined.canonicalise_references.Goals as goal

pub restore_definitions-requires-clause-whole : goal.restore_definitions-requires-clause-whole
restore_definitions-requires-clause-whole g c =
    let now = seen c.copied_definitions.new.db in
    let made = seen c.add_group_of.new.db in
    let names = c.in_ok-made.made.new_names.items in
    omega (arith, c.in_ok-made.ensures.entries, count-made names now made (leaves names now made c.in_ok-add_group_of.ensures))

pub restore_definitions-requires-clause-within : goal.restore_definitions-requires-clause-within
restore_definitions-requires-clause-within g c =
    let now = seen c.copied_definitions.new.db in
    let made = seen c.add_group_of.new.db in
    let names = c.in_ok-made.made.new_names.items in
    let inside : All (λ t. t < length (symbol_names now)) c.in_ok-table.table.items =
    subst (λ (d : Database g.row.P.Denot). All (λ t. t < length (symbol_names d)) c.in_ok-table.table.items) (sym c.copied_definitions.ensures.same) c.in_ok-table.ensures.inside in
    subst (λ (n : ℕ). All (λ t. t < n) c.point_and_flag.new.table.items) (sym (count-made names now made (leaves names now made c.in_ok-add_group_of.ensures))) (c.in_ok-made.ensures.inside inside)

-- the database at the end
made : (g : Over) (c : goal.After-drop-flags g) → IsMade (with_linker_group c.in_ok-made.made.new_names.items (seen c.args.db.now).mapping) (seen c.args.db.now) (seen c.restore_definitions.new.self)
made g c =
    made-at-end c.in_ok-made.made.new_names.items (seen c.args.db.now) (seen c.copied_definitions.new.db) (seen c.add_group_of.new.db) (seen c.restore_definitions.new.self) c.point_and_flag.new.table.items
    c.copied_definitions.ensures.same c.in_ok-add_group_of.ensures c.restore_definitions.ensures

-- what is left of the files then
left : (g : Over) (c : goal.After-drop-flags g) → Leaves c.in_ok-made.made.new_names.items (seen c.args.db.now).mapping (seen c.restore_definitions.new.self).mapping
left g c = leaves c.in_ok-made.made.new_names.items (seen c.args.db.now) (seen c.restore_definitions.new.self) (made g c)

-- the names of the new symbols
named : (g : Over) (c : goal.After-drop-flags g) (l : Selection) → IsSettled (seen c.args.db.now) c.args.resolved.now l → l.stage.options.custom_sections ≡ c.args.custom_sections.now
    → c.in_ok-made.made.new_names.items ≡ boundary_names l
named g c l settled sections =
    c.in_ok-made.ensures.names l (subst (λ (d : Database g.row.P.Denot). IsSettled d c.args.resolved.now l) (sym c.copied_definitions.ensures.same) settled) sections

pub returns-clause-symbols : goal.returns-clause-symbols
returns-clause-symbols g c = (left g c).symbols

pub returns-clause-objects : goal.returns-clause-objects
returns-clause-objects g c = (left g c).objects

pub returns-clause-added : goal.returns-clause-added
returns-clause-added g c = λ l settled sections.
    (left g c).added ∙ ap (λ (added : List Bytes). added ++ c.in_ok-made.made.new_names.items) c.requires.added ∙ named g c l settled sections

pub returns-clause-mapping : goal.returns-clause-mapping
returns-clause-mapping g c = λ l settled sections.
    ap (λ (d : Database g.row.P.Denot). d.mapping) (made g c) ∙ ap (λ (names : List Bytes). with_linker_group names (seen c.args.db.now).mapping) (named g c l settled sections)

pub returns-clause-meanings : goal.returns-clause-meanings
returns-clause-meanings g c = λ l settled sections name.
    ap (λ (m : Mapped g.row.P.Denot). mapping_of m name) (returns-clause-mapping g c l settled sections) ∙ meaning-is (seen c.args.db.now) c.args.resolved.now l settled c.requires.added name

-- how many names there are with those of the new symbols
count : (g : Over) (c : goal.After-drop-flags g) → length (symbol_names (seen c.restore_definitions.new.self)) ≡ length (symbol_names (seen c.copied_definitions.new.db)) + length c.in_ok-made.made.new_names.items
count g c =
    count-made c.in_ok-made.made.new_names.items (seen c.args.db.now) (seen c.restore_definitions.new.self) (left g c)
    ∙ ap (λ (d : Database g.row.P.Denot). length (symbol_names d) + length c.in_ok-made.made.new_names.items) (sym c.copied_definitions.ensures.same)

pub returns-clause-whole : goal.returns-clause-whole
returns-clause-whole g c = ap (λ (d : Database g.row.P.Denot). length d.table) c.restore_definitions.ensures ∙ c.in_ok-made.ensures.entries ∙ sym (count g c)

pub returns-clause-words : goal.returns-clause-words
returns-clause-words g c = c.in_ok-made.ensures.words ∙ sym (count g c)
