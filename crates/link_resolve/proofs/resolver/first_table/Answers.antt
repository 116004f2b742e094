use Rattle.std.proofs.Common.{◌∙◌, ◌≤◌, ℕ, List, Option, ap, arith, length, subst, sym}
use Rattle.link_db_files.specs.GroupFiles.{symbols_in}
use Rattle.link_db_files.specs.HeldFiles.{HeldFiles}
use Rattle.link_db_symbols.specs.Lookups.{AreBelow}
use Rattle.link_db.specs.Database.{symbol_names}
use Rattle.link_db.specs.Seen.{seen}
use Rattle.link_resolve.proofs.Loaded.{all-named, selection-of}
use Rattle.link_resolve.proofs.resolver.first_table.Goals as goal

pub returns-clause-table : goal.returns-clause-table
returns-clause-table g c = λ demangle l is.
    c.in_ok-table.ensures.value l (selection-of _ demangle (seen c.args.db.now) c.args.resolved.now l (symbols_in c.files.result.now.groups) c.targets.result.now is
    (ap (λ (h : HeldFiles g.row.P.Denot). symbols_in h.groups) c.files.ensures) c.targets.ensures)

pub returns-clause-whole : goal.returns-clause-whole
returns-clause-whole g c =
    c.in_ok-table.ensures.len ∙ (ap (λ (h : HeldFiles g.row.P.Denot). length (symbols_in h.groups)) c.files.ensures ∙ sym (all-named (seen c.args.db.now) c.requires.listed.added))

pub returns-clause-within : goal.returns-clause-within
returns-clause-within g c =
    let same = ap (λ (h : HeldFiles g.row.P.Denot). length (symbols_in h.groups)) c.files.ensures ∙ sym (all-named (seen c.args.db.now) c.requires.listed.added) in
    let fits : length (symbols_in c.files.result.now.groups) ≤ length (symbol_names (seen c.args.db.now)) = omega (arith, same) in
    c.in_ok-table.ensures.below (length (symbol_names (seen c.args.db.now))) fits c.names_are_mapped_to_symbols.ensures
    (subst (λ (ts : List (Option ℕ)). AreBelow (length (symbol_names (seen c.args.db.now))) ts) (sym c.targets.ensures) c.requires.below)
