use Rattle.std.proofs.Common.{ap, arith, length}
use Rattle.link_db.specs.Database.{Database}
use Rattle.link_db.specs.Seen.{seen}
use Rattle.link_resolve.proofs.Making.{count-group, made-behind}
use Rattle.link_resolve.proofs.undefined.add_group_of.Goals as goal

pub add_symbols-requires-clause-table : goal.add_symbols-requires-clause-table
add_symbols-requires-clause-table g c =
    let is = c.in_ok-_file.ensures.ok in
    omega (arith, count-group (seen c.args.db.now) (seen c.new_synthetic_symbols_group.new.self) is, ap (λ (d : Database g.row.P.Denot). length d.table) is, c.requires.table)

pub add_symbols-requires-clause-flags : goal.add_symbols-requires-clause-flags
add_symbols-requires-clause-flags g c =
    omega (arith, count-group (seen c.args.db.now) (seen c.new_synthetic_symbols_group.new.self) c.in_ok-_file.ensures.ok, c.requires.flags)

pub add_symbols-requires-clause-fits : goal.add_symbols-requires-clause-fits
add_symbols-requires-clause-fits g c =
    omega (arith, count-group (seen c.args.db.now) (seen c.new_synthetic_symbols_group.new.self) c.in_ok-_file.ensures.ok, c.requires.fits)

pub returns : goal.returns
returns g c =
    made-behind c.args.names.items (seen c.args.db.now) (seen c.new_synthetic_symbols_group.new.self) (seen c.add_symbols.new.db) c.in_ok-_file.ensures.ok c.in_ok-add_symbols.ensures
