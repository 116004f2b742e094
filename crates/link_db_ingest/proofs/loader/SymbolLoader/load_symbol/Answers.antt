use Rattle.std.proofs.Common.{sym, ◌∙◌}
use Rattle.std.proofs.lemmas.Result.{on_ok_weaker}
use Rattle.link_db_ingest.specs.Files.{entry_symbol}
use Rattle.link_db_ingest.proofs.Steps.{one_more}
use Rattle.link_db_ingest.proofs.loader.SymbolLoader.load_symbol.Goals as goal

pub returns-clause-definitions : goal.returns-clause-definitions
returns-clause-definitions g c =
    let shared = g.Self.SymbolLoader.is_dynamic in
    on_ok_weaker c.add_symbol.result (λ added. added (entry_symbol shared c.args.row.now)
    (sym (c.as_slice-name.ensures ∙ c.name.ensures)) (sym c.version_bytes.ensures)
    (c.listing_of_row-listing.ensures.plain shared c.should_ignore_symbol.ensures)
    (c.listing_of_row-listing.ensures.versioned shared c.should_ignore_symbol.ensures)) c.add_symbol.ensures.definitions

pub returns-clause-count : goal.returns-clause-count
returns-clause-count g c =
    on_ok_weaker c.add_symbol.result (λ added. one_more c.args.read.now.flags.items c.add_symbol.new.self.flags.items _ added) c.add_symbol.ensures.flags
