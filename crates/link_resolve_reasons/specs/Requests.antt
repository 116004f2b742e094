-- What the references of loaded objects ask for, by what they stand for.
use Rattle.std.specs.Prelude.{ℕ, List, Option, option_and_then, option_map}
use Rattle.link_input.specs.Symbols.{Symbol, object_in}
use Rattle.link_db_files.specs.Sources.{sources_of}
use Rattle.link_db_files.specs.declared.sources.SymbolSource.{SymbolSource}
use Rattle.link_db_symbols.specs.Lookups.{target_at}
use Rattle.link_resolve_requests.specs.Requests.{request_by}
use Rattle.link_rules.specs.Places.{some_from}
use Rattle.link_resolve_reasons.specs.declared.requests.Request.{Request}

-- what the symbol of this id asks for
abbrev pub request_in : List SymbolSource → List (Option ℕ) → ℕ → Symbol → Option Request
request_in sources targets s x = option_and_then (λ f. option_map (λ g. record { symbol = s; from = f; to = g }) (request_by sources x (target_at targets s))) (object_in x.origin)

-- what all symbols ask for, in the order of their ids
abbrev pub requests_in : List (Option ℕ) → List Symbol → List Request
requests_in targets symbols = some_from (request_in (sources_of symbols) targets) 0 symbols
