use Rattle.std.proofs.Common.{◌∙◌, List, ap, sym}
use Rattle.link_db_files.specs.GroupFiles.{symbols_in}
use Rattle.link_db_files.specs.HeldFiles.{HeldFiles}
use Rattle.link_db_files.specs.Sources.{sources_of}
use Rattle.link_input.specs.Symbols.{Symbol}
use Rattle.link_resolve_roots.proofs.noting.object_found.Goals as goal

pub returns : goal.returns
returns g c = λ demangle w at.
    c.object_of_name.ensures demangle w at
    (c.sources.ensures
    ∙ ap (λ (h : HeldFiles g.row.P.Denot). sources_of (symbols_in h.groups)) c.files.ensures
    ∙ ap (λ (symbols : List Symbol). sources_of symbols) (sym at.symbols))
