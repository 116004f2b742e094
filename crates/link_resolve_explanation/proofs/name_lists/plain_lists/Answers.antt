use Rattle.std.proofs.Common.{◌≡◌, ◌∙◌, ℕ, List, Option, ap, length}
use Rattle.std.proofs.lemmas.List.{length-map}
use Rattle.link_db.specs.Seen.{seen}
use Rattle.link_db_files.specs.GroupFiles.{symbols_in}
use Rattle.link_db_files.specs.HeldFiles.{HeldFiles}
use Rattle.link_db_mapping.specs.Mapped.{mapping_of}
use Rattle.link_input.specs.declared.options.Options.{Options}
use Rattle.link_names.specs.Names.{value_in}
use Rattle.link_resolve_explanation.specs.Gathered.{checked_heads, gathered}
use Rattle.link_resolve_explanation.specs.Heads.{known_first, plain_head}
use Rattle.link_resolve_explanation.specs.Wraps.{wrapped_first}
use Rattle.link_resolve_explanation.proofs.CheckedHeads.{checked-length}
use Rattle.link_resolve_explanation.proofs.Naming.{plain-told}
use Rattle.link_resolve_explanation.proofs.name_lists.plain_lists.Goals as goal

pub returns-clause-count : goal.returns-clause-count
returns-clause-count g c =
    let db = seen c.args.db.now in
    ap (λ (heads : List (Option ℕ)). length heads) c.in_ok-lists.ensures ∙ checked-length c.as_slice-2.result.now
    ∙ ap (λ (heads : List (Option ℕ)). length heads) (c.as_slice-2.ensures.value ∙ c.in_ok-heads.ensures)
    ∙ length-map (symbols_in db.mapping.files.groups) (plain_head (known_first (mapping_of db.mapping) (value_in c.in_ok-noted.noted)))

pub returns-clause-listed : goal.returns-clause-listed
returns-clause-listed g c = λ weak known l is s.
    let db = seen c.args.db.now in
    let notes : (name : List ℕ) → value_in c.in_ok-noted.noted name ≡ wrapped_first db.options.wrap (symbols_in db.mapping.files.groups) name = λ name.
    c.in_ok-noted.ensures name
    ∙ ap (λ (wraps : List (List ℕ)). wrapped_first wraps (symbols_in c.files.result.now.groups) name) (c.as_slice.ensures ∙ ap (λ (o : Options). o.wrap) c.options.ensures)
    ∙ ap (λ (f : HeldFiles g.row.P.Denot). wrapped_first db.options.wrap (symbols_in f.groups) name) c.files.ensures in
    ap (λ heads. gathered heads s) (c.in_ok-lists.ensures ∙ ap checked_heads c.as_slice-2.ensures.value)
    ∙ plain-told db known l is c.in_ok-heads.heads.items (value_in c.in_ok-noted.noted) notes c.in_ok-heads.ensures s
