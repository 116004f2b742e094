use Rattle.std.proofs.Common.{◌∙◌, ℕ, List, Option, ap, length}
use Rattle.std.proofs.lemmas.List.{length-map}
use Rattle.link_db.specs.Seen.{seen}
use Rattle.link_db_files.specs.GroupFiles.{symbols_in}
use Rattle.link_db_mapping.specs.Keys.{versioned_key}
use Rattle.link_db_mapping.specs.Mapped.{mapped_key}
use Rattle.link_resolve_explanation.specs.Gathered.{checked_heads, gathered}
use Rattle.link_resolve_explanation.specs.Heads.{versioned_head}
use Rattle.link_resolve_explanation.proofs.CheckedHeads.{checked-length}
use Rattle.link_resolve_explanation.proofs.Naming.{versioned-told}
use Rattle.link_resolve_explanation.proofs.name_lists.versioned_lists.Goals as goal

pub returns-clause-count : goal.returns-clause-count
returns-clause-count g c =
    let db = seen c.args.db.now in
    ap (λ (heads : List (Option ℕ)). length heads) c.in_ok-lists.ensures ∙ checked-length c.as_slice.result.now
    ∙ ap (λ (heads : List (Option ℕ)). length heads) (c.as_slice.ensures.value ∙ c.in_ok-heads.ensures)
    ∙ length-map (symbols_in db.mapping.files.groups) (versioned_head (λ name version. mapped_key db.mapping (versioned_key name version)))

pub returns-clause-listed : goal.returns-clause-listed
returns-clause-listed g c = λ weak known l is s.
    ap (λ heads. gathered heads s) (c.in_ok-lists.ensures ∙ ap checked_heads c.as_slice.ensures.value)
    ∙ versioned-told (seen c.args.db.now) known l is c.in_ok-heads.heads.items c.in_ok-heads.ensures s
