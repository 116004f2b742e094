use Rattle.std.proofs.Common.{◌≡◌, ◌∙◌, ℕ, List, true, None, Some, ap, if◌then◌else◌, sym}
use Rattle.std.specs.Prelude.{option_and_then}
use Rattle.link_db_buckets.specs.Keys.{Key}
use Rattle.link_db_mapping.specs.Keys.{versioned_key}
use Rattle.link_db_mapping.specs.Mapped.{mapped_key}
use Rattle.link_db.specs.Database.{name_table_of}
use Rattle.link_db.specs.Seen.{seen}
use Rattle.link_rules.specs.Targets.{target_in}
use Rattle.link_resolve_explanation.proofs.Naming.{open-target}
use Rattle.link_resolve_explanation.proofs.heads.versioned_head.Goals as goal

-- a reference that other files may see stands for what its name and version are mapped to
pub returns : goal.returns
returns g c =
    let x = c.args.symbol.now in
    let weak = g.P.Platform.WEAK_SYMBOLS_OVERRIDE_COMMON in
    let table = name_table_of (seen c.args.db.now) in
    let version = c.in_ok-version.version in
    let first = λ (name version : List ℕ). mapped_key (seen c.args.db.now).mapping (versioned_key name version) in
    let found : c.get.result ≡ first x.name version =
    c.get.ensures.target ∙ ap (λ (k : Key). target_in weak table true k.name k.version) c.new.ensures
    ∙ ap (λ (name : List ℕ). target_in weak table true name (Some c.as_slice-2.result.now)) (c.as_slice.ensures ∙ c.name-name.ensures)
    ∙ ap (λ (v : List ℕ). target_in weak table true x.name (Some v)) c.as_slice-2.ensures ∙ open-target weak table x.name version in
    found ∙ sym (ap (λ b. if b then option_and_then (first x.name) x.version else None) (sym c.is_version_listed.ensures ∙ c.if-not-is_version_listed.false)
    ∙ ap (option_and_then (first x.name)) (sym c.version.ensures ∙ c.in_ok-version.was))
