use Rattle.std.proofs.Common.{◌∙◌, Bool, Option, ap}
use Rattle.link_db_texts.specs.Holds.{platform_of}
use Rattle.link_rules.specs.Places.{Bytes}
use Rattle.link_rules.specs.Targets.{is_open, target_in}
use Rattle.link_db.specs.Database.{name_table_of}
use Rattle.link_db.specs.Seen.{seen}
use Rattle.link_db_stage.proofs.Tables.{stands-for}
use Rattle.link_resolve_requests.proofs.targets.looked_up.Goals as goal

-- what is looked up by the parts of its key is looked up by the reference
pub returns-clause-target : goal.returns-clause-target
returns-clause-target g c =
    let x = c.args.symbol.now in
    let platform = platform_of g.P.Platform in
    let table = name_table_of (seen c.args.db.now) in
    let key = c.key_of.result in
    c.get.ensures.target
    ∙ (ap (λ (is_open_here : Bool). target_in platform.weak_overrides_common table is_open_here key.name key.version) c.is_open.ensures
    ∙ (ap (λ (name : Bytes). target_in platform.weak_overrides_common table (is_open x) name key.version) c.key_of.ensures.name
    ∙ ap (λ (version : Option Bytes). target_in platform.weak_overrides_common table (is_open x) x.name version) c.key_of.ensures.version))

pub returns-clause-value : goal.returns-clause-value
returns-clause-value g c = λ demangle w at.
    let x = c.args.symbol.now in
    let platform = platform_of g.P.Platform in
    let table = name_table_of (seen c.args.db.now) in
    let key = c.key_of.result in
    c.get.ensures.target
    ∙ (ap (λ (is_open_here : Bool). target_in platform.weak_overrides_common table is_open_here key.name key.version) c.is_open.ensures
    ∙ (ap (λ (name : Bytes). target_in platform.weak_overrides_common table (is_open x) name key.version) c.key_of.ensures.name
    ∙ (ap (λ (version : Option Bytes). target_in platform.weak_overrides_common table (is_open x) x.name version) c.key_of.ensures.version
    ∙ stands-for platform demangle (seen c.args.db.now) w at x)))
