use Rattle.std.proofs.Common.{◌≡◌, ◌==◌, ◌&&◌, ◌∙◌, Bool, List, false, not, ap, refl, sym}
use Rattle.link_input.specs.Entries.{is_local}
use Rattle.link_input.specs.Symbols.{entry_passes}
use Rattle.link_db_texts.specs.Holds.{platform_of}
use Rattle.link_rules.specs.Rivals.{is_in_loaded_regular, two_steps}
use Rattle.link_rules.specs.World.{is_definition}
use Rattle.link_db.specs.Seen.{seen}
use Rattle.link_resolve.proofs.Giving.{asks-is}
use Rattle.link_resolve.proofs.versions.asks_version.Goals as goal

pub returns-then-not-has_versions : goal.returns-then-not-has_versions
returns-then-not-has_versions g c = λ demangle l is.
    let db = seen c.args.db.now in
    let x = c.args.symbol.now in
    let s = c.args.id in
    let may = is_in_loaded_regular c.args.resolved.now.marks x.origin && is_definition x && not (entry_passes (λ e. is_local e.binding) x.origin) in
    (λ i. sym c.if-not-has_versions.true i && may && (two_steps db.table s == s))
    ∙ asks-is (platform_of g.P.Platform) demangle db c.args.resolved.now l s x c.has_versions.result may is (c.has_versions.ensures demangle l.stage.rules is.rules) refl

pub returns-then-may_have_version : goal.returns-then-may_have_version
returns-then-may_have_version g c = λ demangle l is.
    let db = seen c.args.db.now in
    let x = c.args.symbol.now in
    let s = c.args.id in
    let may = c.may_have_version.ensures
    ∙ ap (λ (marks : List Bool). is_in_loaded_regular marks x.origin && is_definition x && not (entry_passes (λ e. is_local e.binding) x.origin)) c.loaded.ensures in
    let own : c.eq.result ≡ (two_steps db.table s == s) = c.eq.ensures ∙ ap (λ t. t == s) c.definition.ensures.value in
    (λ i. sym c.if-not-has_versions.false i && sym c.if-may_have_version.true i && own i)
    ∙ asks-is (platform_of g.P.Platform) demangle db c.args.resolved.now l s x c.has_versions.result c.may_have_version.result is (c.has_versions.ensures demangle l.stage.rules is.rules) may
