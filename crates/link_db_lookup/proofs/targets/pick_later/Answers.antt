use Rattle.std.proofs.Common.{◌<◌, ◌∙◌, ap, sym, subst, length, IfSome}
use Rattle.link_flags.specs.Pick.{pick}
use Rattle.link_db_files.specs.HeldFiles.{names_in}
use Rattle.link_db_mapping.specs.Seen.{seen}
use Rattle.link_db_lookup.specs.Unshared.{unshared}
use Rattle.link_db_lookup.proofs.Lookups.{pick-below, unshared-below}
use Rattle.link_db_lookup.proofs.targets.pick_later.Goals as goal

pub returns-clause-value : goal.returns-clause-value
returns-clause-value g c =
    let weak = g.P.Platform.WEAK_SYMBOLS_OVERRIDE_COMMON in
    c.pick_unshared.ensures ∙ ap (λ held. pick weak (unshared held c.later_definitions.result.now)) c.files.ensures
    ∙ ap (λ later. pick weak (unshared (seen c.args.mapping.now).files later)) c.later_definitions.ensures.value

pub returns-clause-within : goal.returns-clause-within
returns-clause-within g c =
    let held = c.files.result.now in
    let later = c.later_definitions.result.now in
    let n = length (names_in (seen c.args.mapping.now).files) in
    let found = pick-below n g.P.Platform.WEAK_SYMBOLS_OVERRIDE_COMMON (unshared held later) (unshared-below held n later c.later_definitions.ensures.within) in
    subst (λ result. IfSome result (λ id. id < n)) (sym c.pick_unshared.ensures) found
