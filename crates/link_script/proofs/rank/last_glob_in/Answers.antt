use Rattle.std.proofs.Common.{◌∙◌, sym, length}
use Rattle.link_script.specs.Lookup.{seen}
use Rattle.link_script.proofs.VersionGlobs.{last_found, last_within}
use Rattle.link_script.proofs.rank.last_glob_in.Goals as goal

pub returns-in_err-number-clause-value : goal.returns-in_err-number-clause-value
returns-in_err-number-clause-value c =
    c.from_residual.ensures ∙ c.in_err-number.ensures
    ∙ last_found c.args.versions.now c.args.class (seen c.args.name.now) (length c.args.versions.now) c.requires.with_globs

pub returns-clause-value : goal.returns-clause-value
returns-clause-value c =
    rw c.from.ensures
    (c.in_ok-number.ensures ∙ last_found c.args.versions.now c.args.class (seen c.args.name.now) (length c.args.versions.now) c.requires.with_globs)

pub returns-clause-within : goal.returns-clause-within
returns-clause-within c =
    let found = c.in_ok-number.ensures ∙ last_found c.args.versions.now c.args.class (seen c.args.name.now) (length c.args.versions.now) c.requires.with_globs in
    rw c.from.ensures (last_within c.args.class (seen c.args.name.now) c.args.versions.now (c.in_ok-number.number, c.in_ok-number.side) (sym found))
