use Rattle.std.proofs.Common.{◌≡◌, ◌∙◌, ◌++◌, ◌&&◌, [], None, ap, true}
use Rattle.std.specs.Str.{bytes_eq}
use Rattle.link_rules.specs.Names.{is_listed, is_version_listed, is_version_named}
use Rattle.link_rules.specs.Places.{kept_if, same_version}
use Rattle.link_rules.specs.World.{is_definition}
use Rattle.link_check_names.specs.Lists.{list_in}
use Rattle.link_check_names.proofs.Gathering.{plain-more}
use Rattle.link_check_names.proofs.Keying.{seen}
use Rattle.link_check_names.proofs.definitions.list_symbol.Goals as goal

pub returns-clause-plain : goal.returns-clause-plain
returns-clause-plain c = λ name.
    let x = c.args.symbol.now in
    let old = list_in c.args.lists.now name None in
    let same = bytes_eq x.name name in
    let own : c.as_slice-name.result.now ≡ x.name = c.as_slice-name.ensures ∙ c.name.ensures in
    let first : list_in c.push_if.new.lists name None ≡ old ++ kept_if (is_listed x && same && true) c.args.id [] =
    c.in_ok-push_if.ensures name None
    ∙ (ap (λ b. old ++ kept_if (b && bytes_eq c.as_slice-name.result.now name && true) c.args.id []) c.is_listed.ensures
    ∙ ap (λ n. old ++ kept_if (is_listed x && bytes_eq n name && true) c.args.id []) own) in
    let second : list_in c.push_if-2.new.lists name None ≡ list_in c.push_if.new.lists name None ++ kept_if (is_version_listed x && same && same_version x.version None) c.args.id [] =
    c.in_ok-push_if-2.ensures name None
    ∙ (ap (λ b. list_in c.push_if.new.lists name None ++ kept_if (b && bytes_eq c.as_slice-name.result.now name && same_version (seen c.version.result) None) c.args.id []) c.is_version_listed.ensures
    ∙ (ap (λ n. list_in c.push_if.new.lists name None ++ kept_if (is_version_listed x && bytes_eq n name && same_version (seen c.version.result) None) c.args.id []) own
    ∙ ap (λ v. list_in c.push_if.new.lists name None ++ kept_if (is_version_listed x && same && same_version v None) c.args.id []) c.version.ensures)) in
    second
    ∙ (ap (λ l. l ++ kept_if (is_version_listed x && same && same_version x.version None) c.args.id []) first
    ∙ plain-more old (is_listed x) (is_definition x && is_version_named x.origin) same x.version c.args.id)
