use Rattle.std.proofs.Common.{◌∙◌, ap}
use Rattle.link_check_names.specs.Lists.{list_in}
use Rattle.link_check_names.proofs.Keying.{seen}
use Rattle.link_check_names.proofs.Listing.{items_of, listed_of}
use Rattle.link_check_names.proofs.lists.NameLists.get.Goals as goal

pub returns-in-Some : goal.returns-in-Some
returns-in-Some c =
    let name = c.args.name.now in
    let version = seen c.args.version in
    c.as_slice.ensures.value
    ∙ (ap items_of c.in-Some.ensures.value
    ∙ (listed_of c.self.inside.lists.entries c.name_key.result name version c.name_key.ensures ∙ ap (λ listed. list_in listed name version) c.self.view_is))

pub returns-in-None : goal.returns-in-None
returns-in-None c =
    let name = c.args.name.now in
    let version = seen c.args.version in
    ap items_of c.in-None.ensures.value
    ∙ (listed_of c.self.inside.lists.entries c.name_key.result name version c.name_key.ensures ∙ ap (λ listed. list_in listed name version) c.self.view_is)
