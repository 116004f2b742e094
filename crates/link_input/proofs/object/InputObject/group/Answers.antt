use Rattle.std.proofs.Common.{◌≡◌, ◌<◌, get_or, length, subst, sym}
use Rattle.link_input.specs.declared.object.ObjectTable.{ObjectTable}
use Rattle.link_input.proofs.Accepted.{GroupInside, group_inside}
use Rattle.link_input.proofs.object.InputObject.group.Given as given
use Rattle.link_input.proofs.object.InputObject.group.Goals as goal

inside : (g : given.Over) (c : goal.After-index-groups-group g) → GroupInside c.args.self.now c.index-groups-group.result
inside g c =
    let o = c.self.inside in
    let table : ObjectTable = record { is_dynamic = o.is_dynamic; lib_name = o.lib_name; sections = o.sections; symbols = o.symbols; groups = o.groups; section_references = o.section_references; retained_sections = o.retained_sections } in
    let group = c.index-groups-group.result in
    let same : table ≡ c.args.self.now = c.self.view_is in
    let within : c.args.group < length table.groups = subst (λ (t : ObjectTable). c.args.group < length t.groups) (sym same) c.requires in
    let read : group ≡ get_or table.groups c.args.group group = rw c.as_slice-groups.ensures at c.index-groups-group.is in
    let P : ObjectTable → Type 0 = λ t. GroupInside t group in
    subst P same (group_inside g.P.Platform.HAS_NULL_SYMBOL_ENTRY table c.self.invariant c.args.group group within read)

pub returns-clause-signature : goal.returns-clause-signature
returns-clause-signature g c = (inside g c).signature

pub returns-clause-header : goal.returns-clause-header
returns-clause-header g c = (inside g c).header

pub returns-clause-members : goal.returns-clause-members
returns-clause-members g c = (inside g c).members
