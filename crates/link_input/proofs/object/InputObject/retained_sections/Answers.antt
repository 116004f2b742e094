use Rattle.std.proofs.Common.{◌≡◌, ◌<◌, ℕ, All, List, subst, sym}
use Rattle.link_input.specs.declared.object.ObjectTable.{ObjectTable}
use Rattle.link_input.proofs.Accepted.{retained_inside}
use Rattle.link_input.proofs.object.InputObject.retained_sections.Goals as goal

pub returns-clause-below : goal.returns-clause-below
returns-clause-below g c =
    let o = c.self.inside in
    let table : ObjectTable = record { is_dynamic = o.is_dynamic; lib_name = o.lib_name; sections = o.sections; symbols = o.symbols; groups = o.groups; section_references = o.section_references; retained_sections = o.retained_sections } in
    let same : table ≡ c.args.self.now = c.self.view_is in
    let listed : c.as_slice.result.now ≡ table.retained_sections = c.as_slice.ensures in
    let all = retained_inside g.P.Platform.HAS_NULL_SYMBOL_ENTRY table c.self.invariant in
    let found = subst (λ (xs : List ℕ). All (λ section. section < table.sections) xs) (sym listed) all in
    subst (λ (t : ObjectTable). All (λ section. section < t.sections) c.as_slice.result.now) same found
