use Rattle.std.proofs.Common.{◌≡◌, ◌<◌, All, List, length, subst, sym}
use Rattle.link_input.specs.declared.object.ObjectTable.{ObjectTable}
use Rattle.link_input.specs.declared.object.SectionReference.{SectionReference}
use Rattle.link_input.proofs.Accepted.{references_inside}
use Rattle.link_input.proofs.object.InputObject.section_references.Given as given
use Rattle.link_input.proofs.object.InputObject.section_references.Goals as goal

-- they are those of the table, which passes its checks
inside : (g : given.Over) (c : goal.After-as_slice g)
    → All (λ (r : SectionReference). (r.from < c.args.self.now.sections) × (r.to < length c.args.self.now.symbols)) c.as_slice.result.now
inside g c =
    let o = c.self.inside in
    let table : ObjectTable = record { is_dynamic = o.is_dynamic; lib_name = o.lib_name; sections = o.sections; symbols = o.symbols; groups = o.groups; section_references = o.section_references; retained_sections = o.retained_sections } in
    let same : table ≡ c.args.self.now = c.self.view_is in
    let listed : c.as_slice.result.now ≡ table.section_references = c.as_slice.ensures in
    let all = references_inside g.P.Platform.HAS_NULL_SYMBOL_ENTRY table c.self.invariant in
    let found = subst (λ (rs : List SectionReference). All (λ (r : SectionReference). (r.from < table.sections) × (r.to < length table.symbols)) rs) (sym listed) all in
    subst (λ (t : ObjectTable). All (λ (r : SectionReference). (r.from < t.sections) × (r.to < length t.symbols)) c.as_slice.result.now) same found

pub returns-clause-from : goal.returns-clause-from
returns-clause-from g c = λ k d lt. (inside g c k d lt).0

pub returns-clause-to : goal.returns-clause-to
returns-clause-to g c = λ k d lt. (inside g c k d lt).1
