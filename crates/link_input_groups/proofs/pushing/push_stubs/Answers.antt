use Rattle.std.proofs.Common.{◌≡◌, ◌+◌, ◌==◌, ◌∙◌, ap, map, length, false, arith, ◌++◌, ◌∷◌, [], sym, append_assoc, length-append}
use Rattle.std.proofs.lemmas.Grind.{common_steps}
use Rattle.link_input_groups.specs.declared.group.Group.TheVariants as group
use Rattle.link_input.specs.InputFiles.{section_count, stub_input}
use Rattle.link_input_groups.specs.Groups.{stub_file}
use Rattle.link_input.specs.Limits.{total}
use Rattle.link_input_groups.proofs.AddsLemmas.{adds-group, one_group-some, no-stub-sections}
use Rattle.link_input_groups.proofs.pushing.push_stubs.Goals as goal

pub returns : goal.returns
returns g c =
    let files = map stub_input c.args.stubs.items in
    let some : (length files == 0) ≡ false = grind (arith, common_steps) in
    let sections : c.sequence_stubs.new.next.sections ≡ c.args.next.now.sections + total section_count files = omega (arith, c.in_ok-files.ensures.sections, no-stub-sections c.args.stubs.items) in
    rw (one_group-some files some) (adds-group (c.args.held.now ++ c.args.groups.now.items) (c.args.held.now ++ c.push.new.self.items) (group.StubLibraries c.from_vec.result) (length c.args.held.now + c.len.result) c.args.next.now c.sequence_stubs.new.next files c.args.stubs.items
    (ap (λ l. c.args.held.now ++ l) c.in_ok-push.ensures.items ∙ sym (append_assoc c.args.held.now c.args.groups.now.items (group.StubLibraries c.from_vec.result ∷ [])))
    (ap (map stub_file) c.from_vec.ensures ∙ c.in_ok-files.ensures.files)
    (ap (map (λ s. s.file_id)) c.from_vec.ensures ∙ c.in_ok-files.ensures.ids)
    (omega (arith, c.len.ensures ∙ c.args.groups.now.ok.0, length-append c.args.held.now c.args.groups.now.items))
    c.in_ok-files.ensures.symbols
    sections)
