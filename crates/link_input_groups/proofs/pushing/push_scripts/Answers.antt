use Rattle.std.proofs.Common.{◌≡◌, ◌+◌, ◌==◌, ◌∙◌, ap, map, length, false, arith, ◌++◌, ◌∷◌, [], sym, append_assoc, length-append}
use Rattle.std.proofs.lemmas.Grind.{common_steps}
use Rattle.link_input_groups.specs.declared.group.Group.TheVariants as group
use Rattle.link_input.specs.InputFiles.{linker_script, section_count}
use Rattle.link_input_groups.specs.Groups.{script_file}
use Rattle.link_input.specs.Limits.{total}
use Rattle.link_input_groups.proofs.AddsLemmas.{adds-group, one_group-some, no-script-sections}
use Rattle.link_input_groups.proofs.pushing.push_scripts.Goals as goal

pub returns-clause-adds : goal.returns-clause-adds
returns-clause-adds g c =
    let files = map linker_script c.args.scripts.items in
    let some : (length files == 0) ≡ false = grind (arith, common_steps) in
    let sections : c.sequence_scripts.new.next.sections ≡ c.args.next.now.sections + total section_count files = omega (arith, c.in_ok-files.ensures.sections, no-script-sections c.args.scripts.items) in
    rw (one_group-some files some) (adds-group (c.args.held.now ++ c.args.groups.now.items) (c.args.held.now ++ c.push.new.self.items) (group.LinkerScripts c.from_vec.result) (length c.args.held.now + c.len.result) c.args.next.now c.sequence_scripts.new.next files c.args.scripts.items
    (ap (λ l. c.args.held.now ++ l) c.in_ok-push.ensures.items ∙ sym (append_assoc c.args.held.now c.args.groups.now.items (group.LinkerScripts c.from_vec.result ∷ [])))
    (ap (map script_file) c.from_vec.ensures ∙ c.in_ok-files.ensures.files)
    (ap (map (λ s. s.file_id)) c.from_vec.ensures ∙ c.in_ok-files.ensures.ids)
    (omega (arith, c.len.ensures ∙ c.args.groups.now.ok.0, length-append c.args.held.now c.args.groups.now.items))
    c.in_ok-files.ensures.symbols
    sections)
