use Rattle.std.proofs.Common.{◌∙◌, ap, map, ◌+◌, ◌++◌, ◌∷◌, [], sym, length, append_assoc, length-append, arith}
use Rattle.link_input_groups.specs.declared.group.Group.TheVariants as group
use Rattle.link_input.specs.InputFiles.{object}
use Rattle.link_input_groups.specs.Groups.{object_file}
use Rattle.link_input_groups.proofs.AddsLemmas.{adds-group}
use Rattle.link_input_groups.proofs.pushing.push_objects.Goals as goal

pub returns-clause-adds : goal.returns-clause-adds
returns-clause-adds g c =
    adds-group (c.args.held.now ++ c.args.groups.now.items) (c.args.held.now ++ c.push.new.self.items) (group.Objects c.from_vec.result) (length c.args.held.now + c.len.result) c.args.next.now c.sequence_objects.new.next (map object c.args.objects.items) c.args.objects.items
    (ap (λ l. c.args.held.now ++ l) c.in_ok-push.ensures.items ∙ sym (append_assoc c.args.held.now c.args.groups.now.items (group.Objects c.from_vec.result ∷ [])))
    (ap (map object_file) c.from_vec.ensures ∙ c.in_ok-files.ensures.files)
    (ap (map (λ o. o.file_id)) c.from_vec.ensures ∙ c.in_ok-files.ensures.ids)
    (omega (arith, c.len.ensures ∙ c.args.groups.now.ok.0, length-append c.args.held.now c.args.groups.now.items))
    c.in_ok-files.ensures.symbols
    c.in_ok-files.ensures.sections
