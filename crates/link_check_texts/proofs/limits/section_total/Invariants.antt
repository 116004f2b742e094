use Rattle.std.proofs.Common.{◌≡◌, ◌+◌, ◌≤◌, ◌*◌, ◌^◌, drop}
use Rattle.link_input.specs.InputFiles.{sections_of}
use Rattle.link_input.specs.Limits.{total}
use Rattle.link_check_texts.proofs.limits.section_total.Given as goal

abbrev pub invariant-loop-object : goal.invariant-loop-object
invariant-loop-object g l = record {
  counted : l.count + total sections_of (drop l.object-index l.objects) ≡ total sections_of l.objects;
  small : l.count ≤ l.object-index * 2 ^ 32;
}
