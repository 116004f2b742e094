use Rattle.std.proofs.Common.{subst, sym, ◌∙◌, codes}
use Rattle.link_manifest_json.specs.Tree.{view}
use Rattle.link_manifest.specs.declared.fault.Step.TheVariants.{Key}
use Rattle.link_manifest.specs.declared.words.PlatformName.TheVariants as platform
use Rattle.link_manifest.specs.Manifest.{has_null_entry, text_manifest}
use Rattle.link_manifest.specs.Objects.{object_read}
use Rattle.link_manifest.specs.Reading.{IsFaultOf, items_read, within}
use Rattle.link_manifest.proofs.Gathering.{of_some}
use Rattle.link_manifest.proofs.Rests.{beside, told-error}
use Rattle.link_manifest.proofs.manifest.cut_elf.Goals as goal

pub returns-in_err-elf-in-Some-clause-read : goal.returns-in_err-elf-in-Some-clause-read
returns-in_err-elf-in-Some-clause-read g c = λ text around named.
    let found = of_some c.in_ok-objects.field-0 c.in-Some.objects _ c.in-Some.is c.in_ok-objects.ensures text around in
    let rest = view c.args.root.now.rest in
    let due = within (Key (codes "objects")) (items_read (object_read (has_null_entry platform.Elf)) 0 found.0) in
    let error = c.in_err-elf-in-Some.field-0.0 in
    told-error c.from_residual-in_err-elf-in-Some.result error (text_manifest text) c.from_residual-in_err-elf-in-Some.ensures
    (subst (IsFaultOf error) (sym (beside platform.Elf text rest found.1 found.0 found.2 found.3 named)) (c.in_err-elf-in-Some.ensures.read due found.4))

pub returns-in_ok-elf-in-Some-clause-read : goal.returns-in_ok-elf-in-Some-clause-read
returns-in_ok-elf-in-Some-clause-read g c = λ text around named.
    let found = of_some c.in_ok-objects.field-0 c.in-Some.objects _ c.in-Some.is c.in_ok-objects.ensures text around in
    let due = within (Key (codes "objects")) (items_read (object_read (has_null_entry platform.Elf)) 0 found.0) in
    beside platform.Elf text (view c.args.root.now.rest) found.1 found.0 found.2 found.3 named ∙ c.in_ok-elf-in-Some.ensures.read due found.4
