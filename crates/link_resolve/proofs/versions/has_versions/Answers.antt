use Rattle.std.proofs.Common.{◌≡◌, ◌&&◌, ◌∙◌, true, ap, sym}
use Rattle.link_input.specs.Outputs.{is_shared_object}
use Rattle.link_db.specs.Seen.{seen}
use Rattle.link_resolve.proofs.versions.has_versions.Goals as goal

pub returns-then-is_shared_output : goal.returns-then-is_shared_output
returns-then-is_shared_output g c = λ demangle rules are.
    let shared : is_shared_object (seen c.args.db.now).options.output ≡ true =
    sym (c.is_shared_output.ensures ∙ ap is_shared_object c.output_kind.ensures) ∙ c.if-is_shared_output.true in
    (λ i. sym shared i && c.has_regular_script.ensures demangle rules are i)
