use Rattle.std.proofs.Common.{inl, inr, subst, ◌∙◌}
use Rattle.link_rules.specs.Places.{Bytes}
use Rattle.link_program_streams.specs.Streams.{Takes}
use Rattle.link_program.proofs.OneText.{due-or_memory}
use Rattle.link_program.proofs.run.run.Goals as goal

pub returns-in-Ok-write_all-clause-complete : goal.returns-in-Ok-write_all-clause-complete
returns-in-Ok-write_all-clause-complete g c = λ status text due no_read no_write.
    elim (due-or_memory _ _ status c.in-Ok.answer.status text c.in-Ok.answer.text.items due (λ fault. no_read (c.in-Ok.ensures.read_fault fault)) c.in-Ok.ensures.text) [
      | inl done ↦ inl (done.0, subst (λ (bytes : Bytes). Takes (g.K.Sink.taken c.args.sink.now) (g.K.Sink.taken c.write_all.new.sink) bytes) (c.deref.ensures.value ∙ done.1) c.in-Ok-write_all.ensures.whole)
      | inr memory ↦ inr memory
    ]
