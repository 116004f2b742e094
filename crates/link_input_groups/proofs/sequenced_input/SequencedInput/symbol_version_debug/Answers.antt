use Rattle.std.proofs.Common.{subst, sym, ⊎_elim}
use Rattle.link_ids.specs.Span.{offset_in}
use Rattle.link_input_groups.specs.SequencedInputs.{sequenced_file}
use Rattle.link_input_groups.specs.declared.sequenced_input.SequencedInput.{SequencedInput}
use Rattle.link_input_groups.proofs.Reading.{IsNoObject, no-version}
use Rattle.link_input_groups.proofs.sequenced_input.SequencedInput.symbol_version_debug.Goals as goal

pub returns-in-Prelude : goal.returns-in-Prelude
returns-in-Prelude g c =
    let is : IsNoObject c.args.self.now = ⊎_elim (λ p. subst (λ (i : SequencedInput g.row.P.Denot). IsNoObject i) (sym p.1) tt) (λ r4. ⊎_elim (λ p. subst (λ (i : SequencedInput g.row.P.Denot). IsNoObject i) (sym p.1) tt) (λ r3. ⊎_elim (λ p. subst (λ (i : SequencedInput g.row.P.Denot). IsNoObject i) (sym p.1) tt) (λ p. subst (λ (i : SequencedInput g.row.P.Denot). IsNoObject i) (sym p.1) tt) r3) r4) c.in-Prelude.is in
    no-version c.args.self.now (offset_in (sequenced_file c.args.self.now).symbols c.args.id) is
