use Rattle.std.proofs.Common.{subst, sym, ⊎_elim}
use Rattle.link_input_groups.specs.declared.sequenced_input.SequencedInput.{SequencedInput}
use Rattle.link_input_groups.proofs.Reading.{IsLinkers, strength-linkers}
use Rattle.link_input_groups.proofs.sequenced_input.SequencedInput.input_symbol_strength.Goals as goal

pub returns-in-Prelude : goal.returns-in-Prelude
returns-in-Prelude g c =
    let is : IsLinkers c.args.self.now = ⊎_elim (λ p. subst (λ (i : SequencedInput g.row.P.Denot). IsLinkers i) (sym p.1) tt) (λ p. subst (λ (i : SequencedInput g.row.P.Denot). IsLinkers i) (sym p.1) tt) c.in-Prelude.is in
    strength-linkers c.args.self.now c.args.id c.requires.table c.requires.inside is

pub returns-in-Prelude-2 : goal.returns-in-Prelude-2
returns-in-Prelude-2 g c =
    let is : IsLinkers c.args.self.now = ⊎_elim (λ p. subst (λ (i : SequencedInput g.row.P.Denot). IsLinkers i) (sym p.1) tt) (λ p. subst (λ (i : SequencedInput g.row.P.Denot). IsLinkers i) (sym p.1) tt) c.in-Prelude.is in
    strength-linkers c.args.self.now c.args.id c.requires.table c.requires.inside is
