use Rattle.std.proofs.Common.{◌≡◌, ◌∙◌, ◌++◌, ℕ, List, Option, ap, subst, sym}
use Rattle.link_db_symbols.specs.Lookups.{AreBelow}
use Rattle.link_resolve_extraction.specs.Answer.{AreTargetsRead}
use Rattle.link_resolve_extraction.proofs.answer.read_targets.Goals as goal
use Rattle.link_resolve_extraction.proofs.answer.read_targets.Goals.{In_ok-write_targets}

-- what is written over is what earlier batches settled
settled-is : (c : In_ok-write_targets) → c.extend_from_slice.new.self.items ≡ c.args.settled.now
settled-is c = c.in_ok-extend_from_slice.ensures.items ∙ ap (λ l. l ++ c.args.settled.now) c.in_ok-targets.ensures.items

pub returns-clause-read : goal.returns-clause-read
returns-clause-read c =
    subst (λ (ts : List (Option ℕ)). AreTargetsRead c.args.symbols ts c.args.found.now c.write_targets.new.targets.items) (settled-is c) c.in_ok-write_targets.ensures.read

pub returns-clause-below : goal.returns-clause-below
returns-clause-below c = λ n below each.
    c.in_ok-write_targets.ensures.below n (subst (λ (ts : List (Option ℕ)). AreBelow n ts) (sym (settled-is c)) below) each
