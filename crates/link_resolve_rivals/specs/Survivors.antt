-- What is known of symbols by their ids, and that it is what a selection says of them.
use Rattle.std.specs.Prelude.{◌≡◌, ℕ, List, map, filter}
use Rattle.link_flags.specs.Pick.{is_strong}
use Rattle.link_input.specs.Symbols.{is_shared}
use Rattle.link_rules.specs.Rivals.{is_in_loaded_regular, static_entries}
use Rattle.link_rules.specs.Selection.{Selection, surviving_strength}
use Rattle.link_resolve_rivals.specs.declared.survivors.Survivors.{Survivors}

-- the columns are those of the selection's symbols, and the settings those of its stage
pub record Tells (survivors : Survivors) (l : Selection) : Type 0 where
  pub strengths : survivors.strengths.now ≡ l.strengths
  pub dynamic : survivors.dynamic.now ≡ map (λ x. is_shared x.origin) l.stage.symbols
  pub held : survivors.held.now ≡ map (λ x. is_in_loaded_regular l.marks x.origin) l.stage.symbols
  pub weak_overrides_common : survivors.weak_overrides_common ≡ l.stage.rules.weak_overrides_common
  pub allow_multiple : survivors.allow_multiple ≡ l.stage.options.allow_multiple

-- the strong entries that no shared file gives, of which two different ones clash
abbrev pub strong_entries : Selection → List ℕ → List ℕ
strong_entries l entries = filter (λ s. is_strong (surviving_strength l s)) (static_entries l entries)
