-- A selection of a link, as columns by ids tell it.
use Rattle.std.specs.Prelude.{◌≡◌}
use Rattle.link_rules.specs.Selection.{Selection}
use Rattle.link_check_rivals.specs.declared.loaded.LoadedSymbols.{LoadedSymbols}

-- they tell what is selected: the symbols and wrapped names, the loaded objects, what is left of each symbol, and the settings
pub record Tells (s : LoadedSymbols) (l : Selection) : Type 0 where
  pub symbols : l.stage.symbols ≡ s.names.now.symbols
  pub wrap : l.stage.options.wrap ≡ s.names.now.wrap
  pub weak : l.stage.rules.weak_overrides_common ≡ s.weak_overrides_common
  pub multiple : l.stage.options.allow_multiple ≡ s.allow_multiple
  pub marks : l.marks ≡ s.marks.now
  pub strengths : l.strengths ≡ s.strengths.now
