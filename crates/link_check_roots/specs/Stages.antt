-- The stage whose roots follow from what a link of one batch is given.
use Rattle.std.specs.Prelude.{◌≡◌, List}
use Rattle.link_input.specs.declared.internal_symbols.InternalSymDefInfo.{InternalSymDefInfo}
use Rattle.link_input.specs.declared.options.Options.{Options}
use Rattle.link_input.specs.InputFiles.{Batch}
use Rattle.link_input.specs.PreludeSymbols.{prelude_symbols}
use Rattle.link_rules.specs.Places.{Bytes}
use Rattle.link_rules.specs.World.{Stage, nothing_earlier}
use Rattle.link_check_names.specs.Named.{Named}
use Rattle.link_check_symbols.specs.Gathered.{link_symbols}

-- a stage with this prelude, the files of this batch, these options and required names, and the names of their symbols, before which
-- no batch came
pub record IsRootStage (definitions : List InternalSymDefInfo) (b : Batch) (options : Options) (required : List Bytes) (n : Named)
    (w : Stage) : Type 0 where
  pub objects : w.objects ≡ b.objects
  pub scripts : w.scripts ≡ b.scripts
  pub given : w.options ≡ options
  pub prelude : prelude_symbols w.options ≡ definitions
  pub exports : w.rules.required_exports ≡ required
  pub symbols : w.symbols ≡ n.symbols
  pub gathered : w.symbols ≡ link_symbols (prelude_symbols w.options) b
  pub wrap : w.options.wrap ≡ n.wrap
  pub first : w.earlier ≡ nothing_earlier
