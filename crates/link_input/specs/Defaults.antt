-- What holds where the user says nothing.
use Rattle.std.specs.Prelude.{[], false, None}
use Rattle.link_input.specs.declared.options.Options.{Options}
use Rattle.link_input.specs.declared.options.OutputKind.TheVariants.{StaticExecutable}
use Rattle.link_script_syntax.specs.declared.profile.ScriptProfile.TheVariants.{Wild}

-- the options of a link of which the user says nothing
abbrev pub default_options : Options
default_options = record {
  output = StaticExecutable;
  entry = None;
  default_entry = None;
  allow_multiple = false;
  files_per_group = 256;
  wrap = [];
  force_undefined = [];
  force_export = [];
  defsym = [];
  linker_symbols = [];
  custom_sections = [];
  demangle = false;
  script_profile = Wild;
  soname = None;
}
