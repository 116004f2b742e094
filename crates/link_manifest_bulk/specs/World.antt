-- The made-up link as what is linked.
use Rattle.std.specs.Prelude.{ℕ, [], None}
use Rattle.link_input.specs.Defaults.{default_options}
use Rattle.link_rules.specs.Rules.{elf_like}
use Rattle.link_rules.specs.World.{World, world_of}
use Rattle.link_manifest_bulk.specs.Bulk.{bulk_objects}

-- one batch of the objects, on a platform like ELF, with no script, and by the options of a link of which the user says nothing
abbrev pub bulk_world : ℕ → World
bulk_world members = world_of elf_like (λ name. name) (record {
  first = record { objects = bulk_objects members; scripts = []; stubs = [] };
  later = [];
  options = default_options;
  texts = record { version_script = None; export_list = None };
})
