-- Worked examples: small worlds of several batches, and what a link of each answers.
-- Written by `tools/worlds.py` from `tools/batch_rows.jsonl`.
use Rattle.std.specs.Prelude.{[], ◌∷◌, true, false, None, codes, ◌++◌}
use Rattle.link_input.specs.declared.options.OutputKind.TheVariants.{DynamicExecutable}
use Rattle.link_input.specs.declared.internal_symbols.RedirectKind.TheVariants.{Script}
use Rattle.link_input.specs.Defaults.{default_options}
use Rattle.link_rules.specs.Rules.{elf_like}
use Rattle.link_rules.specs.World.{world_of}
use Rattle.link_rules.specs.Building.{undemangled, null_entry, refers, defines, file, object, shared, redirect, linker_script, stub, texts}
use Rattle.link_rules_worlds.specs.Computing.{Case, report}

-- the symbols of linker scripts and stub libraries stand before those of the next batch's objects
abbrev pub a_batch_has_its_ids_together : Case
a_batch_has_its_ids_together = record {
  world = world_of elf_like undemangled (record {
    first = record {
      objects = object (codes "main.o") (refers (codes "foo") ∷ refers (codes "bar") ∷ []) ∷ [];
      scripts = linker_script (codes "s.ld") None None (redirect (codes "foo") Script [] false ∷ []) ∷ [];
      stubs = stub (codes "l.tbd") (codes "bar" ∷ []) [] ∷ [];
    };
    later =
        record {
          objects = object (codes "b.o") (defines (codes "baz") 1 ∷ []) ∷ [];
          scripts = linker_script (codes "t.ld") None None (redirect (codes "qux") Script [] false ∷ []) ∷ [];
          stubs = [];
        } ∷ [];
    options = default_options;
    texts = texts None None;
  });
  outcome = report (
      codes "loaded 0 main.o\n" ++
      codes "loaded 1 b.o\n" ++
      codes "symbol 0 <unnamed> -> 0 [ABSOLUTE]\n" ++
      codes "symbol 1 <unnamed> -> 0 [ABSOLUTE | NON_INTERPOSABLE]\n" ++
      codes "symbol 2 foo -> 4 [ABSOLUTE]\n" ++
      codes "symbol 3 bar -> 5 [ABSOLUTE]\n" ++
      codes "symbol 4 foo -> 4 [NON_INTERPOSABLE | HAS_NON_IR_REF]\n" ++
      codes "symbol 5 bar -> 5 [DYNAMIC | HAS_NON_IR_REF]\n" ++
      codes "symbol 6 <unnamed> -> 0 [ABSOLUTE | NON_INTERPOSABLE]\n" ++
      codes "symbol 7 baz -> 7 [NON_INTERPOSABLE]\n" ++
      codes "symbol 8 qux -> 8 [NON_INTERPOSABLE]\n");
}

-- a reference that waited loads a shared object that is linked as needed
abbrev pub a_shared_object_of_a_later_batch : Case
a_shared_object_of_a_later_batch = record {
  world = world_of elf_like undemangled (record {
    first = record { objects = object (codes "main.o") (refers (codes "foo") ∷ []) ∷ []; scripts = []; stubs = [] };
    later =
        record {
          objects = file (codes "l.so") true false false true 4 (null_entry ∷ defines (codes "foo") 1 ∷ []) [] ∷ [];
          scripts = [];
          stubs = [];
        } ∷ [];
    options = record default_options { output = DynamicExecutable };
    texts = texts None None;
  });
  outcome = report (
      codes "loaded 0 main.o\n" ++
      codes "loaded 1 l.so\n" ++
      codes "symbol 0 <unnamed> -> 0 [ABSOLUTE]\n" ++
      codes "symbol 1 <unnamed> -> 0 [ABSOLUTE | NON_INTERPOSABLE]\n" ++
      codes "symbol 2 foo -> 4 [ABSOLUTE]\n" ++
      codes "symbol 3 <unnamed> -> 0 [ABSOLUTE | DYNAMIC]\n" ++
      codes "symbol 4 foo -> 4 [DYNAMIC | HAS_NON_IR_REF]\n");
}

-- a waiting reference of a shared object loads no shared object
abbrev pub two_shared_objects_of_two_batches : Case
two_shared_objects_of_two_batches = record {
  world = world_of elf_like undemangled (record {
    first = record {
      objects = object (codes "main.o") [] ∷ shared (codes "l.so") (refers (codes "foo") ∷ []) ∷ [];
      scripts = [];
      stubs = [];
    };
    later =
        record {
          objects = file (codes "m.so") true false false true 4 (null_entry ∷ defines (codes "foo") 1 ∷ []) [] ∷ [];
          scripts = [];
          stubs = [];
        } ∷ [];
    options = record default_options { output = DynamicExecutable };
    texts = texts None None;
  });
  outcome = report (
      codes "loaded 0 main.o\n" ++
      codes "loaded 1 l.so\n" ++
      codes "symbol 0 <unnamed> -> 0 [ABSOLUTE]\n" ++
      codes "symbol 1 <unnamed> -> 0 [ABSOLUTE | NON_INTERPOSABLE]\n" ++
      codes "symbol 2 <unnamed> -> 0 [ABSOLUTE | DYNAMIC]\n" ++
      codes "symbol 3 foo -> 5 [ABSOLUTE | DYNAMIC]\n" ++
      codes "symbol 4 <unnamed> -> 0 [ABSOLUTE | DYNAMIC]\n" ++
      codes "symbol 5 foo -> 5 [DYNAMIC | HAS_NON_IR_REF]\n");
}
