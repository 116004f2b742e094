-- Worked examples: small worlds with scripts, lists, wraps and other options, and what a link of each answers.
-- Written by `tools/worlds.py` from `tools/script_rows.jsonl`.
use Rattle.std.specs.Prelude.{List, [], ◌∷◌, true, false, Some, None, codes, ◌++◌}
use Rattle.link_flags.specs.declared.visibility.Visibility.TheVariants.{Default, Protected, Hidden}
use Rattle.link_input.specs.declared.symbol_entry.Place.TheVariants.{Undefined, Section}
use Rattle.link_input.specs.declared.symbol_entry.SymbolBinding.TheVariants.{Local, Global, Weak}
use Rattle.link_input.specs.declared.symbol_entry.SymbolKind.TheVariants.{Plain, Tls}
use Rattle.link_input.specs.declared.options.OutputKind.TheVariants.{SharedObject}
use Rattle.link_input.specs.declared.internal_symbols.RedirectKind.TheVariants.{Script}
use Rattle.link_input.specs.Defaults.{default_options}
use Rattle.link_rules.specs.Rules.{elf_like, mach_like}
use Rattle.link_rules.specs.World.{world_of}
use Rattle.link_rules.specs.Building.{undemangled, entry, refers, defines, file, object, member, shared, redirect, linker_script, stub, texts, of_objects}
use Rattle.link_rules_worlds.specs.Computing.{Case, report, refusal}

-- a stub library alone is no input
abbrev pub no_objects : Case
no_objects = record {
  world = world_of elf_like undemangled (record {
    first = record { objects = []; scripts = []; stubs = stub (codes "libS.tbd") (codes "foo" ∷ []) [] ∷ [] };
    later = [];
    options = default_options;
    texts = texts None None;
  });
  outcome = refusal (codes "no input files");
}

-- a hidden reference to a wrapped name asks for the wrapper that is not shared
abbrev pub a_wrapped_name_finds_its_wrapper : Case
a_wrapped_name_finds_its_wrapper = record {
  world = world_of elf_like undemangled (of_objects (record default_options { wrap = codes "foo" ∷ [] }) (
      shared (codes "l.so") (defines (codes "__wrap_foo") 1 ∷ []) ∷
      member (codes "w.o") (defines (codes "__wrap_foo") 1 ∷ []) ∷
      object (codes "main.o") (entry (codes "foo") None true Global Hidden Plain 0 Undefined ∷ []) ∷ []));
  outcome = report (
      codes "loaded 0 l.so\n" ++
      codes "loaded 1 w.o\n" ++
      codes "loaded 2 main.o\n" ++
      codes "symbol 0 <unnamed> -> 0 [ABSOLUTE]\n" ++
      codes "symbol 1 <unnamed> -> 0 [ABSOLUTE | DYNAMIC]\n" ++
      codes "symbol 2 __wrap_foo -> 4 [DYNAMIC]\n" ++
      codes "symbol 3 <unnamed> -> 0 [ABSOLUTE | NON_INTERPOSABLE]\n" ++
      codes "symbol 4 __wrap_foo -> 4 [NON_INTERPOSABLE | DOWNGRADE_TO_LOCAL | HAS_NON_IR_REF]\n" ++
      codes "symbol 5 <unnamed> -> 0 [ABSOLUTE | NON_INTERPOSABLE]\n" ++
      codes "symbol 6 foo -> 4 [ABSOLUTE | NON_INTERPOSABLE]\n");
}

-- a name that marks the start of a custom section gets a new symbol
abbrev pub a_start_symbol_is_made : Case
a_start_symbol_is_made = record {
  world = world_of elf_like undemangled (of_objects (record default_options { custom_sections = codes "data" ∷ [] }) (
      object (codes "a.o") (refers (codes "__start_data") ∷ []) ∷
      object (codes "b.o") (refers (codes "__start_data") ∷ []) ∷ []));
  outcome = report (
      codes "loaded 0 a.o\n" ++
      codes "loaded 1 b.o\n" ++
      codes "symbol 0 <unnamed> -> 0 [ABSOLUTE]\n" ++
      codes "symbol 1 <unnamed> -> 0 [ABSOLUTE | NON_INTERPOSABLE]\n" ++
      codes "symbol 2 __start_data -> 5 [ABSOLUTE]\n" ++
      codes "symbol 3 <unnamed> -> 0 [ABSOLUTE | NON_INTERPOSABLE]\n" ++
      codes "symbol 4 __start_data -> 5 [ABSOLUTE]\n" ++
      codes "symbol 5 __start_data -> 5 [NON_INTERPOSABLE]\n");
}

-- a script of the Rust form lists one name, and all others are local
abbrev pub a_script_makes_a_name_local : Case
a_script_makes_a_name_local = record {
  world = world_of elf_like undemangled (record {
    first = record {
      objects = object (codes "a.o") (defines (codes "foo") 1 ∷ defines (codes "bar") 1 ∷ []) ∷ [];
      scripts = [];
      stubs = [];
    };
    later = [];
    options = record default_options { output = SharedObject };
    texts = texts (Some (codes "{ global: foo; local: *; };")) None;
  });
  outcome = report (
      codes "loaded 0 a.o\n" ++
      codes "symbol 0 <unnamed> -> 0 [ABSOLUTE]\n" ++
      codes "symbol 1 <unnamed> -> 0 [ABSOLUTE | NON_INTERPOSABLE]\n" ++
      codes "symbol 2 foo -> 2 []\n" ++
      codes "symbol 3 bar -> 3 [NON_INTERPOSABLE | DOWNGRADE_TO_LOCAL]\n");
}

-- an explicit version that the script declares
abbrev pub a_version_is_given : Case
a_version_is_given = record {
  world = world_of elf_like undemangled (record {
    first = record {
      objects = object (codes "a.o") (entry (codes "foo") (Some (codes "V1")) true Global Default Plain 0 (Section 1) ∷ []) ∷ [];
      scripts = [];
      stubs = [];
    };
    later = [];
    options = record default_options { output = SharedObject };
    texts = texts (Some (codes "V1 { global: *; };")) None;
  });
  outcome = report (
      codes "loaded 0 a.o\n" ++
      codes "symbol 0 <unnamed> -> 0 [ABSOLUTE]\n" ++
      codes "symbol 1 <unnamed> -> 0 [ABSOLUTE | NON_INTERPOSABLE]\n" ++
      codes "symbol 2 foo -> 2 []\n" ++
      codes "version 2 2\n");
}

-- an explicit version that the script doesn't declare
abbrev pub a_version_is_not_declared : Case
a_version_is_not_declared = record {
  world = world_of elf_like undemangled (record {
    first = record {
      objects = object (codes "a.o") (entry (codes "foo") (Some (codes "X")) true Global Default Plain 0 (Section 1) ∷ []) ∷ [];
      scripts = [];
      stubs = [];
    };
    later = [];
    options = record default_options { output = SharedObject };
    texts = texts (Some (codes "V1 { global: *; };")) None;
  });
  outcome = refusal (codes "Symbol foo has undefined version X");
}

-- a linker script has a version script where one was given
abbrev pub a_second_version_script : Case
a_second_version_script = record {
  world = world_of elf_like undemangled (record {
    first = record {
      objects = object (codes "a.o") (defines (codes "foo") 1 ∷ []) ∷ [];
      scripts = linker_script (codes "s.ld") None (Some (codes "{ global: x; };")) [] ∷ [];
      stubs = [];
    };
    later = [];
    options = default_options;
    texts = texts (Some (codes "V1 { global: *; };")) None;
  });
  outcome = refusal (codes "Multiple version scripts provided");
}

-- of two linker scripts with an entry the last one counts
abbrev pub the_last_script_says_the_entry : Case
the_last_script_says_the_entry = record {
  world = world_of elf_like undemangled (record {
    first = record {
      objects = member (codes "a.o") (defines (codes "foo") 1 ∷ []) ∷ member (codes "b.o") (defines (codes "bar") 1 ∷ []) ∷ [];
      scripts =
          linker_script (codes "s.ld") (Some (codes "foo")) None [] ∷
          linker_script (codes "t.ld") (Some (codes "bar")) None [] ∷
          linker_script (codes "u.ld") None None [] ∷ [];
      stubs = [];
    };
    later = [];
    options = default_options;
    texts = texts None None;
  });
  outcome = report (
      codes "loaded 1 b.o\n" ++
      codes "symbol 0 <unnamed> -> 0 [ABSOLUTE]\n" ++
      codes "symbol 1 <unnamed> -> 0 [ABSOLUTE | NON_INTERPOSABLE]\n" ++
      codes "symbol 2 foo -> 2 [NON_INTERPOSABLE]\n" ++
      codes "symbol 3 <unnamed> -> 0 [ABSOLUTE | NON_INTERPOSABLE]\n" ++
      codes "symbol 4 bar -> 4 [NON_INTERPOSABLE | HAS_NON_IR_REF]\n");
}

-- the option's entry counts before that of a script, and the platform's is not asked for
abbrev pub the_option_says_the_entry : Case
the_option_says_the_entry = record {
  world = world_of elf_like undemangled (record {
    first = record {
      objects =
          member (codes "a.o") (defines (codes "foo") 1 ∷ []) ∷
          member (codes "b.o") (defines (codes "bar") 1 ∷ []) ∷
          member (codes "c.o") (defines (codes "baz") 1 ∷ []) ∷ [];
      scripts = linker_script (codes "s.ld") (Some (codes "bar")) None [] ∷ [];
      stubs = [];
    };
    later = [];
    options = record default_options { entry = Some (codes "foo"); default_entry = Some (codes "baz") };
    texts = texts None None;
  });
  outcome = report (
      codes "loaded 0 a.o\n" ++
      codes "symbol 0 <unnamed> -> 0 [ABSOLUTE]\n" ++
      codes "symbol 1 <unnamed> -> 0 [ABSOLUTE | NON_INTERPOSABLE]\n" ++
      codes "symbol 2 foo -> 2 [NON_INTERPOSABLE | HAS_NON_IR_REF]\n" ++
      codes "symbol 3 <unnamed> -> 0 [ABSOLUTE | NON_INTERPOSABLE]\n" ++
      codes "symbol 4 bar -> 4 [NON_INTERPOSABLE]\n" ++
      codes "symbol 5 <unnamed> -> 0 [ABSOLUTE | NON_INTERPOSABLE]\n" ++
      codes "symbol 6 baz -> 6 [NON_INTERPOSABLE]\n");
}

-- where neither an option nor a script says the entry it is the platform's
abbrev pub the_platforms_entry : Case
the_platforms_entry = record {
  world = world_of elf_like undemangled (record {
    first = record {
      objects = member (codes "a.o") (defines (codes "foo") 1 ∷ []) ∷ [];
      scripts = linker_script (codes "s.ld") None None [] ∷ [];
      stubs = [];
    };
    later = [];
    options = record default_options { default_entry = Some (codes "foo") };
    texts = texts None None;
  });
  outcome = report (
      codes "loaded 0 a.o\n" ++
      codes "symbol 0 <unnamed> -> 0 [ABSOLUTE]\n" ++
      codes "symbol 1 <unnamed> -> 0 [ABSOLUTE | NON_INTERPOSABLE]\n" ++
      codes "symbol 2 foo -> 2 [NON_INTERPOSABLE | HAS_NON_IR_REF]\n");
}

-- a symbol of thread-local storage that the script makes local is not marked as non-interposable
abbrev pub a_local_tls_symbol : Case
a_local_tls_symbol = record {
  world = world_of elf_like undemangled (record {
    first = record {
      objects =
          object (codes "a.o") (
          entry (codes "foo") None true Global Default Tls 0 (Section 1) ∷
          defines (codes "bar") 1 ∷
          defines (codes "baz") 1 ∷ []) ∷ [];
      scripts = [];
      stubs = [];
    };
    later = [];
    options = record default_options { output = SharedObject };
    texts = texts (Some (codes "V1 { global: bar; local: *; };")) None;
  });
  outcome = report (
      codes "loaded 0 a.o\n" ++
      codes "symbol 0 <unnamed> -> 0 [ABSOLUTE]\n" ++
      codes "symbol 1 <unnamed> -> 0 [ABSOLUTE | NON_INTERPOSABLE]\n" ++
      codes "symbol 2 foo -> 2 [DOWNGRADE_TO_LOCAL]\n" ++
      codes "symbol 3 bar -> 3 []\n" ++
      codes "symbol 4 baz -> 4 [NON_INTERPOSABLE | DOWNGRADE_TO_LOCAL]\n" ++
      codes "version 2 2\n" ++
      codes "version 3 2\n" ++
      codes "version 4 2\n");
}

-- a script of the Rust form frees what the listed name means, here the second of its definitions
abbrev pub a_rust_name_means_its_definition : Case
a_rust_name_means_its_definition = record {
  world = world_of elf_like undemangled (record {
    first = record {
      objects =
          object (codes "a.o") (entry (codes "foo") None true Weak Default Plain 0 (Section 1) ∷ []) ∷
          object (codes "b.o") (defines (codes "foo") 1 ∷ []) ∷ [];
      scripts = [];
      stubs = [];
    };
    later = [];
    options = record default_options { output = SharedObject };
    texts = texts (Some (codes "{ global: foo; local: *; };")) None;
  });
  outcome = report (
      codes "loaded 0 a.o\n" ++
      codes "loaded 1 b.o\n" ++
      codes "symbol 0 <unnamed> -> 0 [ABSOLUTE]\n" ++
      codes "symbol 1 <unnamed> -> 0 [ABSOLUTE | NON_INTERPOSABLE]\n" ++
      codes "symbol 2 foo -> 4 [NON_INTERPOSABLE | DOWNGRADE_TO_LOCAL]\n" ++
      codes "symbol 3 <unnamed> -> 0 [ABSOLUTE | NON_INTERPOSABLE]\n" ++
      codes "symbol 4 foo -> 4 []\n");
}

-- the record that makes a start symbol passes no visibility, an earlier one does
abbrev pub a_maker_passes_no_visibility : Case
a_maker_passes_no_visibility = record {
  world = world_of elf_like undemangled (of_objects (record default_options {
    custom_sections = codes "data" ∷ codes "d2" ∷ [];
  }) (
      object (codes "a.o") (
      refers (codes "__start_data") ∷
      entry (codes "__start_d2") None true Global Hidden Plain 0 Undefined ∷
      entry (codes "__stop_data") None true Global Protected Plain 0 Undefined ∷ []) ∷
      object (codes "b.o") (
      entry (codes "__start_data") None true Global Hidden Plain 0 Undefined ∷
      refers (codes "__start_d2") ∷ []) ∷ []));
  outcome = report (
      codes "loaded 0 a.o\n" ++
      codes "loaded 1 b.o\n" ++
      codes "symbol 0 <unnamed> -> 0 [ABSOLUTE]\n" ++
      codes "symbol 1 <unnamed> -> 0 [ABSOLUTE | NON_INTERPOSABLE]\n" ++
      codes "symbol 2 __start_data -> 9 [ABSOLUTE]\n" ++
      codes "symbol 3 __start_d2 -> 8 [ABSOLUTE | NON_INTERPOSABLE]\n" ++
      codes "symbol 4 __stop_data -> 10 [ABSOLUTE | NON_INTERPOSABLE]\n" ++
      codes "symbol 5 <unnamed> -> 0 [ABSOLUTE | NON_INTERPOSABLE]\n" ++
      codes "symbol 6 __start_data -> 9 [ABSOLUTE | NON_INTERPOSABLE]\n" ++
      codes "symbol 7 __start_d2 -> 8 [ABSOLUTE]\n" ++
      codes "symbol 8 __start_d2 -> 8 [NON_INTERPOSABLE | DOWNGRADE_TO_LOCAL]\n" ++
      codes "symbol 9 __start_data -> 9 [NON_INTERPOSABLE]\n" ++
      codes "symbol 10 __stop_data -> 10 [NON_INTERPOSABLE]\n");
}

-- the second linker script with a version text is one too many
abbrev pub two_linker_scripts_with_versions : Case
two_linker_scripts_with_versions = record {
  world = world_of elf_like undemangled (record {
    first = record {
      objects = object (codes "a.o") (defines (codes "foo") 1 ∷ []) ∷ [];
      scripts =
          linker_script (codes "s.ld") None (Some (codes "V1 { global: *; };")) [] ∷
          linker_script (codes "t.ld") None (Some (codes "V2 { global: *; };")) [] ∷ [];
      stubs = [];
    };
    later = [];
    options = default_options;
    texts = texts None None;
  });
  outcome = refusal (codes "Multiple version scripts provided");
}

-- a linker script's version text is the version script
abbrev pub the_version_script_of_a_linker_script : Case
the_version_script_of_a_linker_script = record {
  world = world_of elf_like undemangled (record {
    first = record {
      objects = object (codes "a.o") (defines (codes "foo") 1 ∷ defines (codes "bar") 1 ∷ []) ∷ [];
      scripts =
          linker_script (codes "r.ld") None None [] ∷
          linker_script (codes "s.ld") None (Some (codes "V1 { global: foo; local: *; };")) [] ∷ [];
      stubs = [];
    };
    later = [];
    options = record default_options { output = SharedObject };
    texts = texts None None;
  });
  outcome = report (
      codes "loaded 0 a.o\n" ++
      codes "symbol 0 <unnamed> -> 0 [ABSOLUTE]\n" ++
      codes "symbol 1 <unnamed> -> 0 [ABSOLUTE | NON_INTERPOSABLE]\n" ++
      codes "symbol 2 foo -> 2 []\n" ++
      codes "symbol 3 bar -> 3 [NON_INTERPOSABLE | DOWNGRADE_TO_LOCAL]\n" ++
      codes "version 2 2\n" ++
      codes "version 3 2\n");
}

-- where lists restrict, a forced export name keeps back all other names
abbrev pub a_forced_export_makes_a_list : Case
a_forced_export_makes_a_list = record {
  world = world_of mach_like undemangled (of_objects (record default_options {
    output = SharedObject;
    force_export = codes "foo" ∷ [];
  }) (
      file (codes "a.o") false false false false 4 (defines (codes "foo") 1 ∷ defines (codes "bar") 1 ∷ []) [] ∷ []));
  outcome = report (
      codes "loaded 0 a.o\n" ++
      codes "symbol 0 <unnamed> -> 0 [ABSOLUTE]\n" ++
      codes "symbol 1 foo -> 1 []\n" ++
      codes "symbol 2 bar -> 2 [NON_INTERPOSABLE]\n");
}

-- the real name of a wrapped one keeps its own definition, where it has one
abbrev pub a_real_name_that_is_defined : Case
a_real_name_that_is_defined = record {
  world = world_of elf_like undemangled (of_objects (record default_options { wrap = codes "foo" ∷ [] }) (
      object (codes "a.o") (
      defines (codes "foo") 1 ∷
      defines (codes "__wrap_foo") 1 ∷
      defines (codes "__real_foo") 1 ∷ []) ∷
      object (codes "main.o") (refers (codes "foo") ∷ refers (codes "__real_foo") ∷ []) ∷ []));
  outcome = report (
      codes "loaded 0 a.o\n" ++
      codes "loaded 1 main.o\n" ++
      codes "symbol 0 <unnamed> -> 0 [ABSOLUTE]\n" ++
      codes "symbol 1 <unnamed> -> 0 [ABSOLUTE | NON_INTERPOSABLE]\n" ++
      codes "symbol 2 foo -> 2 [NON_INTERPOSABLE]\n" ++
      codes "symbol 3 __wrap_foo -> 3 [NON_INTERPOSABLE | HAS_NON_IR_REF]\n" ++
      codes "symbol 4 __real_foo -> 4 [NON_INTERPOSABLE | HAS_NON_IR_REF]\n" ++
      codes "symbol 5 <unnamed> -> 0 [ABSOLUTE | NON_INTERPOSABLE]\n" ++
      codes "symbol 6 foo -> 3 [ABSOLUTE]\n" ++
      codes "symbol 7 __real_foo -> 4 [ABSOLUTE]\n");
}

-- else it means what the wrapped name meant
abbrev pub a_real_name_that_is_not_defined : Case
a_real_name_that_is_not_defined = record {
  world = world_of elf_like undemangled (of_objects (record default_options { wrap = codes "foo" ∷ [] }) (
      object (codes "a.o") (defines (codes "foo") 1 ∷ defines (codes "__wrap_foo") 1 ∷ []) ∷
      object (codes "main.o") (refers (codes "foo") ∷ refers (codes "__real_foo") ∷ []) ∷ []));
  outcome = report (
      codes "loaded 0 a.o\n" ++
      codes "loaded 1 main.o\n" ++
      codes "symbol 0 <unnamed> -> 0 [ABSOLUTE]\n" ++
      codes "symbol 1 <unnamed> -> 0 [ABSOLUTE | NON_INTERPOSABLE]\n" ++
      codes "symbol 2 foo -> 2 [NON_INTERPOSABLE | HAS_NON_IR_REF]\n" ++
      codes "symbol 3 __wrap_foo -> 3 [NON_INTERPOSABLE | HAS_NON_IR_REF]\n" ++
      codes "symbol 4 <unnamed> -> 0 [ABSOLUTE | NON_INTERPOSABLE]\n" ++
      codes "symbol 5 foo -> 3 [ABSOLUTE]\n" ++
      codes "symbol 6 __real_foo -> 2 [ABSOLUTE]\n");
}

-- a name that is wrapped twice keeps what its real name meant; a wrapper can be wrapped
abbrev pub two_wraps_of_a_name : Case
two_wraps_of_a_name = record {
  world = world_of elf_like undemangled (of_objects (record default_options {
    wrap = codes "foo" ∷ codes "foo" ∷ codes "__wrap_foo" ∷ [];
  }) (
      object (codes "a.o") (
      defines (codes "foo") 1 ∷
      defines (codes "__wrap_foo") 1 ∷
      defines (codes "__wrap___wrap_foo") 1 ∷ []) ∷
      object (codes "main.o") (
      refers (codes "foo") ∷
      refers (codes "__real_foo") ∷
      refers (codes "__wrap_foo") ∷
      refers (codes "__real___wrap_foo") ∷ []) ∷ []));
  outcome = report (
      codes "loaded 0 a.o\n" ++
      codes "loaded 1 main.o\n" ++
      codes "symbol 0 <unnamed> -> 0 [ABSOLUTE]\n" ++
      codes "symbol 1 <unnamed> -> 0 [ABSOLUTE | NON_INTERPOSABLE]\n" ++
      codes "symbol 2 foo -> 2 [NON_INTERPOSABLE | HAS_NON_IR_REF]\n" ++
      codes "symbol 3 __wrap_foo -> 3 [NON_INTERPOSABLE | HAS_NON_IR_REF]\n" ++
      codes "symbol 4 __wrap___wrap_foo -> 4 [NON_INTERPOSABLE | HAS_NON_IR_REF]\n" ++
      codes "symbol 5 <unnamed> -> 0 [ABSOLUTE | NON_INTERPOSABLE]\n" ++
      codes "symbol 6 foo -> 3 [ABSOLUTE]\n" ++
      codes "symbol 7 __real_foo -> 2 [ABSOLUTE]\n" ++
      codes "symbol 8 __wrap_foo -> 4 [ABSOLUTE]\n" ++
      codes "symbol 9 __real___wrap_foo -> 3 [ABSOLUTE]\n");
}

-- required names load their definitions, and each that has none is told, in the order of the list
abbrev pub a_required_export_that_is_missing : Case
a_required_export_that_is_missing = record {
  world = world_of mach_like undemangled (record {
    first = record {
      objects =
          file (codes "a.o") false true false false 4 (defines (codes "_bar") 1 ∷ defines (codes "_baz") 1 ∷ []) [] ∷
          file (codes "b.o") false false false false 4 (
          entry (codes "_baz") None true Weak Default Plain 0 (Section 1) ∷
          defines (codes "other") 1 ∷ []) [] ∷
          file (codes "c.o") false false false false 4 (refers (codes "_qux") ∷ []) [] ∷ [];
      scripts = [];
      stubs = [];
    };
    later = [];
    options = record default_options { output = SharedObject };
    texts = texts None (Some (codes "_foo\n_bar # c\n_b*\n_foo\n_qux\n"));
  });
  outcome = report (
      codes "loaded 0 a.o\n" ++
      codes "loaded 1 b.o\n" ++
      codes "loaded 2 c.o\n" ++
      codes "symbol 0 <unnamed> -> 0 [ABSOLUTE]\n" ++
      codes "symbol 1 _bar -> 1 []\n" ++
      codes "symbol 2 _baz -> 2 []\n" ++
      codes "symbol 3 _baz -> 2 []\n" ++
      codes "symbol 4 other -> 4 [NON_INTERPOSABLE]\n" ++
      codes "symbol 5 _qux -> 5 [ABSOLUTE | DYNAMIC]\n" ++
      codes "undefined 5 _qux\n" ++
      codes "missing _foo\n" ++
      codes "missing _foo\n" ++
      codes "missing _qux\n");
}

-- the entry of a linker script counts before the platform's
abbrev pub a_scripts_entry_before_the_platforms : Case
a_scripts_entry_before_the_platforms = record {
  world = world_of elf_like undemangled (record {
    first = record {
      objects = member (codes "a.o") (defines (codes "foo") 1 ∷ []) ∷ member (codes "b.o") (defines (codes "bar") 1 ∷ []) ∷ [];
      scripts = linker_script (codes "s.ld") (Some (codes "bar")) None [] ∷ [];
      stubs = [];
    };
    later = [];
    options = record default_options { default_entry = Some (codes "foo") };
    texts = texts None None;
  });
  outcome = report (
      codes "loaded 1 b.o\n" ++
      codes "symbol 0 <unnamed> -> 0 [ABSOLUTE]\n" ++
      codes "symbol 1 <unnamed> -> 0 [ABSOLUTE | NON_INTERPOSABLE]\n" ++
      codes "symbol 2 foo -> 2 [NON_INTERPOSABLE]\n" ++
      codes "symbol 3 <unnamed> -> 0 [ABSOLUTE | NON_INTERPOSABLE]\n" ++
      codes "symbol 4 bar -> 4 [NON_INTERPOSABLE | HAS_NON_IR_REF]\n");
}

-- beside a shared symbol a linker script's symbol counts for nothing
abbrev pub a_script_symbol_is_no_pick : Case
a_script_symbol_is_no_pick = record {
  world = world_of elf_like undemangled (record {
    first = record {
      objects =
          shared (codes "l.so") (defines (codes "foo") 1 ∷ []) ∷
          object (codes "a.o") (entry (codes "foo") None true Global Hidden Plain 0 Undefined ∷ []) ∷ [];
      scripts = linker_script (codes "s.ld") None None (redirect (codes "foo") Script [] false ∷ []) ∷ [];
      stubs = [];
    };
    later = [];
    options = default_options;
    texts = texts None None;
  });
  outcome = report (
      codes "loaded 0 l.so\n" ++
      codes "loaded 1 a.o\n" ++
      codes "symbol 0 <unnamed> -> 0 [ABSOLUTE]\n" ++
      codes "symbol 1 <unnamed> -> 0 [ABSOLUTE | DYNAMIC]\n" ++
      codes "symbol 2 foo -> 2 [DYNAMIC | NON_INTERPOSABLE | DOWNGRADE_TO_LOCAL]\n" ++
      codes "symbol 3 <unnamed> -> 0 [ABSOLUTE | NON_INTERPOSABLE]\n" ++
      codes "symbol 4 foo -> 4 [ABSOLUTE | NON_INTERPOSABLE]\n" ++
      codes "symbol 5 foo -> 2 [NON_INTERPOSABLE]\n" ++
      codes "undefined 4 foo\n");
}

-- a text that is no script is told before that there is no object
abbrev pub a_faulty_text_without_an_object : Case
a_faulty_text_without_an_object = record {
  world = world_of elf_like undemangled (record {
    first = record { objects = []; scripts = []; stubs = stub (codes "l.tbd") [] [] ∷ [] };
    later = [];
    options = default_options;
    texts = texts (Some (codes "{ foo")) None;
  });
  outcome = refusal (codes "Failed to parse version script: Syntax error at 2");
}

-- of two faulty texts the version script's is told
abbrev pub the_version_script_is_told_first : Case
the_version_script_is_told_first = record {
  world = world_of elf_like undemangled (record {
    first = record { objects = object (codes "a.o") [] ∷ []; scripts = []; stubs = [] };
    later = [];
    options = default_options;
    texts = texts (Some (codes "V1 { foo")) (Some (codes "{ bar"));
  });
  outcome = refusal (codes "Failed to parse version script: Syntax error at 5");
}

-- then that of the export list
abbrev pub the_export_list_is_told_before_forced_names : Case
the_export_list_is_told_before_forced_names = record {
  world = world_of elf_like undemangled (record {
    first = record { objects = object (codes "a.o") [] ∷ []; scripts = []; stubs = [] };
    later = [];
    options = record default_options { force_export = codes "}x" ∷ [] };
    texts = texts None (Some (codes "{ bar"));
  });
  outcome = refusal (codes "Failed to parse symbol export list: Syntax error at 2");
}

-- then that of the first faulty forced export name
abbrev pub forced_names_are_told_before_linker_scripts : Case
forced_names_are_told_before_linker_scripts = record {
  world = world_of elf_like undemangled (record {
    first = record {
      objects = object (codes "a.o") [] ∷ [];
      scripts = linker_script (codes "s.ld") None (Some (codes "{ foo")) [] ∷ [];
      stubs = [];
    };
    later = [];
    options = record default_options { force_export = codes "foo" ∷ codes "}x" ∷ codes "}y" ∷ [] };
    texts = texts None None;
  });
  outcome = refusal (codes "Failed to parse forced export 1: Syntax error at 0");
}

-- then that of a linker script, where no version script was taken
abbrev pub a_faulty_text_of_a_linker_script : Case
a_faulty_text_of_a_linker_script = record {
  world = world_of elf_like undemangled (record {
    first = record {
      objects = object (codes "a.o") [] ∷ [];
      scripts = linker_script (codes "r.ld") None None [] ∷ linker_script (codes "s.ld") None (Some (codes "{ foo")) [] ∷ [];
      stubs = [];
    };
    later = [];
    options = default_options;
    texts = texts None None;
  });
  outcome = refusal (codes "Failed to parse version script of linker script 1: Syntax error at 2");
}

-- a hidden reference to a start symbol passes its visibility to what the name is mapped to, before the new symbol
abbrev pub a_start_symbol_that_a_shared_object_defines : Case
a_start_symbol_that_a_shared_object_defines = record {
  world = world_of elf_like undemangled (of_objects (record default_options { custom_sections = codes "data" ∷ [] }) (
      shared (codes "l.so") (defines (codes "__start_data") 1 ∷ []) ∷
      object (codes "a.o") (entry (codes "__start_data") None true Global Hidden Plain 0 Undefined ∷ []) ∷
      object (codes "b.o") (entry (codes "__start_data") None true Global Hidden Plain 0 Undefined ∷ []) ∷ []));
  outcome = report (
      codes "loaded 0 l.so\n" ++
      codes "loaded 1 a.o\n" ++
      codes "loaded 2 b.o\n" ++
      codes "symbol 0 <unnamed> -> 0 [ABSOLUTE]\n" ++
      codes "symbol 1 <unnamed> -> 0 [ABSOLUTE | DYNAMIC]\n" ++
      codes "symbol 2 __start_data -> 2 [DYNAMIC | NON_INTERPOSABLE | DOWNGRADE_TO_LOCAL]\n" ++
      codes "symbol 3 <unnamed> -> 0 [ABSOLUTE | NON_INTERPOSABLE]\n" ++
      codes "symbol 4 __start_data -> 7 [ABSOLUTE | NON_INTERPOSABLE]\n" ++
      codes "symbol 5 <unnamed> -> 0 [ABSOLUTE | NON_INTERPOSABLE]\n" ++
      codes "symbol 6 __start_data -> 7 [ABSOLUTE | NON_INTERPOSABLE]\n" ++
      codes "symbol 7 __start_data -> 7 [NON_INTERPOSABLE]\n");
}

-- a version is asked for a definition that is not local, be it hidden
abbrev pub a_local_symbol_has_no_version : Case
a_local_symbol_has_no_version = record {
  world = world_of elf_like undemangled (record {
    first = record {
      objects =
          object (codes "a.o") (
          entry (codes "foo") None true Local Default Plain 0 (Section 1) ∷
          entry (codes "bar") None true Global Hidden Plain 0 (Section 1) ∷ []) ∷ [];
      scripts = [];
      stubs = [];
    };
    later = [];
    options = record default_options { output = SharedObject };
    texts = texts (Some (codes "V1 { global: *; };")) None;
  });
  outcome = report (
      codes "loaded 0 a.o\n" ++
      codes "symbol 0 <unnamed> -> 0 [ABSOLUTE]\n" ++
      codes "symbol 1 <unnamed> -> 0 [ABSOLUTE | NON_INTERPOSABLE]\n" ++
      codes "symbol 2 foo -> 2 [NON_INTERPOSABLE]\n" ++
      codes "symbol 3 bar -> 3 [NON_INTERPOSABLE]\n" ++
      codes "version 3 2\n");
}

-- stub libraries and linker scripts count as loaded, so a weak reference to their symbols is not undefined
abbrev pub a_weak_reference_to_a_stub_library : Case
a_weak_reference_to_a_stub_library = record {
  world = world_of elf_like undemangled (record {
    first = record {
      objects =
          object (codes "a.o") (
          entry (codes "foo") None true Weak Default Plain 0 Undefined ∷
          entry (codes "bar") None true Weak Default Plain 0 Undefined ∷ []) ∷ [];
      scripts = linker_script (codes "s.ld") None None (redirect (codes "bar") Script [] false ∷ []) ∷ [];
      stubs = stub (codes "libS.tbd") (codes "foo" ∷ []) [] ∷ [];
    };
    later = [];
    options = default_options;
    texts = texts None None;
  });
  outcome = report (
      codes "loaded 0 a.o\n" ++
      codes "symbol 0 <unnamed> -> 0 [ABSOLUTE]\n" ++
      codes "symbol 1 <unnamed> -> 0 [ABSOLUTE | NON_INTERPOSABLE]\n" ++
      codes "symbol 2 foo -> 5 [ABSOLUTE]\n" ++
      codes "symbol 3 bar -> 4 [ABSOLUTE]\n" ++
      codes "symbol 4 bar -> 4 [NON_INTERPOSABLE | HAS_NON_IR_REF]\n" ++
      codes "symbol 5 foo -> 5 [DYNAMIC | HAS_NON_IR_REF]\n");
}

unfoldable pub all_cases : List Case
all_cases =
    no_objects ∷ a_wrapped_name_finds_its_wrapper ∷ a_start_symbol_is_made ∷ a_script_makes_a_name_local ∷
    a_version_is_given ∷ a_version_is_not_declared ∷ a_second_version_script ∷ the_last_script_says_the_entry ∷
    the_option_says_the_entry ∷ the_platforms_entry ∷ a_local_tls_symbol ∷ a_rust_name_means_its_definition ∷
    a_maker_passes_no_visibility ∷ two_linker_scripts_with_versions ∷ the_version_script_of_a_linker_script ∷
    a_forced_export_makes_a_list ∷ a_real_name_that_is_defined ∷ a_real_name_that_is_not_defined ∷ two_wraps_of_a_name ∷
    a_required_export_that_is_missing ∷ a_scripts_entry_before_the_platforms ∷ a_script_symbol_is_no_pick ∷
    a_faulty_text_without_an_object ∷ the_version_script_is_told_first ∷ the_export_list_is_told_before_forced_names ∷
    forced_names_are_told_before_linker_scripts ∷ a_faulty_text_of_a_linker_script ∷
    a_start_symbol_that_a_shared_object_defines ∷ a_local_symbol_has_no_version ∷ a_weak_reference_to_a_stub_library ∷
    []
