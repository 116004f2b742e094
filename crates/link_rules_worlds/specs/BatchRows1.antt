-- Worked examples: small worlds of several batches, and what a link of each answers.
-- Written by `tools/worlds.py` from `tools/batch_rows.jsonl`.
use Rattle.std.specs.Prelude.{[], ◌∷◌, true, false, Some, None, codes, ◌++◌}
use Rattle.link_flags.specs.declared.visibility.Visibility.TheVariants.{Default, Hidden}
use Rattle.link_input.specs.declared.symbol_entry.Place.TheVariants.{Undefined, Section}
use Rattle.link_input.specs.declared.symbol_entry.SymbolBinding.TheVariants.{Global, Weak}
use Rattle.link_input.specs.declared.symbol_entry.SymbolKind.TheVariants.{Plain}
use Rattle.link_input.specs.declared.options.OutputKind.TheVariants.{SharedObject}
use Rattle.link_input.specs.declared.internal_symbols.RedirectKind.TheVariants.{DefSym, Script}
use Rattle.link_input.specs.Defaults.{default_options}
use Rattle.link_rules.specs.Rules.{elf_like, mach_like}
use Rattle.link_rules.specs.World.{world_of}
use Rattle.link_rules.specs.Building.{undemangled, copies, entry, null_entry, refers, defines, group, file, object, member, shared, redirect, linker_script, stub, texts}
use Rattle.link_rules_worlds.specs.Computing.{Case, report, refusal}

-- a reference that found nothing asks again in the next batch, and loads what it finds
abbrev pub a_later_batch_defines_what_an_earlier_asks_for : Case
a_later_batch_defines_what_an_earlier_asks_for = record {
  world = world_of elf_like undemangled (record {
    first = record { objects = object (codes "main.o") (refers (codes "foo") ∷ []) ∷ []; scripts = []; stubs = [] };
    later = record { objects = member (codes "a.o") (defines (codes "foo") 1 ∷ []) ∷ []; scripts = []; stubs = [] } ∷ [];
    options = default_options;
    texts = texts None None;
  });
  outcome = report (
      codes "loaded 0 main.o\n" ++
      codes "loaded 1 a.o\n" ++
      codes "symbol 0 <unnamed> -> 0 [ABSOLUTE]\n" ++
      codes "symbol 1 <unnamed> -> 0 [ABSOLUTE | NON_INTERPOSABLE]\n" ++
      codes "symbol 2 foo -> 4 [ABSOLUTE]\n" ++
      codes "symbol 3 <unnamed> -> 0 [ABSOLUTE | NON_INTERPOSABLE]\n" ++
      codes "symbol 4 foo -> 4 [NON_INTERPOSABLE | HAS_NON_IR_REF]\n");
}

-- a name keeps its first definition, whatever a later batch defines
abbrev pub an_earlier_definition_stays_the_first : Case
an_earlier_definition_stays_the_first = record {
  world = world_of elf_like undemangled (record {
    first = record {
      objects = object (codes "main.o") (refers (codes "foo") ∷ []) ∷ member (codes "a.o") (defines (codes "foo") 1 ∷ []) ∷ [];
      scripts = [];
      stubs = [];
    };
    later =
        record {
          objects = member (codes "b.o") (defines (codes "foo") 1 ∷ []) ∷ object (codes "c.o") (refers (codes "foo") ∷ []) ∷ [];
          scripts = [];
          stubs = [];
        } ∷ [];
    options = default_options;
    texts = texts None None;
  });
  outcome = report (
      codes "loaded 0 main.o\n" ++
      codes "loaded 1 a.o\n" ++
      codes "loaded 3 c.o\n" ++
      codes "symbol 0 <unnamed> -> 0 [ABSOLUTE]\n" ++
      codes "symbol 1 <unnamed> -> 0 [ABSOLUTE | NON_INTERPOSABLE]\n" ++
      codes "symbol 2 foo -> 4 [ABSOLUTE]\n" ++
      codes "symbol 3 <unnamed> -> 0 [ABSOLUTE | NON_INTERPOSABLE]\n" ++
      codes "symbol 4 foo -> 4 [NON_INTERPOSABLE | HAS_NON_IR_REF]\n" ++
      codes "symbol 5 <unnamed> -> 0 [ABSOLUTE | NON_INTERPOSABLE]\n" ++
      codes "symbol 6 foo -> 4 [NON_INTERPOSABLE]\n" ++
      codes "symbol 7 <unnamed> -> 0 [ABSOLUTE | NON_INTERPOSABLE]\n" ++
      codes "symbol 8 foo -> 4 [ABSOLUTE]\n");
}

-- only the first batch may have a linker script with a version text
abbrev pub a_version_text_in_a_later_batch : Case
a_version_text_in_a_later_batch = record {
  world = world_of elf_like undemangled (record {
    first = record { objects = object (codes "main.o") (defines (codes "foo") 1 ∷ []) ∷ []; scripts = []; stubs = [] };
    later =
        record {
          objects = [];
          scripts = linker_script (codes "s.ld") None (Some (codes "V1 { global: foo; };")) [] ∷ [];
          stubs = [];
        } ∷ [];
    options = default_options;
    texts = texts None None;
  });
  outcome = refusal (codes "Version script in a later batch");
}

-- it is refused before it is read
abbrev pub a_faulty_version_text_in_a_later_batch : Case
a_faulty_version_text_in_a_later_batch = record {
  world = world_of elf_like undemangled (record {
    first = record { objects = object (codes "main.o") (defines (codes "foo") 1 ∷ []) ∷ []; scripts = []; stubs = [] };
    later = record { objects = []; scripts = linker_script (codes "s.ld") None (Some (codes "}")) [] ∷ []; stubs = [] } ∷ [];
    options = default_options;
    texts = texts None None;
  });
  outcome = refusal (codes "Version script in a later batch");
}

-- a second version text is told as one too many, in a later batch too
abbrev pub version_texts_in_two_batches : Case
version_texts_in_two_batches = record {
  world = world_of elf_like undemangled (record {
    first = record {
      objects = object (codes "main.o") (defines (codes "foo") 1 ∷ []) ∷ [];
      scripts = linker_script (codes "s.ld") None (Some (codes "V1 { global: foo; };")) [] ∷ [];
      stubs = [];
    };
    later =
        record {
          objects = [];
          scripts = linker_script (codes "t.ld") None (Some (codes "V2 { };")) [] ∷ [];
          stubs = [];
        } ∷ [];
    options = default_options;
    texts = texts None None;
  });
  outcome = refusal (codes "Multiple version scripts provided");
}

-- what is wrong with the first batch is told before a version text in the second
abbrev pub an_earlier_batch_is_refused_first : Case
an_earlier_batch_is_refused_first = record {
  world = world_of elf_like undemangled (record {
    first = record {
      objects =
          file (codes "main.o") false false false false 4 (
          null_entry ∷
          defines (codes "foo") 1 ∷ []) (
          group 1 1 true (2 ∷ []) ∷
          group 3 1 true (2 ∷ []) ∷ []) ∷ [];
      scripts = [];
      stubs = [];
    };
    later =
        record {
          objects = [];
          scripts = linker_script (codes "s.ld") None (Some (codes "V1 { };")) [] ∷ [];
          stubs = [];
        } ∷ [];
    options = default_options;
    texts = texts None None;
  });
  outcome = refusal (codes "main.o: section 2 belongs to multiple groups");
}

-- a wrapper of a later batch changes the name, and not what a reference took before
abbrev pub a_weak_reference_keeps_its_target : Case
a_weak_reference_keeps_its_target = record {
  world = world_of elf_like undemangled (record {
    first = record {
      objects =
          object (codes "main.o") (entry (codes "foo") None true Weak Default Plain 0 Undefined ∷ []) ∷
          object (codes "a.o") (defines (codes "foo") 1 ∷ []) ∷ [];
      scripts = [];
      stubs = [];
    };
    later =
        record {
          objects =
              object (codes "w.o") (defines (codes "__wrap_foo") 1 ∷ []) ∷
              object (codes "c.o") (refers (codes "foo") ∷ []) ∷ [];
          scripts = [];
          stubs = [];
        } ∷ [];
    options = record default_options { wrap = codes "foo" ∷ [] };
    texts = texts None None;
  });
  outcome = report (
      codes "loaded 0 main.o\n" ++
      codes "loaded 1 a.o\n" ++
      codes "loaded 2 w.o\n" ++
      codes "loaded 3 c.o\n" ++
      codes "symbol 0 <unnamed> -> 0 [ABSOLUTE]\n" ++
      codes "symbol 1 <unnamed> -> 0 [ABSOLUTE | NON_INTERPOSABLE]\n" ++
      codes "symbol 2 foo -> 4 [ABSOLUTE]\n" ++
      codes "symbol 3 <unnamed> -> 0 [ABSOLUTE | NON_INTERPOSABLE]\n" ++
      codes "symbol 4 foo -> 4 [NON_INTERPOSABLE | HAS_NON_IR_REF]\n" ++
      codes "symbol 5 <unnamed> -> 0 [ABSOLUTE | NON_INTERPOSABLE]\n" ++
      codes "symbol 6 __wrap_foo -> 6 [NON_INTERPOSABLE | HAS_NON_IR_REF]\n" ++
      codes "symbol 7 <unnamed> -> 0 [ABSOLUTE | NON_INTERPOSABLE]\n" ++
      codes "symbol 8 foo -> 6 [ABSOLUTE]\n");
}

-- it took the only definition that was not shared, and a stronger one comes later
abbrev pub a_hidden_reference_keeps_its_target : Case
a_hidden_reference_keeps_its_target = record {
  world = world_of elf_like undemangled (record {
    first = record {
      objects =
          shared (codes "l.so") (defines (codes "foo") 1 ∷ []) ∷
          object (codes "main.o") (entry (codes "foo") None true Global Hidden Plain 0 Undefined ∷ []) ∷
          object (codes "a.o") (entry (codes "foo") None true Weak Default Plain 0 (Section 1) ∷ []) ∷ [];
      scripts = [];
      stubs = [];
    };
    later = record { objects = object (codes "b.o") (defines (codes "foo") 1 ∷ []) ∷ []; scripts = []; stubs = [] } ∷ [];
    options = default_options;
    texts = texts None None;
  });
  outcome = report (
      codes "loaded 0 l.so\n" ++
      codes "loaded 1 main.o\n" ++
      codes "loaded 2 a.o\n" ++
      codes "loaded 3 b.o\n" ++
      codes "symbol 0 <unnamed> -> 0 [ABSOLUTE]\n" ++
      codes "symbol 1 <unnamed> -> 0 [ABSOLUTE | DYNAMIC]\n" ++
      codes "symbol 2 foo -> 8 [DYNAMIC]\n" ++
      codes "symbol 3 <unnamed> -> 0 [ABSOLUTE | NON_INTERPOSABLE]\n" ++
      codes "symbol 4 foo -> 8 [ABSOLUTE | NON_INTERPOSABLE]\n" ++
      codes "symbol 5 <unnamed> -> 0 [ABSOLUTE | NON_INTERPOSABLE]\n" ++
      codes "symbol 6 foo -> 8 [NON_INTERPOSABLE | DOWNGRADE_TO_LOCAL | HAS_NON_IR_REF]\n" ++
      codes "symbol 7 <unnamed> -> 0 [ABSOLUTE | NON_INTERPOSABLE]\n" ++
      codes "symbol 8 foo -> 8 [NON_INTERPOSABLE]\n");
}

-- a shared definition is none for it, so it asks again and loads a member of the next batch
abbrev pub a_hidden_reference_waits_for_what_is_not_shared : Case
a_hidden_reference_waits_for_what_is_not_shared = record {
  world = world_of elf_like undemangled (record {
    first = record {
      objects =
          shared (codes "l.so") (defines (codes "foo") 1 ∷ []) ∷
          object (codes "main.o") (entry (codes "foo") None true Global Hidden Plain 0 Undefined ∷ []) ∷ [];
      scripts = [];
      stubs = [];
    };
    later = record { objects = member (codes "a.o") (defines (codes "foo") 1 ∷ []) ∷ []; scripts = []; stubs = [] } ∷ [];
    options = default_options;
    texts = texts None None;
  });
  outcome = report (
      codes "loaded 0 l.so\n" ++
      codes "loaded 1 main.o\n" ++
      codes "loaded 2 a.o\n" ++
      codes "symbol 0 <unnamed> -> 0 [ABSOLUTE]\n" ++
      codes "symbol 1 <unnamed> -> 0 [ABSOLUTE | DYNAMIC]\n" ++
      codes "symbol 2 foo -> 6 [DYNAMIC]\n" ++
      codes "symbol 3 <unnamed> -> 0 [ABSOLUTE | NON_INTERPOSABLE]\n" ++
      codes "symbol 4 foo -> 6 [ABSOLUTE | NON_INTERPOSABLE]\n" ++
      codes "symbol 5 <unnamed> -> 0 [ABSOLUTE | NON_INTERPOSABLE]\n" ++
      codes "symbol 6 foo -> 6 [NON_INTERPOSABLE | DOWNGRADE_TO_LOCAL | HAS_NON_IR_REF]\n");
}

-- it asks again as others do, and loads nothing
abbrev pub a_weak_reference_takes_a_later_definition : Case
a_weak_reference_takes_a_later_definition = record {
  world = world_of elf_like undemangled (record {
    first = record {
      objects = object (codes "main.o") (entry (codes "foo") None true Weak Default Plain 0 Undefined ∷ []) ∷ [];
      scripts = [];
      stubs = [];
    };
    later =
        record {
          objects =
              member (codes "a.o") (defines (codes "foo") 1 ∷ []) ∷
              object (codes "c.o") (refers (codes "bar") ∷ []) ∷
              object (codes "d.o") (defines (codes "bar") 1 ∷ []) ∷ [];
          scripts = [];
          stubs = [];
        } ∷ [];
    options = default_options;
    texts = texts None None;
  });
  outcome = report (
      codes "loaded 0 main.o\n" ++
      codes "loaded 2 c.o\n" ++
      codes "loaded 3 d.o\n" ++
      codes "symbol 0 <unnamed> -> 0 [ABSOLUTE]\n" ++
      codes "symbol 1 <unnamed> -> 0 [ABSOLUTE | NON_INTERPOSABLE]\n" ++
      codes "symbol 2 foo -> 2 [ABSOLUTE | NON_INTERPOSABLE | UNDEFINED_WEAK]\n" ++
      codes "symbol 3 <unnamed> -> 0 [ABSOLUTE | NON_INTERPOSABLE]\n" ++
      codes "symbol 4 foo -> 4 [NON_INTERPOSABLE | HAS_NON_IR_REF]\n" ++
      codes "symbol 5 <unnamed> -> 0 [ABSOLUTE | NON_INTERPOSABLE]\n" ++
      codes "symbol 6 bar -> 8 [ABSOLUTE]\n" ++
      codes "symbol 7 <unnamed> -> 0 [ABSOLUTE | NON_INTERPOSABLE]\n" ++
      codes "symbol 8 bar -> 8 [NON_INTERPOSABLE | HAS_NON_IR_REF]\n" ++
      codes "undefined 2 foo\n");
}

-- its reference takes what the name means in the batch that loads it
abbrev pub an_object_asks_when_it_is_loaded : Case
an_object_asks_when_it_is_loaded = record {
  world = world_of elf_like undemangled (record {
    first = record {
      objects =
          object (codes "main.o") [] ∷
          member (codes "m.o") (defines (codes "bar") 1 ∷ refers (codes "foo") ∷ []) ∷
          object (codes "a.o") (defines (codes "foo") 1 ∷ []) ∷ [];
      scripts = [];
      stubs = [];
    };
    later =
        record {
          objects =
              object (codes "w.o") (defines (codes "__wrap_foo") 1 ∷ []) ∷
              object (codes "c.o") (refers (codes "bar") ∷ []) ∷ [];
          scripts = [];
          stubs = [];
        } ∷ [];
    options = record default_options { wrap = codes "foo" ∷ [] };
    texts = texts None None;
  });
  outcome = report (
      codes "loaded 0 main.o\n" ++
      codes "loaded 1 m.o\n" ++
      codes "loaded 2 a.o\n" ++
      codes "loaded 3 w.o\n" ++
      codes "loaded 4 c.o\n" ++
      codes "symbol 0 <unnamed> -> 0 [ABSOLUTE]\n" ++
      codes "symbol 1 <unnamed> -> 0 [ABSOLUTE | NON_INTERPOSABLE]\n" ++
      codes "symbol 2 <unnamed> -> 0 [ABSOLUTE | NON_INTERPOSABLE]\n" ++
      codes "symbol 3 bar -> 3 [NON_INTERPOSABLE | HAS_NON_IR_REF]\n" ++
      codes "symbol 4 foo -> 8 [ABSOLUTE]\n" ++
      codes "symbol 5 <unnamed> -> 0 [ABSOLUTE | NON_INTERPOSABLE]\n" ++
      codes "symbol 6 foo -> 6 [NON_INTERPOSABLE]\n" ++
      codes "symbol 7 <unnamed> -> 0 [ABSOLUTE | NON_INTERPOSABLE]\n" ++
      codes "symbol 8 __wrap_foo -> 8 [NON_INTERPOSABLE | HAS_NON_IR_REF]\n" ++
      codes "symbol 9 <unnamed> -> 0 [ABSOLUTE | NON_INTERPOSABLE]\n" ++
      codes "symbol 10 bar -> 3 [ABSOLUTE]\n");
}

-- the entry is that of the last linker script so far, and loads an object of an earlier batch
abbrev pub a_later_linker_script_says_the_entry : Case
a_later_linker_script_says_the_entry = record {
  world = world_of elf_like undemangled (record {
    first = record {
      objects = object (codes "main.o") [] ∷ member (codes "s.o") (defines (codes "begin") 1 ∷ []) ∷ [];
      scripts = [];
      stubs = [];
    };
    later = record { objects = []; scripts = linker_script (codes "t.ld") (Some (codes "begin")) None [] ∷ []; stubs = [] } ∷ [];
    options = default_options;
    texts = texts None None;
  });
  outcome = report (
      codes "loaded 0 main.o\n" ++
      codes "loaded 1 s.o\n" ++
      codes "symbol 0 <unnamed> -> 0 [ABSOLUTE]\n" ++
      codes "symbol 1 <unnamed> -> 0 [ABSOLUTE | NON_INTERPOSABLE]\n" ++
      codes "symbol 2 <unnamed> -> 0 [ABSOLUTE | NON_INTERPOSABLE]\n" ++
      codes "symbol 3 begin -> 3 [NON_INTERPOSABLE | HAS_NON_IR_REF]\n");
}

-- the entry of the first batch was referred to, whatever the entry is later
abbrev pub the_mark_of_an_earlier_entry_stays : Case
the_mark_of_an_earlier_entry_stays = record {
  world = world_of elf_like undemangled (record {
    first = record {
      objects =
          object (codes "main.o") [] ∷
          member (codes "s.o") (defines (codes "begin") 1 ∷ []) ∷
          member (codes "t.o") (defines (codes "start") 1 ∷ []) ∷ [];
      scripts = linker_script (codes "s.ld") (Some (codes "begin")) None [] ∷ [];
      stubs = [];
    };
    later = record { objects = []; scripts = linker_script (codes "t.ld") (Some (codes "start")) None [] ∷ []; stubs = [] } ∷ [];
    options = default_options;
    texts = texts None None;
  });
  outcome = report (
      codes "loaded 0 main.o\n" ++
      codes "loaded 1 s.o\n" ++
      codes "loaded 2 t.o\n" ++
      codes "symbol 0 <unnamed> -> 0 [ABSOLUTE]\n" ++
      codes "symbol 1 <unnamed> -> 0 [ABSOLUTE | NON_INTERPOSABLE]\n" ++
      codes "symbol 2 <unnamed> -> 0 [ABSOLUTE | NON_INTERPOSABLE]\n" ++
      codes "symbol 3 begin -> 3 [NON_INTERPOSABLE | HAS_NON_IR_REF]\n" ++
      codes "symbol 4 <unnamed> -> 0 [ABSOLUTE | NON_INTERPOSABLE]\n" ++
      codes "symbol 5 start -> 5 [NON_INTERPOSABLE | HAS_NON_IR_REF]\n");
}

-- its target is marked by what the name means in the first batch, and again in the second
abbrev pub a_redirect_marks_in_each_batch : Case
a_redirect_marks_in_each_batch = record {
  world = world_of elf_like undemangled (record {
    first = record { objects = object (codes "a.o") (defines (codes "foo") 1 ∷ []) ∷ []; scripts = []; stubs = [] };
    later = record { objects = object (codes "w.o") (defines (codes "__wrap_foo") 1 ∷ []) ∷ []; scripts = []; stubs = [] } ∷ [];
    options = record default_options {
      wrap = codes "foo" ∷ [];
      defsym = redirect (codes "x") DefSym (codes "foo" ∷ []) false ∷ [];
    };
    texts = texts None None;
  });
  outcome = report (
      codes "loaded 0 a.o\n" ++
      codes "loaded 1 w.o\n" ++
      codes "symbol 0 <unnamed> -> 0 [ABSOLUTE]\n" ++
      codes "symbol 1 x -> 1 [ABSOLUTE | NON_INTERPOSABLE]\n" ++
      codes "symbol 2 <unnamed> -> 0 [ABSOLUTE | NON_INTERPOSABLE]\n" ++
      codes "symbol 3 foo -> 3 [NON_INTERPOSABLE | HAS_NON_IR_REF]\n" ++
      codes "symbol 4 <unnamed> -> 0 [ABSOLUTE | NON_INTERPOSABLE]\n" ++
      codes "symbol 5 __wrap_foo -> 5 [NON_INTERPOSABLE | HAS_NON_IR_REF]\n");
}

-- a wrapper of a later batch doesn't take back the mark of what was wrapped
abbrev pub a_redirects_earlier_mark_stays : Case
a_redirects_earlier_mark_stays = record {
  world = world_of elf_like undemangled (record {
    first = record {
      objects = object (codes "a.o") (defines (codes "foo") 1 ∷ []) ∷ [];
      scripts = linker_script (codes "s.ld") None None (redirect (codes "x") Script (codes "foo" ∷ []) false ∷ []) ∷ [];
      stubs = [];
    };
    later = record { objects = object (codes "w.o") (defines (codes "__wrap_foo") 1 ∷ []) ∷ []; scripts = []; stubs = [] } ∷ [];
    options = record default_options { wrap = codes "foo" ∷ [] };
    texts = texts None None;
  });
  outcome = report (
      codes "loaded 0 a.o\n" ++
      codes "loaded 1 w.o\n" ++
      codes "symbol 0 <unnamed> -> 0 [ABSOLUTE]\n" ++
      codes "symbol 1 <unnamed> -> 0 [ABSOLUTE | NON_INTERPOSABLE]\n" ++
      codes "symbol 2 foo -> 2 [NON_INTERPOSABLE | HAS_NON_IR_REF]\n" ++
      codes "symbol 3 x -> 3 [NON_INTERPOSABLE]\n" ++
      codes "symbol 4 <unnamed> -> 0 [ABSOLUTE | NON_INTERPOSABLE]\n" ++
      codes "symbol 5 __wrap_foo -> 5 [NON_INTERPOSABLE | HAS_NON_IR_REF]\n");
}

-- its target stands in an object of an earlier batch
abbrev pub a_redirect_of_a_later_linker_script_loads : Case
a_redirect_of_a_later_linker_script_loads = record {
  world = world_of elf_like undemangled (record {
    first = record {
      objects = object (codes "main.o") [] ∷ member (codes "m.o") (defines (codes "foo") 1 ∷ []) ∷ [];
      scripts = [];
      stubs = [];
    };
    later =
        record {
          objects = [];
          scripts = linker_script (codes "s.ld") None None (redirect (codes "x") Script (codes "foo" ∷ []) false ∷ []) ∷ [];
          stubs = [];
        } ∷ [];
    options = default_options;
    texts = texts None None;
  });
  outcome = report (
      codes "loaded 0 main.o\n" ++
      codes "loaded 1 m.o\n" ++
      codes "symbol 0 <unnamed> -> 0 [ABSOLUTE]\n" ++
      codes "symbol 1 <unnamed> -> 0 [ABSOLUTE | NON_INTERPOSABLE]\n" ++
      codes "symbol 2 <unnamed> -> 0 [ABSOLUTE | NON_INTERPOSABLE]\n" ++
      codes "symbol 3 foo -> 3 [NON_INTERPOSABLE | HAS_NON_IR_REF]\n" ++
      codes "symbol 4 x -> 4 [NON_INTERPOSABLE]\n");
}

-- the root names are looked up again in each batch
abbrev pub a_forced_name_that_a_later_batch_defines : Case
a_forced_name_that_a_later_batch_defines = record {
  world = world_of elf_like undemangled (record {
    first = record { objects = object (codes "main.o") [] ∷ []; scripts = []; stubs = [] };
    later = record { objects = member (codes "m.o") (defines (codes "foo") 1 ∷ []) ∷ []; scripts = []; stubs = [] } ∷ [];
    options = record default_options { force_undefined = codes "foo" ∷ [] };
    texts = texts None None;
  });
  outcome = report (
      codes "loaded 0 main.o\n" ++
      codes "loaded 1 m.o\n" ++
      codes "symbol 0 <unnamed> -> 0 [ABSOLUTE]\n" ++
      codes "symbol 1 foo -> 4 [ABSOLUTE]\n" ++
      codes "symbol 2 <unnamed> -> 0 [ABSOLUTE | NON_INTERPOSABLE]\n" ++
      codes "symbol 3 <unnamed> -> 0 [ABSOLUTE | NON_INTERPOSABLE]\n" ++
      codes "symbol 4 foo -> 4 [NON_INTERPOSABLE]\n");
}

-- an export that the list names loads a member of the next batch
abbrev pub a_required_export_of_a_later_batch : Case
a_required_export_of_a_later_batch = record {
  world = world_of mach_like undemangled (record {
    first = record { objects = file (codes "main.o") false false false false 4 [] [] ∷ []; scripts = []; stubs = [] };
    later =
        record {
          objects = file (codes "m.o") false true false false 4 (defines (codes "foo") 1 ∷ []) [] ∷ [];
          scripts = [];
          stubs = [];
        } ∷ [];
    options = record default_options { output = SharedObject };
    texts = texts None (Some (codes "foo\n"));
  });
  outcome = report (
      codes "loaded 0 main.o\n" ++
      codes "loaded 1 m.o\n" ++
      codes "symbol 0 <unnamed> -> 0 [ABSOLUTE]\n" ++
      codes "symbol 1 foo -> 1 []\n");
}

-- two hundred linker scripts, and fifty-seven more
abbrev pub linker_scripts_of_all_batches_count : Case
linker_scripts_of_all_batches_count = record {
  world = world_of elf_like undemangled (record {
    first = record {
      objects = object (codes "main.o") [] ∷ [];
      scripts = copies 200 (linker_script (codes "s.ld") None None []);
      stubs = [];
    };
    later = record { objects = []; scripts = copies 57 (linker_script (codes "t.ld") None None []); stubs = [] } ∷ [];
    options = default_options;
    texts = texts None None;
  });
  outcome = refusal (codes "Too many linker scripts: 257");
}

-- two hundred stub libraries, and fifty-seven more
abbrev pub stub_libraries_of_all_batches_count : Case
stub_libraries_of_all_batches_count = record {
  world = world_of elf_like undemangled (record {
    first = record { objects = object (codes "main.o") [] ∷ []; scripts = []; stubs = copies 200 (stub (codes "l.tbd") [] []) };
    later = record { objects = []; scripts = []; stubs = copies 57 (stub (codes "m.tbd") [] []) } ∷ [];
    options = default_options;
    texts = texts None None;
  });
  outcome = refusal (codes "Too many stub libraries: 257");
}

-- the first batch has to have an object, whatever the second has
abbrev pub no_object_in_the_first_batch : Case
no_object_in_the_first_batch = record {
  world = world_of elf_like undemangled (record {
    first = record { objects = []; scripts = []; stubs = stub (codes "l.tbd") (codes "foo" ∷ []) [] ∷ [] };
    later = record { objects = object (codes "main.o") (refers (codes "foo") ∷ []) ∷ []; scripts = []; stubs = [] } ∷ [];
    options = default_options;
    texts = texts None None;
  });
  outcome = refusal (codes "no input files");
}

-- a later batch may be linker scripts alone, and an empty one
abbrev pub no_object_in_a_later_batch : Case
no_object_in_a_later_batch = record {
  world = world_of elf_like undemangled (record {
    first = record { objects = object (codes "main.o") (refers (codes "foo") ∷ []) ∷ []; scripts = []; stubs = [] };
    later =
        record {
          objects = [];
          scripts = linker_script (codes "s.ld") None None (redirect (codes "foo") Script [] false ∷ []) ∷ [];
          stubs = [];
        } ∷
        record { objects = []; scripts = []; stubs = [] } ∷ [];
    options = default_options;
    texts = texts None None;
  });
  outcome = report (
      codes "loaded 0 main.o\n" ++
      codes "symbol 0 <unnamed> -> 0 [ABSOLUTE]\n" ++
      codes "symbol 1 <unnamed> -> 0 [ABSOLUTE | NON_INTERPOSABLE]\n" ++
      codes "symbol 2 foo -> 3 [ABSOLUTE]\n" ++
      codes "symbol 3 foo -> 3 [NON_INTERPOSABLE | HAS_NON_IR_REF]\n");
}

-- an object of the first batch is looked at once the second has it loaded
abbrev pub a_section_in_two_groups_of_an_object_loaded_later : Case
a_section_in_two_groups_of_an_object_loaded_later = record {
  world = world_of elf_like undemangled (record {
    first = record {
      objects =
          object (codes "main.o") [] ∷
          file (codes "g.o") false true false false 4 (
          null_entry ∷
          defines (codes "foo") 1 ∷ []) (
          group 1 1 true (2 ∷ []) ∷
          group 3 1 true (2 ∷ []) ∷ []) ∷ [];
      scripts = [];
      stubs = [];
    };
    later = record { objects = object (codes "c.o") (refers (codes "foo") ∷ []) ∷ []; scripts = []; stubs = [] } ∷ [];
    options = default_options;
    texts = texts None None;
  });
  outcome = refusal (codes "g.o: section 2 belongs to multiple groups");
}

-- each batch has a strong definition of the name
abbrev pub duplicates_of_two_batches : Case
duplicates_of_two_batches = record {
  world = world_of elf_like undemangled (record {
    first = record { objects = object (codes "a.o") (defines (codes "foo") 1 ∷ []) ∷ []; scripts = []; stubs = [] };
    later = record { objects = object (codes "b.o") (defines (codes "foo") 1 ∷ []) ∷ []; scripts = []; stubs = [] } ∷ [];
    options = default_options;
    texts = texts None None;
  });
  outcome = refusal (codes "Duplicate symbols detected: foo, defined in a.o and b.o");
}

-- the first of the same signature is kept, and that of the later batch is not
abbrev pub comdat_groups_of_two_batches : Case
comdat_groups_of_two_batches = record {
  world = world_of elf_like undemangled (record {
    first = record {
      objects =
          file (codes "a.o") false false false false 4 (
          null_entry ∷
          defines (codes "foo") 2 ∷ []) (group 1 1 true (2 ∷ []) ∷ []) ∷ [];
      scripts = [];
      stubs = [];
    };
    later =
        record {
          objects =
              file (codes "b.o") false false false false 4 (
              null_entry ∷
              defines (codes "foo") 2 ∷ []) (group 1 1 true (2 ∷ []) ∷ []) ∷ [];
          scripts = [];
          stubs = [];
        } ∷ [];
    options = default_options;
    texts = texts None None;
  });
  outcome = report (
      codes "loaded 0 a.o\n" ++
      codes "loaded 1 b.o\n" ++
      codes "kept 0 0 foo\n" ++
      codes "symbol 0 <unnamed> -> 0 [ABSOLUTE]\n" ++
      codes "symbol 1 <unnamed> -> 0 [ABSOLUTE | NON_INTERPOSABLE]\n" ++
      codes "symbol 2 foo -> 2 [NON_INTERPOSABLE]\n" ++
      codes "symbol 3 <unnamed> -> 0 [ABSOLUTE | NON_INTERPOSABLE]\n" ++
      codes "symbol 4 foo -> 2 [NON_INTERPOSABLE]\n");
}

-- objects count in their order, so the member that the second batch loads keeps its group
abbrev pub a_group_of_an_object_loaded_later : Case
a_group_of_an_object_loaded_later = record {
  world = world_of elf_like undemangled (record {
    first = record {
      objects =
          object (codes "main.o") [] ∷
          file (codes "g.o") false true false false 4 (
          null_entry ∷
          defines (codes "foo") 2 ∷
          defines (codes "bar") 1 ∷ []) (group 1 1 true (2 ∷ []) ∷ []) ∷ [];
      scripts = [];
      stubs = [];
    };
    later =
        record {
          objects =
              file (codes "b.o") false false false false 4 (
              null_entry ∷
              defines (codes "foo") 2 ∷
              refers (codes "bar") ∷ []) (group 1 1 true (2 ∷ []) ∷ []) ∷ [];
          scripts = [];
          stubs = [];
        } ∷ [];
    options = default_options;
    texts = texts None None;
  });
  outcome = report (
      codes "loaded 0 main.o\n" ++
      codes "loaded 1 g.o\n" ++
      codes "loaded 2 b.o\n" ++
      codes "kept 1 0 foo\n" ++
      codes "symbol 0 <unnamed> -> 0 [ABSOLUTE]\n" ++
      codes "symbol 1 <unnamed> -> 0 [ABSOLUTE | NON_INTERPOSABLE]\n" ++
      codes "symbol 2 <unnamed> -> 0 [ABSOLUTE | NON_INTERPOSABLE]\n" ++
      codes "symbol 3 foo -> 3 [NON_INTERPOSABLE]\n" ++
      codes "symbol 4 bar -> 4 [NON_INTERPOSABLE | HAS_NON_IR_REF]\n" ++
      codes "symbol 5 <unnamed> -> 0 [ABSOLUTE | NON_INTERPOSABLE]\n" ++
      codes "symbol 6 foo -> 3 [NON_INTERPOSABLE]\n" ++
      codes "symbol 7 bar -> 4 [ABSOLUTE]\n");
}

-- one symbol is made for the references of both batches, behind all others
abbrev pub a_start_symbol_for_two_batches : Case
a_start_symbol_for_two_batches = record {
  world = world_of elf_like undemangled (record {
    first = record { objects = object (codes "main.o") (refers (codes "__start_data") ∷ []) ∷ []; scripts = []; stubs = [] };
    later =
        record {
          objects =
              object (codes "c.o") (refers (codes "__start_data") ∷ []) ∷
              object (codes "d.o") (defines (codes "foo") 1 ∷ []) ∷ [];
          scripts = [];
          stubs = [];
        } ∷ [];
    options = record default_options { custom_sections = codes "data" ∷ [] };
    texts = texts None None;
  });
  outcome = report (
      codes "loaded 0 main.o\n" ++
      codes "loaded 1 c.o\n" ++
      codes "loaded 2 d.o\n" ++
      codes "symbol 0 <unnamed> -> 0 [ABSOLUTE]\n" ++
      codes "symbol 1 <unnamed> -> 0 [ABSOLUTE | NON_INTERPOSABLE]\n" ++
      codes "symbol 2 __start_data -> 7 [ABSOLUTE]\n" ++
      codes "symbol 3 <unnamed> -> 0 [ABSOLUTE | NON_INTERPOSABLE]\n" ++
      codes "symbol 4 __start_data -> 7 [ABSOLUTE]\n" ++
      codes "symbol 5 <unnamed> -> 0 [ABSOLUTE | NON_INTERPOSABLE]\n" ++
      codes "symbol 6 foo -> 6 [NON_INTERPOSABLE]\n" ++
      codes "symbol 7 __start_data -> 7 [NON_INTERPOSABLE]\n");
}

-- no symbol is made for a name that the next batch defines
abbrev pub a_start_symbol_that_a_later_batch_defines : Case
a_start_symbol_that_a_later_batch_defines = record {
  world = world_of elf_like undemangled (record {
    first = record { objects = object (codes "main.o") (refers (codes "__start_data") ∷ []) ∷ []; scripts = []; stubs = [] };
    later =
        record { objects = object (codes "c.o") (defines (codes "__start_data") 1 ∷ []) ∷ []; scripts = []; stubs = [] } ∷ [];
    options = record default_options { custom_sections = codes "data" ∷ [] };
    texts = texts None None;
  });
  outcome = report (
      codes "loaded 0 main.o\n" ++
      codes "loaded 1 c.o\n" ++
      codes "symbol 0 <unnamed> -> 0 [ABSOLUTE]\n" ++
      codes "symbol 1 <unnamed> -> 0 [ABSOLUTE | NON_INTERPOSABLE]\n" ++
      codes "symbol 2 __start_data -> 4 [ABSOLUTE]\n" ++
      codes "symbol 3 <unnamed> -> 0 [ABSOLUTE | NON_INTERPOSABLE]\n" ++
      codes "symbol 4 __start_data -> 4 [NON_INTERPOSABLE | HAS_NON_IR_REF]\n");
}

-- the name is told once, by the last reference to it
abbrev pub an_undefined_name_of_two_batches : Case
an_undefined_name_of_two_batches = record {
  world = world_of elf_like undemangled (record {
    first = record {
      objects = object (codes "main.o") (refers (codes "foo") ∷ refers (codes "bar") ∷ []) ∷ [];
      scripts = [];
      stubs = [];
    };
    later = record { objects = object (codes "c.o") (refers (codes "foo") ∷ []) ∷ []; scripts = []; stubs = [] } ∷ [];
    options = default_options;
    texts = texts None None;
  });
  outcome = report (
      codes "loaded 0 main.o\n" ++
      codes "loaded 1 c.o\n" ++
      codes "symbol 0 <unnamed> -> 0 [ABSOLUTE]\n" ++
      codes "symbol 1 <unnamed> -> 0 [ABSOLUTE | NON_INTERPOSABLE]\n" ++
      codes "symbol 2 foo -> 5 [ABSOLUTE]\n" ++
      codes "symbol 3 bar -> 3 [ABSOLUTE | NON_INTERPOSABLE]\n" ++
      codes "symbol 4 <unnamed> -> 0 [ABSOLUTE | NON_INTERPOSABLE]\n" ++
      codes "symbol 5 foo -> 5 [ABSOLUTE | NON_INTERPOSABLE]\n" ++
      codes "undefined 3 bar\n" ++
      codes "undefined 5 foo\n");
}
