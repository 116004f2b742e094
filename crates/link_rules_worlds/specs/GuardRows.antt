-- Worked examples: small worlds that each tell one reading of a rule from another.
-- Written by `tools/worlds.py` from `tools/guard_rows.jsonl`.
use Rattle.std.specs.Prelude.{List, [], ◌∷◌, true, false, Some, None, codes, ◌++◌}
use Rattle.link_flags.specs.declared.visibility.Visibility.TheVariants.{Default, Protected, Hidden}
use Rattle.link_input.specs.declared.symbol_entry.Place.TheVariants.{Undefined, Absolute, Common, Section}
use Rattle.link_input.specs.declared.symbol_entry.SymbolBinding.TheVariants.{Local, Global, Weak, Unique}
use Rattle.link_input.specs.declared.symbol_entry.SymbolKind.TheVariants.{Plain}
use Rattle.link_input.specs.declared.options.OutputKind.TheVariants.{DynamicExecutable, SharedObject, Partial}
use Rattle.link_input.specs.declared.internal_symbols.SymbolPlacement.TheVariants.{SectionStart, SectionEnd, TlsEnd, SectionGroupEnd, LoadBaseAddress, PlatformSpecific}
use Rattle.link_input.specs.Defaults.{default_options}
use Rattle.link_rules.specs.Rules.{elf_like}
use Rattle.link_rules.specs.World.{world_of}
use Rattle.link_rules.specs.Building.{undemangled, copies, entry, null_entry, refers, defines, group, file, object, member, shared, internal, linker_script, texts, of_objects}
use Rattle.link_rules_worlds.specs.Computing.{Case, report, refusal}

-- a version script gives no version to the definition of a shared object
abbrev pub a_shared_definition_has_no_version : Case
a_shared_definition_has_no_version = record {
  world = world_of elf_like undemangled (record {
    first = record {
      objects = file (codes "l.so") true false false false 1 (null_entry ∷ defines (codes "f") 0 ∷ []) [] ∷ [];
      scripts = [];
      stubs = [];
    };
    later = [];
    options = record default_options { output = SharedObject };
    texts = texts (Some (codes "V1 { global: *; };")) None;
  });
  outcome = report (
      codes "loaded 0 l.so\n" ++
      codes "symbol 0 <unnamed> -> 0 [ABSOLUTE]\n" ++
      codes "symbol 1 <unnamed> -> 0 [ABSOLUTE | DYNAMIC]\n" ++
      codes "symbol 2 f -> 2 [DYNAMIC]\n");
}

-- a script that lists what is global and hides the rest says nothing of a local symbol
abbrev pub a_local_symbol_is_not_downgraded : Case
a_local_symbol_is_not_downgraded = record {
  world = world_of elf_like undemangled (record {
    first = record {
      objects =
          file (codes "a.o") false false false false 1 (
          null_entry ∷
          entry (codes "f") None true Local Default Plain 0 (Section 0) ∷ []) [] ∷ [];
      scripts = [];
      stubs = [];
    };
    later = [];
    options = record default_options { output = SharedObject };
    texts = texts (Some (codes "{ global: g; local: *; };")) None;
  });
  outcome = report (
      codes "loaded 0 a.o\n" ++
      codes "symbol 0 <unnamed> -> 0 [ABSOLUTE]\n" ++
      codes "symbol 1 <unnamed> -> 0 [ABSOLUTE | NON_INTERPOSABLE]\n" ++
      codes "symbol 2 f -> 2 [NON_INTERPOSABLE]\n");
}

-- an entry of a shared object counts for how far its name is seen
abbrev pub a_shared_entry_narrows_too : Case
a_shared_entry_narrows_too = record {
  world = world_of elf_like undemangled (of_objects (record default_options { output = SharedObject }) (
      file (codes "l.so") true false false false 1 (
      null_entry ∷
      entry (codes "f") None true Global Protected Plain 0 (Section 0) ∷ []) [] ∷
      file (codes "a.o") false false false false 1 (null_entry ∷ defines (codes "f") 0 ∷ []) [] ∷ []));
  outcome = report (
      codes "loaded 0 l.so\n" ++
      codes "loaded 1 a.o\n" ++
      codes "symbol 0 <unnamed> -> 0 [ABSOLUTE]\n" ++
      codes "symbol 1 <unnamed> -> 0 [ABSOLUTE | DYNAMIC]\n" ++
      codes "symbol 2 f -> 4 [DYNAMIC]\n" ++
      codes "symbol 3 <unnamed> -> 0 [ABSOLUTE | NON_INTERPOSABLE]\n" ++
      codes "symbol 4 f -> 4 [NON_INTERPOSABLE]\n");
}

-- common comes before unique, so two of them are no duplicates
abbrev pub a_unique_common_symbol_is_common : Case
a_unique_common_symbol_is_common = record {
  world = world_of elf_like undemangled (of_objects default_options (
      file (codes "a.o") false false false false 0 (
      null_entry ∷
      entry (codes "f") None true Unique Default Plain 4 Common ∷
      entry (codes "f") None true Global Default Plain 0 Common ∷ []) [] ∷ []));
  outcome = report (
      codes "loaded 0 a.o\n" ++
      codes "symbol 0 <unnamed> -> 0 [ABSOLUTE]\n" ++
      codes "symbol 1 <unnamed> -> 0 [ABSOLUTE | NON_INTERPOSABLE]\n" ++
      codes "symbol 2 f -> 2 [NON_INTERPOSABLE]\n" ++
      codes "symbol 3 f -> 2 [NON_INTERPOSABLE]\n");
}

-- weak comes before common, so the first of two weak ones stays
abbrev pub a_weak_common_symbol_is_weak : Case
a_weak_common_symbol_is_weak = record {
  world = world_of elf_like undemangled (of_objects default_options (
      file (codes "a.o") false false false false 0 (
      null_entry ∷
      entry (codes "f") None true Weak Default Plain 0 Absolute ∷
      entry (codes "f") None true Weak Default Plain 4 Common ∷ []) [] ∷ []));
  outcome = report (
      codes "loaded 0 a.o\n" ++
      codes "symbol 0 <unnamed> -> 0 [ABSOLUTE]\n" ++
      codes "symbol 1 <unnamed> -> 0 [ABSOLUTE | NON_INTERPOSABLE]\n" ++
      codes "symbol 2 f -> 2 [ABSOLUTE | NON_INTERPOSABLE]\n" ++
      codes "symbol 3 f -> 2 [NON_INTERPOSABLE]\n");
}

-- no object, and one linker script too many
abbrev pub limits_are_told_before_no_inputs : Case
limits_are_told_before_no_inputs = record {
  world = world_of elf_like undemangled (record {
    first = record { objects = []; scripts = copies 257 (linker_script (codes "s") None None []); stubs = [] };
    later = [];
    options = default_options;
    texts = texts None None;
  });
  outcome = refusal (codes "Too many linker scripts: 257");
}

-- both records of an undefined version take what it is mapped to, by two steps and by one
abbrev pub a_later_record_of_a_version_takes_its_definition : Case
a_later_record_of_a_version_takes_its_definition = record {
  world = world_of elf_like undemangled (of_objects default_options (
      file (codes "r.o") false false false false 0 (
      null_entry ∷
      entry (codes "f") (Some (codes "V")) true Weak Default Plain 0 Undefined ∷
      entry (codes "f") (Some (codes "V")) true Weak Default Plain 0 Undefined ∷ []) [] ∷
      file (codes "m.o") false true false false 1 (
      null_entry ∷
      entry (codes "f") (Some (codes "V")) false Global Default Plain 0 (Section 0) ∷ []) [] ∷
      file (codes "b.o") false false false false 1 (
      null_entry ∷
      entry (codes "f") (Some (codes "V")) false Global Default Plain 0 (Section 0) ∷ []) [] ∷ []));
  outcome = report (
      codes "loaded 0 r.o\n" ++
      codes "loaded 2 b.o\n" ++
      codes "symbol 0 <unnamed> -> 0 [ABSOLUTE]\n" ++
      codes "symbol 1 <unnamed> -> 0 [ABSOLUTE | NON_INTERPOSABLE]\n" ++
      codes "symbol 2 f -> 5 [ABSOLUTE | UNDEFINED_WEAK]\n" ++
      codes "symbol 3 f -> 7 [ABSOLUTE | UNDEFINED_WEAK]\n" ++
      codes "symbol 4 <unnamed> -> 0 [ABSOLUTE | NON_INTERPOSABLE]\n" ++
      codes "symbol 5 f -> 7 [NON_INTERPOSABLE | HAS_NON_IR_REF]\n" ++
      codes "symbol 6 <unnamed> -> 0 [ABSOLUTE | NON_INTERPOSABLE]\n" ++
      codes "symbol 7 f -> 7 [NON_INTERPOSABLE]\n" ++
      codes "undefined 3 f@V\n");
}

-- a shared object that is linked as needed is optional in a whole archive too
abbrev pub as_needed_before_whole_archive : Case
as_needed_before_whole_archive = record {
  world = world_of elf_like undemangled (of_objects default_options (file (codes "l.so") true true true true 0 (null_entry ∷ []) [] ∷ []));
  outcome = report (codes "symbol 0 <unnamed> -> 0 [ABSOLUTE]\n" ++ codes "symbol 1 <unnamed> -> 0 [ABSOLUTE | DYNAMIC]\n");
}

-- how far a version is seen is counted from its own entries, not from what stands for them
abbrev pub a_version_counts_its_own_visibility : Case
a_version_counts_its_own_visibility = record {
  world = world_of elf_like undemangled (of_objects default_options (
      file (codes "a.o") false false false false 1 (
      null_entry ∷
      entry (codes "f") (Some (codes "V")) true Weak Hidden Plain 0 (Section 0) ∷
      defines (codes "f") 0 ∷ []) [] ∷
      file (codes "m.o") false true false false 1 (
      null_entry ∷
      entry (codes "f") (Some (codes "V")) false Global Default Plain 0 (Section 0) ∷ []) [] ∷ []));
  outcome = report (
      codes "loaded 0 a.o\n" ++
      codes "symbol 0 <unnamed> -> 0 [ABSOLUTE]\n" ++
      codes "symbol 1 <unnamed> -> 0 [ABSOLUTE | NON_INTERPOSABLE]\n" ++
      codes "symbol 2 f -> 3 [NON_INTERPOSABLE | DOWNGRADE_TO_LOCAL]\n" ++
      codes "symbol 3 f -> 3 [NON_INTERPOSABLE | DOWNGRADE_TO_LOCAL]\n" ++
      codes "symbol 4 <unnamed> -> 0 [ABSOLUTE | NON_INTERPOSABLE]\n" ++
      codes "symbol 5 f -> 3 [NON_INTERPOSABLE | DOWNGRADE_TO_LOCAL]\n");
}

-- a reference stops after two steps, at a symbol that has a step of its own
abbrev pub two_steps_and_no_third : Case
two_steps_and_no_third = record {
  world = world_of elf_like undemangled (of_objects (record default_options {
    output = DynamicExecutable;
    linker_symbols = internal (codes "f") LoadBaseAddress false ∷ internal (codes "f") LoadBaseAddress false ∷ [];
  }) (
      file (codes "l.so") true false false false 1 (
      null_entry ∷
      entry (codes "f") (Some (codes "V")) true Global Default Plain 0 (Section 0) ∷ []) [] ∷
      file (codes "a.o") false false false false 1 (
      null_entry ∷
      entry (codes "f") (Some (codes "V")) false Weak Default Plain 0 (Section 0) ∷ []) [] ∷
      file (codes "r.o") false false false false 0 (null_entry ∷ refers (codes "f") ∷ []) [] ∷ []));
  outcome = report (
      codes "loaded 0 l.so\n" ++
      codes "loaded 1 a.o\n" ++
      codes "loaded 2 r.o\n" ++
      codes "symbol 0 <unnamed> -> 0 [ABSOLUTE]\n" ++
      codes "symbol 1 f -> 6 [NON_INTERPOSABLE | HAS_NON_IR_REF]\n" ++
      codes "symbol 2 f -> 6 [NON_INTERPOSABLE]\n" ++
      codes "symbol 3 <unnamed> -> 0 [ABSOLUTE | DYNAMIC]\n" ++
      codes "symbol 4 f -> 6 [DYNAMIC]\n" ++
      codes "symbol 5 <unnamed> -> 0 [ABSOLUTE | NON_INTERPOSABLE]\n" ++
      codes "symbol 6 f -> 6 [NON_INTERPOSABLE]\n" ++
      codes "symbol 7 <unnamed> -> 0 [ABSOLUTE | NON_INTERPOSABLE]\n" ++
      codes "symbol 8 f -> 4 [ABSOLUTE]\n");
}

-- the real name is looked up before the name is wrapped
abbrev pub a_real_name_means_what_stood_before_its_wrap : Case
a_real_name_means_what_stood_before_its_wrap = record {
  world = world_of elf_like undemangled (of_objects (record default_options { wrap = codes "foo" ∷ [] }) (
      file (codes "main.o") false false false false 1 (
      null_entry ∷
      refers (codes "__real_foo") ∷
      refers (codes "foo") ∷ []) [] ∷
      file (codes "a.o") false false false false 1 (null_entry ∷ defines (codes "foo") 0 ∷ []) [] ∷
      file (codes "w.o") false false false false 1 (null_entry ∷ defines (codes "__wrap_foo") 0 ∷ []) [] ∷ []));
  outcome = report (
      codes "loaded 0 main.o\n" ++
      codes "loaded 1 a.o\n" ++
      codes "loaded 2 w.o\n" ++
      codes "symbol 0 <unnamed> -> 0 [ABSOLUTE]\n" ++
      codes "symbol 1 <unnamed> -> 0 [ABSOLUTE | NON_INTERPOSABLE]\n" ++
      codes "symbol 2 __real_foo -> 5 [ABSOLUTE]\n" ++
      codes "symbol 3 foo -> 7 [ABSOLUTE]\n" ++
      codes "symbol 4 <unnamed> -> 0 [ABSOLUTE | NON_INTERPOSABLE]\n" ++
      codes "symbol 5 foo -> 5 [NON_INTERPOSABLE | HAS_NON_IR_REF]\n" ++
      codes "symbol 6 <unnamed> -> 0 [ABSOLUTE | NON_INTERPOSABLE]\n" ++
      codes "symbol 7 __wrap_foo -> 7 [NON_INTERPOSABLE | HAS_NON_IR_REF]\n");
}

-- the wrapper of a name is wrapped first, so the name stands for the wrapper's wrapper
abbrev pub a_wrap_sees_the_wraps_before_it : Case
a_wrap_sees_the_wraps_before_it = record {
  world = world_of elf_like undemangled (of_objects (record default_options {
    wrap = codes "__wrap_foo" ∷ codes "foo" ∷ [];
  }) (
      file (codes "main.o") false false false false 1 (
      null_entry ∷
      refers (codes "foo") ∷
      refers (codes "__wrap_foo") ∷
      refers (codes "__real_foo") ∷ []) [] ∷
      file (codes "a.o") false false false false 1 (
      null_entry ∷
      defines (codes "foo") 0 ∷
      defines (codes "__wrap_foo") 0 ∷
      defines (codes "__wrap___wrap_foo") 0 ∷ []) [] ∷ []));
  outcome = report (
      codes "loaded 0 main.o\n" ++
      codes "loaded 1 a.o\n" ++
      codes "symbol 0 <unnamed> -> 0 [ABSOLUTE]\n" ++
      codes "symbol 1 <unnamed> -> 0 [ABSOLUTE | NON_INTERPOSABLE]\n" ++
      codes "symbol 2 foo -> 8 [ABSOLUTE]\n" ++
      codes "symbol 3 __wrap_foo -> 8 [ABSOLUTE]\n" ++
      codes "symbol 4 __real_foo -> 6 [ABSOLUTE]\n" ++
      codes "symbol 5 <unnamed> -> 0 [ABSOLUTE | NON_INTERPOSABLE]\n" ++
      codes "symbol 6 foo -> 6 [NON_INTERPOSABLE | HAS_NON_IR_REF]\n" ++
      codes "symbol 7 __wrap_foo -> 7 [NON_INTERPOSABLE]\n" ++
      codes "symbol 8 __wrap___wrap_foo -> 8 [NON_INTERPOSABLE | HAS_NON_IR_REF]\n");
}

-- each symbol of the linker is the first definition of its name, so the member is not loaded
abbrev pub linker_symbols_of_each_placement : Case
linker_symbols_of_each_placement = record {
  world = world_of elf_like undemangled (of_objects (record default_options {
    linker_symbols =
        internal (codes "start") (SectionStart 0) false ∷
        internal (codes "end") (SectionEnd 0) false ∷
        internal (codes "group_end") (SectionGroupEnd 0) false ∷
        internal (codes "tls") (TlsEnd 0) false ∷
        internal (codes "base") LoadBaseAddress true ∷
        internal (codes "own") PlatformSpecific false ∷ [];
  }) (
      object (codes "main.o") (
      refers (codes "start") ∷
      refers (codes "end") ∷
      refers (codes "group_end") ∷
      refers (codes "tls") ∷
      refers (codes "base") ∷
      refers (codes "own") ∷ []) ∷
      member (codes "a.o") (
      defines (codes "start") 1 ∷
      defines (codes "end") 1 ∷
      defines (codes "group_end") 1 ∷
      defines (codes "tls") 1 ∷
      defines (codes "base") 1 ∷
      defines (codes "own") 1 ∷ []) ∷ []));
  outcome = report (
      codes "loaded 0 main.o\n" ++
      codes "symbol 0 <unnamed> -> 0 [ABSOLUTE]\n" ++
      codes "symbol 1 start -> 1 [NON_INTERPOSABLE | HAS_NON_IR_REF]\n" ++
      codes "symbol 2 end -> 2 [NON_INTERPOSABLE | HAS_NON_IR_REF]\n" ++
      codes "symbol 3 group_end -> 3 [NON_INTERPOSABLE | HAS_NON_IR_REF]\n" ++
      codes "symbol 4 tls -> 4 [NON_INTERPOSABLE | HAS_NON_IR_REF]\n" ++
      codes "symbol 5 base -> 5 [NON_INTERPOSABLE | DOWNGRADE_TO_LOCAL | HAS_NON_IR_REF]\n" ++
      codes "symbol 6 own -> 6 [ABSOLUTE | NON_INTERPOSABLE | HAS_NON_IR_REF]\n" ++
      codes "symbol 7 <unnamed> -> 0 [ABSOLUTE | NON_INTERPOSABLE]\n" ++
      codes "symbol 8 start -> 1 [ABSOLUTE]\n" ++
      codes "symbol 9 end -> 2 [ABSOLUTE]\n" ++
      codes "symbol 10 group_end -> 3 [ABSOLUTE]\n" ++
      codes "symbol 11 tls -> 4 [ABSOLUTE]\n" ++
      codes "symbol 12 base -> 5 [ABSOLUTE]\n" ++
      codes "symbol 13 own -> 6 [ABSOLUTE]\n" ++
      codes "symbol 14 <unnamed> -> 0 [ABSOLUTE | NON_INTERPOSABLE]\n" ++
      codes "symbol 15 start -> 1 [NON_INTERPOSABLE]\n" ++
      codes "symbol 16 end -> 2 [NON_INTERPOSABLE]\n" ++
      codes "symbol 17 group_end -> 3 [NON_INTERPOSABLE]\n" ++
      codes "symbol 18 tls -> 4 [NON_INTERPOSABLE]\n" ++
      codes "symbol 19 base -> 5 [NON_INTERPOSABLE]\n" ++
      codes "symbol 20 own -> 6 [NON_INTERPOSABLE]\n");
}

-- weak, unique and common symbols count where the first of their names is not loaded
abbrev pub what_survives_of_shared_objects : Case
what_survives_of_shared_objects = record {
  world = world_of elf_like undemangled (of_objects default_options (
      file (codes "l.so") true false false true 4 (
      null_entry ∷
      defines (codes "f") 1 ∷
      defines (codes "g") 1 ∷
      defines (codes "h") 1 ∷ []) [] ∷
      shared (codes "k.so") (
      entry (codes "f") None true Weak Default Plain 0 (Section 1) ∷
      entry (codes "g") None true Unique Default Plain 0 (Section 1) ∷
      entry (codes "h") None true Global Default Plain 8 Common ∷ []) ∷
      object (codes "main.o") (
      entry (codes "f") None true Weak Default Plain 0 Undefined ∷
      entry (codes "g") None true Weak Default Plain 0 Undefined ∷
      entry (codes "h") None true Weak Default Plain 0 Undefined ∷ []) ∷ []));
  outcome = report (
      codes "loaded 1 k.so\n" ++
      codes "loaded 2 main.o\n" ++
      codes "symbol 0 <unnamed> -> 0 [ABSOLUTE]\n" ++
      codes "symbol 1 <unnamed> -> 0 [ABSOLUTE | DYNAMIC]\n" ++
      codes "symbol 2 f -> 6 [DYNAMIC | HAS_NON_IR_REF]\n" ++
      codes "symbol 3 g -> 7 [DYNAMIC | HAS_NON_IR_REF]\n" ++
      codes "symbol 4 h -> 8 [DYNAMIC | HAS_NON_IR_REF]\n" ++
      codes "symbol 5 <unnamed> -> 0 [ABSOLUTE | DYNAMIC]\n" ++
      codes "symbol 6 f -> 6 [DYNAMIC]\n" ++
      codes "symbol 7 g -> 7 [DYNAMIC]\n" ++
      codes "symbol 8 h -> 8 [DYNAMIC]\n" ++
      codes "symbol 9 <unnamed> -> 0 [ABSOLUTE | NON_INTERPOSABLE]\n" ++
      codes "symbol 10 f -> 10 [ABSOLUTE | NON_INTERPOSABLE | UNDEFINED_WEAK]\n" ++
      codes "symbol 11 g -> 11 [ABSOLUTE | NON_INTERPOSABLE | UNDEFINED_WEAK]\n" ++
      codes "symbol 12 h -> 12 [ABSOLUTE | NON_INTERPOSABLE | UNDEFINED_WEAK]\n" ++
      codes "undefined 10 f\n" ++
      codes "undefined 11 g\n" ++
      codes "undefined 12 h\n");
}

-- the weak record of the version stands for the strong plain definition, so there are two strong ones
abbrev pub what_stands_for_a_version_clashes : Case
what_stands_for_a_version_clashes = record {
  world = world_of elf_like undemangled (of_objects default_options (
      object (codes "a.o") (entry (codes "f") (Some (codes "V")) true Weak Default Plain 0 (Section 1) ∷ []) ∷
      object (codes "b.o") (entry (codes "f") (Some (codes "V")) false Global Default Plain 0 (Section 1) ∷ []) ∷
      object (codes "c.o") (defines (codes "f") 1 ∷ []) ∷ []));
  outcome = refusal (codes "Duplicate symbols detected: f, defined in c.o and b.o");
}

-- the new symbol is that of a group of a partial output
abbrev pub a_start_symbol_is_a_signature : Case
a_start_symbol_is_a_signature = record {
  world = world_of elf_like undemangled (of_objects (record default_options {
    output = Partial;
    custom_sections = codes "d" ∷ [];
  }) (
      file (codes "a.o") false false false false 4 (
      null_entry ∷
      defines (codes "x") 1 ∷
      refers (codes "__start_d") ∷ []) (group 1 2 true (2 ∷ []) ∷ []) ∷ []));
  outcome = report (
      codes "loaded 0 a.o\n" ++
      codes "kept 0 0 __start_d\n" ++
      codes "symbol 0 <unnamed> -> 0 [ABSOLUTE]\n" ++
      codes "symbol 1 <unnamed> -> 0 [ABSOLUTE | NON_INTERPOSABLE]\n" ++
      codes "symbol 2 x -> 2 [NON_INTERPOSABLE]\n" ++
      codes "symbol 3 __start_d -> 4 [ABSOLUTE]\n" ++
      codes "symbol 4 __start_d -> 4 [NON_INTERPOSABLE | GROUP_SIGNATURE]\n");
}

-- of those that are not shared it takes the one that counts, and not the first
abbrev pub a_hidden_reference_takes_the_strong_one : Case
a_hidden_reference_takes_the_strong_one = record {
  world = world_of elf_like undemangled (of_objects default_options (
      shared (codes "l.so") (defines (codes "f") 1 ∷ defines (codes "g") 1 ∷ []) ∷
      object (codes "a.o") (
      entry (codes "f") None true Weak Default Plain 0 (Section 1) ∷
      entry (codes "g") None true Weak Default Plain 0 (Section 1) ∷ []) ∷
      object (codes "b.o") (defines (codes "f") 1 ∷ entry (codes "g") None true Global Default Plain 4 Common ∷ []) ∷
      object (codes "main.o") (
      entry (codes "f") None true Global Hidden Plain 0 Undefined ∷
      entry (codes "g") None true Global Hidden Plain 0 Undefined ∷ []) ∷ []));
  outcome = report (
      codes "loaded 0 l.so\n" ++
      codes "loaded 1 a.o\n" ++
      codes "loaded 2 b.o\n" ++
      codes "loaded 3 main.o\n" ++
      codes "symbol 0 <unnamed> -> 0 [ABSOLUTE]\n" ++
      codes "symbol 1 <unnamed> -> 0 [ABSOLUTE | DYNAMIC]\n" ++
      codes "symbol 2 f -> 8 [DYNAMIC]\n" ++
      codes "symbol 3 g -> 9 [DYNAMIC]\n" ++
      codes "symbol 4 <unnamed> -> 0 [ABSOLUTE | NON_INTERPOSABLE]\n" ++
      codes "symbol 5 f -> 8 [NON_INTERPOSABLE]\n" ++
      codes "symbol 6 g -> 9 [NON_INTERPOSABLE]\n" ++
      codes "symbol 7 <unnamed> -> 0 [ABSOLUTE | NON_INTERPOSABLE]\n" ++
      codes "symbol 8 f -> 8 [NON_INTERPOSABLE | DOWNGRADE_TO_LOCAL | HAS_NON_IR_REF]\n" ++
      codes "symbol 9 g -> 9 [NON_INTERPOSABLE | DOWNGRADE_TO_LOCAL | HAS_NON_IR_REF]\n" ++
      codes "symbol 10 <unnamed> -> 0 [ABSOLUTE | NON_INTERPOSABLE]\n" ++
      codes "symbol 11 f -> 8 [ABSOLUTE | NON_INTERPOSABLE]\n" ++
      codes "symbol 12 g -> 9 [ABSOLUTE | NON_INTERPOSABLE]\n");
}

-- the second text is one too many, whatever stands between
abbrev pub a_script_without_a_version_text_between_two : Case
a_script_without_a_version_text_between_two = record {
  world = world_of elf_like undemangled (record {
    first = record {
      objects = object (codes "a.o") (defines (codes "f") 1 ∷ []) ∷ [];
      scripts =
          linker_script (codes "a.ld") None (Some (codes "{ a; };")) [] ∷
          linker_script (codes "b.ld") None None [] ∷
          linker_script (codes "c.ld") None (Some (codes "{ b; };")) [] ∷ [];
      stubs = [];
    };
    later = [];
    options = default_options;
    texts = texts None None;
  });
  outcome = refusal (codes "Multiple version scripts provided");
}

-- others do not see it, so the member that defines the version is loaded
abbrev pub a_local_definition_of_a_version : Case
a_local_definition_of_a_version = record {
  world = world_of elf_like undemangled (of_objects default_options (
      object (codes "main.o") (entry (codes "f") (Some (codes "V")) true Global Default Plain 0 Undefined ∷ []) ∷
      object (codes "a.o") (entry (codes "f") (Some (codes "V")) true Local Default Plain 0 (Section 1) ∷ []) ∷
      member (codes "b.o") (entry (codes "f") (Some (codes "V")) true Global Default Plain 0 (Section 1) ∷ []) ∷ []));
  outcome = report (
      codes "loaded 0 main.o\n" ++
      codes "loaded 1 a.o\n" ++
      codes "loaded 2 b.o\n" ++
      codes "symbol 0 <unnamed> -> 0 [ABSOLUTE]\n" ++
      codes "symbol 1 <unnamed> -> 0 [ABSOLUTE | NON_INTERPOSABLE]\n" ++
      codes "symbol 2 f -> 6 [ABSOLUTE]\n" ++
      codes "symbol 3 <unnamed> -> 0 [ABSOLUTE | NON_INTERPOSABLE]\n" ++
      codes "symbol 4 f -> 4 [NON_INTERPOSABLE]\n" ++
      codes "symbol 5 <unnamed> -> 0 [ABSOLUTE | NON_INTERPOSABLE]\n" ++
      codes "symbol 6 f -> 6 [NON_INTERPOSABLE | HAS_NON_IR_REF]\n");
}

unfoldable pub all_cases : List Case
all_cases =
    a_shared_definition_has_no_version ∷ a_local_symbol_is_not_downgraded ∷ a_shared_entry_narrows_too ∷
    a_unique_common_symbol_is_common ∷ a_weak_common_symbol_is_weak ∷ limits_are_told_before_no_inputs ∷
    a_later_record_of_a_version_takes_its_definition ∷ as_needed_before_whole_archive ∷
    a_version_counts_its_own_visibility ∷ two_steps_and_no_third ∷ a_real_name_means_what_stood_before_its_wrap ∷
    a_wrap_sees_the_wraps_before_it ∷ linker_symbols_of_each_placement ∷ what_survives_of_shared_objects ∷
    what_stands_for_a_version_clashes ∷ a_start_symbol_is_a_signature ∷ a_hidden_reference_takes_the_strong_one ∷
    a_script_without_a_version_text_between_two ∷ a_local_definition_of_a_version ∷ []
