-- Generated worlds, and what an independent program answers to each.
-- Written by `tools/worlds.py` from `tools/worlds.jsonl`.
use Rattle.std.specs.Prelude.{[], ◌∷◌, true, false, Some, None, codes, ◌++◌}
use Rattle.link_flags.specs.declared.visibility.Visibility.TheVariants.{Default, Protected, Hidden}
use Rattle.link_input.specs.declared.symbol_entry.Place.TheVariants.{Undefined, Absolute, Common, Section}
use Rattle.link_input.specs.declared.symbol_entry.SymbolBinding.TheVariants.{Local, Global, Weak, Unique}
use Rattle.link_input.specs.declared.symbol_entry.SymbolKind.TheVariants.{Plain, Func, Ifunc}
use Rattle.link_input.specs.declared.options.OutputKind.TheVariants.{DynamicExecutable, SharedObject, Partial}
use Rattle.link_input.specs.declared.internal_symbols.RedirectKind.TheVariants.{DefSym, Script, Provide}
use Rattle.link_input.specs.declared.internal_symbols.SymbolPlacement.TheVariants.{SectionEnd, SectionGroupEnd, LoadBaseAddress}
use Rattle.link_input.specs.Defaults.{default_options}
use Rattle.link_rules.specs.Rules.{elf_like, mach_like}
use Rattle.link_rules.specs.World.{world_of}
use Rattle.link_rules.specs.Building.{undemangled, entry, null_entry, refers, defines, group, file, object, member, internal, redirect, linker_script, stub, texts, of_objects}
use Rattle.link_rules_worlds.specs.Computing.{Case, report, refusal}

abbrev pub comdat_1020 : Case
comdat_1020 = record {
  world = world_of mach_like undemangled (record {
    first = record {
      objects =
          file (codes "m0.o") false false false false 1 (
          entry [] (Some (codes "V1")) true Global Default Plain 0 Undefined ∷
          entry [] (Some (codes "V1")) true Global Default Plain 0 Undefined ∷
          entry (codes "foo") (Some (codes "V2")) true Global Default Plain 0 Absolute ∷ []) [] ∷
          file (codes "a1.so") true true false true 4 [] [] ∷
          file (codes "a2.so") true true false true 0 (
          refers (codes "bar") ∷
          entry (codes "foo") (Some (codes "V2")) false Global Default Plain 0 Undefined ∷ []) [] ∷ [];
      scripts = [];
      stubs = [];
    };
    later = [];
    options = record default_options {
      output = DynamicExecutable;
      allow_multiple = true;
      wrap = codes "foo" ∷ [] ∷ [];
      defsym = redirect (codes "foo") DefSym [] false ∷ [];
      linker_symbols = internal (codes "bar") LoadBaseAddress true ∷ [];
    };
    texts = texts (Some (codes "{ global:# c };\nmain; main;\nlocal:\t*;\t};")) (Some (codes "# c\nf?o"));
  });
  outcome = report (
      codes "loaded 0 m0.o\n" ++
      codes "symbol 0 <unnamed> -> 0 [ABSOLUTE]\n" ++
      codes "symbol 1 bar -> 1 [NON_INTERPOSABLE | DOWNGRADE_TO_LOCAL]\n" ++
      codes "symbol 2 foo -> 5 [ABSOLUTE | NON_INTERPOSABLE]\n" ++
      codes "symbol 3 <unnamed> -> 0 [ABSOLUTE]\n" ++
      codes "symbol 4 <unnamed> -> 0 [ABSOLUTE]\n" ++
      codes "symbol 5 foo -> 5 [ABSOLUTE | NON_INTERPOSABLE | DOWNGRADE_TO_LOCAL]\n" ++
      codes "symbol 6 bar -> 0 [ABSOLUTE | DYNAMIC]\n" ++
      codes "symbol 7 foo -> 0 [ABSOLUTE | DYNAMIC]\n" ++
      codes "undefined 4 @V1\n");
}

abbrev pub comdat_1031 : Case
comdat_1031 = record {
  world = world_of mach_like undemangled (record {
    first = record {
      objects =
          file (codes "x\ny") false false false false 8 [] [] ∷
          file (codes "a1.o") false false false false 3 (
          refers (codes "__wrap_bar") ∷
          entry (codes "foo") None true Weak Default Plain 0 Undefined ∷ []) [] ∷
          file (codes "b2.o") false false false false 2 (
          entry (codes "__real_bar") None true Weak Default Plain 4 Undefined ∷
          refers (codes "foo") ∷
          entry (codes "_foo") None true Global Default Plain 4 Common ∷ []) [] ∷
          file (codes "b3.o") false false false false 4 (
          refers ((226 ∷ 130 ∷ 172 ∷ []) ++ codes "foo") ∷
          entry (codes "__wrap_bar") None true Unique Default Plain 0 Undefined ∷ []) [] ∷ [];
      scripts =
          linker_script (codes "s0.ld") (Some ((226 ∷ 130 ∷ 172 ∷ []) ++ codes "foo")) None [] ∷
          linker_script (codes "s1.ld") (Some (codes "foo")) None (
          redirect (codes "__wrap_bar") Script [] false ∷
          redirect (codes "_foo") Script (codes "__real_bar" ∷ []) false ∷
          redirect (codes "foo") Provide [] true ∷ []) ∷ [];
      stubs = [];
    };
    later = [];
    options = record default_options { output = SharedObject };
    texts = texts None (Some (codes "foo # c\n\u{c}bar\r\n[^*]**"));
  });
  outcome = report (
      codes "loaded 0 x\n" ++
      codes "y\n" ++
      codes "loaded 1 a1.o\n" ++
      codes "loaded 2 b2.o\n" ++
      codes "loaded 3 b3.o\n" ++
      codes "symbol 0 <unnamed> -> 0 [ABSOLUTE]\n" ++
      codes "symbol 1 __wrap_bar -> 8 [ABSOLUTE]\n" ++
      codes "symbol 2 foo -> 10 [ABSOLUTE]\n" ++
      codes "symbol 3 __real_bar -> 3 [ABSOLUTE | DYNAMIC | UNDEFINED_WEAK]\n" ++
      codes "symbol 4 foo -> 10 [ABSOLUTE]\n" ++
      codes "symbol 5 _foo -> 5 []\n" ++
      codes "symbol 6 " ++ (226 ∷ 130 ∷ 172 ∷ []) ++ codes "foo -> 6 [ABSOLUTE | DYNAMIC]\n" ++
      codes "symbol 7 __wrap_bar -> 8 [ABSOLUTE]\n" ++
      codes "symbol 8 __wrap_bar -> 8 [NON_INTERPOSABLE | HAS_NON_IR_REF]\n" ++
      codes "symbol 9 _foo -> 5 [NON_INTERPOSABLE]\n" ++
      codes "symbol 10 foo -> 10 [NON_INTERPOSABLE | DOWNGRADE_TO_LOCAL | HAS_NON_IR_REF]\n" ++
      codes "undefined 3 __real_bar\n" ++
      codes "undefined 6 " ++ (226 ∷ 130 ∷ 172 ∷ []) ++ codes "foo\n" ++
      codes "missing bar\n");
}

abbrev pub comdat_1032 : Case
comdat_1032 = record {
  world = world_of elf_like undemangled (record {
    first = record {
      objects =
          member (codes "a0.o") [] ∷
          file (codes "m1.o") false false false false 1 (
          null_entry ∷
          refers (codes "fzo") ∷
          refers (codes "a\nb") ∷ []) [] ∷
          file (codes "a2.o") false true false false 0 (
          null_entry ∷
          entry (codes "fzo") None true Local Default Plain 1 Common ∷
          entry (codes "a\nb") None true Global Hidden Plain 0 Undefined ∷
          entry (codes "a\nb") None true Global Hidden Plain 0 Undefined ∷
          refers (codes "fzo") ∷
          refers (codes "fzo") ∷ []) [] ∷
          file (codes "b3.o") false false false false 3 (
          null_entry ∷
          entry (codes "fzo") None true Local Default Plain 4 Common ∷
          entry (codes "fzo") None true Global Default Plain 1 Common ∷ []) (
          group 1 1 true (0 ∷ []) ∷
          group 2 1 true [] ∷ []) ∷ [];
      scripts = [];
      stubs = [];
    };
    later = [];
    options = record default_options {
      allow_multiple = true;
      files_per_group = 1;
      wrap = codes "a\nb" ∷ codes "foo" ∷ codes "fzo" ∷ [];
    };
    texts = texts None (Some (codes "# c };\n{};\t"));
  });
  outcome = report (
      codes "loaded 1 m1.o\n" ++
      codes "loaded 3 b3.o\n" ++
      codes "kept 3 0 fzo\n" ++
      codes "symbol 0 <unnamed> -> 0 [ABSOLUTE]\n" ++
      codes "symbol 1 <unnamed> -> 0 [ABSOLUTE | NON_INTERPOSABLE]\n" ++
      codes "symbol 2 <unnamed> -> 0 [ABSOLUTE | NON_INTERPOSABLE]\n" ++
      codes "symbol 3 fzo -> 13 [ABSOLUTE]\n" ++
      codes "symbol 4 a\n" ++
      codes "b -> 4 [ABSOLUTE | NON_INTERPOSABLE]\n" ++
      codes "symbol 5 <unnamed> -> 0 [ABSOLUTE | NON_INTERPOSABLE]\n" ++
      codes "symbol 6 fzo -> 6 [NON_INTERPOSABLE]\n" ++
      codes "symbol 7 a\n" ++
      codes "b -> 0 [ABSOLUTE | NON_INTERPOSABLE]\n" ++
      codes "symbol 8 a\n" ++
      codes "b -> 0 [ABSOLUTE | NON_INTERPOSABLE]\n" ++
      codes "symbol 9 fzo -> 0 [ABSOLUTE]\n" ++
      codes "symbol 10 fzo -> 0 [ABSOLUTE]\n" ++
      codes "symbol 11 <unnamed> -> 0 [ABSOLUTE | NON_INTERPOSABLE]\n" ++
      codes "symbol 12 fzo -> 12 [NON_INTERPOSABLE]\n" ++
      codes "symbol 13 fzo -> 13 [NON_INTERPOSABLE | HAS_NON_IR_REF]\n" ++
      codes "undefined 4 a\n" ++
      codes "b\n");
}

abbrev pub comdat_1002 : Case
comdat_1002 = record {
  world = world_of mach_like undemangled (record {
    first = record {
      objects =
          file (codes "a0.o") false true false false 8 (refers (codes "fzo") ∷ []) (
          group 5 0 true (3 ∷ []) ∷
          group 6 0 false [] ∷
          group 4 0 true (0 ∷ []) ∷ []) ∷
          file (codes "m1.o") false false false false 2 [] [] ∷
          file (codes "a2.o") false false false false 6 (
          defines (codes "_foo") 3 ∷
          defines (codes "fzo") 0 ∷
          refers (codes "_foo") ∷ []) (
          group 3 1 true (0 ∷ 0 ∷ []) ∷
          group 5 1 true (2 ∷ []) ∷
          group 4 0 true [] ∷ []) ∷
          file (codes "m3.o") false true true false 4 [] [] ∷
          file (codes "b.o") false true false false 4 [] [] ∷
          file (codes "a5.so") true false false true 2 (refers (codes "main") ∷ []) [] ∷ [];
      scripts = [];
      stubs = [];
    };
    later = [];
    options = record default_options {
      allow_multiple = true;
      files_per_group = 1;
      wrap = codes "_foo" ∷ codes "_foo" ∷ codes "main" ∷ [];
      custom_sections = codes "nosec2" ∷ [];
    };
    texts = texts (Some (codes "V3 { global: local: *; f*; ba[rz]; };")) (Some (codes "bar\nfoo\n\u{c}bar\r\n\"foo\""));
  });
  outcome = refusal (codes "a2.o: section 0 belongs to multiple groups");
}

abbrev pub comdat_1004 : Case
comdat_1004 = record {
  world = world_of elf_like undemangled (record {
    first = record {
      objects =
          file (codes "a0.o") false false false false 3 (
          null_entry ∷
          entry (codes "x y") (Some (codes "V1")) true Global Default Plain 0 (Section 1) ∷ []) (
          group 1 1 true (2 ∷ []) ∷
          group 0 0 true [] ∷ []) ∷
          file (codes "b1.o") false false false false 6 (
          null_entry ∷
          entry (codes "__wrap_bar") (Some (codes "V3")) false Global Default Plain 0 (Section 2) ∷
          entry (codes "__wrap_bar") None true Global Default Plain 0 Common ∷
          entry (codes "foo") (Some (codes "V1")) true Global Default Func 0 Undefined ∷
          entry (codes "__wrap_foo") (Some (codes "V2")) true Global Default Plain 0 Undefined ∷
          refers (codes "_foo") ∷ []) (
          group 4 2 true (2 ∷ 3 ∷ []) ∷
          group 5 0 true [] ∷
          group 0 2 true (1 ∷ []) ∷ []) ∷
          file (codes "a2.o") false false false false 0 (null_entry ∷ []) [] ∷
          file (codes "a3.so") true true false false 0 (null_entry ∷ refers (codes "__start_d2") ∷ []) [] ∷
          file (codes "a4.so") true true false true 8 (
          null_entry ∷
          entry (codes "__wrap_foo") (Some (codes "V1")) false Global Default Func 0 Absolute ∷
          entry (codes "__wrap_foo") (Some (codes "V3")) true Global Default Ifunc 0 (Section 1) ∷ []) [] ∷ [];
      scripts = linker_script (codes "s0.ld") None None [] ∷ [];
      stubs = [];
    };
    later = [];
    options = record default_options { output = SharedObject };
    texts = texts (Some (codes "V1 { global: f\\oo; local: extern \"C++\" { f\\oo; }; b*; };")) (Some (codes "{ foo; b*; };"));
  });
  outcome = refusal (codes "Symbol __wrap_bar has undefined version V3");
}

abbrev pub comdat_1025 : Case
comdat_1025 = record {
  world = world_of elf_like undemangled (record {
    first = record {
      objects =
          file (codes "m0.o") false false false false 8 (
          null_entry ∷
          defines (codes "__wrap_bar") 4 ∷
          entry (codes "foo") None true Weak Default Plain 0 Undefined ∷
          refers (codes "foo") ∷
          defines (codes "foo") 6 ∷
          defines (codes "foo") 0 ∷ []) (group 3 2 true (4 ∷ 0 ∷ []) ∷ []) ∷
          file (codes "b1.o") false false false false 8 (null_entry ∷ refers (codes "_start") ∷ []) [] ∷ [];
      scripts = [];
      stubs = [];
    };
    later = [];
    options = record default_options { output = DynamicExecutable; entry = Some (codes "_start"); allow_multiple = true };
    texts = texts (Some (codes "V1 { local: main; }; V2 { global: f\\oo; local: f?o; };")) (Some (codes "# c };\n{ [[^]x; /**/}\r\n"));
  });
  outcome = refusal (codes "Failed to parse symbol export list: Syntax error at 20");
}

abbrev pub comdat_1047 : Case
comdat_1047 = record {
  world = world_of elf_like undemangled (of_objects (record default_options {
    custom_sections = [] ∷ codes "data" ∷ codes "d2" ∷ [];
  }) (
      file (codes "m0.o") false false false false 6 (null_entry ∷ refers (codes "f") ∷ []) (
      group 3 0 true (4 ∷ []) ∷
      group 1 0 true (5 ∷ 5 ∷ []) ∷
      group 0 1 false (2 ∷ []) ∷ []) ∷
      file (codes "m1.so") true false false false 8 (
      null_entry ∷
      entry (codes "x y") None true Weak Default Plain 0 Absolute ∷
      defines (codes "x y") 6 ∷
      refers (codes "x y") ∷ []) (group 7 2 true (1 ∷ []) ∷ group 0 3 true (4 ∷ []) ∷ []) ∷
      file (codes "m2.o") false false false false 1 (null_entry ∷ defines (codes "__start_data") 0 ∷ []) [] ∷
      file (codes "c.o") false false false false 1 (
      null_entry ∷
      entry (codes "a\nb") None true Weak Default Plain 0 Undefined ∷
      entry (codes "f") None true Global Default Plain 18446744073709551615 Common ∷
      refers [] ∷ []) [] ∷
      file (codes "m4.o") false false false false 2 (null_entry ∷ []) (group 1 0 true (0 ∷ []) ∷ []) ∷
      file (codes "a5.o") false false false false 3 (
      null_entry ∷
      defines (codes "__start_data") 2 ∷ []) (
      group 0 1 true (2 ∷ []) ∷
      group 1 1 true [] ∷ []) ∷ []));
  outcome = refusal (codes "m0.o: section 5 belongs to multiple groups");
}

abbrev pub comdat_1050 : Case
comdat_1050 = record {
  world = world_of mach_like undemangled (record {
    first = record {
      objects =
          file (codes "m0.o") false false false false 2 (
          entry (codes "foo") None true Global Protected Plain 0 (Section 1) ∷
          defines ((226 ∷ 130 ∷ 172 ∷ []) ++ codes "foo") 1 ∷
          defines (codes "__start_nosec") 1 ∷
          defines (codes "__start_nosec") 1 ∷
          entry (codes "foo") None true Unique Default Plain 0 (Section 0) ∷ []) [] ∷
          file (codes "b1.so") true false false true 6 (
          entry [] None true Weak Default Plain 0 (Section 0) ∷
          entry (codes "foo") None true Weak Hidden Plain 0 Absolute ∷
          entry (codes "f") None true Weak Hidden Plain 0 (Section 2) ∷ []) [] ∷ [];
      scripts = linker_script (codes "s0.ld") None None (redirect (codes "__start_nosec") Script [] false ∷ []) ∷ [];
      stubs = [];
    };
    later = [];
    options = default_options;
    texts = texts None None;
  });
  outcome = refusal (codes "Duplicate symbols detected: __start_nosec, defined in m0.o and m0.o");
}

abbrev pub comdat_1052 : Case
comdat_1052 = record {
  world = world_of mach_like undemangled (record {
    first = record {
      objects =
          file (codes "m0.o") false false false false 4 (
          entry (codes "foo") None true Global Default Plain 4 Common ∷
          entry (codes "__start_data") None true Global Protected Plain 0 (Section 3) ∷
          entry (codes "foo") None true Weak Default Plain 0 Undefined ∷ []) (
          group 2 0 true (3 ∷ 0 ∷ []) ∷
          group 1 0 false [] ∷ []) ∷
          file (codes "b1.o") false false false false 0 [] [] ∷
          file (codes "a2.o") false false false false 2 (
          entry (codes "foo") None true Global Hidden Plain 0 (Section 1) ∷ []) (
          group 0 0 false (1 ∷ []) ∷ []) ∷
          file (codes "a3.o") false false false false 8 (
          defines (codes "__start_data") 3 ∷
          entry (codes "foo") None true Global Protected Plain 0 (Section 2) ∷ []) [] ∷
          file (codes "b4.o") false false false false 6 (
          defines (codes "foo") 0 ∷
          refers (codes "__start_data") ∷
          entry (codes "__start_data") None true Weak Default Plain 0 (Section 3) ∷ []) (
          group 1 0 true (0 ∷ []) ∷
          group 2 2 true (3 ∷ 4 ∷ []) ∷
          group 5 1 true [] ∷ []) ∷
          file (codes "b5.o") false false false false 3 (
          entry (codes "foo") None true Weak Hidden Plain 8 Common ∷
          refers (codes "foo") ∷ []) [] ∷
          file (codes "a6.o") false false false false 3 [] [] ∷
          file (codes "m7.o") false false false false 4 (
          entry (codes "__start_data") None true Global Hidden Plain 0 (Section 0) ∷
          entry (codes "__start_data") None true Weak Default Plain 0 (Section 1) ∷ []) (
          group 2 0 true (1 ∷ 1 ∷ []) ∷ []) ∷ [];
      scripts = [];
      stubs = stub (codes "lib0.tbd") (codes "foo" ∷ codes "__start_data" ∷ []) [] ∷ [];
    };
    later = [];
    options = record default_options {
      linker_symbols = internal (codes "foo") (SectionEnd 0) false ∷ internal (codes "foo") (SectionGroupEnd 0) false ∷ [];
    };
    texts = texts None None;
  });
  outcome = refusal (codes "m7.o: section 1 belongs to multiple groups");
}

abbrev pub version_1002 : Case
version_1002 = record {
  world = world_of elf_like undemangled (record {
    first = record {
      objects =
          file (codes "b0.o") false false false false 2 (
          null_entry ∷
          entry (codes "__wrap_bar") (Some (codes "V1")) false Global Default Plain 0 Undefined ∷
          entry (codes "__wrap_bar") (Some (codes "V1")) true Global Default Plain 0 Undefined ∷
          entry (codes "main") (Some (codes "V1")) false Global Default Plain 0 Undefined ∷
          entry (codes "main") (Some (codes "V2")) false Global Default Plain 0 (Section 1) ∷
          defines (codes "main") 1 ∷ []) (group 1 3 false [] ∷ group 0 1 true [] ∷ []) ∷ [];
      scripts = linker_script (codes "s0.ld") (Some (codes "main")) None [] ∷ linker_script (codes "s1.ld") None None [] ∷ [];
      stubs = [];
    };
    later = [];
    options = record default_options {
      output = Partial;
      force_undefined = codes "main" ∷ [];
      linker_symbols = internal (codes "__wrap_bar") LoadBaseAddress false ∷ [];
    };
    texts = texts (Some (codes "{\r\nglobal: main;# c };\nbar; /* c; } */ baz; local: *; };# c };\n")) None;
  });
  outcome = report (
      codes "loaded 0 b0.o\n" ++
      codes "kept 0 1 __wrap_bar\n" ++
      codes "symbol 0 <unnamed> -> 0 [ABSOLUTE | GROUP_SIGNATURE]\n" ++
      codes "symbol 1 __wrap_bar -> 1 [NON_INTERPOSABLE]\n" ++
      codes "symbol 2 main -> 8 [ABSOLUTE]\n" ++
      codes "symbol 3 <unnamed> -> 0 [ABSOLUTE | NON_INTERPOSABLE]\n" ++
      codes "symbol 4 __wrap_bar -> 0 [ABSOLUTE]\n" ++
      codes "symbol 5 __wrap_bar -> 0 [ABSOLUTE]\n" ++
      codes "symbol 6 main -> 0 [ABSOLUTE]\n" ++
      codes "symbol 7 main -> 7 [NON_INTERPOSABLE | DOWNGRADE_TO_LOCAL]\n" ++
      codes "symbol 8 main -> 8 [NON_INTERPOSABLE | HAS_NON_IR_REF]\n" ++
      codes "undefined 5 __wrap_bar@V1\n" ++
      codes "undefined 6 main@V1\n");
}

abbrev pub version_1011 : Case
version_1011 = record {
  world = world_of elf_like undemangled (record {
    first = record {
      objects =
          file (codes "lib.so") false false false false 6 (
          null_entry ∷
          entry (codes "foo") (Some (codes "V1")) true Weak Default Plain 8 Common ∷
          entry (codes "foo") None true Weak Default Plain 0 Undefined ∷ []) [] ∷
          file (codes "b1.o") false false false false 6 (
          null_entry ∷
          entry (codes "_start") None true Local Default Plain 0 (Section 2) ∷
          entry (codes "_start") (Some (codes "V2")) true Weak Default Plain 0 (Section 2) ∷ []) [] ∷
          file (codes "a2.o") false false false false 2 (
          null_entry ∷
          entry (codes "_foo") None true Weak Default Plain 0 (Section 1) ∷ []) [] ∷
          file (codes "b3.o") false false false false 3 (null_entry ∷ []) [] ∷
          file (codes "b4.o") false false false false 6 (
          null_entry ∷
          entry (codes "_foo") (Some (codes "V1")) false Global Default Plain 0 (Section 0) ∷ []) [] ∷ [];
      scripts = [];
      stubs = [];
    };
    later = [];
    options = record default_options { allow_multiple = true; files_per_group = 1 };
    texts = texts (Some (
        codes "V2 { global: b*; f?o; }; V1 { global: }; V3 { global: ba[rz]; b*; local: b*; f\\oo; \"foo\"; };")) None;
  });
  outcome = report (
      codes "loaded 0 lib.so\n" ++
      codes "loaded 1 b1.o\n" ++
      codes "loaded 2 a2.o\n" ++
      codes "loaded 3 b3.o\n" ++
      codes "loaded 4 b4.o\n" ++
      codes "symbol 0 <unnamed> -> 0 [ABSOLUTE]\n" ++
      codes "symbol 1 <unnamed> -> 0 [ABSOLUTE | NON_INTERPOSABLE]\n" ++
      codes "symbol 2 foo -> 2 [NON_INTERPOSABLE | DOWNGRADE_TO_LOCAL | HAS_NON_IR_REF]\n" ++
      codes "symbol 3 foo -> 2 [ABSOLUTE]\n" ++
      codes "symbol 4 <unnamed> -> 0 [ABSOLUTE | NON_INTERPOSABLE]\n" ++
      codes "symbol 5 _start -> 5 [NON_INTERPOSABLE]\n" ++
      codes "symbol 6 _start -> 6 [NON_INTERPOSABLE]\n" ++
      codes "symbol 7 <unnamed> -> 0 [ABSOLUTE | NON_INTERPOSABLE]\n" ++
      codes "symbol 8 _foo -> 8 [NON_INTERPOSABLE]\n" ++
      codes "symbol 9 <unnamed> -> 0 [ABSOLUTE | NON_INTERPOSABLE]\n" ++
      codes "symbol 10 <unnamed> -> 0 [ABSOLUTE | NON_INTERPOSABLE]\n" ++
      codes "symbol 11 _foo -> 11 [NON_INTERPOSABLE]\n");
}

abbrev pub version_1014 : Case
version_1014 = record {
  world = world_of elf_like undemangled (record {
    first = record {
      objects =
          file (codes "b0.so") true false false true 1 (
          null_entry ∷
          entry (codes "baz") (Some (codes "V2")) false Global Protected Plain 0 (Section 0) ∷
          entry (codes "__start_d2") (Some (codes "V1")) true Global Default Plain 4 Undefined ∷
          entry (codes "foo") (Some (codes "V1")) false Global Default Plain 0 Undefined ∷
          entry (codes "__start_d2") (Some (codes "V1")) false Global Default Plain 0 (Section 0) ∷
          entry (codes "foo") None true Weak Default Plain 0 Undefined ∷ []) [] ∷ [];
      scripts = [];
      stubs = [];
    };
    later = [];
    options = record default_options { output = SharedObject; wrap = codes "__start_nosec" ∷ [] };
    texts = texts (Some (
        codes "V1 { global: extern \"C++\" { f*; }; ba[rz]; }; V2 { global: baz; *; *; local: *; foo; }V1; V3 { globa" ++
        codes "l: f*; local: main; \"foo\"; f\\oo; };")) (Some (codes "{ foo; b*; };"));
  });
  outcome = report (
      codes "symbol 0 <unnamed> -> 0 [ABSOLUTE]\n" ++
      codes "symbol 1 <unnamed> -> 0 [ABSOLUTE | DYNAMIC]\n" ++
      codes "symbol 2 baz -> 2 [DYNAMIC]\n" ++
      codes "symbol 3 __start_d2 -> 0 [ABSOLUTE | DYNAMIC]\n" ++
      codes "symbol 4 foo -> 0 [ABSOLUTE | DYNAMIC]\n" ++
      codes "symbol 5 __start_d2 -> 5 [DYNAMIC]\n" ++
      codes "symbol 6 foo -> 0 [ABSOLUTE | DYNAMIC]\n");
}

abbrev pub version_1026 : Case
version_1026 = record {
  world = world_of mach_like undemangled (record {
    first = record {
      objects =
          file (codes "a0.o") false false false false 1 (
          entry (codes "_bar") (Some (codes "V1")) true Global Default Plain 0 (Section 0) ∷ []) [] ∷
          file (codes "a1.o") false true true false 0 (
          refers (codes "_bar") ∷
          entry (codes "__real_foo") (Some (codes "V2")) false Global Default Plain 0 Undefined ∷
          refers (codes "__real_foo") ∷
          entry (codes "foo") (Some (codes "V1")) false Global Default Plain 0 Undefined ∷
          entry (codes "__wrap_bar") (Some (codes "V2")) false Global Default Plain 0 Absolute ∷ []) [] ∷
          file (codes "m2.o") false true false false 2 [] [] ∷
          file (codes "b3.so") true true false false 0 (refers (codes "foo") ∷ []) [] ∷
          file (codes "b4.o") false true false false 3 (
          entry (codes "_foo") (Some (codes "V2")) true Global Default Plain 18446744073709551615 Common ∷ []) [] ∷
          file (codes "m5.o") false true false false 2 (refers (codes "foo") ∷ []) [] ∷ [];
      scripts =
          linker_script (codes "s0.ld") None None [] ∷
          linker_script (codes "s1.ld") (Some (codes "foo")) (Some (codes "V1 { }; V3 { }V1; V2 { global: local: f?o; bar; ba[rz]; };")) [] ∷ [];
      stubs = [];
    };
    later = [];
    options = record default_options {
      output = SharedObject;
      entry = Some (codes "__wrap_bar");
      allow_multiple = true;
      wrap = codes "foo" ∷ codes "_bar" ∷ [];
    };
    texts = texts None None;
  });
  outcome = report (
      codes "loaded 0 a0.o\n" ++
      codes "loaded 1 a1.o\n" ++
      codes "symbol 0 <unnamed> -> 0 [ABSOLUTE]\n" ++
      codes "symbol 1 _bar -> 1 [HAS_NON_IR_REF]\n" ++
      codes "symbol 2 _bar -> 1 [ABSOLUTE]\n" ++
      codes "symbol 3 __real_foo -> 0 [ABSOLUTE]\n" ++
      codes "symbol 4 __real_foo -> 4 [ABSOLUTE | DYNAMIC]\n" ++
      codes "symbol 5 foo -> 0 [ABSOLUTE]\n" ++
      codes "symbol 6 __wrap_bar -> 6 [ABSOLUTE]\n" ++
      codes "symbol 7 foo -> 0 [ABSOLUTE | DYNAMIC]\n" ++
      codes "symbol 8 _foo -> 8 []\n" ++
      codes "symbol 9 foo -> 0 [ABSOLUTE]\n" ++
      codes "version 1 2\n" ++
      codes "version 6 4\n" ++
      codes "undefined 3 __real_foo@V2\n" ++
      codes "undefined 4 __real_foo\n" ++
      codes "undefined 5 foo@V1\n");
}

abbrev pub version_1027 : Case
version_1027 = record {
  world = world_of mach_like undemangled (record {
    first = record {
      objects =
          file (codes "m0.o") false true false false 3 (defines (codes "foo") 1 ∷ []) [] ∷
          file (codes "b1.o") false true false false 3 [] [] ∷
          file (codes "a2.o") false true false false 4 (
          entry (codes "foo") (Some (codes "V1")) true Global Default Plain 0 Absolute ∷
          entry (codes "foo") (Some (codes "V1")) true Global Default Plain 0 Undefined ∷
          entry (codes "foo") (Some (codes "V1")) true Global Default Plain 0 Undefined ∷
          entry (codes "__stop_data") (Some (codes "V1")) true Unique Default Plain 0 (Section 1) ∷
          entry (codes "_bar") (Some (codes "V1")) true Global Default Plain 0 (Section 3) ∷ []) [] ∷
          file (codes "m3.o") false true false false 1 (refers (codes "foo") ∷ []) [] ∷
          file (codes "m" ++ (195 ∷ 169 ∷ []) ++ codes ".o") false false false false 3 [] [] ∷ [];
      scripts =
          linker_script (codes "s0.ld") None None (redirect (codes "__stop_data") Provide [] true ∷ []) ∷
          linker_script (codes "s1.ld") None None [] ∷ [];
      stubs = [];
    };
    later = [];
    options = record default_options { output = SharedObject; allow_multiple = true; files_per_group = 2 };
    texts = texts (Some (
        codes "V2 { }; V3 { global: \"foo\"; f*; local: b*; extern \"C++\" { main; }; bar; }; V1 { global: extern \"C++\"" ++
        codes " { f?o; }; bar; local: foo; }V3;")) None;
  });
  outcome = report (
      codes "loaded 4 m" ++ (195 ∷ 169 ∷ []) ++ codes ".o\n" ++
      codes "symbol 0 <unnamed> -> 0 [ABSOLUTE]\n" ++
      codes "symbol 1 foo -> 1 []\n" ++
      codes "symbol 2 foo -> 1 [ABSOLUTE]\n" ++
      codes "symbol 3 foo -> 0 [ABSOLUTE]\n" ++
      codes "symbol 4 foo -> 0 [ABSOLUTE]\n" ++
      codes "symbol 5 __stop_data -> 5 []\n" ++
      codes "symbol 6 _bar -> 6 []\n" ++
      codes "symbol 7 foo -> 0 [ABSOLUTE]\n" ++
      codes "symbol 8 __stop_data -> 5 [NON_INTERPOSABLE | DOWNGRADE_TO_LOCAL]\n");
}

abbrev pub version_1030 : Case
version_1030 = record {
  world = world_of elf_like undemangled (record {
    first = record {
      objects =
          file (codes "a0.so") true true false true 0 (null_entry ∷ refers (codes "a\nb") ∷ []) [] ∷
          file (codes "m1.o") false true false false 1 (
          null_entry ∷
          entry (codes "foo") (Some (codes "V2")) true Weak Default Plain 0 Undefined ∷
          defines (codes "fzo") 0 ∷
          refers (codes "fzo") ∷ []) [] ∷
          object (codes "m2.o") (
          defines (codes "a\nb") 2 ∷
          entry (codes "foo") None true Weak Default Plain 0 Undefined ∷
          entry (codes "bar") (Some (codes "V3")) true Global Default Plain 0 (Section 2) ∷
          entry (codes "foo") (Some (codes "V1")) true Global Default Plain 0 Undefined ∷
          refers (codes "foo") ∷ []) ∷ [];
      scripts = [];
      stubs = [];
    };
    later = [];
    options = record default_options { output = SharedObject };
    texts = texts (Some (
        codes "V2 { global: ba[rz]; local: *; f*; f\\oo; }; V1 { local: f\\oo; _foo; }; V3 { global: foo; \"foo\"; loca" ++
        codes "l: f*; f*; }V1;")) (Some (codes "{ foo; b*; };"));
  });
  outcome = report (
      codes "loaded 2 m2.o\n" ++
      codes "symbol 0 <unnamed> -> 0 [ABSOLUTE]\n" ++
      codes "symbol 1 <unnamed> -> 0 [ABSOLUTE | DYNAMIC]\n" ++
      codes "symbol 2 a\n" ++
      codes "b -> 0 [ABSOLUTE | DYNAMIC]\n" ++
      codes "symbol 3 <unnamed> -> 0 [ABSOLUTE | NON_INTERPOSABLE]\n" ++
      codes "symbol 4 foo -> 0 [ABSOLUTE]\n" ++
      codes "symbol 5 fzo -> 5 [NON_INTERPOSABLE | DOWNGRADE_TO_LOCAL]\n" ++
      codes "symbol 6 fzo -> 0 [ABSOLUTE]\n" ++
      codes "symbol 7 <unnamed> -> 0 [ABSOLUTE | NON_INTERPOSABLE]\n" ++
      codes "symbol 8 a\n" ++
      codes "b -> 8 [NON_INTERPOSABLE | DOWNGRADE_TO_LOCAL]\n" ++
      codes "symbol 9 foo -> 12 [ABSOLUTE | UNDEFINED_WEAK]\n" ++
      codes "symbol 10 bar -> 10 []\n" ++
      codes "symbol 11 foo -> 0 [ABSOLUTE]\n" ++
      codes "symbol 12 foo -> 12 [ABSOLUTE | DYNAMIC]\n" ++
      codes "version 8 2\n" ++
      codes "version 10 4\n" ++
      codes "undefined 11 foo@V1\n" ++
      codes "undefined 12 foo\n");
}

abbrev pub version_1033 : Case
version_1033 = record {
  world = world_of elf_like undemangled (record {
    first = record {
      objects =
          file (codes "m0.o") false false false false 3 (
          null_entry ∷
          entry (codes "bar") (Some (codes "V1")) true Global Hidden Plain 1 Common ∷ []) [] ∷
          file (codes "b1.o") false false false false 4 (
          null_entry ∷
          entry (codes "bar") None true Local Protected Plain 0 (Section 2) ∷
          defines (codes "__start_data") 2 ∷
          entry (codes "bar") (Some (codes "V1")) true Global Default Plain 0 Absolute ∷
          entry (codes "__start_data") (Some (codes "V1")) false Global Protected Plain 0 Undefined ∷
          refers (codes "fzo") ∷ []) (group 0 3 true [] ∷ group 1 0 true (3 ∷ []) ∷ group 2 0 true [] ∷ []) ∷
          object (codes "b2.o") (
          defines (codes "__start_data") 3 ∷
          entry (codes "__start_data") (Some (codes "V1")) true Global Protected Plain 0 Undefined ∷
          entry (codes "bar") (Some (codes "V2")) true Global Default Plain 0 Undefined ∷ []) ∷
          file (codes "m3.o") false false false false 0 (
          null_entry ∷
          entry (codes "__start_data") None true Local Default Plain 0 Absolute ∷
          refers (codes "bar") ∷
          entry (codes "__start_data") None true Global Protected Plain 0 Undefined ∷
          entry (codes "__start_data") (Some (codes "V2")) false Global Default Plain 0 Undefined ∷
          entry (codes "__start_data") (Some (codes "V1")) false Global Protected Plain 1 Common ∷ []) [] ∷
          file (codes "b4.o") false false false false 1 (
          null_entry ∷
          entry (codes "fzo") None true Global Protected Plain 0 (Section 0) ∷
          entry (codes "__start_data") None true Global Protected Plain 0 Undefined ∷
          entry (codes "__start_data") (Some (codes "X")) false Local Hidden Plain 0 (Section 0) ∷
          entry (codes "bar") (Some (codes "V1")) true Global Default Plain 0 Absolute ∷
          entry (codes "bar") (Some (codes "V1")) true Global Hidden Plain 0 Undefined ∷ []) [] ∷
          file (codes "a5.o") false false false false 2 (
          null_entry ∷
          refers (codes "bar") ∷
          defines (codes "fzo") 0 ∷ []) (group 0 1 true (1 ∷ []) ∷ []) ∷ [];
      scripts = [];
      stubs = [];
    };
    later = [];
    options = record default_options { allow_multiple = true };
    texts = texts (Some (codes "V1 { global: bar; ba[rz]; };")) None;
  });
  outcome = report (
      codes "loaded 0 m0.o\n" ++
      codes "loaded 1 b1.o\n" ++
      codes "loaded 2 b2.o\n" ++
      codes "loaded 3 m3.o\n" ++
      codes "loaded 4 b4.o\n" ++
      codes "loaded 5 a5.o\n" ++
      codes "kept 1 0 bar\n" ++
      codes "kept 1 1 \n" ++
      codes "symbol 0 <unnamed> -> 0 [ABSOLUTE]\n" ++
      codes "symbol 1 <unnamed> -> 0 [ABSOLUTE | NON_INTERPOSABLE]\n" ++
      codes "symbol 2 bar -> 6 [NON_INTERPOSABLE | DOWNGRADE_TO_LOCAL | HAS_NON_IR_REF]\n" ++
      codes "symbol 3 <unnamed> -> 0 [ABSOLUTE | NON_INTERPOSABLE]\n" ++
      codes "symbol 4 bar -> 4 [NON_INTERPOSABLE]\n" ++
      codes "symbol 5 __start_data -> 10 [NON_INTERPOSABLE | HAS_NON_IR_REF]\n" ++
      codes "symbol 6 bar -> 6 [ABSOLUTE | NON_INTERPOSABLE | DOWNGRADE_TO_LOCAL]\n" ++
      codes "symbol 7 __start_data -> 18 [ABSOLUTE | NON_INTERPOSABLE]\n" ++
      codes "symbol 8 fzo -> 20 [ABSOLUTE]\n" ++
      codes "symbol 9 <unnamed> -> 0 [ABSOLUTE | NON_INTERPOSABLE]\n" ++
      codes "symbol 10 __start_data -> 10 [NON_INTERPOSABLE]\n" ++
      codes "symbol 11 __start_data -> 18 [ABSOLUTE | NON_INTERPOSABLE]\n" ++
      codes "symbol 12 bar -> 0 [ABSOLUTE]\n" ++
      codes "symbol 13 <unnamed> -> 0 [ABSOLUTE | NON_INTERPOSABLE]\n" ++
      codes "symbol 14 __start_data -> 14 [ABSOLUTE | NON_INTERPOSABLE]\n" ++
      codes "symbol 15 bar -> 6 [ABSOLUTE]\n" ++
      codes "symbol 16 __start_data -> 10 [ABSOLUTE | NON_INTERPOSABLE]\n" ++
      codes "symbol 17 __start_data -> 0 [ABSOLUTE]\n" ++
      codes "symbol 18 __start_data -> 18 [NON_INTERPOSABLE | HAS_NON_IR_REF]\n" ++
      codes "symbol 19 <unnamed> -> 0 [ABSOLUTE | NON_INTERPOSABLE]\n" ++
      codes "symbol 20 fzo -> 20 [NON_INTERPOSABLE | HAS_NON_IR_REF]\n" ++
      codes "symbol 21 __start_data -> 10 [ABSOLUTE | NON_INTERPOSABLE]\n" ++
      codes "symbol 22 __start_data -> 22 [NON_INTERPOSABLE]\n" ++
      codes "symbol 23 bar -> 6 [ABSOLUTE | NON_INTERPOSABLE | DOWNGRADE_TO_LOCAL]\n" ++
      codes "symbol 24 bar -> 6 [ABSOLUTE | NON_INTERPOSABLE]\n" ++
      codes "symbol 25 <unnamed> -> 0 [ABSOLUTE | NON_INTERPOSABLE]\n" ++
      codes "symbol 26 bar -> 6 [ABSOLUTE]\n" ++
      codes "symbol 27 fzo -> 20 [NON_INTERPOSABLE]\n" ++
      codes "undefined 12 bar@V2\n" ++
      codes "undefined 17 __start_data@V2\n");
}

abbrev pub version_1037 : Case
version_1037 = record {
  world = world_of mach_like undemangled (record {
    first = record {
      objects =
          file (codes "a0.o") false false false false 6 (
          entry (codes "foo") None true Weak Default Plain 0 Undefined ∷
          defines (codes "foo") 4 ∷
          entry (codes "fzo") (Some (codes "V1")) true Unique Default Plain 0 (Section 3) ∷
          entry ((226 ∷ 130 ∷ 172 ∷ []) ++ codes "foo") (Some (codes "V1")) true Global Default Plain 0 Undefined ∷
          refers (codes "fzo") ∷ []) [] ∷
          file (codes "a1.so") true false false true 4 (refers ((226 ∷ 130 ∷ 172 ∷ []) ++ codes "foo") ∷ []) [] ∷
          file (codes "b2.o") false false false false 4 (
          entry (codes "foo") (Some (codes "V1")) true Weak Default Plain 0 Undefined ∷
          entry (codes "_foo") (Some (codes "V1")) true Global Default Plain 4 Common ∷ []) [] ∷
          file (codes "b3.o") false false false false 0 (refers ((226 ∷ 130 ∷ 172 ∷ []) ++ codes "foo") ∷ []) [] ∷ [];
      scripts = [];
      stubs = [];
    };
    later = [];
    options = record default_options { output = Partial; allow_multiple = true; wrap = codes "_foo" ∷ [] };
    texts = texts (Some (
        codes "V1 { global: extern \"C++\" { f?o; }; extern \"C++\" { b*; }; bar; }; V3 { global: *; *; local: _foo; };" ++
        codes " V2 { global: _foo; extern \"C++\" { _foo; }; \"foo\"; local: f*; *; *; };")) None;
  });
  outcome = report (
      codes "loaded 0 a0.o\n" ++
      codes "loaded 2 b2.o\n" ++
      codes "loaded 3 b3.o\n" ++
      codes "symbol 0 <unnamed> -> 0 [ABSOLUTE]\n" ++
      codes "symbol 1 foo -> 2 [ABSOLUTE]\n" ++
      codes "symbol 2 foo -> 2 [NON_INTERPOSABLE | HAS_NON_IR_REF]\n" ++
      codes "symbol 3 fzo -> 3 [NON_INTERPOSABLE | HAS_NON_IR_REF]\n" ++
      codes "symbol 4 " ++ (226 ∷ 130 ∷ 172 ∷ []) ++ codes "foo -> 0 [ABSOLUTE]\n" ++
      codes "symbol 5 fzo -> 3 [ABSOLUTE]\n" ++
      codes "symbol 6 " ++ (226 ∷ 130 ∷ 172 ∷ []) ++ codes "foo -> 0 [ABSOLUTE | DYNAMIC]\n" ++
      codes "symbol 7 foo -> 0 [ABSOLUTE | UNDEFINED_WEAK]\n" ++
      codes "symbol 8 _foo -> 8 [NON_INTERPOSABLE | DOWNGRADE_TO_LOCAL]\n" ++
      codes "symbol 9 " ++ (226 ∷ 130 ∷ 172 ∷ []) ++ codes "foo -> 9 [ABSOLUTE | NON_INTERPOSABLE]\n" ++
      codes "undefined 4 " ++ (226 ∷ 130 ∷ 172 ∷ []) ++ codes "foo@V1\n" ++
      codes "undefined 7 foo@V1\n" ++
      codes "undefined 9 " ++ (226 ∷ 130 ∷ 172 ∷ []) ++ codes "foo\n");
}
