-- Generated worlds, and what an independent program answers to each.
-- Written by `tools/worlds.py` from `tools/worlds.jsonl`.
use Rattle.std.specs.Prelude.{[], ◌∷◌, true, false, Some, None, codes, ◌++◌}
use Rattle.link_flags.specs.declared.visibility.Visibility.TheVariants.{Default, Protected, Hidden}
use Rattle.link_input.specs.declared.symbol_entry.Place.TheVariants.{Undefined, Absolute, Common, Section}
use Rattle.link_input.specs.declared.symbol_entry.SymbolBinding.TheVariants.{Local, Global, Weak, Unique}
use Rattle.link_input.specs.declared.symbol_entry.SymbolKind.TheVariants.{Plain, Func, Ifunc, Tls}
use Rattle.link_input.specs.declared.options.OutputKind.TheVariants.{DynamicExecutable, SharedObject, Partial}
use Rattle.link_input.specs.declared.internal_symbols.RedirectKind.TheVariants.{DefSym, Script, Provide}
use Rattle.link_input.specs.declared.internal_symbols.SymbolPlacement.TheVariants.{SectionStart, SectionEnd, TlsEnd, PlatformSpecific}
use Rattle.link_input.specs.Defaults.{default_options}
use Rattle.link_rules.specs.Rules.{elf_like, mach_like}
use Rattle.link_rules.specs.World.{world_of}
use Rattle.link_rules.specs.Building.{undemangled, entry, null_entry, refers, defines, group, file, object, internal, redirect, linker_script, stub, texts, of_objects}
use Rattle.link_rules_worlds.specs.Computing.{Case, report, refusal}

abbrev pub globs_1021 : Case
globs_1021 = record {
  world = world_of mach_like undemangled (record {
    first = record {
      objects =
          file (codes "a0.o") false false false false 3 (
          refers (codes "__start_data") ∷
          entry (codes "foo") None true Global Default Plain 1 Common ∷
          defines (codes "foo") 1 ∷
          refers (codes "foo") ∷
          entry (codes "__start_data") None true Weak Default Plain 0 Undefined ∷ []) [] ∷
          file (codes "b1.o") false false false false 0 [] [] ∷
          file (codes "m2.so") true false false true 4 (
          refers (codes "foo") ∷
          defines (codes "foo") 0 ∷ []) (
          group 3 1 true (0 ∷ 1 ∷ 0 ∷ []) ∷
          group 2 0 true [] ∷ []) ∷ [];
      scripts = [];
      stubs = [];
    };
    later = [];
    options = record default_options { custom_sections = codes "d2" ∷ (255 ∷ []) ∷ [] };
    texts = texts (Some (codes "{ global: bar;\tbar; \"foo\"; /* c; } */ local: /**/*;\n}; /* c; } */ ")) None;
  });
  outcome = report (
      codes "loaded 0 a0.o\n" ++
      codes "loaded 1 b1.o\n" ++
      codes "symbol 0 <unnamed> -> 0 [ABSOLUTE]\n" ++
      codes "symbol 1 __start_data -> 5 [ABSOLUTE]\n" ++
      codes "symbol 2 foo -> 3 [NON_INTERPOSABLE | DOWNGRADE_TO_LOCAL | HAS_NON_IR_REF]\n" ++
      codes "symbol 3 foo -> 3 [NON_INTERPOSABLE]\n" ++
      codes "symbol 4 foo -> 3 [ABSOLUTE]\n" ++
      codes "symbol 5 __start_data -> 5 [ABSOLUTE | NON_INTERPOSABLE | UNDEFINED_WEAK]\n" ++
      codes "symbol 6 foo -> 0 [ABSOLUTE | DYNAMIC]\n" ++
      codes "symbol 7 foo -> 3 [DYNAMIC]\n" ++
      codes "undefined 5 __start_data\n");
}

abbrev pub globs_1027 : Case
globs_1027 = record {
  world = world_of elf_like undemangled (record {
    first = record {
      objects =
          file (codes "b0.o") false true false false 8 (
          null_entry ∷
          entry (codes "foo") None true Global Default Plain 18446744073709551615 Undefined ∷
          refers (codes "_foo") ∷ []) (
          group 0 1 true (6 ∷ []) ∷
          group 2 0 true [] ∷
          group 1 0 true (5 ∷ []) ∷ []) ∷
          file (codes "a1.o") false true false false 6 (null_entry ∷ refers (codes "_foo") ∷ []) [] ∷
          file (codes "x\ny") false true false false 4 (
          null_entry ∷
          refers (codes "__stop_data") ∷
          refers (codes "_foo") ∷
          refers (codes "__stop_data") ∷ []) (
          group 3 3 true [] ∷
          group 0 1 true (1 ∷ []) ∷
          group 2 3 true [] ∷ []) ∷ [];
      scripts = [];
      stubs = [];
    };
    later = [];
    options = record default_options { files_per_group = 1; wrap = codes "foo" ∷ [] };
    texts = texts (Some (codes "\r\n")) None;
  });
  outcome = report (
      codes "symbol 0 <unnamed> -> 0 [ABSOLUTE]\n" ++
      codes "symbol 1 <unnamed> -> 0 [ABSOLUTE | NON_INTERPOSABLE]\n" ++
      codes "symbol 2 foo -> 0 [ABSOLUTE]\n" ++
      codes "symbol 3 _foo -> 0 [ABSOLUTE]\n" ++
      codes "symbol 4 <unnamed> -> 0 [ABSOLUTE | NON_INTERPOSABLE]\n" ++
      codes "symbol 5 _foo -> 0 [ABSOLUTE]\n" ++
      codes "symbol 6 <unnamed> -> 0 [ABSOLUTE | NON_INTERPOSABLE]\n" ++
      codes "symbol 7 __stop_data -> 0 [ABSOLUTE]\n" ++
      codes "symbol 8 _foo -> 0 [ABSOLUTE]\n" ++
      codes "symbol 9 __stop_data -> 0 [ABSOLUTE]\n");
}

abbrev pub globs_1039 : Case
globs_1039 = record {
  world = world_of mach_like undemangled (record {
    first = record {
      objects =
          file (codes "a0.o") false false false false 6 (
          entry (codes "foo") None true Weak Protected Plain 0 Undefined ∷ []) [] ∷
          file (codes "m1.o") false true false false 2 (
          entry (codes "bar") None true Global Protected Plain 0 (Section 0) ∷
          entry (codes "foo") None true Global Default Plain 4 Common ∷ []) [] ∷
          file (codes "a2.o") false true false false 3 (
          entry (codes "foo") None true Global Protected Plain 0 (Section 0) ∷
          refers (codes "bar") ∷ []) (group 0 1 true [] ∷ group 1 0 true [] ∷ group 2 1 true [] ∷ []) ∷ [];
      scripts = [];
      stubs = [];
    };
    later = [];
    options = record default_options { output = DynamicExecutable; files_per_group = 2 };
    texts = texts (Some (codes "{ global: f;f;\nbaz; local:\n*; };\t")) None;
  });
  outcome = report (
      codes "loaded 0 a0.o\n" ++
      codes "symbol 0 <unnamed> -> 0 [ABSOLUTE]\n" ++
      codes "symbol 1 foo -> 1 [ABSOLUTE | NON_INTERPOSABLE | UNDEFINED_WEAK]\n" ++
      codes "symbol 2 bar -> 2 [NON_INTERPOSABLE | DOWNGRADE_TO_LOCAL]\n" ++
      codes "symbol 3 foo -> 3 [NON_INTERPOSABLE | DOWNGRADE_TO_LOCAL | HAS_NON_IR_REF]\n" ++
      codes "symbol 4 foo -> 3 [NON_INTERPOSABLE | DOWNGRADE_TO_LOCAL]\n" ++
      codes "symbol 5 bar -> 0 [ABSOLUTE]\n" ++
      codes "undefined 1 foo\n");
}

abbrev pub globs_1040 : Case
globs_1040 = record {
  world = world_of elf_like undemangled (record {
    first = record {
      objects =
          file (codes "m0.o") false true true false 4 (
          null_entry ∷
          defines (codes "__real_bar") 0 ∷
          refers (codes "_start") ∷
          refers (codes "__real_bar") ∷
          refers (codes "__start_data") ∷
          refers (codes "_start") ∷ []) (
          group 3 4 false [] ∷
          group 0 1 true (2 ∷ []) ∷
          group 1 2 true [] ∷ []) ∷
          file (codes "b1.o") false false false false 2 (null_entry ∷ []) (group 0 0 true (1 ∷ []) ∷ []) ∷
          file (codes "m2.o") false true false false 2 (
          null_entry ∷
          refers (codes "__start_data") ∷
          defines (codes "fzo") 0 ∷
          defines (codes "a\nb") 0 ∷ []) [] ∷ [];
      scripts = [];
      stubs = [];
    };
    later = [];
    options = record default_options {
      force_undefined = codes "__start_data" ∷ codes "fzo" ∷ [];
      force_export = codes "a\nb" ∷ codes "a\nb" ∷ [];
    };
    texts = texts (Some (codes "# c };\nV1 { /**/b*r;_foo; /**/global: /* c; } */ }\n; ")) None;
  });
  outcome = report (
      codes "loaded 0 m0.o\n" ++
      codes "loaded 1 b1.o\n" ++
      codes "loaded 2 m2.o\n" ++
      codes "kept 0 1 __real_bar\n" ++
      codes "kept 0 2 _start\n" ++
      codes "kept 1 0 \n" ++
      codes "symbol 0 <unnamed> -> 0 [ABSOLUTE]\n" ++
      codes "symbol 1 __start_data -> 1 [ABSOLUTE]\n" ++
      codes "symbol 2 fzo -> 12 [ABSOLUTE]\n" ++
      codes "symbol 3 <unnamed> -> 0 [ABSOLUTE | NON_INTERPOSABLE]\n" ++
      codes "symbol 4 __real_bar -> 4 [NON_INTERPOSABLE | HAS_NON_IR_REF]\n" ++
      codes "symbol 5 _start -> 8 [ABSOLUTE]\n" ++
      codes "symbol 6 __real_bar -> 4 [ABSOLUTE]\n" ++
      codes "symbol 7 __start_data -> 11 [ABSOLUTE]\n" ++
      codes "symbol 8 _start -> 8 [ABSOLUTE | NON_INTERPOSABLE]\n" ++
      codes "symbol 9 <unnamed> -> 0 [ABSOLUTE | NON_INTERPOSABLE]\n" ++
      codes "symbol 10 <unnamed> -> 0 [ABSOLUTE | NON_INTERPOSABLE]\n" ++
      codes "symbol 11 __start_data -> 11 [ABSOLUTE | NON_INTERPOSABLE]\n" ++
      codes "symbol 12 fzo -> 12 [NON_INTERPOSABLE]\n" ++
      codes "symbol 13 a\n" ++
      codes "b -> 13 [NON_INTERPOSABLE]\n" ++
      codes "undefined 8 _start\n" ++
      codes "undefined 11 __start_data\n");
}

abbrev pub globs_1052 : Case
globs_1052 = record {
  world = world_of mach_like undemangled (record {
    first = record {
      objects =
          file (codes "b0.o") false true false false 0 (
          entry (codes "foo") (Some (codes "V2")) true Global Default Plain 0 Undefined ∷ []) [] ∷
          file (codes "b1.o") false true false false 0 [] [] ∷
          file (codes "a.o") true true false true 1 (
          entry (codes "main") None true Global Default Plain 4 Common ∷
          entry (255 ∷ []) (Some (codes "V1")) true Weak Default Plain 0 (Section 0) ∷
          entry (codes "a\nb") None true Weak Default Plain 0 Undefined ∷
          entry (255 ∷ []) (Some (codes "V2")) true Global Default Tls 0 Undefined ∷
          entry (codes "__stop_data") (Some (codes "V1")) true Global Default Plain 0 (Section 0) ∷ []) [] ∷ [];
      scripts = [];
      stubs = [];
    };
    later = [];
    options = record default_options { output = Partial; custom_sections = (255 ∷ []) ∷ [] };
    texts = texts (Some (codes "{\nglobal: /**/baz; /**/baz;\tbaz;local:# c };\n*; }; /**/")) None;
  });
  outcome = report (
      codes "symbol 0 <unnamed> -> 0 [ABSOLUTE]\n" ++
      codes "symbol 1 foo -> 0 [ABSOLUTE]\n" ++
      codes "symbol 2 main -> 2 [DYNAMIC]\n" ++
      codes "symbol 3 INVALID UTF-8([255]) -> 3 [DYNAMIC]\n" ++
      codes "symbol 4 a\n" ++
      codes "b -> 0 [ABSOLUTE | DYNAMIC]\n" ++
      codes "symbol 5 INVALID UTF-8([255]) -> 0 [ABSOLUTE | DYNAMIC]\n" ++
      codes "symbol 6 __stop_data -> 6 [DYNAMIC]\n");
}

abbrev pub globs_1004 : Case
globs_1004 = record {
  world = world_of mach_like undemangled (record {
    first = record {
      objects =
          file (codes "b0.o") false false false false 8 (
          entry (codes "foo") None true Weak Default Plain 0 (Section 4) ∷
          refers (codes "__start_d2") ∷
          entry (codes "foo") None true Weak Default Plain 0 (Section 4) ∷
          entry (codes "baz") None true Unique Default Plain 0 (Section 1) ∷
          refers (codes "_start") ∷ []) [] ∷
          file (codes "x\ny") false false false false 3 (
          entry (codes "__start_nosec") None true Weak Default Plain 0 (Section 2) ∷
          defines (codes "foo") 0 ∷ []) [] ∷
          file (codes "lib.so") false false false false 4 [] [] ∷ [];
      scripts = linker_script (codes "s0.ld") None None [] ∷ [];
      stubs = stub (codes "lib0.tbd") [] [] ∷ [];
    };
    later = [];
    options = record default_options {
      output = SharedObject;
      default_entry = Some (codes "foo");
      files_per_group = 1;
      linker_symbols = internal (codes "foo") PlatformSpecific false ∷ internal (codes "foo") (SectionEnd 0) false ∷ [];
    };
    texts = texts (Some (codes "\n{[;\tlocal:# c };\n{x; extern \"C\"# c };\n{\na b\t};\tx[]; }\t; ")) None;
  });
  outcome = refusal (codes "Failed to parse version script: Invalid glob pattern at 2");
}

abbrev pub globs_1007 : Case
globs_1007 = record {
  world = world_of elf_like undemangled (record {
    first = record {
      objects =
          object (codes "a0.o") [] ∷
          file (codes "a1.o") false false false false 8 (
          null_entry ∷
          entry (codes "__wrap_foo") None true Global Default Tls 0 Undefined ∷
          entry (codes "__stop_data") None true Global Default Func 0 Undefined ∷ []) [] ∷
          file (codes "m2.o") false false false false 3 (
          null_entry ∷
          entry (codes "main") None true Global Default Ifunc 8 Common ∷
          entry (codes "f") None true Global Default Plain 0 Absolute ∷
          entry (195 ∷ 169 ∷ []) None true Local Hidden Plain 0 Absolute ∷ []) [] ∷ [];
      scripts = [];
      stubs = [];
    };
    later = [];
    options = record default_options { output = SharedObject; allow_multiple = true };
    texts = texts (Some (
        codes " V;\n{ /**/__wrap_foo;\nextern \"C\"{\nmain;\nf\r\n};# c };\nextern \"C++\" { f\t};\0; \u{c}foo;# c };\n*a*; /* c; } *" ++
        codes "/ extern; /**/extern \"C++\" { *o; }; /**/foo# c };\nlocal: *;}# c };\n;\n\r\n{ /* c; } */ local: /**/f\\?o;" ++
        codes " local:*;}\r\n; V;{ /* c; } */ __wrap_foo\r\nfoo\\; /**/[[^]x /* c; } */ local: * } ;# c };\nV2\n{\t} /* c; " ++
        codes "} */ ; ")) (Some (codes "{ foo; b*; };"));
  });
  outcome = refusal (codes "Failed to parse version script: Syntax error at 171");
}

abbrev pub globs_1012 : Case
globs_1012 = record {
  world = world_of elf_like undemangled (record {
    first = record {
      objects =
          file (codes "b0.o") false false false false 6 (
          null_entry ∷
          entry [] None true Weak Default Plain 0 (Section 1) ∷
          entry (codes "bar") None true Weak Default Plain 0 Undefined ∷ []) [] ∷
          file (codes "b1.o") false false false false 2 (
          null_entry ∷
          defines (codes "__real_foo") 1 ∷
          entry (codes "fzo") None true Global Default Tls 0 Undefined ∷
          entry [] None true Global Default Plain 0 Absolute ∷
          entry (codes "__real_foo") None true Unique Default Plain 0 Undefined ∷
          entry (codes "fzo") None true Global Default Ifunc 0 (Section 0) ∷ []) [] ∷
          file (codes "b2.o") false false false false 0 (
          null_entry ∷
          entry (codes "__start_data") None true Weak Default Plain 0 Undefined ∷
          refers (codes "fzo") ∷
          refers [] ∷ []) [] ∷ [];
      scripts = [];
      stubs = [];
    };
    later = [];
    options = record default_options { output = DynamicExecutable };
    texts = texts (Some (
        codes "\nV1{ /* c; } */ local:\r\nglobal:\t_foo;\t_foo; } ;\tV; {global : __*;;\r\nlocal: a[;\r\n}# c };\nV1; V2\n{ loc" ++
        codes "al:\nlocal:\nf;local:# c };\nba\\r; foo;\r\nextern \"C++\" { [[^]x; /**/fzo\n}; } V;; /**/")) (Some (codes "{ foo; b*; };"));
  });
  outcome = refusal (codes "Failed to parse version script: Syntax error at 65");
}

abbrev pub globs_1020 : Case
globs_1020 = record {
  world = world_of mach_like undemangled (record {
    first = record {
      objects =
          file (codes "b0.so") true false false true 4 (
          defines (codes "foo") 2 ∷
          refers [] ∷ []) (
          group 2 1 true [] ∷
          group 1 1 true [] ∷
          group 0 1 true (3 ∷ []) ∷ []) ∷
          file (codes "m1.o") false false false false 8 (defines [] 2 ∷ []) (
          group 1 0 true (4 ∷ []) ∷
          group 5 0 true (2 ∷ []) ∷
          group 3 0 true [] ∷ []) ∷
          file [] false false false false 2 (
          entry (codes "foo") None true Global Default Tls 0 Undefined ∷
          entry [] None true Global Default Tls 18446744073709551615 Common ∷
          defines [] 0 ∷
          refers [] ∷
          refers (codes "foo") ∷ []) (group 0 1 false (1 ∷ []) ∷ []) ∷ [];
      scripts = [];
      stubs = [];
    };
    later = [];
    options = record default_options { output = SharedObject; allow_multiple = true };
    texts = texts (Some (codes " /**/\r{ local: /* c; } */ [!]; local: /**/}# c };\n;\r\n")) None;
  });
  outcome = refusal (codes "Failed to parse version script: Invalid glob pattern at 26");
}

abbrev pub globs_1023 : Case
globs_1023 = record {
  world = world_of elf_like undemangled (record {
    first = record {
      objects =
          file (codes "a0.o") false false false false 4 (
          null_entry ∷
          refers ((226 ∷ 130 ∷ 172 ∷ []) ++ codes "foo") ∷
          entry (codes "bar") None true Global Default Tls 0 Undefined ∷
          refers (codes "foo") ∷ []) (group 3 1 true (2 ∷ []) ∷ group 0 2 true (1 ∷ []) ∷ []) ∷
          file (codes "a1.o") false true false false 8 (null_entry ∷ []) (
          group 4 0 true [] ∷
          group 1 0 true (2 ∷ []) ∷
          group 7 0 true [] ∷ []) ∷
          file (codes "b2.so") true false false false 2 (
          null_entry ∷
          entry (codes "__real_bar") None true Global Default Ifunc 0 (Section 1) ∷
          refers (codes "foo") ∷
          defines (codes "main") 0 ∷
          refers (codes "bar") ∷
          entry (codes "foo") None true Global Default Func 1 Common ∷ []) (
          group 1 5 true [] ∷
          group 0 1 true [] ∷ []) ∷ [];
      scripts = [];
      stubs = stub (codes "lib0.tbd") (codes "bar" ∷ codes "main" ∷ []) [] ∷ [];
    };
    later = [];
    options = record default_options { output = SharedObject; allow_multiple = true };
    texts = texts (Some (
        codes " /* c; } */ {\t__wrap_foo; global:foo\\;# c };\nf; } ;#  };\n")) (Some (
        codes "\r\n{ extern \"C++\" {# c };\n__wrap_foo; };extern \"C\"\r\n{\r\nglobal;*;  *;\r\n} ;\n"));
  });
  outcome = refusal (codes "Failed to parse symbol export list: Syntax error at 54");
}

abbrev pub globs_1028 : Case
globs_1028 = record {
  world = world_of elf_like undemangled (record {
    first = record {
      objects =
          file (codes "b0.o") false false false false 1 (
          null_entry ∷
          refers (codes "foo") ∷
          entry (codes "foo") None true Global Default Plain 8 Common ∷ []) [] ∷
          file (codes "b1.o") false false false false 1 (
          null_entry ∷
          entry (codes "x y") None true Weak Default Plain 0 (Section 0) ∷
          refers (codes "foo") ∷
          entry (codes "foo") None true Weak Default Plain 0 Undefined ∷
          defines (195 ∷ 169 ∷ []) 0 ∷
          entry (codes "_foo") None true Unique Default Plain 0 Undefined ∷ []) [] ∷
          file (codes "b2.o") false false false false 0 (
          null_entry ∷
          refers (codes "foo") ∷
          refers (codes "__start_nosec") ∷
          refers (codes "__wrap_foo") ∷ []) [] ∷ [];
      scripts = [];
      stubs = [];
    };
    later = [];
    options = record default_options { allow_multiple = true };
    texts = texts (Some (
        codes "# c };\nV1 { local:\r\nbar; f\\oo /* c; } */ } ; /* c; } */ VERS" ++
        (195 ∷ 169 ∷ []) ++
        codes "\n{local:fzo;global :# c };\n}\t;\r\nV1\n{# c };\n} /**/;\t")) None;
  });
  outcome = refusal (codes "Failed to parse version script: Unknown parent version at 38");
}

abbrev pub startstop_1002 : Case
startstop_1002 = record {
  world = world_of elf_like undemangled (of_objects (record default_options {
    output = SharedObject;
    entry = Some (codes "__start_data");
    allow_multiple = true;
    defsym = redirect (codes "__start_d2") DefSym (codes "__start_data" ∷ codes "__start_data" ∷ []) false ∷ [];
    custom_sections = codes "data" ∷ codes "d2" ∷ [];
  }) (
      file (codes "m0.o") false false false false 1 (null_entry ∷ refers (codes "__start_data") ∷ []) [] ∷
      file (codes "a1.o") false false false false 6 (null_entry ∷ refers (codes "__start_d2") ∷ []) [] ∷
      file (codes "m2.o") false false false false 0 (
      null_entry ∷
      entry (codes "__start_data") None true Unique Default Plain 0 Undefined ∷ []) [] ∷
      file (codes "m3.o") false false false false 2 (
      null_entry ∷
      refers (codes "__start_data") ∷
      entry (codes "__start_data") None true Weak Default Plain 0 Undefined ∷ []) [] ∷ []));
  outcome = report (
      codes "loaded 0 m0.o\n" ++
      codes "loaded 1 a1.o\n" ++
      codes "loaded 2 m2.o\n" ++
      codes "loaded 3 m3.o\n" ++
      codes "symbol 0 <unnamed> -> 0 [ABSOLUTE]\n" ++
      codes "symbol 1 __start_d2 -> 1 [ABSOLUTE | NON_INTERPOSABLE | HAS_NON_IR_REF]\n" ++
      codes "symbol 2 <unnamed> -> 0 [ABSOLUTE | NON_INTERPOSABLE]\n" ++
      codes "symbol 3 __start_data -> 11 [ABSOLUTE]\n" ++
      codes "symbol 4 <unnamed> -> 0 [ABSOLUTE | NON_INTERPOSABLE]\n" ++
      codes "symbol 5 __start_d2 -> 1 [ABSOLUTE]\n" ++
      codes "symbol 6 <unnamed> -> 0 [ABSOLUTE | NON_INTERPOSABLE]\n" ++
      codes "symbol 7 __start_data -> 11 [ABSOLUTE]\n" ++
      codes "symbol 8 <unnamed> -> 0 [ABSOLUTE | NON_INTERPOSABLE]\n" ++
      codes "symbol 9 __start_data -> 11 [ABSOLUTE]\n" ++
      codes "symbol 10 __start_data -> 11 [ABSOLUTE | UNDEFINED_WEAK]\n" ++
      codes "symbol 11 __start_data -> 11 [NON_INTERPOSABLE]\n");
}

abbrev pub startstop_1003 : Case
startstop_1003 = record {
  world = world_of elf_like undemangled (record {
    first = record {
      objects =
          file (codes "b0.o") false true false false 8 (
          null_entry ∷
          entry (codes "__start_data") None true Unique Hidden Plain 0 Undefined ∷
          entry (codes "__stop_data") None true Weak Default Plain 0 Undefined ∷
          refers (codes "__start_d2") ∷
          entry (codes "__start_d2") None true Weak Default Plain 0 Undefined ∷
          refers (codes "foo") ∷ []) [] ∷
          file (codes "a1.o") false true false false 1 (
          null_entry ∷
          refers (codes "__start_data") ∷
          refers (codes "__start_data") ∷ []) [] ∷
          file (codes "a2.o") false true false false 0 (
          null_entry ∷
          entry (codes "__stop_data") None true Global Hidden Plain 0 Undefined ∷ []) [] ∷ [];
      scripts = [];
      stubs = [];
    };
    later = [];
    options = record default_options {
      output = SharedObject;
      allow_multiple = true;
      files_per_group = 1;
      force_undefined = codes "__start_data" ∷ [];
      defsym = redirect (codes "__start_d2") DefSym (codes "foo" ∷ codes "__start_data" ∷ []) false ∷ [];
      linker_symbols = internal (codes "__stop_data") (SectionEnd 0) false ∷ [];
      custom_sections = codes "data" ∷ codes "d2" ∷ [];
    };
    texts = texts (Some (codes "{ global: main; bar; /**/bar;\nlocal: /**/*; }; /**/")) (Some (codes " {[b-a]x; };\r\n"));
  });
  outcome = report (
      codes "symbol 0 <unnamed> -> 0 [ABSOLUTE]\n" ++
      codes "symbol 1 __stop_data -> 1 [NON_INTERPOSABLE]\n" ++
      codes "symbol 2 __start_data -> 2 [ABSOLUTE]\n" ++
      codes "symbol 3 __start_d2 -> 3 [ABSOLUTE | NON_INTERPOSABLE]\n" ++
      codes "symbol 4 <unnamed> -> 0 [ABSOLUTE | NON_INTERPOSABLE]\n" ++
      codes "symbol 5 __start_data -> 0 [ABSOLUTE | NON_INTERPOSABLE]\n" ++
      codes "symbol 6 __stop_data -> 0 [ABSOLUTE]\n" ++
      codes "symbol 7 __start_d2 -> 0 [ABSOLUTE]\n" ++
      codes "symbol 8 __start_d2 -> 0 [ABSOLUTE]\n" ++
      codes "symbol 9 foo -> 0 [ABSOLUTE]\n" ++
      codes "symbol 10 <unnamed> -> 0 [ABSOLUTE | NON_INTERPOSABLE]\n" ++
      codes "symbol 11 __start_data -> 0 [ABSOLUTE]\n" ++
      codes "symbol 12 __start_data -> 0 [ABSOLUTE]\n" ++
      codes "symbol 13 <unnamed> -> 0 [ABSOLUTE | NON_INTERPOSABLE]\n" ++
      codes "symbol 14 __stop_data -> 0 [ABSOLUTE | NON_INTERPOSABLE]\n");
}

abbrev pub startstop_1008 : Case
startstop_1008 = record {
  world = world_of elf_like undemangled (record {
    first = record {
      objects =
          file (codes "b0.o") false false false false 3 (
          null_entry ∷
          refers (codes "__start_data") ∷
          defines (codes "__start_data") 2 ∷
          refers (codes "__stop_data") ∷
          entry (codes "foo") None true Weak Default Plain 0 Undefined ∷
          entry (codes "foo") None true Weak Default Plain 0 Undefined ∷ []) (
          group 0 2 true (1 ∷ []) ∷
          group 2 2 true [] ∷ []) ∷ [];
      scripts =
          linker_script (codes "s0.ld") None None (
          redirect (codes "foo") Script [] false ∷
          redirect (codes "__start_data") Provide (codes "__start_data" ∷ []) true ∷ []) ∷
          linker_script (codes "s1.ld") (Some (codes "__start_data")) None [] ∷ [];
      stubs = [];
    };
    later = [];
    options = record default_options {
      output = SharedObject;
      files_per_group = 1;
      wrap = codes "__start_data" ∷ codes "__start_data" ∷ codes "foo" ∷ [];
      linker_symbols = internal (codes "__stop_data") (SectionStart 0) false ∷ internal (codes "__start_data") (TlsEnd 7) true ∷ [];
      custom_sections = [] ∷ codes "nosec2" ∷ [];
    };
    texts = texts (Some (
        codes "V3 { local: }; V1 { }; V2 { global: baz; baz; extern \"C++\" { *; }; local: f?o; f\\oo; };")) None;
  });
  outcome = report (
      codes "loaded 0 b0.o\n" ++
      codes "kept 0 0 __start_data\n" ++
      codes "symbol 0 <unnamed> -> 0 [ABSOLUTE]\n" ++
      codes "symbol 1 __stop_data -> 1 [NON_INTERPOSABLE | HAS_NON_IR_REF]\n" ++
      codes "symbol 2 __start_data -> 5 [NON_INTERPOSABLE | DOWNGRADE_TO_LOCAL | HAS_NON_IR_REF]\n" ++
      codes "symbol 3 <unnamed> -> 0 [ABSOLUTE | NON_INTERPOSABLE]\n" ++
      codes "symbol 4 __start_data -> 5 [ABSOLUTE]\n" ++
      codes "symbol 5 __start_data -> 5 []\n" ++
      codes "symbol 6 __stop_data -> 1 [ABSOLUTE]\n" ++
      codes "symbol 7 foo -> 9 [ABSOLUTE]\n" ++
      codes "symbol 8 foo -> 9 [ABSOLUTE]\n" ++
      codes "symbol 9 foo -> 9 [NON_INTERPOSABLE | HAS_NON_IR_REF]\n" ++
      codes "symbol 10 __start_data -> 5 [NON_INTERPOSABLE | DOWNGRADE_TO_LOCAL]\n" ++
      codes "version 5 4\n");
}

abbrev pub startstop_1009 : Case
startstop_1009 = record {
  world = world_of elf_like undemangled (of_objects (record default_options {
    output = DynamicExecutable;
    entry = Some (codes "__start_data");
    allow_multiple = true;
    custom_sections = (255 ∷ []) ∷ codes "nosec2" ∷ codes "d2" ∷ [];
  }) (
      file (codes "b0.o") false false false false 3 (
      null_entry ∷
      refers (codes "__start_data") ∷ []) (
      group 0 0 true (2 ∷ []) ∷
      group 1 0 true [] ∷ []) ∷
      file (codes "b1.o") false true true false 6 (
      null_entry ∷
      entry (codes "__start_data") None true Weak Default Plain 0 Undefined ∷
      entry (codes "__start_data") None true Weak Default Plain 0 Undefined ∷ []) [] ∷
      file (codes "b2.o") false true false false 1 (
      null_entry ∷
      entry (codes "__start_data") None true Global Default Ifunc 0 Undefined ∷
      entry (codes "__start_data") None true Weak Default Plain 0 Undefined ∷
      refers (codes "__start_data") ∷ []) [] ∷
      file (codes "b.o") false true false false 4 (null_entry ∷ []) (
      group 3 0 false (0 ∷ []) ∷
      group 1 0 false (2 ∷ []) ∷ []) ∷
      file (codes "m4.o") false true true false 2 (
      null_entry ∷
      entry (codes "__start_data") None true Weak Default Plain 0 Undefined ∷ []) [] ∷ []));
  outcome = report (
      codes "loaded 0 b0.o\n" ++
      codes "loaded 1 b1.o\n" ++
      codes "loaded 4 m4.o\n" ++
      codes "kept 0 0 \n" ++
      codes "symbol 0 <unnamed> -> 0 [ABSOLUTE]\n" ++
      codes "symbol 1 <unnamed> -> 0 [ABSOLUTE | NON_INTERPOSABLE]\n" ++
      codes "symbol 2 __start_data -> 12 [ABSOLUTE]\n" ++
      codes "symbol 3 <unnamed> -> 0 [ABSOLUTE | NON_INTERPOSABLE]\n" ++
      codes "symbol 4 __start_data -> 12 [ABSOLUTE | UNDEFINED_WEAK]\n" ++
      codes "symbol 5 __start_data -> 12 [ABSOLUTE | UNDEFINED_WEAK]\n" ++
      codes "symbol 6 <unnamed> -> 0 [ABSOLUTE | NON_INTERPOSABLE]\n" ++
      codes "symbol 7 __start_data -> 0 [IFUNC]\n" ++
      codes "symbol 8 __start_data -> 0 [ABSOLUTE]\n" ++
      codes "symbol 9 __start_data -> 0 [ABSOLUTE]\n" ++
      codes "symbol 10 <unnamed> -> 0 [ABSOLUTE | NON_INTERPOSABLE]\n" ++
      codes "symbol 11 <unnamed> -> 0 [ABSOLUTE | NON_INTERPOSABLE]\n" ++
      codes "symbol 12 __start_data -> 12 [ABSOLUTE | DYNAMIC | UNDEFINED_WEAK]\n" ++
      codes "undefined 12 __start_data\n");
}

abbrev pub startstop_1011 : Case
startstop_1011 = record {
  world = world_of mach_like undemangled (of_objects (record default_options {
    custom_sections = codes "data" ∷ codes "d2" ∷ [];
  }) (
      file (codes "a0.so") true true false false 0 (
      entry (codes "__start_data") None true Global Hidden Plain 0 Undefined ∷
      entry (codes "__start_data") (Some (codes "X")) false Global Default Plain 0 Undefined ∷
      entry (codes "__start_data") (Some (codes "V1")) true Global Default Plain 0 Undefined ∷ []) [] ∷
      file (codes "b1.so") true false false true 3 (
      entry (codes "__start_data") (Some (codes "V1")) false Global Hidden Plain 0 Undefined ∷
      entry (codes "__start_data") None true Global Hidden Plain 0 Undefined ∷
      entry (codes "__start_data") (Some (codes "V1")) false Global Hidden Plain 0 Undefined ∷ []) [] ∷
      file (codes "b2.o") false false false false 3 (
      entry (codes "__start_data") (Some (codes "V1")) false Global Default Plain 0 Undefined ∷
      entry (codes "__start_data") (Some (codes "V2")) false Global Hidden Plain 0 Undefined ∷
      entry (codes "__start_data") (Some (codes "V1")) true Global Default Plain 8 Undefined ∷
      entry (codes "__start_data") (Some (codes "V1")) true Global Hidden Plain 0 Undefined ∷
      entry (codes "__start_data") None true Global Hidden Plain 0 Undefined ∷ []) [] ∷
      file (codes "a3.o") false true false false 6 (
      entry (codes "__start_data") (Some (codes "V1")) false Global Hidden Plain 0 Undefined ∷
      entry (codes "__start_data") (Some (codes "V2")) false Global Hidden Plain 0 Undefined ∷ []) [] ∷
      file (codes "a4.so") true true true false 2 (
      entry (codes "__start_data") (Some (codes "V1")) true Global Hidden Plain 0 Undefined ∷
      entry (codes "__start_data") (Some (codes "V2")) true Global Hidden Plain 0 Undefined ∷ []) [] ∷
      file (codes "c.o") false false false false 2 (
      entry (codes "__start_data") None true Global Hidden Plain 0 Undefined ∷ []) [] ∷ []));
  outcome = report (
      codes "loaded 2 b2.o\n" ++
      codes "loaded 4 a4.so\n" ++
      codes "loaded 5 c.o\n" ++
      codes "symbol 0 <unnamed> -> 0 [ABSOLUTE]\n" ++
      codes "symbol 1 __start_data -> 0 [ABSOLUTE | DYNAMIC]\n" ++
      codes "symbol 2 __start_data -> 0 [ABSOLUTE | DYNAMIC]\n" ++
      codes "symbol 3 __start_data -> 0 [ABSOLUTE | DYNAMIC]\n" ++
      codes "symbol 4 __start_data -> 0 [ABSOLUTE | DYNAMIC]\n" ++
      codes "symbol 5 __start_data -> 0 [ABSOLUTE | DYNAMIC]\n" ++
      codes "symbol 6 __start_data -> 0 [ABSOLUTE | DYNAMIC]\n" ++
      codes "symbol 7 __start_data -> 0 [ABSOLUTE]\n" ++
      codes "symbol 8 __start_data -> 0 [ABSOLUTE | NON_INTERPOSABLE]\n" ++
      codes "symbol 9 __start_data -> 0 [ABSOLUTE]\n" ++
      codes "symbol 10 __start_data -> 0 [ABSOLUTE | NON_INTERPOSABLE]\n" ++
      codes "symbol 11 __start_data -> 17 [ABSOLUTE | NON_INTERPOSABLE]\n" ++
      codes "symbol 12 __start_data -> 0 [ABSOLUTE | NON_INTERPOSABLE]\n" ++
      codes "symbol 13 __start_data -> 0 [ABSOLUTE | NON_INTERPOSABLE]\n" ++
      codes "symbol 14 __start_data -> 0 [ABSOLUTE | DYNAMIC]\n" ++
      codes "symbol 15 __start_data -> 0 [ABSOLUTE | DYNAMIC]\n" ++
      codes "symbol 16 __start_data -> 17 [ABSOLUTE | NON_INTERPOSABLE]\n" ++
      codes "symbol 17 __start_data -> 17 [NON_INTERPOSABLE | DOWNGRADE_TO_LOCAL]\n" ++
      codes "undefined 8 __start_data@V2\n" ++
      codes "undefined 10 __start_data@V1\n");
}

abbrev pub startstop_1022 : Case
startstop_1022 = record {
  world = world_of mach_like undemangled (of_objects (record default_options {
    force_undefined = codes "foo" ∷ [];
    custom_sections = codes "data" ∷ codes "d2" ∷ [];
  }) (
      file (codes "b0.o") false false false false 6 (refers (codes "foo") ∷ []) [] ∷
      file (codes "a1.o") false false false false 4 (
      entry (codes "__stop_data") None true Global Hidden Plain 0 Undefined ∷ []) (
      group 3 0 true (0 ∷ []) ∷
      group 1 0 true (2 ∷ []) ∷ []) ∷
      file (codes "b2.o") false false false false 4 (refers (codes "foo") ∷ []) (
      group 1 0 true (2 ∷ 3 ∷ []) ∷
      group 0 0 false [] ∷ []) ∷
      file (codes "b3.so") true true true false 6 (
      entry (codes "__start_data") None true Weak Default Plain 4 Undefined ∷ []) (
      group 1 0 true (5 ∷ 3 ∷ []) ∷
      group 0 0 false (4 ∷ 2 ∷ 4 ∷ []) ∷ []) ∷
      file (codes "a4.so") true false false false 8 (
      entry (codes "__stop_data") None true Unique Hidden Plain 0 Undefined ∷
      refers (codes "foo") ∷
      entry (codes "__start_data") None true Global Protected Plain 0 Undefined ∷ []) [] ∷
      file (codes "b5.o") false true false false 2 (
      refers (codes "foo") ∷
      entry (codes "foo") None true Weak Hidden Plain 0 Undefined ∷
      refers (codes "foo") ∷
      entry (codes "foo") None true Unique Default Plain 0 Undefined ∷
      entry (codes "__stop_data") None true Global Hidden Plain 0 Undefined ∷ []) (group 1 2 false (0 ∷ []) ∷ []) ∷ []));
  outcome = report (
      codes "loaded 0 b0.o\n" ++
      codes "loaded 1 a1.o\n" ++
      codes "loaded 2 b2.o\n" ++
      codes "loaded 3 b3.so\n" ++
      codes "loaded 4 a4.so\n" ++
      codes "kept 1 0 __stop_data\n" ++
      codes "kept 2 0 foo\n" ++
      codes "symbol 0 <unnamed> -> 0 [ABSOLUTE]\n" ++
      codes "symbol 1 foo -> 1 [ABSOLUTE]\n" ++
      codes "symbol 2 foo -> 7 [ABSOLUTE]\n" ++
      codes "symbol 3 __stop_data -> 15 [ABSOLUTE | NON_INTERPOSABLE]\n" ++
      codes "symbol 4 foo -> 7 [ABSOLUTE]\n" ++
      codes "symbol 5 __start_data -> 14 [ABSOLUTE | DYNAMIC | UNDEFINED_WEAK]\n" ++
      codes "symbol 6 __stop_data -> 0 [ABSOLUTE | DYNAMIC]\n" ++
      codes "symbol 7 foo -> 7 [ABSOLUTE | DYNAMIC | NON_INTERPOSABLE]\n" ++
      codes "symbol 8 __start_data -> 14 [ABSOLUTE | DYNAMIC]\n" ++
      codes "symbol 9 foo -> 0 [ABSOLUTE]\n" ++
      codes "symbol 10 foo -> 0 [ABSOLUTE | NON_INTERPOSABLE]\n" ++
      codes "symbol 11 foo -> 0 [ABSOLUTE]\n" ++
      codes "symbol 12 foo -> 0 [ABSOLUTE]\n" ++
      codes "symbol 13 __stop_data -> 0 [ABSOLUTE | NON_INTERPOSABLE]\n" ++
      codes "symbol 14 __start_data -> 14 [NON_INTERPOSABLE]\n" ++
      codes "symbol 15 __stop_data -> 15 [NON_INTERPOSABLE]\n" ++
      codes "undefined 7 foo\n");
}

abbrev pub startstop_1027 : Case
startstop_1027 = record {
  world = world_of mach_like undemangled (of_objects (record default_options {
    output = SharedObject;
    wrap = codes "__start_data" ∷ [];
  }) (
      file (codes "b0.o") false false false false 8 [] [] ∷
      file (codes "m1.o") false true false false 3 [] [] ∷
      file (codes "b2.o") false true false false 8 (refers (codes "__stop_data") ∷ refers (codes "__stop_data") ∷ []) [] ∷
      file (codes "a3.o") false true false false 3 (refers (codes "__stop_data") ∷ refers (codes "__stop_data") ∷ []) [] ∷
      file (codes "m4.o") false true false false 1 (
      refers (codes "__stop_data") ∷
      refers (codes "__start_data") ∷
      refers (codes "__start_data") ∷ []) [] ∷
      file (codes "b5.o") false false false false 4 (refers (codes "__start_data") ∷ []) [] ∷
      file (codes "a6.o") false true false false 8 (
      refers (codes "__start_data") ∷
      refers (codes "__stop_data") ∷
      refers (codes "__stop_data") ∷
      refers (codes "__start_data") ∷
      entry (codes "__start_data") None true Global Default Plain 1 Undefined ∷ []) [] ∷
      file (codes "a.o") false true true false 0 (refers (codes "__start_data") ∷ []) [] ∷ []));
  outcome = report (
      codes "loaded 0 b0.o\n" ++
      codes "loaded 5 b5.o\n" ++
      codes "loaded 7 a.o\n" ++
      codes "symbol 0 <unnamed> -> 0 [ABSOLUTE]\n" ++
      codes "symbol 1 __stop_data -> 0 [ABSOLUTE]\n" ++
      codes "symbol 2 __stop_data -> 0 [ABSOLUTE]\n" ++
      codes "symbol 3 __stop_data -> 0 [ABSOLUTE]\n" ++
      codes "symbol 4 __stop_data -> 0 [ABSOLUTE]\n" ++
      codes "symbol 5 __stop_data -> 0 [ABSOLUTE]\n" ++
      codes "symbol 6 __start_data -> 0 [ABSOLUTE]\n" ++
      codes "symbol 7 __start_data -> 0 [ABSOLUTE]\n" ++
      codes "symbol 8 __start_data -> 14 [ABSOLUTE]\n" ++
      codes "symbol 9 __start_data -> 0 [ABSOLUTE]\n" ++
      codes "symbol 10 __stop_data -> 0 [ABSOLUTE]\n" ++
      codes "symbol 11 __stop_data -> 0 [ABSOLUTE]\n" ++
      codes "symbol 12 __start_data -> 0 [ABSOLUTE]\n" ++
      codes "symbol 13 __start_data -> 0 [ABSOLUTE]\n" ++
      codes "symbol 14 __start_data -> 14 [ABSOLUTE | DYNAMIC]\n" ++
      codes "undefined 14 __start_data\n");
}
