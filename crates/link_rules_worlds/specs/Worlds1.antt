-- Generated worlds, and what an independent program answers to each.
-- Written by `tools/worlds.py` from `tools/worlds.jsonl`.
use Rattle.std.specs.Prelude.{[], ◌∷◌, true, false, Some, None, codes, ◌++◌}
use Rattle.link_flags.specs.declared.visibility.Visibility.TheVariants.{Default, Protected, Hidden}
use Rattle.link_input.specs.declared.symbol_entry.Place.TheVariants.{Undefined, Absolute, Common, Section}
use Rattle.link_input.specs.declared.symbol_entry.SymbolBinding.TheVariants.{Local, Global, Weak, Unique}
use Rattle.link_input.specs.declared.symbol_entry.SymbolKind.TheVariants.{Plain, Func, Ifunc, Tls}
use Rattle.link_input.specs.declared.options.OutputKind.TheVariants.{DynamicExecutable, SharedObject, Partial}
use Rattle.link_input.specs.declared.internal_symbols.RedirectKind.TheVariants.{DefSym, Script}
use Rattle.link_input.specs.declared.internal_symbols.SymbolPlacement.TheVariants.{SectionGroupEnd}
use Rattle.link_input.specs.Defaults.{default_options}
use Rattle.link_rules.specs.Rules.{elf_like, mach_like}
use Rattle.link_rules.specs.World.{world_of}
use Rattle.link_rules.specs.Building.{undemangled, entry, null_entry, refers, defines, group, file, object, member, internal, redirect, linker_script, stub, texts, of_objects}
use Rattle.link_rules_worlds.specs.Computing.{Case, report, refusal}

abbrev pub valid_1008 : Case
valid_1008 = record {
  world = world_of mach_like undemangled (of_objects (record default_options {
    output = SharedObject;
  }) (
      file (codes "c.o") false true true false 2 (
      refers (codes "foo") ∷
      entry (codes "foo") None true Local Hidden Plain 0 (Section 1) ∷ []) [] ∷
      file (codes "lib.so") false true false false 8 (
      refers (codes "__start_data") ∷
      defines (codes "__start_data") 7 ∷
      entry (255 ∷ []) None true Global Hidden Plain 0 Common ∷
      refers (codes "__start_data") ∷
      entry (255 ∷ []) None true Global Default Plain 1 Undefined ∷ []) [] ∷
      file (codes "c.o") false true false false 4 (refers (codes "foo") ∷ defines (codes "__start_data") 2 ∷ []) [] ∷ []));
  outcome = report (
      codes "loaded 0 c.o\n" ++
      codes "symbol 0 <unnamed> -> 0 [ABSOLUTE]\n" ++
      codes "symbol 1 foo -> 1 [ABSOLUTE | DYNAMIC]\n" ++
      codes "symbol 2 foo -> 2 [NON_INTERPOSABLE]\n" ++
      codes "symbol 3 __start_data -> 0 [ABSOLUTE]\n" ++
      codes "symbol 4 __start_data -> 4 []\n" ++
      codes "symbol 5 INVALID UTF-8([255]) -> 5 [NON_INTERPOSABLE]\n" ++
      codes "symbol 6 __start_data -> 0 [ABSOLUTE]\n" ++
      codes "symbol 7 INVALID UTF-8([255]) -> 0 [ABSOLUTE]\n" ++
      codes "symbol 8 foo -> 0 [ABSOLUTE]\n" ++
      codes "symbol 9 __start_data -> 4 []\n" ++
      codes "undefined 1 foo\n");
}

abbrev pub valid_1010 : Case
valid_1010 = record {
  world = world_of mach_like undemangled (record {
    first = record {
      objects =
          file (codes "m0.o") false true false false 0 (refers (195 ∷ 169 ∷ []) ∷ refers (codes "f") ∷ []) [] ∷
          file (codes "a1.so") true true false false 2 (
          entry [] None true Global Default Plain 0 Absolute ∷
          entry ((255 ∷ []) ++ codes "\0") None true Weak Default Plain 0 (Section 0) ∷
          defines (codes "x y") 0 ∷ []) (group 0 0 false (1 ∷ []) ∷ []) ∷
          file (codes "m2.o") false true false false 1 (
          defines (codes "__start_nosec") 0 ∷
          entry (codes "__start_nosec") None true Global Default Plain 8 Common ∷ []) [] ∷
          file (codes "m3.o") false true false false 0 (
          entry (codes "__start_d2") None true Weak Default Plain 8 Undefined ∷
          refers (codes "__start_d2") ∷ []) [] ∷ [];
      scripts = [];
      stubs = stub (codes "lib0.tbd") [] [] ∷ [];
    };
    later = [];
    options = record default_options { files_per_group = 1 };
    texts = texts (Some (codes "{ global: *; local: f\\oo; *; ba[rz]; };")) None;
  });
  outcome = report (
      codes "symbol 0 <unnamed> -> 0 [ABSOLUTE]\n" ++
      codes "symbol 1 " ++ (195 ∷ 169 ∷ []) ++ codes " -> 0 [ABSOLUTE]\n" ++
      codes "symbol 2 f -> 0 [ABSOLUTE]\n" ++
      codes "symbol 3 <unnamed> -> 3 [DYNAMIC]\n" ++
      codes "symbol 4 INVALID UTF-8([255, 0]) -> 4 [DYNAMIC]\n" ++
      codes "symbol 5 x y -> 5 [DYNAMIC]\n" ++
      codes "symbol 6 __start_nosec -> 6 [NON_INTERPOSABLE]\n" ++
      codes "symbol 7 __start_nosec -> 6 [NON_INTERPOSABLE]\n" ++
      codes "symbol 8 __start_d2 -> 0 [ABSOLUTE]\n" ++
      codes "symbol 9 __start_d2 -> 0 [ABSOLUTE]\n");
}

abbrev pub valid_1011 : Case
valid_1011 = record {
  world = world_of elf_like undemangled (of_objects (record default_options { output = SharedObject }) (
      file (codes "m0.o") false true false false 0 (
      null_entry ∷
      refers (195 ∷ 169 ∷ []) ∷
      refers [] ∷
      entry (195 ∷ 169 ∷ []) None true Global Default Ifunc 8 Common ∷
      entry (codes "a\nb") None true Global Default Tls 0 Undefined ∷
      entry (codes "_foo") None true Global Default Ifunc 0 Undefined ∷ []) [] ∷ []));
  outcome = report (
      codes "symbol 0 <unnamed> -> 0 [ABSOLUTE]\n" ++
      codes "symbol 1 <unnamed> -> 0 [ABSOLUTE | NON_INTERPOSABLE]\n" ++
      codes "symbol 2 " ++ (195 ∷ 169 ∷ []) ++ codes " -> 0 [ABSOLUTE]\n" ++
      codes "symbol 3 <unnamed> -> 0 [ABSOLUTE]\n" ++
      codes "symbol 4 " ++ (195 ∷ 169 ∷ []) ++ codes " -> 4 [IFUNC]\n" ++
      codes "symbol 5 a\n" ++
      codes "b -> 0 [ABSOLUTE]\n" ++
      codes "symbol 6 _foo -> 0 [IFUNC]\n");
}

abbrev pub valid_1017 : Case
valid_1017 = record {
  world = world_of mach_like undemangled (record {
    first = record {
      objects =
          file (codes "b.o") true false false true 1 [] [] ∷
          file (codes "a1.o") false true false false 3 (
          entry (codes "__wrap_bar") (Some (codes "V2")) true Global Default Plain 0 Undefined ∷
          entry (codes "__real_foo") (Some (codes "V1")) false Weak Default Plain 0 Undefined ∷
          entry (codes "__wrap_bar") None true Unique Default Plain 0 Undefined ∷ []) (
          group 2 1 true (1 ∷ []) ∷
          group 0 1 false [] ∷ []) ∷
          file (codes "m2.o") false false false false 4 (refers (codes "__wrap_bar") ∷ []) [] ∷
          file (codes "a3.o") false true false false 1 (defines (codes "__wrap_bar") 0 ∷ []) [] ∷ [];
      scripts = [];
      stubs =
          stub (codes "lib0.tbd") (codes "__wrap_bar" ∷ codes "__wrap_bar" ∷ []) [] ∷
          stub (codes "lib1.tbd") [] (codes "__wrap_bar" ∷ codes "__real_foo" ∷ []) ∷ [];
    };
    later = [];
    options = record default_options { wrap = codes "__real_foo" ∷ []; custom_sections = (255 ∷ []) ∷ codes "data" ∷ [] };
    texts = texts None None;
  });
  outcome = report (
      codes "loaded 2 m2.o\n" ++
      codes "loaded 3 a3.o\n" ++
      codes "symbol 0 <unnamed> -> 0 [ABSOLUTE]\n" ++
      codes "symbol 1 __wrap_bar -> 0 [ABSOLUTE]\n" ++
      codes "symbol 2 __real_foo -> 0 [ABSOLUTE]\n" ++
      codes "symbol 3 __wrap_bar -> 0 [ABSOLUTE]\n" ++
      codes "symbol 4 __wrap_bar -> 5 [ABSOLUTE]\n" ++
      codes "symbol 5 __wrap_bar -> 5 [NON_INTERPOSABLE | HAS_NON_IR_REF]\n" ++
      codes "symbol 6 __wrap_bar -> 5 [DYNAMIC]\n" ++
      codes "symbol 7 __wrap_bar -> 5 [DYNAMIC]\n" ++
      codes "symbol 8 __wrap_bar -> 5 [DYNAMIC]\n" ++
      codes "symbol 9 __real_foo -> 9 [DYNAMIC]\n");
}

abbrev pub valid_1020 : Case
valid_1020 = record {
  world = world_of elf_like undemangled (of_objects (record default_options {
    force_undefined = codes "foo" ∷ [];
    force_export = codes "foo" ∷ [];
  }) (
      file (codes "b0.o") false false false false 0 (null_entry ∷ refers (codes "foo") ∷ refers (codes "foo") ∷ []) [] ∷
      file (codes "a1.o") false false false false 2 (
      null_entry ∷
      entry (codes "foo") None true Weak Default Plain 0 Undefined ∷ []) [] ∷
      file (codes "b2.o") false false false false 6 (
      null_entry ∷
      refers (codes "foo") ∷
      entry (codes "foo") None true Local Default Plain 0 (Section 4) ∷ []) [] ∷
      file (codes "b3.o") false false false false 1 (null_entry ∷ []) [] ∷
      file (codes "b4.o") false false false false 0 (null_entry ∷ []) [] ∷ []));
  outcome = report (
      codes "loaded 0 b0.o\n" ++
      codes "loaded 1 a1.o\n" ++
      codes "loaded 2 b2.o\n" ++
      codes "loaded 3 b3.o\n" ++
      codes "loaded 4 b4.o\n" ++
      codes "symbol 0 <unnamed> -> 0 [ABSOLUTE]\n" ++
      codes "symbol 1 foo -> 1 [ABSOLUTE]\n" ++
      codes "symbol 2 <unnamed> -> 0 [ABSOLUTE | NON_INTERPOSABLE]\n" ++
      codes "symbol 3 foo -> 8 [ABSOLUTE]\n" ++
      codes "symbol 4 foo -> 8 [ABSOLUTE]\n" ++
      codes "symbol 5 <unnamed> -> 0 [ABSOLUTE | NON_INTERPOSABLE]\n" ++
      codes "symbol 6 foo -> 8 [ABSOLUTE | UNDEFINED_WEAK]\n" ++
      codes "symbol 7 <unnamed> -> 0 [ABSOLUTE | NON_INTERPOSABLE]\n" ++
      codes "symbol 8 foo -> 8 [ABSOLUTE | NON_INTERPOSABLE]\n" ++
      codes "symbol 9 foo -> 9 [NON_INTERPOSABLE]\n" ++
      codes "symbol 10 <unnamed> -> 0 [ABSOLUTE | NON_INTERPOSABLE]\n" ++
      codes "symbol 11 <unnamed> -> 0 [ABSOLUTE | NON_INTERPOSABLE]\n" ++
      codes "undefined 8 foo\n");
}

abbrev pub valid_1021 : Case
valid_1021 = record {
  world = world_of mach_like undemangled (record {
    first = record {
      objects =
          file (codes "b0.o") false false false false 0 (
          entry (codes "f") (Some (codes "V1")) false Global Default Plain 0 Undefined ∷
          entry (codes "foo") (Some (codes "V2")) false Global Default Plain 8 Common ∷
          refers (codes "f") ∷ []) [] ∷
          file (codes "b1.o") false false false false 1 (
          entry (codes "foo") (Some (codes "V1")) false Global Default Plain 0 (Section 0) ∷ []) [] ∷
          file (codes "a2.o") false false false false 8 (
          defines (codes "__start_nosec") 0 ∷
          entry (codes "__wrap_bar") (Some (codes "V2")) true Global Default Plain 0 Undefined ∷ []) [] ∷
          file (codes "a3.o") false false false false 4 (refers (codes "main") ∷ []) [] ∷
          file (codes "m4.o") false true false false 1 (refers (codes "f") ∷ []) [] ∷ [];
      scripts = [];
      stubs = [];
    };
    later = [];
    options = record default_options { allow_multiple = true };
    texts = texts (Some (codes "V1 { global: };")) (Some []);
  });
  outcome = report (
      codes "loaded 0 b0.o\n" ++
      codes "loaded 1 b1.o\n" ++
      codes "loaded 2 a2.o\n" ++
      codes "loaded 3 a3.o\n" ++
      codes "symbol 0 <unnamed> -> 0 [ABSOLUTE]\n" ++
      codes "symbol 1 f -> 0 [ABSOLUTE]\n" ++
      codes "symbol 2 foo -> 2 [NON_INTERPOSABLE]\n" ++
      codes "symbol 3 f -> 3 [ABSOLUTE | NON_INTERPOSABLE]\n" ++
      codes "symbol 4 foo -> 4 [NON_INTERPOSABLE]\n" ++
      codes "symbol 5 __start_nosec -> 5 [NON_INTERPOSABLE]\n" ++
      codes "symbol 6 __wrap_bar -> 0 [ABSOLUTE]\n" ++
      codes "symbol 7 main -> 7 [ABSOLUTE | NON_INTERPOSABLE]\n" ++
      codes "symbol 8 f -> 0 [ABSOLUTE]\n" ++
      codes "undefined 1 f@V1\n" ++
      codes "undefined 3 f\n" ++
      codes "undefined 6 __wrap_bar@V2\n" ++
      codes "undefined 7 main\n");
}

abbrev pub valid_1030 : Case
valid_1030 = record {
  world = world_of mach_like undemangled (record {
    first = record {
      objects =
          file (codes "x\ny") false false false false 6 (defines (codes "fzo") 0 ∷ []) [] ∷
          file (codes "b1.o") false false false false 2 (
          entry (codes "foo") None true Global Hidden Plain 0 Undefined ∷
          refers (codes "__real_bar") ∷
          entry (codes "_foo") None true Global Hidden Plain 0 (Section 1) ∷ []) [] ∷
          file (codes "m2.o") false false false false 4 [] [] ∷
          file (codes "m" ++ (195 ∷ 169 ∷ []) ++ codes ".o") false false false false 0 (
          entry (codes "main") None true Global Default Plain 1 Common ∷
          refers (codes "main") ∷ []) [] ∷ [];
      scripts = [];
      stubs = [];
    };
    later = [];
    options = record default_options { output = DynamicExecutable };
    texts = texts (Some (codes "{ /* c; } */ global: bar;\nlocal: /* c; } */ *; }; ")) None;
  });
  outcome = report (
      codes "loaded 0 x\n" ++
      codes "y\n" ++
      codes "loaded 1 b1.o\n" ++
      codes "loaded 2 m2.o\n" ++
      codes "loaded 3 m" ++ (195 ∷ 169 ∷ []) ++ codes ".o\n" ++
      codes "symbol 0 <unnamed> -> 0 [ABSOLUTE]\n" ++
      codes "symbol 1 fzo -> 1 [NON_INTERPOSABLE | DOWNGRADE_TO_LOCAL]\n" ++
      codes "symbol 2 foo -> 2 [ABSOLUTE | NON_INTERPOSABLE]\n" ++
      codes "symbol 3 __real_bar -> 3 [ABSOLUTE | NON_INTERPOSABLE]\n" ++
      codes "symbol 4 _foo -> 4 [NON_INTERPOSABLE | DOWNGRADE_TO_LOCAL]\n" ++
      codes "symbol 5 main -> 5 [NON_INTERPOSABLE | DOWNGRADE_TO_LOCAL | HAS_NON_IR_REF]\n" ++
      codes "symbol 6 main -> 5 [ABSOLUTE]\n" ++
      codes "undefined 2 foo\n" ++
      codes "undefined 3 __real_bar\n");
}

abbrev pub valid_1034 : Case
valid_1034 = record {
  world = world_of elf_like undemangled (record {
    first = record {
      objects =
          file (codes "a0.o") false false false false 2 (
          null_entry ∷
          entry ((255 ∷ []) ++ codes "\0") (Some (codes "V1")) false Global Default Plain 0 (Section 1) ∷
          entry [] None true Weak Default Plain 0 Undefined ∷ []) [] ∷
          file (codes "m1.o") false false false false 6 (
          null_entry ∷
          entry [] (Some (codes "V1")) true Global Default Plain 0 Undefined ∷
          entry [] None true Weak Default Plain 0 (Section 1) ∷ []) [] ∷
          file (codes "a2.o") false true false false 3 (null_entry ∷ refers ((255 ∷ []) ++ codes "\0") ∷ []) [] ∷ [];
      scripts = [];
      stubs = [];
    };
    later = [];
    options = record default_options { output = SharedObject; allow_multiple = true; wrap = [] ∷ [] };
    texts = texts (Some (codes "{ global: /**/f; /* c; } */ local:*; /* c; } */ };\r\n")) None;
  });
  outcome = report (
      codes "loaded 0 a0.o\n" ++
      codes "loaded 1 m1.o\n" ++
      codes "symbol 0 <unnamed> -> 0 [ABSOLUTE]\n" ++
      codes "symbol 1 <unnamed> -> 0 [ABSOLUTE | NON_INTERPOSABLE]\n" ++
      codes "symbol 2 INVALID UTF-8([255, 0]) -> 2 [NON_INTERPOSABLE | DOWNGRADE_TO_LOCAL]\n" ++
      codes "symbol 3 <unnamed> -> 6 [ABSOLUTE]\n" ++
      codes "symbol 4 <unnamed> -> 0 [ABSOLUTE | NON_INTERPOSABLE]\n" ++
      codes "symbol 5 <unnamed> -> 0 [ABSOLUTE]\n" ++
      codes "symbol 6 <unnamed> -> 6 [NON_INTERPOSABLE | DOWNGRADE_TO_LOCAL | HAS_NON_IR_REF]\n" ++
      codes "symbol 7 <unnamed> -> 0 [ABSOLUTE | NON_INTERPOSABLE]\n" ++
      codes "symbol 8 INVALID UTF-8([255, 0]) -> 0 [ABSOLUTE]\n" ++
      codes "undefined 5 @V1\n");
}

abbrev pub valid_1042 : Case
valid_1042 = record {
  world = world_of elf_like undemangled (record {
    first = record {
      objects =
          file (codes "a0.so") true false false false 0 (
          null_entry ∷
          entry (codes "foo") None true Global Default Plain 18446744073709551615 Absolute ∷
          refers (codes "__start_nosec") ∷ []) [] ∷
          file (codes "a1.o") false true false false 0 (
          null_entry ∷
          refers (codes "foo") ∷
          refers (codes "foo") ∷
          refers (codes "__start_nosec") ∷ []) [] ∷ [];
      scripts = [];
      stubs = stub (codes "lib0.tbd") [] (codes "_bar" ∷ []) ∷ stub (codes "lib1.tbd") (codes "foo" ∷ codes "foo" ∷ []) [] ∷ [];
    };
    later = [];
    options = record default_options { allow_multiple = true; custom_sections = codes "d2" ∷ codes "data" ∷ [] };
    texts = texts None None;
  });
  outcome = report (
      codes "loaded 0 a0.so\n" ++
      codes "symbol 0 <unnamed> -> 0 [ABSOLUTE]\n" ++
      codes "symbol 1 <unnamed> -> 0 [ABSOLUTE | DYNAMIC]\n" ++
      codes "symbol 2 foo -> 2 [DYNAMIC]\n" ++
      codes "symbol 3 __start_nosec -> 3 [ABSOLUTE | DYNAMIC | NON_INTERPOSABLE]\n" ++
      codes "symbol 4 <unnamed> -> 0 [ABSOLUTE | NON_INTERPOSABLE]\n" ++
      codes "symbol 5 foo -> 0 [ABSOLUTE]\n" ++
      codes "symbol 6 foo -> 0 [ABSOLUTE]\n" ++
      codes "symbol 7 __start_nosec -> 0 [ABSOLUTE]\n" ++
      codes "symbol 8 _bar -> 8 [DYNAMIC]\n" ++
      codes "symbol 9 foo -> 2 [DYNAMIC]\n" ++
      codes "symbol 10 foo -> 2 [DYNAMIC]\n" ++
      codes "undefined 3 __start_nosec\n");
}

abbrev pub valid_1027 : Case
valid_1027 = record {
  world = world_of elf_like undemangled (record {
    first = record {
      objects =
          member (codes "a0.o") (
          entry (codes "f") None true Global Default Plain 0 Absolute ∷
          entry (codes "__start_nosec") None true Global Default Plain 8 (Section 2) ∷ []) ∷
          file (codes "lib.so") false false false false 3 (
          null_entry ∷
          entry (codes "__start_nosec") None true Weak Default Plain 8 Undefined ∷
          refers (codes "f") ∷
          defines (codes "foo") 2 ∷ []) (group 2 2 true (1 ∷ []) ∷ group 0 2 true [] ∷ []) ∷
          file (codes "a2.o") false false false false 6 (
          null_entry ∷
          entry (codes "__start_nosec") None true Global Default Plain 0 Absolute ∷
          refers (codes "foo") ∷
          refers (codes "f") ∷ []) (
          group 3 0 true [] ∷
          group 0 2 true (5 ∷ 1 ∷ []) ∷
          group 4 0 true (2 ∷ []) ∷ []) ∷ [];
      scripts =
          linker_script (codes "s0.ld") None (Some (codes "V3 { global: \"foo\"; local: bar; }; V1 { global: *; };")) (
          redirect (codes "f") Script [] false ∷ []) ∷
          linker_script (codes "s1.ld") (Some (codes "foo")) None [] ∷ [];
      stubs = [];
    };
    later = [];
    options = record default_options {
      output = Partial;
      force_undefined = codes "__start_nosec" ∷ codes "__start_nosec" ∷ [];
      force_export = codes "__start_nosec" ∷ [];
    };
    texts = texts None (Some (codes " { /**/extern \"C++\"\t{# c };\n__*}; bar; \"f?o\";\t};"));
  });
  outcome = refusal (codes "Duplicate symbols detected: __start_nosec, defined in a0.o and a2.o");
}

abbrev pub valid_1036 : Case
valid_1036 = record {
  world = world_of elf_like undemangled (of_objects (record default_options {
    output = SharedObject;
    entry = Some (codes "__stop_data");
    default_entry = Some (codes "foo");
    allow_multiple = true;
  }) (
      file (codes "b0.o") false true true false 2 (
      null_entry ∷
      entry (codes "foo") (Some (codes "V2")) true Global Default Tls 0 Undefined ∷
      entry (codes "foo") None true Global Default Ifunc 0 (Section 0) ∷
      entry (codes "_start") None true Unique Default Plain 0 Undefined ∷
      entry (codes "fzo") (Some (codes "V1")) true Weak Default Func 0 (Section 0) ∷
      entry (codes "foo") (Some []) false Weak Default Plain 0 Absolute ∷ []) [] ∷ []));
  outcome = refusal (codes "Symbol fzo has undefined version V1");
}

abbrev pub valid_1044 : Case
valid_1044 = record {
  world = world_of elf_like undemangled (of_objects (record default_options { output = SharedObject }) (
      file (codes "a0.o") false false false false 0 (null_entry ∷ []) [] ∷
      file (codes "b1.o") false false false false 3 (
      null_entry ∷
      entry (codes "foo") None true Global Default Func 8 Absolute ∷ []) [] ∷
      file (codes "m2.o") false false false false 2 (
      null_entry ∷
      refers (codes "foo") ∷
      entry (codes "a\nb") None true Global Default Ifunc 0 Absolute ∷ []) [] ∷
      file (codes "b3.o") false false false false 8 (null_entry ∷ []) [] ∷
      object (codes "b4.o") (
      entry (codes "main") None true Global Default Ifunc 0 Undefined ∷
      defines (codes "main") 0 ∷
      entry ((226 ∷ 130 ∷ 172 ∷ []) ++ codes "foo") None true Global Default Plain 0 Absolute ∷
      defines (codes "fzo") 3 ∷
      defines (codes "__wrap_bar") 2 ∷ []) ∷
      file (codes "a5.o") false false false false 1 (
      null_entry ∷
      refers ((226 ∷ 130 ∷ 172 ∷ []) ++ codes "foo") ∷
      entry (codes "a\nb") None true Global Default Plain 1 Common ∷ []) [] ∷
      file (codes "b6.o") false false false false 3 (
      null_entry ∷
      entry (codes "main") None true Global Default Func 0 Undefined ∷
      defines (codes "a\nb") 0 ∷ []) [] ∷
      file (codes "m7.o") false false false false 2 (
      null_entry ∷
      entry (codes "foo") None true Global Default Ifunc 1 Common ∷
      entry (codes "x y") None true Global Default Tls 0 (Section 1) ∷
      entry (codes "x y") None true Global Default Func 0 Undefined ∷ []) [] ∷ []));
  outcome = refusal (codes "Duplicate symbols detected: a\nb, defined in m2.o and b6.o");
}

abbrev pub valid_1047 : Case
valid_1047 = record {
  world = world_of elf_like undemangled (record {
    first = record {
      objects =
          file (codes "m0.o") false true false false 6 (
          null_entry ∷
          entry (195 ∷ 169 ∷ []) (Some (codes "V2")) true Global Default Plain 0 (Section 5) ∷ []) [] ∷
          file (codes "lib.so") false false false false 6 (
          null_entry ∷
          defines (codes "baz") 4 ∷
          entry (codes "baz") (Some (codes "V1")) true Global Default Plain 0 Undefined ∷
          entry (codes "foo") (Some []) false Global Default Plain 0 Undefined ∷
          defines (codes "foo") 0 ∷
          refers (codes "baz") ∷ []) [] ∷
          file (codes "m2.o") false false false false 0 (
          null_entry ∷
          entry (195 ∷ 169 ∷ []) None true Global Default Plain 8 Undefined ∷ []) [] ∷
          file (codes "m3.o") false true false false 6 (
          null_entry ∷
          entry (codes "baz") (Some (codes "V2")) true Global Default Plain 0 (Section 5) ∷ []) [] ∷
          file (codes "a4.o") false false false false 0 (
          null_entry ∷
          refers (codes "baz") ∷
          entry (codes "baz") (Some (codes "V1")) true Global Default Plain 0 Undefined ∷
          entry (195 ∷ 169 ∷ []) (Some (codes "V2")) true Global Default Plain 0 Undefined ∷
          entry (codes "foo") (Some (codes "V2")) true Global Default Plain 0 Undefined ∷
          refers (codes "baz") ∷ []) [] ∷
          file (codes "b5.o") false true false false 1 (
          null_entry ∷
          entry (195 ∷ 169 ∷ []) (Some (codes "V2")) true Global Default Plain 0 (Section 0) ∷
          entry (codes "baz") (Some (codes "V1")) true Global Default Plain 0 Absolute ∷
          refers (195 ∷ 169 ∷ []) ∷ []) [] ∷
          file (codes "m6.o") false false false false 8 (null_entry ∷ defines (195 ∷ 169 ∷ []) 6 ∷ []) [] ∷
          file (codes "a7.o") false false false false 3 (
          null_entry ∷
          entry (195 ∷ 169 ∷ []) (Some (codes "V1")) true Global Default Plain 0 Absolute ∷ []) [] ∷ [];
      scripts = [];
      stubs = stub (codes "lib0.tbd") (codes "__stop_data" ∷ codes "foo" ∷ []) (codes "foo" ∷ (195 ∷ 169 ∷ []) ∷ []) ∷ [];
    };
    later = [];
    options = record default_options {
      output = SharedObject;
      entry = Some (codes "__stop_data");
      force_undefined = codes "__stop_data" ∷ [];
      defsym =
          redirect (codes "__stop_data") DefSym ((195 ∷ 169 ∷ []) ∷ []) false ∷
          redirect (codes "__stop_data") DefSym (codes "baz" ∷ codes "foo" ∷ []) false ∷ [];
      custom_sections = [] ∷ [];
    };
    texts = texts None None;
  });
  outcome = refusal (
      codes "Duplicate symbols detected: baz, defined in lib.so and b5.o\n" ++
      (195 ∷ 169 ∷ []) ++
      codes ", defined in m0.o and b5.o\n" ++
      (195 ∷ 169 ∷ []) ++
      codes ", defined in m0.o and b5.o");
}

abbrev pub comdat_1007 : Case
comdat_1007 = record {
  world = world_of elf_like undemangled (record {
    first = record {
      objects =
          file (codes "b0.o") false false false false 3 (null_entry ∷ []) (
          group 2 0 true (0 ∷ []) ∷
          group 1 0 true [] ∷ []) ∷
          file (codes "c.o") true false false false 3 (
          null_entry ∷
          refers (codes "foo") ∷
          entry (codes "f") (Some (codes "V1")) true Global Hidden Plain 0 (Section 2) ∷
          entry (codes "f") None true Global Hidden Tls 0 (Section 2) ∷
          entry (codes "baz") (Some (codes "V1")) false Global Hidden Ifunc 0 (Section 2) ∷
          entry (codes "foo") (Some (codes "V1")) false Global Hidden Plain 0 Undefined ∷ []) [] ∷
          file (codes "b2.o") false false false false 8 (
          null_entry ∷
          entry (codes "_bar") (Some (codes "V1")) true Global Hidden Plain 0 Undefined ∷
          entry (codes "foo") (Some (codes "V1")) true Global Default Tls 8 Undefined ∷ []) (
          group 4 0 true [] ∷
          group 1 1 true (2 ∷ 7 ∷ []) ∷ []) ∷
          file (codes "a3.o") false false false false 4 (null_entry ∷ []) (
          group 1 0 false (0 ∷ 3 ∷ []) ∷
          group 2 0 true [] ∷ []) ∷
          file (codes "b4.o") false false false false 3 (
          null_entry ∷
          entry (codes "baz") (Some (codes "V1")) true Global Default Plain 8 Common ∷ []) (
          group 0 1 true (1 ∷ []) ∷
          group 2 0 true [] ∷ []) ∷
          file (codes "c.o") false false false false 1 (
          null_entry ∷
          entry (codes "f") (Some (codes "V1")) true Global Default Plain 0 (Section 0) ∷
          entry (codes "f") (Some (codes "V2")) true Global Hidden Plain 1 Undefined ∷
          refers (codes "f") ∷
          refers (codes "_bar") ∷
          entry (codes "baz") (Some (255 ∷ [])) false Global Default Plain 0 Undefined ∷ []) [] ∷ [];
      scripts = [];
      stubs = stub (codes "lib0.tbd") (codes "foo" ∷ codes "foo" ∷ []) (codes "baz" ∷ []) ∷ stub (codes "lib1.tbd") [] [] ∷ [];
    };
    later = [];
    options = record default_options {
      output = SharedObject;
      allow_multiple = true;
      force_undefined = codes "f" ∷ codes "baz" ∷ [];
      custom_sections = codes "nosec2" ∷ [] ∷ [];
    };
    texts = texts (Some (
        codes "V3 { global: f?o; b*; bar; local: f?o; }; V2 { global: ba[rz]; extern \"C++\" { main; }; extern \"C++\" " ++
        codes "{ f?o; }; }; V1 { global: bar; local: }V2;")) None;
  });
  outcome = report (
      codes "loaded 0 b0.o\n" ++
      codes "loaded 1 c.o\n" ++
      codes "loaded 2 b2.o\n" ++
      codes "loaded 3 a3.o\n" ++
      codes "loaded 4 b4.o\n" ++
      codes "loaded 5 c.o\n" ++
      codes "kept 0 0 \n" ++
      codes "kept 2 1 _bar\n" ++
      codes "kept 4 0 baz\n" ++
      codes "symbol 0 <unnamed> -> 0 [ABSOLUTE]\n" ++
      codes "symbol 1 f -> 17 [ABSOLUTE]\n" ++
      codes "symbol 2 baz -> 15 [ABSOLUTE]\n" ++
      codes "symbol 3 <unnamed> -> 0 [ABSOLUTE | NON_INTERPOSABLE]\n" ++
      codes "symbol 4 <unnamed> -> 0 [ABSOLUTE | DYNAMIC]\n" ++
      codes "symbol 5 foo -> 22 [ABSOLUTE | DYNAMIC]\n" ++
      codes "symbol 6 f -> 0 [DYNAMIC]\n" ++
      codes "symbol 7 f -> 0 [DYNAMIC]\n" ++
      codes "symbol 8 baz -> 0 [DYNAMIC | DYNAMIC_FUNCTION]\n" ++
      codes "symbol 9 foo -> 0 [ABSOLUTE | DYNAMIC]\n" ++
      codes "symbol 10 <unnamed> -> 0 [ABSOLUTE | NON_INTERPOSABLE]\n" ++
      codes "symbol 11 _bar -> 0 [ABSOLUTE | NON_INTERPOSABLE]\n" ++
      codes "symbol 12 foo -> 0 [ABSOLUTE]\n" ++
      codes "symbol 13 <unnamed> -> 0 [ABSOLUTE | NON_INTERPOSABLE]\n" ++
      codes "symbol 14 <unnamed> -> 0 [ABSOLUTE | NON_INTERPOSABLE]\n" ++
      codes "symbol 15 baz -> 15 []\n" ++
      codes "symbol 16 <unnamed> -> 0 [ABSOLUTE | NON_INTERPOSABLE]\n" ++
      codes "symbol 17 f -> 17 [HAS_NON_IR_REF]\n" ++
      codes "symbol 18 f -> 0 [ABSOLUTE | NON_INTERPOSABLE]\n" ++
      codes "symbol 19 f -> 17 [ABSOLUTE]\n" ++
      codes "symbol 20 _bar -> 20 [ABSOLUTE | DYNAMIC]\n" ++
      codes "symbol 21 baz -> 0 [ABSOLUTE]\n" ++
      codes "symbol 22 foo -> 22 [DYNAMIC | HAS_NON_IR_REF]\n" ++
      codes "symbol 23 foo -> 22 [DYNAMIC]\n" ++
      codes "symbol 24 baz -> 15 [DYNAMIC]\n" ++
      codes "version 15 4\n" ++
      codes "version 17 4\n" ++
      codes "undefined 11 _bar@V1\n" ++
      codes "undefined 12 foo@V1\n" ++
      codes "undefined 18 f@V2\n" ++
      codes "undefined 20 _bar\n" ++
      codes "undefined 21 baz@INVALID UTF-8([255])\n");
}

abbrev pub comdat_1014 : Case
comdat_1014 = record {
  world = world_of mach_like undemangled (record {
    first = record {
      objects =
          file (codes "a0.o") false true false false 6 (
          entry (codes "f") None true Weak Default Plain 0 (Section 3) ∷
          entry (codes "baz") None true Weak Default Plain 4 Common ∷ []) [] ∷
          file (codes "a1.o") false false false false 4 [] [] ∷
          file (codes "a2.o") false true false false 3 (
          entry (codes "foo") (Some (codes "V1")) true Global Default Plain 0 Absolute ∷ []) [] ∷
          file (codes "b3.o") false false false false 8 (
          entry (codes "__stop_data") (Some (codes "V1")) true Weak Default Plain 0 Undefined ∷
          entry (codes "__stop_data") None true Unique Default Plain 0 Undefined ∷ []) (
          group 4 1 true (0 ∷ 6 ∷ []) ∷
          group 3 0 true (5 ∷ 1 ∷ []) ∷
          group 2 1 true (7 ∷ []) ∷ []) ∷ [];
      scripts = [];
      stubs = [];
    };
    later = [];
    options = record default_options { output = DynamicExecutable; wrap = codes "__start_data" ∷ [] };
    texts = texts None (Some (codes "ba[rz]\n"));
  });
  outcome = report (
      codes "loaded 1 a1.o\n" ++
      codes "loaded 3 b3.o\n" ++
      codes "kept 3 0 __stop_data\n" ++
      codes "symbol 0 <unnamed> -> 0 [ABSOLUTE]\n" ++
      codes "symbol 1 f -> 1 [NON_INTERPOSABLE]\n" ++
      codes "symbol 2 baz -> 2 [NON_INTERPOSABLE]\n" ++
      codes "symbol 3 foo -> 3 [ABSOLUTE | NON_INTERPOSABLE]\n" ++
      codes "symbol 4 __stop_data -> 0 [ABSOLUTE | UNDEFINED_WEAK]\n" ++
      codes "symbol 5 __stop_data -> 5 [ABSOLUTE | NON_INTERPOSABLE]\n" ++
      codes "undefined 4 __stop_data@V1\n" ++
      codes "undefined 5 __stop_data\n");
}

abbrev pub comdat_1016 : Case
comdat_1016 = record {
  world = world_of elf_like undemangled (record {
    first = record {
      objects =
          file (codes "b0.o") false true false false 3 (
          null_entry ∷
          entry (codes "foo") None true Global Default Ifunc 0 Absolute ∷
          refers (codes "fzo") ∷
          refers (codes "fzo") ∷
          defines (codes "foo") 1 ∷
          defines (codes "foo") 1 ∷ []) (group 1 3 true (2 ∷ 0 ∷ []) ∷ []) ∷
          file (codes "m1.o") false true false false 0 (
          null_entry ∷
          entry (codes "foo") None true Global Default Func 0 Undefined ∷ []) [] ∷
          file (codes "m2.o") false false false false 1 (
          null_entry ∷
          entry (codes "foo") None true Global Default Tls 0 (Section 0) ∷
          entry (codes "foo") None true Global Default Ifunc 0 Absolute ∷ []) [] ∷
          file (codes "a3.o") false true false false 0 (
          null_entry ∷
          entry (codes "foo") None true Global Protected Plain 0 Undefined ∷
          refers ((226 ∷ 130 ∷ 172 ∷ []) ++ codes "foo") ∷
          refers ((226 ∷ 130 ∷ 172 ∷ []) ++ codes "foo") ∷
          entry (255 ∷ []) None true Global Hidden Plain 0 Absolute ∷
          entry (codes "fzo") None true Global Default Func 0 Undefined ∷ []) [] ∷
          file (codes "m4.o") false false false false 1 (
          null_entry ∷
          entry (codes "fzo") None true Local Default Plain 0 (Section 0) ∷ []) [] ∷
          file (codes "b5.o") false true false false 8 (
          null_entry ∷
          refers (codes "fzo") ∷
          refers ((226 ∷ 130 ∷ 172 ∷ []) ++ codes "foo") ∷
          entry ((226 ∷ 130 ∷ 172 ∷ []) ++ codes "foo") None true Global Default Func 8 (Section 7) ∷ []) (
          group 5 3 true [] ∷
          group 6 1 true [] ∷
          group 7 3 true [] ∷ []) ∷
          file (codes "a6.o") false true false false 8 (null_entry ∷ []) (
          group 3 0 true (5 ∷ 6 ∷ []) ∷
          group 7 0 true (1 ∷ []) ∷
          group 2 0 true (0 ∷ 4 ∷ []) ∷ []) ∷
          file (codes "b7.o") false false false false 3 (
          null_entry ∷
          entry ((226 ∷ 130 ∷ 172 ∷ []) ++ codes "foo") None true Global Default Tls 0 (Section 1) ∷
          entry ((226 ∷ 130 ∷ 172 ∷ []) ++ codes "foo") None true Global Hidden Plain 0 (Section 0) ∷
          refers (codes "foo") ∷
          entry ((226 ∷ 130 ∷ 172 ∷ []) ++ codes "foo") None true Global Default Func 0 Undefined ∷
          defines (255 ∷ []) 0 ∷ []) (group 2 2 true [] ∷ []) ∷ [];
      scripts = [];
      stubs = [];
    };
    later = [];
    options = record default_options { output = DynamicExecutable; allow_multiple = true };
    texts = texts (Some (codes "V3 { global: _foo; local: baz; };")) None;
  });
  outcome = report (
      codes "loaded 0 b0.o\n" ++
      codes "loaded 2 m2.o\n" ++
      codes "loaded 4 m4.o\n" ++
      codes "loaded 5 b5.o\n" ++
      codes "loaded 7 b7.o\n" ++
      codes "kept 0 0 fzo\n" ++
      codes "kept 5 0 " ++ (226 ∷ 130 ∷ 172 ∷ []) ++ codes "foo\n" ++
      codes "symbol 0 <unnamed> -> 0 [ABSOLUTE]\n" ++
      codes "symbol 1 <unnamed> -> 0 [ABSOLUTE | NON_INTERPOSABLE]\n" ++
      codes "symbol 2 foo -> 2 [ABSOLUTE | NON_INTERPOSABLE | HAS_NON_IR_REF]\n" ++
      codes "symbol 3 fzo -> 21 [ABSOLUTE]\n" ++
      codes "symbol 4 fzo -> 21 [ABSOLUTE]\n" ++
      codes "symbol 5 foo -> 2 [NON_INTERPOSABLE]\n" ++
      codes "symbol 6 foo -> 2 [NON_INTERPOSABLE]\n" ++
      codes "symbol 7 <unnamed> -> 0 [ABSOLUTE | NON_INTERPOSABLE]\n" ++
      codes "symbol 8 foo -> 0 [ABSOLUTE]\n" ++
      codes "symbol 9 <unnamed> -> 0 [ABSOLUTE | NON_INTERPOSABLE]\n" ++
      codes "symbol 10 foo -> 2 [NON_INTERPOSABLE]\n" ++
      codes "symbol 11 foo -> 2 [ABSOLUTE | NON_INTERPOSABLE]\n" ++
      codes "symbol 12 <unnamed> -> 0 [ABSOLUTE | NON_INTERPOSABLE]\n" ++
      codes "symbol 13 foo -> 0 [ABSOLUTE | NON_INTERPOSABLE]\n" ++
      codes "symbol 14 " ++ (226 ∷ 130 ∷ 172 ∷ []) ++ codes "foo -> 0 [ABSOLUTE]\n" ++
      codes "symbol 15 " ++ (226 ∷ 130 ∷ 172 ∷ []) ++ codes "foo -> 0 [ABSOLUTE]\n" ++
      codes "symbol 16 INVALID UTF-8([255]) -> 30 [ABSOLUTE | NON_INTERPOSABLE | DOWNGRADE_TO_LOCAL]\n" ++
      codes "symbol 17 fzo -> 0 [ABSOLUTE]\n" ++
      codes "symbol 18 <unnamed> -> 0 [ABSOLUTE | NON_INTERPOSABLE]\n" ++
      codes "symbol 19 fzo -> 19 [NON_INTERPOSABLE]\n" ++
      codes "symbol 20 <unnamed> -> 0 [ABSOLUTE | NON_INTERPOSABLE]\n" ++
      codes "symbol 21 fzo -> 21 [ABSOLUTE | NON_INTERPOSABLE]\n" ++
      codes "symbol 22 " ++ (226 ∷ 130 ∷ 172 ∷ []) ++ codes "foo -> 26 [ABSOLUTE]\n" ++
      codes "symbol 23 " ++ (226 ∷ 130 ∷ 172 ∷ []) ++ codes "foo -> 26 [NON_INTERPOSABLE | DOWNGRADE_TO_LOCAL | HAS_NON_IR_REF]\n" ++
      codes "symbol 24 <unnamed> -> 0 [ABSOLUTE | NON_INTERPOSABLE]\n" ++
      codes "symbol 25 <unnamed> -> 0 [ABSOLUTE | NON_INTERPOSABLE]\n" ++
      codes "symbol 26 " ++ (226 ∷ 130 ∷ 172 ∷ []) ++ codes "foo -> 26 [NON_INTERPOSABLE | DOWNGRADE_TO_LOCAL]\n" ++
      codes "symbol 27 " ++ (226 ∷ 130 ∷ 172 ∷ []) ++ codes "foo -> 26 [NON_INTERPOSABLE | DOWNGRADE_TO_LOCAL]\n" ++
      codes "symbol 28 foo -> 2 [ABSOLUTE]\n" ++
      codes "symbol 29 " ++ (226 ∷ 130 ∷ 172 ∷ []) ++ codes "foo -> 26 [ABSOLUTE]\n" ++
      codes "symbol 30 INVALID UTF-8([255]) -> 30 [NON_INTERPOSABLE | DOWNGRADE_TO_LOCAL]\n" ++
      codes "undefined 21 fzo\n");
}

abbrev pub comdat_1019 : Case
comdat_1019 = record {
  world = world_of elf_like undemangled (record {
    first = record {
      objects =
          file (codes "m0.so") true true false false 0 (null_entry ∷ refers (codes "foo") ∷ []) [] ∷
          object (codes "m1.o") (
          refers (codes "bar") ∷
          entry (codes "foo") None true Global Default Plain 18446744073709551615 Undefined ∷
          entry (195 ∷ 169 ∷ []) None true Global Default Plain 0 Absolute ∷ []) ∷
          file (codes "m2.o") false false false false 8 (
          null_entry ∷
          entry (codes "fzo") None true Global Default Ifunc 8 Common ∷
          refers (195 ∷ 169 ∷ []) ∷ []) [] ∷ [];
      scripts = [];
      stubs = [];
    };
    later = [];
    options = record default_options { output = Partial; linker_symbols = internal (codes "fzo") (SectionGroupEnd 0) true ∷ [] };
    texts = texts (Some (
        codes "V1 { local: }; V2 { global: \"foo\"; local: }V1; V3 { global: local: };")) (Some (codes "{ foo; b*; };"));
  });
  outcome = report (
      codes "loaded 1 m1.o\n" ++
      codes "loaded 2 m2.o\n" ++
      codes "symbol 0 <unnamed> -> 0 [ABSOLUTE]\n" ++
      codes "symbol 1 fzo -> 9 [NON_INTERPOSABLE | DOWNGRADE_TO_LOCAL]\n" ++
      codes "symbol 2 <unnamed> -> 0 [ABSOLUTE | DYNAMIC]\n" ++
      codes "symbol 3 foo -> 0 [ABSOLUTE | DYNAMIC]\n" ++
      codes "symbol 4 <unnamed> -> 0 [ABSOLUTE | NON_INTERPOSABLE]\n" ++
      codes "symbol 5 bar -> 5 [ABSOLUTE | NON_INTERPOSABLE]\n" ++
      codes "symbol 6 foo -> 6 [ABSOLUTE | NON_INTERPOSABLE]\n" ++
      codes "symbol 7 " ++ (195 ∷ 169 ∷ []) ++ codes " -> 7 [ABSOLUTE | NON_INTERPOSABLE | HAS_NON_IR_REF]\n" ++
      codes "symbol 8 <unnamed> -> 0 [ABSOLUTE | NON_INTERPOSABLE]\n" ++
      codes "symbol 9 fzo -> 9 [IFUNC | NON_INTERPOSABLE]\n" ++
      codes "symbol 10 " ++ (195 ∷ 169 ∷ []) ++ codes " -> 7 [ABSOLUTE]\n" ++
      codes "undefined 5 bar\n" ++
      codes "undefined 6 foo\n");
}
