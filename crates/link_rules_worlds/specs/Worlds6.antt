-- Generated worlds, and what an independent program answers to each.
-- Written by `tools/worlds.py` from `tools/worlds.jsonl`.
use Rattle.std.specs.Prelude.{[], ◌∷◌, true, false, Some, None, codes, ◌++◌}
use Rattle.link_flags.specs.declared.visibility.Visibility.TheVariants.{Default, Protected, Hidden}
use Rattle.link_input.specs.declared.symbol_entry.Place.TheVariants.{Undefined, Absolute, Common, Section}
use Rattle.link_input.specs.declared.symbol_entry.SymbolBinding.TheVariants.{Global, Weak, Unique}
use Rattle.link_input.specs.declared.symbol_entry.SymbolKind.TheVariants.{Plain, Func, Ifunc, Tls}
use Rattle.link_input.specs.declared.options.OutputKind.TheVariants.{DynamicExecutable, SharedObject}
use Rattle.link_input.specs.declared.internal_symbols.RedirectKind.TheVariants.{DefSym, Script, Provide}
use Rattle.link_input.specs.declared.internal_symbols.SymbolPlacement.TheVariants.{SectionEnd, TlsEnd}
use Rattle.link_input.specs.Defaults.{default_options}
use Rattle.link_rules.specs.Rules.{elf_like, mach_like}
use Rattle.link_rules.specs.World.{world_of}
use Rattle.link_rules.specs.Building.{undemangled, entry, null_entry, refers, defines, group, file, object, member, internal, redirect, linker_script, stub, texts, of_objects}
use Rattle.link_rules_worlds.specs.Computing.{Case, report, refusal}

abbrev pub root_1004 : Case
root_1004 = record {
  world = world_of elf_like undemangled (record {
    first = record {
      objects =
          file (codes "b0.so") true false false false 8 (
          null_entry ∷
          entry (codes "foo") None true Weak Default Plain 0 Undefined ∷
          entry (codes "foo") None true Global Default Plain 1 Common ∷ []) [] ∷
          member (codes "b1.o") (entry (codes "__start_data") None true Global Default Func 0 (Section 2) ∷ []) ∷
          file (codes "x\ny") false false false false 3 (null_entry ∷ refers (codes "foo") ∷ []) [] ∷
          file (codes "a3.o") false true false false 8 (
          null_entry ∷
          entry (codes "__start_data") None true Global Default Plain 8 Undefined ∷ []) [] ∷
          file (codes "a4.so") true false false false 3 (
          null_entry ∷
          entry (codes "_start") None true Global Default Tls 1 (Section 1) ∷
          entry (codes "__start_data") None true Global Default Ifunc 4 Undefined ∷
          entry (codes "_foo") None true Global Default Plain 0 Absolute ∷
          refers (codes "__start_data") ∷
          entry (codes "__wrap_foo") None true Weak Default Plain 0 (Section 0) ∷ []) [] ∷ [];
      scripts = [];
      stubs = [];
    };
    later = [];
    options = record default_options { default_entry = Some (codes "_foo"); allow_multiple = true };
    texts = texts (Some (codes "V3 { global: local: bar; f?o; f\\oo; }; V2 { local: }V3;")) None;
  });
  outcome = report (
      codes "loaded 0 b0.so\n" ++
      codes "loaded 1 b1.o\n" ++
      codes "loaded 2 x\n" ++
      codes "y\n" ++
      codes "loaded 4 a4.so\n" ++
      codes "symbol 0 <unnamed> -> 0 [ABSOLUTE]\n" ++
      codes "symbol 1 <unnamed> -> 0 [ABSOLUTE | DYNAMIC]\n" ++
      codes "symbol 2 foo -> 3 [ABSOLUTE | DYNAMIC]\n" ++
      codes "symbol 3 foo -> 3 [DYNAMIC | HAS_NON_IR_REF]\n" ++
      codes "symbol 4 <unnamed> -> 0 [ABSOLUTE | NON_INTERPOSABLE]\n" ++
      codes "symbol 5 __start_data -> 5 [NON_INTERPOSABLE | HAS_NON_IR_REF]\n" ++
      codes "symbol 6 <unnamed> -> 0 [ABSOLUTE | NON_INTERPOSABLE]\n" ++
      codes "symbol 7 foo -> 3 [ABSOLUTE]\n" ++
      codes "symbol 8 <unnamed> -> 0 [ABSOLUTE | NON_INTERPOSABLE]\n" ++
      codes "symbol 9 __start_data -> 0 [ABSOLUTE]\n" ++
      codes "symbol 10 <unnamed> -> 0 [ABSOLUTE | DYNAMIC]\n" ++
      codes "symbol 11 _start -> 11 [DYNAMIC]\n" ++
      codes "symbol 12 __start_data -> 5 [ABSOLUTE | DYNAMIC | DYNAMIC_FUNCTION]\n" ++
      codes "symbol 13 _foo -> 13 [DYNAMIC | HAS_NON_IR_REF]\n" ++
      codes "symbol 14 __start_data -> 5 [ABSOLUTE | DYNAMIC]\n" ++
      codes "symbol 15 __wrap_foo -> 15 [DYNAMIC]\n");
}

abbrev pub root_1012 : Case
root_1012 = record {
  world = world_of elf_like undemangled (of_objects (record default_options {
    output = DynamicExecutable;
    defsym =
        redirect (codes "foo") DefSym (codes "__wrap_bar" ∷ codes "foo" ∷ []) false ∷
        redirect (codes "_start") DefSym (codes "__wrap_bar" ∷ []) false ∷ [];
  }) (
      file (codes "a0.o") false true false false 3 (
      null_entry ∷
      defines (codes "foo") 0 ∷
      entry (codes "_start") None true Weak Default Plain 0 Undefined ∷
      entry (codes "__wrap_bar") None true Global Default Ifunc 0 Undefined ∷
      refers (codes "__start_data") ∷
      entry (codes "foo") None true Global Default Plain 0 Absolute ∷ []) [] ∷ []));
  outcome = report (
      codes "symbol 0 <unnamed> -> 0 [ABSOLUTE]\n" ++
      codes "symbol 1 foo -> 1 [ABSOLUTE | NON_INTERPOSABLE | HAS_NON_IR_REF]\n" ++
      codes "symbol 2 _start -> 2 [ABSOLUTE | NON_INTERPOSABLE]\n" ++
      codes "symbol 3 <unnamed> -> 0 [ABSOLUTE | NON_INTERPOSABLE]\n" ++
      codes "symbol 4 foo -> 1 [NON_INTERPOSABLE]\n" ++
      codes "symbol 5 _start -> 0 [ABSOLUTE]\n" ++
      codes "symbol 6 __wrap_bar -> 0 [IFUNC]\n" ++
      codes "symbol 7 __start_data -> 0 [ABSOLUTE]\n" ++
      codes "symbol 8 foo -> 1 [ABSOLUTE | NON_INTERPOSABLE]\n");
}

abbrev pub root_1021 : Case
root_1021 = record {
  world = world_of elf_like undemangled (of_objects (record default_options {
    output = SharedObject;
    allow_multiple = true;
    wrap = codes "__real_bar" ∷ [];
  }) (
      file (codes "b0.o") false true false false 0 (
      null_entry ∷
      entry (codes "__start_nosec") (Some (codes "V2")) false Global Default Plain 0 Undefined ∷
      entry (codes "foo") None true Unique Hidden Plain 0 Undefined ∷
      entry (codes "foo") (Some (codes "V3")) true Global Default Plain 0 Undefined ∷
      entry (codes "__real_bar") (Some (codes "V2")) true Unique Protected Plain 0 Undefined ∷
      entry (codes "foo") (Some (codes "V2")) true Global Default Plain 0 Undefined ∷ []) [] ∷ []));
  outcome = report (
      codes "symbol 0 <unnamed> -> 0 [ABSOLUTE]\n" ++
      codes "symbol 1 <unnamed> -> 0 [ABSOLUTE | NON_INTERPOSABLE]\n" ++
      codes "symbol 2 __start_nosec -> 0 [ABSOLUTE]\n" ++
      codes "symbol 3 foo -> 0 [ABSOLUTE | NON_INTERPOSABLE]\n" ++
      codes "symbol 4 foo -> 0 [ABSOLUTE]\n" ++
      codes "symbol 5 __real_bar -> 0 [ABSOLUTE | NON_INTERPOSABLE]\n" ++
      codes "symbol 6 foo -> 0 [ABSOLUTE]\n");
}

abbrev pub root_1028 : Case
root_1028 = record {
  world = world_of mach_like undemangled (record {
    first = record {
      objects =
          file (codes "m0.o") false false false false 4 (
          entry [] None true Global Default Plain 18446744073709551615 Common ∷
          entry (195 ∷ 169 ∷ []) None true Weak Default Plain 0 (Section 2) ∷
          defines (codes "__start_d2") 1 ∷
          entry (codes "a\nb") None true Global Default Plain 8 Common ∷
          entry (codes "__start_d2") None true Global Default Plain 1 Common ∷ []) [] ∷
          file (codes "b1.o") false false false false 3 (
          defines (codes "__wrap_bar") 2 ∷
          entry (codes "a\nb") None true Weak Default Plain 0 (Section 1) ∷ []) [] ∷
          file (codes "a2.o") false true false false 6 [] [] ∷ [];
      scripts =
          linker_script (codes "s0.ld") None None [] ∷
          linker_script (codes "s1.ld") None None (
          redirect (codes "foo") Script [] false ∷
          redirect (codes "_bar") Script (codes "__wrap_bar" ∷ []) true ∷
          redirect (codes "a\nb") Script (codes "__wrap_bar" ∷ codes "foo" ∷ []) true ∷ []) ∷ [];
      stubs = [];
    };
    later = [];
    options = record default_options { output = SharedObject; force_undefined = codes "__start_d2" ∷ [] };
    texts = texts None (Some (codes "foo # c\nba[rz]\nfoo\n\u{c}bar\r"));
  });
  outcome = report (
      codes "loaded 0 m0.o\n" ++
      codes "loaded 1 b1.o\n" ++
      codes "symbol 0 <unnamed> -> 0 [ABSOLUTE]\n" ++
      codes "symbol 1 __start_d2 -> 4 [ABSOLUTE]\n" ++
      codes "symbol 2 <unnamed> -> 2 [NON_INTERPOSABLE]\n" ++
      codes "symbol 3 " ++ (195 ∷ 169 ∷ []) ++ codes " -> 3 [NON_INTERPOSABLE]\n" ++
      codes "symbol 4 __start_d2 -> 4 [NON_INTERPOSABLE]\n" ++
      codes "symbol 5 a\n" ++
      codes "b -> 8 [NON_INTERPOSABLE]\n" ++
      codes "symbol 6 __start_d2 -> 4 [NON_INTERPOSABLE]\n" ++
      codes "symbol 7 __wrap_bar -> 7 [NON_INTERPOSABLE | HAS_NON_IR_REF]\n" ++
      codes "symbol 8 a\n" ++
      codes "b -> 8 [NON_INTERPOSABLE]\n" ++
      codes "symbol 9 foo -> 9 [NON_INTERPOSABLE | HAS_NON_IR_REF]\n" ++
      codes "symbol 10 _bar -> 10 [NON_INTERPOSABLE | DOWNGRADE_TO_LOCAL]\n" ++
      codes "symbol 11 a\n" ++
      codes "b -> 8 [NON_INTERPOSABLE | DOWNGRADE_TO_LOCAL]\n" ++
      codes "missing bar\n");
}

abbrev pub root_1031 : Case
root_1031 = record {
  world = world_of elf_like undemangled (record {
    first = record {
      objects =
          file (codes "m0.o") false false false false 0 (null_entry ∷ refers (codes "x y") ∷ []) [] ∷
          file (codes "b1.o") false true true false 4 (
          null_entry ∷
          refers (codes "__real_foo") ∷
          refers (codes "bar") ∷ []) [] ∷
          file (codes "m2.o") false false false false 3 (null_entry ∷ refers [] ∷ defines (codes "foo") 0 ∷ []) [] ∷ [];
      scripts =
          linker_script (codes "s0.ld") (Some (codes "__start_data")) None (
          redirect (codes "__wrap_foo") Script (codes "__wrap_foo" ∷ []) true ∷
          redirect (codes "__real_foo") Script [] true ∷ []) ∷
          linker_script (codes "s1.ld") None None [] ∷ [];
      stubs = stub (codes "lib0.tbd") [] (codes "bar" ∷ []) ∷ [];
    };
    later = [];
    options = record default_options {
      allow_multiple = true;
      files_per_group = 1;
      defsym = redirect (codes "bar") DefSym (codes "x y" ∷ []) false ∷ redirect (codes "foo") DefSym [] false ∷ [];
      linker_symbols = internal (codes "__start_data") (TlsEnd 7) true ∷ internal ((255 ∷ []) ++ codes "\0") (SectionEnd 0) true ∷ [];
    };
    texts = texts None None;
  });
  outcome = report (
      codes "loaded 0 m0.o\n" ++
      codes "loaded 1 b1.o\n" ++
      codes "loaded 2 m2.o\n" ++
      codes "symbol 0 <unnamed> -> 0 [ABSOLUTE]\n" ++
      codes "symbol 1 __start_data -> 1 [NON_INTERPOSABLE | DOWNGRADE_TO_LOCAL | HAS_NON_IR_REF]\n" ++
      codes "symbol 2 INVALID UTF-8([255, 0]) -> 2 [NON_INTERPOSABLE | DOWNGRADE_TO_LOCAL]\n" ++
      codes "symbol 3 bar -> 15 [ABSOLUTE | NON_INTERPOSABLE | HAS_NON_IR_REF]\n" ++
      codes "symbol 4 foo -> 12 [ABSOLUTE | NON_INTERPOSABLE]\n" ++
      codes "symbol 5 <unnamed> -> 0 [ABSOLUTE | NON_INTERPOSABLE]\n" ++
      codes "symbol 6 x y -> 6 [ABSOLUTE | NON_INTERPOSABLE]\n" ++
      codes "symbol 7 <unnamed> -> 0 [ABSOLUTE | NON_INTERPOSABLE]\n" ++
      codes "symbol 8 __real_foo -> 14 [ABSOLUTE]\n" ++
      codes "symbol 9 bar -> 15 [ABSOLUTE]\n" ++
      codes "symbol 10 <unnamed> -> 0 [ABSOLUTE | NON_INTERPOSABLE]\n" ++
      codes "symbol 11 <unnamed> -> 11 [ABSOLUTE | NON_INTERPOSABLE]\n" ++
      codes "symbol 12 foo -> 12 [NON_INTERPOSABLE]\n" ++
      codes "symbol 13 __wrap_foo -> 13 [NON_INTERPOSABLE | DOWNGRADE_TO_LOCAL | HAS_NON_IR_REF]\n" ++
      codes "symbol 14 __real_foo -> 14 [NON_INTERPOSABLE | DOWNGRADE_TO_LOCAL | HAS_NON_IR_REF]\n" ++
      codes "symbol 15 bar -> 15 [DYNAMIC]\n" ++
      codes "undefined 6 x y\n" ++
      codes "undefined 11 \n");
}

abbrev pub root_1041 : Case
root_1041 = record {
  world = world_of mach_like undemangled (of_objects (record default_options { allow_multiple = true }) (
      file (codes "m0.o") false true false false 1 (
      defines (195 ∷ 169 ∷ []) 0 ∷
      entry (codes "foo") None true Weak Default Plain 0 (Section 0) ∷ []) [] ∷
      file (codes "b1.o") false true false false 6 (
      entry (codes "__real_foo") (Some (codes "V2")) false Weak Default Plain 0 Undefined ∷
      entry (195 ∷ 169 ∷ []) (Some (codes "V1")) true Global Default Plain 0 Undefined ∷ []) [] ∷
      file (codes "a2.o") false false false false 1 (
      entry (codes "baz") None true Weak Default Plain 0 Undefined ∷ []) [] ∷
      file (codes "b3.o") false true false false 8 (
      entry (codes "foo") (Some (codes "V1")) true Weak Default Plain 0 Undefined ∷ []) [] ∷ []));
  outcome = report (
      codes "loaded 2 a2.o\n" ++
      codes "symbol 0 <unnamed> -> 0 [ABSOLUTE]\n" ++
      codes "symbol 1 " ++ (195 ∷ 169 ∷ []) ++ codes " -> 1 [NON_INTERPOSABLE]\n" ++
      codes "symbol 2 foo -> 2 [NON_INTERPOSABLE]\n" ++
      codes "symbol 3 __real_foo -> 0 [ABSOLUTE]\n" ++
      codes "symbol 4 " ++ (195 ∷ 169 ∷ []) ++ codes " -> 0 [ABSOLUTE]\n" ++
      codes "symbol 5 baz -> 5 [ABSOLUTE | NON_INTERPOSABLE | UNDEFINED_WEAK]\n" ++
      codes "symbol 6 foo -> 0 [ABSOLUTE]\n" ++
      codes "undefined 5 baz\n");
}

abbrev pub root_1007 : Case
root_1007 = record {
  world = world_of elf_like undemangled (record {
    first = record {
      objects =
          file (codes "m" ++ (195 ∷ 169 ∷ []) ++ codes ".o") false true false false 1 (null_entry ∷ []) [] ∷
          file (codes "b1.o") false false false false 1 (null_entry ∷ defines (codes "_foo") 0 ∷ refers [] ∷ []) [] ∷
          file (codes "a2.o") false true true false 8 (
          null_entry ∷
          entry (codes "_foo") None true Weak Default Plain 0 Undefined ∷
          entry (codes "main") None true Weak Protected Plain 0 (Section 6) ∷
          entry (codes "foo") None true Global Default Plain 18446744073709551615 Undefined ∷
          entry (codes "_foo") None true Global Hidden Plain 0 (Section 7) ∷
          entry (codes "foo") None true Global Hidden Plain 0 Undefined ∷ []) [] ∷
          file (codes "a3.o") false false false false 8 (
          null_entry ∷
          refers (codes "_bar") ∷
          entry (codes "__wrap_foo") None true Unique Default Plain 0 Undefined ∷ []) [] ∷
          file (codes "m4.o") false true true false 6 (
          null_entry ∷
          entry (codes "main") None true Weak Default Plain 4 Common ∷
          defines (codes "_foo") 0 ∷
          entry (codes "__wrap_foo") None true Weak Default Plain 0 (Section 5) ∷ []) [] ∷ [];
      scripts = [];
      stubs = [];
    };
    later = [];
    options = record default_options { output = SharedObject; allow_multiple = true };
    texts = texts None (Some (codes " {\n__* /**/f; /* c; } */ x[]; /**/*a*;};\t"));
  });
  outcome = refusal (codes "Failed to parse symbol export list: Invalid glob pattern at 3");
}

abbrev pub root_1018 : Case
root_1018 = record {
  world = world_of elf_like undemangled (record {
    first = record {
      objects =
          file (codes "b0.o") false true false false 1 (
          null_entry ∷
          refers (codes "bar") ∷
          entry (codes "__wrap_bar") (Some (codes "V1")) false Global Default Plain 0 Absolute ∷
          entry (codes "bar") (Some (codes "V1")) false Global Default Plain 0 (Section 0) ∷ []) [] ∷
          file (codes "a1.o") false false false false 3 (
          null_entry ∷
          entry (codes "__wrap_bar") (Some (codes "V1")) true Weak Default Plain 0 Undefined ∷
          entry (codes "__start_data") None true Weak Default Plain 0 Undefined ∷
          entry (codes "__start_data") None true Global Default Plain 0 Absolute ∷
          entry (codes "bar") None true Weak Default Plain 4 Common ∷
          entry (codes "__wrap_bar") (Some (codes "V1")) true Global Default Plain 8 Undefined ∷ []) (
          group 1 5 false (2 ∷ 0 ∷ []) ∷ []) ∷ [];
      scripts =
          linker_script (codes "s0.ld") None None (
          redirect (codes "bar") Provide (codes "__start_data" ∷ []) false ∷ []) ∷ [];
      stubs = stub (codes "lib0.tbd") [] [] ∷ stub (codes "lib1.tbd") (codes "bar" ∷ []) [] ∷ [];
    };
    later = [];
    options = record default_options { output = SharedObject; allow_multiple = true; custom_sections = codes "data" ∷ [] };
    texts = texts None None;
  });
  outcome = refusal (codes "Symbol __wrap_bar has undefined version V1");
}

abbrev pub root_1020 : Case
root_1020 = record {
  world = world_of elf_like undemangled (record {
    first = record {
      objects =
          object (codes "b0.o") (
          entry (codes "fzo") (Some (codes "V2")) true Global Default Plain 0 (Section 0) ∷
          entry (codes "x y") (Some (codes "V1")) false Global Hidden Plain 0 Undefined ∷
          entry (codes "__start_d2") (Some (codes "V1")) true Global Default Plain 0 Undefined ∷
          defines (codes "fzo") 3 ∷
          entry (codes "foo") (Some (codes "V1")) true Global Default Plain 0 Undefined ∷ []) ∷ [];
      scripts = [];
      stubs =
          stub (codes "lib0.tbd") (codes "__start_d2" ∷ []) (codes "x y" ∷ codes "fzo" ∷ []) ∷
          stub (codes "lib1.tbd") (codes "__start_d2" ∷ []) (codes "__start_d2" ∷ codes "foo" ∷ []) ∷ [];
    };
    later = [];
    options = record default_options { entry = Some (codes "foo"); default_entry = Some (codes "fzo"); files_per_group = 2 };
    texts = texts None None;
  });
  outcome = refusal (codes "Duplicate symbols detected: fzo, defined in b0.o and b0.o");
}

abbrev pub root_1024 : Case
root_1024 = record {
  world = world_of elf_like undemangled (record {
    first = record {
      objects =
          file (codes "m0.o") false true false false 6 (null_entry ∷ refers (codes "foo") ∷ []) [] ∷
          file (codes "a1.o") false false false false 8 (
          null_entry ∷
          entry (codes "_foo") None true Unique Default Plain 4 Common ∷
          entry (codes "baz") (Some (codes "V1")) true Global Default Plain 0 (Section 7) ∷
          entry (codes "__stop_data") None true Global Default Tls 0 Undefined ∷
          entry (codes "_foo") (Some (codes "V3")) false Weak Default Plain 0 (Section 7) ∷
          refers (codes "_foo") ∷ []) [] ∷
          object (codes "a2.o") (
          entry (codes "__start_d2") (Some (codes "V1")) true Weak Default Tls 0 Undefined ∷
          entry (codes "main") None true Unique Default Plain 0 (Section 3) ∷ []) ∷
          file (codes "b3.o") false true false false 0 (
          null_entry ∷
          entry (codes "__stop_data") (Some []) true Global Default Ifunc 0 Undefined ∷
          entry (codes "baz") (Some (codes "V1")) true Weak Default Plain 0 Undefined ∷ []) [] ∷
          member (codes "b4.o") (entry (codes "baz") (Some (codes "V1")) false Unique Default Ifunc 8 Common ∷ []) ∷ [];
      scripts = [];
      stubs = [];
    };
    later = [];
    options = default_options;
    texts = texts (Some (codes "{ global:\r\nlocal:\r\n*; }; /* c; } */ ")) (Some (codes " { }\n"));
  });
  outcome = refusal (codes "Failed to parse symbol export list: Syntax error at 3");
}

abbrev pub root_1026 : Case
root_1026 = record {
  world = world_of mach_like undemangled (record {
    first = record {
      objects =
          file (codes "a.o") false true false false 0 [] [] ∷
          file (codes "m1.o") false false false false 6 (
          entry (codes "_foo") None true Global Default Plain 4 Common ∷
          refers (codes "_foo") ∷ []) [] ∷
          file (codes "m2.o") false true false false 1 [] [] ∷
          file (codes "m3.o") false true false false 4 (
          defines (codes "bar") 3 ∷
          defines (codes "__stop_data") 1 ∷ []) [] ∷
          file (codes "a.o") false true false false 8 (
          entry (codes "bar") None true Unique Default Plain 0 Absolute ∷ []) [] ∷
          file (codes "a5.o") false true false false 2 (
          entry (codes "__stop_data") None true Weak Default Plain 0 Undefined ∷
          defines (codes "foo") 1 ∷
          defines (codes "bar") 1 ∷ []) [] ∷
          file (codes "lib.so") false false false false 3 (
          entry (codes "__real_foo") None true Global Default Plain 18446744073709551615 Common ∷
          defines (codes "bar") 1 ∷
          defines (codes "_foo") 0 ∷
          entry (codes "__real_foo") None true Weak Default Plain 0 Undefined ∷
          defines (codes "_foo") 2 ∷ []) [] ∷
          file (codes "m7.o") false true false false 0 (
          refers (codes "bar") ∷
          entry (255 ∷ []) None true Weak Default Plain 0 Undefined ∷ []) [] ∷ [];
      scripts = [];
      stubs = [];
    };
    later = [];
    options = record default_options { entry = Some (codes "foo") };
    texts = texts None (Some (codes "foo\n\u{c}bar\r\nfoo\nfoo"));
  });
  outcome = refusal (codes "Duplicate symbols detected: _foo, defined in lib.so and lib.so\nbar, defined in m3.o and a5.o");
}
