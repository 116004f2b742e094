-- Generated worlds, and what an independent program answers to each.
-- Written by `tools/worlds.py` from `tools/worlds.jsonl`.
use Rattle.std.specs.Prelude.{[], ◌∷◌, true, false, Some, None, codes, ◌++◌}
use Rattle.link_flags.specs.declared.visibility.Visibility.TheVariants.{Default, Protected, Hidden}
use Rattle.link_input.specs.declared.symbol_entry.Place.TheVariants.{Undefined, Absolute, Common, Section}
use Rattle.link_input.specs.declared.symbol_entry.SymbolBinding.TheVariants.{Local, Global, Weak, Unique}
use Rattle.link_input.specs.declared.symbol_entry.SymbolKind.TheVariants.{Plain, Func, Ifunc}
use Rattle.link_input.specs.declared.options.OutputKind.TheVariants.{DynamicExecutable, SharedObject, Partial}
use Rattle.link_input.specs.declared.internal_symbols.RedirectKind.TheVariants.{DefSym, Script, Provide}
use Rattle.link_input.specs.declared.internal_symbols.SymbolPlacement.TheVariants.{SectionEnd, TlsEnd, SectionGroupEnd, LoadBaseAddress}
use Rattle.link_input.specs.Defaults.{default_options}
use Rattle.link_rules.specs.Rules.{elf_like, mach_like}
use Rattle.link_rules.specs.World.{world_of}
use Rattle.link_rules.specs.Building.{undemangled, entry, null_entry, refers, defines, group, file, object, member, shared, internal, redirect, linker_script, stub, texts, of_objects}
use Rattle.link_rules_worlds.specs.Computing.{Case, report, refusal}

abbrev pub startstop_1028 : Case
startstop_1028 = record {
  world = world_of elf_like undemangled (of_objects (record default_options {
    output = DynamicExecutable;
    allow_multiple = true;
    files_per_group = 1;
    custom_sections = codes "data" ∷ codes "d2" ∷ [];
  }) (
      file (codes "a0.o") false false false false 0 (
      null_entry ∷
      entry (codes "__stop_data") None true Unique Default Plain 0 Undefined ∷
      refers (codes "__start_d2") ∷ []) [] ∷
      file (codes "m1.so") true false false true 4 (
      null_entry ∷
      entry (codes "__start_data") None true Unique Default Plain 0 Undefined ∷
      refers (codes "__start_d2") ∷
      refers (codes "__start_d2") ∷
      refers (codes "__start_d2") ∷
      refers (codes "__stop_data") ∷ []) (group 0 4 true (2 ∷ []) ∷ group 1 3 true (3 ∷ []) ∷ []) ∷ []));
  outcome = report (
      codes "loaded 0 a0.o\n" ++
      codes "symbol 0 <unnamed> -> 0 [ABSOLUTE]\n" ++
      codes "symbol 1 <unnamed> -> 0 [ABSOLUTE | NON_INTERPOSABLE]\n" ++
      codes "symbol 2 __stop_data -> 11 [ABSOLUTE]\n" ++
      codes "symbol 3 __start_d2 -> 10 [ABSOLUTE]\n" ++
      codes "symbol 4 <unnamed> -> 0 [ABSOLUTE | DYNAMIC]\n" ++
      codes "symbol 5 __start_data -> 0 [ABSOLUTE | DYNAMIC]\n" ++
      codes "symbol 6 __start_d2 -> 0 [ABSOLUTE | DYNAMIC]\n" ++
      codes "symbol 7 __start_d2 -> 0 [ABSOLUTE | DYNAMIC]\n" ++
      codes "symbol 8 __start_d2 -> 0 [ABSOLUTE | DYNAMIC]\n" ++
      codes "symbol 9 __stop_data -> 0 [ABSOLUTE | DYNAMIC]\n" ++
      codes "symbol 10 __start_d2 -> 10 [NON_INTERPOSABLE]\n" ++
      codes "symbol 11 __stop_data -> 11 [NON_INTERPOSABLE]\n");
}

abbrev pub startstop_1032 : Case
startstop_1032 = record {
  world = world_of mach_like undemangled (record {
    first = record {
      objects =
          file (codes "a0.o") false false false false 4 (
          entry (codes "__start_data") None true Global Protected Plain 0 Undefined ∷
          entry (codes "__start_data") (Some (codes "V1")) true Weak Hidden Ifunc 0 Undefined ∷
          entry (codes "__start_data") None true Weak Hidden Plain 0 Undefined ∷
          entry (codes "__start_data") (Some (codes "V1")) false Unique Default Plain 0 Undefined ∷
          entry (codes "__start_data") (Some (codes "V1")) true Global Default Func 0 Undefined ∷ []) (
          group 2 2 true [] ∷
          group 3 1 true (0 ∷ 1 ∷ []) ∷ []) ∷
          file (codes "m1.o") false false false false 4 (
          entry (codes "__start_data") (Some (codes "V2")) true Global Protected Plain 0 Undefined ∷ []) (
          group 1 0 true (0 ∷ 2 ∷ []) ∷
          group 3 0 true [] ∷ []) ∷ [];
      scripts = [];
      stubs = [];
    };
    later = [];
    options = record default_options {
      output = DynamicExecutable;
      entry = Some (codes "__start_data");
      files_per_group = 2;
      custom_sections = codes "nosec2" ∷ codes "d2" ∷ codes "data" ∷ [];
    };
    texts = texts None (Some (codes "foo\n\u{c}bar\r\n" ++ (255 ∷ []) ++ codes "\n"));
  });
  outcome = report (
      codes "loaded 0 a0.o\n" ++
      codes "loaded 1 m1.o\n" ++
      codes "kept 0 0 __start_data\n" ++
      codes "symbol 0 <unnamed> -> 0 [ABSOLUTE]\n" ++
      codes "symbol 1 __start_data -> 7 [ABSOLUTE | NON_INTERPOSABLE]\n" ++
      codes "symbol 2 __start_data -> 0 [IFUNC | NON_INTERPOSABLE | UNDEFINED_WEAK]\n" ++
      codes "symbol 3 __start_data -> 7 [ABSOLUTE | NON_INTERPOSABLE | UNDEFINED_WEAK]\n" ++
      codes "symbol 4 __start_data -> 0 [ABSOLUTE]\n" ++
      codes "symbol 5 __start_data -> 0 [ABSOLUTE]\n" ++
      codes "symbol 6 __start_data -> 0 [ABSOLUTE | NON_INTERPOSABLE]\n" ++
      codes "symbol 7 __start_data -> 7 [NON_INTERPOSABLE]\n" ++
      codes "undefined 5 __start_data@V1\n" ++
      codes "undefined 6 __start_data@V2\n" ++
      codes "missing foo\n" ++
      codes "missing bar\n" ++
      codes "missing INVALID UTF-8([255])\n");
}

abbrev pub startstop_1004 : Case
startstop_1004 = record {
  world = world_of mach_like undemangled (record {
    first = record {
      objects =
          file (codes "a0.o") false false false false 6 (
          refers (codes "__start_data") ∷
          entry (codes "foo") (Some (255 ∷ [])) false Global Default Plain 0 Undefined ∷
          entry (codes "__start_data") (Some (codes "V1")) true Global Default Plain 0 Undefined ∷
          refers (codes "foo") ∷
          entry (codes "__start_data") (Some (codes "V1")) true Global Default Plain 0 Undefined ∷ []) [] ∷
          file (codes "b1.o") false false false false 2 (
          entry (codes "__start_data") (Some (codes "V2")) true Global Default Plain 0 Undefined ∷
          refers (codes "__start_data") ∷ []) [] ∷
          file (codes "b2.o") false false false false 1 (
          entry (codes "__start_data") (Some (codes "V1")) false Global Default Plain 0 Undefined ∷
          entry (codes "__start_data") (Some (codes "V2")) true Global Default Plain 0 Undefined ∷ []) [] ∷
          file (codes "a3.o") false false false false 6 (
          entry (codes "foo") (Some (codes "V1")) true Global Default Plain 0 (Section 3) ∷
          entry (codes "foo") (Some (codes "V2")) false Global Default Plain 0 Undefined ∷ []) [] ∷ [];
      scripts = [];
      stubs = [];
    };
    later = [];
    options = record default_options {
      output = SharedObject;
      allow_multiple = true;
      linker_symbols = internal (codes "foo") (SectionGroupEnd 0) true ∷ internal (codes "foo") (SectionEnd 0) false ∷ [];
      custom_sections = codes "data" ∷ codes "d2" ∷ [];
    };
    texts = texts None (Some (codes "ba[rz]\n\n\u{c}bar\r\nmain\n"));
  });
  outcome = refusal (codes "Symbol foo has undefined version V1");
}

abbrev pub startstop_1005 : Case
startstop_1005 = record {
  world = world_of elf_like undemangled (record {
    first = record {
      objects =
          object (codes "m0.o") (entry (codes "foo") (Some (codes "V1")) true Global Default Plain 0 Undefined ∷ []) ∷
          file (codes "m1.o") false true true false 1 (null_entry ∷ []) [] ∷
          file (codes "a2.o") false false false false 3 (
          null_entry ∷
          entry (codes "__start_data") (Some (codes "V1")) true Global Default Plain 0 Undefined ∷
          entry (codes "__start_data") (Some (codes "V2")) true Global Default Plain 0 Undefined ∷ []) [] ∷
          file (codes "m3.o") false false false false 2 (
          null_entry ∷
          entry (codes "__start_data") None true Unique Default Plain 0 Undefined ∷
          entry (codes "__start_data") (Some (codes "V1")) true Global Default Plain 0 Undefined ∷ []) [] ∷
          file (codes "b4.o") false false false false 8 (
          null_entry ∷
          refers (codes "__start_data") ∷
          refers (codes "foo") ∷
          entry (codes "__start_data") (Some (codes "V2")) true Global Default Plain 0 Undefined ∷
          refers (codes "foo") ∷
          entry (codes "foo") (Some (codes "V2")) false Weak Default Plain 0 Undefined ∷ []) [] ∷
          file (codes "m5.o") false true false false 6 (
          null_entry ∷
          entry (codes "__start_data") (Some (codes "V2")) true Global Default Plain 0 Undefined ∷ []) [] ∷
          file (codes "m6.o") false true false false 3 (
          null_entry ∷
          entry (codes "foo") (Some (codes "V1")) true Global Default Plain 0 Undefined ∷ []) [] ∷
          member (codes "a7.o") (
          entry (codes "__start_data") (Some (codes "V1")) true Unique Default Plain 0 Undefined ∷
          refers (codes "foo") ∷ []) ∷
          file (codes "m8.o") false false false false 2 (
          null_entry ∷
          refers (codes "__start_data") ∷
          entry (codes "foo") (Some (codes "V2")) false Global Default Plain 0 (Section 1) ∷
          entry (codes "foo") (Some (codes "V1")) true Weak Default Plain 0 Undefined ∷ []) [] ∷
          object (codes "b9.o") (entry (codes "foo") None true Weak Default Plain 0 Undefined ∷ []) ∷ [];
      scripts = [];
      stubs = stub (codes "lib0.tbd") (codes "__start_data" ∷ []) [] ∷ [];
    };
    later = [];
    options = record default_options { output = SharedObject; custom_sections = codes "data" ∷ codes "d2" ∷ [] };
    texts = texts None None;
  });
  outcome = refusal (codes "Symbol foo has undefined version V2");
}

abbrev pub startstop_1018 : Case
startstop_1018 = record {
  world = world_of elf_like undemangled (record {
    first = record {
      objects =
          file (codes "b0.o") false true false false 8 (
          null_entry ∷
          refers (codes "__start_data") ∷
          entry (codes "foo") None true Weak Default Plain 0 Undefined ∷
          entry (codes "__start_data") None true Global Default Func 0 Undefined ∷
          refers (codes "__start_data") ∷
          entry (codes "foo") None true Weak Default Plain 0 Undefined ∷ []) [] ∷
          file (codes "m1.o") false true false false 6 (
          null_entry ∷
          entry (codes "foo") None true Unique Default Plain 0 Undefined ∷ []) [] ∷ [];
      scripts = [];
      stubs = [];
    };
    later = [];
    options = record default_options { output = Partial; allow_multiple = true; custom_sections = codes "data" ∷ codes "d2" ∷ [] };
    texts = texts (Some (codes "\r\n{\t\r\n{\t} ;\t")) None;
  });
  outcome = refusal (codes "Failed to parse version script: Syntax error at 12");
}

abbrev pub hidden_1000 : Case
hidden_1000 = record {
  world = world_of elf_like undemangled (record {
    first = record {
      objects =
          file (codes "b0.o") false true false false 3 (
          null_entry ∷
          refers (codes "foo") ∷
          entry (codes "foo") None true Global Protected Plain 0 (Section 2) ∷
          entry (codes "__start_d2") None true Global Default Plain 0 Common ∷
          defines (codes "foo") 2 ∷
          refers (codes "foo") ∷ []) [] ∷
          file (codes "a1.so") true false false false 8 (null_entry ∷ []) [] ∷
          file (codes "a2.o") false false false false 8 (null_entry ∷ []) [] ∷ [];
      scripts =
          linker_script (codes "s0.ld") None None (
          redirect (codes "__start_d2") Script [] false ∷
          redirect (codes "__start_d2") Script [] false ∷
          redirect (codes "foo") Script [] true ∷ []) ∷ [];
      stubs = stub (codes "lib0.tbd") [] [] ∷ [];
    };
    later = [];
    options = record default_options { output = Partial; allow_multiple = true; wrap = codes "__start_d2" ∷ [] };
    texts = texts None None;
  });
  outcome = report (
      codes "loaded 1 a1.so\n" ++
      codes "loaded 2 a2.o\n" ++
      codes "symbol 0 <unnamed> -> 0 [ABSOLUTE]\n" ++
      codes "symbol 1 <unnamed> -> 0 [ABSOLUTE | NON_INTERPOSABLE]\n" ++
      codes "symbol 2 foo -> 0 [ABSOLUTE]\n" ++
      codes "symbol 3 foo -> 3 [NON_INTERPOSABLE]\n" ++
      codes "symbol 4 __start_d2 -> 4 [NON_INTERPOSABLE]\n" ++
      codes "symbol 5 foo -> 3 [NON_INTERPOSABLE]\n" ++
      codes "symbol 6 foo -> 0 [ABSOLUTE]\n" ++
      codes "symbol 7 <unnamed> -> 0 [ABSOLUTE | DYNAMIC]\n" ++
      codes "symbol 8 <unnamed> -> 0 [ABSOLUTE | NON_INTERPOSABLE]\n" ++
      codes "symbol 9 __start_d2 -> 4 [NON_INTERPOSABLE]\n" ++
      codes "symbol 10 __start_d2 -> 4 [NON_INTERPOSABLE]\n" ++
      codes "symbol 11 foo -> 3 [NON_INTERPOSABLE | DOWNGRADE_TO_LOCAL]\n");
}

abbrev pub hidden_1014 : Case
hidden_1014 = record {
  world = world_of elf_like undemangled (record {
    first = record {
      objects =
          file (codes "a0.o") false false false false 2 (
          null_entry ∷
          defines (codes "__real_foo") 0 ∷
          entry (codes "__real_foo") None true Weak Hidden Plain 0 Undefined ∷
          refers (codes "__real_foo") ∷ []) [] ∷
          file (codes "b1.o") false true false false 3 (
          null_entry ∷
          defines (codes "__stop_data") 0 ∷ []) (group 1 0 true (0 ∷ 2 ∷ []) ∷ []) ∷
          file (codes "m2.o") false true true false 3 (
          null_entry ∷
          entry (codes "__stop_data") None true Unique Default Plain 0 (Section 1) ∷
          entry (codes "__real_foo") None true Weak Default Plain 0 (Section 1) ∷
          defines (codes "__stop_data") 2 ∷
          defines (codes "__stop_data") 0 ∷
          entry (codes "__stop_data") None true Weak Default Plain 0 Undefined ∷ []) (
          group 2 0 true (1 ∷ []) ∷
          group 0 1 true [] ∷ []) ∷
          file (codes "b3.o") false true false false 3 (
          null_entry ∷
          entry (codes "__stop_data") None true Weak Default Plain 0 (Section 0) ∷
          entry (codes "__real_foo") None true Weak Default Plain 0 (Section 0) ∷ []) (group 0 2 true [] ∷ []) ∷
          file (codes "b4.o") false true false false 0 (
          null_entry ∷
          entry (codes "__stop_data") None true Global Default Plain 0 Absolute ∷
          entry (codes "__stop_data") None true Weak Default Plain 0 Undefined ∷ []) [] ∷ [];
      scripts =
          linker_script (codes "s0.ld") None None [] ∷
          linker_script (codes "s1.ld") None None (
          redirect (codes "__real_foo") Provide [] true ∷
          redirect (codes "__real_foo") Script (codes "__real_foo" ∷ codes "__real_foo" ∷ []) false ∷ []) ∷ [];
      stubs = stub (codes "lib0.tbd") (codes "__stop_data" ∷ codes "__stop_data" ∷ []) (codes "__real_foo" ∷ []) ∷ [];
    };
    later = [];
    options = record default_options { allow_multiple = true; custom_sections = codes "data" ∷ [] };
    texts = texts None None;
  });
  outcome = report (
      codes "loaded 0 a0.o\n" ++
      codes "loaded 2 m2.o\n" ++
      codes "kept 2 0 \n" ++
      codes "kept 2 1 __stop_data\n" ++
      codes "symbol 0 <unnamed> -> 0 [ABSOLUTE]\n" ++
      codes "symbol 1 <unnamed> -> 0 [ABSOLUTE | NON_INTERPOSABLE]\n" ++
      codes "symbol 2 __real_foo -> 2 [NON_INTERPOSABLE | DOWNGRADE_TO_LOCAL | HAS_NON_IR_REF]\n" ++
      codes "symbol 3 __real_foo -> 2 [ABSOLUTE | NON_INTERPOSABLE]\n" ++
      codes "symbol 4 __real_foo -> 2 [ABSOLUTE]\n" ++
      codes "symbol 5 <unnamed> -> 0 [ABSOLUTE | NON_INTERPOSABLE]\n" ++
      codes "symbol 6 __stop_data -> 10 [NON_INTERPOSABLE | HAS_NON_IR_REF]\n" ++
      codes "symbol 7 <unnamed> -> 0 [ABSOLUTE | NON_INTERPOSABLE]\n" ++
      codes "symbol 8 __stop_data -> 10 [NON_INTERPOSABLE]\n" ++
      codes "symbol 9 __real_foo -> 2 [NON_INTERPOSABLE]\n" ++
      codes "symbol 10 __stop_data -> 10 [NON_INTERPOSABLE]\n" ++
      codes "symbol 11 __stop_data -> 10 [NON_INTERPOSABLE]\n" ++
      codes "symbol 12 __stop_data -> 24 [ABSOLUTE | UNDEFINED_WEAK]\n" ++
      codes "symbol 13 <unnamed> -> 0 [ABSOLUTE | NON_INTERPOSABLE]\n" ++
      codes "symbol 14 __stop_data -> 10 [NON_INTERPOSABLE]\n" ++
      codes "symbol 15 __real_foo -> 2 [NON_INTERPOSABLE]\n" ++
      codes "symbol 16 <unnamed> -> 0 [ABSOLUTE | NON_INTERPOSABLE]\n" ++
      codes "symbol 17 __stop_data -> 10 [ABSOLUTE | NON_INTERPOSABLE]\n" ++
      codes "symbol 18 __stop_data -> 0 [ABSOLUTE]\n" ++
      codes "symbol 19 __real_foo -> 2 [NON_INTERPOSABLE | DOWNGRADE_TO_LOCAL]\n" ++
      codes "symbol 20 __real_foo -> 2 [NON_INTERPOSABLE]\n" ++
      codes "symbol 21 __stop_data -> 10 [DYNAMIC]\n" ++
      codes "symbol 22 __stop_data -> 10 [DYNAMIC]\n" ++
      codes "symbol 23 __real_foo -> 2 [DYNAMIC]\n" ++
      codes "symbol 24 __stop_data -> 24 [NON_INTERPOSABLE]\n");
}

abbrev pub hidden_1016 : Case
hidden_1016 = record {
  world = world_of mach_like undemangled (record {
    first = record {
      objects =
          file (codes "m0.so") true false false false 4 (defines (codes "bar") 1 ∷ []) (
          group 0 0 true (1 ∷ 2 ∷ []) ∷
          group 3 0 true [] ∷ []) ∷
          file (codes "m1.o") false false false false 8 (
          entry (codes "bar") None true Global Hidden Func 0 (Section 5) ∷ []) (
          group 7 0 true (5 ∷ []) ∷
          group 3 0 true [] ∷
          group 4 0 true [] ∷ []) ∷
          file (codes "m2.o") false false false false 1 (
          entry (codes "f") None true Weak Default Func 0 (Section 0) ∷
          entry (codes "f") None true Weak Default Ifunc 0 (Section 0) ∷
          entry (codes "f") None true Global Protected Ifunc 0 (Section 0) ∷ []) [] ∷
          file (codes "b3.so") true false false true 2 [] [] ∷
          file (codes "b4.o") false false false false 3 (
          entry (codes "bar") None true Weak Default Plain 0 (Section 2) ∷ []) (
          group 0 0 false (2 ∷ []) ∷
          group 1 0 true [] ∷ []) ∷ [];
      scripts = [];
      stubs = stub (codes "lib0.tbd") (codes "bar" ∷ []) [] ∷ stub (codes "lib1.tbd") (codes "f" ∷ []) [] ∷ [];
    };
    later = [];
    options = record default_options { output = SharedObject; defsym = redirect (codes "bar") DefSym (codes "f" ∷ []) false ∷ [] };
    texts = texts (Some (codes "V1 { global: main; extern \"C++\" { b*; }; local: bar; *; ba[rz]; };")) None;
  });
  outcome = report (
      codes "loaded 0 m0.so\n" ++
      codes "loaded 1 m1.o\n" ++
      codes "loaded 2 m2.o\n" ++
      codes "loaded 4 b4.o\n" ++
      codes "kept 1 0 bar\n" ++
      codes "symbol 0 <unnamed> -> 0 [ABSOLUTE]\n" ++
      codes "symbol 1 bar -> 3 [ABSOLUTE | NON_INTERPOSABLE | DOWNGRADE_TO_LOCAL]\n" ++
      codes "symbol 2 bar -> 3 [DYNAMIC]\n" ++
      codes "symbol 3 bar -> 3 [NON_INTERPOSABLE | DOWNGRADE_TO_LOCAL]\n" ++
      codes "symbol 4 f -> 6 [NON_INTERPOSABLE | DOWNGRADE_TO_LOCAL | HAS_NON_IR_REF]\n" ++
      codes "symbol 5 f -> 6 [IFUNC | NON_INTERPOSABLE | DOWNGRADE_TO_LOCAL]\n" ++
      codes "symbol 6 f -> 6 [IFUNC | NON_INTERPOSABLE | DOWNGRADE_TO_LOCAL]\n" ++
      codes "symbol 7 bar -> 3 [NON_INTERPOSABLE | DOWNGRADE_TO_LOCAL]\n" ++
      codes "symbol 8 bar -> 3 [DYNAMIC]\n" ++
      codes "symbol 9 f -> 6 [DYNAMIC]\n" ++
      codes "version 3 2\n" ++
      codes "version 6 2\n");
}

abbrev pub hidden_1023 : Case
hidden_1023 = record {
  world = world_of mach_like undemangled (record {
    first = record {
      objects =
          file (codes "b.o") true false false false 6 (
          defines ((226 ∷ 130 ∷ 172 ∷ []) ++ codes "foo") 4 ∷
          entry ((226 ∷ 130 ∷ 172 ∷ []) ++ codes "foo") None true Global Protected Plain 0 (Section 4) ∷
          defines ((226 ∷ 130 ∷ 172 ∷ []) ++ codes "foo") 2 ∷
          entry ((226 ∷ 130 ∷ 172 ∷ []) ++ codes "foo") None true Local Default Plain 0 (Section 2) ∷
          defines ((226 ∷ 130 ∷ 172 ∷ []) ++ codes "foo") 5 ∷ []) (
          group 0 2 false (4 ∷ 3 ∷ []) ∷
          group 1 2 true (2 ∷ 2 ∷ []) ∷
          group 5 2 true [] ∷ []) ∷ [];
      scripts = [];
      stubs =
          stub (codes "lib0.tbd") (codes "_bar" ∷ []) (codes "_bar" ∷ codes "_bar" ∷ []) ∷
          stub (codes "lib1.tbd") [] [] ∷ [];
    };
    later = [];
    options = record default_options { files_per_group = 2 };
    texts = texts None None;
  });
  outcome = report (
      codes "loaded 0 b.o\n" ++
      codes "symbol 0 <unnamed> -> 0 [ABSOLUTE]\n" ++
      codes "symbol 1 " ++ (226 ∷ 130 ∷ 172 ∷ []) ++ codes "foo -> 1 [DYNAMIC]\n" ++
      codes "symbol 2 " ++ (226 ∷ 130 ∷ 172 ∷ []) ++ codes "foo -> 1 [DYNAMIC]\n" ++
      codes "symbol 3 " ++ (226 ∷ 130 ∷ 172 ∷ []) ++ codes "foo -> 1 [DYNAMIC]\n" ++
      codes "symbol 4 " ++ (226 ∷ 130 ∷ 172 ∷ []) ++ codes "foo -> 4 [DYNAMIC]\n" ++
      codes "symbol 5 " ++ (226 ∷ 130 ∷ 172 ∷ []) ++ codes "foo -> 1 [DYNAMIC]\n" ++
      codes "symbol 6 _bar -> 6 [DYNAMIC]\n" ++
      codes "symbol 7 _bar -> 6 [DYNAMIC]\n" ++
      codes "symbol 8 _bar -> 6 [DYNAMIC]\n");
}

abbrev pub hidden_1027 : Case
hidden_1027 = record {
  world = world_of elf_like undemangled (record {
    first = record {
      objects =
          file (codes "a0.so") true false false false 0 (null_entry ∷ []) [] ∷
          file (codes "m1.so") true false false false 2 (
          null_entry ∷
          entry [] None true Unique Default Plain 0 (Section 1) ∷
          defines [] 0 ∷
          entry (codes "__wrap_bar") (Some []) true Global Default Plain 0 (Section 0) ∷
          defines (codes "__wrap_bar") 0 ∷
          entry [] None true Weak Default Plain 0 (Section 0) ∷ []) [] ∷ [];
      scripts = [];
      stubs =
          stub (codes "lib0.tbd") ([] ∷ codes "__wrap_bar" ∷ []) [] ∷
          stub (codes "lib1.tbd") (codes "__wrap_bar" ∷ [] ∷ []) [] ∷ [];
    };
    later = [];
    options = record default_options {
      output = DynamicExecutable;
      allow_multiple = true;
      custom_sections = [] ∷ codes "data" ∷ [];
    };
    texts = texts None None;
  });
  outcome = report (
      codes "loaded 0 a0.so\n" ++
      codes "loaded 1 m1.so\n" ++
      codes "symbol 0 <unnamed> -> 0 [ABSOLUTE]\n" ++
      codes "symbol 1 <unnamed> -> 0 [ABSOLUTE | DYNAMIC]\n" ++
      codes "symbol 2 <unnamed> -> 0 [ABSOLUTE | DYNAMIC]\n" ++
      codes "symbol 3 <unnamed> -> 3 [DYNAMIC]\n" ++
      codes "symbol 4 <unnamed> -> 3 [DYNAMIC]\n" ++
      codes "symbol 5 __wrap_bar -> 5 [DYNAMIC]\n" ++
      codes "symbol 6 __wrap_bar -> 5 [DYNAMIC]\n" ++
      codes "symbol 7 <unnamed> -> 3 [DYNAMIC]\n" ++
      codes "symbol 8 <unnamed> -> 3 [DYNAMIC]\n" ++
      codes "symbol 9 __wrap_bar -> 5 [DYNAMIC]\n" ++
      codes "symbol 10 __wrap_bar -> 5 [DYNAMIC]\n" ++
      codes "symbol 11 <unnamed> -> 3 [DYNAMIC]\n");
}

abbrev pub hidden_1030 : Case
hidden_1030 = record {
  world = world_of mach_like undemangled (record {
    first = record {
      objects =
          file (codes "a0.so") true true false false 4 (
          defines (codes "__start_d2") 1 ∷
          defines [] 3 ∷
          entry [] None true Local Default Plain 0 (Section 1) ∷ []) [] ∷
          file (codes "b1.so") true true true false 1 (
          entry (codes "__start_d2") (Some (codes "V1")) true Weak Protected Plain 0 (Section 0) ∷
          entry [] None true Weak Default Plain 0 (Section 0) ∷
          entry (codes "__start_d2") (Some (codes "V2")) false Weak Hidden Plain 0 (Section 0) ∷
          entry [] (Some (codes "V2")) false Unique Default Plain 4 (Section 0) ∷
          entry [] (Some (codes "V1")) true Global Protected Plain 0 (Section 0) ∷ []) [] ∷ [];
      scripts =
          linker_script (codes "s0.ld") None None (
          redirect [] Script [] false ∷
          redirect (codes "__start_d2") Script ([] ∷ codes "__start_d2" ∷ []) true ∷ []) ∷
          linker_script (codes "s1.ld") None None [] ∷ [];
      stubs = stub (codes "lib0.tbd") [] ([] ∷ codes "__start_d2" ∷ []) ∷ [];
    };
    later = [];
    options = record default_options {
      output = Partial;
      linker_symbols = internal (codes "__start_d2") (SectionEnd 0) true ∷ [];
      custom_sections = (255 ∷ []) ∷ codes "data" ∷ [] ∷ [];
    };
    texts = texts None None;
  });
  outcome = report (
      codes "loaded 0 a0.so\n" ++
      codes "loaded 1 b1.so\n" ++
      codes "symbol 0 <unnamed> -> 0 [ABSOLUTE]\n" ++
      codes "symbol 1 __start_d2 -> 2 [NON_INTERPOSABLE | DOWNGRADE_TO_LOCAL | HAS_NON_IR_REF]\n" ++
      codes "symbol 2 __start_d2 -> 2 [DYNAMIC]\n" ++
      codes "symbol 3 <unnamed> -> 3 [DYNAMIC | HAS_NON_IR_REF]\n" ++
      codes "symbol 4 <unnamed> -> 4 [DYNAMIC]\n" ++
      codes "symbol 5 __start_d2 -> 2 [DYNAMIC]\n" ++
      codes "symbol 6 <unnamed> -> 3 [DYNAMIC]\n" ++
      codes "symbol 7 __start_d2 -> 0 [DYNAMIC]\n" ++
      codes "symbol 8 <unnamed> -> 8 [DYNAMIC]\n" ++
      codes "symbol 9 <unnamed> -> 3 [DYNAMIC]\n" ++
      codes "symbol 10 <unnamed> -> 10 [NON_INTERPOSABLE]\n" ++
      codes "symbol 11 __start_d2 -> 2 [NON_INTERPOSABLE | DOWNGRADE_TO_LOCAL]\n" ++
      codes "symbol 12 <unnamed> -> 3 [DYNAMIC]\n" ++
      codes "symbol 13 __start_d2 -> 2 [DYNAMIC]\n");
}

abbrev pub hidden_1032 : Case
hidden_1032 = record {
  world = world_of elf_like undemangled (record {
    first = record {
      objects =
          file (codes "m0.o") false true false false 0 (
          null_entry ∷
          entry (195 ∷ 169 ∷ []) (Some (codes "V2")) true Global Default Plain 0 Undefined ∷
          entry (195 ∷ 169 ∷ []) (Some (codes "V1")) false Global Hidden Plain 0 Undefined ∷
          entry (195 ∷ 169 ∷ []) None true Weak Hidden Plain 0 Undefined ∷
          entry (195 ∷ 169 ∷ []) None true Weak Protected Plain 0 Undefined ∷
          refers (195 ∷ 169 ∷ []) ∷ []) [] ∷ [];
      scripts = linker_script (codes "s0.ld") None None [] ∷ linker_script (codes "s1.ld") (Some (codes "fzo")) None [] ∷ [];
      stubs = stub (codes "lib0.tbd") ((195 ∷ 169 ∷ []) ∷ []) (codes "fzo" ∷ codes "fzo" ∷ []) ∷ [];
    };
    later = [];
    options = record default_options {
      entry = Some (codes "fzo");
      allow_multiple = true;
      force_undefined = codes "fzo" ∷ codes "fzo" ∷ [];
      defsym = redirect (195 ∷ 169 ∷ []) DefSym (codes "fzo" ∷ (195 ∷ 169 ∷ []) ∷ []) false ∷ [];
    };
    texts = texts None None;
  });
  outcome = report (
      codes "symbol 0 <unnamed> -> 0 [ABSOLUTE]\n" ++
      codes "symbol 1 fzo -> 11 [ABSOLUTE]\n" ++
      codes "symbol 2 fzo -> 11 [ABSOLUTE]\n" ++
      codes "symbol 3 " ++ (195 ∷ 169 ∷ []) ++ codes " -> 10 [ABSOLUTE | NON_INTERPOSABLE | HAS_NON_IR_REF]\n" ++
      codes "symbol 4 <unnamed> -> 0 [ABSOLUTE | NON_INTERPOSABLE]\n" ++
      codes "symbol 5 " ++ (195 ∷ 169 ∷ []) ++ codes " -> 0 [ABSOLUTE]\n" ++
      codes "symbol 6 " ++ (195 ∷ 169 ∷ []) ++ codes " -> 0 [ABSOLUTE | NON_INTERPOSABLE]\n" ++
      codes "symbol 7 " ++ (195 ∷ 169 ∷ []) ++ codes " -> 0 [ABSOLUTE | NON_INTERPOSABLE]\n" ++
      codes "symbol 8 " ++ (195 ∷ 169 ∷ []) ++ codes " -> 0 [ABSOLUTE | NON_INTERPOSABLE]\n" ++
      codes "symbol 9 " ++ (195 ∷ 169 ∷ []) ++ codes " -> 0 [ABSOLUTE]\n" ++
      codes "symbol 10 " ++ (195 ∷ 169 ∷ []) ++ codes " -> 10 [DYNAMIC]\n" ++
      codes "symbol 11 fzo -> 11 [DYNAMIC | HAS_NON_IR_REF]\n" ++
      codes "symbol 12 fzo -> 11 [DYNAMIC]\n");
}

abbrev pub hidden_1004 : Case
hidden_1004 = record {
  world = world_of elf_like undemangled (record {
    first = record {
      objects =
          file (codes "m0.o") false false false false 1 (
          null_entry ∷
          entry (codes "__wrap_bar") None true Global Hidden Plain 0 (Section 0) ∷
          entry (codes "a\nb") None true Global Default Plain 18446744073709551615 (Section 0) ∷
          entry (codes "a\nb") None true Global Hidden Plain 0 (Section 0) ∷ []) [] ∷
          shared (codes "m1.so") (defines (codes "a\nb") 0 ∷ []) ∷
          object (codes "b2.o") (entry (codes "a\nb") None true Global Hidden Plain 0 (Section 3) ∷ []) ∷ [];
      scripts = [];
      stubs = stub (codes "lib0.tbd") [] [] ∷ stub (codes "lib1.tbd") (codes "a\nb" ∷ []) [] ∷ [];
    };
    later = [];
    options = record default_options {
      entry = Some (codes "a\nb");
      default_entry = Some (codes "__wrap_bar");
      files_per_group = 2;
      linker_symbols = internal (codes "a\nb") (TlsEnd 0) false ∷ [];
    };
    texts = texts None None;
  });
  outcome = refusal (codes "Duplicate symbols detected: a\nb, defined in m0.o and m0.o");
}

abbrev pub hidden_1006 : Case
hidden_1006 = record {
  world = world_of elf_like undemangled (record {
    first = record {
      objects =
          file (codes "b0.o") false false false false 1 (
          null_entry ∷
          entry (codes "_start") (Some (codes "V1")) true Global Default Plain 0 (Section 0) ∷
          entry (codes "_start") (Some (codes "V1")) true Weak Default Plain 0 (Section 0) ∷
          entry (codes "_start") (Some (codes "V1")) true Unique Default Plain 0 (Section 0) ∷ []) [] ∷
          object (codes "a1.o") (defines (codes "foo") 0 ∷ []) ∷
          file (codes "b2.o") false true false false 3 (null_entry ∷ []) [] ∷
          file (codes "b3.o") false true true false 8 (
          null_entry ∷
          entry (codes "_start") (Some (codes "V1")) false Weak Default Plain 0 (Section 1) ∷
          defines (codes "foo") 5 ∷
          entry (codes "_start") (Some (codes "V1")) true Global Protected Plain 0 (Section 7) ∷ []) [] ∷ [];
      scripts = [];
      stubs = stub (codes "lib0.tbd") (codes "foo" ∷ []) [] ∷ [];
    };
    later = [];
    options = record default_options {
      force_undefined = codes "foo" ∷ codes "_start" ∷ [];
      defsym = redirect (codes "foo") DefSym (codes "_start" ∷ []) false ∷ [];
      custom_sections = codes "data" ∷ [] ∷ [];
    };
    texts = texts None (Some (codes " {}; "));
  });
  outcome = refusal (
      codes "Duplicate symbols detected: _start, defined in b0.o and b3.o\n_start, defined in b0.o and b3.o\nfoo, d" ++
      codes "efined in a1.o and b3.o");
}

abbrev pub hidden_1008 : Case
hidden_1008 = record {
  world = world_of elf_like undemangled (record {
    first = record {
      objects =
          file (codes "b0.o") false false false false 6 (
          null_entry ∷
          entry ((255 ∷ []) ++ codes "\0") (Some (codes "V1")) false Global Default Plain 0 (Section 2) ∷ []) [] ∷
          file (codes "b1.o") false false false false 3 (
          null_entry ∷
          refers (codes "bar") ∷
          entry ((255 ∷ []) ++ codes "\0") (Some (codes "V1")) false Global Default Plain 0 Absolute ∷
          entry ((255 ∷ []) ++ codes "\0") (Some (codes "V2")) false Weak Default Plain 0 (Section 0) ∷
          entry ((255 ∷ []) ++ codes "\0") None true Weak Protected Plain 0 (Section 1) ∷
          refers (codes "bar") ∷ []) [] ∷ [];
      scripts = linker_script (codes "s0.ld") None None [] ∷ linker_script (codes "s1.ld") None None [] ∷ [];
      stubs = [];
    };
    later = [];
    options = record default_options {
      output = SharedObject;
      allow_multiple = true;
      force_undefined = ((255 ∷ []) ++ codes "\0") ∷ codes "bar" ∷ [];
      linker_symbols = internal (codes "bar") LoadBaseAddress true ∷ [];
    };
    texts = texts None (Some (codes "\n{ *;\n}; "));
  });
  outcome = refusal (codes "Symbol INVALID UTF-8([255, 0]) has undefined version V1");
}

abbrev pub hidden_1012 : Case
hidden_1012 = record {
  world = world_of elf_like undemangled (record {
    first = record {
      objects =
          file (codes "m0.o") false false false false 3 (
          null_entry ∷
          entry (codes "f") (Some (codes "V1")) true Global Default Plain 0 Undefined ∷
          entry (codes "__start_nosec") (Some (codes "V1")) true Global Default Plain 0 (Section 1) ∷
          entry (codes "__start_nosec") (Some (codes "V2")) false Global Default Plain 0 (Section 0) ∷
          entry (codes "f") (Some (codes "V1")) true Global Hidden Plain 0 Undefined ∷
          entry (codes "__start_nosec") (Some (codes "V1")) true Global Default Plain 0 (Section 0) ∷ []) (
          group 1 3 false [] ∷ []) ∷ [];
      scripts = [];
      stubs = stub (codes "lib0.tbd") (codes "f" ∷ []) (codes "f" ∷ []) ∷ stub (codes "lib1.tbd") [] [] ∷ [];
    };
    later = [];
    options = record default_options {
      linker_symbols = internal (codes "__start_nosec") (SectionEnd 7) false ∷ [];
      custom_sections = codes "data" ∷ [];
    };
    texts = texts (Some (codes "{ local: f*; extern \"C++\" { bar; }; ba[rz]; };")) None;
  });
  outcome = refusal (
      codes "Duplicate symbols detected: __start_nosec, defined in m0.o and m0.o\n__start_nosec, defined in m0.o a" ++
      codes "nd m0.o");
}

abbrev pub hidden_1024 : Case
hidden_1024 = record {
  world = world_of elf_like undemangled (record {
    first = record {
      objects =
          file (codes "m0.o") false false false false 3 (
          null_entry ∷
          defines (codes "_bar") 2 ∷
          entry (codes "bar") None true Global Protected Plain 0 (Section 2) ∷ []) [] ∷
          file (codes "m1.o") false true false false 1 (
          null_entry ∷
          defines (codes "_bar") 0 ∷
          entry (codes "_bar") None true Unique Default Plain 0 (Section 0) ∷ []) [] ∷
          file (codes "b.o") false false false false 3 (
          null_entry ∷
          defines (codes "bar") 0 ∷
          refers (codes "_bar") ∷
          refers (codes "_bar") ∷
          entry (codes "_bar") None true Weak Default Plain 0 (Section 2) ∷
          entry (codes "bar") None true Weak Default Plain 0 (Section 0) ∷ []) [] ∷
          file (codes "m3.o") false true true false 2 (
          null_entry ∷
          entry (codes "_bar") None true Unique Default Plain 0 (Section 0) ∷ []) [] ∷
          file (codes "b4.o") false true false false 2 (
          null_entry ∷
          defines (codes "bar") 1 ∷
          entry (codes "_bar") None true Local Protected Plain 0 Absolute ∷ []) [] ∷
          file (codes "b5.o") false false false false 6 (
          null_entry ∷
          entry (codes "_bar") None true Weak Default Plain 0 (Section 2) ∷ []) [] ∷ [];
      scripts = linker_script (codes "s0.ld") None None [] ∷ [];
      stubs = stub (codes "lib0.tbd") (codes "bar" ∷ codes "bar" ∷ []) (codes "_bar" ∷ codes "bar" ∷ []) ∷ [];
    };
    later = [];
    options = record default_options { wrap = codes "bar" ∷ [] };
    texts = texts None (Some (codes " { /**/} ; "));
  });
  outcome = refusal (codes "Failed to parse symbol export list: Syntax error at 11");
}

abbrev pub root_1003 : Case
root_1003 = record {
  world = world_of elf_like undemangled (record {
    first = record {
      objects =
          file (codes "c.o") false false false false 0 (null_entry ∷ []) [] ∷
          file (codes "a1.o") false false false false 0 (
          null_entry ∷
          entry (codes "__real_bar") None true Weak Default Plain 8 Common ∷
          entry [] None true Global Hidden Plain 0 Undefined ∷
          refers (codes "foo") ∷
          entry (codes "foo") None true Weak Default Plain 0 Undefined ∷
          entry (codes "__real_bar") None true Weak Default Plain 0 Absolute ∷ []) [] ∷ [];
      scripts =
          linker_script (codes "s0.ld") None None (
          redirect (codes "__start_data") Script [] false ∷
          redirect [] Provide [] true ∷ []) ∷
          linker_script (codes "s1.ld") None None (
          redirect ((226 ∷ 130 ∷ 172 ∷ []) ++ codes "foo") Script (codes "baz" ∷ codes "foo" ∷ []) false ∷
          redirect (codes "foo") Script ([] ∷ []) false ∷
          redirect (codes "foo") Script [] true ∷ []) ∷ [];
      stubs = [];
    };
    later = [];
    options = record default_options {
      default_entry = Some (codes "__real_bar");
      allow_multiple = true;
      force_undefined = codes "a\nb" ∷ codes "baz" ∷ [];
    };
    texts = texts None (Some (codes "{ foo; b*; };"));
  });
  outcome = report (
      codes "loaded 0 c.o\n" ++
      codes "loaded 1 a1.o\n" ++
      codes "symbol 0 <unnamed> -> 0 [ABSOLUTE]\n" ++
      codes "symbol 1 a\n" ++
      codes "b -> 1 [ABSOLUTE]\n" ++
      codes "symbol 2 baz -> 2 [ABSOLUTE]\n" ++
      codes "symbol 3 <unnamed> -> 0 [ABSOLUTE | NON_INTERPOSABLE]\n" ++
      codes "symbol 4 <unnamed> -> 0 [ABSOLUTE | NON_INTERPOSABLE]\n" ++
      codes "symbol 5 __real_bar -> 5 [NON_INTERPOSABLE | HAS_NON_IR_REF]\n" ++
      codes "symbol 6 <unnamed> -> 6 [ABSOLUTE | NON_INTERPOSABLE]\n" ++
      codes "symbol 7 foo -> 13 [ABSOLUTE]\n" ++
      codes "symbol 8 foo -> 13 [ABSOLUTE]\n" ++
      codes "symbol 9 __real_bar -> 5 [ABSOLUTE | NON_INTERPOSABLE]\n" ++
      codes "symbol 10 __start_data -> 10 [NON_INTERPOSABLE]\n" ++
      codes "symbol 11 <unnamed> -> 11 [NON_INTERPOSABLE | DOWNGRADE_TO_LOCAL]\n" ++
      codes "symbol 12 " ++ (226 ∷ 130 ∷ 172 ∷ []) ++ codes "foo -> 12 [NON_INTERPOSABLE]\n" ++
      codes "symbol 13 foo -> 13 [NON_INTERPOSABLE | HAS_NON_IR_REF]\n" ++
      codes "symbol 14 foo -> 13 [NON_INTERPOSABLE | DOWNGRADE_TO_LOCAL]\n" ++
      codes "undefined 6 \n");
}
