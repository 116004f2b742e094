-- Generated worlds, and what an independent program answers to each.
-- Written by `tools/worlds.py` from `tools/worlds.jsonl`.
use Rattle.std.specs.Prelude.{[], ◌∷◌, true, false, Some, None, codes, ◌++◌}
use Rattle.link_flags.specs.declared.visibility.Visibility.TheVariants.{Default, Protected, Hidden}
use Rattle.link_input.specs.declared.symbol_entry.Place.TheVariants.{Undefined, Absolute, Common, Section}
use Rattle.link_input.specs.declared.symbol_entry.SymbolBinding.TheVariants.{Local, Global, Weak, Unique}
use Rattle.link_input.specs.declared.symbol_entry.SymbolKind.TheVariants.{Plain, Func, Ifunc, Tls}
use Rattle.link_input.specs.declared.options.OutputKind.TheVariants.{DynamicExecutable, SharedObject, Partial}
use Rattle.link_input.specs.declared.internal_symbols.RedirectKind.TheVariants.{DefSym, Script, Provide}
use Rattle.link_input.specs.declared.internal_symbols.SymbolPlacement.TheVariants.{SectionStart, SectionEnd, TlsEnd, SectionGroupEnd}
use Rattle.link_input.specs.Defaults.{default_options}
use Rattle.link_rules.specs.Rules.{elf_like, mach_like}
use Rattle.link_rules.specs.World.{world_of}
use Rattle.link_rules.specs.Building.{undemangled, entry, null_entry, refers, defines, group, file, object, internal, redirect, linker_script, stub, texts}
use Rattle.link_rules_worlds.specs.Computing.{Case, report, refusal}

abbrev pub version_1000 : Case
version_1000 = record {
  world = world_of mach_like undemangled (record {
    first = record {
      objects =
          file (codes "a0.so") true false false false 8 (
          refers (codes "bar") ∷
          refers (195 ∷ 169 ∷ []) ∷
          entry (codes "foo") None true Weak Default Plain 0 (Section 3) ∷ []) [] ∷
          file (codes "b1.so") true true false false 4 (
          entry (codes "main") (Some (codes "V1")) false Global Default Plain 0 (Section 0) ∷
          entry (codes "foo") (Some (codes "V2")) false Weak Default Plain 0 Undefined ∷ []) [] ∷
          file (codes "a2.o") false false false false 6 (
          refers (codes "_bar") ∷
          refers ((226 ∷ 130 ∷ 172 ∷ []) ++ codes "foo") ∷ []) [] ∷
          file (codes "b3.o") false false false false 4 (
          entry [] (Some []) true Global Default Plain 0 (Section 3) ∷
          entry (codes "main") (Some (codes "V1")) true Global Default Plain 0 Undefined ∷
          defines ((255 ∷ []) ++ codes "\0") 0 ∷ []) [] ∷
          file (codes "b4.o") false false false false 0 (
          entry [] None true Global Default Plain 18446744073709551615 Undefined ∷ []) [] ∷
          file (codes "b5.o") false false false false 3 (
          entry (codes "bar") (Some (codes "V1")) false Global Default Plain 8 Undefined ∷
          entry ((255 ∷ []) ++ codes "\0") (Some (codes "V1")) true Global Default Plain 0 (Section 0) ∷
          refers [] ∷ []) [] ∷
          file (codes "lib.so") false true false false 6 (defines (codes "foo") 1 ∷ []) [] ∷
          file (codes "m7.o") false false false false 4 [] [] ∷ [];
      scripts =
          linker_script (codes "s0.ld") (Some []) None [] ∷
          linker_script (codes "s1.ld") (Some (codes "_bar")) None (redirect [] Script [] false ∷ []) ∷ [];
      stubs = [];
    };
    later = [];
    options = record default_options { custom_sections = codes "d2" ∷ [] };
    texts = texts (Some (codes "V2 { local: *; };")) None;
  });
  outcome = refusal (codes "Duplicate symbols detected: INVALID UTF-8([255, 0]), defined in b3.o and b5.o");
}

abbrev pub version_1017 : Case
version_1017 = record {
  world = world_of mach_like undemangled (record {
    first = record {
      objects =
          file (codes "b.o") false false false false 4 (
          entry (codes "_foo") (Some (codes "V2")) true Global Default Plain 0 Undefined ∷ []) [] ∷
          file (codes "a1.o") false false false false 3 (
          entry (codes "a\nb") (Some (codes "V1")) false Global Default Plain 1 Common ∷
          entry (codes "a\nb") (Some (codes "V1")) false Global Hidden Plain 0 Undefined ∷
          entry (codes "fzo") (Some (255 ∷ [])) true Global Default Plain 0 Undefined ∷
          entry (codes "fzo") (Some (codes "V1")) true Global Default Plain 8 Common ∷
          defines (codes "_foo") 2 ∷ []) [] ∷
          file (codes "b2.o") false false false false 3 (
          entry (codes "fzo") (Some (codes "V2")) false Global Default Plain 0 (Section 1) ∷
          entry (codes "fzo") None true Global Hidden Plain 0 Undefined ∷ []) [] ∷
          file (codes "a3.o") false false false false 4 (
          entry (codes "_foo") (Some (codes "V1")) false Global Default Plain 0 (Section 0) ∷ []) [] ∷ [];
      scripts = linker_script (codes "s0.ld") None None [] ∷ [];
      stubs = [];
    };
    later = [];
    options = record default_options { output = SharedObject; allow_multiple = true };
    texts = texts (Some (codes "V2 { global: f\\oo; local: _foo; baz; \"foo\"; };")) None;
  });
  outcome = refusal (codes "Symbol a\nb has undefined version V1");
}

abbrev pub version_1022 : Case
version_1022 = record {
  world = world_of elf_like undemangled (record {
    first = record {
      objects =
          file (codes "c.o") false true false false 0 (
          null_entry ∷
          entry (codes "__start_data") (Some (codes "X")) true Global Default Plain 0 Undefined ∷
          entry (codes "__start_data") None true Weak Default Plain 0 Undefined ∷
          entry (codes "__start_data") (Some (codes "V1")) true Global Default Plain 0 Undefined ∷
          entry (255 ∷ []) (Some (codes "V2")) false Global Default Plain 0 Undefined ∷
          refers (255 ∷ []) ∷ []) [] ∷
          file (codes "b1.o") false false false false 0 (
          null_entry ∷
          refers (codes "__start_data") ∷
          entry (255 ∷ []) None true Weak Default Plain 0 Undefined ∷ []) [] ∷ [];
      scripts = [];
      stubs = [];
    };
    later = [];
    options = record default_options {
      default_entry = Some (255 ∷ []);
      files_per_group = 1;
      wrap = codes "__start_data" ∷ [];
      force_undefined = (255 ∷ []) ∷ codes "__start_data" ∷ [];
      force_export = codes "__real_foo" ∷ codes "__start_data" ∷ [];
    };
    texts = texts (Some (codes "{\r\nglobal: /**/a b;\n}\t; ")) (Some (
        codes " /* c; } */ { /* c; } */ extern \"C\"\r\n{ [a-f]* /**/}; /* c; } */ foo\u{c}\r\n;\t[[^]x; global; } ; "));
  });
  outcome = refusal (codes "Failed to parse symbol export list: Invalid glob pattern at 39");
}

abbrev pub version_1024 : Case
version_1024 = record {
  world = world_of elf_like undemangled (record {
    first = record {
      objects =
          file (codes "a0.o") false false false false 0 (
          null_entry ∷
          entry (codes "foo") (Some (255 ∷ [])) true Global Default Func 8 Common ∷
          entry (codes "_bar") (Some (codes "V1")) true Global Default Plain 0 Undefined ∷ []) [] ∷
          file (codes "b1.so") true false false true 2 (
          null_entry ∷
          entry (codes "__real_foo") (Some (codes "V1")) true Global Default Plain 0 Undefined ∷ []) [] ∷
          file (codes "m2.so") true false false true 0 (
          null_entry ∷
          entry (codes "foo") (Some (codes "V1")) true Global Default Plain 0 Undefined ∷
          entry (codes "foo") (Some (codes "V1")) false Global Default Plain 0 Undefined ∷ []) [] ∷
          file (codes "m" ++ (195 ∷ 169 ∷ []) ++ codes ".o") false false false false 1 (
          null_entry ∷
          refers (codes "foo") ∷
          entry (codes "__real_foo") (Some (codes "V1")) true Global Default Func 8 Common ∷
          entry (codes "__real_foo") (Some (codes "V2")) true Global Default Plain 0 (Section 0) ∷ []) [] ∷
          file (codes "a4.o") false false false false 1 (
          null_entry ∷
          refers ((255 ∷ []) ++ codes "\0") ∷
          entry (codes "fzo") (Some (codes "V1")) true Global Default Plain 0 (Section 0) ∷ []) [] ∷ [];
      scripts = [];
      stubs = [];
    };
    later = [];
    options = record default_options { output = DynamicExecutable };
    texts = texts (Some (
        codes " VERS" ++
        (195 ∷ 169 ∷ []) ++
        codes "{# c };\n" ++
        (195 ∷ 169 ∷ []) ++
        codes ";# c };\nglobal: _foo; /* c; } */ *;\n_foo; /* c; } */ local: /**/a b; extern \"C++\"\r\n{ /**/\\[x;# c };\n" ++
        codes "__wrap_foo /**/};# c };\nextern \"C++\"\n{*;\tf; /* c; } */ f; };\r\n}\r\n; ")) None;
  });
  outcome = refusal (codes "Failed to parse version script: Invalid glob pattern at 117");
}

abbrev pub version_1038 : Case
version_1038 = record {
  world = world_of elf_like undemangled (record {
    first = record {
      objects =
          file (codes "a0.o") false true false false 0 (null_entry ∷ []) [] ∷
          file (codes "a1.o") false true false false 6 (
          null_entry ∷
          entry ((255 ∷ []) ++ codes "\0") (Some (codes "V1")) true Global Default Plain 0 Absolute ∷
          entry ((255 ∷ []) ++ codes "\0") None true Global Protected Plain 0 Undefined ∷ []) [] ∷
          object (codes "m2.o") (
          refers (codes "baz") ∷
          entry (codes "foo") (Some (codes "V1")) true Global Default Plain 0 (Section 1) ∷
          entry ((255 ∷ []) ++ codes "\0") None true Weak Hidden Plain 0 (Section 3) ∷
          entry (codes "foo") (Some (codes "V1")) false Global Hidden Plain 0 (Section 0) ∷
          entry (codes "foo") None true Global Protected Plain 0 Undefined ∷ []) ∷
          file (codes "a3.o") false true false false 3 (
          null_entry ∷
          entry (codes "baz") (Some (codes "V1")) true Global Default Plain 0 (Section 0) ∷ []) [] ∷ [];
      scripts = [];
      stubs = stub (codes "lib0.tbd") [] (codes "foo" ∷ []) ∷ [];
    };
    later = [];
    options = record default_options { output = SharedObject };
    texts = texts (Some (
        codes "# c };\nV1\n{\nlocal:\tglobal:\r\nglobal:_foo; \"*\"\r\n[a-f]*; /**/} /* c; } */  ;# c };\nV1 { /**/global:\text" ++
        codes "ern \"C\" {[[^]x;\t__wrap_foo\r\n};\r\nextern \"C++\"# c };\n{\nmain;\r\nglobal; /**/}; /* c; } */ global:} ; V1\n" ++
        codes "{\t} ; /**/\r\n{ /* c; } */ global : __wrap_foo; baz; baz;; /* c; } */ global: *;} V1;\n")) None;
  });
  outcome = refusal (codes "Failed to parse version script: Syntax error at 212");
}

abbrev pub script_1001 : Case
script_1001 = record {
  world = world_of mach_like undemangled (record {
    first = record {
      objects =
          file (codes "b0.o") false false false false 2 (
          entry (255 ∷ []) None true Global Default Func 0 (Section 1) ∷
          entry (codes "foo") None true Weak Default Plain 8 Undefined ∷ []) [] ∷
          file (codes "a1.so") true true false false 6 (
          entry (codes "foo") None true Weak Protected Plain 0 (Section 0) ∷
          defines ((226 ∷ 130 ∷ 172 ∷ []) ++ codes "foo") 2 ∷ []) (
          group 4 0 true (1 ∷ []) ∷
          group 3 1 true (2 ∷ []) ∷ []) ∷
          file (codes "m2.o") false false false false 2 (
          entry [] None true Unique Hidden Tls 0 Undefined ∷
          entry (codes "foo") None true Weak Default Plain 0 Undefined ∷ []) (group 1 0 true (0 ∷ []) ∷ []) ∷ [];
      scripts = [];
      stubs = stub (codes "lib0.tbd") ([] ∷ ((226 ∷ 130 ∷ 172 ∷ []) ++ codes "foo") ∷ []) [] ∷ [];
    };
    later = [];
    options = record default_options {
      output = SharedObject;
      allow_multiple = true;
      defsym = redirect (255 ∷ []) DefSym (((226 ∷ 130 ∷ 172 ∷ []) ++ codes "foo") ∷ []) false ∷ [];
      custom_sections = [] ∷ codes "d2" ∷ [];
    };
    texts = texts (Some (codes "{\r\nglobal:\r\n\"foo\";\r\nlocal:# c };\n*; /* c; } */ }; ")) None;
  });
  outcome = report (
      codes "loaded 0 b0.o\n" ++
      codes "loaded 1 a1.so\n" ++
      codes "loaded 2 m2.o\n" ++
      codes "kept 2 0 \n" ++
      codes "symbol 0 <unnamed> -> 0 [ABSOLUTE]\n" ++
      codes "symbol 1 INVALID UTF-8([255]) -> 2 [ABSOLUTE | NON_INTERPOSABLE]\n" ++
      codes "symbol 2 INVALID UTF-8([255]) -> 2 [NON_INTERPOSABLE | DOWNGRADE_TO_LOCAL]\n" ++
      codes "symbol 3 foo -> 4 [ABSOLUTE]\n" ++
      codes "symbol 4 foo -> 4 [DYNAMIC | HAS_NON_IR_REF]\n" ++
      codes "symbol 5 " ++ (226 ∷ 130 ∷ 172 ∷ []) ++ codes "foo -> 5 [DYNAMIC | HAS_NON_IR_REF]\n" ++
      codes "symbol 6 <unnamed> -> 6 [ABSOLUTE | NON_INTERPOSABLE]\n" ++
      codes "symbol 7 foo -> 4 [ABSOLUTE]\n" ++
      codes "symbol 8 <unnamed> -> 8 [DYNAMIC | NON_INTERPOSABLE | DOWNGRADE_TO_LOCAL]\n" ++
      codes "symbol 9 " ++ (226 ∷ 130 ∷ 172 ∷ []) ++ codes "foo -> 5 [DYNAMIC]\n" ++
      codes "undefined 6 \n");
}

abbrev pub script_1005 : Case
script_1005 = record {
  world = world_of mach_like undemangled (record {
    first = record {
      objects =
          file (codes "m0.o") false false false false 6 (
          entry (codes "foo") None true Weak Default Plain 0 (Section 3) ∷ []) [] ∷
          file (codes "m1.so") true false false false 0 (
          entry (codes "foo") (Some (codes "V1")) false Unique Default Plain 8 Common ∷
          refers (codes "foo") ∷ []) [] ∷
          file (codes "m2.o") false false false false 0 (
          entry (codes "foo") (Some (codes "V1")) false Weak Default Plain 0 Undefined ∷
          refers (codes "foo") ∷
          refers (codes "foo") ∷ []) [] ∷ [];
      scripts = [];
      stubs = [];
    };
    later = [];
    options = record default_options { output = SharedObject; allow_multiple = true };
    texts = texts (Some (codes "{# c };\nglobal:\nlocal:\t*;# c };\n};\n")) None;
  });
  outcome = report (
      codes "loaded 0 m0.o\n" ++
      codes "loaded 1 m1.so\n" ++
      codes "loaded 2 m2.o\n" ++
      codes "symbol 0 <unnamed> -> 0 [ABSOLUTE]\n" ++
      codes "symbol 1 foo -> 1 [NON_INTERPOSABLE | DOWNGRADE_TO_LOCAL | HAS_NON_IR_REF]\n" ++
      codes "symbol 2 foo -> 2 [DYNAMIC | HAS_NON_IR_REF]\n" ++
      codes "symbol 3 foo -> 1 [ABSOLUTE | DYNAMIC]\n" ++
      codes "symbol 4 foo -> 2 [ABSOLUTE]\n" ++
      codes "symbol 5 foo -> 1 [ABSOLUTE]\n" ++
      codes "symbol 6 foo -> 1 [ABSOLUTE]\n");
}

abbrev pub script_1007 : Case
script_1007 = record {
  world = world_of elf_like undemangled (record {
    first = record {
      objects =
          object (codes "a0.o") (
          entry ((226 ∷ 130 ∷ 172 ∷ []) ++ codes "foo") None true Global Default Func 0 Undefined ∷ []) ∷
          file (codes "m1.o") false false false false 0 (
          null_entry ∷
          refers (codes "foo") ∷
          refers (codes "foo") ∷
          entry (codes "foo") None true Global Default Plain 18446744073709551615 Common ∷
          entry (codes "foo") None true Global Default Plain 8 Common ∷
          refers ((226 ∷ 130 ∷ 172 ∷ []) ++ codes "foo") ∷ []) [] ∷
          object (codes "b2.o") (
          entry ((226 ∷ 130 ∷ 172 ∷ []) ++ codes "foo") None true Global Default Plain 0 Absolute ∷ []) ∷ [];
      scripts = [];
      stubs =
          stub (codes "lib0.tbd") (((226 ∷ 130 ∷ 172 ∷ []) ++ codes "foo") ∷ codes "foo" ∷ []) (
          ((226 ∷ 130 ∷ 172 ∷ []) ++ codes "foo") ∷
          ((226 ∷ 130 ∷ 172 ∷ []) ++ codes "foo") ∷ []) ∷ [];
    };
    later = [];
    options = record default_options {
      allow_multiple = true;
      defsym = redirect (codes "foo") DefSym [] false ∷ redirect (codes "foo") DefSym [] false ∷ [];
    };
    texts = texts (Some (codes "{ /**/global:\r\nbaz; baz;\nlocal: /**/*; };")) None;
  });
  outcome = report (
      codes "loaded 0 a0.o\n" ++
      codes "loaded 1 m1.o\n" ++
      codes "loaded 2 b2.o\n" ++
      codes "symbol 0 <unnamed> -> 0 [ABSOLUTE]\n" ++
      codes "symbol 1 foo -> 8 [ABSOLUTE | NON_INTERPOSABLE | HAS_NON_IR_REF]\n" ++
      codes "symbol 2 foo -> 8 [ABSOLUTE | NON_INTERPOSABLE]\n" ++
      codes "symbol 3 <unnamed> -> 0 [ABSOLUTE | NON_INTERPOSABLE]\n" ++
      codes "symbol 4 " ++ (226 ∷ 130 ∷ 172 ∷ []) ++ codes "foo -> 12 [ABSOLUTE]\n" ++
      codes "symbol 5 <unnamed> -> 0 [ABSOLUTE | NON_INTERPOSABLE]\n" ++
      codes "symbol 6 foo -> 8 [ABSOLUTE]\n" ++
      codes "symbol 7 foo -> 8 [ABSOLUTE]\n" ++
      codes "symbol 8 foo -> 8 [NON_INTERPOSABLE | DOWNGRADE_TO_LOCAL]\n" ++
      codes "symbol 9 foo -> 8 [NON_INTERPOSABLE | DOWNGRADE_TO_LOCAL]\n" ++
      codes "symbol 10 " ++ (226 ∷ 130 ∷ 172 ∷ []) ++ codes "foo -> 12 [ABSOLUTE]\n" ++
      codes "symbol 11 <unnamed> -> 0 [ABSOLUTE | NON_INTERPOSABLE]\n" ++
      codes "symbol 12 " ++ (226 ∷ 130 ∷ 172 ∷ []) ++ codes "foo -> 12 [ABSOLUTE | NON_INTERPOSABLE | DOWNGRADE_TO_LOCAL | HAS_NON_IR_REF]\n" ++
      codes "symbol 13 " ++ (226 ∷ 130 ∷ 172 ∷ []) ++ codes "foo -> 12 [DYNAMIC]\n" ++
      codes "symbol 14 foo -> 8 [DYNAMIC]\n" ++
      codes "symbol 15 " ++ (226 ∷ 130 ∷ 172 ∷ []) ++ codes "foo -> 12 [DYNAMIC]\n" ++
      codes "symbol 16 " ++ (226 ∷ 130 ∷ 172 ∷ []) ++ codes "foo -> 12 [DYNAMIC]\n");
}

abbrev pub script_1038 : Case
script_1038 = record {
  world = world_of elf_like undemangled (record {
    first = record {
      objects =
          object (codes "b0.o") (
          refers ((226 ∷ 130 ∷ 172 ∷ []) ++ codes "foo") ∷
          entry ((255 ∷ []) ++ codes "\0") None true Global Default Plain 8 Common ∷
          entry (codes "__real_foo") None true Weak Default Plain 0 Undefined ∷
          refers (codes "foo") ∷
          entry ((255 ∷ []) ++ codes "\0") None true Global Default Plain 0 Absolute ∷ []) ∷
          file (codes "a1.o") false true false false 2 (
          null_entry ∷
          entry (codes "foo") None true Weak Default Plain 0 (Section 1) ∷ []) [] ∷
          file (codes "lib.so") false true false false 8 (
          null_entry ∷
          refers (codes "_foo") ∷
          entry ((226 ∷ 130 ∷ 172 ∷ []) ++ codes "foo") None true Weak Default Plain 0 (Section 6) ∷
          defines ((226 ∷ 130 ∷ 172 ∷ []) ++ codes "foo") 2 ∷ []) [] ∷ [];
      scripts =
          linker_script (codes "s0.ld") None None (
          redirect ((255 ∷ []) ++ codes "\0") Script (codes "foo" ∷ []) false ∷
          redirect (codes "_foo") Provide (codes "main" ∷ ((255 ∷ []) ++ codes "\0") ∷ []) true ∷
          redirect (codes "foo") Script (codes "__start_data" ∷ codes "foo" ∷ []) false ∷ []) ∷ [];
      stubs = [];
    };
    later = [];
    options = record default_options {
      output = SharedObject;
      allow_multiple = true;
      wrap = codes "foo" ∷ codes "baz" ∷ codes "foo" ∷ [];
      force_undefined = ((226 ∷ 130 ∷ 172 ∷ []) ++ codes "foo") ∷ codes "__start_data" ∷ [];
      defsym = redirect (codes "foo") DefSym (codes "_foo" ∷ []) false ∷ [];
      linker_symbols = internal (codes "_foo") (SectionGroupEnd 7) true ∷ internal (codes "foo") (TlsEnd 0) false ∷ [];
    };
    texts = texts (Some (codes "{\tglobal:# c };\nlocal: *; }; /* c; } */ ")) None;
  });
  outcome = report (
      codes "loaded 0 b0.o\n" ++
      codes "loaded 2 lib.so\n" ++
      codes "symbol 0 <unnamed> -> 0 [ABSOLUTE]\n" ++
      codes "symbol 1 _foo -> 1 [NON_INTERPOSABLE | DOWNGRADE_TO_LOCAL | HAS_NON_IR_REF]\n" ++
      codes "symbol 2 foo -> 2 [NON_INTERPOSABLE | HAS_NON_IR_REF]\n" ++
      codes "symbol 3 " ++ (226 ∷ 130 ∷ 172 ∷ []) ++ codes "foo -> 17 [ABSOLUTE]\n" ++
      codes "symbol 4 __start_data -> 4 [ABSOLUTE]\n" ++
      codes "symbol 5 foo -> 2 [ABSOLUTE | NON_INTERPOSABLE]\n" ++
      codes "symbol 6 <unnamed> -> 0 [ABSOLUTE | NON_INTERPOSABLE]\n" ++
      codes "symbol 7 " ++ (226 ∷ 130 ∷ 172 ∷ []) ++ codes "foo -> 17 [ABSOLUTE]\n" ++
      codes "symbol 8 INVALID UTF-8([255, 0]) -> 11 [NON_INTERPOSABLE | DOWNGRADE_TO_LOCAL | HAS_NON_IR_REF]\n" ++
      codes "symbol 9 __real_foo -> 2 [ABSOLUTE]\n" ++
      codes "symbol 10 foo -> 2 [ABSOLUTE]\n" ++
      codes "symbol 11 INVALID UTF-8([255, 0]) -> 11 [ABSOLUTE | NON_INTERPOSABLE | DOWNGRADE_TO_LOCAL]\n" ++
      codes "symbol 12 <unnamed> -> 0 [ABSOLUTE | NON_INTERPOSABLE]\n" ++
      codes "symbol 13 foo -> 2 [NON_INTERPOSABLE | DOWNGRADE_TO_LOCAL]\n" ++
      codes "symbol 14 <unnamed> -> 0 [ABSOLUTE | NON_INTERPOSABLE]\n" ++
      codes "symbol 15 _foo -> 1 [ABSOLUTE]\n" ++
      codes "symbol 16 " ++ (226 ∷ 130 ∷ 172 ∷ []) ++ codes "foo -> 17 [NON_INTERPOSABLE | DOWNGRADE_TO_LOCAL | HAS_NON_IR_REF]\n" ++
      codes "symbol 17 " ++ (226 ∷ 130 ∷ 172 ∷ []) ++ codes "foo -> 17 [NON_INTERPOSABLE | DOWNGRADE_TO_LOCAL]\n" ++
      codes "symbol 18 INVALID UTF-8([255, 0]) -> 11 [NON_INTERPOSABLE]\n" ++
      codes "symbol 19 _foo -> 1 [NON_INTERPOSABLE | DOWNGRADE_TO_LOCAL]\n" ++
      codes "symbol 20 foo -> 2 [NON_INTERPOSABLE]\n");
}

abbrev pub script_1052 : Case
script_1052 = record {
  world = world_of mach_like undemangled (record {
    first = record {
      objects =
          file (codes "a0.o") false false false false 3 (
          defines (codes "__start_data") 0 ∷
          defines (codes "fzo") 2 ∷
          defines [] 2 ∷ []) [] ∷
          file [] false false false false 3 (defines (codes "__real_bar") 0 ∷ []) [] ∷
          file (codes "m2.o") false true false false 4 (
          entry (255 ∷ []) None true Global Default Plain 8 Common ∷ []) [] ∷ [];
      scripts = [];
      stubs = [];
    };
    later = [];
    options = record default_options {
      entry = Some (codes "__start_data");
      default_entry = Some (codes "__start_d2");
      wrap = codes "baz" ∷ [];
      force_undefined = codes "__start_data" ∷ [];
      custom_sections = [] ∷ codes "nosec2" ∷ codes "d2" ∷ [];
    };
    texts = texts (Some (codes "{\tglobal: /**/main; \"foo\";\tmain;local: *; /* c; } */ };\t")) (Some (codes "main\n*"));
  });
  outcome = report (
      codes "loaded 0 a0.o\n" ++
      codes "loaded 1 \n" ++
      codes "symbol 0 <unnamed> -> 0 [ABSOLUTE]\n" ++
      codes "symbol 1 __start_data -> 2 [ABSOLUTE]\n" ++
      codes "symbol 2 __start_data -> 2 [NON_INTERPOSABLE | DOWNGRADE_TO_LOCAL | HAS_NON_IR_REF]\n" ++
      codes "symbol 3 fzo -> 3 [NON_INTERPOSABLE | DOWNGRADE_TO_LOCAL]\n" ++
      codes "symbol 4 <unnamed> -> 4 [NON_INTERPOSABLE | DOWNGRADE_TO_LOCAL]\n" ++
      codes "symbol 5 __real_bar -> 5 [NON_INTERPOSABLE | DOWNGRADE_TO_LOCAL]\n" ++
      codes "symbol 6 INVALID UTF-8([255]) -> 6 [NON_INTERPOSABLE | DOWNGRADE_TO_LOCAL]\n" ++
      codes "missing main\n");
}

abbrev pub script_1060 : Case
script_1060 = record {
  world = world_of mach_like undemangled (record {
    first = record {
      objects =
          file (codes "b0.o") false false false false 8 (
          defines ((226 ∷ 130 ∷ 172 ∷ []) ++ codes "foo") 5 ∷
          entry (codes "bar") None true Global Default Plain 4 Common ∷
          entry (codes "foo") None true Unique Default Plain 0 (Section 4) ∷
          refers (codes "foo") ∷
          refers (codes "x y") ∷ []) [] ∷
          file (codes "m1.o") false false false false 0 (
          entry (codes "foo") None true Weak Default Plain 0 Undefined ∷ []) [] ∷
          file (codes "b2.o") false false false false 4 [] [] ∷ [];
      scripts = [];
      stubs = [];
    };
    later = [];
    options = record default_options {
      entry = Some (codes "foo");
      allow_multiple = true;
      wrap = codes "x y" ∷ [];
      force_undefined = codes "bar" ∷ [];
    };
    texts = texts (Some (codes "{ global: /**/baz;\nfoo; baz;\tlocal: /**/*;\r\n}; ")) None;
  });
  outcome = report (
      codes "loaded 0 b0.o\n" ++
      codes "loaded 1 m1.o\n" ++
      codes "loaded 2 b2.o\n" ++
      codes "symbol 0 <unnamed> -> 0 [ABSOLUTE]\n" ++
      codes "symbol 1 bar -> 3 [ABSOLUTE]\n" ++
      codes "symbol 2 " ++ (226 ∷ 130 ∷ 172 ∷ []) ++ codes "foo -> 2 [NON_INTERPOSABLE | DOWNGRADE_TO_LOCAL]\n" ++
      codes "symbol 3 bar -> 3 [NON_INTERPOSABLE | DOWNGRADE_TO_LOCAL]\n" ++
      codes "symbol 4 foo -> 4 [NON_INTERPOSABLE | HAS_NON_IR_REF]\n" ++
      codes "symbol 5 foo -> 4 [ABSOLUTE]\n" ++
      codes "symbol 6 x y -> 6 [ABSOLUTE | NON_INTERPOSABLE]\n" ++
      codes "symbol 7 foo -> 4 [ABSOLUTE]\n" ++
      codes "undefined 6 x y\n");
}

abbrev pub script_1072 : Case
script_1072 = record {
  world = world_of mach_like undemangled (record {
    first = record {
      objects =
          file (codes "m0.o") false true false false 3 (
          defines [] 2 ∷
          entry [] None true Global Default Func 0 Undefined ∷ []) [] ∷
          file (codes "x\ny") false false false false 0 (entry [] None true Global Default Func 0 Undefined ∷ []) [] ∷
          file (codes "m2.o") false false false false 6 (
          entry [] None true Global Default Ifunc 0 Undefined ∷
          entry [] None true Global Default Plain 4 (Section 4) ∷ []) [] ∷ [];
      scripts = [];
      stubs = [];
    };
    later = [];
    options = record default_options {
      output = SharedObject;
      default_entry = Some [];
      allow_multiple = true;
      wrap = [] ∷ [] ∷ codes "foo" ∷ [];
      defsym = redirect (codes "foo") DefSym (codes "foo" ∷ []) false ∷ [];
      linker_symbols = internal (codes "foo") (SectionEnd 4294967295) true ∷ internal (codes "foo") (SectionStart 0) false ∷ [];
      custom_sections = codes "nosec2" ∷ [] ∷ [];
    };
    texts = texts (Some (codes "\n")) None;
  });
  outcome = report (
      codes "loaded 0 m0.o\n" ++
      codes "loaded 1 x\n" ++
      codes "y\n" ++
      codes "loaded 2 m2.o\n" ++
      codes "symbol 0 <unnamed> -> 0 [ABSOLUTE]\n" ++
      codes "symbol 1 foo -> 1 [NON_INTERPOSABLE | DOWNGRADE_TO_LOCAL | HAS_NON_IR_REF]\n" ++
      codes "symbol 2 foo -> 1 [NON_INTERPOSABLE]\n" ++
      codes "symbol 3 foo -> 1 [ABSOLUTE | NON_INTERPOSABLE]\n" ++
      codes "symbol 4 <unnamed> -> 4 [HAS_NON_IR_REF]\n" ++
      codes "symbol 5 <unnamed> -> 4 [ABSOLUTE]\n" ++
      codes "symbol 6 <unnamed> -> 4 [ABSOLUTE]\n" ++
      codes "symbol 7 <unnamed> -> 4 [IFUNC]\n" ++
      codes "symbol 8 <unnamed> -> 4 []\n");
}

abbrev pub script_1096 : Case
script_1096 = record {
  world = world_of elf_like undemangled (record {
    first = record {
      objects =
          file (codes "m0.o") false true true false 8 (
          null_entry ∷
          entry (codes "__wrap_foo") None true Global Default Plain 1 (Section 5) ∷
          entry (codes "_bar") None true Global Default Plain 8 (Section 1) ∷
          refers (codes "_start") ∷
          defines (codes "_bar") 3 ∷
          entry (codes "foo") None true Weak Default Plain 0 Undefined ∷ []) [] ∷ [];
      scripts = [];
      stubs = [];
    };
    later = [];
    options = record default_options {
      entry = Some (codes "foo");
      allow_multiple = true;
      files_per_group = 2;
      wrap = codes "foo" ∷ codes "_foo" ∷ [];
    };
    texts = texts (Some (codes "{\nglobal:\tfoo; /**/\"foo\"; baz;# c };\nlocal: /**/*;\n}; ")) None;
  });
  outcome = report (
      codes "loaded 0 m0.o\n" ++
      codes "symbol 0 <unnamed> -> 0 [ABSOLUTE]\n" ++
      codes "symbol 1 <unnamed> -> 0 [ABSOLUTE | NON_INTERPOSABLE]\n" ++
      codes "symbol 2 __wrap_foo -> 2 [NON_INTERPOSABLE | HAS_NON_IR_REF]\n" ++
      codes "symbol 3 _bar -> 3 [NON_INTERPOSABLE | DOWNGRADE_TO_LOCAL]\n" ++
      codes "symbol 4 _start -> 4 [ABSOLUTE | NON_INTERPOSABLE]\n" ++
      codes "symbol 5 _bar -> 3 [NON_INTERPOSABLE | DOWNGRADE_TO_LOCAL]\n" ++
      codes "symbol 6 foo -> 2 [ABSOLUTE]\n" ++
      codes "undefined 4 _start\n");
}

abbrev pub script_1003 : Case
script_1003 = record {
  world = world_of mach_like undemangled (record {
    first = record {
      objects =
          file (codes "a0.o") false true false false 2 (
          entry (codes "__start_data") None true Unique Hidden Plain 0 Undefined ∷
          entry (codes "foo") None true Weak Default Tls 8 Common ∷
          defines (codes "_start") 1 ∷ []) [] ∷
          file (codes "a1.o") false false false false 8 (
          entry (codes "foo") None true Global Hidden Plain 0 Undefined ∷
          entry (codes "baz") None true Global Protected Plain 0 (Section 7) ∷
          entry (codes "_start") None true Global Protected Ifunc 0 (Section 1) ∷ []) [] ∷
          file (codes "m2.o") false false false false 8 (
          entry (codes "baz") None true Global Default Tls 1 Undefined ∷ []) [] ∷ [];
      scripts = linker_script (codes "s0.ld") (Some []) (Some (codes "{ /* c; } */ global: foo;\r\nlocal:*; /**/}; ")) [] ∷ [];
      stubs = [];
    };
    later = [];
    options = record default_options {
      output = SharedObject;
      allow_multiple = true;
      wrap = [] ∷ codes "baz" ∷ [];
      linker_symbols =
          internal (codes "__start_nosec") (SectionGroupEnd 0) false ∷
          internal (codes "__start_nosec") (TlsEnd 0) false ∷ [];
      custom_sections = [] ∷ codes "nosec2" ∷ [];
    };
    texts = texts (Some (codes "{ globa: /* c; } */ bar;\r\nlocal: *;};\t")) (Some (codes "foo"));
  });
  outcome = refusal (codes "Failed to parse version script: Syntax error at 17");
}

abbrev pub script_1006 : Case
script_1006 = record {
  world = world_of elf_like undemangled (record {
    first = record {
      objects =
          file (codes "a.o") false true false false 1 (
          null_entry ∷
          entry (codes "bar") None true Weak Default Plain 0 Undefined ∷ []) [] ∷
          file (codes "a1.o") false false false false 8 (
          null_entry ∷
          entry (195 ∷ 169 ∷ []) None true Local Protected Plain 0 (Section 7) ∷
          refers (codes "bar") ∷
          entry (codes "__start_data") None true Local Hidden Plain 18446744073709551615 Common ∷
          entry (codes "foo") None true Global Default Plain 18446744073709551615 Common ∷
          entry (codes "__start_d2") None true Global Default Plain 1 Common ∷ []) [] ∷ [];
      scripts = [];
      stubs = stub (codes "lib0.tbd") [] [] ∷ stub (codes "lib1.tbd") (codes "foo" ∷ codes "baz" ∷ []) [] ∷ [];
    };
    later = [];
    options = record default_options { allow_multiple = true; force_export = codes "baz" ∷ codes "a\nb" ∷ [] };
    texts = texts (Some (
        codes " V3{# c };\nglobal: [[^]x /**/baz;# c };\nfoo; global : /**/local: __wrap_foo;\r\nf[]o]o;\n}\r\n; /* c; } *" ++
        codes "/ ")) None;
  });
  outcome = refusal (codes "Failed to parse version script: Invalid glob pattern at 19");
}

abbrev pub script_1008 : Case
script_1008 = record {
  world = world_of elf_like undemangled (record {
    first = record {
      objects =
          file (codes "b0.o") false false false false 8 (
          null_entry ∷
          entry [] None true Global Default Plain 8 Common ∷ []) [] ∷
          file (codes "m1.o") false true false false 3 (
          null_entry ∷
          entry (codes "bar") None true Global Default Plain 1 Common ∷
          entry (codes "foo") None true Global Default Plain 1 Common ∷ []) [] ∷
          file (codes "m2.o") false true false false 1 (
          null_entry ∷
          refers [] ∷
          entry (codes "foo") None true Global Default Plain 8 Common ∷
          entry (codes "bar") None true Global Default Plain 18446744073709551615 Common ∷
          defines [] 0 ∷
          entry (codes "__wrap_foo") None true Global Default Plain 0 Absolute ∷ []) [] ∷ [];
      scripts =
          linker_script (codes "s0.ld") (Some (codes "__wrap_foo")) None (
          redirect (codes "__wrap_foo") Script (codes "bar" ∷ [] ∷ []) false ∷
          redirect (codes "bar") Script [] true ∷ []) ∷
          linker_script (codes "s1.ld") None None (
          redirect (codes "__wrap_foo") Script ([] ∷ codes "__wrap_foo" ∷ []) false ∷
          redirect (codes "foo") Script (codes "foo" ∷ [] ∷ []) false ∷ []) ∷ [];
      stubs = [];
    };
    later = [];
    options = record default_options { output = SharedObject; allow_multiple = true };
    texts = texts (Some (
        codes " V2\n{ local:*;}\t;# c };\n\r\n{\tglobal: local:}\n;\r\nV1{ /**/}\r\n;\r\nV2{\tlocal:}\t;\n")) None;
  });
  outcome = refusal (codes "Failed to parse version script: Syntax error at 26");
}

abbrev pub script_1010 : Case
script_1010 = record {
  world = world_of elf_like undemangled (record {
    first = record {
      objects =
          file (codes "a0.o") false false false false 1 (
          null_entry ∷
          entry (codes "foo") None true Global Default Plain 4 Undefined ∷
          refers (codes "__stop_data") ∷ []) [] ∷
          file (codes "b1.o") false true false false 3 (
          null_entry ∷
          entry (codes "foo") None true Unique Default Plain 1 Undefined ∷ []) [] ∷
          file (codes "b2.o") false true false false 8 (
          null_entry ∷
          refers (195 ∷ 169 ∷ []) ∷
          entry (codes "foo") None true Weak Default Plain 0 Undefined ∷
          defines (codes "f") 7 ∷
          refers (195 ∷ 169 ∷ []) ∷
          refers (codes "fzo") ∷ []) [] ∷ [];
      scripts = [];
      stubs = stub (codes "lib0.tbd") (codes "__stop_data" ∷ []) [] ∷ [];
    };
    later = [];
    options = record default_options {
      output = SharedObject;
      allow_multiple = true;
      files_per_group = 2;
      custom_sections = (255 ∷ []) ∷ codes "nosec2" ∷ [];
    };
    texts = texts (Some (codes "\"\n")) (Some (codes " {\t} "));
  });
  outcome = refusal (codes "Failed to parse version script: Syntax error at 2");
}

abbrev pub script_1016 : Case
script_1016 = record {
  world = world_of mach_like undemangled (record {
    first = record {
      objects =
          file (codes "a0.o") false false false false 8 (
          refers (codes "__start_d2") ∷
          defines (codes "fzo") 3 ∷
          entry (codes "foo") None true Weak Default Plain 0 Undefined ∷ []) (group 1 2 true (4 ∷ []) ∷ []) ∷
          file (codes "c.o") false false false false 1 (
          entry (codes "foo") None true Global Default Plain 4 Common ∷
          entry (codes "__start_d2") None true Weak Default Plain 0 Undefined ∷ []) [] ∷
          file (codes "m2.o") false false false false 6 (refers (codes "fzo") ∷ []) [] ∷ [];
      scripts =
          linker_script (codes "s0.ld") None None (
          redirect (codes "foo") Script (codes "foo" ∷ []) false ∷
          redirect (codes "foo") Provide (codes "__start_d2" ∷ codes "__start_d2" ∷ []) false ∷
          redirect (codes "foo") Script (codes "fzo" ∷ []) false ∷ []) ∷ [];
      stubs = [];
    };
    later = [];
    options = record default_options {
      output = Partial;
      entry = Some (codes "fzo");
      force_undefined = codes "foo" ∷ [];
      defsym =
          redirect (codes "__start_d2") DefSym (codes "foo" ∷ codes "fzo" ∷ []) false ∷
          redirect (codes "foo") DefSym [] false ∷ [];
    };
    texts = texts (Some (
        codes "\tfzo { global:\ta b;; \"*\"; [;\nfzo;# c };\n};\r\nV1 { /**/global :\n*;\r\nlocal:*;}# c };\n; V1\n{\n}; ")) (Some (codes "b*\n\u{c}bar\r\nfoo\nfoo"));
  });
  outcome = refusal (codes "Failed to parse version script: Syntax error at 19");
}

abbrev pub globs_1014 : Case
globs_1014 = record {
  world = world_of elf_like undemangled (record {
    first = record {
      objects =
          file (codes "a0.o") false true false false 0 (
          null_entry ∷
          entry (codes "__wrap_bar") None true Global Default Plain 0 Absolute ∷
          entry (codes "__start_d2") None true Weak Default Plain 0 Undefined ∷ []) [] ∷
          file (codes "b1.so") true true false true 0 (
          null_entry ∷
          entry (codes "__wrap_bar") None true Global Default Plain 18446744073709551615 Common ∷ []) [] ∷
          file (codes "m2.so") true true false false 3 (
          null_entry ∷
          entry (codes "__start_d2") None true Weak Default Plain 0 (Section 1) ∷
          entry (codes "__start_d2") None true Unique Default Plain 0 (Section 2) ∷
          refers (codes "__start_d2") ∷ []) [] ∷ [];
      scripts =
          linker_script (codes "s0.ld") (Some (codes "__start_d2")) None [] ∷
          linker_script (codes "s1.ld") (Some (codes "__start_d2")) None (
          redirect (codes "x y") Provide [] true ∷
          redirect (codes "x y") Script [] false ∷
          redirect (codes "__start_d2") Script [] false ∷ []) ∷ [];
      stubs = [];
    };
    later = [];
    options = record default_options { entry = Some (codes "x y"); force_undefined = codes "__wrap_bar" ∷ codes "x y" ∷ [] };
    texts = texts (Some (codes "{\nglobal: /* c; } */ main;\nlocal: /**/*; /**/}; ")) None;
  });
  outcome = report (
      codes "loaded 0 a0.o\n" ++
      codes "symbol 0 <unnamed> -> 0 [ABSOLUTE]\n" ++
      codes "symbol 1 __wrap_bar -> 4 [ABSOLUTE]\n" ++
      codes "symbol 2 x y -> 12 [ABSOLUTE]\n" ++
      codes "symbol 3 <unnamed> -> 0 [ABSOLUTE | NON_INTERPOSABLE]\n" ++
      codes "symbol 4 __wrap_bar -> 4 [ABSOLUTE | NON_INTERPOSABLE | DOWNGRADE_TO_LOCAL]\n" ++
      codes "symbol 5 __start_d2 -> 5 [ABSOLUTE | NON_INTERPOSABLE | UNDEFINED_WEAK]\n" ++
      codes "symbol 6 <unnamed> -> 0 [ABSOLUTE | DYNAMIC]\n" ++
      codes "symbol 7 __wrap_bar -> 4 [DYNAMIC]\n" ++
      codes "symbol 8 <unnamed> -> 0 [ABSOLUTE | DYNAMIC]\n" ++
      codes "symbol 9 __start_d2 -> 9 [DYNAMIC | HAS_NON_IR_REF]\n" ++
      codes "symbol 10 __start_d2 -> 9 [DYNAMIC]\n" ++
      codes "symbol 11 __start_d2 -> 0 [ABSOLUTE | DYNAMIC]\n" ++
      codes "symbol 12 x y -> 12 [NON_INTERPOSABLE | DOWNGRADE_TO_LOCAL | HAS_NON_IR_REF]\n" ++
      codes "symbol 13 x y -> 12 [NON_INTERPOSABLE]\n" ++
      codes "symbol 14 __start_d2 -> 9 [NON_INTERPOSABLE]\n" ++
      codes "undefined 5 __start_d2\n");
}
