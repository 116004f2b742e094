-- Generated worlds of several batches, and what an independent program answers to each.
-- Written by `tools/worlds.py` from `tools/batch_worlds.jsonl`.
use Rattle.std.specs.Prelude.{[], ◌∷◌, true, false, Some, None, codes, ◌++◌}
use Rattle.link_flags.specs.declared.visibility.Visibility.TheVariants.{Default, Protected, Hidden}
use Rattle.link_input.specs.declared.symbol_entry.Place.TheVariants.{Undefined, Absolute, Common, Section}
use Rattle.link_input.specs.declared.symbol_entry.SymbolBinding.TheVariants.{Local, Global, Weak, Unique}
use Rattle.link_input.specs.declared.symbol_entry.SymbolKind.TheVariants.{Plain, Func, Ifunc, Tls}
use Rattle.link_input.specs.declared.options.OutputKind.TheVariants.{DynamicExecutable, SharedObject}
use Rattle.link_input.specs.declared.internal_symbols.RedirectKind.TheVariants.{DefSym, Script, Provide}
use Rattle.link_input.specs.Defaults.{default_options}
use Rattle.link_rules.specs.Rules.{elf_like, mach_like}
use Rattle.link_rules.specs.World.{world_of}
use Rattle.link_rules.specs.Building.{undemangled, entry, null_entry, refers, defines, group, file, object, member, redirect, linker_script, stub, texts}
use Rattle.link_rules_worlds.specs.Computing.{Case, report, refusal}

abbrev pub batches_7000 : Case
batches_7000 = record {
  world = world_of elf_like undemangled (record {
    first = record {
      objects =
          object (codes "a0.o") (
          entry (codes "x y") (Some []) true Unique Default Plain 0 Undefined ∷
          entry (codes "_foo") (Some (codes "V2")) true Global Hidden Plain 0 Undefined ∷
          entry (codes "_start") (Some (codes "V1")) true Weak Default Plain 0 Undefined ∷ []) ∷
          file (codes "b1.so") true false false true 3 (
          null_entry ∷
          entry (codes "__start_d2") None true Weak Default Plain 0 Absolute ∷ []) [] ∷
          object (codes "lib.so") (
          entry (codes "_foo") (Some (codes "V2")) false Global Default Plain 0 (Section 2) ∷
          entry (codes "baz") (Some (codes "V1")) true Global Default Tls 0 (Section 2) ∷ []) ∷
          file (codes "m3.so") true true true true 0 (
          null_entry ∷
          entry ((255 ∷ []) ++ codes "\0") (Some (codes "V2")) true Global Hidden Plain 0 Undefined ∷
          entry (codes "__wrap_foo") None true Weak Default Plain 0 Undefined ∷ []) [] ∷
          file (codes "b4.o") false false false false 1 (
          null_entry ∷
          entry (codes "foo") (Some (codes "V2")) false Global Default Plain 0 Absolute ∷
          entry (codes "foo") (Some (codes "V2")) true Global Hidden Plain 0 Undefined ∷ []) [] ∷
          file (codes "m5.so") true true true true 8 (null_entry ∷ defines (codes "baz") 6 ∷ []) [] ∷
          file (codes "b.o") false true false false 6 (
          null_entry ∷
          defines (codes "_start") 1 ∷
          entry (codes "__wrap_foo") None true Weak Default Plain 0 Undefined ∷
          entry (codes "foo") None true Global Default Func 0 Undefined ∷ []) [] ∷
          file (codes "m7.o") false true true false 1 (
          null_entry ∷
          entry (codes "x y") (Some (codes "V2")) true Unique Default Plain 0 (Section 0) ∷
          entry (codes "foo") None true Weak Hidden Tls 0 Undefined ∷ []) [] ∷ [];
      scripts = [];
      stubs = [];
    };
    later =
        record {
          objects =
              file (codes "b0.so") true true false true 3 (
              null_entry ∷
              entry (codes "__start_d2") None true Global Hidden Plain 1 Common ∷
              entry (codes "foo") None true Global Default Tls 0 (Section 0) ∷
              entry ((255 ∷ []) ++ codes "\0") None true Weak Default Func 0 Undefined ∷
              entry (codes "_start") None true Global Hidden Func 1 Common ∷
              entry (codes "x y") None true Global Default Plain 8 Common ∷ []) [] ∷ [];
          scripts = linker_script (codes "s0.ld") None None [] ∷ [];
          stubs = [];
        } ∷
        record {
          objects =
              file (codes "a0.o") false false false false 3 (
              null_entry ∷
              entry (codes "foo") None true Unique Hidden Ifunc 0 (Section 0) ∷
              entry (codes "_start") (Some (255 ∷ [])) true Weak Default Plain 0 (Section 1) ∷ []) [] ∷
              file (codes "m1.so") true false false true 4 (
              null_entry ∷
              entry (codes "__start_d2") (Some (codes "V1")) false Weak Default Plain 0 (Section 3) ∷
              entry (codes "foo") (Some (codes "V1")) true Global Hidden Tls 0 (Section 3) ∷
              entry ((255 ∷ []) ++ codes "\0") (Some (255 ∷ [])) false Global Default Plain 0 Undefined ∷
              entry (codes "foo") (Some (codes "V2")) true Weak Default Plain 0 (Section 2) ∷
              entry (codes "x y") (Some (codes "V1")) false Global Default Plain 0 Undefined ∷ []) [] ∷
              file (codes "m2.so") true true false true 3 (
              null_entry ∷
              entry (codes "__start_d2") (Some (codes "V1")) true Global Default Plain 0 Undefined ∷ []) [] ∷ [];
          scripts =
              linker_script (codes "s0.ld") None None (
              redirect (codes "__wrap_foo") Script [] false ∷
              redirect (codes "baz") Script [] true ∷ []) ∷
              linker_script (codes "s1.ld") None None [] ∷ [];
          stubs = [];
        } ∷
        record {
          objects =
              file (codes "m0.o") false false false false 6 (
              null_entry ∷
              entry (codes "__start_d2") (Some (codes "V1")) true Unique Default Plain 1 Common ∷ []) [] ∷ [];
          scripts =
              linker_script (codes "s0.ld") None None (
              redirect (codes "x y") Provide [] false ∷
              redirect (codes "baz") Script (codes "__start_d2" ∷ []) false ∷ []) ∷
              linker_script (codes "s1.ld") (Some ((255 ∷ []) ++ codes "\0")) None (
              redirect (codes "__start_data") Provide [] false ∷
              redirect (codes "foo") Script [] false ∷
              redirect (codes "foo") Script (codes "foo" ∷ []) false ∷ []) ∷ [];
          stubs = [];
        } ∷
        record {
          objects =
              file (codes "a0.so") true false false true 0 (
              null_entry ∷
              entry (codes "__start_d2") None true Weak Protected Plain 0 Undefined ∷ []) [] ∷
              file (codes "b1.so") true true false true 8 (
              null_entry ∷
              entry ((255 ∷ []) ++ codes "\0") (Some (codes "X")) true Global Default Plain 0 (Section 2) ∷ []) [] ∷
              file (codes "m2.so") true true false false 1 (
              null_entry ∷
              entry (codes "_start") (Some (codes "V1")) true Weak Default Tls 0 (Section 0) ∷
              entry (codes "foo") (Some (codes "V1")) true Global Default Tls 0 (Section 0) ∷
              entry (codes "foo") None true Global Protected Plain 0 Undefined ∷ []) [] ∷ [];
          scripts = [];
          stubs = [];
        } ∷ [];
    options = record default_options { output = DynamicExecutable };
    texts = texts None None;
  });
  outcome = report (
      codes "loaded 0 a0.o\n" ++
      codes "loaded 1 b1.so\n" ++
      codes "loaded 2 lib.so\n" ++
      codes "loaded 4 b4.o\n" ++
      codes "loaded 7 m7.o\n" ++
      codes "loaded 8 b0.so\n" ++
      codes "loaded 9 a0.o\n" ++
      codes "loaded 12 m0.o\n" ++
      codes "loaded 14 b1.so\n" ++
      codes "symbol 0 <unnamed> -> 0 [ABSOLUTE]\n" ++
      codes "symbol 1 <unnamed> -> 0 [ABSOLUTE | NON_INTERPOSABLE]\n" ++
      codes "symbol 2 x y -> 0 [ABSOLUTE]\n" ++
      codes "symbol 3 _foo -> 8 [ABSOLUTE | NON_INTERPOSABLE]\n" ++
      codes "symbol 4 _start -> 33 [ABSOLUTE | UNDEFINED_WEAK]\n" ++
      codes "symbol 5 <unnamed> -> 0 [ABSOLUTE | DYNAMIC]\n" ++
      codes "symbol 6 __start_d2 -> 45 [DYNAMIC | HAS_NON_IR_REF]\n" ++
      codes "symbol 7 <unnamed> -> 0 [ABSOLUTE | NON_INTERPOSABLE]\n" ++
      codes "symbol 8 _foo -> 8 [NON_INTERPOSABLE | DOWNGRADE_TO_LOCAL | HAS_NON_IR_REF]\n" ++
      codes "symbol 9 baz -> 9 [NON_INTERPOSABLE]\n" ++
      codes "symbol 10 <unnamed> -> 0 [ABSOLUTE | DYNAMIC]\n" ++
      codes "symbol 11 INVALID UTF-8([255, 0]) -> 0 [ABSOLUTE | DYNAMIC]\n" ++
      codes "symbol 12 __wrap_foo -> 0 [ABSOLUTE | DYNAMIC]\n" ++
      codes "symbol 13 <unnamed> -> 0 [ABSOLUTE | NON_INTERPOSABLE]\n" ++
      codes "symbol 14 foo -> 14 [ABSOLUTE | NON_INTERPOSABLE | DOWNGRADE_TO_LOCAL | HAS_NON_IR_REF]\n" ++
      codes "symbol 15 foo -> 14 [ABSOLUTE | NON_INTERPOSABLE]\n" ++
      codes "symbol 16 <unnamed> -> 0 [ABSOLUTE | DYNAMIC]\n" ++
      codes "symbol 17 baz -> 9 [DYNAMIC]\n" ++
      codes "symbol 18 <unnamed> -> 0 [ABSOLUTE | NON_INTERPOSABLE]\n" ++
      codes "symbol 19 _start -> 33 [NON_INTERPOSABLE]\n" ++
      codes "symbol 20 __wrap_foo -> 0 [ABSOLUTE]\n" ++
      codes "symbol 21 foo -> 0 [ABSOLUTE]\n" ++
      codes "symbol 22 <unnamed> -> 0 [ABSOLUTE | NON_INTERPOSABLE]\n" ++
      codes "symbol 23 x y -> 23 [NON_INTERPOSABLE]\n" ++
      codes "symbol 24 foo -> 32 [ABSOLUTE | NON_INTERPOSABLE]\n" ++
      codes "symbol 25 <unnamed> -> 0 [ABSOLUTE | DYNAMIC]\n" ++
      codes "symbol 26 __start_d2 -> 0 [DYNAMIC]\n" ++
      codes "symbol 27 foo -> 32 [DYNAMIC | HAS_NON_IR_REF]\n" ++
      codes "symbol 28 INVALID UTF-8([255, 0]) -> 54 [ABSOLUTE | DYNAMIC | DYNAMIC_FUNCTION]\n" ++
      codes "symbol 29 _start -> 0 [DYNAMIC | DYNAMIC_FUNCTION]\n" ++
      codes "symbol 30 x y -> 23 [DYNAMIC]\n" ++
      codes "symbol 31 <unnamed> -> 0 [ABSOLUTE | NON_INTERPOSABLE]\n" ++
      codes "symbol 32 foo -> 32 [IFUNC | NON_INTERPOSABLE | DOWNGRADE_TO_LOCAL | HAS_NON_IR_REF]\n" ++
      codes "symbol 33 _start -> 33 [NON_INTERPOSABLE]\n" ++
      codes "symbol 34 <unnamed> -> 0 [ABSOLUTE | DYNAMIC]\n" ++
      codes "symbol 35 __start_d2 -> 45 [DYNAMIC]\n" ++
      codes "symbol 36 foo -> 0 [DYNAMIC]\n" ++
      codes "symbol 37 INVALID UTF-8([255, 0]) -> 0 [ABSOLUTE | DYNAMIC]\n" ++
      codes "symbol 38 foo -> 14 [DYNAMIC]\n" ++
      codes "symbol 39 x y -> 0 [ABSOLUTE | DYNAMIC]\n" ++
      codes "symbol 40 <unnamed> -> 0 [ABSOLUTE | DYNAMIC]\n" ++
      codes "symbol 41 __start_d2 -> 0 [ABSOLUTE | DYNAMIC]\n" ++
      codes "symbol 42 __wrap_foo -> 42 [NON_INTERPOSABLE]\n" ++
      codes "symbol 43 baz -> 9 [NON_INTERPOSABLE | DOWNGRADE_TO_LOCAL]\n" ++
      codes "symbol 44 <unnamed> -> 0 [ABSOLUTE | NON_INTERPOSABLE]\n" ++
      codes "symbol 45 __start_d2 -> 45 [NON_INTERPOSABLE]\n" ++
      codes "symbol 46 x y -> 23 [NON_INTERPOSABLE]\n" ++
      codes "symbol 47 baz -> 9 [NON_INTERPOSABLE]\n" ++
      codes "symbol 48 __start_data -> 48 [NON_INTERPOSABLE]\n" ++
      codes "symbol 49 foo -> 32 [NON_INTERPOSABLE | DOWNGRADE_TO_LOCAL]\n" ++
      codes "symbol 50 foo -> 32 [NON_INTERPOSABLE | DOWNGRADE_TO_LOCAL]\n" ++
      codes "symbol 51 <unnamed> -> 0 [ABSOLUTE | DYNAMIC]\n" ++
      codes "symbol 52 __start_d2 -> 0 [ABSOLUTE | DYNAMIC]\n" ++
      codes "symbol 53 <unnamed> -> 0 [ABSOLUTE | DYNAMIC]\n" ++
      codes "symbol 54 INVALID UTF-8([255, 0]) -> 54 [DYNAMIC | HAS_NON_IR_REF]\n" ++
      codes "symbol 55 <unnamed> -> 0 [ABSOLUTE | DYNAMIC]\n" ++
      codes "symbol 56 _start -> 33 [DYNAMIC | HAS_NON_IR_REF]\n" ++
      codes "symbol 57 foo -> 32 [DYNAMIC]\n" ++
      codes "symbol 58 foo -> 0 [ABSOLUTE | DYNAMIC]\n" ++
      codes "undefined 2 x y@\n" ++
      codes "undefined 4 _start@V1\n");
}

abbrev pub batches_7001 : Case
batches_7001 = record {
  world = world_of elf_like undemangled (record {
    first = record {
      objects =
          file (codes "b0.o") false false false false 0 (null_entry ∷ refers (codes "_start") ∷ []) [] ∷
          file (codes "m1.so") true false false true 2 (null_entry ∷ []) [] ∷
          file (codes "a2.o") false false false false 3 (null_entry ∷ []) (
          group 1 0 false (0 ∷ []) ∷
          group 2 0 true [] ∷ []) ∷
          file (codes "lib.so") false false false false 8 (null_entry ∷ []) [] ∷
          file (codes "b4.o") false true false false 2 (
          null_entry ∷
          entry (codes "f") None true Global Default Plain 0 Absolute ∷
          defines (codes "__start_d2") 1 ∷ []) (group 0 2 true (1 ∷ []) ∷ []) ∷
          file (codes "x\ny") true true true false 3 (
          null_entry ∷
          defines (codes "__start_data") 0 ∷
          entry (codes "foo") None true Global Hidden Plain 0 (Section 1) ∷ []) [] ∷
          file (codes "b6.o") false true false false 3 (
          null_entry ∷
          refers (codes "f") ∷
          entry (codes "f") None true Global Default Plain 0 Common ∷
          refers (codes "__start_nosec") ∷
          entry (codes "_start") None true Global Hidden Plain 0 (Section 1) ∷
          defines (codes "__start_d2") 0 ∷ []) (
          group 0 3 true [] ∷
          group 1 2 true [] ∷
          group 2 4 true [] ∷ []) ∷
          file (codes "a7.so") true false false false 8 (
          null_entry ∷
          refers (195 ∷ 169 ∷ []) ∷
          entry (codes "__start_nosec") None true Global Protected Plain 0 (Section 0) ∷
          entry (codes "__start_nosec") None true Global Hidden Plain 0 Common ∷
          entry (codes "__stop_data") None true Global Default Plain 18446744073709551615 Common ∷
          refers (codes "_start") ∷ []) (
          group 3 1 true (7 ∷ []) ∷
          group 5 5 false [] ∷
          group 0 5 false (1 ∷ []) ∷ []) ∷ [];
      scripts = [];
      stubs = [];
    };
    later =
        record {
          objects =
              file (codes "a0.so") true false false false 2 (
              null_entry ∷
              defines (codes "foo") 1 ∷ []) (
              group 1 1 true [] ∷
              group 0 1 true [] ∷ []) ∷ [];
          scripts = [];
          stubs = [];
        } ∷ [];
    options = default_options;
    texts = texts None (Some (codes "{ foo; b*; };"));
  });
  outcome = refusal (codes "Duplicate symbols detected: __start_d2, defined in b4.o and b6.o");
}

abbrev pub batches_7002 : Case
batches_7002 = record {
  world = world_of elf_like undemangled (record {
    first = record {
      objects =
          object (codes "a0.o") [] ∷
          file (codes "b1.o") false true true false 8 (null_entry ∷ []) [] ∷
          file (codes "m2.o") false false false false 1 (
          null_entry ∷
          entry (codes "__start_nosec") (Some (codes "V1")) true Global Default Plain 0 (Section 0) ∷
          entry (codes "foo") (Some (codes "V1")) false Global Hidden Plain 0 (Section 0) ∷
          entry (codes "baz") (Some (codes "V1")) false Global Default Plain 0 (Section 0) ∷ []) [] ∷
          object (codes "m3.o") (
          entry (codes "foo") None true Global Hidden Plain 0 (Section 0) ∷
          entry (codes "baz") None true Global Default Plain 0 Absolute ∷
          entry (codes "__real_bar") None true Global Default Plain 8 Undefined ∷ []) ∷
          file (codes "a4.o") false false false false 3 (
          null_entry ∷
          entry (codes "foo") (Some (codes "V1")) true Global Default Plain 0 (Section 2) ∷ []) [] ∷
          object (codes "m5.o") (
          entry (codes "__real_bar") (Some (codes "V1")) true Global Default Plain 0 Undefined ∷
          refers (codes "__start_nosec") ∷ []) ∷
          file (codes "m6.o") false true false false 6 (
          null_entry ∷
          refers (codes "foo") ∷
          refers (codes "foo") ∷
          entry (codes "__real_bar") None true Global Hidden Plain 0 Undefined ∷
          entry (codes "baz") (Some (codes "V2")) false Global Default Plain 0 (Section 2) ∷
          entry (codes "__real_bar") (Some (255 ∷ [])) true Global Default Plain 0 Undefined ∷ []) [] ∷
          file (codes "a7.o") false false false false 1 (null_entry ∷ refers (codes "baz") ∷ []) [] ∷
          file [] false true false false 6 (
          null_entry ∷
          entry (codes "__real_bar") (Some (codes "V2")) true Global Default Plain 0 Undefined ∷ []) [] ∷
          file (codes "m9.o") false false false false 2 (
          null_entry ∷
          entry (codes "baz") None true Global Hidden Plain 0 (Section 1) ∷ []) [] ∷
          file (codes "b10.o") false false false false 6 (
          null_entry ∷
          defines (codes "__start_nosec") 1 ∷
          entry (codes "foo") (Some (codes "V1")) true Global Default Plain 0 Absolute ∷
          entry (codes "baz") (Some (codes "V2")) true Global Protected Plain 0 Undefined ∷ []) [] ∷
          member (codes "a11.o") (defines (codes "__real_bar") 0 ∷ []) ∷ [];
      scripts = linker_script (codes "s0.ld") (Some (codes "foo")) None [] ∷ [];
      stubs = [];
    };
    later =
        record {
          objects = file (codes "a0.o") false true false false 3 (null_entry ∷ []) [] ∷ member (codes "m1.o") [] ∷ [];
          scripts = linker_script (codes "s0.ld") None None [] ∷ linker_script (codes "s1.ld") None None [] ∷ [];
          stubs = [];
        } ∷
        record {
          objects =
              file (codes "a0.o") false true false false 6 (
              null_entry ∷
              defines (codes "baz") 3 ∷
              entry (codes "__real_bar") (Some (codes "V2")) false Global Protected Plain 0 Absolute ∷
              refers (codes "baz") ∷
              defines (codes "__start_nosec") 3 ∷
              entry (codes "__real_bar") (Some (codes "V1")) false Global Hidden Plain 0 Undefined ∷ []) [] ∷
              file (codes "a1.o") false false false false 3 (
              null_entry ∷
              entry (codes "baz") (Some (codes "V1")) false Global Hidden Plain 0 Common ∷
              entry (codes "__start_nosec") (Some (codes "V2")) true Global Default Plain 0 Undefined ∷
              entry (codes "foo") (Some (codes "V1")) false Global Default Plain 0 Undefined ∷ []) [] ∷ [];
          scripts =
              linker_script (codes "s0.ld") None None (
              redirect (codes "baz") Provide (codes "__start_nosec" ∷ codes "__start_nosec" ∷ []) true ∷
              redirect (codes "__start_nosec") Script [] true ∷ []) ∷ [];
          stubs = [];
        } ∷
        record {
          objects = file (codes "a0.o") false false false false 1 (null_entry ∷ defines (codes "__start_nosec") 0 ∷ []) [] ∷ [];
          scripts =
              linker_script (codes "s0.ld") None None (
              redirect (codes "__real_bar") Script (codes "foo" ∷ []) false ∷
              redirect (codes "foo") Provide (codes "__start_nosec" ∷ []) true ∷
              redirect (codes "__start_nosec") Provide (codes "foo" ∷ codes "__start_nosec" ∷ []) false ∷ []) ∷
              linker_script (codes "s1.ld") None None (
              redirect (codes "__real_bar") Script [] false ∷
              redirect (codes "__start_nosec") Script [] true ∷ []) ∷ [];
          stubs = [];
        } ∷ [];
    options = record default_options {
      default_entry = Some (codes "__real_bar");
      defsym = redirect (codes "__real_bar") DefSym (codes "__real_bar" ∷ []) false ∷ [];
    };
    texts = texts (Some (
        codes "V2 { global: foo; local: extern \"C++\" { f?o; }; f\\oo; }; V1 { global: extern \"C++\" { main; }; local:" ++
        codes " bar; f\\oo; \"foo\"; }; V3 { local: }V1;")) None;
  });
  outcome = refusal (
      codes "Duplicate symbols detected: __start_nosec, defined in m2.o and b10.o\nbaz, defined in m3.o and m9.o\nf" ++
      codes "oo, defined in m2.o and a4.o\nfoo, defined in m3.o and a4.o");
}

abbrev pub batches_7003 : Case
batches_7003 = record {
  world = world_of elf_like undemangled (record {
    first = record {
      objects =
          member (codes "b0.o") (
          entry (codes "x y") (Some (codes "V2")) true Global Default Plain 0 Undefined ∷
          entry (codes "foo") None true Global Default Plain 1 Common ∷
          entry (codes "x y") (Some (codes "V3")) false Global Default Plain 0 (Section 0) ∷
          entry (codes "foo") None true Global Protected Plain 0 (Section 0) ∷
          entry (codes "main") (Some (codes "V1")) true Global Default Plain 0 Undefined ∷ []) ∷
          file (codes "a1.o") false false false false 0 (null_entry ∷ []) [] ∷
          file (codes "m2.so") true false false true 3 (
          null_entry ∷
          entry (codes "x y") (Some (codes "V2")) true Global Default Plain 0 Undefined ∷ []) [] ∷
          file (codes "b3.o") false true false false 8 (
          null_entry ∷
          entry (codes "main") None true Global Hidden Plain 0 Undefined ∷
          defines (codes "x y") 4 ∷ []) [] ∷
          file (codes "a4.o") false true false false 1 (
          null_entry ∷
          entry (codes "foo") (Some (codes "V1")) true Global Default Plain 8 Absolute ∷ []) [] ∷ [];
      scripts = [];
      stubs = stub (codes "lib0.tbd") [] [] ∷ [];
    };
    later =
        record {
          objects = file (codes "b0.so") true true true true 3 (null_entry ∷ []) [] ∷ [];
          scripts = [];
          stubs = stub (codes "lib0.tbd") (codes "main" ∷ codes "main" ∷ []) [] ∷ [];
        } ∷
        record {
          objects =
              file (codes "a0.o") false true false false 0 (
              null_entry ∷
              entry (codes "x y") (Some (codes "V1")) false Global Hidden Plain 0 Undefined ∷
              entry (codes "main") (Some (codes "V1")) true Global Hidden Plain 0 Undefined ∷ []) [] ∷ [];
          scripts = [];
          stubs = stub (codes "lib0.tbd") (codes "main" ∷ codes "foo" ∷ []) [] ∷ [];
        } ∷ [];
    options = record default_options { allow_multiple = true; force_undefined = codes "foo" ∷ codes "foo" ∷ [] };
    texts = texts None None;
  });
  outcome = report (
      codes "loaded 0 b0.o\n" ++
      codes "loaded 1 a1.o\n" ++
      codes "symbol 0 <unnamed> -> 0 [ABSOLUTE]\n" ++
      codes "symbol 1 foo -> 7 [ABSOLUTE]\n" ++
      codes "symbol 2 foo -> 7 [ABSOLUTE]\n" ++
      codes "symbol 3 <unnamed> -> 0 [ABSOLUTE | NON_INTERPOSABLE]\n" ++
      codes "symbol 4 x y -> 0 [ABSOLUTE]\n" ++
      codes "symbol 5 foo -> 7 [NON_INTERPOSABLE]\n" ++
      codes "symbol 6 x y -> 6 [NON_INTERPOSABLE]\n" ++
      codes "symbol 7 foo -> 7 [NON_INTERPOSABLE]\n" ++
      codes "symbol 8 main -> 0 [ABSOLUTE]\n" ++
      codes "symbol 9 <unnamed> -> 0 [ABSOLUTE | NON_INTERPOSABLE]\n" ++
      codes "symbol 10 <unnamed> -> 0 [ABSOLUTE | DYNAMIC]\n" ++
      codes "symbol 11 x y -> 0 [ABSOLUTE | DYNAMIC]\n" ++
      codes "symbol 12 <unnamed> -> 0 [ABSOLUTE | NON_INTERPOSABLE]\n" ++
      codes "symbol 13 main -> 0 [ABSOLUTE | NON_INTERPOSABLE]\n" ++
      codes "symbol 14 x y -> 14 [NON_INTERPOSABLE]\n" ++
      codes "symbol 15 <unnamed> -> 0 [ABSOLUTE | NON_INTERPOSABLE]\n" ++
      codes "symbol 16 foo -> 7 [ABSOLUTE | NON_INTERPOSABLE]\n" ++
      codes "symbol 17 <unnamed> -> 0 [ABSOLUTE | DYNAMIC]\n" ++
      codes "symbol 18 main -> 18 [DYNAMIC]\n" ++
      codes "symbol 19 main -> 18 [DYNAMIC]\n" ++
      codes "symbol 20 <unnamed> -> 0 [ABSOLUTE | NON_INTERPOSABLE]\n" ++
      codes "symbol 21 x y -> 0 [ABSOLUTE | NON_INTERPOSABLE]\n" ++
      codes "symbol 22 main -> 0 [ABSOLUTE | NON_INTERPOSABLE]\n" ++
      codes "symbol 23 main -> 18 [DYNAMIC]\n" ++
      codes "symbol 24 foo -> 7 [DYNAMIC]\n" ++
      codes "undefined 4 x y@V2\n" ++
      codes "undefined 8 main@V1\n");
}

abbrev pub batches_7004 : Case
batches_7004 = record {
  world = world_of elf_like undemangled (record {
    first = record {
      objects =
          file (codes "b0.o") false true false false 2 (
          null_entry ∷
          entry (codes "main") None true Global Default Ifunc 0 Undefined ∷
          refers ((226 ∷ 130 ∷ 172 ∷ []) ++ codes "foo") ∷ []) [] ∷
          file (codes "b1.o") false false false false 8 (
          null_entry ∷
          refers (codes "__start_d2") ∷
          entry (codes "bar") None true Local Default Func 4 Common ∷
          entry (codes "fzo") None true Global Default Plain 8 (Section 6) ∷
          entry (195 ∷ 169 ∷ []) None true Global Default Plain 1 Common ∷
          entry (codes "foo") None true Global Default Func 0 Undefined ∷ []) [] ∷
          file (codes "m2.o") false true false false 0 (
          null_entry ∷
          refers (codes "foo") ∷
          refers ((255 ∷ []) ++ codes "\0") ∷ []) [] ∷ [];
      scripts = [];
      stubs = [];
    };
    later =
        record {
          objects =
              file (codes "a0.o") false false false false 1 (
              null_entry ∷
              defines (codes "foo") 0 ∷
              defines (195 ∷ 169 ∷ []) 0 ∷ []) [] ∷
              file (codes "m1.o") false true false false 6 (null_entry ∷ refers (codes "main") ∷ []) [] ∷
              file (codes "a2.o") false true true false 2 (
              null_entry ∷
              entry (codes "fzo") None true Global Default Tls 0 Undefined ∷
              entry ((255 ∷ []) ++ codes "\0") None true Local Default Plain 0 Absolute ∷
              entry (codes "__start_d2") None true Global Default Func 0 Undefined ∷ []) [] ∷ [];
          scripts = linker_script (codes "s0.ld") None None [] ∷ [];
          stubs = [];
        } ∷
        record {
          objects =
              file (codes "a0.o") false false false false 0 (
              null_entry ∷
              entry (codes "foo") None true Global Default Func 0 Undefined ∷
              refers (codes "main") ∷
              refers ((255 ∷ []) ++ codes "\0") ∷
              entry ((226 ∷ 130 ∷ 172 ∷ []) ++ codes "foo") None true Global Default Tls 0 Undefined ∷
              refers (codes "foo") ∷ []) [] ∷ [];
          scripts = [];
          stubs = [];
        } ∷
        record {
          objects =
              file (codes "a0.o") false true false false 2 (
              null_entry ∷
              refers (codes "foo") ∷
              entry (codes "__start_d2") None true Global Default Tls 0 (Section 0) ∷ []) [] ∷
              file (codes "a1.o") false true true false 0 (null_entry ∷ refers (codes "bar") ∷ []) [] ∷
              file (codes "b2.o") false false false false 8 (
              null_entry ∷
              entry (codes "bar") None true Global Default Func 0 (Section 0) ∷
              entry (codes "fzo") None true Local Default Tls 0 (Section 5) ∷ []) [] ∷ [];
          scripts =
              linker_script (codes "s0.ld") (Some (codes "foo")) None [] ∷
              linker_script (codes "s1.ld") None None (redirect (codes "foo") Script [] false ∷ []) ∷ [];
          stubs = [];
        } ∷ [];
    options = record default_options {
      allow_multiple = true;
      wrap = codes "fzo" ∷ codes "foo" ∷ codes "foo" ∷ [];
      defsym =
          redirect (codes "bar") DefSym (codes "__start_d2" ∷ codes "fzo" ∷ []) false ∷
          redirect (codes "foo") DefSym (codes "fzo" ∷ codes "__start_d2" ∷ []) false ∷ [];
      custom_sections = [] ∷ [];
    };
    texts = texts (Some (codes " ")) (Some (codes "{ foo; b*; };"));
  });
  outcome = report (
      codes "loaded 1 b1.o\n" ++
      codes "loaded 3 a0.o\n" ++
      codes "loaded 5 a2.o\n" ++
      codes "loaded 6 a0.o\n" ++
      codes "loaded 7 a0.o\n" ++
      codes "loaded 8 a1.o\n" ++
      codes "loaded 9 b2.o\n" ++
      codes "symbol 0 <unnamed> -> 0 [ABSOLUTE]\n" ++
      codes "symbol 1 bar -> 36 [ABSOLUTE | NON_INTERPOSABLE | HAS_NON_IR_REF]\n" ++
      codes "symbol 2 foo -> 16 [ABSOLUTE | NON_INTERPOSABLE | HAS_NON_IR_REF]\n" ++
      codes "symbol 3 <unnamed> -> 0 [ABSOLUTE | NON_INTERPOSABLE]\n" ++
      codes "symbol 4 main -> 0 [IFUNC]\n" ++
      codes "symbol 5 " ++ (226 ∷ 130 ∷ 172 ∷ []) ++ codes "foo -> 0 [ABSOLUTE]\n" ++
      codes "symbol 6 <unnamed> -> 0 [ABSOLUTE | NON_INTERPOSABLE]\n" ++
      codes "symbol 7 __start_d2 -> 32 [ABSOLUTE]\n" ++
      codes "symbol 8 bar -> 8 [NON_INTERPOSABLE]\n" ++
      codes "symbol 9 fzo -> 9 [NON_INTERPOSABLE | HAS_NON_IR_REF]\n" ++
      codes "symbol 10 " ++ (195 ∷ 169 ∷ []) ++ codes " -> 17 [NON_INTERPOSABLE]\n" ++
      codes "symbol 11 foo -> 16 [ABSOLUTE]\n" ++
      codes "symbol 12 <unnamed> -> 0 [ABSOLUTE | NON_INTERPOSABLE]\n" ++
      codes "symbol 13 foo -> 0 [ABSOLUTE]\n" ++
      codes "symbol 14 INVALID UTF-8([255, 0]) -> 0 [ABSOLUTE]\n" ++
      codes "symbol 15 <unnamed> -> 0 [ABSOLUTE | NON_INTERPOSABLE]\n" ++
      codes "symbol 16 foo -> 16 [NON_INTERPOSABLE]\n" ++
      codes "symbol 17 " ++ (195 ∷ 169 ∷ []) ++ codes " -> 17 [NON_INTERPOSABLE]\n" ++
      codes "symbol 18 <unnamed> -> 0 [ABSOLUTE | NON_INTERPOSABLE]\n" ++
      codes "symbol 19 main -> 0 [ABSOLUTE]\n" ++
      codes "symbol 20 <unnamed> -> 0 [ABSOLUTE | NON_INTERPOSABLE]\n" ++
      codes "symbol 21 fzo -> 9 [ABSOLUTE]\n" ++
      codes "symbol 22 INVALID UTF-8([255, 0]) -> 22 [ABSOLUTE | NON_INTERPOSABLE]\n" ++
      codes "symbol 23 __start_d2 -> 32 [ABSOLUTE]\n" ++
      codes "symbol 24 <unnamed> -> 0 [ABSOLUTE | NON_INTERPOSABLE]\n" ++
      codes "symbol 25 foo -> 16 [ABSOLUTE]\n" ++
      codes "symbol 26 main -> 26 [ABSOLUTE | NON_INTERPOSABLE]\n" ++
      codes "symbol 27 INVALID UTF-8([255, 0]) -> 27 [ABSOLUTE | NON_INTERPOSABLE]\n" ++
      codes "symbol 28 " ++ (226 ∷ 130 ∷ 172 ∷ []) ++ codes "foo -> 28 [ABSOLUTE | NON_INTERPOSABLE]\n" ++
      codes "symbol 29 foo -> 16 [ABSOLUTE]\n" ++
      codes "symbol 30 <unnamed> -> 0 [ABSOLUTE | NON_INTERPOSABLE]\n" ++
      codes "symbol 31 foo -> 16 [ABSOLUTE]\n" ++
      codes "symbol 32 __start_d2 -> 32 [NON_INTERPOSABLE | HAS_NON_IR_REF]\n" ++
      codes "symbol 33 <unnamed> -> 0 [ABSOLUTE | NON_INTERPOSABLE]\n" ++
      codes "symbol 34 bar -> 36 [ABSOLUTE]\n" ++
      codes "symbol 35 <unnamed> -> 0 [ABSOLUTE | NON_INTERPOSABLE]\n" ++
      codes "symbol 36 bar -> 36 [NON_INTERPOSABLE]\n" ++
      codes "symbol 37 fzo -> 37 [NON_INTERPOSABLE]\n" ++
      codes "symbol 38 foo -> 16 [NON_INTERPOSABLE]\n" ++
      codes "undefined 26 main\n" ++
      codes "undefined 27 INVALID UTF-8([255, 0])\n" ++
      codes "undefined 28 " ++ (226 ∷ 130 ∷ 172 ∷ []) ++ codes "foo\n");
}

abbrev pub batches_7005 : Case
batches_7005 = record {
  world = world_of mach_like undemangled (record {
    first = record {
      objects =
          file (codes "lib.so") false true false false 6 (
          entry (codes "bar") None true Global Protected Plain 0 Undefined ∷
          defines (codes "bar") 2 ∷ []) [] ∷
          file (codes "b1.so") true true false false 2 (
          entry (codes "foo") None true Global Hidden Plain 0 Undefined ∷
          refers (195 ∷ 169 ∷ []) ∷ []) [] ∷
          file (codes "m2.so") true true false false 2 (defines (codes "bar") 0 ∷ []) [] ∷
          file (
          codes "m" ++
          (195 ∷ 169 ∷ []) ++
          codes ".o") false true true false 0 (
          refers (codes "foo") ∷
          refers (codes "foo") ∷ []) [] ∷ [];
      scripts = [];
      stubs = [];
    };
    later =
        record {
          objects = file (codes "a0.o") false false false false 1 [] [] ∷ [];
          scripts = linker_script (codes "s0.ld") None None (redirect (195 ∷ 169 ∷ []) Provide [] false ∷ []) ∷ [];
          stubs = [];
        } ∷
        record {
          objects =
              file (codes "a0.o") false true false false 2 (refers (codes "foo") ∷ refers (195 ∷ 169 ∷ []) ∷ []) [] ∷
              file (codes "b1.o") false true false false 2 (refers (195 ∷ 169 ∷ []) ∷ refers (195 ∷ 169 ∷ []) ∷ []) [] ∷
              file (codes "a2.o") false true true false 1 (
              entry (195 ∷ 169 ∷ []) None true Global Hidden Plain 0 (Section 0) ∷
              entry (195 ∷ 169 ∷ []) None true Global Protected Plain 4 Common ∷
              entry (195 ∷ 169 ∷ []) None true Global Protected Plain 0 (Section 0) ∷
              entry (codes "foo") None true Global Default Plain 0 Absolute ∷
              entry (195 ∷ 169 ∷ []) None true Global Hidden Plain 0 (Section 0) ∷ []) [] ∷ [];
          scripts =
              linker_script (codes "s0.ld") None None [] ∷
              linker_script (codes "s1.ld") None None (redirect (codes "foo") Script [] true ∷ []) ∷ [];
          stubs = [];
        } ∷
        record {
          objects =
              file (codes "a0.o") false true false false 8 (
              defines (195 ∷ 169 ∷ []) 3 ∷
              entry (codes "foo") None true Global Default Plain 8 Common ∷ []) [] ∷
              file (codes "m1.so") true true false true 3 (defines (codes "foo") 0 ∷ []) [] ∷ [];
          scripts =
              linker_script (codes "s0.ld") None None (
              redirect (195 ∷ 169 ∷ []) Script [] false ∷
              redirect (codes "foo") Script [] false ∷
              redirect (codes "foo") Script ((195 ∷ 169 ∷ []) ∷ []) false ∷ []) ∷
              linker_script (codes "s1.ld") None None [] ∷ [];
          stubs = [];
        } ∷ [];
    options = record default_options {
      output = SharedObject;
      allow_multiple = true;
      force_undefined = (195 ∷ 169 ∷ []) ∷ codes "bar" ∷ [];
      defsym =
          redirect (codes "bar") DefSym ((195 ∷ 169 ∷ []) ∷ []) false ∷
          redirect (codes "bar") DefSym ((195 ∷ 169 ∷ []) ∷ []) false ∷ [];
    };
    texts = texts None None;
  });
  outcome = report (
      codes "loaded 3 m" ++ (195 ∷ 169 ∷ []) ++ codes ".o\n" ++
      codes "loaded 4 a0.o\n" ++
      codes "loaded 7 a2.o\n" ++
      codes "symbol 0 <unnamed> -> 0 [ABSOLUTE]\n" ++
      codes "symbol 1 " ++ (195 ∷ 169 ∷ []) ++ codes " -> 17 [ABSOLUTE]\n" ++
      codes "symbol 2 bar -> 3 [ABSOLUTE]\n" ++
      codes "symbol 3 bar -> 3 [ABSOLUTE | NON_INTERPOSABLE]\n" ++
      codes "symbol 4 bar -> 3 [ABSOLUTE | NON_INTERPOSABLE]\n" ++
      codes "symbol 5 bar -> 0 [ABSOLUTE | NON_INTERPOSABLE]\n" ++
      codes "symbol 6 bar -> 3 []\n" ++
      codes "symbol 7 foo -> 0 [ABSOLUTE | DYNAMIC]\n" ++
      codes "symbol 8 " ++ (195 ∷ 169 ∷ []) ++ codes " -> 0 [ABSOLUTE | DYNAMIC]\n" ++
      codes "symbol 9 bar -> 3 [DYNAMIC]\n" ++
      codes "symbol 10 foo -> 20 [ABSOLUTE]\n" ++
      codes "symbol 11 foo -> 20 [ABSOLUTE]\n" ++
      codes "symbol 12 " ++ (195 ∷ 169 ∷ []) ++ codes " -> 17 [NON_INTERPOSABLE | DOWNGRADE_TO_LOCAL | HAS_NON_IR_REF]\n" ++
      codes "symbol 13 foo -> 0 [ABSOLUTE]\n" ++
      codes "symbol 14 " ++ (195 ∷ 169 ∷ []) ++ codes " -> 0 [ABSOLUTE]\n" ++
      codes "symbol 15 " ++ (195 ∷ 169 ∷ []) ++ codes " -> 0 [ABSOLUTE]\n" ++
      codes "symbol 16 " ++ (195 ∷ 169 ∷ []) ++ codes " -> 0 [ABSOLUTE]\n" ++
      codes "symbol 17 " ++ (195 ∷ 169 ∷ []) ++ codes " -> 17 [NON_INTERPOSABLE | DOWNGRADE_TO_LOCAL]\n" ++
      codes "symbol 18 " ++ (195 ∷ 169 ∷ []) ++ codes " -> 17 [NON_INTERPOSABLE | DOWNGRADE_TO_LOCAL]\n" ++
      codes "symbol 19 " ++ (195 ∷ 169 ∷ []) ++ codes " -> 17 [NON_INTERPOSABLE | DOWNGRADE_TO_LOCAL]\n" ++
      codes "symbol 20 foo -> 20 [ABSOLUTE | HAS_NON_IR_REF]\n" ++
      codes "symbol 21 " ++ (195 ∷ 169 ∷ []) ++ codes " -> 17 [NON_INTERPOSABLE | DOWNGRADE_TO_LOCAL]\n" ++
      codes "symbol 22 foo -> 20 [NON_INTERPOSABLE | DOWNGRADE_TO_LOCAL]\n" ++
      codes "symbol 23 " ++ (195 ∷ 169 ∷ []) ++ codes " -> 17 [NON_INTERPOSABLE | DOWNGRADE_TO_LOCAL]\n" ++
      codes "symbol 24 foo -> 20 []\n" ++
      codes "symbol 25 foo -> 20 [DYNAMIC]\n" ++
      codes "symbol 26 " ++ (195 ∷ 169 ∷ []) ++ codes " -> 17 [NON_INTERPOSABLE | DOWNGRADE_TO_LOCAL]\n" ++
      codes "symbol 27 foo -> 20 [NON_INTERPOSABLE]\n" ++
      codes "symbol 28 foo -> 20 [NON_INTERPOSABLE]\n");
}
