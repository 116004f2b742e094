-- Generated worlds of several batches, and what an independent program answers to each.
-- Written by `tools/worlds.py` from `tools/batch_worlds.jsonl`.
use Rattle.std.specs.Prelude.{[], ◌∷◌, true, false, Some, None, codes, ◌++◌}
use Rattle.link_flags.specs.declared.visibility.Visibility.TheVariants.{Default, Protected, Hidden}
use Rattle.link_input.specs.declared.symbol_entry.Place.TheVariants.{Undefined, Absolute, Common, Section}
use Rattle.link_input.specs.declared.symbol_entry.SymbolBinding.TheVariants.{Local, Global, Weak, Unique}
use Rattle.link_input.specs.declared.symbol_entry.SymbolKind.TheVariants.{Plain, Func, Ifunc, Tls}
use Rattle.link_input.specs.declared.options.OutputKind.TheVariants.{SharedObject, Partial}
use Rattle.link_input.specs.declared.internal_symbols.SymbolPlacement.TheVariants.{SectionEnd, LoadBaseAddress}
use Rattle.link_input.specs.Defaults.{default_options}
use Rattle.link_rules.specs.Rules.{elf_like, mach_like}
use Rattle.link_rules.specs.World.{world_of}
use Rattle.link_rules.specs.Building.{undemangled, entry, null_entry, refers, defines, group, file, object, internal, linker_script, stub, texts}
use Rattle.link_rules_worlds.specs.Computing.{Case, report, refusal}

abbrev pub batches_7049 : Case
batches_7049 = record {
  world = world_of elf_like undemangled (record {
    first = record {
      objects =
          file (codes "b0.o") false true false false 1 (
          null_entry ∷
          entry (codes "__start_data") None true Weak Default Plain 0 (Section 0) ∷
          entry (codes "__real_foo") None true Local Default Plain 1 Absolute ∷
          refers (codes "__start_d2") ∷ []) [] ∷
          file (codes "b1.o") false true false false 2 (null_entry ∷ []) [] ∷
          file (codes "b2.o") false false false false 6 (
          null_entry ∷
          refers (codes "__start_data") ∷
          entry (codes "__real_foo") None true Unique Default Plain 0 Undefined ∷ []) (
          group 4 0 true [] ∷
          group 0 2 true [] ∷
          group 2 2 true (5 ∷ []) ∷ []) ∷
          file [] false false false false 2 (
          null_entry ∷
          entry (codes "__start_d2") None true Global Default Plain 18446744073709551615 Undefined ∷
          refers (codes "__real_foo") ∷ []) (group 1 2 true (0 ∷ []) ∷ []) ∷
          file (codes "m4.o") false true false false 3 (
          null_entry ∷
          defines (codes "__real_foo") 0 ∷
          entry (codes "__start_data") None true Weak Default Plain 18446744073709551615 Common ∷ []) (
          group 0 2 true (2 ∷ 1 ∷ []) ∷ []) ∷
          file (codes "a5.o") false false false false 0 (
          null_entry ∷
          refers (codes "__start_d2") ∷
          entry (codes "__start_data") None true Weak Default Plain 0 Undefined ∷ []) [] ∷
          file (codes "a6.o") false true false false 0 (null_entry ∷ refers (codes "__start_d2") ∷ []) [] ∷
          file (codes "b7.o") false false false false 1 (null_entry ∷ []) [] ∷ [];
      scripts = [];
      stubs = [];
    };
    later =
        record {
          objects =
              file (codes "m0.o") false true false false 0 (
              null_entry ∷
              refers (codes "__start_d2") ∷
              refers (codes "__start_d2") ∷
              entry (codes "__start_data") None true Global Default Plain 0 Absolute ∷
              refers (codes "__start_d2") ∷
              entry (codes "__real_foo") None true Global Default Plain 0 Absolute ∷ []) [] ∷
              file (codes "b1.o") false true false false 2 (
              null_entry ∷
              defines (codes "__real_foo") 1 ∷
              entry (codes "__real_foo") None true Global Default Plain 4 Common ∷
              entry (codes "__real_foo") None true Local Default Plain 0 (Section 1) ∷
              entry (codes "__start_d2") None true Local Default Plain 0 (Section 0) ∷
              refers (codes "__start_data") ∷ []) [] ∷ [];
          scripts = [];
          stubs = [];
        } ∷ [];
    options = record default_options {
      entry = Some (codes "__real_foo");
      allow_multiple = true;
      linker_symbols =
          internal (codes "__start_d2") (SectionEnd 4294967295) false ∷
          internal (codes "__real_foo") LoadBaseAddress false ∷ [];
      custom_sections = codes "nosec2" ∷ codes "data" ∷ (255 ∷ []) ∷ [];
    };
    texts = texts None None;
  });
  outcome = report (
      codes "loaded 0 b0.o\n" ++
      codes "loaded 2 b2.o\n" ++
      codes "loaded 3 \n" ++
      codes "loaded 5 a5.o\n" ++
      codes "loaded 7 b7.o\n" ++
      codes "kept 2 0 \n" ++
      codes "kept 2 1 __real_foo\n" ++
      codes "symbol 0 <unnamed> -> 0 [ABSOLUTE]\n" ++
      codes "symbol 1 __start_d2 -> 1 [NON_INTERPOSABLE | HAS_NON_IR_REF]\n" ++
      codes "symbol 2 __real_foo -> 2 [NON_INTERPOSABLE | HAS_NON_IR_REF]\n" ++
      codes "symbol 3 <unnamed> -> 0 [ABSOLUTE | NON_INTERPOSABLE]\n" ++
      codes "symbol 4 __start_data -> 4 [NON_INTERPOSABLE | HAS_NON_IR_REF]\n" ++
      codes "symbol 5 __real_foo -> 5 [ABSOLUTE | NON_INTERPOSABLE]\n" ++
      codes "symbol 6 __start_d2 -> 1 [ABSOLUTE]\n" ++
      codes "symbol 7 <unnamed> -> 0 [ABSOLUTE | NON_INTERPOSABLE]\n" ++
      codes "symbol 8 <unnamed> -> 0 [ABSOLUTE | NON_INTERPOSABLE]\n" ++
      codes "symbol 9 __start_data -> 4 [ABSOLUTE]\n" ++
      codes "symbol 10 __real_foo -> 2 [ABSOLUTE]\n" ++
      codes "symbol 11 <unnamed> -> 0 [ABSOLUTE | NON_INTERPOSABLE]\n" ++
      codes "symbol 12 __start_d2 -> 1 [ABSOLUTE]\n" ++
      codes "symbol 13 __real_foo -> 2 [ABSOLUTE]\n" ++
      codes "symbol 14 <unnamed> -> 0 [ABSOLUTE | NON_INTERPOSABLE]\n" ++
      codes "symbol 15 __real_foo -> 2 [NON_INTERPOSABLE]\n" ++
      codes "symbol 16 __start_data -> 4 [NON_INTERPOSABLE]\n" ++
      codes "symbol 17 <unnamed> -> 0 [ABSOLUTE | NON_INTERPOSABLE]\n" ++
      codes "symbol 18 __start_d2 -> 1 [ABSOLUTE]\n" ++
      codes "symbol 19 __start_data -> 4 [ABSOLUTE]\n" ++
      codes "symbol 20 <unnamed> -> 0 [ABSOLUTE | NON_INTERPOSABLE]\n" ++
      codes "symbol 21 __start_d2 -> 0 [ABSOLUTE]\n" ++
      codes "symbol 22 <unnamed> -> 0 [ABSOLUTE | NON_INTERPOSABLE]\n" ++
      codes "symbol 23 <unnamed> -> 0 [ABSOLUTE | NON_INTERPOSABLE]\n" ++
      codes "symbol 24 __start_d2 -> 0 [ABSOLUTE]\n" ++
      codes "symbol 25 __start_d2 -> 0 [ABSOLUTE]\n" ++
      codes "symbol 26 __start_data -> 4 [ABSOLUTE | NON_INTERPOSABLE]\n" ++
      codes "symbol 27 __start_d2 -> 0 [ABSOLUTE]\n" ++
      codes "symbol 28 __real_foo -> 2 [ABSOLUTE | NON_INTERPOSABLE]\n" ++
      codes "symbol 29 <unnamed> -> 0 [ABSOLUTE | NON_INTERPOSABLE]\n" ++
      codes "symbol 30 __real_foo -> 2 [NON_INTERPOSABLE]\n" ++
      codes "symbol 31 __real_foo -> 2 [NON_INTERPOSABLE]\n" ++
      codes "symbol 32 __real_foo -> 32 [NON_INTERPOSABLE]\n" ++
      codes "symbol 33 __start_d2 -> 33 [NON_INTERPOSABLE]\n" ++
      codes "symbol 34 __start_data -> 0 [ABSOLUTE]\n");
}

abbrev pub batches_7050 : Case
batches_7050 = record {
  world = world_of elf_like undemangled (record {
    first = record {
      objects =
          file (codes "a0.o") false true false false 2 (
          null_entry ∷
          entry (codes "__real_bar") None true Global Default Plain 8 Common ∷
          defines (codes "_foo") 1 ∷
          entry (codes "_foo") None true Weak Default Plain 0 (Section 1) ∷ []) [] ∷
          file (codes "b1.o") false true false false 3 (
          null_entry ∷
          entry (codes "foo") None true Global Default Plain 0 Absolute ∷
          entry (codes "bar") None true Weak Default Plain 0 (Section 1) ∷
          refers (codes "__real_bar") ∷ []) [] ∷
          file (codes "m2.o") false true true false 1 (
          null_entry ∷
          entry (codes "__start_d2") None true Global Default Ifunc 0 Undefined ∷
          refers (codes "__wrap_foo") ∷ []) [] ∷
          file (codes "c.o") false false false false 3 (
          null_entry ∷
          entry (codes "__start_d2") None true Weak Default Plain 0 (Section 1) ∷ []) [] ∷
          file (codes "b4.o") false false false false 2 (
          null_entry ∷
          entry (codes "_foo") None true Global Default Tls 0 Common ∷
          refers (codes "foo") ∷
          entry (codes "__start_d2") None true Global Default Ifunc 0 Undefined ∷
          refers (codes "_foo") ∷
          entry (codes "bar") None true Global Default Func 8 Undefined ∷ []) [] ∷
          file (codes "m5.o") false false false false 1 (
          null_entry ∷
          entry (codes "_foo") None true Weak Default Plain 4 Common ∷
          entry (codes "__wrap_foo") None true Global Default Func 0 Undefined ∷ []) [] ∷ [];
      scripts = [];
      stubs = stub (codes "lib0.tbd") (codes "__real_bar" ∷ []) [] ∷ [];
    };
    later =
        record {
          objects =
              file (codes "m0.o") false false false false 3 (
              null_entry ∷
              entry (codes "_foo") None true Global Default Ifunc 0 (Section 0) ∷
              entry (codes "bar") None true Global Default Ifunc 0 Undefined ∷
              entry (codes "__start_d2") None true Global Default Func 0 (Section 0) ∷
              defines (codes "bar") 2 ∷
              entry (codes "__real_bar") None true Global Default Tls 8 Common ∷ []) [] ∷
              file (codes "b1.o") false true false false 2 (
              null_entry ∷
              entry (codes "__real_bar") None true Weak Default Plain 0 (Section 1) ∷
              refers (codes "__wrap_foo") ∷
              entry (codes "__real_bar") None true Global Default Plain 18446744073709551615 Common ∷ []) [] ∷ [];
          scripts = linker_script (codes "s0.ld") None None [] ∷ [];
          stubs = [];
        } ∷ [];
    options = record default_options {
      output = SharedObject;
      allow_multiple = true;
      wrap = codes "__wrap_foo" ∷ codes "__real_bar" ∷ [];
    };
    texts = texts None None;
  });
  outcome = report (
      codes "loaded 0 a0.o\n" ++
      codes "loaded 1 b1.o\n" ++
      codes "loaded 2 m2.o\n" ++
      codes "loaded 3 c.o\n" ++
      codes "loaded 4 b4.o\n" ++
      codes "loaded 5 m5.o\n" ++
      codes "loaded 6 m0.o\n" ++
      codes "symbol 0 <unnamed> -> 0 [ABSOLUTE]\n" ++
      codes "symbol 1 <unnamed> -> 0 [ABSOLUTE | NON_INTERPOSABLE]\n" ++
      codes "symbol 2 __real_bar -> 2 [HAS_NON_IR_REF]\n" ++
      codes "symbol 3 _foo -> 3 [HAS_NON_IR_REF]\n" ++
      codes "symbol 4 _foo -> 3 []\n" ++
      codes "symbol 5 <unnamed> -> 0 [ABSOLUTE | NON_INTERPOSABLE]\n" ++
      codes "symbol 6 foo -> 6 [ABSOLUTE | HAS_NON_IR_REF]\n" ++
      codes "symbol 7 bar -> 28 [HAS_NON_IR_REF]\n" ++
      codes "symbol 8 __real_bar -> 2 [ABSOLUTE]\n" ++
      codes "symbol 9 <unnamed> -> 0 [ABSOLUTE | NON_INTERPOSABLE]\n" ++
      codes "symbol 10 __start_d2 -> 27 [IFUNC]\n" ++
      codes "symbol 11 __wrap_foo -> 22 [ABSOLUTE]\n" ++
      codes "symbol 12 <unnamed> -> 0 [ABSOLUTE | NON_INTERPOSABLE]\n" ++
      codes "symbol 13 __start_d2 -> 27 [HAS_NON_IR_REF]\n" ++
      codes "symbol 14 <unnamed> -> 0 [ABSOLUTE | NON_INTERPOSABLE]\n" ++
      codes "symbol 15 _foo -> 3 []\n" ++
      codes "symbol 16 foo -> 6 [ABSOLUTE]\n" ++
      codes "symbol 17 __start_d2 -> 27 [IFUNC]\n" ++
      codes "symbol 18 _foo -> 3 [ABSOLUTE]\n" ++
      codes "symbol 19 bar -> 28 [ABSOLUTE]\n" ++
      codes "symbol 20 <unnamed> -> 0 [ABSOLUTE | NON_INTERPOSABLE]\n" ++
      codes "symbol 21 _foo -> 3 []\n" ++
      codes "symbol 22 __wrap_foo -> 22 [ABSOLUTE | DYNAMIC]\n" ++
      codes "symbol 23 __real_bar -> 2 [DYNAMIC]\n" ++
      codes "symbol 24 <unnamed> -> 0 [ABSOLUTE | NON_INTERPOSABLE]\n" ++
      codes "symbol 25 _foo -> 3 [IFUNC]\n" ++
      codes "symbol 26 bar -> 28 [IFUNC]\n" ++
      codes "symbol 27 __start_d2 -> 27 []\n" ++
      codes "symbol 28 bar -> 28 []\n" ++
      codes "symbol 29 __real_bar -> 2 []\n" ++
      codes "symbol 30 <unnamed> -> 0 [ABSOLUTE | NON_INTERPOSABLE]\n" ++
      codes "symbol 31 __real_bar -> 2 []\n" ++
      codes "symbol 32 __wrap_foo -> 0 [ABSOLUTE]\n" ++
      codes "symbol 33 __real_bar -> 2 []\n" ++
      codes "undefined 22 __wrap_foo\n");
}

abbrev pub batches_7051 : Case
batches_7051 = record {
  world = world_of mach_like undemangled (record {
    first = record {
      objects =
          file (codes "c.o") false true false false 4 (
          entry (codes "foo") None true Weak Protected Plain 0 (Section 0) ∷
          entry (codes "foo") None true Weak Default Plain 0 Undefined ∷ []) [] ∷
          file (codes "lib.so") false false false false 4 (
          defines (codes "f") 3 ∷
          entry (codes "foo") (Some (codes "V1")) false Global Default Plain 0 (Section 2) ∷ []) [] ∷
          file (codes "b2.o") false true false false 4 (
          refers (codes "foo") ∷
          entry (codes "foo") (Some (codes "V2")) false Global Hidden Plain 4 Undefined ∷ []) [] ∷
          file (codes "b3.so") true false false true 6 (
          entry (codes "f") (Some (codes "V1")) true Global Default Plain 0 Undefined ∷
          entry (codes "foo") (Some (codes "V2")) false Global Hidden Plain 0 Undefined ∷
          entry (codes "foo") (Some (codes "V1")) true Global Default Plain 0 (Section 5) ∷ []) [] ∷ [];
      scripts = [];
      stubs = stub (codes "lib0.tbd") (codes "foo" ∷ []) (codes "f" ∷ []) ∷ stub (codes "lib1.tbd") [] (codes "f" ∷ []) ∷ [];
    };
    later =
        record {
          objects =
              file (codes "m" ++ (195 ∷ 169 ∷ []) ++ codes ".o") true true false true 8 (
              entry (codes "foo") (Some (codes "V2")) true Global Default Plain 8 Common ∷
              entry (codes "f") (Some (codes "V1")) true Global Default Plain 0 Undefined ∷
              entry (codes "foo") (Some (codes "V2")) false Global Default Plain 0 (Section 4) ∷
              entry (codes "f") None true Weak Hidden Plain 0 Undefined ∷
              entry (codes "foo") None true Weak Default Plain 0 (Section 4) ∷ []) [] ∷
              file (codes "m1.so") true true false false 6 (
              entry (codes "foo") (Some (codes "V2")) false Global Default Plain 0 Absolute ∷ []) [] ∷
              file (codes "x\ny") true true true true 6 (
              entry (codes "foo") (Some (codes "V2")) false Global Default Plain 4 Common ∷
              entry (codes "foo") (Some (codes "V3")) false Weak Default Plain 0 (Section 5) ∷ []) [] ∷ [];
          scripts = [];
          stubs =
              stub (codes "lib0.tbd") (codes "foo" ∷ codes "foo" ∷ []) (codes "foo" ∷ []) ∷
              stub (codes "lib1.tbd") (codes "foo" ∷ codes "foo" ∷ []) [] ∷ [];
        } ∷ [];
    options = record default_options { output = SharedObject; allow_multiple = true };
    texts = texts None None;
  });
  outcome = refusal (codes "Symbol foo has undefined version V1");
}

abbrev pub batches_7052 : Case
batches_7052 = record {
  world = world_of elf_like undemangled (record {
    first = record {
      objects =
          file (codes "b0.o") false false false false 2 (
          null_entry ∷
          defines (codes "__start_data") 0 ∷
          defines (codes "__start_data") 1 ∷
          refers (codes "foo") ∷
          entry (codes "__start_data") (Some (codes "V1")) true Global Default Plain 0 Undefined ∷
          entry (codes "foo") (Some (codes "V1")) true Global Default Plain 0 (Section 0) ∷ []) [] ∷
          file (codes "b1.o") false true false false 8 (
          null_entry ∷
          entry (codes "fzo") (Some (codes "V2")) true Global Protected Plain 0 Undefined ∷
          entry (codes "fzo") (Some (codes "V1")) true Global Protected Plain 0 Undefined ∷
          entry (codes "fzo") (Some (codes "V1")) true Global Default Plain 0 Undefined ∷
          entry ((255 ∷ []) ++ codes "\0") (Some (codes "V2")) false Global Default Ifunc 0 (Section 6) ∷
          entry (codes "fzo") (Some (codes "V2")) false Global Default Ifunc 0 (Section 6) ∷ []) [] ∷
          file (codes "m2.o") false false false false 1 (null_entry ∷ []) [] ∷ [];
      scripts = [];
      stubs = stub (codes "lib0.tbd") [] [] ∷ [];
    };
    later =
        record {
          objects =
              file (codes "m0.o") false false false false 1 (
              null_entry ∷
              entry ((255 ∷ []) ++ codes "\0") (Some (codes "V2")) true Global Default Ifunc 8 Common ∷
              entry (codes "fzo") (Some (codes "V1")) true Global Default Plain 0 Undefined ∷
              entry (codes "foo") (Some (codes "V2")) false Global Default Plain 0 Undefined ∷ []) [] ∷
              file (codes "m" ++ (195 ∷ 169 ∷ []) ++ codes ".o") false true false false 8 (null_entry ∷ []) [] ∷
              object (codes "m2.o") (refers (codes "foo") ∷ []) ∷ [];
          scripts = [];
          stubs = [];
        } ∷
        record {
          objects = [];
          scripts = [];
          stubs =
              stub (codes "lib0.tbd") (
              codes "__start_data" ∷
              ((255 ∷ []) ++ codes "\0") ∷ []) (
              codes "foo" ∷
              ((255 ∷ []) ++ codes "\0") ∷ []) ∷ [];
        } ∷
        record {
          objects =
              file (codes "b0.o") false true false false 8 (
              null_entry ∷
              defines (codes "fzo") 5 ∷
              defines (codes "fzo") 0 ∷
              entry (codes "__start_data") (Some (codes "V1")) true Global Hidden Plain 0 Undefined ∷
              entry (codes "foo") (Some (codes "V1")) false Global Hidden Plain 8 Undefined ∷
              entry (codes "__start_data") (Some (codes "V1")) true Global Default Plain 8 Common ∷ []) [] ∷
              file (codes "b1.o") false false false false 6 (
              null_entry ∷
              refers ((255 ∷ []) ++ codes "\0") ∷
              entry (codes "__start_data") (Some (codes "V1")) false Global Default Plain 0 Undefined ∷ []) [] ∷
              file (codes "b2.o") false false false false 1 (null_entry ∷ []) [] ∷ [];
          scripts = [];
          stubs = [];
        } ∷
        record {
          objects = [];
          scripts = [];
          stubs = stub (codes "lib0.tbd") (codes "foo" ∷ ((255 ∷ []) ++ codes "\0") ∷ []) [] ∷ [];
        } ∷ [];
    options = record default_options { output = Partial; allow_multiple = true };
    texts = texts None None;
  });
  outcome = report (
      codes "loaded 0 b0.o\n" ++
      codes "loaded 2 m2.o\n" ++
      codes "loaded 3 m0.o\n" ++
      codes "loaded 5 m2.o\n" ++
      codes "loaded 6 b0.o\n" ++
      codes "loaded 7 b1.o\n" ++
      codes "loaded 8 b2.o\n" ++
      codes "symbol 0 <unnamed> -> 0 [ABSOLUTE]\n" ++
      codes "symbol 1 <unnamed> -> 0 [ABSOLUTE | NON_INTERPOSABLE]\n" ++
      codes "symbol 2 __start_data -> 2 [NON_INTERPOSABLE]\n" ++
      codes "symbol 3 __start_data -> 2 [NON_INTERPOSABLE]\n" ++
      codes "symbol 4 foo -> 6 [ABSOLUTE]\n" ++
      codes "symbol 5 __start_data -> 2 [ABSOLUTE]\n" ++
      codes "symbol 6 foo -> 6 [NON_INTERPOSABLE | DOWNGRADE_TO_LOCAL | HAS_NON_IR_REF]\n" ++
      codes "symbol 7 <unnamed> -> 0 [ABSOLUTE | NON_INTERPOSABLE]\n" ++
      codes "symbol 8 fzo -> 0 [ABSOLUTE | NON_INTERPOSABLE]\n" ++
      codes "symbol 9 fzo -> 0 [ABSOLUTE | NON_INTERPOSABLE]\n" ++
      codes "symbol 10 fzo -> 0 [ABSOLUTE]\n" ++
      codes "symbol 11 INVALID UTF-8([255, 0]) -> 15 [IFUNC | NON_INTERPOSABLE]\n" ++
      codes "symbol 12 fzo -> 12 [IFUNC | NON_INTERPOSABLE]\n" ++
      codes "symbol 13 <unnamed> -> 0 [ABSOLUTE | NON_INTERPOSABLE]\n" ++
      codes "symbol 14 <unnamed> -> 0 [ABSOLUTE | NON_INTERPOSABLE]\n" ++
      codes "symbol 15 INVALID UTF-8([255, 0]) -> 15 [IFUNC | NON_INTERPOSABLE | HAS_NON_IR_REF]\n" ++
      codes "symbol 16 fzo -> 0 [ABSOLUTE]\n" ++
      codes "symbol 17 foo -> 0 [ABSOLUTE]\n" ++
      codes "symbol 18 <unnamed> -> 0 [ABSOLUTE | NON_INTERPOSABLE]\n" ++
      codes "symbol 19 <unnamed> -> 0 [ABSOLUTE | NON_INTERPOSABLE]\n" ++
      codes "symbol 20 foo -> 6 [ABSOLUTE]\n" ++
      codes "symbol 21 __start_data -> 2 [DYNAMIC]\n" ++
      codes "symbol 22 INVALID UTF-8([255, 0]) -> 15 [DYNAMIC]\n" ++
      codes "symbol 23 foo -> 6 [DYNAMIC]\n" ++
      codes "symbol 24 INVALID UTF-8([255, 0]) -> 15 [DYNAMIC]\n" ++
      codes "symbol 25 <unnamed> -> 0 [ABSOLUTE | NON_INTERPOSABLE]\n" ++
      codes "symbol 26 fzo -> 26 [NON_INTERPOSABLE]\n" ++
      codes "symbol 27 fzo -> 26 [NON_INTERPOSABLE]\n" ++
      codes "symbol 28 __start_data -> 2 [ABSOLUTE | NON_INTERPOSABLE]\n" ++
      codes "symbol 29 foo -> 6 [ABSOLUTE | NON_INTERPOSABLE]\n" ++
      codes "symbol 30 __start_data -> 2 [NON_INTERPOSABLE | DOWNGRADE_TO_LOCAL | HAS_NON_IR_REF]\n" ++
      codes "symbol 31 <unnamed> -> 0 [ABSOLUTE | NON_INTERPOSABLE]\n" ++
      codes "symbol 32 INVALID UTF-8([255, 0]) -> 15 [ABSOLUTE]\n" ++
      codes "symbol 33 __start_data -> 2 [ABSOLUTE]\n" ++
      codes "symbol 34 <unnamed> -> 0 [ABSOLUTE | NON_INTERPOSABLE]\n" ++
      codes "symbol 35 foo -> 6 [DYNAMIC]\n" ++
      codes "symbol 36 INVALID UTF-8([255, 0]) -> 15 [DYNAMIC]\n" ++
      codes "undefined 16 fzo@V1\n" ++
      codes "undefined 17 foo@V2\n");
}
