-- Generated worlds of several batches, and what an independent program answers to each.
-- Written by `tools/worlds.py` from `tools/batch_worlds.jsonl`.
use Rattle.std.specs.Prelude.{[], ◌∷◌, true, false, Some, None, codes, ◌++◌}
use Rattle.link_flags.specs.declared.visibility.Visibility.TheVariants.{Default, Protected, Hidden}
use Rattle.link_input.specs.declared.symbol_entry.Place.TheVariants.{Undefined, Absolute, Common, Section}
use Rattle.link_input.specs.declared.symbol_entry.SymbolBinding.TheVariants.{Local, Global, Weak, Unique}
use Rattle.link_input.specs.declared.symbol_entry.SymbolKind.TheVariants.{Plain, Func, Ifunc}
use Rattle.link_input.specs.declared.options.OutputKind.TheVariants.{DynamicExecutable, SharedObject, Partial}
use Rattle.link_input.specs.declared.internal_symbols.RedirectKind.TheVariants.{Script, Provide}
use Rattle.link_input.specs.declared.internal_symbols.SymbolPlacement.TheVariants.{SectionStart, SectionEnd}
use Rattle.link_input.specs.Defaults.{default_options}
use Rattle.link_rules.specs.Rules.{elf_like}
use Rattle.link_rules.specs.World.{world_of}
use Rattle.link_rules.specs.Building.{undemangled, entry, null_entry, refers, defines, group, file, object, member, internal, redirect, linker_script, stub, texts}
use Rattle.link_rules_worlds.specs.Computing.{Case, report, refusal}

abbrev pub batches_7022 : Case
batches_7022 = record {
  world = world_of elf_like undemangled (record {
    first = record {
      objects =
          file (codes "m0.o") false false false false 8 (null_entry ∷ []) [] ∷
          file (codes "a1.o") false false false false 1 (
          null_entry ∷
          entry (codes "_foo") (Some (codes "V1")) true Global Default Plain 0 (Section 0) ∷
          entry (codes "__start_nosec") (Some (codes "V1")) false Global Default Plain 0 Undefined ∷
          refers (codes "__start_nosec") ∷ []) [] ∷
          file (codes "a2.o") false true false false 8 (
          null_entry ∷
          entry ((255 ∷ []) ++ codes "\0") (Some (codes "V1")) true Unique Default Plain 1 Undefined ∷ []) (
          group 5 1 true [] ∷
          group 6 1 true (0 ∷ []) ∷
          group 3 0 true (2 ∷ 4 ∷ []) ∷ []) ∷
          object (codes "a3.o") (
          entry (codes "a\nb") (Some (codes "V2")) false Weak Default Plain 0 Undefined ∷
          entry (codes "_foo") None true Global Default Plain 4 (Section 0) ∷
          entry (codes "__start_nosec") None true Weak Default Plain 0 Absolute ∷ []) ∷
          file (codes "m4.o") false true false false 0 (
          null_entry ∷
          entry (255 ∷ []) (Some (codes "V1")) true Unique Default Plain 0 Undefined ∷
          entry (codes "a\nb") None true Weak Default Plain 0 Undefined ∷ []) [] ∷
          file (codes "b5.o") false false false false 6 (
          null_entry ∷
          entry (255 ∷ []) (Some (codes "V2")) true Global Default Plain 0 Undefined ∷
          refers (codes "__start_nosec") ∷
          refers (codes "a\nb") ∷
          entry (codes "a\nb") (Some (codes "V1")) true Global Default Plain 0 (Section 1) ∷
          entry ((255 ∷ []) ++ codes "\0") (Some (codes "V1")) false Global Default Plain 1 Common ∷ []) (
          group 5 0 true [] ∷
          group 4 0 true (3 ∷ []) ∷
          group 2 2 true (1 ∷ []) ∷ []) ∷ [];
      scripts = [];
      stubs = [];
    };
    later =
        record {
          objects =
              file (codes "x\ny") false true false false 1 (
              null_entry ∷
              entry (codes "a\nb") (Some (codes "V2")) true Global Default Plain 0 Undefined ∷
              entry (codes "__start_nosec") None true Unique Default Plain 0 (Section 0) ∷ []) [] ∷
              file (codes "b1.o") false true false false 8 (
              null_entry ∷
              defines (codes "a\nb") 2 ∷
              entry (255 ∷ []) (Some (codes "V1")) true Global Default Plain 0 (Section 1) ∷ []) (
              group 2 0 true (0 ∷ []) ∷
              group 7 0 true (1 ∷ 1 ∷ []) ∷
              group 4 1 true [] ∷ []) ∷ [];
          scripts = [];
          stubs = [];
        } ∷ [];
    options = record default_options { output = Partial; allow_multiple = true; files_per_group = 2 };
    texts = texts None None;
  });
  outcome = report (
      codes "loaded 0 m0.o\n" ++
      codes "loaded 1 a1.o\n" ++
      codes "loaded 3 a3.o\n" ++
      codes "loaded 5 b5.o\n" ++
      codes "kept 5 0 \n" ++
      codes "kept 5 2 __start_nosec\n" ++
      codes "symbol 0 <unnamed> -> 0 [ABSOLUTE | GROUP_SIGNATURE]\n" ++
      codes "symbol 1 <unnamed> -> 0 [ABSOLUTE | NON_INTERPOSABLE]\n" ++
      codes "symbol 2 <unnamed> -> 0 [ABSOLUTE | NON_INTERPOSABLE]\n" ++
      codes "symbol 3 _foo -> 3 [NON_INTERPOSABLE]\n" ++
      codes "symbol 4 __start_nosec -> 0 [ABSOLUTE]\n" ++
      codes "symbol 5 __start_nosec -> 11 [ABSOLUTE]\n" ++
      codes "symbol 6 <unnamed> -> 0 [ABSOLUTE | NON_INTERPOSABLE]\n" ++
      codes "symbol 7 INVALID UTF-8([255, 0]) -> 0 [ABSOLUTE]\n" ++
      codes "symbol 8 <unnamed> -> 0 [ABSOLUTE | NON_INTERPOSABLE]\n" ++
      codes "symbol 9 a\n" ++
      codes "b -> 0 [ABSOLUTE | UNDEFINED_WEAK]\n" ++
      codes "symbol 10 _foo -> 3 [NON_INTERPOSABLE]\n" ++
      codes "symbol 11 __start_nosec -> 11 [ABSOLUTE | NON_INTERPOSABLE | HAS_NON_IR_REF | GROUP_SIGNATURE]\n" ++
      codes "symbol 12 <unnamed> -> 0 [ABSOLUTE | NON_INTERPOSABLE]\n" ++
      codes "symbol 13 INVALID UTF-8([255]) -> 0 [ABSOLUTE]\n" ++
      codes "symbol 14 a\n" ++
      codes "b -> 0 [ABSOLUTE]\n" ++
      codes "symbol 15 <unnamed> -> 0 [ABSOLUTE | NON_INTERPOSABLE]\n" ++
      codes "symbol 16 INVALID UTF-8([255]) -> 0 [ABSOLUTE]\n" ++
      codes "symbol 17 __start_nosec -> 11 [ABSOLUTE]\n" ++
      codes "symbol 18 a\n" ++
      codes "b -> 19 [ABSOLUTE]\n" ++
      codes "symbol 19 a\n" ++
      codes "b -> 19 [NON_INTERPOSABLE | HAS_NON_IR_REF]\n" ++
      codes "symbol 20 INVALID UTF-8([255, 0]) -> 20 [NON_INTERPOSABLE]\n" ++
      codes "symbol 21 <unnamed> -> 0 [ABSOLUTE | NON_INTERPOSABLE]\n" ++
      codes "symbol 22 a\n" ++
      codes "b -> 0 [ABSOLUTE]\n" ++
      codes "symbol 23 __start_nosec -> 11 [NON_INTERPOSABLE]\n" ++
      codes "symbol 24 <unnamed> -> 0 [ABSOLUTE | NON_INTERPOSABLE]\n" ++
      codes "symbol 25 a\n" ++
      codes "b -> 19 [NON_INTERPOSABLE]\n" ++
      codes "symbol 26 INVALID UTF-8([255]) -> 26 [NON_INTERPOSABLE]\n" ++
      codes "undefined 4 __start_nosec@V1\n" ++
      codes "undefined 9 a\n" ++
      codes "b@V2\n" ++
      codes "undefined 16 INVALID UTF-8([255])@V2\n");
}

abbrev pub batches_7023 : Case
batches_7023 = record {
  world = world_of elf_like undemangled (record {
    first = record {
      objects =
          file (codes "b0.o") false true false false 0 (
          null_entry ∷
          entry (codes "foo") None true Global Default Plain 8 Common ∷
          refers (codes "bar") ∷
          entry (codes "__stop_data") (Some (codes "V1")) true Global Default Plain 0 Undefined ∷
          refers (codes "foo") ∷
          entry (codes "foo") (Some (codes "V1")) true Global Default Plain 0 Undefined ∷ []) [] ∷
          file (codes "m1.o") false false false false 8 (
          null_entry ∷
          refers (codes "bar") ∷
          entry (codes "foo") (Some (codes "V1")) true Global Default Plain 0 (Section 5) ∷
          refers (codes "foo") ∷ []) [] ∷
          file (codes "m2.o") false true false false 3 (
          null_entry ∷
          entry (codes "x y") None true Global Default Plain 0 Absolute ∷ []) [] ∷
          file (codes "b.o") false true false false 0 (
          null_entry ∷
          refers (codes "foo") ∷
          entry (codes "_start") (Some (codes "V1")) true Global Default Plain 0 Undefined ∷ []) [] ∷ [];
      scripts = [];
      stubs = [];
    };
    later =
        record {
          objects = file (codes "a0.o") false false false false 3 (null_entry ∷ defines (codes "foo") 1 ∷ []) [] ∷ [];
          scripts = [];
          stubs = [];
        } ∷
        record {
          objects =
              file (codes "lib.so") false true false false 3 (
              null_entry ∷
              entry (codes "f") (Some (codes "V2")) true Global Default Plain 0 (Section 0) ∷
              refers (codes "f") ∷ []) [] ∷
              file (codes "a1.o") false false false false 3 (
              null_entry ∷
              entry (codes "x y") (Some (codes "V1")) true Global Default Plain 0 Undefined ∷ []) [] ∷
              file (codes "b2.o") false false false false 2 (
              null_entry ∷
              entry (codes "foo") (Some (codes "V1")) true Global Default Plain 0 Absolute ∷
              defines (codes "f") 1 ∷
              entry (codes "__stop_data") None true Global Default Plain 4 Common ∷ []) [] ∷ [];
          scripts = [];
          stubs = [];
        } ∷
        record {
          objects =
              file (codes "m0.o") false false false false 3 (null_entry ∷ defines (codes "_start") 0 ∷ []) [] ∷
              file (codes "a1.o") false true false false 0 (
              null_entry ∷
              entry (codes "__stop_data") (Some (codes "V2")) false Global Default Plain 0 Undefined ∷
              entry (codes "__wrap_foo") (Some (codes "V2")) true Global Default Plain 18446744073709551615 Common ∷
              entry (codes "f") (Some (codes "V1")) false Global Default Plain 0 Undefined ∷
              entry (codes "_bar") None true Global Default Plain 8 Common ∷
              refers (codes "foo") ∷ []) [] ∷ [];
          scripts = [];
          stubs = [];
        } ∷ [];
    options = record default_options { allow_multiple = true; custom_sections = codes "data" ∷ codes "nosec2" ∷ codes "d2" ∷ [] };
    texts = texts None None;
  });
  outcome = report (
      codes "loaded 0 b0.o\n" ++
      codes "loaded 1 m1.o\n" ++
      codes "loaded 4 a0.o\n" ++
      codes "loaded 6 a1.o\n" ++
      codes "loaded 7 b2.o\n" ++
      codes "loaded 8 m0.o\n" ++
      codes "symbol 0 <unnamed> -> 0 [ABSOLUTE]\n" ++
      codes "symbol 1 <unnamed> -> 0 [ABSOLUTE | NON_INTERPOSABLE]\n" ++
      codes "symbol 2 foo -> 9 [NON_INTERPOSABLE | HAS_NON_IR_REF]\n" ++
      codes "symbol 3 bar -> 8 [ABSOLUTE]\n" ++
      codes "symbol 4 __stop_data -> 0 [ABSOLUTE]\n" ++
      codes "symbol 5 foo -> 9 [ABSOLUTE]\n" ++
      codes "symbol 6 foo -> 9 [ABSOLUTE]\n" ++
      codes "symbol 7 <unnamed> -> 0 [ABSOLUTE | NON_INTERPOSABLE]\n" ++
      codes "symbol 8 bar -> 8 [ABSOLUTE | NON_INTERPOSABLE]\n" ++
      codes "symbol 9 foo -> 9 [NON_INTERPOSABLE | HAS_NON_IR_REF]\n" ++
      codes "symbol 10 foo -> 9 [ABSOLUTE]\n" ++
      codes "symbol 11 <unnamed> -> 0 [ABSOLUTE | NON_INTERPOSABLE]\n" ++
      codes "symbol 12 x y -> 12 [ABSOLUTE | NON_INTERPOSABLE]\n" ++
      codes "symbol 13 <unnamed> -> 0 [ABSOLUTE | NON_INTERPOSABLE]\n" ++
      codes "symbol 14 foo -> 0 [ABSOLUTE]\n" ++
      codes "symbol 15 _start -> 0 [ABSOLUTE]\n" ++
      codes "symbol 16 <unnamed> -> 0 [ABSOLUTE | NON_INTERPOSABLE]\n" ++
      codes "symbol 17 foo -> 9 [NON_INTERPOSABLE]\n" ++
      codes "symbol 18 <unnamed> -> 0 [ABSOLUTE | NON_INTERPOSABLE]\n" ++
      codes "symbol 19 f -> 25 [NON_INTERPOSABLE]\n" ++
      codes "symbol 20 f -> 0 [ABSOLUTE]\n" ++
      codes "symbol 21 <unnamed> -> 0 [ABSOLUTE | NON_INTERPOSABLE]\n" ++
      codes "symbol 22 x y -> 0 [ABSOLUTE]\n" ++
      codes "symbol 23 <unnamed> -> 0 [ABSOLUTE | NON_INTERPOSABLE]\n" ++
      codes "symbol 24 foo -> 9 [ABSOLUTE | NON_INTERPOSABLE]\n" ++
      codes "symbol 25 f -> 25 [NON_INTERPOSABLE]\n" ++
      codes "symbol 26 __stop_data -> 26 [NON_INTERPOSABLE]\n" ++
      codes "symbol 27 <unnamed> -> 0 [ABSOLUTE | NON_INTERPOSABLE]\n" ++
      codes "symbol 28 _start -> 28 [NON_INTERPOSABLE]\n" ++
      codes "symbol 29 <unnamed> -> 0 [ABSOLUTE | NON_INTERPOSABLE]\n" ++
      codes "symbol 30 __stop_data -> 0 [ABSOLUTE]\n" ++
      codes "symbol 31 __wrap_foo -> 31 [NON_INTERPOSABLE]\n" ++
      codes "symbol 32 f -> 0 [ABSOLUTE]\n" ++
      codes "symbol 33 _bar -> 33 [NON_INTERPOSABLE]\n" ++
      codes "symbol 34 foo -> 0 [ABSOLUTE]\n" ++
      codes "undefined 4 __stop_data@V1\n" ++
      codes "undefined 8 bar\n" ++
      codes "undefined 22 x y@V1\n");
}

abbrev pub batches_7024 : Case
batches_7024 = record {
  world = world_of elf_like undemangled (record {
    first = record {
      objects =
          file (codes "b0.o") false false false false 2 (null_entry ∷ []) [] ∷
          file (codes "m1.o") false false false false 3 (null_entry ∷ []) [] ∷
          file (codes "m2.o") false false false false 3 (
          null_entry ∷
          entry (codes "baz") None true Weak Default Plain 8 Common ∷
          entry (codes "foo") None true Weak Default Plain 0 (Section 2) ∷ []) [] ∷
          file (codes "b3.o") false true false false 8 (null_entry ∷ defines (codes "__real_foo") 0 ∷ []) [] ∷
          object (codes "b4.o") [] ∷
          member (codes "b5.o") (
          entry (codes "main") None true Weak Default Plain 0 (Section 3) ∷
          refers (codes "__start_data") ∷
          defines (codes "__wrap_foo") 1 ∷ []) ∷
          file (codes "a6.o") false true false false 8 (
          null_entry ∷
          entry (codes "main") None true Weak Default Plain 0 Undefined ∷
          entry (codes "foo") None true Weak Default Plain 0 Common ∷ []) [] ∷
          file (codes "b7.o") false true true false 0 (
          null_entry ∷
          refers (codes "__wrap_foo") ∷
          refers (codes "foo") ∷ []) [] ∷ [];
      scripts = [];
      stubs = stub (codes "lib0.tbd") [] [] ∷ [];
    };
    later =
        record {
          objects = member (codes "a0.o") (entry (codes "__wrap_foo") None true Weak Default Plain 8 Common ∷ []) ∷ [];
          scripts = [];
          stubs = stub (codes "lib0.tbd") [] [] ∷ stub (codes "lib1.tbd") [] [] ∷ [];
        } ∷ [];
    options = record default_options { custom_sections = (255 ∷ []) ∷ [] ∷ [] };
    texts = texts None None;
  });
  outcome = report (
      codes "loaded 0 b0.o\n" ++
      codes "loaded 1 m1.o\n" ++
      codes "loaded 2 m2.o\n" ++
      codes "loaded 4 b4.o\n" ++
      codes "loaded 5 b5.o\n" ++
      codes "loaded 7 b7.o\n" ++
      codes "symbol 0 <unnamed> -> 0 [ABSOLUTE]\n" ++
      codes "symbol 1 <unnamed> -> 0 [ABSOLUTE | NON_INTERPOSABLE]\n" ++
      codes "symbol 2 <unnamed> -> 0 [ABSOLUTE | NON_INTERPOSABLE]\n" ++
      codes "symbol 3 <unnamed> -> 0 [ABSOLUTE | NON_INTERPOSABLE]\n" ++
      codes "symbol 4 baz -> 4 [NON_INTERPOSABLE]\n" ++
      codes "symbol 5 foo -> 5 [NON_INTERPOSABLE | HAS_NON_IR_REF]\n" ++
      codes "symbol 6 <unnamed> -> 0 [ABSOLUTE | NON_INTERPOSABLE]\n" ++
      codes "symbol 7 __real_foo -> 7 [NON_INTERPOSABLE]\n" ++
      codes "symbol 8 <unnamed> -> 0 [ABSOLUTE | NON_INTERPOSABLE]\n" ++
      codes "symbol 9 <unnamed> -> 0 [ABSOLUTE | NON_INTERPOSABLE]\n" ++
      codes "symbol 10 main -> 10 [NON_INTERPOSABLE]\n" ++
      codes "symbol 11 __start_data -> 11 [ABSOLUTE | NON_INTERPOSABLE]\n" ++
      codes "symbol 12 __wrap_foo -> 12 [NON_INTERPOSABLE | HAS_NON_IR_REF]\n" ++
      codes "symbol 13 <unnamed> -> 0 [ABSOLUTE | NON_INTERPOSABLE]\n" ++
      codes "symbol 14 main -> 0 [ABSOLUTE]\n" ++
      codes "symbol 15 foo -> 5 [NON_INTERPOSABLE]\n" ++
      codes "symbol 16 <unnamed> -> 0 [ABSOLUTE | NON_INTERPOSABLE]\n" ++
      codes "symbol 17 __wrap_foo -> 12 [ABSOLUTE]\n" ++
      codes "symbol 18 foo -> 5 [ABSOLUTE]\n" ++
      codes "symbol 19 <unnamed> -> 0 [ABSOLUTE | NON_INTERPOSABLE]\n" ++
      codes "symbol 20 __wrap_foo -> 12 [NON_INTERPOSABLE]\n" ++
      codes "undefined 11 __start_data\n");
}

abbrev pub batches_7026 : Case
batches_7026 = record {
  world = world_of elf_like undemangled (record {
    first = record {
      objects =
          file (codes "b0.o") false false false false 2 (
          null_entry ∷
          entry (codes "foo") None true Unique Protected Plain 0 (Section 1) ∷
          entry (codes "foo") None true Weak Default Plain 8 Common ∷
          defines (codes "__wrap_foo") 0 ∷ []) (group 1 3 true (0 ∷ []) ∷ []) ∷
          file (codes "a1.so") true false false true 6 (
          null_entry ∷
          entry (codes "__real_bar") None true Weak Default Plain 18446744073709551615 Common ∷
          defines (codes "foo") 4 ∷ []) [] ∷ [];
      scripts =
          linker_script (codes "s0.ld") None None (
          redirect (codes "__real_bar") Script [] false ∷
          redirect (codes "main") Script (codes "foo" ∷ []) false ∷ []) ∷
          linker_script (codes "s1.ld") None None (
          redirect (codes "foo") Script [] true ∷
          redirect (codes "main") Script (codes "__start_d2" ∷ []) false ∷ []) ∷ [];
      stubs = [];
    };
    later = record { objects = []; scripts = linker_script (codes "s0.ld") None None [] ∷ []; stubs = [] } ∷ [];
    options = record default_options { output = DynamicExecutable; allow_multiple = true };
    texts = texts None None;
  });
  outcome = report (
      codes "loaded 0 b0.o\n" ++
      codes "kept 0 0 __wrap_foo\n" ++
      codes "symbol 0 <unnamed> -> 0 [ABSOLUTE]\n" ++
      codes "symbol 1 <unnamed> -> 0 [ABSOLUTE | NON_INTERPOSABLE]\n" ++
      codes "symbol 2 foo -> 2 [NON_INTERPOSABLE | HAS_NON_IR_REF]\n" ++
      codes "symbol 3 foo -> 2 [NON_INTERPOSABLE]\n" ++
      codes "symbol 4 __wrap_foo -> 4 [NON_INTERPOSABLE]\n" ++
      codes "symbol 5 <unnamed> -> 0 [ABSOLUTE | DYNAMIC]\n" ++
      codes "symbol 6 __real_bar -> 6 [DYNAMIC]\n" ++
      codes "symbol 7 foo -> 2 [DYNAMIC]\n" ++
      codes "symbol 8 __real_bar -> 6 [NON_INTERPOSABLE]\n" ++
      codes "symbol 9 main -> 9 [NON_INTERPOSABLE]\n" ++
      codes "symbol 10 foo -> 2 [NON_INTERPOSABLE | DOWNGRADE_TO_LOCAL]\n" ++
      codes "symbol 11 main -> 9 [NON_INTERPOSABLE]\n");
}

abbrev pub batches_7027 : Case
batches_7027 = record {
  world = world_of elf_like undemangled (record {
    first = record {
      objects =
          file (codes "b0.o") false false false false 8 (
          null_entry ∷
          entry (codes "__real_foo") None true Weak Default Plain 0 Undefined ∷
          entry (codes "a\nb") None true Weak Default Plain 0 (Section 6) ∷
          entry (codes "__real_foo") None true Weak Default Plain 0 Undefined ∷ []) [] ∷
          file (codes "m1.so") true true false true 1 (
          null_entry ∷
          entry (codes "__real_foo") None true Global Default Plain 0 Absolute ∷ []) [] ∷
          file (codes "a2.o") false false false false 3 (
          null_entry ∷
          defines (codes "__real_foo") 2 ∷
          entry (codes "__real_foo") None true Weak Default Plain 0 Undefined ∷ []) [] ∷ [];
      scripts = [];
      stubs = [];
    };
    later =
        record { objects = []; scripts = []; stubs = [] } ∷
        record { objects = []; scripts = []; stubs = [] } ∷
        record {
          objects =
              file (codes "a0.o") false false false false 6 (null_entry ∷ refers ((255 ∷ []) ++ codes "\0") ∷ []) [] ∷
              file (codes "a1.o") false true false false 2 (null_entry ∷ []) [] ∷
              file (codes "b2.so") true true false true 3 (
              null_entry ∷
              entry (codes "foo") None true Global Default Func 0 (Section 0) ∷
              entry (codes "a\nb") None true Weak Default Ifunc 0 Absolute ∷
              entry (codes "a\nb") None true Global Default Plain 4 Undefined ∷ []) [] ∷ [];
          scripts = [];
          stubs = [];
        } ∷ [];
    options = record default_options { allow_multiple = true };
    texts = texts None None;
  });
  outcome = report (
      codes "loaded 0 b0.o\n" ++
      codes "loaded 2 a2.o\n" ++
      codes "loaded 3 a0.o\n" ++
      codes "symbol 0 <unnamed> -> 0 [ABSOLUTE]\n" ++
      codes "symbol 1 <unnamed> -> 0 [ABSOLUTE | NON_INTERPOSABLE]\n" ++
      codes "symbol 2 __real_foo -> 9 [ABSOLUTE | UNDEFINED_WEAK]\n" ++
      codes "symbol 3 a\n" ++
      codes "b -> 3 [NON_INTERPOSABLE]\n" ++
      codes "symbol 4 __real_foo -> 9 [ABSOLUTE | UNDEFINED_WEAK]\n" ++
      codes "symbol 5 <unnamed> -> 0 [ABSOLUTE | DYNAMIC]\n" ++
      codes "symbol 6 __real_foo -> 8 [DYNAMIC | HAS_NON_IR_REF]\n" ++
      codes "symbol 7 <unnamed> -> 0 [ABSOLUTE | NON_INTERPOSABLE]\n" ++
      codes "symbol 8 __real_foo -> 8 [NON_INTERPOSABLE]\n" ++
      codes "symbol 9 __real_foo -> 9 [ABSOLUTE | NON_INTERPOSABLE | UNDEFINED_WEAK]\n" ++
      codes "symbol 10 <unnamed> -> 0 [ABSOLUTE | NON_INTERPOSABLE]\n" ++
      codes "symbol 11 INVALID UTF-8([255, 0]) -> 11 [ABSOLUTE | NON_INTERPOSABLE]\n" ++
      codes "symbol 12 <unnamed> -> 0 [ABSOLUTE | NON_INTERPOSABLE]\n" ++
      codes "symbol 13 <unnamed> -> 0 [ABSOLUTE | DYNAMIC]\n" ++
      codes "symbol 14 foo -> 14 [DYNAMIC | DYNAMIC_FUNCTION]\n" ++
      codes "symbol 15 a\n" ++
      codes "b -> 3 [DYNAMIC | DYNAMIC_FUNCTION]\n" ++
      codes "symbol 16 a\n" ++
      codes "b -> 0 [ABSOLUTE | DYNAMIC]\n" ++
      codes "undefined 9 __real_foo\n" ++
      codes "undefined 11 INVALID UTF-8([255, 0])\n");
}

abbrev pub batches_7028 : Case
batches_7028 = record {
  world = world_of elf_like undemangled (record {
    first = record {
      objects =
          file (codes "m0.so") true false false true 0 (null_entry ∷ []) [] ∷
          file (codes "m1.o") false false false false 1 (null_entry ∷ defines (codes "foo") 0 ∷ []) [] ∷
          file (codes "a2.so") true true true false 0 (
          null_entry ∷
          entry (codes "f") (Some (codes "V3")) true Global Default Plain 0 Undefined ∷
          refers (codes "bar") ∷ []) [] ∷ [];
      scripts = [];
      stubs = stub (codes "lib0.tbd") [] [] ∷ [];
    };
    later =
        record {
          objects =
              object (codes "m0.o") (
              entry (codes "baz") (Some (codes "V1")) false Global Default Plain 0 Undefined ∷ []) ∷ [];
          scripts =
              linker_script (codes "s0.ld") None None (
              redirect (codes "_foo") Provide [] false ∷
              redirect (codes "bar") Provide [] true ∷
              redirect (codes "baz") Provide (codes "f" ∷ []) false ∷ []) ∷
              linker_script (codes "s1.ld") None None [] ∷ [];
          stubs =
              stub (codes "lib0.tbd") (codes "bar" ∷ codes "baz" ∷ []) (codes "f" ∷ codes "f" ∷ []) ∷
              stub (codes "lib1.tbd") (codes "f" ∷ codes "bar" ∷ []) (codes "f" ∷ []) ∷ [];
        } ∷ [];
    options = record default_options { wrap = codes "f" ∷ []; force_undefined = codes "baz" ∷ [] };
    texts = texts None None;
  });
  outcome = report (
      codes "loaded 1 m1.o\n" ++
      codes "loaded 2 a2.so\n" ++
      codes "loaded 3 m0.o\n" ++
      codes "symbol 0 <unnamed> -> 0 [ABSOLUTE]\n" ++
      codes "symbol 1 baz -> 14 [ABSOLUTE]\n" ++
      codes "symbol 2 <unnamed> -> 0 [ABSOLUTE | DYNAMIC]\n" ++
      codes "symbol 3 <unnamed> -> 0 [ABSOLUTE | NON_INTERPOSABLE]\n" ++
      codes "symbol 4 foo -> 4 [NON_INTERPOSABLE]\n" ++
      codes "symbol 5 <unnamed> -> 0 [ABSOLUTE | DYNAMIC]\n" ++
      codes "symbol 6 f -> 0 [ABSOLUTE | DYNAMIC]\n" ++
      codes "symbol 7 bar -> 13 [ABSOLUTE | DYNAMIC]\n" ++
      codes "symbol 8 <unnamed> -> 0 [ABSOLUTE | NON_INTERPOSABLE]\n" ++
      codes "symbol 9 baz -> 0 [ABSOLUTE]\n" ++
      codes "symbol 10 _foo -> 10 [NON_INTERPOSABLE]\n" ++
      codes "symbol 11 bar -> 13 [NON_INTERPOSABLE | DOWNGRADE_TO_LOCAL | HAS_NON_IR_REF]\n" ++
      codes "symbol 12 baz -> 14 [NON_INTERPOSABLE]\n" ++
      codes "symbol 13 bar -> 13 [DYNAMIC]\n" ++
      codes "symbol 14 baz -> 14 [DYNAMIC]\n" ++
      codes "symbol 15 f -> 15 [DYNAMIC | HAS_NON_IR_REF]\n" ++
      codes "symbol 16 f -> 15 [DYNAMIC]\n" ++
      codes "symbol 17 f -> 15 [DYNAMIC]\n" ++
      codes "symbol 18 bar -> 13 [DYNAMIC]\n" ++
      codes "symbol 19 f -> 15 [DYNAMIC]\n" ++
      codes "undefined 6 f@V3\n" ++
      codes "undefined 9 baz@V1\n");
}

abbrev pub batches_7031 : Case
batches_7031 = record {
  world = world_of elf_like undemangled (record {
    first = record {
      objects =
          file (codes "a.o") false true false false 3 (
          null_entry ∷
          entry (255 ∷ []) None true Local Default Plain 4 (Section 2) ∷
          refers (codes "_foo") ∷ []) [] ∷
          file (codes "b1.o") false false false false 0 (
          null_entry ∷
          refers (255 ∷ []) ∷
          entry (codes "baz") None true Global Default Plain 8 Common ∷ []) [] ∷ [];
      scripts =
          linker_script (codes "s0.ld") None None (redirect (codes "_foo") Script (codes "baz" ∷ []) true ∷ []) ∷
          linker_script (codes "s1.ld") None None (redirect (255 ∷ []) Provide [] false ∷ []) ∷ [];
      stubs = [];
    };
    later =
        record {
          objects = [];
          scripts =
              linker_script (codes "s0.ld") None None (
              redirect (255 ∷ []) Script [] false ∷
              redirect (codes "baz") Script ((255 ∷ []) ∷ []) false ∷
              redirect (codes "baz") Script [] false ∷ []) ∷ [];
          stubs = [];
        } ∷ [];
    options = record default_options {
      output = SharedObject;
      allow_multiple = true;
      files_per_group = 2;
      wrap = codes "baz" ∷ [];
      custom_sections = [] ∷ codes "nosec2" ∷ codes "d2" ∷ [];
    };
    texts = texts (Some (codes "V2 { global: _foo; ba[rz]; extern \"C++\" { \"foo\"; }; };")) None;
  });
  outcome = report (
      codes "loaded 1 b1.o\n" ++
      codes "symbol 0 <unnamed> -> 0 [ABSOLUTE]\n" ++
      codes "symbol 1 <unnamed> -> 0 [ABSOLUTE | NON_INTERPOSABLE]\n" ++
      codes "symbol 2 INVALID UTF-8([255]) -> 2 [NON_INTERPOSABLE]\n" ++
      codes "symbol 3 _foo -> 0 [ABSOLUTE]\n" ++
      codes "symbol 4 <unnamed> -> 0 [ABSOLUTE | NON_INTERPOSABLE]\n" ++
      codes "symbol 5 INVALID UTF-8([255]) -> 8 [ABSOLUTE]\n" ++
      codes "symbol 6 baz -> 6 [HAS_NON_IR_REF]\n" ++
      codes "symbol 7 _foo -> 7 [NON_INTERPOSABLE | DOWNGRADE_TO_LOCAL]\n" ++
      codes "symbol 8 INVALID UTF-8([255]) -> 8 [NON_INTERPOSABLE | HAS_NON_IR_REF]\n" ++
      codes "symbol 9 INVALID UTF-8([255]) -> 8 [NON_INTERPOSABLE]\n" ++
      codes "symbol 10 baz -> 6 [NON_INTERPOSABLE]\n" ++
      codes "symbol 11 baz -> 6 [NON_INTERPOSABLE]\n" ++
      codes "version 6 2\n");
}

abbrev pub batches_7034 : Case
batches_7034 = record {
  world = world_of elf_like undemangled (record {
    first = record {
      objects =
          file (codes "b0.o") false false false false 2 (null_entry ∷ []) [] ∷
          file (codes "b1.o") false false false false 6 (
          null_entry ∷
          entry (codes "baz") (Some (codes "V1")) true Global Default Plain 0 Absolute ∷ []) [] ∷
          file (codes "b2.so") true true false true 6 (null_entry ∷ []) [] ∷
          file (codes "a3.o") false true true false 6 (null_entry ∷ []) [] ∷
          file (codes "a4.o") false false false false 2 (
          null_entry ∷
          entry (codes "foo") (Some (codes "V2")) true Global Protected Plain 0 Undefined ∷ []) [] ∷
          file (codes "a5.o") false true false false 1 (
          null_entry ∷
          entry [] (Some (codes "V1")) false Global Hidden Plain 0 (Section 0) ∷
          entry [] (Some []) false Unique Default Plain 8 Common ∷ []) [] ∷ [];
      scripts =
          linker_script (codes "s0.ld") None None (redirect (codes "baz") Script (codes "baz" ∷ []) false ∷ []) ∷
          linker_script (codes "s1.ld") None None [] ∷ [];
      stubs = [];
    };
    later =
        record {
          objects =
              file (codes "m0.so") true true false false 2 (
              null_entry ∷
              entry (codes "foo") None true Unique Default Plain 0 Undefined ∷
              entry (codes "baz") (Some (codes "V2")) false Global Hidden Plain 18446744073709551615 Common ∷
              entry (codes "main") (Some (codes "V2")) true Weak Default Plain 0 Undefined ∷
              entry (codes "baz") (Some (codes "V2")) true Global Default Plain 0 (Section 0) ∷
              entry (codes "baz") None true Weak Default Plain 0 (Section 1) ∷ []) [] ∷ [];
          scripts =
              linker_script (codes "s0.ld") None None (
              redirect (codes "main") Script [] false ∷
              redirect (codes "baz") Script (codes "main" ∷ codes "baz" ∷ []) false ∷
              redirect (codes "__wrap_bar") Script (codes "foo" ∷ codes "foo" ∷ []) false ∷ []) ∷
              linker_script (codes "s1.ld") (Some (codes "__start_nosec")) None (
              redirect (codes "foo") Script [] false ∷
              redirect (codes "__start_nosec") Script ([] ∷ []) false ∷
              redirect (codes "__wrap_bar") Script [] false ∷ []) ∷ [];
          stubs = [];
        } ∷ [];
    options = record default_options {
      output = DynamicExecutable;
      allow_multiple = true;
      force_export = codes "main" ∷ [];
      custom_sections = (255 ∷ []) ∷ codes "data" ∷ [] ∷ [];
    };
    texts = texts None (Some (codes " { extern \"C++\" /* c; } */ { }; } "));
  });
  outcome = refusal (codes "Failed to parse symbol export list: Syntax error at 32");
}

abbrev pub batches_7035 : Case
batches_7035 = record {
  world = world_of elf_like undemangled (record {
    first = record {
      objects = file (codes "a0.o") false true false false 0 (null_entry ∷ refers (codes "main") ∷ []) [] ∷ [];
      scripts = [];
      stubs = [];
    };
    later =
        record {
          objects =
              file (codes "a0.o") false true false false 1 (
              null_entry ∷
              entry (codes "foo") None true Global Protected Plain 8 Common ∷ []) [] ∷ [];
          scripts = [];
          stubs = [];
        } ∷ [];
    options = record default_options { output = SharedObject };
    texts = texts None None;
  });
  outcome = report (
      codes "symbol 0 <unnamed> -> 0 [ABSOLUTE]\n" ++
      codes "symbol 1 <unnamed> -> 0 [ABSOLUTE | NON_INTERPOSABLE]\n" ++
      codes "symbol 2 main -> 0 [ABSOLUTE]\n" ++
      codes "symbol 3 <unnamed> -> 0 [ABSOLUTE | NON_INTERPOSABLE]\n" ++
      codes "symbol 4 foo -> 4 [NON_INTERPOSABLE]\n");
}

abbrev pub batches_7036 : Case
batches_7036 = record {
  world = world_of elf_like undemangled (record {
    first = record {
      objects =
          file (codes "a0.o") false false false false 6 (
          null_entry ∷
          entry (codes "foo") (Some (codes "V2")) false Global Default Plain 0 Undefined ∷
          entry (codes "__start_d2") (Some (codes "V2")) true Global Protected Plain 0 Undefined ∷
          entry (codes "__start_d2") None true Weak Hidden Plain 1 Common ∷
          entry (codes "main") (Some (codes "V1")) false Unique Default Plain 0 (Section 1) ∷
          entry (codes "foo") (Some (codes "V1")) false Global Hidden Plain 0 (Section 2) ∷ []) (
          group 5 1 true (2 ∷ 3 ∷ []) ∷
          group 4 1 true [] ∷
          group 1 1 true (0 ∷ []) ∷ []) ∷
          file (codes "m1.o") false false false false 0 (
          null_entry ∷
          entry (codes "foo") (Some (codes "V1")) false Global Default Plain 0 Undefined ∷
          refers (codes "__start_d2") ∷ []) [] ∷
          file (codes "c.o") true false false false 4 (
          null_entry ∷
          entry (codes "foo") (Some (codes "V1")) true Weak Default Plain 0 Undefined ∷
          entry (codes "__start_d2") (Some (codes "V1")) true Global Default Plain 0 Undefined ∷ []) (
          group 0 0 true [] ∷
          group 2 1 true (1 ∷ []) ∷ []) ∷
          file (codes "m3.o") false false false false 3 (
          null_entry ∷
          entry (codes "main") None true Global Default Plain 4 (Section 1) ∷ []) [] ∷
          file (codes "a4.o") false true false false 0 (
          null_entry ∷
          entry (codes "foo") None true Global Hidden Plain 0 Undefined ∷
          entry (codes "foo") (Some (codes "V1")) true Global Protected Plain 0 Undefined ∷ []) [] ∷
          file (codes "b5.so") true true false false 2 (
          null_entry ∷
          entry (codes "__start_d2") (Some (codes "V3")) false Weak Default Plain 0 Undefined ∷ []) (
          group 0 0 true (1 ∷ []) ∷ []) ∷ [];
      scripts = [];
      stubs = [];
    };
    later =
        record {
          objects =
              file (codes "c.o") false false false false 0 (
              null_entry ∷
              refers (codes "foo") ∷
              entry (codes "main") (Some (codes "V1")) true Weak Default Plain 0 Undefined ∷ []) [] ∷
              file (codes "m1.o") false true true false 8 (
              null_entry ∷
              entry (codes "main") (Some (codes "V3")) true Weak Default Plain 0 (Section 3) ∷ []) [] ∷ [];
          scripts = [];
          stubs = [];
        } ∷
        record {
          objects =
              file (codes "a0.so") true false false false 2 (
              null_entry ∷
              entry (codes "foo") (Some (255 ∷ [])) true Global Default Plain 0 (Section 1) ∷
              entry (codes "foo") None true Weak Protected Plain 0 Undefined ∷ []) [] ∷ [];
          scripts = [];
          stubs = [];
        } ∷
        record { objects = []; scripts = []; stubs = [] } ∷
        record { objects = []; scripts = []; stubs = [] } ∷ [];
    options = record default_options {
      output = DynamicExecutable;
      allow_multiple = true;
      force_export = codes "main" ∷ codes "main" ∷ [];
      linker_symbols = internal (codes "main") (SectionEnd 0) false ∷ internal (codes "foo") (SectionStart 7) true ∷ [];
    };
    texts = texts (Some (codes "V3 { global: f\\oo; bar; b*; };")) (Some (codes "{ foo; b*; };"));
  });
  outcome = report (
      codes "loaded 0 a0.o\n" ++
      codes "loaded 1 m1.o\n" ++
      codes "loaded 2 c.o\n" ++
      codes "loaded 3 m3.o\n" ++
      codes "loaded 6 c.o\n" ++
      codes "loaded 7 m1.o\n" ++
      codes "loaded 8 a0.so\n" ++
      codes "kept 0 0 foo\n" ++
      codes "symbol 0 <unnamed> -> 0 [ABSOLUTE]\n" ++
      codes "symbol 1 main -> 16 [NON_INTERPOSABLE]\n" ++
      codes "symbol 2 foo -> 28 [NON_INTERPOSABLE | DOWNGRADE_TO_LOCAL | HAS_NON_IR_REF]\n" ++
      codes "symbol 3 <unnamed> -> 0 [ABSOLUTE | NON_INTERPOSABLE]\n" ++
      codes "symbol 4 foo -> 0 [ABSOLUTE]\n" ++
      codes "symbol 5 __start_d2 -> 0 [ABSOLUTE | NON_INTERPOSABLE]\n" ++
      codes "symbol 6 __start_d2 -> 6 [NON_INTERPOSABLE | HAS_NON_IR_REF]\n" ++
      codes "symbol 7 main -> 7 [NON_INTERPOSABLE | HAS_NON_IR_REF]\n" ++
      codes "symbol 8 foo -> 8 [NON_INTERPOSABLE | HAS_NON_IR_REF]\n" ++
      codes "symbol 9 <unnamed> -> 0 [ABSOLUTE | NON_INTERPOSABLE]\n" ++
      codes "symbol 10 foo -> 8 [ABSOLUTE]\n" ++
      codes "symbol 11 __start_d2 -> 6 [ABSOLUTE]\n" ++
      codes "symbol 12 <unnamed> -> 0 [ABSOLUTE | DYNAMIC]\n" ++
      codes "symbol 13 foo -> 8 [ABSOLUTE | DYNAMIC]\n" ++
      codes "symbol 14 __start_d2 -> 0 [ABSOLUTE | DYNAMIC]\n" ++
      codes "symbol 15 <unnamed> -> 0 [ABSOLUTE | NON_INTERPOSABLE]\n" ++
      codes "symbol 16 main -> 16 [NON_INTERPOSABLE]\n" ++
      codes "symbol 17 <unnamed> -> 0 [ABSOLUTE | NON_INTERPOSABLE]\n" ++
      codes "symbol 18 foo -> 0 [ABSOLUTE | NON_INTERPOSABLE]\n" ++
      codes "symbol 19 foo -> 0 [ABSOLUTE | NON_INTERPOSABLE]\n" ++
      codes "symbol 20 <unnamed> -> 0 [ABSOLUTE | DYNAMIC]\n" ++
      codes "symbol 21 __start_d2 -> 0 [ABSOLUTE | DYNAMIC]\n" ++
      codes "symbol 22 <unnamed> -> 0 [ABSOLUTE | NON_INTERPOSABLE]\n" ++
      codes "symbol 23 foo -> 28 [ABSOLUTE]\n" ++
      codes "symbol 24 main -> 7 [ABSOLUTE]\n" ++
      codes "symbol 25 <unnamed> -> 0 [ABSOLUTE | NON_INTERPOSABLE]\n" ++
      codes "symbol 26 main -> 16 [NON_INTERPOSABLE]\n" ++
      codes "symbol 27 <unnamed> -> 0 [ABSOLUTE | DYNAMIC]\n" ++
      codes "symbol 28 foo -> 28 [DYNAMIC]\n" ++
      codes "symbol 29 foo -> 28 [ABSOLUTE | DYNAMIC]\n" ++
      codes "undefined 4 foo@V2\n" ++
      codes "undefined 5 __start_d2@V2\n" ++
      codes "undefined 14 __start_d2@V1\n");
}
