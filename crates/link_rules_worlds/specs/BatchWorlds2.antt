-- Generated worlds of several batches, and what an independent program answers to each.
-- Written by `tools/worlds.py` from `tools/batch_worlds.jsonl`.
use Rattle.std.specs.Prelude.{[], ◌∷◌, true, false, Some, None, codes, ◌++◌}
use Rattle.link_flags.specs.declared.visibility.Visibility.TheVariants.{Default, Protected, Hidden}
use Rattle.link_input.specs.declared.symbol_entry.Place.TheVariants.{Undefined, Absolute, Common, Section}
use Rattle.link_input.specs.declared.symbol_entry.SymbolBinding.TheVariants.{Local, Global, Weak, Unique}
use Rattle.link_input.specs.declared.symbol_entry.SymbolKind.TheVariants.{Plain, Func, Ifunc, Tls}
use Rattle.link_input.specs.declared.options.OutputKind.TheVariants.{SharedObject, Partial}
use Rattle.link_input.specs.declared.internal_symbols.RedirectKind.TheVariants.{DefSym, Script, Provide}
use Rattle.link_input.specs.declared.internal_symbols.SymbolPlacement.TheVariants.{TlsEnd, SectionGroupEnd}
use Rattle.link_input.specs.Defaults.{default_options}
use Rattle.link_rules.specs.Rules.{elf_like, mach_like}
use Rattle.link_rules.specs.World.{world_of}
use Rattle.link_rules.specs.Building.{undemangled, entry, null_entry, refers, defines, group, file, object, member, internal, redirect, linker_script, stub, texts}
use Rattle.link_rules_worlds.specs.Computing.{Case, report, refusal}

abbrev pub batches_7007 : Case
batches_7007 = record {
  world = world_of elf_like undemangled (record {
    first = record {
      objects =
          file (codes "a0.so") true false false false 2 (null_entry ∷ []) [] ∷
          file (codes "a1.o") false true false false 8 (
          null_entry ∷
          entry (codes "__start_nosec") None true Global Protected Plain 0 Undefined ∷ []) [] ∷
          file (codes "m2.so") true true false true 8 (
          null_entry ∷
          defines ((255 ∷ []) ++ codes "\0") 2 ∷
          defines (codes "a\nb") 4 ∷
          entry (codes "bar") None true Global Hidden Func 0 Undefined ∷ []) [] ∷
          file (codes "m3.so") true true false false 3 (null_entry ∷ []) [] ∷
          file (codes "b4.o") false false false false 3 (
          null_entry ∷
          entry (codes "__start_nosec") None true Global Default Ifunc 0 (Section 0) ∷
          entry (codes "baz") None true Global Hidden Tls 0 (Section 0) ∷ []) [] ∷
          file (codes "b5.o") false false false false 0 (
          null_entry ∷
          entry ((255 ∷ []) ++ codes "\0") None true Global Default Plain 0 Absolute ∷ []) [] ∷
          file (codes "b6.o") false false false false 2 (
          null_entry ∷
          entry (codes "__start_nosec") None true Global Default Tls 0 (Section 0) ∷
          entry (codes "__start_nosec") None true Global Hidden Plain 0 (Section 0) ∷ []) [] ∷
          file (codes "a7.so") true false false false 1 (null_entry ∷ defines (codes "a\nb") 0 ∷ []) [] ∷
          file (codes "m8.o") false false false false 2 (null_entry ∷ []) [] ∷
          object (codes "m9.o") (defines (codes "baz") 0 ∷ []) ∷
          file (codes "m10.so") true true true false 2 (null_entry ∷ []) [] ∷
          file (codes "m11.o") false true false false 2 (null_entry ∷ []) [] ∷
          file (codes "m12.o") false true false false 8 (null_entry ∷ refers (codes "__start_nosec") ∷ []) [] ∷
          file (codes "m13.o") false false false false 3 (null_entry ∷ []) [] ∷
          file (codes "m14.so") true true false true 0 (
          null_entry ∷
          refers (codes "baz") ∷
          refers (codes "__start_nosec") ∷ []) [] ∷
          file (codes "a15.o") false true false false 0 (
          null_entry ∷
          entry ((255 ∷ []) ++ codes "\0") None true Global Protected Plain 0 Undefined ∷
          entry (codes "bar") None true Global Hidden Func 0 Undefined ∷
          refers (codes "__start_nosec") ∷
          refers (codes "a\nb") ∷
          refers (codes "a\nb") ∷ []) [] ∷
          file (codes "m16.o") false false false false 8 (
          null_entry ∷
          entry ((255 ∷ []) ++ codes "\0") None true Global Hidden Plain 0 Undefined ∷ []) [] ∷
          file (codes "m17.o") false false false false 2 (null_entry ∷ []) [] ∷ [];
      scripts = [];
      stubs = [];
    };
    later =
        record { objects = []; scripts = []; stubs = [] } ∷
        record {
          objects = file (codes "m0.o") false true false false 8 (null_entry ∷ []) [] ∷ [];
          scripts = [];
          stubs = [];
        } ∷ [];
    options = record default_options {
      output = Partial;
      allow_multiple = true;
      wrap = codes "a\nb" ∷ codes "bar" ∷ codes "__start_nosec" ∷ [];
      force_undefined = codes "__start_nosec" ∷ [];
    };
    texts = texts (Some (codes "V2 { global: local: }; V1 { }; V3 { global: _foo; _foo; };")) None;
  });
  outcome = report (
      codes "loaded 0 a0.so\n" ++
      codes "loaded 4 b4.o\n" ++
      codes "loaded 5 b5.o\n" ++
      codes "loaded 6 b6.o\n" ++
      codes "loaded 7 a7.so\n" ++
      codes "loaded 8 m8.o\n" ++
      codes "loaded 9 m9.o\n" ++
      codes "loaded 10 m10.so\n" ++
      codes "loaded 13 m13.o\n" ++
      codes "loaded 16 m16.o\n" ++
      codes "loaded 17 m17.o\n" ++
      codes "symbol 0 <unnamed> -> 0 [ABSOLUTE]\n" ++
      codes "symbol 1 __start_nosec -> 11 [ABSOLUTE]\n" ++
      codes "symbol 2 <unnamed> -> 0 [ABSOLUTE | DYNAMIC]\n" ++
      codes "symbol 3 <unnamed> -> 0 [ABSOLUTE | NON_INTERPOSABLE]\n" ++
      codes "symbol 4 __start_nosec -> 0 [ABSOLUTE | NON_INTERPOSABLE]\n" ++
      codes "symbol 5 <unnamed> -> 0 [ABSOLUTE | DYNAMIC]\n" ++
      codes "symbol 6 INVALID UTF-8([255, 0]) -> 14 [DYNAMIC]\n" ++
      codes "symbol 7 a\n" ++
      codes "b -> 19 [DYNAMIC]\n" ++
      codes "symbol 8 bar -> 0 [ABSOLUTE | DYNAMIC | DYNAMIC_FUNCTION]\n" ++
      codes "symbol 9 <unnamed> -> 0 [ABSOLUTE | DYNAMIC]\n" ++
      codes "symbol 10 <unnamed> -> 0 [ABSOLUTE | NON_INTERPOSABLE]\n" ++
      codes "symbol 11 __start_nosec -> 11 [IFUNC | NON_INTERPOSABLE | DOWNGRADE_TO_LOCAL]\n" ++
      codes "symbol 12 baz -> 12 [NON_INTERPOSABLE | DOWNGRADE_TO_LOCAL]\n" ++
      codes "symbol 13 <unnamed> -> 0 [ABSOLUTE | NON_INTERPOSABLE]\n" ++
      codes "symbol 14 INVALID UTF-8([255, 0]) -> 14 [ABSOLUTE | NON_INTERPOSABLE | DOWNGRADE_TO_LOCAL | HAS_NON_" ++ codes "IR_REF]\n" ++
      codes "symbol 15 <unnamed> -> 0 [ABSOLUTE | NON_INTERPOSABLE]\n" ++
      codes "symbol 16 __start_nosec -> 11 [NON_INTERPOSABLE | DOWNGRADE_TO_LOCAL]\n" ++
      codes "symbol 17 __start_nosec -> 11 [NON_INTERPOSABLE | DOWNGRADE_TO_LOCAL]\n" ++
      codes "symbol 18 <unnamed> -> 0 [ABSOLUTE | DYNAMIC]\n" ++
      codes "symbol 19 a\n" ++
      codes "b -> 19 [DYNAMIC]\n" ++
      codes "symbol 20 <unnamed> -> 0 [ABSOLUTE | NON_INTERPOSABLE]\n" ++
      codes "symbol 21 <unnamed> -> 0 [ABSOLUTE | NON_INTERPOSABLE]\n" ++
      codes "symbol 22 baz -> 12 [NON_INTERPOSABLE | DOWNGRADE_TO_LOCAL]\n" ++
      codes "symbol 23 <unnamed> -> 0 [ABSOLUTE | DYNAMIC]\n" ++
      codes "symbol 24 <unnamed> -> 0 [ABSOLUTE | NON_INTERPOSABLE]\n" ++
      codes "symbol 25 <unnamed> -> 0 [ABSOLUTE | NON_INTERPOSABLE]\n" ++
      codes "symbol 26 __start_nosec -> 0 [ABSOLUTE]\n" ++
      codes "symbol 27 <unnamed> -> 0 [ABSOLUTE | NON_INTERPOSABLE]\n" ++
      codes "symbol 28 <unnamed> -> 0 [ABSOLUTE | DYNAMIC]\n" ++
      codes "symbol 29 baz -> 0 [ABSOLUTE | DYNAMIC]\n" ++
      codes "symbol 30 __start_nosec -> 0 [ABSOLUTE | DYNAMIC]\n" ++
      codes "symbol 31 <unnamed> -> 0 [ABSOLUTE | NON_INTERPOSABLE]\n" ++
      codes "symbol 32 INVALID UTF-8([255, 0]) -> 0 [ABSOLUTE | NON_INTERPOSABLE]\n" ++
      codes "symbol 33 bar -> 0 [ABSOLUTE | NON_INTERPOSABLE]\n" ++
      codes "symbol 34 __start_nosec -> 0 [ABSOLUTE]\n" ++
      codes "symbol 35 a\n" ++
      codes "b -> 0 [ABSOLUTE]\n" ++
      codes "symbol 36 a\n" ++
      codes "b -> 0 [ABSOLUTE]\n" ++
      codes "symbol 37 <unnamed> -> 0 [ABSOLUTE | NON_INTERPOSABLE]\n" ++
      codes "symbol 38 INVALID UTF-8([255, 0]) -> 14 [ABSOLUTE | NON_INTERPOSABLE]\n" ++
      codes "symbol 39 <unnamed> -> 0 [ABSOLUTE | NON_INTERPOSABLE]\n" ++
      codes "symbol 40 <unnamed> -> 0 [ABSOLUTE | NON_INTERPOSABLE]\n");
}

abbrev pub batches_7009 : Case
batches_7009 = record {
  world = world_of elf_like undemangled (record {
    first = record {
      objects =
          file (codes "a0.o") false true false false 1 (
          null_entry ∷
          entry (codes "foo") None true Weak Default Plain 0 Absolute ∷
          defines (codes "bar") 0 ∷ []) [] ∷
          file (codes "a1.o") false true false false 0 (
          null_entry ∷
          refers (codes "foo") ∷
          entry (codes "foo") None true Global Default Func 8 Undefined ∷
          entry (codes "foo") None true Weak Default Plain 0 Undefined ∷
          refers (codes "foo") ∷
          entry (codes "foo") None true Global Default Ifunc 0 Undefined ∷ []) [] ∷ [];
      scripts = [];
      stubs = [];
    };
    later =
        record {
          objects =
              object (codes "a0.o") (
              entry (codes "foo") None true Weak Default Plain 0 Undefined ∷
              entry (codes "bar") None true Global Default Plain 18446744073709551615 Common ∷ []) ∷
              file (codes "b1.o") false false false false 2 (
              null_entry ∷
              entry (codes "bar") None true Weak Default Plain 0 (Section 0) ∷
              entry (codes "bar") None true Weak Default Tls 18446744073709551615 Common ∷ []) [] ∷ [];
          scripts = linker_script (codes "s0.ld") (Some (codes "foo")) (Some (codes "V3 { local: }; V1 { local: }V3;")) [] ∷ [];
          stubs = [];
        } ∷
        record {
          objects =
              file (codes "a0.o") false false false false 6 (
              null_entry ∷
              defines (codes "foo") 3 ∷
              entry (codes "bar") None true Unique Default Func 0 (Section 3) ∷ []) [] ∷
              file (codes "a1.o") false false false false 1 (
              null_entry ∷
              refers (codes "bar") ∷
              defines (codes "foo") 0 ∷
              refers (codes "foo") ∷
              entry (codes "bar") None true Weak Default Plain 0 Undefined ∷
              entry (codes "foo") None true Weak Default Plain 0 (Section 0) ∷ []) [] ∷
              file (codes "b2.o") false true false false 6 (null_entry ∷ []) [] ∷ [];
          scripts =
              linker_script (codes "s0.ld") None None (
              redirect (codes "bar") Script [] false ∷
              redirect (codes "foo") Provide (codes "bar" ∷ codes "bar" ∷ []) false ∷ []) ∷
              linker_script (codes "s1.ld") None None [] ∷ [];
          stubs = [];
        } ∷ [];
    options = record default_options { output = Partial; allow_multiple = true; wrap = codes "foo" ∷ [] };
    texts = texts None None;
  });
  outcome = refusal (codes "Version script in a later batch");
}

abbrev pub batches_7010 : Case
batches_7010 = record {
  world = world_of elf_like undemangled (record {
    first = record {
      objects =
          file (codes "m0.so") true true false true 6 (
          null_entry ∷
          entry (codes "__start_d2") (Some (codes "V1")) false Global Default Plain 0 Undefined ∷
          entry (codes "__start_d2") (Some (codes "V1")) false Global Default Plain 0 Undefined ∷ []) [] ∷ [];
      scripts = [];
      stubs = [];
    };
    later =
        record {
          objects =
              file (codes "b0.o") false true false false 3 (
              null_entry ∷
              entry (codes "x y") (Some (codes "V1")) true Global Default Plain 0 (Section 1) ∷
              entry ((226 ∷ 130 ∷ 172 ∷ []) ++ codes "foo") (Some (codes "V2")) true Global Default Plain 0 (Section 0) ∷ []) [] ∷
              file (codes "x\ny") false true false false 0 (
              null_entry ∷
              entry (codes "__start_d2") None true Weak Default Plain 0 Absolute ∷
              entry (codes "__start_d2") (Some (codes "V2")) true Global Default Plain 18446744073709551615 Common ∷ []) [] ∷ [];
          scripts = linker_script (codes "s0.ld") (Some (codes "foo")) None [] ∷ linker_script (codes "s1.ld") None None [] ∷ [];
          stubs = stub (codes "lib0.tbd") (codes "x y" ∷ []) [] ∷ stub (codes "lib1.tbd") [] (codes "__start_d2" ∷ []) ∷ [];
        } ∷
        record {
          objects =
              file (codes "a0.o") false false false false 8 (
              null_entry ∷
              entry (codes "__start_d2") (Some (codes "V1")) true Unique Default Plain 0 Undefined ∷
              entry (codes "x y") (Some (codes "V1")) false Global Default Plain 0 Undefined ∷
              entry (codes "foo") (Some (codes "V1")) true Global Default Plain 0 Undefined ∷ []) [] ∷ [];
          scripts =
              linker_script (codes "s0.ld") None None [] ∷
              linker_script (codes "s1.ld") None None (
              redirect ((226 ∷ 130 ∷ 172 ∷ []) ++ codes "foo") Script (codes "x y" ∷ []) false ∷ []) ∷ [];
          stubs = stub (codes "lib0.tbd") (codes "foo" ∷ codes "__start_d2" ∷ []) [] ∷ [];
        } ∷
        record {
          objects =
              file (codes "a0.o") false true false false 3 (
              null_entry ∷
              entry (codes "x y") (Some (codes "V1")) true Weak Default Plain 0 Undefined ∷
              entry ((226 ∷ 130 ∷ 172 ∷ []) ++ codes "foo") (Some (codes "V2")) false Weak Default Plain 0 Absolute ∷
              entry ((226 ∷ 130 ∷ 172 ∷ []) ++ codes "foo") (Some (codes "V2")) true Global Default Plain 0 (Section 0) ∷
              entry (codes "foo") None true Global Default Plain 0 Absolute ∷
              entry (codes "foo") (Some (codes "V1")) false Weak Default Plain 0 Undefined ∷ []) [] ∷
              file (codes "a1.o") false false false false 8 (null_entry ∷ []) [] ∷ [];
          scripts = linker_script (codes "s0.ld") None None [] ∷ [];
          stubs = [];
        } ∷
        record {
          objects =
              file (codes "b0.o") false false false false 3 (
              null_entry ∷
              entry (codes "x y") (Some (codes "V2")) false Unique Default Plain 0 Undefined ∷ []) [] ∷ [];
          scripts =
              linker_script (codes "s0.ld") (Some (codes "__start_d2")) None (
              redirect (codes "foo") Provide [] false ∷ []) ∷ [];
          stubs = stub (codes "lib0.tbd") (((226 ∷ 130 ∷ 172 ∷ []) ++ codes "foo") ∷ codes "x y" ∷ []) [] ∷ [];
        } ∷ [];
    options = record default_options {
      allow_multiple = true;
      wrap = codes "x y" ∷ codes "foo" ∷ codes "foo" ∷ [];
      custom_sections = codes "d2" ∷ codes "nosec2" ∷ codes "data" ∷ [];
    };
    texts = texts (Some (codes "V1 { };")) None;
  });
  outcome = report (
      codes "loaded 1 b0.o\n" ++
      codes "loaded 2 x\n" ++
      codes "y\n" ++
      codes "loaded 3 a0.o\n" ++
      codes "loaded 5 a1.o\n" ++
      codes "loaded 6 b0.o\n" ++
      codes "symbol 0 <unnamed> -> 0 [ABSOLUTE]\n" ++
      codes "symbol 1 <unnamed> -> 0 [ABSOLUTE | DYNAMIC]\n" ++
      codes "symbol 2 __start_d2 -> 0 [ABSOLUTE | DYNAMIC]\n" ++
      codes "symbol 3 __start_d2 -> 0 [ABSOLUTE | DYNAMIC]\n" ++
      codes "symbol 4 <unnamed> -> 0 [ABSOLUTE | NON_INTERPOSABLE]\n" ++
      codes "symbol 5 x y -> 5 [NON_INTERPOSABLE | HAS_NON_IR_REF]\n" ++
      codes "symbol 6 " ++ (226 ∷ 130 ∷ 172 ∷ []) ++ codes "foo -> 6 [NON_INTERPOSABLE]\n" ++
      codes "symbol 7 <unnamed> -> 0 [ABSOLUTE | NON_INTERPOSABLE]\n" ++
      codes "symbol 8 __start_d2 -> 9 [ABSOLUTE | NON_INTERPOSABLE | HAS_NON_IR_REF]\n" ++
      codes "symbol 9 __start_d2 -> 9 [NON_INTERPOSABLE]\n" ++
      codes "symbol 10 x y -> 5 [DYNAMIC]\n" ++
      codes "symbol 11 __start_d2 -> 9 [DYNAMIC]\n" ++
      codes "symbol 12 <unnamed> -> 0 [ABSOLUTE | NON_INTERPOSABLE]\n" ++
      codes "symbol 13 __start_d2 -> 0 [ABSOLUTE]\n" ++
      codes "symbol 14 x y -> 5 [ABSOLUTE]\n" ++
      codes "symbol 15 foo -> 0 [ABSOLUTE]\n" ++
      codes "symbol 16 " ++ (226 ∷ 130 ∷ 172 ∷ []) ++ codes "foo -> 6 [NON_INTERPOSABLE]\n" ++
      codes "symbol 17 foo -> 17 [DYNAMIC | HAS_NON_IR_REF]\n" ++
      codes "symbol 18 __start_d2 -> 9 [DYNAMIC]\n" ++
      codes "symbol 19 <unnamed> -> 0 [ABSOLUTE | NON_INTERPOSABLE]\n" ++
      codes "symbol 20 x y -> 0 [ABSOLUTE]\n" ++
      codes "symbol 21 " ++ (226 ∷ 130 ∷ 172 ∷ []) ++ codes "foo -> 6 [ABSOLUTE | NON_INTERPOSABLE]\n" ++
      codes "symbol 22 " ++ (226 ∷ 130 ∷ 172 ∷ []) ++ codes "foo -> 6 [NON_INTERPOSABLE]\n" ++
      codes "symbol 23 foo -> 17 [ABSOLUTE | NON_INTERPOSABLE]\n" ++
      codes "symbol 24 foo -> 0 [ABSOLUTE]\n" ++
      codes "symbol 25 <unnamed> -> 0 [ABSOLUTE | NON_INTERPOSABLE]\n" ++
      codes "symbol 26 <unnamed> -> 0 [ABSOLUTE | NON_INTERPOSABLE]\n" ++
      codes "symbol 27 x y -> 0 [ABSOLUTE]\n" ++
      codes "symbol 28 foo -> 17 [NON_INTERPOSABLE]\n" ++
      codes "symbol 29 " ++ (226 ∷ 130 ∷ 172 ∷ []) ++ codes "foo -> 6 [DYNAMIC]\n" ++
      codes "symbol 30 x y -> 5 [DYNAMIC]\n" ++
      codes "undefined 13 __start_d2@V1\n" ++
      codes "undefined 15 foo@V1\n" ++
      codes "undefined 27 x y@V2\n");
}

abbrev pub batches_7011 : Case
batches_7011 = record {
  world = world_of elf_like undemangled (record {
    first = record {
      objects =
          file (codes "m0.o") false false false false 6 (
          null_entry ∷
          entry (codes "_bar") None true Weak Default Ifunc 0 Undefined ∷
          entry (195 ∷ 169 ∷ []) (Some (codes "V1")) false Global Default Plain 0 (Section 3) ∷ []) [] ∷ [];
      scripts = [];
      stubs = [];
    };
    later =
        record { objects = member (codes "b0.o") [] ∷ []; scripts = []; stubs = [] } ∷
        record {
          objects =
              file (codes "m0.o") false true false false 2 (
              null_entry ∷
              refers (195 ∷ 169 ∷ []) ∷
              entry (195 ∷ 169 ∷ []) None true Weak Default Tls 0 (Section 0) ∷ []) [] ∷ [];
          scripts = [];
          stubs = [];
        } ∷
        record {
          objects =
              file (codes "b0.o") false false false false 6 (
              null_entry ∷
              entry (codes "foo") (Some (codes "V1")) true Weak Default Func 0 Absolute ∷
              defines (codes "foo") 4 ∷
              refers (codes "foo") ∷ []) [] ∷ [];
          scripts = [];
          stubs = [];
        } ∷
        record { objects = []; scripts = []; stubs = [] } ∷ [];
    options = record default_options {
      output = SharedObject;
      default_entry = Some (codes "foo");
      force_export = codes "foo" ∷ (195 ∷ 169 ∷ []) ∷ [];
      linker_symbols = internal (195 ∷ 169 ∷ []) (TlsEnd 0) true ∷ [];
      custom_sections = codes "nosec2" ∷ [];
    };
    texts = texts None None;
  });
  outcome = refusal (codes "Symbol " ++ (195 ∷ 169 ∷ []) ++ codes " has undefined version V1");
}

abbrev pub batches_7014 : Case
batches_7014 = record {
  world = world_of elf_like undemangled (record {
    first = record {
      objects =
          object (codes "a0.o") (
          defines (codes "__real_bar") 1 ∷
          refers (codes "foo") ∷
          refers (codes "__real_bar") ∷
          refers (codes "__real_bar") ∷
          defines (codes "foo") 3 ∷ []) ∷
          file (codes "b1.so") true false false true 8 (null_entry ∷ defines (codes "foo") 6 ∷ []) [] ∷ [];
      scripts = [];
      stubs = [];
    };
    later =
        record {
          objects =
              file (codes "a0.o") false false false false 8 (
              null_entry ∷
              refers (codes "foo") ∷
              defines (codes "foo") 3 ∷
              defines (codes "__real_bar") 4 ∷ []) [] ∷
              file (codes "x\ny") false true false false 0 (null_entry ∷ refers (codes "foo") ∷ []) [] ∷
              file (codes "m2.so") true false false true 8 (
              null_entry ∷
              refers (codes "foo") ∷
              entry (codes "__real_bar") None true Global Default Plain 0 Absolute ∷
              entry (codes "foo") None true Global Default Plain 8 Common ∷
              entry (codes "foo") None true Global Default Plain 18446744073709551615 Common ∷
              entry (codes "foo") None true Global Default Plain 0 Absolute ∷ []) [] ∷ [];
          scripts = [];
          stubs = [];
        } ∷ [];
    options = record default_options { entry = Some (codes "foo"); allow_multiple = true };
    texts = texts None None;
  });
  outcome = report (
      codes "loaded 0 a0.o\n" ++
      codes "loaded 2 a0.o\n" ++
      codes "symbol 0 <unnamed> -> 0 [ABSOLUTE]\n" ++
      codes "symbol 1 <unnamed> -> 0 [ABSOLUTE | NON_INTERPOSABLE]\n" ++
      codes "symbol 2 __real_bar -> 2 [NON_INTERPOSABLE | HAS_NON_IR_REF]\n" ++
      codes "symbol 3 foo -> 6 [ABSOLUTE]\n" ++
      codes "symbol 4 __real_bar -> 2 [ABSOLUTE]\n" ++
      codes "symbol 5 __real_bar -> 2 [ABSOLUTE]\n" ++
      codes "symbol 6 foo -> 6 [NON_INTERPOSABLE | HAS_NON_IR_REF]\n" ++
      codes "symbol 7 <unnamed> -> 0 [ABSOLUTE | DYNAMIC]\n" ++
      codes "symbol 8 foo -> 6 [DYNAMIC]\n" ++
      codes "symbol 9 <unnamed> -> 0 [ABSOLUTE | NON_INTERPOSABLE]\n" ++
      codes "symbol 10 foo -> 6 [ABSOLUTE]\n" ++
      codes "symbol 11 foo -> 6 [NON_INTERPOSABLE]\n" ++
      codes "symbol 12 __real_bar -> 2 [NON_INTERPOSABLE]\n" ++
      codes "symbol 13 <unnamed> -> 0 [ABSOLUTE | NON_INTERPOSABLE]\n" ++
      codes "symbol 14 foo -> 0 [ABSOLUTE]\n" ++
      codes "symbol 15 <unnamed> -> 0 [ABSOLUTE | DYNAMIC]\n" ++
      codes "symbol 16 foo -> 0 [ABSOLUTE | DYNAMIC]\n" ++
      codes "symbol 17 __real_bar -> 2 [DYNAMIC]\n" ++
      codes "symbol 18 foo -> 6 [DYNAMIC]\n" ++
      codes "symbol 19 foo -> 6 [DYNAMIC]\n" ++
      codes "symbol 20 foo -> 6 [DYNAMIC]\n");
}

abbrev pub batches_7015 : Case
batches_7015 = record {
  world = world_of elf_like undemangled (record {
    first = record {
      objects =
          file (codes "b0.o") false false false false 6 (null_entry ∷ []) (
          group 5 0 true [] ∷
          group 4 0 true (2 ∷ 0 ∷ []) ∷
          group 3 0 true (1 ∷ []) ∷ []) ∷
          file (codes "b1.o") false true false false 8 (null_entry ∷ []) (
          group 2 0 true (3 ∷ 4 ∷ []) ∷
          group 7 0 true [] ∷
          group 5 0 true (1 ∷ []) ∷ []) ∷
          file (codes "m2.so") true false false true 3 (
          null_entry ∷
          refers (codes "baz") ∷
          entry (codes "__start_nosec") (Some (codes "V1")) false Global Default Plain 0 Undefined ∷
          entry (codes "fzo") (Some (codes "V2")) true Global Default Plain 0 Absolute ∷
          entry (codes "foo") None true Weak Protected Plain 0 (Section 0) ∷
          entry (codes "fzo") (Some (codes "V1")) true Global Hidden Plain 0 (Section 2) ∷ []) (
          group 0 1 true (1 ∷ []) ∷ []) ∷ [];
      scripts = [];
      stubs = [];
    };
    later =
        record {
          objects = [];
          scripts = linker_script (codes "s0.ld") None None (redirect (codes "foo") Script (codes "f" ∷ []) false ∷ []) ∷ [];
          stubs = [];
        } ∷
        record {
          objects =
              file [] false true false false 1 (
              null_entry ∷
              entry (codes "__start_nosec") (Some (codes "V2")) true Weak Default Plain 0 (Section 0) ∷
              refers (codes "foo") ∷ []) [] ∷ [];
          scripts = [];
          stubs = [];
        } ∷ [];
    options = record default_options { force_export = codes "foo " ∷ [] };
    texts = texts (Some (
        codes "{ /**/global:\nmain;\r\n\"foo\"; /**/foo; local: /**/*; };# c };\n")) (Some (codes "{ foo; b*; };"));
  });
  outcome = report (
      codes "loaded 0 b0.o\n" ++
      codes "kept 0 0 \n" ++
      codes "symbol 0 <unnamed> -> 0 [ABSOLUTE]\n" ++
      codes "symbol 1 <unnamed> -> 0 [ABSOLUTE | NON_INTERPOSABLE]\n" ++
      codes "symbol 2 <unnamed> -> 0 [ABSOLUTE | NON_INTERPOSABLE]\n" ++
      codes "symbol 3 <unnamed> -> 0 [ABSOLUTE | DYNAMIC]\n" ++
      codes "symbol 4 baz -> 0 [ABSOLUTE | DYNAMIC]\n" ++
      codes "symbol 5 __start_nosec -> 0 [ABSOLUTE | DYNAMIC]\n" ++
      codes "symbol 6 fzo -> 6 [DYNAMIC]\n" ++
      codes "symbol 7 foo -> 7 [DYNAMIC]\n" ++
      codes "symbol 8 fzo -> 0 [DYNAMIC]\n" ++
      codes "symbol 9 foo -> 7 [NON_INTERPOSABLE]\n" ++
      codes "symbol 10 <unnamed> -> 0 [ABSOLUTE | NON_INTERPOSABLE]\n" ++
      codes "symbol 11 __start_nosec -> 11 [NON_INTERPOSABLE | DOWNGRADE_TO_LOCAL]\n" ++
      codes "symbol 12 foo -> 0 [ABSOLUTE]\n");
}

abbrev pub batches_7018 : Case
batches_7018 = record {
  world = world_of mach_like undemangled (record {
    first = record {
      objects =
          file (codes "m0.o") false false false false 3 [] [] ∷
          file (codes "a1.o") false false false false 2 (defines (codes "_bar") 1 ∷ []) [] ∷
          file (codes "m2.o") false false false false 4 (
          defines (codes "a\nb") 1 ∷
          entry (codes "_foo") None true Global Protected Plain 0 Undefined ∷ []) [] ∷
          file (codes "b3.o") false false false false 1 (
          entry (codes "foo") None true Weak Default Plain 0 Undefined ∷ []) [] ∷ [];
      scripts = [];
      stubs = [];
    };
    later =
        record { objects = file (codes "b0.o") false false false false 4 [] [] ∷ []; scripts = []; stubs = [] } ∷
        record {
          objects =
              file (codes "b0.o") false false false false 4 (
              entry (codes "__start_d2") None true Global Hidden Plain 0 Undefined ∷ []) [] ∷
              file (codes "b1.o") false false false false 4 (
              entry (codes "__wrap_foo") None true Unique Hidden Plain 0 (Section 1) ∷ []) [] ∷
              file (codes "a2.o") false false false false 2 (defines (codes "foo") 1 ∷ []) [] ∷ [];
          scripts = [];
          stubs = [];
        } ∷
        record {
          objects =
              file (codes "x\ny") false false false false 2 (
              entry (codes "__start_d2") None true Global Hidden Plain 0 Undefined ∷ []) [] ∷
              file (codes "a1.o") false false false false 4 (
              entry (codes "foo") None true Weak Default Plain 0 (Section 1) ∷ []) [] ∷
              file (codes "b2.o") false false false false 6 (
              entry (codes "__start_d2") None true Global Hidden Plain 0 (Section 3) ∷
              defines (codes "__wrap_foo") 5 ∷ []) [] ∷ [];
          scripts = [];
          stubs = [];
        } ∷ [];
    options = record default_options { output = SharedObject; allow_multiple = true; wrap = codes "foo" ∷ [] };
    texts = texts (Some (codes "V2 { global: }; V1 { global: baz; f*; local: }V2; V3 { local: main; b*; \"foo\"; }V1;")) None;
  });
  outcome = report (
      codes "loaded 0 m0.o\n" ++
      codes "loaded 1 a1.o\n" ++
      codes "loaded 2 m2.o\n" ++
      codes "loaded 3 b3.o\n" ++
      codes "loaded 4 b0.o\n" ++
      codes "loaded 5 b0.o\n" ++
      codes "loaded 6 b1.o\n" ++
      codes "loaded 7 a2.o\n" ++
      codes "loaded 8 x\n" ++
      codes "y\n" ++
      codes "loaded 9 a1.o\n" ++
      codes "loaded 10 b2.o\n" ++
      codes "symbol 0 <unnamed> -> 0 [ABSOLUTE]\n" ++
      codes "symbol 1 _bar -> 1 []\n" ++
      codes "symbol 2 a\n" ++
      codes "b -> 2 []\n" ++
      codes "symbol 3 _foo -> 3 [ABSOLUTE | NON_INTERPOSABLE]\n" ++
      codes "symbol 4 foo -> 11 [ABSOLUTE]\n" ++
      codes "symbol 5 __start_d2 -> 10 [ABSOLUTE | NON_INTERPOSABLE]\n" ++
      codes "symbol 6 __wrap_foo -> 11 [NON_INTERPOSABLE | DOWNGRADE_TO_LOCAL | HAS_NON_IR_REF]\n" ++
      codes "symbol 7 foo -> 7 [NON_INTERPOSABLE | DOWNGRADE_TO_LOCAL]\n" ++
      codes "symbol 8 __start_d2 -> 10 [ABSOLUTE | NON_INTERPOSABLE]\n" ++
      codes "symbol 9 foo -> 7 [NON_INTERPOSABLE | DOWNGRADE_TO_LOCAL]\n" ++
      codes "symbol 10 __start_d2 -> 10 [NON_INTERPOSABLE | DOWNGRADE_TO_LOCAL | HAS_NON_IR_REF]\n" ++
      codes "symbol 11 __wrap_foo -> 11 [NON_INTERPOSABLE | DOWNGRADE_TO_LOCAL]\n" ++
      codes "version 7 4\n" ++
      codes "undefined 3 _foo\n");
}

abbrev pub batches_7019 : Case
batches_7019 = record {
  world = world_of elf_like undemangled (record {
    first = record {
      objects =
          file (codes "m" ++ (195 ∷ 169 ∷ []) ++ codes ".o") false true false false 8 (
          null_entry ∷
          entry (codes "__wrap_bar") None true Weak Hidden Plain 0 (Section 7) ∷
          entry (codes "a\nb") None true Local Default Plain 0 (Section 6) ∷ []) [] ∷
          file (codes "a1.o") false false false false 0 (
          null_entry ∷
          entry (codes "foo") None true Global Default Plain 8 Common ∷ []) [] ∷
          object (codes "m2.o") (
          entry (codes "_foo") None true Global Hidden Plain 0 Undefined ∷
          refers (codes "foo") ∷ []) ∷
          file (codes "m3.o") false false false false 1 (
          null_entry ∷
          entry (codes "foo") None true Global Hidden Plain 0 (Section 0) ∷ []) [] ∷
          file (codes "m4.o") false false false false 3 (
          null_entry ∷
          refers (codes "__wrap_bar") ∷
          entry (codes "foo") None true Global Protected Plain 0 Undefined ∷
          entry (codes "__wrap_bar") None true Local Default Plain 0 (Section 2) ∷ []) [] ∷
          member (codes "b5.o") (
          refers (codes "__start_data") ∷
          refers [] ∷
          entry (codes "a\nb") None true Global Default Plain 8 Undefined ∷
          entry (codes "a\nb") None true Weak Protected Plain 0 Undefined ∷
          defines (codes "__wrap_bar") 3 ∷ []) ∷ [];
      scripts = [];
      stubs = [];
    };
    later = record { objects = []; scripts = []; stubs = [] } ∷ [];
    options = record default_options { output = Partial; default_entry = Some []; allow_multiple = true };
    texts = texts None (Some (codes "{ foo; b*; };"));
  });
  outcome = report (
      codes "loaded 0 m" ++ (195 ∷ 169 ∷ []) ++ codes ".o\n" ++
      codes "loaded 1 a1.o\n" ++
      codes "loaded 2 m2.o\n" ++
      codes "loaded 3 m3.o\n" ++
      codes "loaded 4 m4.o\n" ++
      codes "symbol 0 <unnamed> -> 0 [ABSOLUTE]\n" ++
      codes "symbol 1 <unnamed> -> 0 [ABSOLUTE | NON_INTERPOSABLE]\n" ++
      codes "symbol 2 __wrap_bar -> 2 [NON_INTERPOSABLE | DOWNGRADE_TO_LOCAL | HAS_NON_IR_REF]\n" ++
      codes "symbol 3 a\n" ++
      codes "b -> 3 [NON_INTERPOSABLE]\n" ++
      codes "symbol 4 <unnamed> -> 0 [ABSOLUTE | NON_INTERPOSABLE]\n" ++
      codes "symbol 5 foo -> 10 [NON_INTERPOSABLE | DOWNGRADE_TO_LOCAL | HAS_NON_IR_REF]\n" ++
      codes "symbol 6 <unnamed> -> 0 [ABSOLUTE | NON_INTERPOSABLE]\n" ++
      codes "symbol 7 _foo -> 7 [ABSOLUTE | NON_INTERPOSABLE]\n" ++
      codes "symbol 8 foo -> 10 [ABSOLUTE]\n" ++
      codes "symbol 9 <unnamed> -> 0 [ABSOLUTE | NON_INTERPOSABLE]\n" ++
      codes "symbol 10 foo -> 10 [NON_INTERPOSABLE | DOWNGRADE_TO_LOCAL]\n" ++
      codes "symbol 11 <unnamed> -> 0 [ABSOLUTE | NON_INTERPOSABLE]\n" ++
      codes "symbol 12 __wrap_bar -> 2 [ABSOLUTE]\n" ++
      codes "symbol 13 foo -> 10 [ABSOLUTE | NON_INTERPOSABLE]\n" ++
      codes "symbol 14 __wrap_bar -> 14 [NON_INTERPOSABLE]\n" ++
      codes "symbol 15 <unnamed> -> 0 [ABSOLUTE | NON_INTERPOSABLE]\n" ++
      codes "symbol 16 __start_data -> 0 [ABSOLUTE]\n" ++
      codes "symbol 17 <unnamed> -> 0 [ABSOLUTE]\n" ++
      codes "symbol 18 a\n" ++
      codes "b -> 0 [ABSOLUTE]\n" ++
      codes "symbol 19 a\n" ++
      codes "b -> 0 [ABSOLUTE | NON_INTERPOSABLE]\n" ++
      codes "symbol 20 __wrap_bar -> 2 [NON_INTERPOSABLE | DOWNGRADE_TO_LOCAL]\n" ++
      codes "undefined 7 _foo\n");
}

abbrev pub batches_7020 : Case
batches_7020 = record {
  world = world_of mach_like undemangled (record {
    first = record {
      objects =
          file (codes "a0.o") false true false false 0 (
          refers (codes "x y") ∷
          entry [] (Some (codes "V2")) true Global Default Plain 0 Undefined ∷
          entry (codes "f") None true Weak Hidden Plain 0 Undefined ∷
          entry (codes "__start_d2") None true Weak Default Plain 0 Undefined ∷
          entry (codes "foo") (Some (codes "V2")) true Global Protected Plain 0 Undefined ∷ []) [] ∷
          file (codes "b1.o") false true false false 2 (
          entry [] (Some (codes "V2")) true Unique Default Plain 0 Undefined ∷ []) (
          group 0 0 true (1 ∷ []) ∷ []) ∷ [];
      scripts = linker_script (codes "s0.ld") None None [] ∷ linker_script (codes "s1.ld") None None [] ∷ [];
      stubs = [];
    };
    later =
        record {
          objects = file (codes "b0.o") false false false false 6 [] [] ∷ [];
          scripts = linker_script (codes "s0.ld") None None (redirect (codes "f") Script [] true ∷ []) ∷ [];
          stubs = [];
        } ∷ [];
    options = record default_options {
      entry = Some (codes "__start_d2");
      default_entry = Some (codes "_foo");
      files_per_group = 2;
      force_undefined = codes "__real_foo" ∷ [];
      defsym = redirect [] DefSym [] false ∷ [];
      linker_symbols =
          internal (codes "__start_d2") (SectionGroupEnd 0) true ∷
          internal (codes "__wrap_bar") (SectionGroupEnd 0) false ∷ [];
    };
    texts = texts (Some (codes "{ };")) None;
  });
  outcome = report (
      codes "loaded 2 b0.o\n" ++
      codes "symbol 0 <unnamed> -> 0 [ABSOLUTE]\n" ++
      codes "symbol 1 __start_d2 -> 1 [NON_INTERPOSABLE | DOWNGRADE_TO_LOCAL | HAS_NON_IR_REF]\n" ++
      codes "symbol 2 __wrap_bar -> 2 [NON_INTERPOSABLE]\n" ++
      codes "symbol 3 __real_foo -> 3 [ABSOLUTE]\n" ++
      codes "symbol 4 <unnamed> -> 4 [ABSOLUTE | NON_INTERPOSABLE]\n" ++
      codes "symbol 5 x y -> 0 [ABSOLUTE]\n" ++
      codes "symbol 6 <unnamed> -> 0 [ABSOLUTE]\n" ++
      codes "symbol 7 f -> 0 [ABSOLUTE | NON_INTERPOSABLE]\n" ++
      codes "symbol 8 __start_d2 -> 0 [ABSOLUTE]\n" ++
      codes "symbol 9 foo -> 0 [ABSOLUTE | NON_INTERPOSABLE]\n" ++
      codes "symbol 10 <unnamed> -> 0 [ABSOLUTE]\n" ++
      codes "symbol 11 f -> 11 [NON_INTERPOSABLE | DOWNGRADE_TO_LOCAL]\n");
}

abbrev pub batches_7021 : Case
batches_7021 = record {
  world = world_of mach_like undemangled (record {
    first = record {
      objects =
          file (codes "b0.so") true false false true 4 (
          refers (codes "baz") ∷
          entry (codes "baz") None true Weak Default Plain 0 Undefined ∷
          entry (codes "foo") None true Global Default Func 0 Undefined ∷ []) [] ∷
          file (codes "m1.so") true false false false 2 (
          entry (codes "foo") None true Global Default Func 0 Undefined ∷
          entry (codes "__wrap_bar") None true Weak Default Plain 0 (Section 0) ∷ []) [] ∷ [];
      scripts = [];
      stubs = [];
    };
    later =
        record {
          objects =
              file (codes "b0.o") false false false false 2 (
              entry (codes "__wrap_bar") None true Weak Default Tls 0 Undefined ∷
              entry (codes "baz") None true Global Default Ifunc 0 Absolute ∷
              refers (codes "baz") ∷ []) [] ∷ [];
          scripts =
              linker_script (codes "s0.ld") (Some (codes "__wrap_bar")) None (
              redirect (codes "__wrap_bar") Script (codes "__wrap_bar" ∷ codes "foo" ∷ []) false ∷
              redirect (codes "foo") Script [] false ∷
              redirect (codes "__wrap_bar") Provide (codes "foo" ∷ codes "baz" ∷ []) true ∷ []) ∷ [];
          stubs = [];
        } ∷ [];
    options = record default_options {
      output = Partial;
      entry = Some (codes "baz");
      force_undefined = codes "__wrap_bar" ∷ codes "baz" ∷ [];
    };
    texts = texts None None;
  });
  outcome = report (
      codes "loaded 1 m1.so\n" ++
      codes "loaded 2 b0.o\n" ++
      codes "symbol 0 <unnamed> -> 0 [ABSOLUTE]\n" ++
      codes "symbol 1 __wrap_bar -> 7 [ABSOLUTE]\n" ++
      codes "symbol 2 baz -> 9 [ABSOLUTE]\n" ++
      codes "symbol 3 baz -> 0 [ABSOLUTE | DYNAMIC]\n" ++
      codes "symbol 4 baz -> 0 [ABSOLUTE | DYNAMIC]\n" ++
      codes "symbol 5 foo -> 0 [ABSOLUTE | DYNAMIC | DYNAMIC_FUNCTION]\n" ++
      codes "symbol 6 foo -> 12 [ABSOLUTE | DYNAMIC | DYNAMIC_FUNCTION]\n" ++
      codes "symbol 7 __wrap_bar -> 7 [DYNAMIC | HAS_NON_IR_REF]\n" ++
      codes "symbol 8 __wrap_bar -> 7 [ABSOLUTE]\n" ++
      codes "symbol 9 baz -> 9 [ABSOLUTE | NON_INTERPOSABLE | HAS_NON_IR_REF]\n" ++
      codes "symbol 10 baz -> 9 [ABSOLUTE]\n" ++
      codes "symbol 11 __wrap_bar -> 7 [NON_INTERPOSABLE]\n" ++
      codes "symbol 12 foo -> 12 [NON_INTERPOSABLE | HAS_NON_IR_REF]\n" ++
      codes "symbol 13 __wrap_bar -> 7 [NON_INTERPOSABLE | DOWNGRADE_TO_LOCAL]\n");
}
