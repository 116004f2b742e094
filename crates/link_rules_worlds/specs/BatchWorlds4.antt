-- Generated worlds of several batches, and what an independent program answers to each.
-- Written by `tools/worlds.py` from `tools/batch_worlds.jsonl`.
use Rattle.std.specs.Prelude.{[], ◌∷◌, true, false, Some, None, codes, ◌++◌}
use Rattle.link_flags.specs.declared.visibility.Visibility.TheVariants.{Default, Protected, Hidden}
use Rattle.link_input.specs.declared.symbol_entry.Place.TheVariants.{Undefined, Absolute, Common, Section}
use Rattle.link_input.specs.declared.symbol_entry.SymbolBinding.TheVariants.{Local, Global, Weak, Unique}
use Rattle.link_input.specs.declared.symbol_entry.SymbolKind.TheVariants.{Plain, Func, Ifunc, Tls}
use Rattle.link_input.specs.declared.options.OutputKind.TheVariants.{DynamicExecutable, SharedObject}
use Rattle.link_input.specs.declared.internal_symbols.RedirectKind.TheVariants.{DefSym, Script}
use Rattle.link_input.specs.declared.internal_symbols.SymbolPlacement.TheVariants.{SectionStart, TlsEnd, SectionGroupEnd, LoadBaseAddress}
use Rattle.link_input.specs.Defaults.{default_options}
use Rattle.link_rules.specs.Rules.{elf_like, mach_like}
use Rattle.link_rules.specs.World.{world_of}
use Rattle.link_rules.specs.Building.{undemangled, entry, null_entry, refers, defines, group, file, object, member, internal, redirect, linker_script, stub, texts}
use Rattle.link_rules_worlds.specs.Computing.{Case, report, refusal}

abbrev pub batches_7037 : Case
batches_7037 = record {
  world = world_of mach_like undemangled (record {
    first = record {
      objects =
          file (codes "b0.o") false false false false 1 (
          entry (codes "main") None true Global Default Plain 0 Common ∷ []) [] ∷ [];
      scripts = [];
      stubs = [];
    };
    later =
        record {
          objects =
              file (codes "m0.o") false true false false 8 (
              refers (codes "a\nb") ∷
              entry (codes "foo") None true Weak Default Plain 0 Undefined ∷
              refers (codes "__wrap_foo") ∷ []) [] ∷
              file (codes "m1.o") false true false false 1 (
              entry (codes "__wrap_foo") None true Global Default Plain 0 Absolute ∷ []) [] ∷
              file (codes "a2.o") false true true false 0 (
              entry (codes "main") None true Weak Default Plain 0 Undefined ∷
              refers (codes "foo") ∷ []) [] ∷ [];
          scripts = [];
          stubs = [];
        } ∷
        record { objects = []; scripts = []; stubs = [] } ∷
        record {
          objects =
              file (codes "m0.o") false false false false 2 (
              defines (codes "__wrap_foo") 1 ∷ []) (group 0 0 true (1 ∷ []) ∷ []) ∷ [];
          scripts = [];
          stubs = [];
        } ∷
        record {
          objects =
              file (codes "m0.o") false true false false 0 (
              entry (codes "foo") None true Weak Default Plain 1 Common ∷ []) [] ∷
              file (codes "m1.o") false false false false 2 (
              refers (codes "__wrap_bar") ∷
              entry (codes "main") None true Unique Default Plain 0 Undefined ∷
              entry (codes "a\nb") None true Weak Default Plain 0 Absolute ∷
              defines (codes "a\nb") 1 ∷
              defines (codes "foo") 1 ∷ []) [] ∷ [];
          scripts = [];
          stubs = [];
        } ∷ [];
    options = record default_options { custom_sections = codes "nosec2" ∷ (255 ∷ []) ∷ codes "d2" ∷ [] };
    texts = texts (Some (codes "{ local: extern \"C++\" { _foo; }; b*; };")) None;
  });
  outcome = report (
      codes "loaded 0 b0.o\n" ++
      codes "loaded 3 a2.o\n" ++
      codes "loaded 4 m0.o\n" ++
      codes "loaded 5 m0.o\n" ++
      codes "loaded 6 m1.o\n" ++
      codes "kept 4 0 __wrap_foo\n" ++
      codes "symbol 0 <unnamed> -> 0 [ABSOLUTE]\n" ++
      codes "symbol 1 main -> 1 [NON_INTERPOSABLE | HAS_NON_IR_REF]\n" ++
      codes "symbol 2 a\n" ++
      codes "b -> 0 [ABSOLUTE]\n" ++
      codes "symbol 3 foo -> 0 [ABSOLUTE]\n" ++
      codes "symbol 4 __wrap_foo -> 0 [ABSOLUTE]\n" ++
      codes "symbol 5 __wrap_foo -> 8 [ABSOLUTE | NON_INTERPOSABLE]\n" ++
      codes "symbol 6 main -> 1 [ABSOLUTE]\n" ++
      codes "symbol 7 foo -> 14 [ABSOLUTE]\n" ++
      codes "symbol 8 __wrap_foo -> 8 [NON_INTERPOSABLE]\n" ++
      codes "symbol 9 foo -> 14 [NON_INTERPOSABLE | HAS_NON_IR_REF]\n" ++
      codes "symbol 10 __wrap_bar -> 10 [ABSOLUTE | NON_INTERPOSABLE]\n" ++
      codes "symbol 11 main -> 1 [ABSOLUTE]\n" ++
      codes "symbol 12 a\n" ++
      codes "b -> 13 [ABSOLUTE | NON_INTERPOSABLE]\n" ++
      codes "symbol 13 a\n" ++
      codes "b -> 13 [NON_INTERPOSABLE]\n" ++
      codes "symbol 14 foo -> 14 [NON_INTERPOSABLE]\n" ++
      codes "undefined 10 __wrap_bar\n");
}

abbrev pub batches_7038 : Case
batches_7038 = record {
  world = world_of mach_like undemangled (record {
    first = record {
      objects =
          file (codes "m0.o") false false false false 0 (
          entry (codes "foo") (Some (codes "V2")) true Global Default Plain 0 Undefined ∷
          refers (codes "x y") ∷ []) [] ∷
          file (codes "a1.o") false true false false 3 (
          entry (codes "__start_nosec") (Some (codes "V1")) false Global Default Plain 0 (Section 2) ∷ []) [] ∷
          file (codes "m2.o") false false false false 8 (refers (codes "foo") ∷ defines (codes "main") 7 ∷ []) (
          group 3 1 true (1 ∷ []) ∷
          group 6 0 false (7 ∷ []) ∷
          group 5 0 true [] ∷ []) ∷
          file (codes "m3.o") false false false false 2 (
          refers (codes "__start_nosec") ∷
          entry (codes "foo") (Some (255 ∷ [])) true Global Default Plain 0 Undefined ∷ []) (
          group 0 1 false [] ∷
          group 1 0 true [] ∷ []) ∷ [];
      scripts = [];
      stubs = [];
    };
    later =
        record {
          objects =
              file (codes "m0.o") false true false false 0 (
              entry (codes "_start") (Some (255 ∷ [])) true Global Default Plain 0 Undefined ∷ []) [] ∷
              file (codes "a1.o") false true false false 1 (
              entry (codes "__start_nosec") (Some (codes "V1")) true Global Default Plain 0 Undefined ∷ []) [] ∷ [];
          scripts = [];
          stubs = [];
        } ∷
        record {
          objects = file (codes "b0.o") false false false false 6 [] [] ∷ [];
          scripts = linker_script (codes "s0.ld") None None (redirect (codes "_start") Script [] true ∷ []) ∷ [];
          stubs = [];
        } ∷
        record { objects = []; scripts = []; stubs = [] } ∷
        record { objects = file (codes "a0.o") false true false false 6 [] [] ∷ []; scripts = []; stubs = [] } ∷ [];
    options = record default_options { allow_multiple = true; wrap = codes "__wrap_foo" ∷ [] };
    texts = texts None None;
  });
  outcome = report (
      codes "loaded 0 m0.o\n" ++
      codes "loaded 2 m2.o\n" ++
      codes "loaded 3 m3.o\n" ++
      codes "loaded 6 b0.o\n" ++
      codes "kept 2 0 main\n" ++
      codes "kept 2 2 foo\n" ++
      codes "kept 3 1 __start_nosec\n" ++
      codes "symbol 0 <unnamed> -> 0 [ABSOLUTE]\n" ++
      codes "symbol 1 foo -> 0 [ABSOLUTE]\n" ++
      codes "symbol 2 x y -> 2 [ABSOLUTE | NON_INTERPOSABLE]\n" ++
      codes "symbol 3 __start_nosec -> 3 [NON_INTERPOSABLE]\n" ++
      codes "symbol 4 foo -> 4 [ABSOLUTE | NON_INTERPOSABLE]\n" ++
      codes "symbol 5 main -> 5 [NON_INTERPOSABLE]\n" ++
      codes "symbol 6 __start_nosec -> 6 [ABSOLUTE | NON_INTERPOSABLE]\n" ++
      codes "symbol 7 foo -> 0 [ABSOLUTE]\n" ++
      codes "symbol 8 _start -> 0 [ABSOLUTE]\n" ++
      codes "symbol 9 __start_nosec -> 0 [ABSOLUTE]\n" ++
      codes "symbol 10 _start -> 10 [NON_INTERPOSABLE | DOWNGRADE_TO_LOCAL]\n" ++
      codes "undefined 1 foo@V2\n" ++
      codes "undefined 2 x y\n" ++
      codes "undefined 4 foo\n" ++
      codes "undefined 6 __start_nosec\n" ++
      codes "undefined 7 foo@INVALID UTF-8([255])\n");
}

abbrev pub batches_7040 : Case
batches_7040 = record {
  world = world_of elf_like undemangled (record {
    first = record {
      objects =
          file (codes "m0.o") false true true false 4 (null_entry ∷ refers (codes "fzo") ∷ []) [] ∷
          file (codes "a1.o") false true false false 6 (
          null_entry ∷
          defines ((255 ∷ []) ++ codes "\0") 0 ∷
          defines (codes "fzo") 3 ∷ []) [] ∷
          file (codes "a2.o") false true false false 2 (
          null_entry ∷
          entry (codes "fzo") None true Local Default Plain 0 (Section 1) ∷ []) [] ∷
          file (codes "b.o") false false false false 3 (
          null_entry ∷
          entry (codes "fzo") None true Global Protected Plain 0 (Section 1) ∷
          entry ((255 ∷ []) ++ codes "\0") None true Weak Default Plain 0 Undefined ∷ []) [] ∷
          file (codes "m4.o") false false false false 8 (
          null_entry ∷
          entry (codes "a\nb") None true Weak Default Plain 0 Undefined ∷
          entry (codes "main") None true Weak Hidden Plain 0 Undefined ∷
          entry (255 ∷ []) None true Local Default Plain 0 (Section 6) ∷
          entry (codes "foo") None true Unique Default Plain 0 (Section 3) ∷
          entry (255 ∷ []) None true Global Hidden Plain 0 Undefined ∷ []) [] ∷ [];
      scripts = [];
      stubs = [];
    };
    later =
        record {
          objects =
              file (codes "b0.o") false true true false 4 (
              null_entry ∷
              entry (codes "foo") None true Local Default Plain 0 (Section 1) ∷ []) [] ∷ [];
          scripts = [];
          stubs = stub (codes "lib0.tbd") ((255 ∷ []) ∷ ((255 ∷ []) ++ codes "\0") ∷ []) (codes "main" ∷ codes "fzo" ∷ []) ∷ [];
        } ∷
        record {
          objects =
              file (codes "m0.o") false true false false 3 (
              null_entry ∷
              entry (codes "a\nb") None true Local Default Plain 0 (Section 2) ∷
              entry ((255 ∷ []) ++ codes "\0") None true Weak Default Plain 0 Undefined ∷
              defines (codes "a\nb") 1 ∷
              entry (codes "main") None true Weak Default Plain 0 Absolute ∷
              entry (codes "a\nb") None true Weak Hidden Plain 0 (Section 2) ∷ []) [] ∷
              file (codes "b1.o") false true false false 8 (null_entry ∷ refers (255 ∷ []) ∷ []) [] ∷
              file (codes "a2.o") false false false false 2 (
              null_entry ∷
              defines (codes "main") 1 ∷
              refers (codes "fzo") ∷ []) [] ∷ [];
          scripts = [];
          stubs = stub (codes "lib0.tbd") [] ((255 ∷ []) ∷ []) ∷ [];
        } ∷
        record {
          objects =
              file (codes "m0.o") false true true false 8 (
              null_entry ∷
              entry ((255 ∷ []) ++ codes "\0") None true Global Default Plain 0 Absolute ∷
              entry (255 ∷ []) None true Weak Default Plain 0 (Section 7) ∷
              entry (255 ∷ []) None true Unique Protected Plain 0 (Section 7) ∷ []) [] ∷ [];
          scripts = [];
          stubs = stub (codes "lib0.tbd") ((255 ∷ []) ∷ codes "fzo" ∷ []) (codes "foo" ∷ ((255 ∷ []) ++ codes "\0") ∷ []) ∷ [];
        } ∷ [];
    options = record default_options { wrap = codes "fzo" ∷ codes "main" ∷ codes "a\nb" ∷ [] };
    texts = texts (Some (codes "V1 { global: local: f*; f?o; foo; };")) (Some (codes "\t{ f[]o]o /* c; } */ f?o }; /* c; } */ "));
  });
  outcome = refusal (codes "Failed to parse symbol export list: Syntax error at 39");
}

abbrev pub batches_7041 : Case
batches_7041 = record {
  world = world_of mach_like undemangled (record {
    first = record {
      objects =
          file (codes "b0.o") false false false false 4 (defines (codes "_bar") 3 ∷ refers (codes "x y") ∷ []) [] ∷
          file (codes "b1.o") false false false false 4 (refers (codes "_bar") ∷ []) [] ∷
          file (codes "a2.o") false true false false 1 [] [] ∷ [];
      scripts = [];
      stubs = [];
    };
    later =
        record {
          objects =
              file (codes "a0.o") false false false false 3 (
              refers (codes "_bar") ∷
              entry (codes "x y") None true Local Default Plain 0 (Section 1) ∷ []) [] ∷
              file (codes "m1.o") false false false false 1 [] [] ∷ [];
          scripts = [];
          stubs = [];
        } ∷
        record {
          objects = file (codes "a0.so") true true true false 6 (refers (codes "foo") ∷ refers (codes "x y") ∷ []) [] ∷ [];
          scripts = [];
          stubs = [];
        } ∷ [];
    options = record default_options { linker_symbols = internal (codes "foo") (SectionGroupEnd 0) false ∷ [] };
    texts = texts None None;
  });
  outcome = report (
      codes "loaded 0 b0.o\n" ++
      codes "loaded 1 b1.o\n" ++
      codes "loaded 3 a0.o\n" ++
      codes "loaded 4 m1.o\n" ++
      codes "loaded 5 a0.so\n" ++
      codes "symbol 0 <unnamed> -> 0 [ABSOLUTE]\n" ++
      codes "symbol 1 foo -> 1 [NON_INTERPOSABLE | HAS_NON_IR_REF]\n" ++
      codes "symbol 2 _bar -> 2 [NON_INTERPOSABLE | HAS_NON_IR_REF]\n" ++
      codes "symbol 3 x y -> 8 [ABSOLUTE]\n" ++
      codes "symbol 4 _bar -> 2 [ABSOLUTE]\n" ++
      codes "symbol 5 _bar -> 2 [ABSOLUTE]\n" ++
      codes "symbol 6 x y -> 6 [NON_INTERPOSABLE]\n" ++
      codes "symbol 7 foo -> 1 [ABSOLUTE | DYNAMIC]\n" ++
      codes "symbol 8 x y -> 8 [ABSOLUTE | DYNAMIC | NON_INTERPOSABLE]\n" ++
      codes "undefined 8 x y\n");
}

abbrev pub batches_7042 : Case
batches_7042 = record {
  world = world_of elf_like undemangled (record {
    first = record {
      objects =
          file (codes "m0.o") false true false false 3 (
          null_entry ∷
          refers (codes "foo") ∷
          entry (codes "foo") None true Global Default Tls 0 Undefined ∷ []) [] ∷
          file (codes "a1.o") false true false false 2 (
          null_entry ∷
          entry (codes "foo") None true Weak Default Plain 0 Undefined ∷ []) [] ∷ [];
      scripts = [];
      stubs = stub (codes "lib0.tbd") (codes "foo" ∷ codes "a\nb" ∷ []) [] ∷ stub (codes "lib1.tbd") [] [] ∷ [];
    };
    later =
        record {
          objects =
              file (codes "b0.o") false false false false 1 (
              null_entry ∷
              entry (codes "foo") None true Unique Default Plain 0 Undefined ∷ []) [] ∷
              file (codes "a1.o") false false false false 1 (
              null_entry ∷
              entry (codes "foo") None true Unique Default Plain 8 Common ∷
              entry (codes "foo") None true Weak Default Func 0 Undefined ∷ []) [] ∷ [];
          scripts = [];
          stubs = stub (codes "lib0.tbd") (codes "foo" ∷ codes "foo" ∷ []) (codes "a\nb" ∷ []) ∷ [];
        } ∷ [];
    options = record default_options {
      output = DynamicExecutable;
      allow_multiple = true;
      files_per_group = 1;
      linker_symbols = internal (codes "foo") LoadBaseAddress false ∷ internal (codes "foo") (TlsEnd 0) false ∷ [];
      custom_sections = codes "nosec2" ∷ [];
    };
    texts = texts (Some (codes "{global: foo; f; /* c; } */ local: /**/*;# c };\n}; ")) None;
  });
  outcome = report (
      codes "loaded 2 b0.o\n" ++
      codes "loaded 3 a1.o\n" ++
      codes "symbol 0 <unnamed> -> 0 [ABSOLUTE]\n" ++
      codes "symbol 1 foo -> 13 [NON_INTERPOSABLE | HAS_NON_IR_REF]\n" ++
      codes "symbol 2 foo -> 13 [NON_INTERPOSABLE]\n" ++
      codes "symbol 3 <unnamed> -> 0 [ABSOLUTE | NON_INTERPOSABLE]\n" ++
      codes "symbol 4 foo -> 0 [ABSOLUTE]\n" ++
      codes "symbol 5 foo -> 0 [ABSOLUTE]\n" ++
      codes "symbol 6 <unnamed> -> 0 [ABSOLUTE | NON_INTERPOSABLE]\n" ++
      codes "symbol 7 foo -> 0 [ABSOLUTE]\n" ++
      codes "symbol 8 foo -> 13 [DYNAMIC]\n" ++
      codes "symbol 9 a\n" ++
      codes "b -> 9 [DYNAMIC]\n" ++
      codes "symbol 10 <unnamed> -> 0 [ABSOLUTE | NON_INTERPOSABLE]\n" ++
      codes "symbol 11 foo -> 13 [ABSOLUTE]\n" ++
      codes "symbol 12 <unnamed> -> 0 [ABSOLUTE | NON_INTERPOSABLE]\n" ++
      codes "symbol 13 foo -> 13 [NON_INTERPOSABLE]\n" ++
      codes "symbol 14 foo -> 13 [ABSOLUTE]\n" ++
      codes "symbol 15 foo -> 13 [DYNAMIC]\n" ++
      codes "symbol 16 foo -> 13 [DYNAMIC]\n" ++
      codes "symbol 17 a\n" ++
      codes "b -> 9 [DYNAMIC]\n");
}

abbrev pub batches_7043 : Case
batches_7043 = record {
  world = world_of elf_like undemangled (record {
    first = record {
      objects =
          file (codes "m0.o") false false false false 0 (
          null_entry ∷
          entry (195 ∷ 169 ∷ []) None true Unique Default Plain 0 Undefined ∷ []) [] ∷ [];
      scripts = linker_script (codes "s0.ld") None None [] ∷ [];
      stubs = [];
    };
    later =
        record {
          objects =
              file (codes "a.o") false false false false 6 (
              null_entry ∷
              entry (codes "bar") None true Weak Default Plain 0 Absolute ∷
              entry (codes "foo") None true Weak Default Plain 0 Common ∷
              refers (195 ∷ 169 ∷ []) ∷ []) [] ∷ [];
          scripts = [];
          stubs = [];
        } ∷ [];
    options = record default_options { default_entry = Some (195 ∷ 169 ∷ []) };
    texts = texts (Some (
        codes "V3 { local: bar; }; V1 { local: bar; baz; _foo; }; V2 { global: extern \"C++\" { ba[rz]; }; f?o; *; };")) None;
  });
  outcome = report (
      codes "loaded 0 m0.o\n" ++
      codes "loaded 1 a.o\n" ++
      codes "symbol 0 <unnamed> -> 0 [ABSOLUTE]\n" ++
      codes "symbol 1 <unnamed> -> 0 [ABSOLUTE | NON_INTERPOSABLE]\n" ++
      codes "symbol 2 " ++ (195 ∷ 169 ∷ []) ++ codes " -> 6 [ABSOLUTE]\n" ++
      codes "symbol 3 <unnamed> -> 0 [ABSOLUTE | NON_INTERPOSABLE]\n" ++
      codes "symbol 4 bar -> 4 [ABSOLUTE | NON_INTERPOSABLE | DOWNGRADE_TO_LOCAL]\n" ++
      codes "symbol 5 foo -> 5 [NON_INTERPOSABLE]\n" ++
      codes "symbol 6 " ++ (195 ∷ 169 ∷ []) ++ codes " -> 6 [ABSOLUTE | NON_INTERPOSABLE]\n" ++
      codes "undefined 6 " ++ (195 ∷ 169 ∷ []) ++ codes "\n");
}

abbrev pub batches_7044 : Case
batches_7044 = record {
  world = world_of elf_like undemangled (record {
    first = record {
      objects =
          file (codes "m0.o") false false false false 6 (null_entry ∷ []) (
          group 4 0 true (3 ∷ []) ∷
          group 1 0 true (5 ∷ 2 ∷ []) ∷
          group 0 0 true [] ∷ []) ∷ [];
      scripts = linker_script (codes "s0.ld") None None [] ∷ [];
      stubs = [];
    };
    later =
        record { objects = []; scripts = []; stubs = [] } ∷
        record {
          objects =
              file (codes "m0.o") false false false false 4 (null_entry ∷ []) (
              group 0 0 true [] ∷
              group 3 0 true (1 ∷ []) ∷ []) ∷
              file (codes "m1.o") false true false false 1 (
              null_entry ∷
              refers (255 ∷ []) ∷
              entry [] None true Weak Default Plain 0 Undefined ∷
              entry (codes "foo") None true Global Default Plain 4 Undefined ∷ []) [] ∷ [];
          scripts = linker_script (codes "s0.ld") (Some (codes "bar")) None [] ∷ [];
          stubs = [];
        } ∷
        record {
          objects =
              file (codes "b0.o") false true false false 4 (
              null_entry ∷
              entry (255 ∷ []) None true Weak Default Plain 0 (Section 3) ∷
              entry (codes "bar") None true Weak Default Plain 0 Undefined ∷
              entry (codes "foo") None true Unique Default Plain 0 (Section 2) ∷
              refers (codes "foo") ∷
              entry (codes "foo") None true Weak Default Plain 4 Common ∷ []) (
              group 1 4 true [] ∷
              group 0 5 true (2 ∷ []) ∷
              group 3 2 false [] ∷ []) ∷
              file (codes "x\ny") false false false false 0 (
              null_entry ∷
              entry (codes "bar") None true Global Default Plain 8 Common ∷ []) [] ∷ [];
          scripts = [];
          stubs = [];
        } ∷
        record {
          objects =
              file (codes "b0.o") false false false false 2 (
              null_entry ∷
              entry (codes "foo") None true Weak Default Plain 0 Undefined ∷
              refers (codes "bar") ∷
              defines (codes "bar") 0 ∷
              defines [] 1 ∷
              refers [] ∷ []) [] ∷
              file (codes "a1.o") false true false false 6 (null_entry ∷ defines (codes "bar") 5 ∷ []) [] ∷ [];
          scripts =
              linker_script (codes "s0.ld") None None (redirect (codes "baz") Script [] true ∷ []) ∷
              linker_script (codes "s1.ld") None None (
              redirect (codes "bar") Script [] false ∷
              redirect (codes "bar") Script [] false ∷
              redirect (codes "baz") Script (codes "foo" ∷ (255 ∷ []) ∷ []) false ∷ []) ∷ [];
          stubs = [];
        } ∷ [];
    options = record default_options {
      output = DynamicExecutable;
      entry = Some (codes "foo");
      allow_multiple = true;
      wrap = [] ∷ [];
      defsym = redirect (codes "foo") DefSym (codes "foo" ∷ []) false ∷ redirect [] DefSym (codes "foo" ∷ []) false ∷ [];
    };
    texts = texts None None;
  });
  outcome = report (
      codes "loaded 0 m0.o\n" ++
      codes "loaded 1 m0.o\n" ++
      codes "loaded 3 b0.o\n" ++
      codes "loaded 4 x\n" ++
      codes "y\n" ++
      codes "loaded 5 b0.o\n" ++
      codes "kept 0 0 \n" ++
      codes "kept 3 0 foo\n" ++
      codes "symbol 0 <unnamed> -> 0 [ABSOLUTE]\n" ++
      codes "symbol 1 foo -> 14 [ABSOLUTE | NON_INTERPOSABLE | HAS_NON_IR_REF]\n" ++
      codes "symbol 2 <unnamed> -> 21 [ABSOLUTE | NON_INTERPOSABLE | HAS_NON_IR_REF]\n" ++
      codes "symbol 3 <unnamed> -> 0 [ABSOLUTE | NON_INTERPOSABLE]\n" ++
      codes "symbol 4 <unnamed> -> 0 [ABSOLUTE | NON_INTERPOSABLE]\n" ++
      codes "symbol 5 <unnamed> -> 0 [ABSOLUTE | NON_INTERPOSABLE]\n" ++
      codes "symbol 6 INVALID UTF-8([255]) -> 0 [ABSOLUTE]\n" ++
      codes "symbol 7 <unnamed> -> 0 [ABSOLUTE]\n" ++
      codes "symbol 8 foo -> 0 [ABSOLUTE]\n" ++
      codes "symbol 9 <unnamed> -> 0 [ABSOLUTE | NON_INTERPOSABLE]\n" ++
      codes "symbol 10 INVALID UTF-8([255]) -> 10 [NON_INTERPOSABLE | HAS_NON_IR_REF]\n" ++
      codes "symbol 11 bar -> 20 [ABSOLUTE]\n" ++
      codes "symbol 12 foo -> 14 [NON_INTERPOSABLE]\n" ++
      codes "symbol 13 foo -> 14 [ABSOLUTE]\n" ++
      codes "symbol 14 foo -> 14 [NON_INTERPOSABLE]\n" ++
      codes "symbol 15 <unnamed> -> 0 [ABSOLUTE | NON_INTERPOSABLE]\n" ++
      codes "symbol 16 bar -> 20 [NON_INTERPOSABLE | HAS_NON_IR_REF]\n" ++
      codes "symbol 17 <unnamed> -> 0 [ABSOLUTE | NON_INTERPOSABLE]\n" ++
      codes "symbol 18 foo -> 14 [ABSOLUTE]\n" ++
      codes "symbol 19 bar -> 20 [ABSOLUTE]\n" ++
      codes "symbol 20 bar -> 20 [NON_INTERPOSABLE]\n" ++
      codes "symbol 21 <unnamed> -> 21 [NON_INTERPOSABLE]\n" ++
      codes "symbol 22 <unnamed> -> 21 [ABSOLUTE]\n" ++
      codes "symbol 23 <unnamed> -> 0 [ABSOLUTE | NON_INTERPOSABLE]\n" ++
      codes "symbol 24 bar -> 20 [NON_INTERPOSABLE]\n" ++
      codes "symbol 25 baz -> 25 [NON_INTERPOSABLE | DOWNGRADE_TO_LOCAL]\n" ++
      codes "symbol 26 bar -> 20 [NON_INTERPOSABLE]\n" ++
      codes "symbol 27 bar -> 20 [NON_INTERPOSABLE]\n" ++
      codes "symbol 28 baz -> 25 [NON_INTERPOSABLE]\n");
}

abbrev pub batches_7045 : Case
batches_7045 = record {
  world = world_of elf_like undemangled (record {
    first = record {
      objects =
          file (codes "m0.o") false true false false 1 (
          null_entry ∷
          refers (codes "baz") ∷
          entry (codes "baz") None true Weak Default Plain 0 Undefined ∷ []) [] ∷
          member (codes "m1.o") [] ∷
          object (codes "b2.o") (entry (codes "__start_data") None true Global Default Plain 0 Absolute ∷ []) ∷
          file (codes "m3.o") false true true false 4 (
          null_entry ∷
          entry (codes "baz") None true Weak Default Plain 0 (Section 3) ∷
          entry (codes "foo") None true Global Default Func 0 Absolute ∷ []) [] ∷
          file (codes "a4.o") false true false false 8 (
          null_entry ∷
          refers (codes "bar") ∷
          entry (codes "a\nb") None true Weak Default Plain 0 (Section 0) ∷ []) [] ∷
          file (codes "m5.o") false true true false 6 (
          null_entry ∷
          entry (codes "baz") None true Global Default Ifunc 0 Undefined ∷
          entry (codes "bar") None true Weak Default Plain 0 Common ∷
          refers (codes "foo") ∷
          refers (codes "foo") ∷
          entry (codes "foo") None true Weak Default Plain 0 Undefined ∷ []) [] ∷ [];
      scripts = [];
      stubs = [];
    };
    later =
        record {
          objects = [];
          scripts = linker_script (codes "s0.ld") None None [] ∷ linker_script (codes "s1.ld") None None [] ∷ [];
          stubs = [];
        } ∷ [];
    options = record default_options {
      entry = Some (codes "__start_data");
      allow_multiple = true;
      linker_symbols =
          internal (codes "__start_data") (SectionGroupEnd 0) false ∷
          internal (codes "__start_data") LoadBaseAddress true ∷ [];
    };
    texts = texts (Some (codes "V2 { global: b*; baz; extern \"C++\" { \"foo\"; }; local: foo; foo; };")) None;
  });
  outcome = report (
      codes "loaded 2 b2.o\n" ++
      codes "loaded 3 m3.o\n" ++
      codes "loaded 5 m5.o\n" ++
      codes "symbol 0 <unnamed> -> 0 [ABSOLUTE]\n" ++
      codes "symbol 1 __start_data -> 8 [NON_INTERPOSABLE | HAS_NON_IR_REF]\n" ++
      codes "symbol 2 __start_data -> 8 [NON_INTERPOSABLE | DOWNGRADE_TO_LOCAL]\n" ++
      codes "symbol 3 <unnamed> -> 0 [ABSOLUTE | NON_INTERPOSABLE]\n" ++
      codes "symbol 4 baz -> 0 [ABSOLUTE]\n" ++
      codes "symbol 5 baz -> 0 [ABSOLUTE]\n" ++
      codes "symbol 6 <unnamed> -> 0 [ABSOLUTE | NON_INTERPOSABLE]\n" ++
      codes "symbol 7 <unnamed> -> 0 [ABSOLUTE | NON_INTERPOSABLE]\n" ++
      codes "symbol 8 __start_data -> 8 [ABSOLUTE | NON_INTERPOSABLE]\n" ++
      codes "symbol 9 <unnamed> -> 0 [ABSOLUTE | NON_INTERPOSABLE]\n" ++
      codes "symbol 10 baz -> 10 [NON_INTERPOSABLE | HAS_NON_IR_REF]\n" ++
      codes "symbol 11 foo -> 11 [ABSOLUTE | NON_INTERPOSABLE | DOWNGRADE_TO_LOCAL | HAS_NON_IR_REF]\n" ++
      codes "symbol 12 <unnamed> -> 0 [ABSOLUTE | NON_INTERPOSABLE]\n" ++
      codes "symbol 13 bar -> 0 [ABSOLUTE]\n" ++
      codes "symbol 14 a\n" ++
      codes "b -> 14 [NON_INTERPOSABLE]\n" ++
      codes "symbol 15 <unnamed> -> 0 [ABSOLUTE | NON_INTERPOSABLE]\n" ++
      codes "symbol 16 baz -> 10 [IFUNC]\n" ++
      codes "symbol 17 bar -> 17 [NON_INTERPOSABLE]\n" ++
      codes "symbol 18 foo -> 11 [ABSOLUTE]\n" ++
      codes "symbol 19 foo -> 11 [ABSOLUTE]\n" ++
      codes "symbol 20 foo -> 11 [ABSOLUTE]\n");
}

abbrev pub batches_7046 : Case
batches_7046 = record {
  world = world_of elf_like undemangled (record {
    first = record {
      objects =
          file (codes "m0.o") false true false false 8 (
          null_entry ∷
          entry (codes "a\nb") None true Weak Default Plain 0 Undefined ∷
          defines (codes "a\nb") 0 ∷ []) [] ∷
          object (codes "x\ny") [] ∷
          file (codes "m2.o") false false false false 3 (
          null_entry ∷
          refers (195 ∷ 169 ∷ []) ∷
          defines (codes "baz") 0 ∷ []) [] ∷ [];
      scripts = [];
      stubs = [];
    };
    later =
        record {
          objects =
              file (codes "b0.o") false true false false 6 (
              null_entry ∷
              entry (195 ∷ 169 ∷ []) None true Weak Default Plain 0 (Section 2) ∷
              entry (codes "baz") None true Weak Default Plain 0 (Section 1) ∷
              refers (codes "baz") ∷ []) [] ∷ [];
          scripts = [];
          stubs = [];
        } ∷ [];
    options = record default_options {
      allow_multiple = true;
      linker_symbols = internal (codes "main") (SectionStart 0) true ∷ [];
    };
    texts = texts None None;
  });
  outcome = report (
      codes "loaded 1 x\n" ++
      codes "y\n" ++
      codes "loaded 2 m2.o\n" ++
      codes "loaded 3 b0.o\n" ++
      codes "symbol 0 <unnamed> -> 0 [ABSOLUTE]\n" ++
      codes "symbol 1 main -> 1 [NON_INTERPOSABLE | DOWNGRADE_TO_LOCAL]\n" ++
      codes "symbol 2 <unnamed> -> 0 [ABSOLUTE | NON_INTERPOSABLE]\n" ++
      codes "symbol 3 a\n" ++
      codes "b -> 0 [ABSOLUTE]\n" ++
      codes "symbol 4 a\n" ++
      codes "b -> 4 [NON_INTERPOSABLE]\n" ++
      codes "symbol 5 <unnamed> -> 0 [ABSOLUTE | NON_INTERPOSABLE]\n" ++
      codes "symbol 6 <unnamed> -> 0 [ABSOLUTE | NON_INTERPOSABLE]\n" ++
      codes "symbol 7 " ++ (195 ∷ 169 ∷ []) ++ codes " -> 10 [ABSOLUTE]\n" ++
      codes "symbol 8 baz -> 8 [NON_INTERPOSABLE | HAS_NON_IR_REF]\n" ++
      codes "symbol 9 <unnamed> -> 0 [ABSOLUTE | NON_INTERPOSABLE]\n" ++
      codes "symbol 10 " ++ (195 ∷ 169 ∷ []) ++ codes " -> 10 [NON_INTERPOSABLE | HAS_NON_IR_REF]\n" ++
      codes "symbol 11 baz -> 8 [NON_INTERPOSABLE]\n" ++
      codes "symbol 12 baz -> 8 [ABSOLUTE]\n");
}

abbrev pub batches_7048 : Case
batches_7048 = record {
  world = world_of elf_like undemangled (record {
    first = record {
      objects =
          file (codes "m0.o") false false false false 8 (
          null_entry ∷
          entry (codes "__real_bar") None true Unique Default Plain 0 (Section 7) ∷
          entry (codes "_foo") None true Local Default Plain 8 Common ∷
          entry (codes "bar") None true Weak Default Plain 0 Undefined ∷ []) [] ∷
          file (codes "a1.o") false false false false 3 (
          null_entry ∷
          entry (codes "baz") (Some (codes "V2")) true Global Default Plain 0 (Section 2) ∷ []) [] ∷ [];
      scripts = [];
      stubs = [];
    };
    later = record { objects = []; scripts = []; stubs = [] } ∷ [];
    options = record default_options {
      output = SharedObject;
      allow_multiple = true;
      files_per_group = 1;
      defsym = redirect (codes "bar") DefSym (codes "baz" ∷ []) false ∷ [];
      custom_sections = codes "nosec2" ∷ [];
    };
    texts = texts None None;
  });
  outcome = refusal (codes "Symbol baz has undefined version V2");
}
