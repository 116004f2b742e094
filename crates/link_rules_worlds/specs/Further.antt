-- Worked examples that no manifest gives.
use Rattle.std.specs.Prelude.{ℕ, List, [], ◌∷◌, false, Some, None, codes, if◌then◌else◌}
use Rattle.std.specs.Str.{bytes_eq}
use Rattle.link_input.specs.declared.internal_symbols.RedirectKind.TheVariants.{DefSym}
use Rattle.link_input.specs.declared.internal_symbols.SymbolLoc.TheVariants.{FirstSection}
use Rattle.link_input.specs.declared.internal_symbols.SymbolPlacement.TheVariants.{ForceUndefined, Redirect}
use Rattle.link_input.specs.declared.options.OutputKind.TheVariants.{SharedObject}
use Rattle.link_input.specs.Defaults.{default_options}
use Rattle.link_rules.specs.Places.{Bytes}
use Rattle.link_rules.specs.Rules.{elf_like}
use Rattle.link_rules.specs.World.{Given, World, world_of}
use Rattle.link_rules.specs.Building.{undemangled, copies, defines, object, member, internal, linker_script, redirect, stub, texts, of_objects}
use Rattle.link_rules_worlds.specs.Computing.{Case, report, refusal}

-- a demangler that knows one name
abbrev pub one_name : Bytes → Bytes
one_name name = if bytes_eq name (codes "_Z3foov") then codes "foo()" else name

-- a pattern of C++ sees the demangled name, and a report the name as it is
abbrev pub a_demangled_name_is_matched : Case
a_demangled_name_is_matched = record {
  world = world_of elf_like one_name
      (record {
        first = record {
          objects = object (codes "a.o") (defines (codes "_Z3foov") 1 ∷ defines (codes "foo()") 1 ∷ defines (codes "bar") 1 ∷ []) ∷ [];
          scripts = [];
          stubs = [];
        };
        later = [];
        options = record default_options { output = SharedObject };
        texts = texts (Some (codes "V1 { global: extern \"C++\" { \"foo()\"; }; }; V2 { local: _Z3foov; foo*; };")) None;
      });
  outcome = report (codes "loaded 0 a.o\nsymbol 0 <unnamed> -> 0 [ABSOLUTE]\nsymbol 1 <unnamed> -> 0 [ABSOLUTE | NON_INTERPOSABLE]\nsymbol 2 _Z3foov -> 2 []\nsymbol 3 foo() -> 3 []\nsymbol 4 bar -> 4 []\nversion 2 2\nversion 3 2\n");
}

-- a redirect with a location moves with a section
abbrev pub a_located_redirect : Case
a_located_redirect = record {
  world = world_of elf_like undemangled
      (of_objects (record default_options {
        defsym = internal (codes "x") (Redirect (record { kind = DefSym; targets = []; loc = FirstSection })) false
            ∷ redirect (codes "y") DefSym [] false ∷ [];
      }) (object (codes "a.o") [] ∷ []));
  outcome = report (codes "loaded 0 a.o\nsymbol 0 <unnamed> -> 0 [ABSOLUTE]\nsymbol 1 x -> 1 [NON_INTERPOSABLE]\nsymbol 2 y -> 2 [ABSOLUTE | NON_INTERPOSABLE]\nsymbol 3 <unnamed> -> 0 [ABSOLUTE | NON_INTERPOSABLE]\n");
}

-- a symbol of the linker that is to be defined loads the member that defines it, and means its definition
abbrev pub a_forced_linker_symbol : Case
a_forced_linker_symbol = record {
  world = world_of elf_like undemangled
      (of_objects (record default_options { linker_symbols = internal (codes "foo") ForceUndefined false ∷ [] })
      (member (codes "a.o") (defines (codes "foo") 1 ∷ []) ∷ []));
  outcome = report (codes "loaded 0 a.o\nsymbol 0 <unnamed> -> 0 [ABSOLUTE]\nsymbol 1 foo -> 3 [ABSOLUTE]\nsymbol 2 <unnamed> -> 0 [ABSOLUTE | NON_INTERPOSABLE]\nsymbol 3 foo -> 3 [NON_INTERPOSABLE]\n");
}

-- a symbol of the prelude, a null entry, and the two that a custom section may get
abbrev pub a_custom_section : World
a_custom_section = world_of elf_like undemangled
    (of_objects (record default_options { custom_sections = codes "data" ∷ [] }) (object (codes "a.o") [] ∷ []))

-- an object without entries, with so many linker scripts and stub libraries
abbrev pub with_files : ℕ → ℕ → Given
with_files scripts stubs = record {
  first = record {
    objects = object (codes "a.o") [] ∷ [];
    scripts = copies scripts (linker_script (codes "s.ld") None None []);
    stubs = copies stubs (stub (codes "l.tbd") [] []);
  };
  later = [];
  options = default_options;
  texts = texts None None;
}

-- as many as there may be
abbrev pub as_many_as_may_be : Case
as_many_as_may_be = record {
  world = world_of elf_like undemangled (with_files 256 256);
  outcome = report (codes "loaded 0 a.o\nsymbol 0 <unnamed> -> 0 [ABSOLUTE]\nsymbol 1 <unnamed> -> 0 [ABSOLUTE | NON_INTERPOSABLE]\n");
}

-- one linker script more than there may be
abbrev pub too_many_linker_scripts : Case
too_many_linker_scripts = record { world = world_of elf_like undemangled (with_files 257 0); outcome = refusal (codes "Too many linker scripts: 257") }

-- one stub library more
abbrev pub too_many_stub_libraries : Case
too_many_stub_libraries = record { world = world_of elf_like undemangled (with_files 0 257); outcome = refusal (codes "Too many stub libraries: 257") }

-- one more of both, of which the linker scripts are told
abbrev pub too_many_of_two_kinds : Case
too_many_of_two_kinds = record { world = world_of elf_like undemangled (with_files 257 258); outcome = refusal (codes "Too many linker scripts: 257") }

-- all of these
unfoldable pub all_cases : List Case
all_cases =
    a_demangled_name_is_matched ∷ a_located_redirect ∷ a_forced_linker_symbol ∷ as_many_as_may_be
    ∷ too_many_linker_scripts ∷ too_many_stub_libraries ∷ too_many_of_two_kinds ∷ []
