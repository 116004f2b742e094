-- Tiny worlds, each of which one reading of a rule answers otherwise than another. None has a null entry, so an object's first
-- symbol is its first entry, and symbol 1 is the first of all objects.
use Rattle.std.specs.Prelude.{ℕ, List, [], ◌∷◌, Bool, true, false, Option, Some, None, Ok, codes, slice_index}
use Rattle.link_flags.specs.declared.visibility.Visibility.TheVariants.{Default, Protected, Hidden}
use Rattle.link_input.specs.declared.symbol_entry.SymbolEntry.{SymbolEntry}
use Rattle.link_input.specs.declared.symbol_entry.Place.TheVariants.{Undefined, Section}
use Rattle.link_input.specs.declared.symbol_entry.SymbolBinding.TheVariants.{Local, Global, Weak}
use Rattle.link_input.specs.declared.symbol_entry.SymbolKind.TheVariants.{Plain, Tls}
use Rattle.link_input.specs.declared.options.Options.{Options}
use Rattle.link_input.specs.declared.options.OutputKind.TheVariants.{SharedObject}
use Rattle.link_input.specs.Defaults.{default_options}
use Rattle.link_input.specs.ObjectFile.{ObjectFile}
use Rattle.link_script_syntax.specs.declared.fault.ScriptError.{ScriptError}
use Rattle.link_script_syntax.specs.declared.fault.ScriptErrorKind.TheVariants.{Syntax}
use Rattle.link_rules.specs.Places.{Bytes}
use Rattle.link_rules.specs.Rules.{Rules, rules_of, elf_like}
use Rattle.link_rules.specs.World.{World, Stage, first_stage, world_with}
use Rattle.link_rules.specs.Building.{undemangled, copies, entry, refers, defines, group, file, linker_script, texts, of_objects}
use Rattle.link_rules.specs.Undefined.{resolution_of}
use Rattle.link_rules.specs.FinalFlags.{final_flags}

-- ---- words

-- the rules of a link without scripts and lists
abbrev pub no_scripts : Options → Rules
no_scripts options = rules_of elf_like undemangled options (texts None None) []

-- objects alone
abbrev pub objects_alone : Options → List ObjectFile → Stage
objects_alone options objects = first_stage (world_with (no_scripts options) (of_objects options objects))

-- a shared output
abbrev pub shared_output : Options
shared_output = record default_options { output = SharedObject }

-- an object, a member of an archive, and a shared object, without null entries
abbrev pub an_object : Bytes → List SymbolEntry → ObjectFile
an_object name entries = file name false false false false 4 entries []

abbrev pub a_member : Bytes → List SymbolEntry → ObjectFile
a_member name entries = file name false true false false 4 entries []

abbrev pub a_library : Bytes → List SymbolEntry → ObjectFile
a_library name entries = file name true false false false 4 entries []

-- the flags of a symbol at the end
abbrev pub flags_at : Stage → List Bool → ℕ → ℕ
flags_at w marks s = slice_index (final_flags (resolution_of w marks)) s

-- ---- worlds

-- a name and its real name are defined, and the name is wrapped: symbols 1 and 2
abbrev pub real_name : Stage
real_name = objects_alone (record default_options { wrap = codes "f" ∷ [] })
    (an_object (codes "a.o") (defines (codes "f") 1 ∷ defines (codes "__real_f") 1 ∷ []) ∷ [])

-- a name, its wrapper and the wrapper's wrapper: symbols 1, 2 and 3; the wrapper is wrapped first
abbrev pub wrapped_wrapper : Stage
wrapped_wrapper = objects_alone (record default_options { wrap = codes "__wrap_f" ∷ codes "f" ∷ [] })
    (an_object (codes "a.o") (defines (codes "f") 1 ∷ defines (codes "__wrap_f") 1 ∷ defines (codes "__wrap___wrap_f") 1 ∷ []) ∷ [])

-- a shared definition, a member's, and a hidden reference: symbols 1, 2 and 3
abbrev pub hidden_reference : Stage
hidden_reference = objects_alone default_options
    (a_library (codes "l.so") (defines (codes "f") 1 ∷ [])
    ∷ an_object (codes "a.o") (defines (codes "f") 1 ∷ [])
    ∷ an_object (codes "main.o") (entry (codes "f") None true Global Hidden Plain 0 Undefined ∷ []) ∷ [])

-- a weak reference and a strong one, and a member for each
abbrev pub two_requests : Stage
two_requests = objects_alone default_options
    (an_object (codes "main.o") (entry (codes "f") None true Weak Default Plain 0 Undefined ∷ refers (codes "g") ∷ [])
    ∷ a_member (codes "a.o") (defines (codes "f") 1 ∷ [])
    ∷ a_member (codes "b.o") (defines (codes "g") 1 ∷ []) ∷ [])

-- two objects with a COMDAT group of one signature, which defines it: symbols 1 and 2
abbrev pub two_groups : Stage
two_groups = objects_alone default_options
    (file (codes "a.o") false false false false 3 (defines (codes "f") 2 ∷ []) (group 1 0 true (2 ∷ []) ∷ [])
    ∷ file (codes "b.o") false false false false 3 (defines (codes "f") 2 ∷ []) (group 1 0 true (2 ∷ []) ∷ []) ∷ [])

-- references to the start and to the end of a section: symbols 1 and 2
abbrev pub two_boundaries : Stage
two_boundaries = objects_alone (record default_options { custom_sections = codes "d" ∷ [] })
    (an_object (codes "a.o") (refers (codes "__start_d") ∷ refers (codes "__stop_d") ∷ []) ∷ [])

-- a hidden reference to the start of a section: symbol 1
abbrev pub hidden_boundary : Stage
hidden_boundary = objects_alone (record shared_output { custom_sections = codes "d" ∷ [] })
    (an_object (codes "a.o") (entry (codes "__start_d") None true Global Hidden Plain 0 Undefined ∷ []) ∷ [])

-- two references to one version, and two definitions of it, of which a member that isn't loaded has the first: symbols 1 to 4
abbrev pub two_records_of_a_version : Stage
two_records_of_a_version = objects_alone default_options
    (an_object (codes "r.o") (entry (codes "f") (Some (codes "V")) true Weak Default Plain 0 Undefined
    ∷ entry (codes "f") (Some (codes "V")) true Weak Default Plain 0 Undefined ∷ [])
    ∷ a_member (codes "m.o") (entry (codes "f") (Some (codes "V")) false Global Default Plain 0 (Section 1) ∷ [])
    ∷ an_object (codes "b.o") (entry (codes "f") (Some (codes "V")) false Global Default Plain 0 (Section 1) ∷ []) ∷ [])

-- a shared definition that is protected, and another: symbols 1 and 2
abbrev pub protected_in_a_library : Stage
protected_in_a_library = objects_alone shared_output
    (a_library (codes "l.so") (entry (codes "f") None true Global Protected Plain 0 (Section 1) ∷ [])
    ∷ an_object (codes "a.o") (defines (codes "f") 1 ∷ []) ∷ [])

-- every name has version 2: a shared definition, a local one, and one more: symbols 1, 2 and 3
abbrev pub every_name_has_a_version : Stage
every_name_has_a_version = first_stage (world_with (record (no_scripts shared_output) { version_of = λ name explicit. Ok (Some 2) })
    (of_objects shared_output
    (a_library (codes "l.so") (defines (codes "f") 1 ∷ [])
    ∷ an_object (codes "a.o") (entry (codes "g") None true Local Default Plain 0 (Section 1) ∷ defines (codes "h") 1 ∷ []) ∷ [])))

-- every name is local: a thread-local definition and another: symbols 1 and 2
abbrev pub every_name_is_local : Stage
every_name_is_local = first_stage (world_with (record (no_scripts shared_output) { is_local_name = λ name. true })
    (of_objects shared_output
    (an_object (codes "a.o") (entry (codes "f") None true Global Default Tls 0 (Section 1) ∷ defines (codes "g") 1 ∷ []) ∷ [])))

-- a script of the Rust form without names: a local definition and another: symbols 1 and 2
abbrev pub rust_names_none : Stage
rust_names_none = first_stage (world_with (record (no_scripts shared_output) { rust_names = Some [] })
    (of_objects shared_output
    (an_object (codes "a.o") (entry (codes "f") None true Local Default Plain 0 (Section 1) ∷ defines (codes "g") 1 ∷ []) ∷ [])))

-- a reference and a member that nothing asks for, of which an earlier batch left that the member is loaded, what the reference stands for, and its flags
abbrev pub a_later_stage : Stage
a_later_stage = record (objects_alone default_options
    (an_object (codes "main.o") (refers (codes "f") ∷ []) ∷ a_member (codes "a.o") (defines (codes "f") 1 ∷ [])
    ∷ a_member (codes "b.o") (defines (codes "g") 1 ∷ []) ∷ [])) {
      earlier = record { loaded = false ∷ false ∷ true ∷ []; targets = None ∷ Some 3 ∷ []; flags = 1 ∷ 5 ∷ [] };
    }

-- no object, and one linker script too many
abbrev pub scripts_alone : World
scripts_alone = world_with (no_scripts default_options) (record (of_objects default_options []) {
  first = record { objects = []; scripts = copies 257 (linker_script (codes "s.ld") None None []); stubs = [] };
})

-- no object, and many linker scripts of which the first has a version text, beside the version script that is given
abbrev pub a_script_among_many : Option Bytes → World
a_script_among_many version_script = world_with (no_scripts default_options) (record (of_objects default_options []) {
  first = record {
    objects = [];
    scripts = linker_script (codes "t.ld") None (Some (codes "{ a; };")) [] ∷ copies 257 (linker_script (codes "s.ld") None None []);
    stubs = [];
  };
  texts = texts version_script None;
})

-- a text that is no export list
abbrev pub fault : ScriptError
fault = record { at = 0; kind = Syntax }

-- no object, that text, and a forced export name that is none either
abbrev pub faulty_list_alone : World
faulty_list_alone = world_with (record (no_scripts default_options) { export_list_fault = λ text. Some fault })
    (record (of_objects (record default_options { force_export = codes "}" ∷ [] }) []) { texts = texts None (Some (codes "{")) })
