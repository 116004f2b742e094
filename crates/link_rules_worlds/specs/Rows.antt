-- Worked examples: small worlds of objects alone, and what a link of each answers.
-- Written by `tools/worlds.py` from `tools/rows.jsonl`.
use Rattle.std.specs.Prelude.{List, [], ◌∷◌, true, false, Some, None, codes, ◌++◌}
use Rattle.link_flags.specs.declared.visibility.Visibility.TheVariants.{Default, Protected, Hidden}
use Rattle.link_input.specs.declared.symbol_entry.Place.TheVariants.{Undefined, Absolute, Common, Section}
use Rattle.link_input.specs.declared.symbol_entry.SymbolBinding.TheVariants.{Local, Global, Weak}
use Rattle.link_input.specs.declared.symbol_entry.SymbolKind.TheVariants.{Plain}
use Rattle.link_input.specs.declared.options.OutputKind.TheVariants.{SharedObject, Partial}
use Rattle.link_input.specs.Defaults.{default_options}
use Rattle.link_rules.specs.Rules.{elf_like, mach_like}
use Rattle.link_rules.specs.World.{world_of}
use Rattle.link_rules.specs.Building.{undemangled, entry, null_entry, refers, defines, group, file, object, member, shared, of_objects}
use Rattle.link_rules_worlds.specs.Computing.{Case, report, refusal}

-- a chain of references loads two members, and nothing asks for the third
abbrev pub members_that_are_asked_for : Case
members_that_are_asked_for = record {
  world = world_of elf_like undemangled (of_objects default_options (
      object (codes "main.o") (refers (codes "foo") ∷ []) ∷
      member (codes "a.o") (defines (codes "foo") 1 ∷ refers (codes "bar") ∷ []) ∷
      member (codes "b.o") (defines (codes "bar") 1 ∷ []) ∷
      member (codes "c.o") (defines (codes "baz") 1 ∷ []) ∷ []));
  outcome = report (
      codes "loaded 0 main.o\n" ++
      codes "loaded 1 a.o\n" ++
      codes "loaded 2 b.o\n" ++
      codes "symbol 0 <unnamed> -> 0 [ABSOLUTE]\n" ++
      codes "symbol 1 <unnamed> -> 0 [ABSOLUTE | NON_INTERPOSABLE]\n" ++
      codes "symbol 2 foo -> 4 [ABSOLUTE]\n" ++
      codes "symbol 3 <unnamed> -> 0 [ABSOLUTE | NON_INTERPOSABLE]\n" ++
      codes "symbol 4 foo -> 4 [NON_INTERPOSABLE | HAS_NON_IR_REF]\n" ++
      codes "symbol 5 bar -> 7 [ABSOLUTE]\n" ++
      codes "symbol 6 <unnamed> -> 0 [ABSOLUTE | NON_INTERPOSABLE]\n" ++
      codes "symbol 7 bar -> 7 [NON_INTERPOSABLE | HAS_NON_IR_REF]\n" ++
      codes "symbol 8 <unnamed> -> 0 [ABSOLUTE | NON_INTERPOSABLE]\n" ++
      codes "symbol 9 baz -> 9 [NON_INTERPOSABLE]\n");
}

-- a weak reference asks for no member, so it stays undefined
abbrev pub a_weak_reference_loads_nothing : Case
a_weak_reference_loads_nothing = record {
  world = world_of elf_like undemangled (of_objects default_options (
      object (codes "main.o") (entry (codes "foo") None true Weak Default Plain 0 Undefined ∷ []) ∷
      member (codes "a.o") (defines (codes "foo") 1 ∷ []) ∷ []));
  outcome = report (
      codes "loaded 0 main.o\n" ++
      codes "symbol 0 <unnamed> -> 0 [ABSOLUTE]\n" ++
      codes "symbol 1 <unnamed> -> 0 [ABSOLUTE | NON_INTERPOSABLE]\n" ++
      codes "symbol 2 foo -> 2 [ABSOLUTE | NON_INTERPOSABLE | UNDEFINED_WEAK]\n" ++
      codes "symbol 3 <unnamed> -> 0 [ABSOLUTE | NON_INTERPOSABLE]\n" ++
      codes "symbol 4 foo -> 4 [NON_INTERPOSABLE | HAS_NON_IR_REF]\n" ++
      codes "undefined 2 foo\n");
}

-- the first definition is not loaded, so a later one counts
abbrev pub an_unloaded_definition_stands_aside : Case
an_unloaded_definition_stands_aside = record {
  world = world_of elf_like undemangled (of_objects default_options (
      object (codes "main.o") (entry (codes "foo") None true Weak Default Plain 0 Undefined ∷ []) ∷
      member (codes "a.o") (defines (codes "foo") 1 ∷ []) ∷
      object (codes "c.o") (defines (codes "foo") 1 ∷ []) ∷ []));
  outcome = report (
      codes "loaded 0 main.o\n" ++
      codes "loaded 2 c.o\n" ++
      codes "symbol 0 <unnamed> -> 0 [ABSOLUTE]\n" ++
      codes "symbol 1 <unnamed> -> 0 [ABSOLUTE | NON_INTERPOSABLE]\n" ++
      codes "symbol 2 foo -> 2 [ABSOLUTE | NON_INTERPOSABLE | UNDEFINED_WEAK]\n" ++
      codes "symbol 3 <unnamed> -> 0 [ABSOLUTE | NON_INTERPOSABLE]\n" ++
      codes "symbol 4 foo -> 6 [NON_INTERPOSABLE | HAS_NON_IR_REF]\n" ++
      codes "symbol 5 <unnamed> -> 0 [ABSOLUTE | NON_INTERPOSABLE]\n" ++
      codes "symbol 6 foo -> 6 [NON_INTERPOSABLE]\n" ++
      codes "undefined 2 foo\n");
}

-- a hidden reference passes by the shared object, and asks for the strong member beside it
abbrev pub a_hidden_reference_takes_no_shared_symbol : Case
a_hidden_reference_takes_no_shared_symbol = record {
  world = world_of elf_like undemangled (of_objects default_options (
      shared (codes "l.so") (defines (codes "foo") 1 ∷ []) ∷
      object (codes "r1.o") (entry (codes "foo") None true Weak Default Plain 0 (Section 1) ∷ []) ∷
      member (codes "r2.o") (defines (codes "foo") 1 ∷ []) ∷
      object (codes "main.o") (entry (codes "foo") None true Global Hidden Plain 0 Undefined ∷ []) ∷ []));
  outcome = report (
      codes "loaded 0 l.so\n" ++
      codes "loaded 1 r1.o\n" ++
      codes "loaded 2 r2.o\n" ++
      codes "loaded 3 main.o\n" ++
      codes "symbol 0 <unnamed> -> 0 [ABSOLUTE]\n" ++
      codes "symbol 1 <unnamed> -> 0 [ABSOLUTE | DYNAMIC]\n" ++
      codes "symbol 2 foo -> 6 [DYNAMIC]\n" ++
      codes "symbol 3 <unnamed> -> 0 [ABSOLUTE | NON_INTERPOSABLE]\n" ++
      codes "symbol 4 foo -> 6 [NON_INTERPOSABLE]\n" ++
      codes "symbol 5 <unnamed> -> 0 [ABSOLUTE | NON_INTERPOSABLE]\n" ++
      codes "symbol 6 foo -> 6 [NON_INTERPOSABLE | DOWNGRADE_TO_LOCAL | HAS_NON_IR_REF]\n" ++
      codes "symbol 7 <unnamed> -> 0 [ABSOLUTE | NON_INTERPOSABLE]\n" ++
      codes "symbol 8 foo -> 6 [ABSOLUTE | NON_INTERPOSABLE]\n");
}

-- a shared object's reference doesn't load another one, and isn't undefined
abbrev pub shared_objects_load_no_shared_objects : Case
shared_objects_load_no_shared_objects = record {
  world = world_of elf_like undemangled (of_objects default_options (
      shared (codes "x.so") (refers (codes "foo") ∷ []) ∷
      file (codes "y.so") true false false true 4 (null_entry ∷ defines (codes "foo") 1 ∷ []) [] ∷ []));
  outcome = report (
      codes "loaded 0 x.so\n" ++
      codes "symbol 0 <unnamed> -> 0 [ABSOLUTE]\n" ++
      codes "symbol 1 <unnamed> -> 0 [ABSOLUTE | DYNAMIC]\n" ++
      codes "symbol 2 foo -> 4 [ABSOLUTE | DYNAMIC]\n" ++
      codes "symbol 3 <unnamed> -> 0 [ABSOLUTE | DYNAMIC]\n" ++
      codes "symbol 4 foo -> 4 [DYNAMIC | HAS_NON_IR_REF]\n");
}

-- two loaded objects define a name
abbrev pub two_strong_definitions : Case
two_strong_definitions = record {
  world = world_of elf_like undemangled (of_objects default_options (
      object (codes "a.o") (defines (codes "foo") 1 ∷ []) ∷
      object (codes "b.o") (defines (codes "foo") 1 ∷ []) ∷ []));
  outcome = refusal (codes "Duplicate symbols detected: foo, defined in a.o and b.o");
}

-- where that is allowed the first counts
abbrev pub two_strong_definitions_are_allowed : Case
two_strong_definitions_are_allowed = record {
  world = world_of elf_like undemangled (of_objects (record default_options { allow_multiple = true }) (
      object (codes "a.o") (defines (codes "foo") 1 ∷ []) ∷
      object (codes "b.o") (defines (codes "foo") 1 ∷ []) ∷ []));
  outcome = report (
      codes "loaded 0 a.o\n" ++
      codes "loaded 1 b.o\n" ++
      codes "symbol 0 <unnamed> -> 0 [ABSOLUTE]\n" ++
      codes "symbol 1 <unnamed> -> 0 [ABSOLUTE | NON_INTERPOSABLE]\n" ++
      codes "symbol 2 foo -> 2 [NON_INTERPOSABLE]\n" ++
      codes "symbol 3 <unnamed> -> 0 [ABSOLUTE | NON_INTERPOSABLE]\n" ++
      codes "symbol 4 foo -> 2 [NON_INTERPOSABLE]\n");
}

-- of two COMDAT groups of one signature the first is kept, and its definition counts
abbrev pub one_group_is_kept : Case
one_group_is_kept = record {
  world = world_of elf_like undemangled (of_objects default_options (
      file (codes "a.o") false false false false 3 (
      null_entry ∷
      defines (codes "f") 1 ∷ []) (group 2 1 true (1 ∷ []) ∷ []) ∷
      file (codes "b.o") false false false false 3 (
      null_entry ∷
      defines (codes "f") 1 ∷ []) (group 2 1 true (1 ∷ []) ∷ []) ∷ []));
  outcome = report (
      codes "loaded 0 a.o\n" ++
      codes "loaded 1 b.o\n" ++
      codes "kept 0 0 f\n" ++
      codes "symbol 0 <unnamed> -> 0 [ABSOLUTE]\n" ++
      codes "symbol 1 <unnamed> -> 0 [ABSOLUTE | NON_INTERPOSABLE]\n" ++
      codes "symbol 2 f -> 2 [NON_INTERPOSABLE]\n" ++
      codes "symbol 3 <unnamed> -> 0 [ABSOLUTE | NON_INTERPOSABLE]\n" ++
      codes "symbol 4 f -> 2 [NON_INTERPOSABLE]\n");
}

-- in a partial output the signature of the group that stays is marked
abbrev pub a_partial_output_marks_signatures : Case
a_partial_output_marks_signatures = record {
  world = world_of elf_like undemangled (of_objects (record default_options { output = Partial }) (
      file (codes "a.o") false false false false 3 (
      null_entry ∷
      defines (codes "f") 1 ∷ []) (group 2 1 true (1 ∷ []) ∷ []) ∷
      file (codes "b.o") false false false false 3 (
      null_entry ∷
      defines (codes "f") 1 ∷ []) (group 2 1 true (1 ∷ []) ∷ []) ∷ []));
  outcome = report (
      codes "loaded 0 a.o\n" ++
      codes "loaded 1 b.o\n" ++
      codes "kept 0 0 f\n" ++
      codes "symbol 0 <unnamed> -> 0 [ABSOLUTE]\n" ++
      codes "symbol 1 <unnamed> -> 0 [ABSOLUTE | NON_INTERPOSABLE]\n" ++
      codes "symbol 2 f -> 2 [NON_INTERPOSABLE | GROUP_SIGNATURE]\n" ++
      codes "symbol 3 <unnamed> -> 0 [ABSOLUTE | NON_INTERPOSABLE]\n" ++
      codes "symbol 4 f -> 2 [NON_INTERPOSABLE]\n");
}

-- a section that is listed twice as a member
abbrev pub a_section_in_two_groups : Case
a_section_in_two_groups = record {
  world = world_of elf_like undemangled (of_objects default_options (
      file (codes "a.o") false false false false 4 (
      null_entry ∷
      defines (codes "f") 1 ∷ []) (group 3 1 true (2 ∷ 2 ∷ []) ∷ []) ∷ []));
  outcome = refusal (codes "a.o: section 2 belongs to multiple groups");
}

-- in a member that is not loaded it is no cause
abbrev pub an_unloaded_section_in_two_groups : Case
an_unloaded_section_in_two_groups = record {
  world = world_of elf_like undemangled (of_objects default_options (
      object (codes "main.o") [] ∷
      file (codes "a.o") false true false false 4 (
      null_entry ∷
      defines (codes "f") 1 ∷ []) (group 3 1 true (2 ∷ 2 ∷ []) ∷ []) ∷ []));
  outcome = report (
      codes "loaded 0 main.o\n" ++
      codes "symbol 0 <unnamed> -> 0 [ABSOLUTE]\n" ++
      codes "symbol 1 <unnamed> -> 0 [ABSOLUTE | NON_INTERPOSABLE]\n" ++
      codes "symbol 2 <unnamed> -> 0 [ABSOLUTE | NON_INTERPOSABLE]\n" ++
      codes "symbol 3 f -> 3 [NON_INTERPOSABLE]\n");
}

-- of a name with a version a strong definition counts before a weak one
abbrev pub a_weak_version_gives_way : Case
a_weak_version_gives_way = record {
  world = world_of elf_like undemangled (of_objects default_options (
      object (codes "a.o") (entry (codes "foo") (Some (codes "V1")) true Weak Default Plain 0 (Section 1) ∷ []) ∷
      object (codes "b.o") (entry (codes "foo") (Some (codes "V1")) true Global Default Plain 0 (Section 1) ∷ []) ∷ []));
  outcome = report (
      codes "loaded 0 a.o\n" ++
      codes "loaded 1 b.o\n" ++
      codes "symbol 0 <unnamed> -> 0 [ABSOLUTE]\n" ++
      codes "symbol 1 <unnamed> -> 0 [ABSOLUTE | NON_INTERPOSABLE]\n" ++
      codes "symbol 2 foo -> 4 [NON_INTERPOSABLE]\n" ++
      codes "symbol 3 <unnamed> -> 0 [ABSOLUTE | NON_INTERPOSABLE]\n" ++
      codes "symbol 4 foo -> 4 [NON_INTERPOSABLE]\n");
}

-- a reference with a version means the definition of that version alone
abbrev pub a_reference_to_a_version : Case
a_reference_to_a_version = record {
  world = world_of elf_like undemangled (of_objects default_options (
      object (codes "main.o") (entry (codes "foo") (Some (codes "V2")) false Global Default Plain 0 Undefined ∷ []) ∷
      object (codes "b.o") (
      entry (codes "foo") (Some (codes "V1")) false Global Default Plain 0 (Section 1) ∷
      entry (codes "foo") (Some (codes "V2")) false Global Default Plain 0 (Section 1) ∷ []) ∷ []));
  outcome = report (
      codes "loaded 0 main.o\n" ++
      codes "loaded 1 b.o\n" ++
      codes "symbol 0 <unnamed> -> 0 [ABSOLUTE]\n" ++
      codes "symbol 1 <unnamed> -> 0 [ABSOLUTE | NON_INTERPOSABLE]\n" ++
      codes "symbol 2 foo -> 5 [ABSOLUTE]\n" ++
      codes "symbol 3 <unnamed> -> 0 [ABSOLUTE | NON_INTERPOSABLE]\n" ++
      codes "symbol 4 foo -> 4 [NON_INTERPOSABLE]\n" ++
      codes "symbol 5 foo -> 5 [NON_INTERPOSABLE | HAS_NON_IR_REF]\n");
}

-- without that section the last reference stands for the name
abbrev pub no_start_symbol_is_made : Case
no_start_symbol_is_made = record {
  world = world_of elf_like undemangled (of_objects default_options (
      object (codes "a.o") (refers (codes "__start_data") ∷ []) ∷
      object (codes "b.o") (refers (codes "__start_data") ∷ []) ∷ []));
  outcome = report (
      codes "loaded 0 a.o\n" ++
      codes "loaded 1 b.o\n" ++
      codes "symbol 0 <unnamed> -> 0 [ABSOLUTE]\n" ++
      codes "symbol 1 <unnamed> -> 0 [ABSOLUTE | NON_INTERPOSABLE]\n" ++
      codes "symbol 2 __start_data -> 4 [ABSOLUTE]\n" ++
      codes "symbol 3 <unnamed> -> 0 [ABSOLUTE | NON_INTERPOSABLE]\n" ++
      codes "symbol 4 __start_data -> 4 [ABSOLUTE | NON_INTERPOSABLE]\n" ++
      codes "undefined 4 __start_data\n");
}

-- of tentative definitions the largest counts, the first of equals, and before a weak one
abbrev pub the_largest_common_symbol : Case
the_largest_common_symbol = record {
  world = world_of elf_like undemangled (of_objects default_options (
      object (codes "a.o") (entry (codes "foo") None true Weak Default Plain 0 (Section 1) ∷ []) ∷
      object (codes "b.o") (entry (codes "foo") None true Global Default Plain 4 Common ∷ []) ∷
      object (codes "c.o") (entry (codes "foo") None true Global Default Plain 8 Common ∷ []) ∷
      object (codes "d.o") (entry (codes "foo") None true Global Default Plain 8 Common ∷ []) ∷ []));
  outcome = report (
      codes "loaded 0 a.o\n" ++
      codes "loaded 1 b.o\n" ++
      codes "loaded 2 c.o\n" ++
      codes "loaded 3 d.o\n" ++
      codes "symbol 0 <unnamed> -> 0 [ABSOLUTE]\n" ++
      codes "symbol 1 <unnamed> -> 0 [ABSOLUTE | NON_INTERPOSABLE]\n" ++
      codes "symbol 2 foo -> 6 [NON_INTERPOSABLE]\n" ++
      codes "symbol 3 <unnamed> -> 0 [ABSOLUTE | NON_INTERPOSABLE]\n" ++
      codes "symbol 4 foo -> 6 [NON_INTERPOSABLE]\n" ++
      codes "symbol 5 <unnamed> -> 0 [ABSOLUTE | NON_INTERPOSABLE]\n" ++
      codes "symbol 6 foo -> 6 [NON_INTERPOSABLE]\n" ++
      codes "symbol 7 <unnamed> -> 0 [ABSOLUTE | NON_INTERPOSABLE]\n" ++
      codes "symbol 8 foo -> 6 [NON_INTERPOSABLE]\n");
}

-- where weak definitions override tentative ones the weak one counts
abbrev pub weak_before_common : Case
weak_before_common = record {
  world = world_of mach_like undemangled (of_objects default_options (
      file (codes "a.o") false false false false 4 (
      entry (codes "foo") None true Weak Default Plain 0 (Section 1) ∷ []) [] ∷
      file (codes "b.o") false false false false 4 (entry (codes "foo") None true Global Default Plain 4 Common ∷ []) [] ∷
      file (codes "c.o") false false false false 4 (entry (codes "foo") None true Global Default Plain 8 Common ∷ []) [] ∷ []));
  outcome = report (
      codes "loaded 0 a.o\n" ++
      codes "loaded 1 b.o\n" ++
      codes "loaded 2 c.o\n" ++
      codes "symbol 0 <unnamed> -> 0 [ABSOLUTE]\n" ++
      codes "symbol 1 foo -> 1 [NON_INTERPOSABLE]\n" ++
      codes "symbol 2 foo -> 1 [NON_INTERPOSABLE]\n" ++
      codes "symbol 3 foo -> 1 [NON_INTERPOSABLE]\n");
}

-- a protected reference has no shared target, one with a version neither: where nothing else defines the name it stays undefined
abbrev pub a_protected_reference_to_a_shared_symbol : Case
a_protected_reference_to_a_shared_symbol = record {
  world = world_of elf_like undemangled (of_objects default_options (
      shared (codes "l.so") (
      defines (codes "foo") 1 ∷
      entry (codes "bar") (Some (codes "V1")) true Global Default Plain 0 (Section 1) ∷ []) ∷
      object (codes "a.o") (
      entry (codes "foo") None true Global Protected Plain 0 Undefined ∷
      entry (codes "bar") (Some (codes "V1")) true Global Protected Plain 0 Undefined ∷
      refers (codes "foo") ∷ []) ∷ []));
  outcome = report (
      codes "loaded 0 l.so\n" ++
      codes "loaded 1 a.o\n" ++
      codes "symbol 0 <unnamed> -> 0 [ABSOLUTE]\n" ++
      codes "symbol 1 <unnamed> -> 0 [ABSOLUTE | DYNAMIC]\n" ++
      codes "symbol 2 foo -> 2 [DYNAMIC | HAS_NON_IR_REF]\n" ++
      codes "symbol 3 bar -> 3 [DYNAMIC]\n" ++
      codes "symbol 4 <unnamed> -> 0 [ABSOLUTE | NON_INTERPOSABLE]\n" ++
      codes "symbol 5 foo -> 5 [ABSOLUTE | NON_INTERPOSABLE]\n" ++
      codes "symbol 6 bar -> 0 [ABSOLUTE | NON_INTERPOSABLE]\n" ++
      codes "symbol 7 foo -> 2 [ABSOLUTE]\n" ++
      codes "undefined 5 foo\n" ++
      codes "undefined 6 bar@V1\n");
}

-- an undefined protected reference passes nothing to the dynamic definition of its name
abbrev pub a_protected_record_of_a_shared_symbol : Case
a_protected_record_of_a_shared_symbol = record {
  world = world_of elf_like undemangled (of_objects default_options (
      object (codes "a.o") (entry (codes "foo") None true Global Protected Plain 0 Undefined ∷ []) ∷
      shared (codes "l.so") (defines (codes "foo") 1 ∷ []) ∷ []));
  outcome = report (
      codes "loaded 0 a.o\n" ++
      codes "loaded 1 l.so\n" ++
      codes "symbol 0 <unnamed> -> 0 [ABSOLUTE]\n" ++
      codes "symbol 1 <unnamed> -> 0 [ABSOLUTE | NON_INTERPOSABLE]\n" ++
      codes "symbol 2 foo -> 2 [ABSOLUTE | NON_INTERPOSABLE]\n" ++
      codes "symbol 3 <unnamed> -> 0 [ABSOLUTE | DYNAMIC]\n" ++
      codes "symbol 4 foo -> 4 [DYNAMIC]\n" ++
      codes "undefined 2 foo\n");
}

-- no definition survives, so that in a loaded regular object counts before that in an unloaded one
abbrev pub the_first_in_a_loaded_regular_object : Case
the_first_in_a_loaded_regular_object = record {
  world = world_of elf_like undemangled (of_objects default_options (
      member (codes "m.o") (entry (codes "f") None true Weak Default Plain 0 (Section 1) ∷ []) ∷
      file (codes "a.o") false false false false 3 (
      null_entry ∷
      defines (codes "g") 1 ∷ []) (group 2 1 true (1 ∷ []) ∷ []) ∷
      file (codes "b.o") false false false false 3 (
      null_entry ∷
      defines (codes "g") 1 ∷
      entry (codes "f") None true Weak Default Plain 0 (Section 1) ∷ []) (group 2 1 true (1 ∷ []) ∷ []) ∷ []));
  outcome = report (
      codes "loaded 1 a.o\n" ++
      codes "loaded 2 b.o\n" ++
      codes "kept 1 0 g\n" ++
      codes "symbol 0 <unnamed> -> 0 [ABSOLUTE]\n" ++
      codes "symbol 1 <unnamed> -> 0 [ABSOLUTE | NON_INTERPOSABLE]\n" ++
      codes "symbol 2 f -> 7 [NON_INTERPOSABLE]\n" ++
      codes "symbol 3 <unnamed> -> 0 [ABSOLUTE | NON_INTERPOSABLE]\n" ++
      codes "symbol 4 g -> 4 [NON_INTERPOSABLE]\n" ++
      codes "symbol 5 <unnamed> -> 0 [ABSOLUTE | NON_INTERPOSABLE]\n" ++
      codes "symbol 6 g -> 4 [NON_INTERPOSABLE]\n" ++
      codes "symbol 7 f -> 7 [NON_INTERPOSABLE]\n");
}

-- an undefined hidden reference passes its visibility to the definition of what its name is mapped to, be it dynamic
abbrev pub visibility_is_passed_to_a_definition : Case
visibility_is_passed_to_a_definition = record {
  world = world_of elf_like undemangled (of_objects default_options (
      file (codes "l.so") true false false true 4 (null_entry ∷ defines (codes "foo") 1 ∷ []) [] ∷
      shared (codes "k.so") (defines (codes "foo") 1 ∷ []) ∷
      object (codes "a.o") (entry (codes "foo") None true Global Hidden Plain 0 Undefined ∷ []) ∷ []));
  outcome = report (
      codes "loaded 1 k.so\n" ++
      codes "loaded 2 a.o\n" ++
      codes "symbol 0 <unnamed> -> 0 [ABSOLUTE]\n" ++
      codes "symbol 1 <unnamed> -> 0 [ABSOLUTE | DYNAMIC]\n" ++
      codes "symbol 2 foo -> 4 [DYNAMIC]\n" ++
      codes "symbol 3 <unnamed> -> 0 [ABSOLUTE | DYNAMIC]\n" ++
      codes "symbol 4 foo -> 4 [DYNAMIC | NON_INTERPOSABLE | DOWNGRADE_TO_LOCAL]\n" ++
      codes "symbol 5 <unnamed> -> 0 [ABSOLUTE | NON_INTERPOSABLE]\n" ++
      codes "symbol 6 foo -> 6 [ABSOLUTE | NON_INTERPOSABLE]\n" ++
      codes "undefined 6 foo\n");
}

-- a weak hidden reference to a member that is not loaded marks it all the same
abbrev pub a_weak_hidden_reference : Case
a_weak_hidden_reference = record {
  world = world_of elf_like undemangled (of_objects (record default_options { output = SharedObject }) (
      member (codes "m.o") (defines (codes "foo") 1 ∷ []) ∷
      object (codes "a.o") (entry (codes "foo") None true Weak Hidden Plain 0 Undefined ∷ []) ∷ []));
  outcome = report (
      codes "loaded 1 a.o\n" ++
      codes "symbol 0 <unnamed> -> 0 [ABSOLUTE]\n" ++
      codes "symbol 1 <unnamed> -> 0 [ABSOLUTE | NON_INTERPOSABLE]\n" ++
      codes "symbol 2 foo -> 2 [NON_INTERPOSABLE | DOWNGRADE_TO_LOCAL | HAS_NON_IR_REF]\n" ++
      codes "symbol 3 <unnamed> -> 0 [ABSOLUTE | NON_INTERPOSABLE]\n" ++
      codes "symbol 4 foo -> 4 [ABSOLUTE | NON_INTERPOSABLE | UNDEFINED_WEAK]\n" ++
      codes "undefined 4 foo\n");
}

-- only the group whose header stays marks what its signature means
abbrev pub the_signature_of_a_discarded_group : Case
the_signature_of_a_discarded_group = record {
  world = world_of elf_like undemangled (of_objects (record default_options {
    output = Partial;
  }) (
      file (codes "a.o") false false false false 3 (
      null_entry ∷
      entry (codes "f") None true Weak Default Plain 0 (Section 1) ∷ []) (group 2 1 true (1 ∷ []) ∷ []) ∷
      file (codes "b.o") false false false false 4 (
      null_entry ∷
      entry (codes "f") None true Weak Default Plain 0 Absolute ∷
      refers (codes "f") ∷ []) (group 2 2 true (1 ∷ []) ∷ []) ∷
      file (codes "c.o") false false false false 4 (null_entry ∷ defines (codes "g") 1 ∷ defines (codes "h") 1 ∷ []) (
      group 2 1 true (1 ∷ []) ∷
      group 3 1 true [] ∷
      group 0 2 false [] ∷ []) ∷ []));
  outcome = report (
      codes "loaded 0 a.o\n" ++
      codes "loaded 1 b.o\n" ++
      codes "loaded 2 c.o\n" ++
      codes "kept 0 0 f\n" ++
      codes "kept 2 0 g\n" ++
      codes "symbol 0 <unnamed> -> 0 [ABSOLUTE]\n" ++
      codes "symbol 1 <unnamed> -> 0 [ABSOLUTE | NON_INTERPOSABLE]\n" ++
      codes "symbol 2 f -> 2 [NON_INTERPOSABLE | HAS_NON_IR_REF | GROUP_SIGNATURE]\n" ++
      codes "symbol 3 <unnamed> -> 0 [ABSOLUTE | NON_INTERPOSABLE]\n" ++
      codes "symbol 4 f -> 2 [ABSOLUTE | NON_INTERPOSABLE]\n" ++
      codes "symbol 5 f -> 2 [ABSOLUTE]\n" ++
      codes "symbol 6 <unnamed> -> 0 [ABSOLUTE | NON_INTERPOSABLE]\n" ++
      codes "symbol 7 g -> 7 [NON_INTERPOSABLE | GROUP_SIGNATURE]\n" ++
      codes "symbol 8 h -> 8 [NON_INTERPOSABLE | GROUP_SIGNATURE]\n");
}

-- of two sections that are listed twice the one whose second mention comes first is told
abbrev pub the_member_that_was_listed_before : Case
the_member_that_was_listed_before = record {
  world = world_of elf_like undemangled (of_objects default_options (
      file (codes "a.o") false false false false 8 (null_entry ∷ defines (codes "f") 1 ∷ []) (
      group 5 1 true (1 ∷ 2 ∷ 3 ∷ []) ∷
      group 6 1 true (4 ∷ 3 ∷ 1 ∷ []) ∷ []) ∷ []));
  outcome = refusal (codes "a.o: section 3 belongs to multiple groups");
}

-- only a shared object is taken as needed, a regular object always
abbrev pub an_object_that_is_no_library_is_not_optional : Case
an_object_that_is_no_library_is_not_optional = record {
  world = world_of elf_like undemangled (of_objects default_options (
      file (codes "a.o") false false false true 4 (null_entry ∷ defines (codes "foo") 1 ∷ []) [] ∷ []));
  outcome = report (
      codes "loaded 0 a.o\n" ++
      codes "symbol 0 <unnamed> -> 0 [ABSOLUTE]\n" ++
      codes "symbol 1 <unnamed> -> 0 [ABSOLUTE | NON_INTERPOSABLE]\n" ++
      codes "symbol 2 foo -> 2 [NON_INTERPOSABLE]\n");
}

-- no definition is loaded, so the first of the list counts
abbrev pub the_head_of_a_list : Case
the_head_of_a_list = record {
  world = world_of elf_like undemangled (of_objects default_options (
      object (codes "main.o") [] ∷
      member (codes "m.o") (entry (codes "foo") None true Weak Default Plain 0 (Section 1) ∷ []) ∷
      member (codes "n.o") (defines (codes "foo") 1 ∷ []) ∷ []));
  outcome = report (
      codes "loaded 0 main.o\n" ++
      codes "symbol 0 <unnamed> -> 0 [ABSOLUTE]\n" ++
      codes "symbol 1 <unnamed> -> 0 [ABSOLUTE | NON_INTERPOSABLE]\n" ++
      codes "symbol 2 <unnamed> -> 0 [ABSOLUTE | NON_INTERPOSABLE]\n" ++
      codes "symbol 3 foo -> 3 [NON_INTERPOSABLE]\n" ++
      codes "symbol 4 <unnamed> -> 0 [ABSOLUTE | NON_INTERPOSABLE]\n" ++
      codes "symbol 5 foo -> 3 [NON_INTERPOSABLE]\n");
}

-- the first of the versioned list itself counts, not what it stands for
abbrev pub the_head_of_a_versioned_list : Case
the_head_of_a_versioned_list = record {
  world = world_of elf_like undemangled (of_objects default_options (
      object (codes "main.o") [] ∷
      member (codes "m.o") (
      defines (codes "foo") 1 ∷
      entry (codes "foo") (Some (codes "V1")) true Global Default Plain 0 (Section 1) ∷ []) ∷
      member (codes "n.o") (entry (codes "foo") (Some (codes "V1")) false Global Default Plain 0 (Section 1) ∷ []) ∷ []));
  outcome = report (
      codes "loaded 0 main.o\n" ++
      codes "symbol 0 <unnamed> -> 0 [ABSOLUTE]\n" ++
      codes "symbol 1 <unnamed> -> 0 [ABSOLUTE | NON_INTERPOSABLE]\n" ++
      codes "symbol 2 <unnamed> -> 0 [ABSOLUTE | NON_INTERPOSABLE]\n" ++
      codes "symbol 3 foo -> 3 [NON_INTERPOSABLE]\n" ++
      codes "symbol 4 foo -> 4 [NON_INTERPOSABLE]\n" ++
      codes "symbol 5 <unnamed> -> 0 [ABSOLUTE | NON_INTERPOSABLE]\n" ++
      codes "symbol 6 foo -> 4 [NON_INTERPOSABLE]\n");
}

-- one section more than ids can name
abbrev pub too_many_sections : Case
too_many_sections = record {
  world = world_of elf_like undemangled (of_objects default_options (
      file (codes "a.o") false false false false 4294967295 (null_entry ∷ []) [] ∷
      file (codes "b.o") false false false false 1 (null_entry ∷ []) [] ∷ []));
  outcome = refusal (codes "Too many sections: 4294967296");
}

-- the sections of a shared object are not counted
abbrev pub sections_of_shared_objects : Case
sections_of_shared_objects = record {
  world = world_of elf_like undemangled (of_objects default_options (
      file (codes "a.o") false false false false 4294967295 (null_entry ∷ []) [] ∷
      file (codes "l.so") true false false false 1 (null_entry ∷ []) [] ∷ []));
  outcome = report (
      codes "loaded 0 a.o\n" ++
      codes "loaded 1 l.so\n" ++
      codes "symbol 0 <unnamed> -> 0 [ABSOLUTE]\n" ++
      codes "symbol 1 <unnamed> -> 0 [ABSOLUTE | NON_INTERPOSABLE]\n" ++
      codes "symbol 2 <unnamed> -> 0 [ABSOLUTE | DYNAMIC]\n");
}

-- a hidden reference to a version whose shared definition heads no plain list has no target
abbrev pub a_versioned_shared_symbol_behind_another : Case
a_versioned_shared_symbol_behind_another = record {
  world = world_of elf_like undemangled (of_objects default_options (
      shared (codes "k.so") (defines (codes "foo") 1 ∷ []) ∷
      shared (codes "l.so") (entry (codes "foo") (Some (codes "V1")) true Global Default Plain 0 (Section 1) ∷ []) ∷
      object (codes "r.o") (defines (codes "foo") 1 ∷ []) ∷
      object (codes "main.o") (entry (codes "foo") (Some (codes "V1")) true Global Hidden Plain 0 Undefined ∷ []) ∷ []));
  outcome = report (
      codes "loaded 0 k.so\n" ++
      codes "loaded 1 l.so\n" ++
      codes "loaded 2 r.o\n" ++
      codes "loaded 3 main.o\n" ++
      codes "symbol 0 <unnamed> -> 0 [ABSOLUTE]\n" ++
      codes "symbol 1 <unnamed> -> 0 [ABSOLUTE | DYNAMIC]\n" ++
      codes "symbol 2 foo -> 6 [DYNAMIC]\n" ++
      codes "symbol 3 <unnamed> -> 0 [ABSOLUTE | DYNAMIC]\n" ++
      codes "symbol 4 foo -> 6 [DYNAMIC]\n" ++
      codes "symbol 5 <unnamed> -> 0 [ABSOLUTE | NON_INTERPOSABLE]\n" ++
      codes "symbol 6 foo -> 6 [NON_INTERPOSABLE]\n" ++
      codes "symbol 7 <unnamed> -> 0 [ABSOLUTE | NON_INTERPOSABLE]\n" ++
      codes "symbol 8 foo -> 0 [ABSOLUTE | NON_INTERPOSABLE]\n" ++
      codes "undefined 8 foo@V1\n");
}

-- the pick beside a shared symbol goes by the platform's order
abbrev pub a_hidden_reference_where_weak_overrides_common : Case
a_hidden_reference_where_weak_overrides_common = record {
  world = world_of mach_like undemangled (of_objects default_options (
      file (codes "l.so") true false false false 4 (defines (codes "foo") 1 ∷ []) [] ∷
      file (codes "r1.o") false true false false 4 (entry (codes "foo") None true Global Default Plain 8 Common ∷ []) [] ∷
      file (codes "r2.o") false true false false 4 (
      entry (codes "foo") None true Weak Default Plain 0 (Section 1) ∷ []) [] ∷
      file (codes "main.o") false false false false 4 (
      entry (codes "foo") None true Global Hidden Plain 0 Undefined ∷ []) [] ∷ []));
  outcome = report (
      codes "loaded 0 l.so\n" ++
      codes "loaded 2 r2.o\n" ++
      codes "loaded 3 main.o\n" ++
      codes "symbol 0 <unnamed> -> 0 [ABSOLUTE]\n" ++
      codes "symbol 1 foo -> 3 [DYNAMIC]\n" ++
      codes "symbol 2 foo -> 3 [NON_INTERPOSABLE]\n" ++
      codes "symbol 3 foo -> 3 [NON_INTERPOSABLE | DOWNGRADE_TO_LOCAL | HAS_NON_IR_REF]\n" ++
      codes "symbol 4 foo -> 3 [ABSOLUTE | NON_INTERPOSABLE]\n");
}

-- a section in two groups is told before duplicates
abbrev pub a_section_in_two_groups_before_duplicates : Case
a_section_in_two_groups_before_duplicates = record {
  world = world_of elf_like undemangled (of_objects default_options (
      file (codes "a.o") false false false false 4 (
      null_entry ∷
      defines (codes "f") 1 ∷ []) (
      group 3 1 true (2 ∷ []) ∷
      group 0 1 true (1 ∷ 2 ∷ []) ∷ []) ∷
      object (codes "b.o") (defines (codes "f") 1 ∷ []) ∷ []));
  outcome = refusal (codes "a.o: section 2 belongs to multiple groups");
}

-- duplicates are told before an undeclared version, in the order of their bytes
abbrev pub duplicates_before_versions : Case
duplicates_before_versions = record {
  world = world_of elf_like undemangled (of_objects (record default_options { output = SharedObject }) (
      object (codes "a.o") (
      entry (codes "foo") (Some (codes "X")) true Global Default Plain 0 (Section 1) ∷
      defines (codes "bar") 1 ∷
      defines (codes "bas") 1 ∷ []) ∷
      object (codes "b.o") (
      entry (codes "foo") (Some (codes "X")) true Global Default Plain 0 (Section 1) ∷
      defines (codes "bar") 1 ∷
      defines (codes "bas") 1 ∷ []) ∷ []));
  outcome = refusal (
      codes "Duplicate symbols detected: bar, defined in a.o and b.o\nbas, defined in a.o and b.o\nfoo, defined in " ++
      codes "a.o and b.o\nfoo, defined in a.o and b.o");
}

-- a shared definition survives, so it counts before one in a discarded section
abbrev pub a_shared_definition_beside_a_discarded_one : Case
a_shared_definition_beside_a_discarded_one = record {
  world = world_of elf_like undemangled (of_objects default_options (
      file (codes "a.o") false false false false 3 (
      null_entry ∷
      defines (codes "g") 1 ∷ []) (group 2 1 true (1 ∷ []) ∷ []) ∷
      file (codes "b.o") false false false false 3 (
      null_entry ∷
      defines (codes "g") 1 ∷
      defines (codes "f") 1 ∷ []) (group 2 1 true (1 ∷ []) ∷ []) ∷
      shared (codes "l.so") (defines (codes "f") 1 ∷ []) ∷ []));
  outcome = report (
      codes "loaded 0 a.o\n" ++
      codes "loaded 1 b.o\n" ++
      codes "loaded 2 l.so\n" ++
      codes "kept 0 0 g\n" ++
      codes "symbol 0 <unnamed> -> 0 [ABSOLUTE]\n" ++
      codes "symbol 1 <unnamed> -> 0 [ABSOLUTE | NON_INTERPOSABLE]\n" ++
      codes "symbol 2 g -> 2 [NON_INTERPOSABLE]\n" ++
      codes "symbol 3 <unnamed> -> 0 [ABSOLUTE | NON_INTERPOSABLE]\n" ++
      codes "symbol 4 g -> 2 [NON_INTERPOSABLE]\n" ++
      codes "symbol 5 f -> 7 [NON_INTERPOSABLE]\n" ++
      codes "symbol 6 <unnamed> -> 0 [ABSOLUTE | DYNAMIC]\n" ++
      codes "symbol 7 f -> 7 [DYNAMIC]\n");
}

-- definitions of a version that all stand for another of their plain name mean that
abbrev pub a_version_stands_for_its_plain_choice : Case
a_version_stands_for_its_plain_choice = record {
  world = world_of elf_like undemangled (of_objects default_options (
      object (codes "a.o") (entry (codes "foo") (Some (codes "V1")) true Weak Default Plain 0 (Section 1) ∷ []) ∷
      object (codes "b.o") (entry (codes "foo") (Some (codes "V1")) true Weak Default Plain 0 (Section 1) ∷ []) ∷
      object (codes "c.o") (defines (codes "foo") 1 ∷ []) ∷ []));
  outcome = report (
      codes "loaded 0 a.o\n" ++
      codes "loaded 1 b.o\n" ++
      codes "loaded 2 c.o\n" ++
      codes "symbol 0 <unnamed> -> 0 [ABSOLUTE]\n" ++
      codes "symbol 1 <unnamed> -> 0 [ABSOLUTE | NON_INTERPOSABLE]\n" ++
      codes "symbol 2 foo -> 6 [NON_INTERPOSABLE]\n" ++
      codes "symbol 3 <unnamed> -> 0 [ABSOLUTE | NON_INTERPOSABLE]\n" ++
      codes "symbol 4 foo -> 6 [NON_INTERPOSABLE]\n" ++
      codes "symbol 5 <unnamed> -> 0 [ABSOLUTE | NON_INTERPOSABLE]\n" ++
      codes "symbol 6 foo -> 6 [NON_INTERPOSABLE]\n");
}

-- but a definition of a version stands for itself where its plain name's choice is dynamic
abbrev pub a_version_does_not_stand_for_a_shared_symbol : Case
a_version_does_not_stand_for_a_shared_symbol = record {
  world = world_of elf_like undemangled (of_objects default_options (
      file (codes "z.o") false false false false 3 (
      null_entry ∷
      defines (codes "g") 1 ∷ []) (group 2 1 true (1 ∷ []) ∷ []) ∷
      shared (codes "l.so") (defines (codes "foo") 1 ∷ []) ∷
      file (codes "a.o") false false false false 3 (
      null_entry ∷
      defines (codes "g") 1 ∷
      entry (codes "foo") (Some (codes "V1")) true Global Default Plain 0 (Section 1) ∷ []) (
      group 2 1 true (1 ∷ []) ∷ []) ∷
      member (codes "b.o") (entry (codes "foo") (Some (codes "V1")) false Global Default Plain 0 (Section 1) ∷ []) ∷ []));
  outcome = report (
      codes "loaded 0 z.o\n" ++
      codes "loaded 1 l.so\n" ++
      codes "loaded 2 a.o\n" ++
      codes "kept 0 0 g\n" ++
      codes "symbol 0 <unnamed> -> 0 [ABSOLUTE]\n" ++
      codes "symbol 1 <unnamed> -> 0 [ABSOLUTE | NON_INTERPOSABLE]\n" ++
      codes "symbol 2 g -> 2 [NON_INTERPOSABLE]\n" ++
      codes "symbol 3 <unnamed> -> 0 [ABSOLUTE | DYNAMIC]\n" ++
      codes "symbol 4 foo -> 4 [DYNAMIC]\n" ++
      codes "symbol 5 <unnamed> -> 0 [ABSOLUTE | NON_INTERPOSABLE]\n" ++
      codes "symbol 6 g -> 2 [NON_INTERPOSABLE]\n" ++
      codes "symbol 7 foo -> 7 [NON_INTERPOSABLE]\n" ++
      codes "symbol 8 <unnamed> -> 0 [ABSOLUTE | NON_INTERPOSABLE]\n" ++
      codes "symbol 9 foo -> 7 [NON_INTERPOSABLE]\n");
}

-- the strictest visibility among the definitions of a version counts for each
abbrev pub a_hidden_definition_of_a_version : Case
a_hidden_definition_of_a_version = record {
  world = world_of elf_like undemangled (of_objects (record default_options {
    output = SharedObject;
    allow_multiple = true;
  }) (
      object (codes "a.o") (entry (codes "foo") (Some []) false Global Hidden Plain 0 (Section 1) ∷ []) ∷
      object (codes "b.o") (entry (codes "foo") (Some []) false Global Default Plain 0 (Section 1) ∷ []) ∷
      member (codes "c.o") (entry (codes "foo") (Some []) false Global Protected Plain 0 (Section 1) ∷ []) ∷ []));
  outcome = report (
      codes "loaded 0 a.o\n" ++
      codes "loaded 1 b.o\n" ++
      codes "symbol 0 <unnamed> -> 0 [ABSOLUTE]\n" ++
      codes "symbol 1 <unnamed> -> 0 [ABSOLUTE | NON_INTERPOSABLE]\n" ++
      codes "symbol 2 foo -> 2 [NON_INTERPOSABLE | DOWNGRADE_TO_LOCAL]\n" ++
      codes "symbol 3 <unnamed> -> 0 [ABSOLUTE | NON_INTERPOSABLE]\n" ++
      codes "symbol 4 foo -> 2 [NON_INTERPOSABLE | DOWNGRADE_TO_LOCAL]\n" ++
      codes "symbol 5 <unnamed> -> 0 [ABSOLUTE | NON_INTERPOSABLE]\n" ++
      codes "symbol 6 foo -> 2 [NON_INTERPOSABLE | DOWNGRADE_TO_LOCAL]\n" ++
      codes "version 2 1\n");
}

-- a discarded group marks nothing, be its signature a symbol of its own
abbrev pub a_local_signature_of_a_discarded_group : Case
a_local_signature_of_a_discarded_group = record {
  world = world_of elf_like undemangled (of_objects (record default_options { output = Partial }) (
      file (codes "a.o") false false false false 3 (
      null_entry ∷
      defines (codes "f") 1 ∷ []) (group 2 1 true (1 ∷ []) ∷ []) ∷
      file (codes "b.o") false false false false 4 (
      null_entry ∷
      entry (codes "f") None true Local Default Plain 0 (Section 3) ∷ []) (group 2 1 true (1 ∷ []) ∷ []) ∷ []));
  outcome = report (
      codes "loaded 0 a.o\n" ++
      codes "loaded 1 b.o\n" ++
      codes "kept 0 0 f\n" ++
      codes "symbol 0 <unnamed> -> 0 [ABSOLUTE]\n" ++
      codes "symbol 1 <unnamed> -> 0 [ABSOLUTE | NON_INTERPOSABLE]\n" ++
      codes "symbol 2 f -> 2 [NON_INTERPOSABLE | GROUP_SIGNATURE]\n" ++
      codes "symbol 3 <unnamed> -> 0 [ABSOLUTE | NON_INTERPOSABLE]\n" ++
      codes "symbol 4 f -> 4 [NON_INTERPOSABLE]\n");
}

-- the last reference to an undefined name stands for it, and says how it is bound
abbrev pub two_references_of_which_the_last_stands : Case
two_references_of_which_the_last_stands = record {
  world = world_of elf_like undemangled (of_objects (record default_options {
    output = SharedObject;
  }) (
      object (codes "a.o") (entry (codes "foo") None true Global Hidden Plain 0 Undefined ∷ []) ∷
      object (codes "b.o") (refers (codes "foo") ∷ entry (codes "foo") None true Weak Default Plain 0 Undefined ∷ []) ∷ []));
  outcome = report (
      codes "loaded 0 a.o\n" ++
      codes "loaded 1 b.o\n" ++
      codes "symbol 0 <unnamed> -> 0 [ABSOLUTE]\n" ++
      codes "symbol 1 <unnamed> -> 0 [ABSOLUTE | NON_INTERPOSABLE]\n" ++
      codes "symbol 2 foo -> 5 [ABSOLUTE | NON_INTERPOSABLE]\n" ++
      codes "symbol 3 <unnamed> -> 0 [ABSOLUTE | NON_INTERPOSABLE]\n" ++
      codes "symbol 4 foo -> 5 [ABSOLUTE]\n" ++
      codes "symbol 5 foo -> 5 [ABSOLUTE | DYNAMIC | UNDEFINED_WEAK]\n" ++
      codes "undefined 5 foo\n");
}

unfoldable pub all_cases : List Case
all_cases =
    members_that_are_asked_for ∷ a_weak_reference_loads_nothing ∷ an_unloaded_definition_stands_aside ∷
    a_hidden_reference_takes_no_shared_symbol ∷ shared_objects_load_no_shared_objects ∷ two_strong_definitions ∷
    two_strong_definitions_are_allowed ∷ one_group_is_kept ∷ a_partial_output_marks_signatures ∷ a_section_in_two_groups ∷
    an_unloaded_section_in_two_groups ∷ a_weak_version_gives_way ∷ a_reference_to_a_version ∷ no_start_symbol_is_made ∷
    the_largest_common_symbol ∷ weak_before_common ∷ a_protected_reference_to_a_shared_symbol ∷
    a_protected_record_of_a_shared_symbol ∷ the_first_in_a_loaded_regular_object ∷ visibility_is_passed_to_a_definition ∷
    a_weak_hidden_reference ∷ the_signature_of_a_discarded_group ∷ the_member_that_was_listed_before ∷
    an_object_that_is_no_library_is_not_optional ∷ the_head_of_a_list ∷ the_head_of_a_versioned_list ∷ too_many_sections ∷
    sections_of_shared_objects ∷ a_versioned_shared_symbol_behind_another ∷
    a_hidden_reference_where_weak_overrides_common ∷ a_section_in_two_groups_before_duplicates ∷
    duplicates_before_versions ∷ a_shared_definition_beside_a_discarded_one ∷ a_version_stands_for_its_plain_choice ∷
    a_version_does_not_stand_for_a_shared_symbol ∷ a_hidden_definition_of_a_version ∷
    a_local_signature_of_a_discarded_group ∷ two_references_of_which_the_last_stands ∷ []
