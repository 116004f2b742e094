-- Which sections of loaded objects `--gc-sections` keeps: what is wanted in any case, and with each section all that it refers to, groups whole.
use Rattle.std.specs.Prelude.{◌≡◌, ◌⊎◌, ℕ, ◌+◌, ◌==◌, ◌&&◌, List, ◌∷◌, Bool, false, not, Option, None, Some, Ok, Contains, IsTrue, if◌then◌else◌, length, nat_lt, option_and_then, option_map, slice_get, slice_index, take}
use Rattle.std.specs.Option.{option_map_or}
use Rattle.link_closure.specs.Closure.{IsLeastClosed, is_marked}
use Rattle.link_flags.specs.FlagBits as flag
use Rattle.link_input.specs.declared.object.SectionGroup.{SectionGroup}
use Rattle.link_input.specs.declared.object.SectionReference.{SectionReference}
use Rattle.link_input.specs.Entries.{is_local, section_of}
use Rattle.link_input.specs.InputFiles.{sections_of}
use Rattle.link_input.specs.Limits.{total}
use Rattle.link_input.specs.ObjectFile.{ObjectFile}
use Rattle.link_input.specs.Outputs.{is_shared_object}
use Rattle.link_input.specs.Symbols.{Symbol, Origin, in_prelude, in_object, in_script, in_stub, entry_passes}
use Rattle.link_rules.specs.Answer.{BatchesEnd}
use Rattle.link_rules.specs.Comdat.{discarded_groups, is_discarded_by}
use Rattle.link_rules.specs.FinalFlags.{final_flags}
use Rattle.link_rules.specs.Loading.{root_symbols}
use Rattle.link_rules.specs.Rivals.{is_in_loaded_regular, two_steps}
use Rattle.link_rules.specs.Selection.{Selection}
use Rattle.link_rules.specs.Undefined.{Resolution, resolved}
use Rattle.link_rules.specs.World.{World, Stage, first_symbol_of, is_definition}

-- a section of an object: the place of the object among all, and the section's own number there
abbrev pub SectionPlace : Type 0
SectionPlace = ℕ × ℕ

-- the sections of regular objects are numbered one object after another, from 0: how many the objects before this place have
abbrev pub sections_before : Stage → ℕ → ℕ
sections_before w f = total sections_of (take f w.objects)

-- the number of a section among those of all regular objects
abbrev pub section_number : Stage → SectionPlace → ℕ
section_number w p = sections_before w p.0 + p.1

-- how many sections all regular objects have
abbrev pub section_count : Stage → ℕ
section_count w = sections_before w (length w.objects)

-- it goes with a section group that is not kept
abbrev pub is_gone : Selection → SectionPlace → Bool
is_gone l p = is_discarded_by (discarded_groups l.stage l.marks) p.0 p.1

-- it is a section of a loaded regular object
abbrev pub is_loaded_section : Selection → SectionPlace → Bool
is_loaded_section l p = is_marked l.marks p.0 && option_map_or (λ o. nat_lt p.1 (sections_of o)) (slice_get l.stage.objects p.0) false

-- it is one that may be kept
abbrev pub is_node : Selection → SectionPlace → Bool
is_node l p = is_loaded_section l p && not (is_gone l p)

-- the section in which a symbol stands: only objects' symbols stand in sections of files
abbrev pub stands_in : Origin → Option SectionPlace
stands_in (in_prelude d) = None
stands_in (in_object f shared e) = option_map (λ section. (f, section)) (section_of e.place)
stands_in (in_script d) = None
stands_in (in_stub strength) = None

-- the home of a symbol: the section in which what it means stands, where that may be kept
abbrev pub home : Resolution → ℕ → Option SectionPlace
home r s = option_and_then (λ p. if is_node r.selection p then Some p else None)
    (option_and_then (λ x. stands_in x.origin) (slice_get r.selection.stage.symbols (two_steps r.table s)))

-- ---- what is kept in any case

-- its object says so (GNU, `SHF_GNU_RETAIN`; GNU ld, `KEEP`)
abbrev pub IsRetained : Stage → SectionPlace → Type 0
IsRetained w p = (o : ObjectFile) × (slice_get w.objects p.0 ≡ Some o) × Contains o.object.retained_sections p.1

-- it is the home of what a root name is mapped to
abbrev pub IsHomeOfRoot : Resolution → SectionPlace → Type 0
IsHomeOfRoot r p = (s : ℕ) × Contains (root_symbols r.selection.stage) s × (home r s ≡ Some p)

-- other modules may bind to the definition at run time: the output is shared, and no version script makes the symbol local
abbrev pub is_exported : Resolution → ℕ → Symbol → Bool
is_exported r s x = is_shared_object r.selection.stage.options.output && is_in_loaded_regular r.selection.marks x.origin
    && is_definition x && not (entry_passes (λ e. is_local e.binding) x.origin)
    && two_steps r.table s == s && not (flag.has (slice_index (final_flags r) s) flag.downgrade_to_local)

-- it is the home of such a definition
abbrev pub IsHomeOfExport : Resolution → SectionPlace → Type 0
IsHomeOfExport r p = (s : ℕ) × (x : Symbol) × (slice_get r.selection.stage.symbols s ≡ Some x) × IsTrue (is_exported r s x) × (home r s ≡ Some p)

-- it is kept whatever refers to it
abbrev pub IsRootSection : Resolution → SectionPlace → Type 0
IsRootSection r p = IsTrue (is_node r.selection p) × (IsRetained r.selection.stage p ⊎ IsHomeOfRoot r p ⊎ IsHomeOfExport r p)

-- ---- what a section keeps

-- the section p refers to a symbol at home in q
abbrev pub RefersTo : Resolution → SectionPlace → SectionPlace → Type 0
RefersTo r p q = (o : ObjectFile) × (reference : SectionReference) × (slice_get r.selection.stage.objects p.0 ≡ Some o)
    × Contains o.object.section_references reference × (reference.from ≡ p.1) × (home r (first_symbol_of r.selection.stage p.0 + reference.to) ≡ Some q)

-- p is a member of a group of which q is a member or the header: a group is kept or thrown away whole (ELF gABI, "Section Groups")
abbrev pub BringsOf : Stage → SectionPlace → SectionPlace → Type 0
BringsOf w p q = (o : ObjectFile) × (group : SectionGroup) × (slice_get w.objects p.0 ≡ Some o)
    × Contains o.object.groups group × Contains group.members p.1 × (q.0 ≡ p.0) × Contains (group.index ∷ group.members) q.1

-- where p is kept, so is q
abbrev pub Keeps : Resolution → SectionPlace → SectionPlace → Type 0
Keeps r p q = IsTrue (is_node r.selection p) × IsTrue (is_node r.selection q) × (RefersTo r p q ⊎ BringsOf r.selection.stage p q)

-- ---- what is kept

-- the same by numbers
abbrev pub IsRootNumber : Resolution → ℕ → Type 0
IsRootNumber r n = (p : SectionPlace) × (section_number r.selection.stage p ≡ n) × IsRootSection r p

abbrev pub KeepsNumber : Resolution → ℕ → ℕ → Type 0
KeepsNumber r n m = (p q : SectionPlace) × (section_number r.selection.stage p ≡ n) × (section_number r.selection.stage q ≡ m) × Keeps r p q

-- the live sections, a mark for each section of all regular objects
abbrev pub AreLive : Resolution → List Bool → Type 0
AreLive r marks = IsLeastClosed (IsRootNumber r) (KeepsNumber r) (section_count r.selection.stage) marks

-- those of a link of the world
abbrev pub AreLiveIn : World → List Bool → Type 0
AreLiveIn w marks = (l : Selection) × BatchesEnd w (Ok l) × AreLive (resolved l) marks
