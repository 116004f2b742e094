-- The work that a plan of a link means.
use Rattle.std.specs.Prelude.{◌≡◌, ℕ, Some, map, slice_get}
use Rattle.link_closure.specs.declared.workload.Workload.{Workload}
use Rattle.link_flags.specs.FlagWords.{numbers_of, words_of}
use Rattle.link_input.specs.declared.platform.Platform.{Ghosts}
use Rattle.link_db_texts.specs.Holds.{platform_of}
use Rattle.link_claim_pool.specs.Marks.{mark_of_pair}
use Rattle.link_db.specs.Seen.{seen}
use Rattle.link_resolve_extraction.specs.declared.plan.LinkPlan.{LinkPlan}
use Rattle.link_resolve_extraction.specs.declared.found.FoundItem.{FoundItem}
use Rattle.link_resolve_extraction.specs.declared.found.ReadItem.{ReadItem}
use Rattle.link_resolve_extraction.specs.declared.items.WorkItem.{WorkItem}
use Rattle.link_resolve_extraction.specs.Asked.{IsFoundIn, IsReadIn, Known, known_by}
use Rattle.link_resolve_extraction.specs.Items.{symbols_of_item}
use Rattle.link_resolve_extraction.specs.Planned.{opening_of, planned}

-- what is known by its database
abbrev pub known_of : {P : Type 0} {G : Ghosts P} → LinkPlan P G → Known
known_of {P} {G} p = known_by (platform_of G).weak_overrides_common (seen p.db.now) p.settled.now

-- its work
abbrev pub work_of : {P : Type 0} {G : Ghosts P} → LinkPlan P G → Workload
work_of p = planned (known_of p) p.objects.items p.items.items p.roots.items (map mark_of_pair p.root_marks.items)
    (opening_of p.symbols (numbers_of (words_of p.flags.now)))

-- what is read in an item of it
abbrev pub read_in : {P : Type 0} {G : Ghosts P} → LinkPlan P G → ℕ → ReadItem → Type 0
read_in p item read = (it : WorkItem) → slice_get p.items.items item ≡ Some it → IsReadIn (known_of p) (symbols_of_item p.objects.items it) read

-- what is found in an item of it
abbrev pub found_in : {P : Type 0} {G : Ghosts P} → LinkPlan P G → ℕ → FoundItem → Type 0
found_in p item found = (it : WorkItem) → slice_get p.items.items item ≡ Some it → IsFoundIn (known_of p) (symbols_of_item p.objects.items it) found
