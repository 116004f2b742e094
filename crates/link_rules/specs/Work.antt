-- The work of a batch, as workers share it: items of consecutive symbols of an object, each with the objects that its references request and the marks that they make.
use Rattle.std.specs.Prelude.{◌≡◌, ◌⊎◌, ℕ, ◌+◌, ◌*◌, ◌-◌, ◌/◌, max, List, [], ◌∷◌, map, filter, take, drop, length, Bool, if◌then◌else◌, is_some, option_to_list}
use Rattle.std.specs.List.{enumerate_from, flat_map, range_with_len}
use Rattle.link_closure.specs.declared.workload.Item.{Item}
use Rattle.link_closure.specs.declared.workload.Mark.{Mark}
use Rattle.link_closure.specs.declared.workload.Workload.{Workload}
use Rattle.link_input.specs.InputFiles.{Batch}
use Rattle.link_input.specs.Symbols.{Symbol, object_in}
use Rattle.link_rules.specs.Places.{each_from, is_number}
use Rattle.link_rules.specs.World.{World, Stage, start_of, with_batch, is_reference}
use Rattle.link_rules.specs.Targets.{earlier_target, target}
use Rattle.link_rules.specs.Loading.{IsLoaded, is_root, request_of}
use Rattle.link_rules.specs.Selection.{selection_of}
use Rattle.link_rules.specs.Marking.{reference_marks, named_marks, flags_before, ended}

-- how many symbols an item has, but for the last of an object. It is no part of what a link means: any number has the same answer, and this one is Wild's
abbrev pub item_size : ℕ
item_size = 5000

-- how many items an object of so many symbols has: one at least
abbrev pub item_count : ℕ → ℕ
item_count symbols = max 1 ((symbols + item_size - 1) / item_size)

-- what a symbol of this id requests anew: what an earlier batch settled is done
abbrev pub new_requests : Stage → ℕ × Symbol → List ℕ
new_requests w s = if is_some (earlier_target w s.0) then [] else option_to_list (request_of w s.0 s.1)

-- the mark that it makes anew
abbrev pub new_marks : Stage → ℕ × Symbol → List Mark
new_marks w s = if is_some (earlier_target w s.0) then []
    else (if is_reference s.1 then reference_marks w s.1 (target w s.1) else [])

-- the symbols of the object at this place, with their ids
abbrev pub symbols_with_ids : Stage → ℕ → List (ℕ × Symbol)
symbols_with_ids w f = filter (λ s. is_number (object_in s.1.origin) f) (enumerate_from 0 w.symbols)

-- an item of an object, by its symbols
abbrev pub item_of : Stage → ℕ → List (ℕ × Symbol) → Item
item_of w f symbols = record { file = f; requests = flat_map (new_requests w) symbols; marks = flat_map (new_marks w) symbols }

-- the items of the object at this place
abbrev pub object_items : Stage → ℕ → List Item
object_items w f = map (λ k. item_of w f (take item_size (drop (item_size * k) (symbols_with_ids w f))))
    (range_with_len 0 (item_count (length (symbols_with_ids w f))))

-- the places of all objects
abbrev pub object_places : Stage → List ℕ
object_places w = range_with_len 0 (length w.objects)

-- the work of the last batch
abbrev pub workload_of : Stage → Workload
workload_of w = record {
  files = length w.objects;
  roots = filter (is_root w) (object_places w);
  root_marks = named_marks w;
  opening = each_from (flags_before w) 0 w.symbols;
  items = flat_map (object_items w) (object_places w);
}

-- from what a batch finds, with this batch and then the later ones, a link comes to this stage
abbrev pub ComesTo : Stage → Batch → List Batch → Stage → Type 0
ComesTo before b [] w = w ≡ with_batch before b
ComesTo before b (c ∷ cs) w = (w ≡ with_batch before b)
    ⊎ ((marks : List Bool) × IsLoaded (with_batch before b) marks × ComesTo (ended (selection_of (with_batch before b) marks)) c cs w)

-- a link of the world comes to this stage with one of its batches
abbrev pub IsStageOf : World → Stage → Type 0
IsStageOf world w = ComesTo (start_of world) world.first world.later w
