-- The objects that are found for root names as batches come, over all stages of a link.
use Rattle.std.specs.Prelude.{◌≡◌, ℕ, List, [], ◌∷◌, ◌++◌, filter_map, length, Bool, Option, option_and_then, option_map, option_to_list, slice_get}
use Rattle.std.specs.List.{flat_map, range_with_len}
use Rattle.link_input.specs.InputFiles.{Batch}
use Rattle.link_rules.specs.declared.explanation.FoundRoot.{FoundRoot}
use Rattle.link_rules.specs.Places.{Bytes}
use Rattle.link_rules.specs.World.{World, Stage, object_of, start_of, with_batch}
use Rattle.link_rules.specs.Names.{first_definition}
use Rattle.link_rules.specs.Loading.{IsLoaded, entry_name, forced_names, redirect_targets}
use Rattle.link_rules.specs.Marking.{ended}
use Rattle.link_rules.specs.Selection.{Selection, selection_of}

-- the object that holds what the name is mapped to at this stage
abbrev pub found_at : Stage → Bytes → Option FoundRoot
found_at w name = option_map (λ f. record { name = name; object = f }) (option_and_then (object_of w) (first_definition w name))

-- the root names but for the entry: what later batches bring stands behind what there is
abbrev pub lasting_names : Stage → List Bytes
lasting_names w = w.rules.required_exports ++ forced_names w.options ++ redirect_targets w

-- what is found for the entry at each of these stages; a later batch may bring another entry
abbrev pub found_entries : List Stage → List FoundRoot
found_entries ws = flat_map (λ w. filter_map (found_at w) (option_to_list (entry_name w))) ws

-- what is found for the root name at this place, at each of the stages that has it
abbrev pub found_for : List Stage → ℕ → List FoundRoot
found_for ws i = filter_map (λ w. option_and_then (found_at w) (slice_get (lasting_names w) i)) ws

-- what is found at all stages, of which w is the last, in the order of the root names: the entry, required exports, forced names, what redirects refer to
abbrev pub found_roots : List Stage → Stage → List FoundRoot
found_roots ws w = found_entries ws ++ flat_map (found_for ws) (range_with_len 0 (length (lasting_names w)))

-- from what a batch finds, with this batch and then the later ones, a link passes these stages, and ends with this selection
abbrev pub PassesFrom : Stage → Batch → List Batch → List Stage → Selection → Type 0
PassesFrom before b [] ws l = (marks : List Bool) × IsLoaded (with_batch before b) marks × (ws ≡ with_batch before b ∷ []) × (l ≡ selection_of (with_batch before b) marks)
PassesFrom before b (c ∷ cs) ws l = (marks : List Bool) × IsLoaded (with_batch before b) marks
    × (rest : List Stage) × (ws ≡ with_batch before b ∷ rest) × PassesFrom (ended (selection_of (with_batch before b) marks)) c cs rest l

-- a link of the world passes these stages, one with each batch, and ends with this selection
abbrev pub Passes : World → List Stage → Selection → Type 0
Passes world ws l = PassesFrom (start_of world) world.first world.later ws l
