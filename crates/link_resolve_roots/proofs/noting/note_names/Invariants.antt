use Rattle.std.proofs.Common.{◌≡◌, ◌++◌, [], ℕ, get_or, take}
use Rattle.std.specs.List.{slice_get}
use Rattle.std.specs.Option.{option_and_then, option_to_list}
use Rattle.link_db.specs.Seen.{seen}
use Rattle.link_db_stage.specs.AtStage.{IsAtStage}
use Rattle.link_db_texts.specs.Holds.{platform_of}
use Rattle.link_rules.specs.FoundRoots.{found_at}
use Rattle.link_rules.specs.Places.{Bytes}
use Rattle.link_rules.specs.World.{Stage}
use Rattle.link_resolve_roots.proofs.noting.note_names.Given as goal

-- what is found for the names so far stands behind the lists
abbrev pub invariant-loop-place : goal.invariant-loop-place
invariant-loop-place g l =
    (demangle : Bytes → Bytes) (w : Stage) → IsAtStage (platform_of g.P.Platform) demangle (seen l.db) w → (i : ℕ)
    → get_or l.lists i [] ≡ get_or l.initial.lists i [] ++ option_to_list (option_and_then (found_at w) (slice_get (take l.place l.names) i))
