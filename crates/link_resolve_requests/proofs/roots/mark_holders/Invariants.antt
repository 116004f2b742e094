use Rattle.std.proofs.Common.{◌≡◌, ℕ, ◌<◌, drop, length}
use Rattle.std.specs.Prelude.{◌||◌}
use Rattle.std.specs.List.{list_any}
use Rattle.link_closure.specs.Closure.{is_marked}
use Rattle.link_db_texts.specs.Holds.{platform_of}
use Rattle.link_rules.specs.Loading.{holds_name}
use Rattle.link_rules.specs.Places.{Bytes}
use Rattle.link_rules.specs.World.{Stage}
use Rattle.link_db.specs.Seen.{seen}
use Rattle.link_db_stage.specs.AtStage.{IsAtStage}
use Rattle.link_db_files.specs.Sources.{sources_of}
use Rattle.link_resolve_requests.proofs.roots.mark_holders.Given as goal

-- the marks so far, and those of the names that are left
abbrev pub invariant-loop-name : goal.invariant-loop-name
invariant-loop-name g l =
    (demangle : Bytes → Bytes) (w : Stage) → IsAtStage (platform_of g.P.Platform) demangle (seen l.db) w → l.sources ≡ sources_of w.symbols
    → (f : ℕ) → f < length l.initial.marks
    → (is_marked l.marks f || list_any (holds_name w f) (drop l.name-index l.names)) ≡ (is_marked l.initial.marks f || list_any (holds_name w f) l.names)
