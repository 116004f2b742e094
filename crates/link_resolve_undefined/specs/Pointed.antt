-- What undefined references point to at the end.
use Rattle.std.specs.Prelude.{ℕ, ◌≡◌, ◌&&◌, List, if◌then◌else◌, is_some, unwrap_or}
use Rattle.link_input.specs.Symbols.{Symbol}
use Rattle.link_rules.specs.Places.{is_number}
use Rattle.link_rules.specs.Selection.{Selection}
use Rattle.link_rules.specs.Undefined.{Numbered, left_undefined}
use Rattle.link_resolve_undefined.specs.declared.asked_names.AskedNames.{AskedNames}
use Rattle.link_resolve_undefined.specs.Asked.{AreAsked, canonical_in, last_in}
use Rattle.link_resolve_undefined.specs.Records.{numbered_at}

-- what the reference points to at the end, by what it pointed to before
abbrev pub pointed : AskedNames → Numbered → ℕ → ℕ
pointed asked u old =
    if is_some u.1.version && is_number (last_in asked u.1.name u.1.version) u.0 then old else unwrap_or (canonical_in asked u.1.name u.1.version) u.0

-- these are the references of the selection that stay undefined, and what is kept is of them
pub record AreLeftOf (symbols : List Symbol) (left : List ℕ) (asked : AskedNames) (l : Selection) : Type 0 where
  pub symbols_are : l.stage.symbols ≡ symbols
  pub records_are : numbered_at symbols left ≡ left_undefined l
  pub asked_are : AreAsked asked l.stage (left_undefined l)
