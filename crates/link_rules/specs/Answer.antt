-- What a link gives: an answer, or the first cause for which it is refused; and the texts of both.
use Rattle.std.specs.Prelude.{◌≡◌, ◌⊎◌, List, [], ◌∷◌, ◌++◌, map, filter, Bool, true, false, not, Some, None, Result, Ok, Err, is_none, ◌&&◌, MatchOption}
use Rattle.std.specs.List.{enumerate_from}
use Rattle.link_closure.specs.Closure.{is_marked}
use Rattle.link_rules.specs.Linked.{LoadedObject, UndefinedName, Linked}
use Rattle.link_rules.specs.declared.linked.KeptGroup.{KeptGroup}
use Rattle.link_rules.specs.declared.refusal.LinkError.{LinkError}
use Rattle.link_rules.specs.Places.{Bytes}
use Rattle.link_input.specs.InputFiles.{Batch}
use Rattle.link_rules.specs.World.{World, Stage, start_of, with_batch}
use Rattle.link_rules.specs.Names.{first_definition}
use Rattle.link_rules.specs.Loading.{IsLoaded}
use Rattle.link_rules.specs.Comdat.{kept_groups}
use Rattle.link_rules.specs.Marking.{ended}
use Rattle.link_rules.specs.Selection.{Selection, selection_of}
use Rattle.link_rules.specs.Undefined.{Resolution, resolved, is_last_alike, is_boundary_maker}
use Rattle.link_rules.specs.FinalFlags.{final_flags}
use Rattle.link_rules.specs.Versions.{versions_given}
use Rattle.link_rules.specs.Refusals.{text_refusal, batch_refusal, group_refusal, late_refusal}
use Rattle.link_rules.specs.Report.{report_text, refusal_text}

-- the loaded objects, in order
abbrev pub loaded_objects : Stage → List Bool → List LoadedObject
loaded_objects w marks = map (λ o. record { object = o.0; name = o.1.input })
    (filter (λ o. is_marked marks o.0) (enumerate_from 0 w.objects))

-- the COMDAT groups that are kept, in order
abbrev pub kept_comdats : Stage → List Bool → List KeptGroup
kept_comdats w marks = map (λ g. record { object = g.place.0; group = g.place.1; signature = g.signature })
    (filter (λ g. g.group.is_comdat) (kept_groups w marks))

-- the names of all symbols, those of the new ones last
abbrev pub symbol_names : Resolution → List Bytes
symbol_names r = map (λ x. x.name) r.selection.stage.symbols ++ map (λ m. m.1.name) r.made

-- each undefined name once, by the last reference to it
abbrev pub undefined_names : Resolution → List UndefinedName
undefined_names r = map (λ u. record { symbol = u.0; name = u.1.name; version = u.1.version })
    (filter (λ u. is_last_alike r.left u && not (is_boundary_maker r.selection.stage r.left u)) r.left)

-- the required exports that nothing defines
abbrev pub missing_exports : Stage → List Bytes
missing_exports w = filter (λ name. is_none (first_definition w name)) w.rules.required_exports

-- the answer of a resolution
abbrev pub linked_from : Resolution → Linked
linked_from r = record {
  loaded = loaded_objects r.selection.stage r.selection.marks;
  kept = kept_comdats r.selection.stage r.selection.marks;
  names = symbol_names r;
  table = r.table;
  flags = map (λ flags. record { 0 = flags }) (final_flags r);
  versions = versions_given r;
  undefined = undefined_names r;
  missing = missing_exports r.selection.stage;
}

-- how a link ends: with what is selected after the last batch, or by the first cause that a batch brings
abbrev pub End : Type 0
End = Result Selection LinkError

-- a batch is linked, and what follows goes on from what is selected then
abbrev pub LinksBatch : Bool → Stage → Batch → (Selection → Type 0) → End → Type 0
LinksBatch is_late before b GoesOn end = MatchOption (batch_refusal is_late before b)
    ((marks : List Bool) × IsLoaded (with_batch before b) marks
    × MatchOption (group_refusal (selection_of (with_batch before b) marks)) (GoesOn (selection_of (with_batch before b) marks)) (λ e. end ≡ Err e))
    (λ e. end ≡ Err e)

-- a batch is linked, and then the later ones, one after another
abbrev pub EndsWith : Bool → Stage → Batch → List Batch → End → Type 0
EndsWith is_late before b [] end = LinksBatch is_late before b (λ l. end ≡ Ok l) end
EndsWith is_late before b (c ∷ cs) end = LinksBatch is_late before b (λ l. EndsWith true (ended l) c cs end) end

-- all batches of the world are linked so
abbrev pub BatchesEnd : World → End → Type 0
BatchesEnd w end = EndsWith false (start_of w) w.first w.later end

-- what a link of the world gives
pub record IsLinked (w : World) (linked : Linked) : Type 0 where
  pub starts : text_refusal w ≡ None
  pub last : Selection
  pub ends : BatchesEnd w (Ok last)
  pub goes_on : late_refusal (resolved last) ≡ None
  pub is : linked ≡ linked_from (resolved last)

-- why a link of the world is refused once its texts are read
abbrev pub IsRefusedLate : World → LinkError → Type 0
IsRefusedLate w error =
    BatchesEnd w (Err error) ⊎ ((last : Selection) × BatchesEnd w (Ok last) × (late_refusal (resolved last) ≡ Some error))

-- why a link of the world is refused
abbrev pub IsRefused : World → LinkError → Type 0
IsRefused w error = MatchOption (text_refusal w) (IsRefusedLate w error) (λ first. error ≡ first)

-- the report on a link of the world
abbrev pub IsReport : World → Bytes → Type 0
IsReport w text = (linked : Linked) × IsLinked w linked × (text ≡ report_text linked)

-- the text of the first cause for which a link of the world is refused
abbrev pub IsRefusalText : World → Bytes → Type 0
IsRefusalText w text = (error : LinkError) × IsRefused w error × (text ≡ refusal_text error)
