-- What is written of a link that is explained is what `why` writes of its world.
use Rattle.std.proofs.Common.{◌≡◌, ◌∙◌, ℕ, List, [], ap, subst, sym}
use Rattle.std.specs.List.{slice_index_or}
use Rattle.link_core.specs.Results.{HasParts}
use Rattle.link_core_answer.specs.Parts.{Parts, answer_of}
use Rattle.link_db_files.specs.GroupFiles.{symbols_in}
use Rattle.link_db_files.specs.HeldFiles.{HeldFiles, names_in, version_of}
use Rattle.link_report.specs.Why.{name_at, version_at, why_text}
use Rattle.link_rules.specs.declared.explanation.Explanation.{Explanation}
use Rattle.link_rules.specs.declared.explanation.FoundRoot.{FoundRoot}
use Rattle.link_rules.specs.Answer.{IsLinked}
use Rattle.link_rules.specs.Explained.{Explains, IsExplanation}
use Rattle.link_rules.specs.FoundRoots.{found_roots}
use Rattle.link_rules.specs.Places.{Bytes}
use Rattle.link_rules.specs.Selection.{Selection}
use Rattle.link_rules.specs.World.{World}
use Rattle.link_rules.proofs.AllRoots.{passes-with}
use Rattle.link_program.specs.declared.status.Status.{Status}
use Rattle.link_program.specs.declared.status.Status.TheVariants.{Linked}
use Rattle.link_program.specs.Outcome.{IsWorldText}
use Rattle.link_program.specs.Why.{IsWhyReport}

-- the text by the names and versions that files hold is that by those of the symbols of a link
abbrev pub GoesByNames : {P : Type 0} → HeldFiles P → Type 0
GoesByNames held = (l : Selection) (roots : List FoundRoot) (e : Explanation) → Explains l roots e → symbols_in held.groups ≡ l.stage.symbols
    → why_text (λ (i : ℕ). slice_index_or (names_in held) i []) (version_of held) e ≡ why_text (name_at l.stage.symbols) (version_at l.stage.symbols) e

-- the names and versions that the files hold are those of the symbols of which the explanation tells
pub explained-text : {P : Type 0} (w : World) (x : Parts P) (e : Explanation) (s : Status) (text : Bytes) → GoesByNames x.db.mapping.files → IsLinked w (answer_of x) → HasParts w x → IsExplanation w e → s ≡ Linked
    → text ≡ why_text (λ (i : ℕ). slice_index_or (names_in x.db.mapping.files) i []) (version_of x.db.mapping.files) e → IsWorldText w (IsWhyReport w) s text
explained-text w x e s text by_names linked (l, selects, kept, roots) (ws, k, passes, is) ends line =
    let same = passes-with w ws k l passes selects.ends in
    let symbols : symbols_in x.db.mapping.files.groups ≡ k.stage.symbols = kept.symbols ∙ ap (λ (y : Selection). y.stage.symbols) (sym same) in
    subst (λ (t : Status). IsWorldText w (IsWhyReport w) t text) (sym ends)
    (answer_of x, linked, (ws, k, e, passes, is, line ∙ by_names k (found_roots ws k.stage) e is symbols))
