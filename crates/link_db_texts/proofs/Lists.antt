-- What a list answers of a name, and what it has once entries were added.
use Rattle.std.proofs.Common.{◌≡◌, List, [], ◌∷◌, ◌++◌, Bool, true, false, ◌⊎◌, inl, inr, refl, sym, ◌∙◌}
use Rattle.std.specs.Prelude.{◌↔◌, IsTrue}
use Rattle.std.specs.List.{list_any}
use Rattle.link_script_syntax.specs.declared.matcher.ParsedSymbolMatcher.{ParsedSymbolMatcher}
use Rattle.link_script.specs.declared.export_list.ExportList.{ExportList}
use Rattle.link_script.specs.ExportList.{IsListed, IsListOf, Gains}
use Rattle.link_script.specs.Filter.{Filter, EntryHas, EntriesHave}
use Rattle.link_script.specs.Lookup.{Asked}
use Rattle.link_rules.specs.Places.{Bytes}
use Rattle.link_rules.specs.Matching.{entry_fits}
use Rattle.link_rules.proofs.Matched.{listed-by}

-- tests that hold together are the same
same_test : (a b : Bool) → (IsTrue a → IsTrue b) → (IsTrue b → IsTrue a) → a ≡ b
same_test true true there back = refl
same_test false false there back = refl
same_test true false there back = sym (there refl)
same_test false true there back = back refl

-- whether some entry fits the name
pub listed_is : (list : ExportList) (entries : List ParsedSymbolMatcher) (required : List Bytes) (a : Asked) (answer : Bool)
    → IsListOf entries required list → IsTrue answer ↔ IsListed list a → answer ≡ list_any (entry_fits a) entries
listed_is list entries required a answer is means =
    let by = listed-by list entries a is.filters in
    same_test answer (list_any (entry_fits a) entries) (λ t. by.0 (means.0 t)) (λ t. means.1 (by.1 t))

-- what a longer list of entries has
more_have : (es : List ParsedSymbolMatcher) (e : ParsedSymbolMatcher) (cxx : Bool) (f : Filter)
    → EntriesHave (es ++ e ∷ []) cxx f ↔ (EntriesHave es cxx f ⊎ EntryHas e cxx f)
more_have [] e cxx f = (λ h. elim h [ inl here ↦ inr here | inr never ↦ absurd never ], λ h. elim h [ inl never ↦ absurd never | inr here ↦ inl here ])
more_have (x ∷ es) e cxx f = (
  λ h. elim h [
    | inl first ↦ inl (inl first)
    | inr rest ↦ elim ((more_have es e cxx f).0 rest) [ inl old ↦ inl (inr old) | inr here ↦ inr here ]
  ],
  λ h. elim h [
    | inl old ↦ elim old [ inl first ↦ inl first | inr rest ↦ inr ((more_have es e cxx f).1 (inl rest)) ]
    | inr here ↦ inr ((more_have es e cxx f).1 (inr here))
  ],
)

-- a list with an entry more
pub gained : (es : List ParsedSymbolMatcher) (e : ParsedSymbolMatcher) (required : List Bytes) (old new : ExportList)
    → IsListOf es required old → Gains e old new → IsListOf (es ++ e ∷ []) required new
gained es e required old new is gains = record {
  filters = λ cxx f. (
    λ has. (more_have es e cxx f).1 (elim ((gains.filters cxx f).0 has) [ inl before ↦ inl ((is.filters cxx f).0 before) | inr here ↦ inr here ]),
    λ has. (gains.filters cxx f).1 (elim ((more_have es e cxx f).0 has) [ inl before ↦ inl ((is.filters cxx f).1 before) | inr here ↦ inr here ]),
  );
  names = gains.names ∙ is.names;
}
