-- The listed names of a body that grows by an entry.
use Rattle.std.proofs.Common.{◌≡◌, ℕ, List, [], ◌∷◌, ◌++◌, Some, None, sym, ap, ◌∙◌}
use Rattle.std.proofs.lemmas.List.{append-nil}
use Rattle.std.proofs.lemmas.List.Elements.{filter_map-append}
use Rattle.link_script_syntax.specs.declared.matcher.ParsedSymbolMatcher.{ParsedSymbolMatcher}
use Rattle.link_script.specs.RustForm.{exact_name, listed_names}

pub listed_with : (es : List ParsedSymbolMatcher) (e : ParsedSymbolMatcher) (names new : List (List ℕ)) (n : List ℕ) → names ≡ listed_names es → exact_name e ≡ Some n → new ≡ names ++ n ∷ [] → new ≡ listed_names (es ++ e ∷ [])
listed_with es e names new n so_far is more = rw (filter_map-append exact_name es (e ∷ []), is) (more ∙ ap (λ (ns : List (List ℕ)). ns ++ n ∷ []) so_far)

pub listed_without : (es : List ParsedSymbolMatcher) (e : ParsedSymbolMatcher) (names : List (List ℕ)) → names ≡ listed_names es → exact_name e ≡ None → names ≡ listed_names (es ++ e ∷ [])
listed_without es e names so_far is = rw (filter_map-append exact_name es (e ∷ []), is) (so_far ∙ sym (append-nil (listed_names es)))
