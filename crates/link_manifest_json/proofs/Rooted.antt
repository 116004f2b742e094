-- The object that a cut text is, from what was read of its pieces.
use Rattle.std.proofs.Common.{ℕ, List, [], ◌∷◌, ◌++◌, map, Some, refl, ap, ◌∙◌}
use Rattle.std.specs.List.{AllZip}
use Rattle.std.specs.Borrow.{Bor}
use Rattle.std.specs.Global.{Global}
use Rattle.std.specs.Fn.{FnReturnsAt, Shared}
use Rattle.json.specs.declared.value.Value.{Value}
use Rattle.serde_json.specs.Data.{Data, array, object, no_members, put}
use Rattle.serde_json.specs.Read.{read}
use Rattle.link_manifest_json.specs.Tree.{view, items_view}
use Rattle.link_manifest_json.specs.Spans.{IsRest, IsMade, IsCut, IsRoot, put_entries}
use Rattle.link_manifest_json.proofs.Pushed.{trees, zip_push, items_with-push}
use Rattle.link_manifest_json.proofs.Whole.{whole}

through : {A B T : Type 0} (f : A → B) (R : B → T → Type 0) (xs : List A) (ts : List T) → AllZip (λ x t. R (f x) t) xs ts → AllZip R (map f xs) ts
through f R [] [] h = tt
through f R [] (t ∷ ts) h = absurd h
through f R (x ∷ xs) [] h = absurd h
through f R (x ∷ xs) (t ∷ ts) h = (h.0, through f R xs ts h.1)

-- the rest stands around the items of a cut text, and each of them was read: so the text is the root of all
pub root_of : {F T : Type 0} (g : Shared F (Bor (Value Global) × Unit {0}) T) (f : F) (text key head last tail : List ℕ) (bs : List (Bor (List ℕ))) (rest : Data) (ts : List T) (t : T)
    → IsRest head tail key rest → AllZip (λ (s : Bor (List ℕ)) t. IsMade g f s.now t) bs ts → IsMade g f last t → IsCut text head (map (λ s. s.now) bs) last tail
    → IsRoot g f text key rest (ts ++ t ∷ [])
root_of g f text key head last tail bs rest ts t (before, after, front, back, same) each one cut =
    let ss = map (λ (s : Bor (List ℕ)). s.now) bs in
    let many = trees g f ss ts (through (λ (s : Bor (List ℕ)). s.now) (IsMade g f) bs ts each) in (
      many.0 ++ one.0 ∷ [],
      object (put_entries after (put key (array (items_view (many.0 ++ one.0 ∷ []))) (put_entries before no_members))),
      zip_push (FnReturnsAt g f) many.0 ts one.0 t many.2 one.2,
      (before, after, back.2.3, same, refl),
      ap read cut.2 ∙ whole key head last tail cut.0 ss before after (map view many.0) (view one.0) cut.1 front many.1 one.1 back
          ∙ ap (λ is. Some (object (put_entries after (put key (array is) (put_entries before no_members))))) (items_with-push many.0 one.0),
    )
