-- Mappings that say the same.
use Rattle.std.proofs.Common.{◌≡◌, ◌+◌, ◌<◌, ◌++◌, ◌∙◌, ℕ, List, [], ◌∷◌, take, get_or, length, sym, ap}
use Rattle.std.specs.Prelude.{fold}
use Rattle.std.proofs.lemmas.List.{take_more}
use Rattle.std.proofs.lemmas.List.Sums.{fold-append}
use Rattle.link_db_mapping.specs.Mapped.{Mapped}

-- mappings with the same files, lists and overrides
pub same-mapped : {P : Type 0} (a b : Mapped P) → a.files ≡ b.files → a.lists ≡ b.lists → a.overridden ≡ b.overridden → a ≡ b
same-mapped a b files lists overridden = λ i. record { files = files i; lists = lists i; overridden = overridden i }

-- one element more is folded
pub fold-more : {A B : Type 0} (f : B → A → B) (z : B) (xs : List A) (i : ℕ) (x : A) → i < length xs → x ≡ get_or xs i x → fold f z (take (i + 1) xs) ≡ f (fold f z (take i xs)) x
fold-more f z xs i x lt is =
    ap (fold f z) (take_more xs i x lt ∙ ap (λ y. take i xs ++ y ∷ []) (sym is)) ∙ fold-append f z (take i xs) (x ∷ [])
