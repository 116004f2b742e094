-- Names in a block that grows.
use Rattle.std.proofs.Common.{◌≡◌, ◌+◌, ◌≤◌, ◌<◌, ◌∙◌, ℕ, List, [], ◌∷◌, ◌++◌, length, take, drop, map, get_or, Option, Some, None, option_map, refl, ap, sym, subst, length-append, length-drop, arith}
use Rattle.std.specs.List.{AllZip, All}
use Rattle.std.proofs.lemmas.List.{take_all, take-append-le, drop-append-le, drop_at, map_more}
use Rattle.std.proofs.lemmas.List.Elements.{All-nil, All-cons}
use Rattle.std.proofs.lemmas.Slice.Zip.{all_zipped_more}
use Rattle.link_input.specs.declared.name_block.Span.{Span}
use Rattle.link_input.specs.NameBlock.{bytes_at, IsInside, IsAt, IsVersionAt, Keeps}

-- what stands at a span stands there when bytes come behind the block
pub bytes_kept : (block more : List ℕ) (span : Span) → IsInside block span → bytes_at (block ++ more) span ≡ bytes_at block span
bytes_kept block more span inside =
    let start : span.start ≤ length block = omega (arith, inside) in
    let len : span.len ≤ length (drop span.start block) = omega (arith, inside, length-drop span.start block) in
    ap (take span.len) (drop-append-le span.start block more start) ∙ take-append-le span.len (drop span.start block) more len

pub keeps : (block more : List ℕ) → Keeps block (block ++ more)
keeps block more span name at = (omega (arith, at.0, length-append block more), bytes_kept block more span at.0 ∙ at.1)

-- bytes that come behind a block stand where it ended
pub is_at_end : (block name : List ℕ) → IsAt (block ++ name) (record { start = length block; len = length name }) name
is_at_end block name =
    (omega (arith, length-append block name), ap (take (length name)) (drop_at block name (length block) refl) ∙ take_all (length name) name (omega arith))

-- names that stand in a block stand in one that keeps them
pub names_kept : (old new : List ℕ) → Keeps old new → (spans : List Span) (names : List (List ℕ)) → AllZip (IsAt old) spans names → AllZip (IsAt new) spans names
names_kept old new kept [] [] all = tt
names_kept old new kept [] (n ∷ ns) all = absurd all
names_kept old new kept (s ∷ ss) [] all = absurd all
names_kept old new kept (s ∷ ss) (n ∷ ns) all = (kept s n all.0, names_kept old new kept ss ns all.1)

version_kept : (old new : List ℕ) → Keeps old new → (span : Option Span) (version : Option (List ℕ)) → IsVersionAt old span version → IsVersionAt new span version
version_kept old new kept None None at = tt
version_kept old new kept None (Some v) at = absurd at
version_kept old new kept (Some s) None at = absurd at
version_kept old new kept (Some s) (Some v) at = kept s v at

pub versions_kept : (old new : List ℕ) → Keeps old new → (spans : List (Option Span)) (versions : List (Option (List ℕ))) → AllZip (IsVersionAt old) spans versions → AllZip (IsVersionAt new) spans versions
versions_kept old new kept [] [] all = tt
versions_kept old new kept [] (v ∷ vs) all = absurd all
versions_kept old new kept (s ∷ ss) [] all = absurd all
versions_kept old new kept (s ∷ ss) (v ∷ vs) all = (version_kept old new kept s v all.0, versions_kept old new kept ss vs all.1)

-- one more of what was put stands behind the others
pub one_more : {S E N : Type 0} (R : S → N → Type 0) (field : E → N) (spans : List S) (es : List E) (i : ℕ) (span : S) (e : E)
    → i < length es → e ≡ get_or es i e → AllZip R spans (map field (take i es)) → R span (field e)
    → AllZip R (spans ++ span ∷ []) (map field (take (i + 1) es))
one_more R field spans es i span e within is all at =
    subst (λ (ns : List _). AllZip R (spans ++ span ∷ []) ns) (sym (map_more field es i e within ∙ ap (λ x. map field (take i es) ++ field x ∷ []) (sym is)))
    (all_zipped_more R spans (map field (take i es)) span (field e) all at)

-- names that stand in a block are what is read there
pub names_read : (block : List ℕ) (spans : List Span) (names : List (List ℕ)) → AllZip (IsAt block) spans names → map (bytes_at block) spans ≡ names
names_read block [] [] all = refl
names_read block [] (n ∷ ns) all = absurd all
names_read block (s ∷ ss) [] all = absurd all
names_read block (s ∷ ss) (n ∷ ns) all = ap (λ (x : List ℕ). x ∷ map (bytes_at block) ss) all.0.1 ∙ ap (λ (xs : List (List ℕ)). n ∷ xs) (names_read block ss ns all.1)

version_read : (block : List ℕ) (span : Option Span) (version : Option (List ℕ)) → IsVersionAt block span version → option_map (bytes_at block) span ≡ version
version_read block None None at = refl
version_read block None (Some v) at = absurd at
version_read block (Some s) None at = absurd at
version_read block (Some s) (Some v) at = ap Some at.1

pub versions_read : (block : List ℕ) (spans : List (Option Span)) (versions : List (Option (List ℕ))) → AllZip (IsVersionAt block) spans versions → map (option_map (bytes_at block)) spans ≡ versions
versions_read block [] [] all = refl
versions_read block [] (v ∷ vs) all = absurd all
versions_read block (s ∷ ss) [] all = absurd all
versions_read block (s ∷ ss) (v ∷ vs) all =
    ap (λ (x : Option (List ℕ)). x ∷ map (option_map (bytes_at block)) ss) (version_read block s v all.0) ∙ ap (λ (xs : List (Option (List ℕ))). v ∷ xs) (versions_read block ss vs all.1)

-- they lie in it
pub names_inside : (block : List ℕ) (spans : List Span) (names : List (List ℕ)) → AllZip (IsAt block) spans names → All (IsInside block) spans
names_inside block [] names all = All-nil (IsInside block)
names_inside block (s ∷ ss) [] all = absurd all
names_inside block (s ∷ ss) (n ∷ ns) all = All-cons (IsInside block) s ss all.0.0 (names_inside block ss ns all.1)

version_inside : (block : List ℕ) (span : Option Span) (version : Option (List ℕ)) → IsVersionAt block span version → (s : Span) → span ≡ Some s → IsInside block s
version_inside block None version at s is = cc
version_inside block (Some t) None at s is = absurd at
version_inside block (Some t) (Some v) at s is =
    let same : t ≡ s = cc in
    subst (λ (x : Span). IsInside block x) same at.0

pub versions_inside : (block : List ℕ) (spans : List (Option Span)) (versions : List (Option (List ℕ))) → AllZip (IsVersionAt block) spans versions
    → All (λ (span : Option Span). (s : Span) → span ≡ Some s → IsInside block s) spans
versions_inside block [] versions all = All-nil (λ (span : Option Span). (s : Span) → span ≡ Some s → IsInside block s)
versions_inside block (s ∷ ss) [] all = absurd all
versions_inside block (s ∷ ss) (v ∷ vs) all =
    All-cons (λ (span : Option Span). (s : Span) → span ≡ Some s → IsInside block s) s ss (version_inside block s v all.0) (versions_inside block ss vs all.1)
