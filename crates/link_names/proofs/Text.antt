-- Bytes that are text, and others.
use Rattle.std.proofs.Common.{◌≡◌, Bool, true, false, List, ℕ, cond, Some, None, refl}
use Rattle.std.specs.Str.{IsUtf8, is_utf8}
use Rattle.std.proofs.lemmas.Str.{IsUtf8-from_is_utf8, is_utf8-from_IsUtf8}
use Rattle.link_names.specs.NameText.{name_text, invalid_text}

is_false : (b : Bool) → ((b ≡ true) → ⊥) → b ≡ false
is_false true n = absurd (n refl)
is_false false n = refl

-- text is given where the bytes are UTF-8
pub text_given : (bs t : List ℕ) → t ≡ bs → IsUtf8 bs → Some t ≡ cond (is_utf8 bs) (Some bs) None
text_given bs t e h = rw (is_utf8-from_IsUtf8 bs h, e) refl

-- none is given where they are not
pub no_text : (bs : List ℕ) → (IsUtf8 bs → ⊥) → None ≡ cond (is_utf8 bs) (Some bs) None
no_text bs n = rw (is_false (is_utf8 bs) (λ e. n (IsUtf8-from_is_utf8 bs e))) refl

-- a name of UTF-8 is shown as it is
pub name_text-utf8 : (bs : List ℕ) → IsUtf8 bs → name_text bs ≡ bs
name_text-utf8 bs h = rw (is_utf8-from_IsUtf8 bs h) refl

-- another name is shown by its bytes
pub name_text-invalid : (bs : List ℕ) → (IsUtf8 bs → ⊥) → name_text bs ≡ invalid_text bs
name_text-invalid bs n = rw (is_false (is_utf8 bs) (λ e. n (IsUtf8-from_is_utf8 bs e))) refl
