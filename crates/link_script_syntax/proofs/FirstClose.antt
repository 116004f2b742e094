-- The `};` that was found first is the first one of each rest of the text that still has it.
use Rattle.std.proofs.Common.{◌≡◌, ℕ, suc, ◌-◌, ◌≤◌, ◌==◌, Bool, true, false, cond, List, [], ◌∷◌, ◌++◌, length, Option, Some, None, sym, ap, subst, ◌∙◌, arith}
use Rattle.std.specs.Option.{option_map}
use Rattle.std.proofs.lemmas.Option.{same_Some}
use Rattle.link_script_syntax.specs.declared.matcher.SymbolMatcher.{SymbolMatcher}
use Rattle.link_script_syntax.specs.declared.profile.TokenEnd.{TokenEnd}
use Rattle.link_script_syntax.specs.Blanks.{Piece, blank, line, block, InFront, Skipped}
use Rattle.link_script_syntax.specs.Token.{IsToken}
use Rattle.link_script_syntax.specs.Block.{is_close, close_place, StillFirst}

-- a place that is one further on
one_less : (o : Option ℕ) (n : ℕ) → option_map (λ k. suc k) o ≡ Some (suc n) → o ≡ Some n
one_less None n e = absurd cc
one_less (Some m) n e = let k = same_Some (suc m) (suc n) e in ap (λ i. Some i) (omega arith)

-- a `};` that the rest still has does not begin at the byte in front of it
past_on : (ys : List ℕ) (left : ℕ) (b : Bool) → left ≤ length ys → cond b (Some 0) (option_map (λ k. suc k) (close_place ys)) ≡ Some (suc (length ys) - left) → close_place ys ≡ Some (length ys - left)
past_on ys left true within e = let k = same_Some 0 (suc (length ys) - left) e in absurd (omega arith)
past_on ys left false within e =
    let same : suc (length ys) - left ≡ suc (length ys - left) = omega arith in
    one_less (close_place ys) (length ys - left) (e ∙ ap (λ n. Some n) same)

-- behind a byte of the text
past_byte : (known : Option ℕ) (c : ℕ) (rest : List ℕ) → StillFirst known (c ∷ rest) → StillFirst known rest
past_byte None c rest first = tt
past_byte (Some left) c rest first = λ within. past_on rest left (is_close c rest) within (first (omega arith))

-- behind any bytes of it
past_bytes : (known : Option ℕ) (front rest : List ℕ) → StillFirst known (front ++ rest) → StillFirst known rest
past_bytes known [] rest first = first
past_bytes known (c ∷ front) rest first = past_bytes known front rest (past_byte known c (front ++ rest) first)

-- the same, where the text is known to be these bytes and the rest
past_front : (known : Option ℕ) (text front rest : List ℕ) → text ≡ front ++ rest → StillFirst known text → StillFirst known rest
past_front known text front rest whole first = past_bytes known front rest (subst (λ t. StillFirst known t) whole first)

-- behind pieces of it
past_pieces : (known : Option ℕ) (pieces : List Piece) (text rest : List ℕ) → InFront pieces text rest → StillFirst known text → StillFirst known rest
past_pieces known [] text rest s first = subst (λ t. StillFirst known t) s first
past_pieces known (blank c ∷ pieces) text rest s first = past_pieces known pieces s.0 rest s.3 (past_front known text (c ∷ []) s.0 s.1 first)
past_pieces known (line bytes ∷ pieces) text rest s first = past_pieces known pieces s.0 rest s.4 (past_front known text (35 ∷ bytes) s.0 s.1 first)
past_pieces known (block bytes ∷ pieces) text rest s first =
    past_pieces known pieces s.0 rest s.3 (past_bytes known (42 ∷ 47 ∷ []) s.0 (past_front known text (47 ∷ 42 ∷ bytes) (42 ∷ 47 ∷ s.0) s.1 first))

-- behind blanks and comments
pub past_skipped : (known : Option ℕ) (text rest : List ℕ) → Skipped text rest → StillFirst known text → StillFirst known rest
past_skipped known text rest s first = past_pieces known s.0 text rest s.1.0 first

-- behind a semicolon that may stand there
past_semicolon : (known : Option ℕ) (c : ℕ) (rest : List ℕ) (b : Bool) → StillFirst known (c ∷ rest) → StillFirst known (cond b rest (c ∷ rest))
past_semicolon known c rest true first = past_byte known c rest first
past_semicolon known c rest false first = first

-- behind a token
pub past_token : (known : Option ℕ) (end : TokenEnd) (text : List ℕ) (m : SymbolMatcher) (rest : List ℕ) → IsToken end text m rest → StillFirst known text → StillFirst known rest
past_token known end text m rest t first =
    subst (λ r. StillFirst known r) (sym t.follows) (past_semicolon known t.stop t.after (t.stop == 59) (past_front known text t.bytes (t.stop ∷ t.after) t.whole first))
