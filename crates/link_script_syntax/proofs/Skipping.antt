-- What is skipped is pieces of the grammar, pieces of the grammar are skipped, and what is refused is a comment that is never closed.
use Rattle.std.proofs.Common.{◌≡◌, ◌≢◌, ℕ, zero, suc, ◌<◌, ◌==◌, true, false, List, [], ◌∷◌, ◌++◌, length, Result, Ok, Err, refl, sym, ap, ◌∙◌, ◌⊎◌, inl, inr, arith}
use Rattle.std.specs.Prelude.{◌&&◌, IfOk}
use Rattle.std.proofs.lemmas.Bool.{eqb-true, eqb-false}
use Rattle.std.proofs.lemmas.List.{length-append}
use Rattle.link_script_syntax.specs.declared.skip.Mode.TheVariants.{Plain, Line, Block}
use Rattle.link_script_syntax.specs.declared.fault.Fault.{Fault}
use Rattle.link_script_syntax.specs.declared.fault.ScriptErrorKind.{ScriptErrorKind}
use Rattle.link_script_syntax.specs.declared.fault.ScriptErrorKind.TheVariants.{Syntax}
use Rattle.link_script_syntax.specs.declared.fault.ReadError.{ReadError}
use Rattle.link_script_syntax.specs.Fault.{refuse, Gives}
use Rattle.link_script_syntax.specs.Skip.{is_blank, skip_from, skip}
use Rattle.link_script_syntax.specs.Blanks.{Piece, blank, line, block, IsLine, EndsLine, IsOpen, Stops, InFront, Skipped, Unclosed}
use Rattle.link_script_syntax.proofs.Places.{no_test, and_true, and_off, is_or}
use Rattle.link_script_syntax.proofs.Judged.{Either, Judges, found}

-- ---- pieces of the grammar are skipped

not_same : (a b : ℕ) → a ≢ b → (a == b) ≡ false
not_same a b e = no_test (a == b) (λ t. e (eqb-true a b t))

stop_here : (rest : List ℕ) (opened : ℕ) → Stops rest → skip_from Plain opened rest ≡ Ok rest
stop_here [] opened s = refl
stop_here (c ∷ []) opened s = rw (s.0, not_same c 35 s.1, and_off (c == 47)) refl
stop_here (c ∷ d ∷ rest) opened s = rw (s.0, not_same c 35 s.1, no_test (c == 47 && d == 42) (λ t. let k = and_true (c == 47) (d == 42) t in s.2 (eqb-true c 47 k.0, eqb-true d 42 k.1))) refl

over_blank : (c : ℕ) (after : List ℕ) (opened : ℕ) → is_blank c ≡ true → skip_from Plain opened (c ∷ after) ≡ skip_from Plain opened after
over_blank c after opened e = rw e refl

over_line : (bytes after : List ℕ) (opened : ℕ) → IsLine bytes → EndsLine after → skip_from Line opened (bytes ++ after) ≡ skip_from Plain opened after
over_line [] [] opened l e = refl
over_line [] (c ∷ after) opened l e = rw e refl
over_line (c ∷ bytes) after opened l e = rw (not_same c 10 l.0) (over_line bytes after opened l.1 e)

over_block : (bytes after : List ℕ) (opened : ℕ) → IsOpen (bytes ++ 42 ∷ []) → skip_from Block opened (bytes ++ (42 ∷ 47 ∷ after)) ≡ skip_from Plain opened after
over_block [] after opened o = refl
over_block (c ∷ []) after opened o = rw (and_off (c == 42)) refl
over_block (c ∷ d ∷ bytes) after opened o = rw (no_test (c == 42 && d == 47) (λ t. let k = and_true (c == 42) (d == 47) t in o.0 (eqb-true c 42 k.0, eqb-true d 47 k.1))) (over_block (d ∷ bytes) after opened o.1)

-- what follows the pieces is read as the text is, whatever comment was opened last
over_pieces : (pieces : List Piece) (text rest : List ℕ) (r : Result (List ℕ) Fault) → InFront pieces text rest → ((opened : ℕ) → skip_from Plain opened rest ≡ r) → (opened : ℕ) → skip_from Plain opened text ≡ r
over_pieces [] text rest r s so opened = ap (skip_from Plain opened) s ∙ so opened
over_pieces (blank c ∷ pieces) text rest r s so opened = ap (skip_from Plain opened) s.1 ∙ over_blank c s.0 opened s.2 ∙ over_pieces pieces s.0 rest r s.3 so opened
over_pieces (line bytes ∷ pieces) text rest r s so opened = ap (skip_from Plain opened) s.1 ∙ over_line bytes s.0 opened s.2 s.3 ∙ over_pieces pieces s.0 rest r s.4 so opened
over_pieces (block bytes ∷ pieces) text rest r s so opened = ap (skip_from Plain opened) s.1 ∙ over_block bytes s.0 _ s.2 ∙ over_pieces pieces s.0 rest r s.3 so _

pub skip_is : (text rest : List ℕ) → Skipped text rest → skip text ≡ Ok rest
unfolding skip
skip_is text rest s = over_pieces s.0 text rest (Ok rest) s.1.0 (λ opened. stop_here rest opened s.1.1) 0

-- ---- a comment that is never closed is refused where it is opened

in_block : (bytes : List ℕ) (opened : ℕ) → IsOpen bytes → skip_from Block opened bytes ≡ Err (record { left = opened; kind = Syntax })
in_block [] opened o = refl
in_block (c ∷ []) opened o = rw (and_off (c == 42)) refl
in_block (c ∷ d ∷ bytes) opened o = rw (no_test (c == 42 && d == 47) (λ t. let k = and_true (c == 42) (d == 47) t in o.0 (eqb-true c 42 k.0, eqb-true d 47 k.1))) (in_block (d ∷ bytes) opened o.1)

pub skip_fails : (text at : List ℕ) → Unclosed text at → skip text ≡ refuse Syntax at
unfolding skip
skip_fails text at u = over_pieces u.0 text at (refuse Syntax at) u.2 (λ opened. ap (skip_from Plain opened) u.3 ∙ in_block u.1 _ u.4 ∙ ap (λ t. refuse Syntax t) (sym u.3)) 0

-- ---- a text goes on behind its blanks and comments, or has one that is never closed

line_of : (text : List ℕ) → (bytes after : List ℕ) × (text ≡ bytes ++ after) × IsLine bytes × EndsLine after
line_of [] = ([], [], refl, tt, tt)
line_of (c ∷ text) = elim (is_or (c == 10)) as (λ _. (bytes after : List ℕ) × (c ∷ text ≡ bytes ++ after) × IsLine bytes × EndsLine after) [
  | inl is ↦ ([], c ∷ text, refl, tt, eqb-true c 10 is)
  | inr other ↦ let k = line_of text in (c ∷ k.0, k.1, ap (λ (t : List ℕ). c ∷ t) k.2, ((λ is. eqb-false c 10 other is), k.3), k.4)
]

abbrev Closes : List ℕ → Type 0
Closes text = (bytes after : List ℕ) × (text ≡ bytes ++ (42 ∷ 47 ∷ after)) × IsOpen (bytes ++ 42 ∷ [])

open_more : (c d : ℕ) (bytes after text : List ℕ) → d ∷ text ≡ bytes ++ (42 ∷ 47 ∷ after) → ((c ≡ 42) × (d ≡ 47) → ⊥) → IsOpen (bytes ++ 42 ∷ []) → IsOpen (c ∷ (bytes ++ 42 ∷ []))
open_more c d [] after text is other o = ((λ p. let q = p.1 in omega arith), tt)
open_more c d (b ∷ bytes) after text is other o = ((λ p. let same : d ≡ b = cc in other (p.0, same ∙ p.1)), o)

block_more : (c d : ℕ) (text : List ℕ) → ((c ≡ 42) × (d ≡ 47) → ⊥) → Closes (d ∷ text) ⊎ IsOpen (d ∷ text) → Closes (c ∷ d ∷ text) ⊎ IsOpen (c ∷ d ∷ text)
block_more c d text other (inl k) = inl (c ∷ k.0, k.1, ap (λ (t : List ℕ). c ∷ t) k.2, open_more c d k.0 k.1 text k.2 other k.3)
block_more c d text other (inr o) = inr (other, o)

block_of : (text : List ℕ) → Closes text ⊎ IsOpen text
block_of [] = inr tt
block_of (c ∷ []) = inr tt
block_of (c ∷ d ∷ text) = elim (is_or (c == 42 && d == 47)) as (λ _. Closes (c ∷ d ∷ text) ⊎ IsOpen (c ∷ d ∷ text)) [
  | inl is ↦
      let k = and_true (c == 42) (d == 47) is in
      inl ([], text, ap (λ (b : ℕ). b ∷ d ∷ text) (eqb-true c 42 k.0) ∙ ap (λ (b : ℕ). 42 ∷ b ∷ text) (eqb-true d 47 k.1), tt)
  | inr other ↦ block_more c d text (λ p. let k : (c == 42 && d == 47) ≡ true = rw (p.0, p.1) refl in cc) (block_of (d ∷ text))
]

abbrev SkipsOrNot : List ℕ → Type 0
SkipsOrNot text = ((rest : List ℕ) × Skipped text rest) ⊎ ((at : List ℕ) × Unclosed text at)

-- one piece more in front
behind : (piece : Piece) (text after : List ℕ) → ((pieces : List Piece) (rest : List ℕ) → InFront pieces after rest → InFront (piece ∷ pieces) text rest) → SkipsOrNot after → SkipsOrNot text
behind piece text after more (inl s) = inl (s.0, (piece ∷ s.1.0, (more s.1.0 s.0 s.1.1.0, s.1.1.1)))
behind piece text after more (inr u) = inr (u.0, (piece ∷ u.1.0, u.1.1, more u.1.0 u.0 u.1.2, u.1.3, u.1.4))

stop : (text : List ℕ) → Stops text → SkipsOrNot text
stop text s = inl (text, ([], (refl, s)))

-- where no blank and no `#` stands
comment_or_stop : (c : ℕ) (text : List ℕ) → is_blank c ≡ false → c ≢ 35 → ((after : List ℕ) → length after < length text → SkipsOrNot after) → SkipsOrNot (c ∷ text)
comment_or_stop c [] plain other so = stop (c ∷ []) (plain, other)
comment_or_stop c (d ∷ text) plain other so = elim (is_or (c == 47 && d == 42)) as (λ _. SkipsOrNot (c ∷ d ∷ text)) [
  | inl is ↦
      let k = and_true (c == 47) (d == 42) is in
      let opens : c ∷ d ∷ text ≡ 47 ∷ 42 ∷ text = ap (λ (b : ℕ). b ∷ d ∷ text) (eqb-true c 47 k.0) ∙ ap (λ (b : ℕ). 47 ∷ b ∷ text) (eqb-true d 42 k.1) in
      elim (block_of text) as (λ _. SkipsOrNot (c ∷ d ∷ text)) [
        | inl closes ↦
            let whole = ap length closes.2 in
            behind (block closes.0) (c ∷ d ∷ text) closes.1 (λ pieces rest s. (closes.1, opens ∙ ap (λ (t : List ℕ). 47 ∷ 42 ∷ t) closes.2, closes.3, s)) (so closes.1 (omega (arith, length-append closes.0 (42 ∷ 47 ∷ closes.1))))
        | inr never ↦ inr (c ∷ d ∷ text, ([], text, refl, opens, never))
      ]
  | inr none ↦ stop (c ∷ d ∷ text) (plain, other, λ p. let k : (c == 47 && d == 42) ≡ true = rw (p.0, p.1) refl in cc)
]

either_by : (n : ℕ) (text : List ℕ) → length text < n → SkipsOrNot text
either_by zero text few = absurd (omega arith)
either_by (suc n) [] few = stop [] tt
either_by (suc n) (c ∷ text) few = elim (is_or (is_blank c)) as (λ _. SkipsOrNot (c ∷ text)) [
  | inl is ↦ behind (blank c) (c ∷ text) text (λ pieces rest s. (text, refl, is, s)) (either_by n text (omega arith))
  | inr plain ↦ elim (is_or (c == 35)) as (λ _. SkipsOrNot (c ∷ text)) [
    | inl is ↦
        let l = line_of text in
        let whole = ap length l.2 in
        behind (line l.0) (c ∷ text) l.1 (λ pieces rest s. (l.1, ap (λ (b : ℕ). b ∷ text) (eqb-true c 35 is) ∙ ap (λ (t : List ℕ). 35 ∷ t) l.2, l.3, l.4, s)) (either_by n l.1 (omega (arith, length-append l.0 l.1)))
    | inr other ↦ comment_or_stop c text plain (λ is. eqb-false c 35 other is) (λ after less. either_by n after (omega arith))
  ]
]

pub skip_or_not : (text : List ℕ) → SkipsOrNot text
skip_or_not text = either_by (suc (length text)) text (omega arith)

abbrev SkipFails : List ℕ → ScriptErrorKind → List ℕ → Type 0
SkipFails text kind at = (kind ≡ Syntax) × Unclosed text at

judged_by : (text : List ℕ) → SkipsOrNot text → Judges (skip text) (Skipped text) (SkipFails text)
judged_by text e = record {
  values = skip_is text;
  faults = λ kind at f. skip_fails text at f.1 ∙ ap (λ k. refuse k at) (sym f.0);
  either = elim e as (λ _. Either (Skipped text) (SkipFails text)) [
    | inl s ↦ inl s
    | inr u ↦ inr (Syntax, u.0, (refl, u.1))
  ];
}

pub skip_judged : (text : List ℕ) → Judges (skip text) (Skipped text) (SkipFails text)
skip_judged text = judged_by text (skip_or_not text)

pub found_of : {X : Type 0} (view : X → List ℕ) (text : List ℕ) (r : Result X ReadError) → Gives view r (skip text) → IfOk r (λ x. Skipped text (view x))
found_of view text (Ok x) g = found (skip text) (Skipped text) (SkipFails text) (skip_judged text) (view x) g
found_of view text (Err e) g = tt
