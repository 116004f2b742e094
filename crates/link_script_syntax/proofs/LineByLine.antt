-- Reading a text line by line.
use Rattle.std.proofs.Common.{◌≡◌, ◌≤◌, ◌+◌, ℕ, zero, suc, ◌==◌, Bool, true, false, List, [], ◌∷◌, ◌++◌, length, take, drop, Some, None, Result, Ok, Err, refl, sym, ap, subst, ◌∙◌, inl, inr, ◌⊎◌, arith, length-drop, length-take}
use Rattle.std.specs.Prelude.{position}
use Rattle.std.specs.List.{position_from, position_or_len, prefix_len}
use Rattle.std.proofs.lemmas.List.{take_all}
use Rattle.std.proofs.lemmas.Option.{same_Some}
use Rattle.std.proofs.lemmas.Iterator.Adapters.{position_from-zero}
use Rattle.link_script_syntax.specs.declared.fault.Fault.{Fault}
use Rattle.link_script_syntax.specs.declared.matcher.SymbolMatcher.{SymbolMatcher}
use Rattle.link_script_syntax.specs.Fault.{◌>>=◌}
use Rattle.link_script_syntax.specs.MachoList.{is_lf, after_each_line, line_starts, IsLineOf, lines_of, macho_list}

is_or : (b : Bool) → (b ≡ true) ⊎ (b ≡ false)
is_or true = inl refl
is_or false = inr refl

-- the first LF stands at place k
pub record BreaksAt (k : ℕ) (text : List ℕ) : Type 0 where
  pub place : position_or_len is_lf text ≡ k
  pub others : after_each_line text ≡ line_starts (drop (suc k) text)

pub record BreaksFrom (i n : ℕ) (text : List ℕ) : Type 0 where
  pub k : ℕ
  pub offset : n ≡ i + k
  pub breaks : BreaksAt k text

break_first : (i n c : ℕ) (rest : List ℕ) → (c == 10) ≡ true → Some i ≡ Some n → BreaksFrom i n (c ∷ rest)
break_first i n c rest is e = record {
  k = 0;
  offset = let s = same_Some i n e in omega arith;
  breaks = record { place = rw is refl; others = rw is refl };
}

break_later : (i n c : ℕ) (rest : List ℕ) → (c == 10) ≡ false → BreaksFrom (i + 1) n rest → BreaksFrom i n (c ∷ rest)
break_later i n c rest other b = record {
  k = suc b.k;
  offset = let o = b.offset in omega arith;
  breaks = record { place = rw other (let p = b.breaks.place in omega arith); others = rw other b.breaks.others };
}

breaks_from : (i n : ℕ) (text : List ℕ) → position_from is_lf i text ≡ Some n → BreaksFrom i n text
breaks_from i n [] e = absurd cc
breaks_from i n (c ∷ rest) e = elim (is_or (c == 10)) [
  | inl is ↦ break_first i n c rest is (rw is at e)
  | inr other ↦ break_later i n c rest other (breaks_from (i + 1) n rest (rw other at e))
]

breaks_at : (n : ℕ) (text : List ℕ) → position is_lf text ≡ Some n → BreaksAt n text
breaks_at n text e =
    let b = breaks_from 0 n text (sym (position_from-zero is_lf text) ∙ e) in
    let same : b.k ≡ n = let o = b.offset in omega arith in
    subst (λ (m : ℕ). BreaksAt m text) same b.breaks

-- there is no LF
pub record IsLastLine (text : List ℕ) : Type 0 where
  pub place : position_or_len is_lf text ≡ length text
  pub others : after_each_line text ≡ []

last_from : (i : ℕ) (text : List ℕ) → position_from is_lf i text ≡ None → IsLastLine text
last_from i [] e = record { place = refl; others = refl }
last_from i (c ∷ rest) e = elim (is_or (c == 10)) [
  | inl is ↦ absurd (let f = rw is at e in cc)
  | inr other ↦
      let l = last_from (i + 1) rest (rw other at e) in
      record { place = rw other (let p = l.place in omega arith); others = rw other l.others }
]

pub line_last : (text : List ℕ) → position is_lf text ≡ None → IsLineOf text text None
line_last text e =
    let l = last_from 0 text (sym (position_from-zero is_lf text) ∙ e) in
    record {
      first = rw l.place (sym (take_all (length text) text (omega arith)));
      others = sym l.others;
      short = omega arith;
      behind = omega arith;
    }

drop_next : (n : ℕ) (text : List ℕ) → drop 1 (drop n text) ≡ drop (suc n) text
drop_next zero [] = refl
drop_next zero (c ∷ text) = refl
drop_next (suc n) [] = refl
drop_next (suc n) (c ∷ text) = drop_next n text

pub line_first : (text line ended after : List ℕ) (n : ℕ) → position is_lf text ≡ Some n → line ≡ take n text → ended ≡ drop n text → after ≡ drop 1 ended → IsLineOf text line (Some after)
line_first text line ended after n e front back next =
    let b = breaks_at n text e in
    let rest : after ≡ drop (suc n) text = next ∙ ap (drop 1) back ∙ drop_next n text in
    record {
      first = front ∙ sym (rw b.place refl);
      others = ap line_starts rest ∙ sym b.others;
      short = rw front (omega (arith, length-take n text));
      behind = rw rest (omega (arith, length-drop (suc n) text));
    }

-- the matchers so far, and those of the lines that are left
abbrev pub with_rest : List SymbolMatcher → Result (List SymbolMatcher) Fault → Result (List SymbolMatcher) Fault
with_rest done rest = rest >>= λ ms. Ok (done ++ ms)

with_none : (r : Result (List SymbolMatcher) Fault) → with_rest [] r ≡ r
with_none (Ok ms) = refl
with_none (Err f) = refl

pub begin_lines : (text : List ℕ) → with_rest [] (lines_of (line_starts text)) ≡ macho_list text
unfolding macho_list
begin_lines text = with_none (lines_of (line_starts text))

prefix_short : (p : ℕ → Bool) (bytes : List ℕ) → prefix_len p bytes ≤ length bytes
prefix_short p [] = omega arith
prefix_short p (c ∷ bytes) = elim (is_or (p c)) [
  | inl is ↦ rw is (let h = prefix_short p bytes in omega arith)
  | inr not ↦ rw not (omega arith)
]

pub front_and_rest : (p : ℕ → Bool) (bytes : List ℕ) → length (drop (prefix_len p bytes) bytes) + prefix_len p bytes ≡ length bytes
front_and_rest p bytes = let h = prefix_short p bytes in omega (arith, length-drop (prefix_len p bytes) bytes)
