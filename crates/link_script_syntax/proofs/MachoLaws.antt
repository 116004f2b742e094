-- Mach-O export lists by their grammar, with their faults.
use Rattle.std.proofs.Common.{◌≡◌, ◌≢◌, ℕ, zero, suc, ◌-◌, ◌<◌, ◌==◌, Bool, true, false, cond, List, [], ◌∷◌, ◌++◌, length, drop, Option, Some, None, Result, Ok, Err, refl, sym, ap, subst, ◌∙◌, ◌⊎◌, inl, inr, append_assoc, arith}
use Rattle.std.specs.Prelude.{not, ◌||◌, reverse}
use Rattle.std.specs.List.{prefix_len, position_or_len, before_first}
use Rattle.std.specs.Char.{is_ascii_whitespace}
use Rattle.std.proofs.lemmas.Bool.{eqb-true, eqb-false, ne_eqb}
use Rattle.std.proofs.lemmas.List.{append-nil, length-append, take_at, drop_at, take_all, reverse-append, length-reverse}
use Rattle.link_glob.specs.declared.fault.GlobError.{GlobError}
use Rattle.link_glob.specs.declared.fault.GlobError.TheVariants as globs
use Rattle.link_glob.specs.declared.compile.Dialect.TheVariants.{MachO}
use Rattle.link_glob.specs.Glob.{GlobToken}
use Rattle.link_glob.specs.Compile.{glob_of}
use Rattle.link_script_syntax.specs.declared.fault.Fault.{Fault}
use Rattle.link_script_syntax.specs.declared.fault.ScriptErrorKind.{ScriptErrorKind}
use Rattle.link_script_syntax.specs.declared.fault.ScriptErrorKind.TheVariants.{InvalidUtf8String, InvalidGlobPattern}
use Rattle.link_script_syntax.specs.declared.matcher.SymbolMatcher.{SymbolMatcher}
use Rattle.link_script_syntax.specs.declared.matcher.SymbolMatcher.TheVariants.{Exact, EscapedExact, StarGlob, NonstarGlob, MatchesAll}
use Rattle.link_script_syntax.specs.Fault.{◌>>=◌, refuse}
use Rattle.link_script_syntax.specs.Words.{star_word}
use Rattle.link_script_syntax.specs.Blanks.{IsLine}
use Rattle.link_script_syntax.specs.Token.{Without, trimmed, is_star, glob_from}
use Rattle.link_script_syntax.specs.Faults.{IsGlobFault}
use Rattle.link_script_syntax.specs.MachoList.{is_glob_byte, after_each_line, line_starts, is_lf, is_number_sign, uncommented, indent, bare, macho_matcher, line_matcher, with_line, lines_of, macho_list}
use Rattle.link_script_syntax.specs.MachoGrammar.{AreLines, AreBlanks, BeginsBare, EndsBare, IsComment, IsBare, has_glob_byte, has_star, NameMeans, LineMeans, AreListed, IsMachoList, IsFirstLine, FirstLineFails, FailsBehind, MachoFails}
use Rattle.link_script_syntax.proofs.Places.{is_or, and_true, no_test, bind_is, bind_err}
use Rattle.link_script_syntax.proofs.TokenLaws.{never_memory, glob_fails}
use Rattle.link_script_syntax.proofs.Judged.{Either, Judges}

-- ---- how far a test holds

abbrev Each : (ℕ → Bool) → List ℕ → Type 0
Each test [] = Unit {0}
Each test (c ∷ bytes) = (test c ≡ true) × Each test bytes

abbrev Halts : (ℕ → Bool) → List ℕ → Type 0
Halts test [] = Unit {0}
Halts test (c ∷ bytes) = test c ≡ false

prefix_is : (test : ℕ → Bool) (front rest : List ℕ) → Each test front → Halts test rest → prefix_len test (front ++ rest) ≡ length front
prefix_is test [] [] each halts = refl
prefix_is test [] (c ∷ rest) each halts = rw halts refl
prefix_is test (c ∷ front) rest each halts = rw (each.0, prefix_is test front rest each.1 halts) (omega arith)

each_append : (test : ℕ → Bool) (xs ys : List ℕ) → Each test xs → Each test ys → Each test (xs ++ ys)
each_append test [] ys a b = b
each_append test (c ∷ xs) ys a b = (a.0, each_append test xs ys a.1 b)

each_reverse : (test : ℕ → Bool) (xs : List ℕ) → Each test xs → Each test (reverse xs)
each_reverse test [] each = tt
each_reverse test (c ∷ xs) each = subst (Each test) (sym (reverse-append (c ∷ []) xs)) (each_append test (reverse xs) (c ∷ []) (each_reverse test xs each.1) (each.0, tt))

-- ---- what is left of a line

blanks_each : (bytes : List ℕ) → AreBlanks bytes → Each is_ascii_whitespace bytes
blanks_each [] b = tt
blanks_each (c ∷ bytes) b = (b.0, blanks_each bytes b.1)

-- no blank is a `#`
blank_plain : (c : ℕ) → is_ascii_whitespace c ≡ true → not (is_number_sign c) ≡ true
blank_plain c is = rw (ne_eqb c 35 (λ same. let k : is_ascii_whitespace 35 ≡ true = subst (λ b. is_ascii_whitespace b ≡ true) same is in cc)) refl

blanks_plain : (bytes : List ℕ) → AreBlanks bytes → Each (λ c. not (is_number_sign c)) bytes
blanks_plain [] b = tt
blanks_plain (c ∷ bytes) b = (blank_plain c b.0, blanks_plain bytes b.1)

without_plain : (bytes : List ℕ) → Without 35 bytes → Each (λ c. not (is_number_sign c)) bytes
without_plain [] w = tt
without_plain (c ∷ bytes) w = (rw (ne_eqb c 35 w.0) refl, without_plain bytes w.1)

comment_halts : (comment : List ℕ) → IsComment comment → Halts (λ c. not (is_number_sign c)) comment
comment_halts [] c = tt
comment_halts (c ∷ comment) is = rw is refl

uncommented_is : (line name : List ℕ) (b : IsBare line name) → uncommented line ≡ b.before ++ (name ++ b.after)
uncommented_is line name b =
    let code : List ℕ = b.before ++ (name ++ b.after) in
    let whole : line ≡ code ++ b.comment = b.whole ∙ ap (λ (t : List ℕ). b.before ++ t) (sym (append_assoc name b.after b.comment)) ∙ sym (append_assoc b.before (name ++ b.after) b.comment) in
    let plain = each_append (λ c. not (is_number_sign c)) b.before (name ++ b.after) (blanks_plain b.before b.blanks_before) (each_append (λ c. not (is_number_sign c)) name b.after (without_plain name b.plain) (blanks_plain b.after b.blanks_after)) in
    let len : position_or_len is_number_sign (code ++ b.comment) ≡ length code = prefix_is (λ c. not (is_number_sign c)) code b.comment plain (comment_halts b.comment b.rest) in
    ap uncommented whole ∙ take_at code b.comment (position_or_len is_number_sign (code ++ b.comment)) (sym len)

-- where something is left of the line, the blanks in front of it are counted
indent_is : (line : List ℕ) (c : ℕ) (name : List ℕ) (b : IsBare line (c ∷ name)) → indent line ≡ length b.before
indent_is line c name b = ap (prefix_len is_ascii_whitespace) (uncommented_is line (c ∷ name) b) ∙ prefix_is is_ascii_whitespace b.before (c ∷ (name ++ b.after)) (blanks_each b.before b.blanks_before) b.begins

begins_append : (xs ys : List ℕ) → 0 < length xs → Halts is_ascii_whitespace xs → Halts is_ascii_whitespace (xs ++ ys)
begins_append [] ys some h = absurd (omega arith)
begins_append (c ∷ xs) ys some h = h

ends_halts : (name : List ℕ) → EndsBare name → Halts is_ascii_whitespace (reverse name)
ends_halts [] e = tt
ends_halts (c ∷ []) e = e
ends_halts (c ∷ d ∷ name) e =
    let len = length-reverse (d ∷ name) in
    subst (Halts is_ascii_whitespace) (sym (reverse-append (c ∷ []) (d ∷ name))) (begins_append (reverse (d ∷ name)) (c ∷ []) (omega arith) (ends_halts (d ∷ name) e))

trimmed_is : (name after : List ℕ) → EndsBare name → AreBlanks after → trimmed (name ++ after) ≡ name
unfolding trimmed
trimmed_is name after ends blanks =
    let len : prefix_len is_ascii_whitespace (reverse (name ++ after)) ≡ length (reverse after) =
    ap (prefix_len is_ascii_whitespace) (reverse-append name after) ∙ prefix_is is_ascii_whitespace (reverse after) (reverse name) (each_reverse is_ascii_whitespace after (blanks_each after blanks)) (ends_halts name ends) in
    take_at name after (length (name ++ after) - prefix_len is_ascii_whitespace (reverse (name ++ after))) (omega (arith, length-append name after, length-reverse after))

all_blank : (before after : List ℕ) → AreBlanks before → AreBlanks after → drop (prefix_len is_ascii_whitespace (before ++ after)) (before ++ after) ≡ []
all_blank before after b a =
    let each = each_append is_ascii_whitespace before after (blanks_each before b) (blanks_each after a) in
    let len : prefix_len is_ascii_whitespace ((before ++ after) ++ []) ≡ length (before ++ after) = prefix_is is_ascii_whitespace (before ++ after) [] each tt in
    let same : prefix_len is_ascii_whitespace (before ++ after) ≡ length (before ++ after) = ap (prefix_len is_ascii_whitespace) (sym (append-nil (before ++ after))) ∙ len in
    ap (drop (prefix_len is_ascii_whitespace (before ++ after))) (sym (append-nil (before ++ after))) ∙ drop_at (before ++ after) [] (prefix_len is_ascii_whitespace (before ++ after)) (sym same)

bare_is : (line name : List ℕ) → IsBare line name → bare line ≡ name
bare_is line [] b =
    let code : uncommented line ≡ b.before ++ b.after = uncommented_is line [] b in
    ap (λ (t : List ℕ). trimmed (drop (prefix_len is_ascii_whitespace t) t)) code ∙ ap trimmed (all_blank b.before b.after b.blanks_before b.blanks_after) ∙ trimmed_is [] [] tt tt
bare_is line (c ∷ name) b =
    let code : uncommented line ≡ b.before ++ (c ∷ (name ++ b.after)) = uncommented_is line (c ∷ name) b in
    let len : prefix_len is_ascii_whitespace (b.before ++ (c ∷ (name ++ b.after))) ≡ length b.before = prefix_is is_ascii_whitespace b.before (c ∷ (name ++ b.after)) (blanks_each b.before b.blanks_before) b.begins in
    ap (λ (t : List ℕ). trimmed (drop (prefix_len is_ascii_whitespace t) t)) code
    ∙ ap trimmed (drop_at b.before (c ∷ (name ++ b.after)) (prefix_len is_ascii_whitespace (b.before ++ (c ∷ (name ++ b.after)))) (sym len))
    ∙ trimmed_is (c ∷ name) b.after b.ends b.blanks_after

-- ---- each line leaves something

abbrev Uncommented : List ℕ → Type 0
Uncommented line = (code comment : List ℕ) × (line ≡ code ++ comment) × Without 35 code × IsComment comment

code_of : (line : List ℕ) → Uncommented line
code_of [] = ([], [], refl, tt, tt)
code_of (c ∷ line) = elim (is_or (c == 35)) as (λ _. Uncommented (c ∷ line)) [
  | inl is ↦ ([], c ∷ line, refl, tt, eqb-true c 35 is)
  | inr other ↦ let k = code_of line in (c ∷ k.0, k.1, ap (λ (t : List ℕ). c ∷ t) k.2, ((λ is. eqb-false c 35 other is), k.3), k.4)
]

abbrev Indented : List ℕ → Type 0
Indented code = (before rest : List ℕ) × (code ≡ before ++ rest) × AreBlanks before × BeginsBare rest × (Without 35 code → Without 35 rest)

indent_of : (code : List ℕ) → Indented code
indent_of [] = ([], [], refl, tt, tt, λ w. w)
indent_of (c ∷ code) = elim (is_or (is_ascii_whitespace c)) as (λ _. Indented (c ∷ code)) [
  | inl is ↦ let k = indent_of code in (c ∷ k.0, k.1, ap (λ (t : List ℕ). c ∷ t) k.2, (is, k.3), k.4, λ w. k.5 w.1)
  | inr other ↦ ([], c ∷ code, refl, tt, other, λ w. w)
]

-- the bytes up to the blanks at the end
pub record Ended (rest : List ℕ) : Type 0 where
  name : List ℕ
  after : List ℕ
  whole : rest ≡ name ++ after
  blanks : AreBlanks after
  ends : EndsBare name
  begins : BeginsBare rest → BeginsBare name
  plain : Without 35 rest → Without 35 name

ends_more : (c : ℕ) (rest name after : List ℕ) → rest ≡ name ++ after → AreBlanks after → EndsBare name → (Without 35 rest → Without 35 name) → Ended (c ∷ rest)
ends_more c rest [] after whole blanks ends plain = elim (is_or (is_ascii_whitespace c)) as (λ _. Ended (c ∷ rest)) [
  | inl is ↦ record {
    name = [];
    after = c ∷ after;
    whole = ap (λ (t : List ℕ). c ∷ t) whole;
    blanks = (is, blanks);
    ends = tt;
    begins = λ b. tt;
    plain = λ w. tt;
  }
  | inr other ↦ record {
    name = c ∷ [];
    after = after;
    whole = ap (λ (t : List ℕ). c ∷ t) whole;
    blanks = blanks;
    ends = other;
    begins = λ b. b;
    plain = λ w. (w.0, tt);
  }
]
ends_more c rest (d ∷ name) after whole blanks ends plain = record {
  name = c ∷ d ∷ name;
  after = after;
  whole = ap (λ (t : List ℕ). c ∷ t) whole;
  blanks = blanks;
  ends = ends;
  begins = λ b. b;
  plain = λ w. (w.0, plain w.1);
}

end_of : (rest : List ℕ) → Ended rest
end_of [] = record { name = []; after = []; whole = refl; blanks = tt; ends = tt; begins = λ b. b; plain = λ w. w }
end_of (c ∷ rest) = let k = end_of rest in ends_more c rest k.name k.after k.whole k.blanks k.ends k.plain

bare_of : (line : List ℕ) → (name : List ℕ) × IsBare line name
bare_of line =
    let code = code_of line in
    let inner = indent_of code.0 in
    let k = end_of inner.1 in (
      k.name,
      record {
        before = inner.0;
        after = k.after;
        comment = code.1;
        whole = code.2
            ∙ ap (λ (t : List ℕ). t ++ code.1) (inner.2 ∙ ap (λ (t : List ℕ). inner.0 ++ t) k.whole)
            ∙ append_assoc inner.0 (k.name ++ k.after) code.1
            ∙ ap (λ (t : List ℕ). inner.0 ++ t) (append_assoc k.name k.after code.1);
        blanks_before = inner.3;
        blanks_after = k.blanks;
        begins = k.begins inner.4;
        ends = k.ends;
        plain = k.plain (inner.5 code.3);
        rest = code.4;
      },
    )

-- ---- what is left means something or can't be compiled

star_is : (name : List ℕ) → is_star name ≡ true → name ≡ star_word
star_is [] e = absurd cc
star_is (c ∷ []) e = ap (λ (b : ℕ). b ∷ []) (eqb-true c 42 (and_true (length (c ∷ []) == 1) (c == 42) e).1)
star_is (c ∷ d ∷ name) e = let k = eqb-true (length (c ∷ d ∷ name)) 1 (and_true (length (c ∷ d ∷ name) == 1) (c == 42) e).0 in absurd (omega arith)

not_star : (name : List ℕ) → name ≢ star_word → is_star name ≡ false
not_star name other = no_test (is_star name) (λ t. other (star_is name t))

starless : (name : List ℕ) → has_star name ≡ false → name ≢ star_word
starless name none is = let k : true ≡ false = sym (ap has_star is) ∙ none in cc

abbrev some_matcher : SymbolMatcher → Result (Option SymbolMatcher) Fault
some_matcher m = Ok (Some m)

-- what a line means by what is left of it
abbrev left_means : ℕ → List ℕ → Result (Option SymbolMatcher) Fault
left_means left name = cond (length name == 0) (Ok None) (macho_matcher left name >>= some_matcher)

glob_by : (left : ℕ) (name : List ℕ) → name ≢ star_word → has_glob_byte name ≡ true → macho_matcher left name ≡ glob_from left (has_star name) (glob_of MachO name)
unfolding macho_matcher
glob_by left name other glob = rw (not_star name other, glob) refl

exact_by : (left : ℕ) (name : List ℕ) → name ≢ star_word → has_glob_byte name ≡ false → macho_matcher left name ≡ Ok (Exact name)
unfolding macho_matcher
exact_by left name other plain = rw (not_star name other, plain) refl

star_by : (left : ℕ) → macho_matcher left star_word ≡ Ok MatchesAll
unfolding macho_matcher
star_by left = refl

glob_some : (name : List ℕ) → has_glob_byte name ≡ true → 0 < length name
glob_some [] e = absurd cc
glob_some (c ∷ name) e = omega arith

globless : (name : List ℕ) → has_glob_byte name ≡ false → name ≢ star_word
globless name none is = let k : true ≡ false = sym (ap has_glob_byte is) ∙ none in cc

some_by : (left : ℕ) (name : List ℕ) (r : Result SymbolMatcher Fault) → 0 < length name → macho_matcher left name ≡ r → left_means left name ≡ (r >>= some_matcher)
some_by left name r some is = rw (ne_eqb (length name) 0 (λ e. omega arith), is) refl

or_true : (a b : Bool) → b ≡ true → (a || b) ≡ true
or_true true b is = refl
or_true false b is = is

any_more : (c : ℕ) (name : List ℕ) → has_glob_byte name ≡ true → has_glob_byte (c ∷ name) ≡ true
any_more c name is = or_true (is_glob_byte c) (has_glob_byte name) is

star_glob : (name : List ℕ) → has_star name ≡ true → has_glob_byte name ≡ true
star_glob [] e = absurd cc
star_glob (c ∷ name) e = elim (is_or (c == 42)) as (λ _. has_glob_byte (c ∷ name) ≡ true) [
  | inl is ↦ rw is refl
  | inr other ↦ let more : has_star name ≡ true = rw other at e in any_more c name (star_glob name more)
]

means_only : (left : ℕ) (name : List ℕ) (m : Option SymbolMatcher) → NameMeans name m → left_means left name ≡ Ok m
means_only left name None m = ap (left_means left) m
means_only left name (Some MatchesAll) m = ap (left_means left) m ∙ some_by left star_word (Ok MatchesAll) (omega arith) (star_by left)
means_only left name (Some (StarGlob tokens)) m =
    let glob = star_glob name m.1 in
    some_by left name (Ok (StarGlob tokens)) (glob_some name glob) (glob_by left name m.0 glob ∙ ap (λ b. glob_from left b (glob_of MachO name)) m.1 ∙ ap (glob_from left true) m.2)
means_only left name (Some (NonstarGlob tokens)) m =
    some_by left name (Ok (NonstarGlob tokens)) (glob_some name m.0) (glob_by left name (starless name m.1) m.0 ∙ ap (λ b. glob_from left b (glob_of MachO name)) m.1 ∙ ap (glob_from left false) m.2)
means_only left name (Some (Exact exact)) m = some_by left name (Ok (Exact exact)) m.0 (exact_by left name (globless name m.1) m.1 ∙ ap (λ (n : List ℕ). Ok (Exact n)) (sym m.2))
means_only left name (Some (EscapedExact exact)) m = absurd m

abbrev IsBadName : List ℕ → ScriptErrorKind → Type 0
IsBadName name kind = (name ≢ star_word) × (has_glob_byte name ≡ true) × IsGlobFault (glob_of MachO name) kind

bad_fails : (left : ℕ) (name : List ℕ) (kind : ScriptErrorKind) → IsBadName name kind → left_means left name ≡ Err (record { left = left; kind = kind })
bad_fails left name kind bad = some_by left name (Err (record { left = left; kind = kind })) (glob_some name bad.1) (glob_by left name bad.0 bad.1 ∙ glob_fails left (has_star name) (glob_of MachO name) kind bad.2)

abbrev MeansOrBad : List ℕ → Type 0
MeansOrBad name = ((m : Option SymbolMatcher) × NameMeans name m) ⊎ ((kind : ScriptErrorKind) × IsBadName name kind)

compiled_or_bad : (name : List ℕ) (glob : Result (List GlobToken) GlobError) (star : Bool) → name ≢ star_word → has_glob_byte name ≡ true → glob_of MachO name ≡ glob → has_star name ≡ star → MeansOrBad name
compiled_or_bad name (Ok tokens) true other has is star = inl (Some (StarGlob tokens), (other, star, is))
compiled_or_bad name (Ok tokens) false other has is star = inl (Some (NonstarGlob tokens), (has, star, is))
compiled_or_bad name (Err globs.InvalidUtf8) star other has is at = inr (InvalidUtf8String, (other, has, subst (λ glob. IsGlobFault glob InvalidUtf8String) (sym is) refl))
compiled_or_bad name (Err globs.InvalidGlob) star other has is at = inr (InvalidGlobPattern, (other, has, subst (λ glob. IsGlobFault glob InvalidGlobPattern) (sym is) refl))
compiled_or_bad name (Err globs.Memory) star other has is at = absurd (never_memory MachO name is)

means_or_bad : (name : List ℕ) → MeansOrBad name
means_or_bad [] = inl (None, refl)
means_or_bad (c ∷ name) = elim (is_or (is_star (c ∷ name))) as (λ _. MeansOrBad (c ∷ name)) [
  | inl all ↦ inl (Some MatchesAll, star_is (c ∷ name) all)
  | inr other ↦ elim (is_or (has_glob_byte (c ∷ name))) as (λ _. MeansOrBad (c ∷ name)) [
    | inl has ↦ compiled_or_bad (c ∷ name) (glob_of MachO (c ∷ name)) (has_star (c ∷ name)) (λ is. let k : true ≡ false = sym (ap is_star is) ∙ other in cc) has refl refl
    | inr plain ↦ inl (Some (Exact (c ∷ name)), (omega arith, plain, refl))
  ]
]

-- ---- a line

line_by : (left : ℕ) (line name : List ℕ) → bare line ≡ name → line_matcher left line ≡ left_means (left - indent line) name
unfolding line_matcher
line_by left line name is = ap (left_means (left - indent line)) is

line_only : (left : ℕ) (line : List ℕ) (m : Option SymbolMatcher) → LineMeans line m → line_matcher left line ≡ Ok m
line_only left line m l = line_by left line l.0 (bare_is line l.0 l.1) ∙ means_only (left - indent line) l.0 m l.2

-- what a text is read as by its first line
abbrev goes_on : List (List ℕ) → Option SymbolMatcher → Result (List SymbolMatcher) Fault
goes_on starts m = lines_of starts >>= λ ms. Ok (with_line m ms)

line_each : (line : List ℕ) → IsLine line → Each (λ c. not (is_lf c)) line
line_each [] l = tt
line_each (c ∷ line) l = (rw (ne_eqb c 10 l.0) refl, line_each line l.1)

first_of_line : (line after : List ℕ) → IsLine line → before_first is_lf (line ++ 10 ∷ after) ≡ line
first_of_line line after l = take_at line (10 ∷ after) (position_or_len is_lf (line ++ 10 ∷ after)) (sym (prefix_is (λ c. not (is_lf c)) line (10 ∷ after) (line_each line l) refl))

starts_behind : (line after : List ℕ) → IsLine line → after_each_line (line ++ 10 ∷ after) ≡ line_starts after
starts_behind [] after l = refl
starts_behind (c ∷ line) after l = rw (ne_eqb c 10 l.0) (starts_behind line after l.1)

first_alone : (line : List ℕ) → IsLine line → before_first is_lf line ≡ line
first_alone line l =
    let len : position_or_len is_lf (line ++ []) ≡ length line = prefix_is (λ c. not (is_lf c)) line [] (line_each line l) tt in
    take_all (position_or_len is_lf line) line (let same = ap (position_or_len is_lf) (append-nil line) in omega arith)

starts_alone : (line : List ℕ) → IsLine line → after_each_line line ≡ []
starts_alone [] l = refl
starts_alone (c ∷ line) l = rw (ne_eqb c 10 l.0) (starts_alone line l.1)

line_goes_on : (text line after : List ℕ) → text ≡ line ++ 10 ∷ after → IsLine line → lines_of (line_starts text) ≡ (line_matcher (length text) line >>= goes_on (line_starts after))
line_goes_on text line after whole l =
    let first : before_first is_lf text ≡ line = ap (before_first is_lf) whole ∙ first_of_line line after l in
    let more : after_each_line text ≡ line_starts after = ap after_each_line whole ∙ starts_behind line after l in
    rw (first, more) refl

line_alone : (text line : List ℕ) → text ≡ line → IsLine line → lines_of (line_starts text) ≡ (line_matcher (length text) line >>= goes_on [])
line_alone text line whole l =
    let first : before_first is_lf text ≡ line = ap (before_first is_lf) whole ∙ first_alone line l in
    let more : after_each_line text ≡ [] = ap after_each_line whole ∙ starts_alone line l in
    rw (first, more) refl

-- ---- all lines

with_line_nil : (m : Option SymbolMatcher) (others matchers : List SymbolMatcher) → others ≡ [] → matchers ≡ with_line m others → ◌≡◌ {A = Result (List SymbolMatcher) Fault} (Ok (with_line m [])) (Ok matchers)
with_line_nil m others matchers none is = ap (λ (ms : List SymbolMatcher). Ok ms) (ap (with_line m) (sym none) ∙ sym is)

list_only : (lines : List (List ℕ)) (text : List ℕ) (matchers : List SymbolMatcher) → AreLines lines text → AreListed lines matchers → lines_of (line_starts text) ≡ Ok matchers
list_only [] text matchers are listed = absurd are
list_only (line ∷ []) text matchers are listed =
    line_alone text line are.0 are.1
    ∙ bind_is (line_matcher (length text) line) (goes_on []) listed.0 (Ok matchers) (line_only (length text) line listed.0 listed.2) (with_line_nil listed.0 listed.1 matchers listed.3 listed.4)
list_only (line ∷ next ∷ lines) text matchers are listed =
    line_goes_on text line are.0 are.1 are.2
    ∙ bind_is (line_matcher (length text) line) (goes_on (line_starts are.0)) listed.0 (Ok matchers) (line_only (length text) line listed.0 listed.2)
    (bind_is (lines_of (line_starts are.0)) (λ ms. Ok (with_line listed.0 ms)) listed.1 (Ok matchers) (list_only (next ∷ lines) are.0 listed.1 are.3 listed.3) (ap (λ (ms : List SymbolMatcher). Ok ms) (sym listed.4)))

place_is : (text line name at : List ℕ) (b : IsBare line name) → 0 < length name → text ≡ b.before ++ at → length text - indent line ≡ length at
place_is text line [] at b some place = absurd (omega arith)
place_is text line (c ∷ name) at b some place =
    let in_front = indent_is line c name b in
    let whole = ap length place in
    omega (arith, length-append b.before at)

first_line_bad : (text : List ℕ) (kind : ScriptErrorKind) (at : List ℕ) (f : FirstLineFails text kind at) → line_matcher (length text) f.line ≡ Err (record { left = length at; kind = kind })
first_line_bad text kind at f =
    line_by (length text) f.line f.name (bare_is f.line f.name f.bare)
    ∙ bad_fails (length text - indent f.line) f.name kind (f.not_all, f.glob, f.fault)
    ∙ ap (λ (n : ℕ). Err (record { left = n; kind = kind })) (place_is text f.line f.name at f.bare (glob_some f.name f.glob) f.place)

first_fails : (text : List ℕ) (kind : ScriptErrorKind) (at : List ℕ) → FirstLineFails text kind at → lines_of (line_starts text) ≡ refuse kind at
first_fails text kind at f = elim (f.first.1) as (λ _. lines_of (line_starts text) ≡ refuse kind at) [
  | inl alone ↦ line_alone text f.line alone f.first.0 ∙ bind_err (line_matcher (length text) f.line) (goes_on []) (record { left = length at; kind = kind }) (first_line_bad text kind at f)
  | inr more ↦ line_goes_on text f.line more.0 more.1 f.first.0 ∙ bind_err (line_matcher (length text) f.line) (goes_on (line_starts more.0)) (record { left = length at; kind = kind }) (first_line_bad text kind at f)
]

list_fails : (lines : List (List ℕ)) (text : List ℕ) (kind : ScriptErrorKind) (at : List ℕ) → FailsBehind lines text kind at → lines_of (line_starts text) ≡ refuse kind at
list_fails [] text kind at f = first_fails text kind at f
list_fails (line ∷ lines) text kind at f =
    line_goes_on text line f.0 f.2 f.3
    ∙ bind_is (line_matcher (length text) line) (goes_on (line_starts f.0)) f.1 (refuse kind at) (line_only (length text) line f.1 f.4)
    (bind_err (lines_of (line_starts f.0)) (λ ms. Ok (with_line f.1 ms)) (record { left = length at; kind = kind }) (list_fails lines f.0 kind at f.5))

-- ---- each text is a list or has a fault

abbrev Split : List ℕ → Type 0
Split text = (line : List ℕ) × IsFirstLine line text

split_more : (c : ℕ) (text : List ℕ) → (c ≡ 10 → ⊥) → Split text → Split (c ∷ text)
split_more c text other (line, (l, inl alone)) = (c ∷ line, ((other, l), inl (ap (λ (t : List ℕ). c ∷ t) alone)))
split_more c text other (line, (l, inr more)) = (c ∷ line, ((other, l), inr (more.0, ap (λ (t : List ℕ). c ∷ t) more.1)))

split_of : (text : List ℕ) → Split text
split_of [] = ([], (tt, inl refl))
split_of (c ∷ text) = elim (is_or (c == 10)) as (λ _. Split (c ∷ text)) [
  | inl is ↦ ([], (tt, inr (text, ap (λ (b : ℕ). b ∷ text) (eqb-true c 10 is))))
  | inr other ↦ split_more c text (λ is. eqb-false c 10 other is) (split_of text)
]

-- a first line that fails does so behind its blanks
first_bad : (text line name : List ℕ) (kind : ScriptErrorKind) → IsFirstLine line text → IsBare line name → IsBadName name kind → (at : List ℕ) × FirstLineFails text kind at
first_bad text line name kind (l, inl alone) b bad =
    (name ++ (b.after ++ b.comment), record { line = line; name = name; first = (l, inl alone); bare = b; not_all = bad.0; glob = bad.1; fault = bad.2; place = alone ∙ b.whole })
first_bad text line name kind (l, inr more) b bad = (
  (name ++ (b.after ++ b.comment)) ++ 10 ∷ more.0,
  record {
    line = line;
    name = name;
    first = (l, inr more);
    bare = b;
    not_all = bad.0;
    glob = bad.1;
    fault = bad.2;
    place = more.1 ∙ ap (λ (t : List ℕ). t ++ 10 ∷ more.0) b.whole ∙ append_assoc b.before (name ++ (b.after ++ b.comment)) (10 ∷ more.0);
  },
)

lines_more : (line text after : List ℕ) (lines : List (List ℕ)) → text ≡ line ++ 10 ∷ after → IsLine line → AreLines lines after → AreLines (line ∷ lines) text
lines_more line text after [] whole l are = absurd are
lines_more line text after (next ∷ lines) whole l are = (after, whole, l, are)

line_more : (text line after : List ℕ) (m : Option SymbolMatcher) → text ≡ line ++ 10 ∷ after → IsLine line → LineMeans line m → Either (IsMachoList after) (MachoFails after) → Either (IsMachoList text) (MachoFails text)
line_more text line after m whole l means (inl k) = inl (with_line m k.0, (line ∷ k.1.0, lines_more line text after k.1.0 whole l k.1.1, (m, k.0, means, k.1.2, refl)))
line_more text line after m whole l means (inr f) = inr (f.0, f.1, (line ∷ f.2.0, (after, m, whole, l, means, f.2.1)))

line_means_or_bad : (line : List ℕ) → ((m : Option SymbolMatcher) × LineMeans line m) ⊎ ((name : List ℕ) × (kind : ScriptErrorKind) × IsBare line name × IsBadName name kind)
line_means_or_bad line = let b = bare_of line in elim (means_or_bad b.0) as (λ _. ((m : Option SymbolMatcher) × LineMeans line m) ⊎ ((name : List ℕ) × (kind : ScriptErrorKind) × IsBare line name × IsBadName name kind)) [
  | inl m ↦ inl (m.0, (b.0, b.1, m.1))
  | inr bad ↦ inr (b.0, bad.0, b.1, bad.1)
]

first_either : (text line : List ℕ) → IsFirstLine line text → ((after : List ℕ) → length after < length text → Either (IsMachoList after) (MachoFails after)) → Either (IsMachoList text) (MachoFails text)
first_either text line first so = elim (line_means_or_bad line) as (λ _. Either (IsMachoList text) (MachoFails text)) [
  | inr bad ↦ let f = first_bad text line bad.0 bad.1 first bad.2 bad.3 in inr (bad.1, f.0, ([], f.1))
  | inl m ↦ elim (first.1) as (λ _. Either (IsMachoList text) (MachoFails text)) [
    | inl alone ↦ inl (with_line m.0 [], (line ∷ [], (alone, first.0), (m.0, [], m.1, refl, refl)))
    | inr more ↦ let whole = ap length more.1 in line_more text line more.0 m.0 more.1 first.0 m.1 (so more.0 (omega (arith, length-append line (10 ∷ more.0))))
  ]
]

either_by : (n : ℕ) (text : List ℕ) → length text < n → Either (IsMachoList text) (MachoFails text)
either_by zero text few = absurd (omega arith)
either_by (suc n) text few = let s = split_of text in first_either text s.0 s.1 (λ after less. either_by n after (omega arith))

pub macho_judged : (text : List ℕ) → Judges (macho_list text) (IsMachoList text) (MachoFails text)
unfolding macho_list
macho_judged text = record {
  values = λ matchers l. list_only l.0 text matchers l.1 l.2;
  faults = λ kind at f. list_fails f.0 text kind at f.1;
  either = either_by (suc (length text)) text (omega arith);
}
