-- Extern blocks and entries by their grammar, with their faults.
use Rattle.std.proofs.Common.{◌≡◌, ◌==◌, ℕ, ◌<◌, ◌≤◌, Bool, cond, List, [], ◌∷◌, ◌++◌, length, Option, Some, None, Result, Ok, refl, sym, ap, subst, ◌∙◌, ◌⊎◌, inl, inr, arith}
use Rattle.std.specs.List.{list_any}
use Rattle.std.proofs.lemmas.List.{length-append}
use Rattle.link_script_syntax.specs.declared.fault.Fault.{Fault}
use Rattle.link_script_syntax.specs.declared.fault.Language.{Language}
use Rattle.link_script_syntax.specs.declared.fault.Language.TheVariants as languages
use Rattle.link_script_syntax.specs.declared.fault.ScriptErrorKind.{ScriptErrorKind}
use Rattle.link_script_syntax.specs.declared.fault.ScriptErrorKind.TheVariants.{Syntax, UnexpectedExtern, UnsupportedExtern}
use Rattle.link_script_syntax.specs.declared.matcher.SymbolMatcher.{SymbolMatcher}
use Rattle.link_script_syntax.specs.declared.matcher.ParsedSymbolMatcher.{ParsedSymbolMatcher}
use Rattle.link_script_syntax.specs.declared.matcher.ParsedSymbolMatcher.TheVariants.{Single, Multiple, CxxMatchers}
use Rattle.link_script_syntax.specs.declared.profile.ScriptProfile.{ScriptProfile}
use Rattle.link_script_syntax.specs.declared.profile.TokenEnd.TheVariants.{Semicolon, Brace}
use Rattle.link_script_syntax.specs.Fault.{◌>>=◌, refuse}
use Rattle.link_script_syntax.specs.Profile.{token_end}
use Rattle.link_script_syntax.specs.Words.{extern_word, word_of, c_word, cxx_word, open_word, close_word}
use Rattle.link_script_syntax.specs.Many.{alone}
use Rattle.link_script_syntax.specs.Blanks.{Skipped, Unclosed}
use Rattle.link_script_syntax.specs.Skip.{skip, strips}
use Rattle.link_script_syntax.specs.Token.{token_at}
use Rattle.link_script_syntax.specs.Block.{or_else, language_at, extern_text, inner_extern, close_place, semicolon_before, closed_token, block_turn, block_at}
use Rattle.link_script_syntax.specs.Entry.{of_language, extern_block, extern_at, entry_at}
use Rattle.link_script_syntax.specs.Grammar.{NotHere, NoClose, Repeats, block_end, BlockTurn, IsExtern, IsEntry}
use Rattle.link_script_syntax.specs.Faults as faults
use Rattle.link_script_syntax.specs.Faults.{TokenFails, NoLanguage, IsNested, known, unknown, BlockTurnFails, BlockFails, ExternFails, EntryFails}
use Rattle.link_script_syntax.proofs.Skipping.{skip_is, skip_fails, skip_or_not}
use Rattle.link_script_syntax.proofs.TokenLaws.{token_only, token_fails, token_judged}
use Rattle.link_script_syntax.proofs.Places.{bind_is, bind_err, or_else_some, or_else_none, strips_is, strips_none, word_or_not, skipped_shorter, token_shorter, close_is, no_close, close_or_not, before_is}
use Rattle.link_script_syntax.proofs.Judged.{Either, Judges}
use Rattle.link_script_syntax.proofs.Repeated.{TurnJudged, repeats_judged, repeats_shorter}

-- ---- a name or pattern in a block

stop_is : (text inner after : List ℕ) → text ≡ inner ++ 125 ∷ 59 ∷ after → cond (semicolon_before text (length inner)) Semicolon Brace ≡ block_end inner
stop_is text inner after whole = ap (λ (b : Bool). cond b Semicolon Brace) (subst (λ (t : List ℕ). semicolon_before t (length inner) ≡ list_any (λ c. c == 59) inner) (sym whole) (before_is inner after))

abbrev as_item : SymbolMatcher × List ℕ → Result (Option SymbolMatcher × List ℕ) Fault
as_item m = Ok (Some m.0, m.1)

closed_is : (text inner after : List ℕ) → text ≡ inner ++ 125 ∷ 59 ∷ after → closed_token text (length inner) ≡ (token_at (block_end inner) text >>= as_item)
closed_is text inner after whole = ap (λ s. token_at s text >>= as_item) (stop_is text inner after whole)

-- ---- languages

language_is : (text : List ℕ) (l : Language) (rest : List ℕ) → text ≡ word_of l ++ rest → language_at text ≡ Some (l, rest)
unfolding language_at
language_is text languages.Cxx rest e = or_else_some (strips cxx_word text) (λ rest. Some (languages.Cxx, rest)) _ rest (strips_is cxx_word text rest e)
language_is text languages.C rest e =
    or_else_none (strips cxx_word text) (λ rest. Some (languages.Cxx, rest)) _ (ap (strips cxx_word) e)
    ∙ or_else_some (strips c_word text) (λ rest. Some (languages.C, rest)) None rest (strips_is c_word text rest e)

language_none : (text : List ℕ) → NoLanguage text → language_at text ≡ None
unfolding language_at
language_none text none =
    or_else_none (strips cxx_word text) (λ rest. Some (languages.Cxx, rest)) _ (strips_none cxx_word text (none languages.Cxx))
    ∙ or_else_none (strips c_word text) (λ rest. Some (languages.C, rest)) None (strips_none c_word text (none languages.C))

abbrev Named : List ℕ → Type 0
Named text = (language : Language) × (behind : List ℕ) × (text ≡ word_of language ++ behind)

no_language : (text : List ℕ) → NotHere c_word text → NotHere cxx_word text → NoLanguage text
no_language text c cxx languages.C = c
no_language text c cxx languages.Cxx = cxx

language_or_not : (text : List ℕ) → Named text ⊎ NoLanguage text
language_or_not text = elim (word_or_not cxx_word text) as (λ _. Named text ⊎ NoLanguage text) [
  | inl cxx ↦ inl (languages.Cxx, cxx.0, cxx.1)
  | inr no_cxx ↦ elim (word_or_not c_word text) as (λ _. Named text ⊎ NoLanguage text) [
    | inl c ↦ inl (languages.C, c.0, c.1)
    | inr no_c ↦ inr (no_language text no_c no_cxx)
  ]
]

nested_is : (text : List ℕ) (kind : ScriptErrorKind) → IsNested text kind → inner_extern text ≡ kind
unfolding inner_extern
nested_is text kind (known l behind is) = or_else_some (language_at text) (λ x. UnexpectedExtern x.0) _ (l, behind) (language_is text l behind is)
nested_is text kind (unknown none) = or_else_none (language_at text) (λ x. UnexpectedExtern x.0) _ (language_none text none)

-- ---- a turn of a block

-- behind the blanks of a turn
abbrev inner_turn : List ℕ → Result (Option SymbolMatcher × List ℕ) Fault
inner_turn text =
    or_else (strips close_word text) (λ rest. skip rest >>= λ after. Ok (None, after))
    (or_else (strips extern_word text) (λ rest. refuse (inner_extern rest) text)
    (or_else (close_place text) (λ place. closed_token text place) (refuse Syntax text)))

turn_is : (text here : List ℕ) (r : Result (Option SymbolMatcher × List ℕ) Fault) → Skipped text here → inner_turn here ≡ r → block_turn text ≡ r
unfolding block_turn
turn_is text here r s is = bind_is (skip text) inner_turn here r (skip_is text here s) is

turn_unclosed : (text at : List ℕ) → Unclosed text at → block_turn text ≡ refuse Syntax at
unfolding block_turn
turn_unclosed text at u = bind_err (skip text) inner_turn (record { left = length at; kind = Syntax }) (skip_fails text at u)

-- where the block goes on
goes_on : (here : List ℕ) → NotHere close_word here → NotHere extern_word here → inner_turn here ≡ or_else (close_place here) (λ place. closed_token here place) (refuse Syntax here)
goes_on here unended plain =
    or_else_none (strips close_word here) (λ rest. skip rest >>= λ after. Ok (None, after)) _ (strips_none close_word here unended)
    ∙ or_else_none (strips extern_word here) (λ rest. refuse (inner_extern rest) here) _ (strips_none extern_word here plain)

token_here : (here inner after : List ℕ) → NotHere close_word here → NotHere extern_word here → here ≡ inner ++ 125 ∷ 59 ∷ after → NoClose inner → inner_turn here ≡ (token_at (block_end inner) here >>= as_item)
token_here here inner after unended plain whole first =
    goes_on here unended plain
    ∙ or_else_some (close_place here) (λ place. closed_token here place) _ (length inner) (ap close_place whole ∙ close_is inner after first)
    ∙ closed_is here inner after whole

block_turn_only : (front : List SymbolMatcher) (text : List ℕ) (o : Option SymbolMatcher) (rest : List ℕ) → BlockTurn front text o rest → block_turn text ≡ Ok (o, rest)
block_turn_only front text None rest t =
    turn_is text (close_word ++ t.0) (Ok (None, rest)) t.1 (bind_is (skip t.0) (λ after. Ok (None, after)) rest (Ok (None, rest)) (skip_is t.0 rest t.2) refl)
block_turn_only front text (Some m) rest t =
    turn_is text t.0 (Ok (Some m, rest)) t.1
    (token_here t.0 t.4.inner t.4.after t.2 t.3 t.4.whole t.4.first
    ∙ bind_is (token_at (block_end t.4.inner) t.0) as_item (m, rest) (Ok (Some m, rest)) (token_only (block_end t.4.inner) t.0 m rest t.4.token) refl)

open_of : (text : List ℕ) → NoClose text → NotHere close_word text
open_of text free rest is = let k : NoClose (close_word ++ rest) = subst NoClose is free in k.0 (refl, refl)

block_turn_fails : (text : List ℕ) (kind : ScriptErrorKind) (at : List ℕ) → BlockTurnFails text kind at → block_turn text ≡ refuse kind at
block_turn_fails text kind at (faults.comment at' u) = turn_unclosed text at u
block_turn_fails text kind at (faults.comment_behind after at' s u) =
    turn_is text (close_word ++ after) (refuse Syntax at) s (bind_err (skip after) (λ after. Ok (None, after)) (record { left = length at; kind = Syntax }) (skip_fails after at u))
block_turn_fails text kind at (faults.nested rest kind' s nested) = turn_is text (extern_word ++ rest) (refuse kind at) s (ap (λ k. refuse k (extern_word ++ rest)) (nested_is rest kind nested))
block_turn_fails text kind at (faults.endless at' s plain never) =
    turn_is text at (refuse Syntax at) s (goes_on at (open_of at never) plain ∙ or_else_none (close_place at) (λ place. closed_token at place) _ (no_close at never))
block_turn_fails text kind at (faults.token here inner after at' kind' s unended plain whole first bad) =
    turn_is text here (refuse kind at) s
    (token_here here inner after unended plain whole first
    ∙ bind_err (token_at (block_end inner) here) as_item (record { left = length at; kind = kind }) (token_fails (block_end inner) here kind at bad))

abbrev IsTurn : List SymbolMatcher → List ℕ → Option SymbolMatcher × List ℕ → Type 0
IsTurn front text t = BlockTurn front text t.0 t.1

close_either : (front : List SymbolMatcher) (text after : List ℕ) → Skipped text (close_word ++ after) → Either (IsTurn front text) (BlockTurnFails text)
close_either front text after s = elim (skip_or_not after) as (λ _. Either (IsTurn front text) (BlockTurnFails text)) [
  | inl b ↦ inl ((None, b.0), (after, s, b.1))
  | inr u ↦ inr (Syntax, u.0, faults.comment_behind after u.0 s u.1)
]

nested_either : (front : List SymbolMatcher) (text rest : List ℕ) → Skipped text (extern_word ++ rest) → Either (IsTurn front text) (BlockTurnFails text)
nested_either front text rest s = elim (language_or_not rest) as (λ _. Either (IsTurn front text) (BlockTurnFails text)) [
  | inl l ↦ inr (UnexpectedExtern l.0, extern_word ++ rest, faults.nested rest (UnexpectedExtern l.0) s (known l.0 l.1 l.2))
  | inr none ↦ inr (UnsupportedExtern (extern_text rest), extern_word ++ rest, faults.nested rest (UnsupportedExtern (extern_text rest)) s (unknown none))
]

token_either : (front : List SymbolMatcher) (text here inner after : List ℕ) → Skipped text here → NotHere close_word here → NotHere extern_word here → here ≡ inner ++ 125 ∷ 59 ∷ after → NoClose inner → Either (IsTurn front text) (BlockTurnFails text)
token_either front text here inner after s unended plain whole first = elim ((token_judged (block_end inner) here).either) as (λ _. Either (IsTurn front text) (BlockTurnFails text)) [
  | inl t ↦ inl ((Some t.0.0, t.0.1), (here, s, unended, plain, record { inner = inner; after = after; whole = whole; first = first; token = t.1 }))
  | inr f ↦ inr (f.0, f.1, faults.token here inner after f.1 f.0 s unended plain whole first f.2)
]

here_either : (front : List SymbolMatcher) (text here : List ℕ) → Skipped text here → Either (IsTurn front text) (BlockTurnFails text)
here_either front text here s = elim (word_or_not close_word here) as (λ _. Either (IsTurn front text) (BlockTurnFails text)) [
  | inl ends ↦ close_either front text ends.0 (subst (λ (t : List ℕ). Skipped text t) ends.1 s)
  | inr unended ↦ elim (word_or_not extern_word here) as (λ _. Either (IsTurn front text) (BlockTurnFails text)) [
    | inl nested ↦ nested_either front text nested.0 (subst (λ (t : List ℕ). Skipped text t) nested.1 s)
    | inr plain ↦ elim (close_or_not here) as (λ _. Either (IsTurn front text) (BlockTurnFails text)) [
      | inl c ↦ token_either front text here c.0 c.1 s unended plain c.2 c.3
      | inr never ↦ inr (Syntax, here, faults.endless here s plain never)
    ]
  ]
]

turn_either : (front : List SymbolMatcher) (text : List ℕ) → Either (IsTurn front text) (BlockTurnFails text)
turn_either front text = elim (skip_or_not text) as (λ _. Either (IsTurn front text) (BlockTurnFails text)) [
  | inl s ↦ here_either front text s.0 s.1
  | inr u ↦ inr (Syntax, u.0, faults.comment u.0 u.1)
]

block_turn_shortens : (front : List SymbolMatcher) (text : List ℕ) (m : SymbolMatcher) (after : List ℕ) → BlockTurn front text (Some m) after → length after < length text
block_turn_shortens front text m after t = let s = skipped_shorter text t.0 t.1 in let k = token_shorter t.4.token in omega arith

block_turn_judged : TurnJudged (alone block_turn) BlockTurn (λ front. BlockTurnFails)
block_turn_judged = record {
  judged = λ front text. record {
    values = λ t said. block_turn_only front text t.0 t.1 said;
    faults = block_turn_fails text;
    either = turn_either front text;
  };
  shortens = block_turn_shortens;
}

block_turn_ends : (front : List SymbolMatcher) (text after : List ℕ) → BlockTurn front text None after → length after ≤ length text
block_turn_ends front text after t = let s = skipped_shorter text (close_word ++ t.0) t.1 in let k = skipped_shorter t.0 after t.2 in omega arith

block_judged : (text : List ℕ) → Judges (block_at text) (λ t. Repeats BlockTurn [] t.0 text t.1) (BlockFails text)
unfolding block_at
block_judged text = repeats_judged (alone block_turn) BlockTurn (λ front. BlockTurnFails) block_turn_judged text

-- ---- an extern block

extern_shorter : (language : List ℕ) (ms : List SymbolMatcher) (text rest : List ℕ) → IsExtern language ms text rest → length rest < length text
extern_shorter language ms text rest x =
    let w : length text ≡ length (extern_word ++ (language ++ x.0)) = ap length x.2 in
    let s = skipped_shorter x.0 (open_word ++ x.1) x.3 in
    let r = repeats_shorter (alone block_turn) BlockTurn (λ front. BlockTurnFails) block_turn_judged block_turn_ends ms [] x.1 rest x.4 in
    omega (arith, length-append language x.0)

pub entry_shorter : (profile : ScriptProfile) (text : List ℕ) (e : ParsedSymbolMatcher) (rest : List ℕ) → IsEntry profile text e rest → length rest < length text
entry_shorter profile text (Single m) rest x = token_shorter x.1
entry_shorter profile text (Multiple ms) rest x = extern_shorter c_word ms text rest x
entry_shorter profile text (CxxMatchers ms) rest x = extern_shorter cxx_word ms text rest x

abbrev as_block : Language → List SymbolMatcher × List ℕ → Result (ParsedSymbolMatcher × List ℕ) Fault
as_block l ms = Ok (of_language l ms.0, ms.1)

-- behind the language of a block
abbrev inside_block : Language → List ℕ → Result (ParsedSymbolMatcher × List ℕ) Fault
inside_block l text = or_else (strips open_word text) (λ rest. block_at rest >>= as_block l) (refuse Syntax text)

extern_by : (l : Language) (text behind : List ℕ) → text ≡ word_of l ++ behind → extern_at text ≡ (skip behind >>= inside_block l)
unfolding extern_at
extern_by l text behind is = or_else_some (language_at text) (λ l. extern_block l.0 l.1) _ (l, behind) (language_is text l behind is)

block_by : (l : Language) (text behind here : List ℕ) (r : Result (ParsedSymbolMatcher × List ℕ) Fault) → text ≡ word_of l ++ behind → Skipped behind here → inside_block l here ≡ r → extern_at text ≡ r
block_by l text behind here r is s so = extern_by l text behind is ∙ bind_is (skip behind) (inside_block l) here r (skip_is behind here s) so

-- an extern block behind its `extern `, as the entry that it is
abbrev pub IsBehindExtern : List ℕ → ParsedSymbolMatcher × List ℕ → Type 0
IsBehindExtern text x = (language : Language) × (ms : List SymbolMatcher) × (behind inside : List ℕ) × (x.0 ≡ of_language language ms) × (text ≡ word_of language ++ behind) × Skipped behind (open_word ++ inside) × Repeats BlockTurn [] ms inside x.1

extern_only : (text : List ℕ) (x : ParsedSymbolMatcher × List ℕ) → IsBehindExtern text x → extern_at text ≡ Ok x
extern_only text x b =
    block_by b.0 text b.2 (open_word ++ b.3) (Ok x) b.5 b.6
    (bind_is (block_at b.3) (as_block b.0) (b.1, x.1) (Ok x) ((block_judged b.3).values (b.1, x.1) b.7) (ap (λ (e : ParsedSymbolMatcher). Ok (e, x.1)) (sym b.4)))

extern_fails : (text : List ℕ) (kind : ScriptErrorKind) (at : List ℕ) → ExternFails text kind at → extern_at text ≡ refuse kind at
unfolding extern_at
extern_fails text kind at (faults.unsupported none) = or_else_none (language_at text) (λ l. extern_block l.0 l.1) _ (language_none text none)
extern_fails text kind at (faults.comment l behind at' is u) = extern_by l text behind is ∙ bind_err (skip behind) (inside_block l) (record { left = length at; kind = Syntax }) (skip_fails behind at u)
extern_fails text kind at (faults.no_brace l behind at' is s bare) = block_by l text behind at (refuse Syntax at) is s (or_else_none (strips open_word at) (λ rest. block_at rest >>= as_block l) _ (strips_none open_word at bare))
extern_fails text kind at (faults.inside l behind block at' kind' is s f) =
    block_by l text behind (open_word ++ block) (refuse kind at) is s (bind_err (block_at block) (as_block l) (record { left = length at; kind = kind }) ((block_judged block).faults kind at f))

inside_either : (text : List ℕ) (l : Language) (behind inside : List ℕ) → text ≡ word_of l ++ behind → Skipped behind (open_word ++ inside) → Either (IsBehindExtern text) (ExternFails text)
inside_either text l behind inside is s = elim ((block_judged inside).either) as (λ _. Either (IsBehindExtern text) (ExternFails text)) [
  | inl b ↦ inl ((of_language l b.0.0, b.0.1), (l, b.0.0, behind, inside, refl, is, s, b.1))
  | inr f ↦ inr (f.0, f.1, faults.inside l behind inside f.1 f.0 is s f.2)
]

behind_either : (text : List ℕ) (l : Language) (behind here : List ℕ) → text ≡ word_of l ++ behind → Skipped behind here → Either (IsBehindExtern text) (ExternFails text)
behind_either text l behind here is s = elim (word_or_not open_word here) as (λ _. Either (IsBehindExtern text) (ExternFails text)) [
  | inl o ↦ inside_either text l behind o.0 is (subst (λ (t : List ℕ). Skipped behind t) o.1 s)
  | inr bare ↦ inr (Syntax, here, faults.no_brace l behind here is s bare)
]

named_either : (text : List ℕ) (l : Language) (behind : List ℕ) → text ≡ word_of l ++ behind → Either (IsBehindExtern text) (ExternFails text)
named_either text l behind is = elim (skip_or_not behind) as (λ _. Either (IsBehindExtern text) (ExternFails text)) [
  | inl s ↦ behind_either text l behind s.0 is s.1
  | inr u ↦ inr (Syntax, u.0, faults.comment l behind u.0 is u.1)
]

extern_either : (text : List ℕ) → Either (IsBehindExtern text) (ExternFails text)
extern_either text = elim (language_or_not text) as (λ _. Either (IsBehindExtern text) (ExternFails text)) [
  | inl l ↦ named_either text l.0 l.1 l.2
  | inr none ↦ inr (UnsupportedExtern (extern_text text), text, faults.unsupported none)
]

pub extern_judged : (text : List ℕ) → Judges (extern_at text) (IsBehindExtern text) (ExternFails text)
extern_judged text = record {
  values = extern_only text;
  faults = extern_fails text;
  either = extern_either text;
}

-- ---- an entry

pub extern_of : (text : List ℕ) (l : Language) (ms : List SymbolMatcher) (rest : List ℕ) → IsExtern (word_of l) ms text rest → (behind : List ℕ) × (text ≡ extern_word ++ behind) × IsBehindExtern behind (of_language l ms, rest)
extern_of text l ms rest x = (word_of l ++ x.0, x.2, (l, ms, x.0, x.1, refl, refl, x.3, x.4))

extern_entry : (profile : ScriptProfile) (text : List ℕ) (l : Language) (behind inside : List ℕ) (ms : List SymbolMatcher) (rest : List ℕ) → text ≡ extern_word ++ (word_of l ++ behind) → Skipped behind (open_word ++ inside) → Repeats BlockTurn [] ms inside rest → IsEntry profile text (of_language l ms) rest
extern_entry profile text languages.C behind inside ms rest whole s r = (behind, inside, whole, s, r)
extern_entry profile text languages.Cxx behind inside ms rest whole s r = (behind, inside, whole, s, r)

-- an extern block is an entry
pub entry_of : (profile : ScriptProfile) (text behind : List ℕ) (x : ParsedSymbolMatcher × List ℕ) → text ≡ extern_word ++ behind → IsBehindExtern behind x → IsEntry profile text x.0 x.1
entry_of profile text behind x whole b =
    subst (λ (e : ParsedSymbolMatcher). IsEntry profile text e x.1) (sym b.4) (extern_entry profile text b.0 b.2 b.3 b.1 x.1 (whole ∙ ap (λ (t : List ℕ). extern_word ++ t) b.5) b.6 b.7)

abbrev as_entry : SymbolMatcher × List ℕ → Result (ParsedSymbolMatcher × List ℕ) Fault
as_entry m = Ok (Single m.0, m.1)

block_here : (profile : ScriptProfile) (text behind : List ℕ) → text ≡ extern_word ++ behind → entry_at profile text ≡ extern_at behind
unfolding entry_at
block_here profile text behind is = or_else_some (strips extern_word text) (λ rest. extern_at rest) _ behind (strips_is extern_word text behind is)

token_is_here : (profile : ScriptProfile) (text : List ℕ) → NotHere extern_word text → entry_at profile text ≡ (token_at (token_end profile) text >>= as_entry)
unfolding entry_at
token_is_here profile text plain = or_else_none (strips extern_word text) (λ rest. extern_at rest) _ (strips_none extern_word text plain)

block_only : (profile : ScriptProfile) (text : List ℕ) (l : Language) (ms : List SymbolMatcher) (rest : List ℕ) → IsExtern (word_of l) ms text rest → entry_at profile text ≡ Ok (of_language l ms, rest)
block_only profile text l ms rest x = let b = extern_of text l ms rest x in block_here profile text b.0 b.1 ∙ extern_only b.0 (of_language l ms, rest) b.2

entry_only : (profile : ScriptProfile) (text : List ℕ) (e : ParsedSymbolMatcher) (rest : List ℕ) → IsEntry profile text e rest → entry_at profile text ≡ Ok (e, rest)
entry_only profile text (Single m) rest x = token_is_here profile text x.0 ∙ bind_is (token_at (token_end profile) text) as_entry (m, rest) (Ok (Single m, rest)) (token_only (token_end profile) text m rest x.1) refl
entry_only profile text (Multiple ms) rest x = block_only profile text languages.C ms rest x
entry_only profile text (CxxMatchers ms) rest x = block_only profile text languages.Cxx ms rest x

entry_fails : (profile : ScriptProfile) (text : List ℕ) (kind : ScriptErrorKind) (at : List ℕ) → EntryFails profile text kind at → entry_at profile text ≡ refuse kind at
entry_fails profile text kind at (faults.block rest at' kind' is f) = block_here profile text rest is ∙ extern_fails rest kind at f
entry_fails profile text kind at (faults.token at' kind' plain f) = token_is_here profile text plain ∙ bind_err (token_at (token_end profile) text) as_entry (record { left = length at; kind = kind }) (token_fails (token_end profile) text kind at f)

abbrev IsEntryHere : ScriptProfile → List ℕ → ParsedSymbolMatcher × List ℕ → Type 0
IsEntryHere profile text x = IsEntry profile text x.0 x.1

block_either : (profile : ScriptProfile) (text behind : List ℕ) → text ≡ extern_word ++ behind → Either (IsEntryHere profile text) (EntryFails profile text)
block_either profile text behind is = elim (extern_either behind) as (λ _. Either (IsEntryHere profile text) (EntryFails profile text)) [
  | inl b ↦ inl (b.0, entry_of profile text behind b.0 is b.1)
  | inr f ↦ inr (f.0, f.1, faults.block behind f.1 f.0 is f.2)
]

plain_either : (profile : ScriptProfile) (text : List ℕ) → NotHere extern_word text → Either (IsEntryHere profile text) (EntryFails profile text)
plain_either profile text plain = elim ((token_judged (token_end profile) text).either) as (λ _. Either (IsEntryHere profile text) (EntryFails profile text)) [
  | inl t ↦ inl ((Single t.0.0, t.0.1), (plain, t.1))
  | inr f ↦ inr (f.0, f.1, faults.token f.1 f.0 plain f.2)
]

entry_either : (profile : ScriptProfile) (text : List ℕ) → Either (IsEntryHere profile text) (EntryFails profile text)
entry_either profile text = elim (word_or_not extern_word text) as (λ _. Either (IsEntryHere profile text) (EntryFails profile text)) [
  | inl x ↦ block_either profile text x.0 x.1
  | inr plain ↦ plain_either profile text plain
]

pub entry_judged : (profile : ScriptProfile) (text : List ℕ) → Judges (entry_at profile text) (λ x. IsEntry profile text x.0 x.1) (EntryFails profile text)
entry_judged profile text = record {
  values = λ x e. entry_only profile text x.0 x.1 e;
  faults = entry_fails profile text;
  either = entry_either profile text;
}
