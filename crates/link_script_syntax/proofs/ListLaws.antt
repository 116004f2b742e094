-- GNU export lists, and what is added to a list, by their grammar, with their faults.
use Rattle.std.proofs.Common.{◌≡◌, ◌==◌, ℕ, ◌<◌, Bool, true, false, List, [], ◌∷◌, ◌++◌, length, take, Option, Some, None, Result, Ok, refl, ap, subst, ◌∙◌, inl, inr, arith}
use Rattle.std.specs.Prelude.{position}
use Rattle.std.proofs.lemmas.Bool.{ne_eqb}
use Rattle.std.proofs.lemmas.List.{take_at}
use Rattle.link_script_syntax.specs.declared.fault.Fault.{Fault}
use Rattle.link_script_syntax.specs.declared.fault.Language.TheVariants as languages
use Rattle.link_script_syntax.specs.declared.fault.ScriptErrorKind.{ScriptErrorKind}
use Rattle.link_script_syntax.specs.declared.fault.ScriptErrorKind.TheVariants.{Syntax}
use Rattle.link_script_syntax.specs.declared.matcher.SymbolMatcher.{SymbolMatcher}
use Rattle.link_script_syntax.specs.declared.matcher.ParsedSymbolMatcher.{ParsedSymbolMatcher}
use Rattle.link_script_syntax.specs.declared.matcher.ParsedSymbolMatcher.TheVariants.{Single, Multiple, CxxMatchers}
use Rattle.link_script_syntax.specs.declared.profile.ScriptProfile.{ScriptProfile}
use Rattle.link_script_syntax.specs.declared.profile.ScriptProfile.TheVariants.{Wild}
use Rattle.link_script_syntax.specs.Fault.{◌>>=◌, refuse}
use Rattle.link_script_syntax.specs.Words.{extern_word, open_word, close_word}
use Rattle.link_script_syntax.specs.Many.{alone}
use Rattle.link_script_syntax.specs.Blanks.{Skipped, Unclosed}
use Rattle.link_script_syntax.specs.Skip.{skip, strips}
use Rattle.link_script_syntax.specs.Token.{Without, trimmed, matcher_of}
use Rattle.link_script_syntax.specs.Block.{or_else}
use Rattle.link_script_syntax.specs.Entry.{extern_at, entry_at}
use Rattle.link_script_syntax.specs.Script.{to_end}
use Rattle.link_script_syntax.specs.GnuList.{list_turn, gnu_entries, gnu_list}
use Rattle.link_script_syntax.specs.ForcedName.{forced_until, forced_token, forced_name, added_entry}
use Rattle.link_script_syntax.specs.Grammar.{NotHere, Repeats, IsEntry}
use Rattle.link_script_syntax.specs.Faults.{RepeatFails}
use Rattle.link_script_syntax.specs.ListGrammar.{ListTurn, IsExportList, IsForcedToken, IsForcedName, IsAddedEntry}
use Rattle.link_script_syntax.specs.ListFaults as faults
use Rattle.link_script_syntax.specs.ListFaults.{ListTurnFails, ListFails, ForcedTokenFails, ForcedFails, AddedFails}
use Rattle.link_script_syntax.proofs.Skipping.{skip_is, skip_fails, skip_or_not}
use Rattle.link_script_syntax.proofs.TokenLaws.{place_is, no_place, stops_or_not, bad_fails, meant_or_bad}
use Rattle.link_script_syntax.proofs.Places.{bind_is, bind_err, or_else_some, or_else_none, strips_is, strips_none, word_or_not, skipped_shorter}
use Rattle.link_script_syntax.proofs.Judged.{Either, Judges}
use Rattle.link_script_syntax.proofs.Repeated.{TurnJudged, repeats_judged}
use Rattle.link_script_syntax.proofs.BlockLaws.{IsBehindExtern, extern_judged, entry_of, extern_of, entry_judged, entry_shorter}
use Rattle.link_script_syntax.proofs.ScriptLaws.{end_judged}

-- ---- turns of a list

abbrev as_item : ParsedSymbolMatcher × List ℕ → Result (Option ParsedSymbolMatcher × List ℕ) Fault
as_item e = Ok (Some e.0, e.1)

abbrev entry_turn : ScriptProfile → List ℕ → Result (Option ParsedSymbolMatcher × List ℕ) Fault
entry_turn profile text = entry_at profile text >>= as_item

-- behind the blanks of a turn
abbrev inner_turn : ScriptProfile → List ℕ → Result (Option ParsedSymbolMatcher × List ℕ) Fault
inner_turn profile text = or_else (strips close_word text) (λ rest. Ok (None, rest)) (entry_turn profile text)

turn_is : (profile : ScriptProfile) (text here : List ℕ) (r : Result (Option ParsedSymbolMatcher × List ℕ) Fault) → Skipped text here → inner_turn profile here ≡ r → list_turn profile text ≡ r
unfolding list_turn
turn_is profile text here r s is = bind_is (skip text) (inner_turn profile) here r (skip_is text here s) is

turn_unclosed : (profile : ScriptProfile) (text at : List ℕ) → Unclosed text at → list_turn profile text ≡ refuse Syntax at
unfolding list_turn
turn_unclosed profile text at u = bind_err (skip text) (inner_turn profile) (record { left = length at; kind = Syntax }) (skip_fails text at u)

entry_here : (profile : ScriptProfile) (here : List ℕ) → NotHere close_word here → inner_turn profile here ≡ entry_turn profile here
entry_here profile here unended = or_else_none (strips close_word here) (λ rest. Ok (None, rest)) (entry_turn profile here) (strips_none close_word here unended)

turn_only : (profile : ScriptProfile) (front : List ParsedSymbolMatcher) (text : List ℕ) (o : Option ParsedSymbolMatcher) (rest : List ℕ) → ListTurn profile front text o rest → list_turn profile text ≡ Ok (o, rest)
turn_only profile front text None rest t = turn_is profile text (close_word ++ rest) (Ok (None, rest)) t refl
turn_only profile front text (Some e) rest t =
    turn_is profile text t.0 (Ok (Some e, rest)) t.1 (entry_here profile t.0 t.2 ∙ bind_is (entry_at profile t.0) as_item (e, rest) (Ok (Some e, rest)) ((entry_judged profile t.0).values (e, rest) t.3) refl)

turn_fails : (profile : ScriptProfile) (text : List ℕ) (kind : ScriptErrorKind) (at : List ℕ) → ListTurnFails profile text kind at → list_turn profile text ≡ refuse kind at
turn_fails profile text kind at (faults.comment at' u) = turn_unclosed profile text at u
turn_fails profile text kind at (faults.entry here at' kind' s unended f) =
    turn_is profile text here (refuse kind at) s (entry_here profile here unended ∙ bind_err (entry_at profile here) as_item (record { left = length at; kind = kind }) ((entry_judged profile here).faults kind at f))

abbrev IsTurn : ScriptProfile → List ParsedSymbolMatcher → List ℕ → Option ParsedSymbolMatcher × List ℕ → Type 0
IsTurn profile front text t = ListTurn profile front text t.0 t.1

entry_either : (profile : ScriptProfile) (front : List ParsedSymbolMatcher) (text here : List ℕ) → Skipped text here → NotHere close_word here → Either (IsTurn profile front text) (ListTurnFails profile text)
entry_either profile front text here s unended = elim ((entry_judged profile here).either) as (λ _. Either (IsTurn profile front text) (ListTurnFails profile text)) [
  | inl e ↦ inl ((Some e.0.0, e.0.1), (here, s, unended, e.1))
  | inr f ↦ inr (f.0, f.1, faults.entry here f.1 f.0 s unended f.2)
]

here_either : (profile : ScriptProfile) (front : List ParsedSymbolMatcher) (text here : List ℕ) → Skipped text here → Either (IsTurn profile front text) (ListTurnFails profile text)
here_either profile front text here s = elim (word_or_not close_word here) as (λ _. Either (IsTurn profile front text) (ListTurnFails profile text)) [
  | inl ends ↦ inl ((None, ends.0), subst (λ (t : List ℕ). Skipped text t) ends.1 s)
  | inr unended ↦ entry_either profile front text here s unended
]

turn_either : (profile : ScriptProfile) (front : List ParsedSymbolMatcher) (text : List ℕ) → Either (IsTurn profile front text) (ListTurnFails profile text)
turn_either profile front text = elim (skip_or_not text) as (λ _. Either (IsTurn profile front text) (ListTurnFails profile text)) [
  | inl s ↦ here_either profile front text s.0 s.1
  | inr u ↦ inr (Syntax, u.0, faults.comment u.0 u.1)
]

turn_shortens : (profile : ScriptProfile) (front : List ParsedSymbolMatcher) (text : List ℕ) (e : ParsedSymbolMatcher) (after : List ℕ) → ListTurn profile front text (Some e) after → length after < length text
turn_shortens profile front text e after t = let s = skipped_shorter text t.0 t.1 in let k = entry_shorter profile t.0 e after t.3 in omega arith

turn_judged : (profile : ScriptProfile) → TurnJudged (alone (list_turn profile)) (ListTurn profile) (λ front. ListTurnFails profile)
turn_judged profile = record {
  judged = λ front text. record {
    values = λ t said. turn_only profile front text t.0 t.1 said;
    faults = turn_fails profile text;
    either = turn_either profile front text;
  };
  shortens = turn_shortens profile;
}

-- ---- whole lists

abbrev AreEntries : ScriptProfile → List ℕ → List ParsedSymbolMatcher × List ℕ → Type 0
AreEntries profile inside t = Repeats (ListTurn profile) [] t.0 inside t.1

abbrev SomeEntryFails : ScriptProfile → List ℕ → ScriptErrorKind → List ℕ → Type 0
SomeEntryFails profile inside kind at = (entries : List ParsedSymbolMatcher) × RepeatFails (ListTurn profile) (λ front. ListTurnFails profile) [] entries inside kind at

entries_judged : (profile : ScriptProfile) (inside : List ℕ) → Judges (gnu_entries profile inside) (AreEntries profile inside) (SomeEntryFails profile inside)
unfolding gnu_entries
entries_judged profile inside = repeats_judged (alone (list_turn profile)) (ListTurn profile) (λ front. ListTurnFails profile) (turn_judged profile) inside

abbrev ended : List ParsedSymbolMatcher × List ℕ → Result (List ParsedSymbolMatcher) Fault
ended entries = to_end entries.0 entries.1

-- behind the blanks of a list
abbrev inner_list : ScriptProfile → List ℕ → Result (List ParsedSymbolMatcher) Fault
inner_list profile text = or_else (strips open_word text) (λ rest. gnu_entries profile rest >>= ended) (refuse Syntax text)

list_by : (profile : ScriptProfile) (text here : List ℕ) (r : Result (List ParsedSymbolMatcher) Fault) → Skipped text here → inner_list profile here ≡ r → gnu_list profile text ≡ r
unfolding gnu_list
list_by profile text here r s is = bind_is (skip text) (inner_list profile) here r (skip_is text here s) is

list_unclosed : (profile : ScriptProfile) (text at : List ℕ) → Unclosed text at → gnu_list profile text ≡ refuse Syntax at
unfolding gnu_list
list_unclosed profile text at u = bind_err (skip text) (inner_list profile) (record { left = length at; kind = Syntax }) (skip_fails text at u)

ended_by : (profile : ScriptProfile) (text inside after : List ℕ) (entries : List ParsedSymbolMatcher) (r : Result (List ParsedSymbolMatcher) Fault) → Skipped text (open_word ++ inside) → Repeats (ListTurn profile) [] entries inside after → to_end entries after ≡ r → gnu_list profile text ≡ r
ended_by profile text inside after entries r s l is = list_by profile text (open_word ++ inside) r s (bind_is (gnu_entries profile inside) ended (entries, after) r ((entries_judged profile inside).values (entries, after) l) is)

list_only : (profile : ScriptProfile) (text : List ℕ) (entries : List ParsedSymbolMatcher) → IsExportList profile text entries → gnu_list profile text ≡ Ok entries
list_only profile text entries l = ended_by profile text l.0 l.1 entries (Ok entries) l.2 l.3 ((end_judged entries l.1).values entries (refl, l.4))

list_fails : (profile : ScriptProfile) (text : List ℕ) (kind : ScriptErrorKind) (at : List ℕ) → ListFails profile text kind at → gnu_list profile text ≡ refuse kind at
list_fails profile text kind at (faults.comment at' u) = list_unclosed profile text at u
list_fails profile text kind at (faults.no_brace at' s bare) = list_by profile text at (refuse Syntax at) s (or_else_none (strips open_word at) (λ rest. gnu_entries profile rest >>= ended) (refuse Syntax at) (strips_none open_word at bare))
list_fails profile text kind at (faults.inside inside at' kind' entries s f) =
    list_by profile text (open_word ++ inside) (refuse kind at) s (bind_err (gnu_entries profile inside) ended (record { left = length at; kind = kind }) ((entries_judged profile inside).faults kind at (entries, f)))
list_fails profile text kind at (faults.behind inside after at' kind' entries s l f) = ended_by profile text inside after entries (refuse kind at) s l ((end_judged entries after).faults kind at f)

end_either : (profile : ScriptProfile) (text inside after : List ℕ) (entries : List ParsedSymbolMatcher) → Skipped text (open_word ++ inside) → Repeats (ListTurn profile) [] entries inside after → Either (IsExportList profile text) (ListFails profile text)
end_either profile text inside after entries s l = elim ((end_judged entries after).either) as (λ _. Either (IsExportList profile text) (ListFails profile text)) [
  | inl e ↦ inl (entries, (inside, after, s, l, e.1.1))
  | inr f ↦ inr (f.0, f.1, faults.behind inside after f.1 f.0 entries s l f.2)
]

inside_either : (profile : ScriptProfile) (text inside : List ℕ) → Skipped text (open_word ++ inside) → Either (IsExportList profile text) (ListFails profile text)
inside_either profile text inside s = elim ((entries_judged profile inside).either) as (λ _. Either (IsExportList profile text) (ListFails profile text)) [
  | inl l ↦ end_either profile text inside l.0.1 l.0.0 s l.1
  | inr f ↦ inr (f.0, f.1, faults.inside inside f.1 f.0 f.2.0 s f.2.1)
]

open_either : (profile : ScriptProfile) (text here : List ℕ) → Skipped text here → Either (IsExportList profile text) (ListFails profile text)
open_either profile text here s = elim (word_or_not open_word here) as (λ _. Either (IsExportList profile text) (ListFails profile text)) [
  | inl o ↦ inside_either profile text o.0 (subst (λ (t : List ℕ). Skipped text t) o.1 s)
  | inr bare ↦ inr (Syntax, here, faults.no_brace here s bare)
]

list_either : (profile : ScriptProfile) (text : List ℕ) → Either (IsExportList profile text) (ListFails profile text)
list_either profile text = elim (skip_or_not text) as (λ _. Either (IsExportList profile text) (ListFails profile text)) [
  | inl s ↦ open_either profile text s.0 s.1
  | inr u ↦ inr (Syntax, u.0, faults.comment u.0 u.1)
]

pub list_judged : (profile : ScriptProfile) (text : List ℕ) → Judges (gnu_list profile text) (IsExportList profile text) (ListFails profile text)
list_judged profile text = record {
  values = list_only profile text;
  faults = list_fails profile text;
  either = list_either profile text;
}

-- ---- names and patterns that need no semicolon

unended_by : (text : List ℕ) → Without 125 text → forced_token text ≡ matcher_of (length text) (trimmed text)
unfolding forced_token
unended_by text never = ap (forced_until text) (no_place 125 text never)

ended_token : (text bytes after : List ℕ) → text ≡ bytes ++ 125 ∷ after → 0 < length bytes → Without 125 bytes → forced_token text ≡ matcher_of (length text) (trimmed bytes)
unfolding forced_token
ended_token text bytes after whole some plain =
    let at : position (λ c. c == 125) text ≡ Some (length bytes) = ap (position (λ c. c == 125)) whole ∙ place_is 125 bytes after plain in
    let front : take (length bytes) text ≡ bytes = ap (take (length bytes)) whole ∙ take_at bytes (125 ∷ after) (length bytes) refl in
    ap (forced_until text) at ∙ rw (ne_eqb (length bytes) 0 (λ e. omega arith), front) refl

token_only : (text : List ℕ) (m : SymbolMatcher) → IsForcedToken text m → forced_token text ≡ Ok m
token_only text m (inl t) = unended_by text t.0 ∙ t.1
token_only text m (inr t) = ended_token text t.0 t.1 t.2 t.3 t.4 ∙ t.5

token_fails : (text : List ℕ) (kind : ScriptErrorKind) (at : List ℕ) → ForcedTokenFails text kind at → forced_token text ≡ refuse kind at
unfolding forced_token
token_fails text kind at (faults.whole kind' never bad) = unended_by text never ∙ bad_fails (length text) (trimmed text) kind bad
token_fails text kind at (faults.empty after whole) = ap (forced_until text) (ap (position (λ c. c == 125)) whole ∙ place_is 125 [] after tt)
token_fails text kind at (faults.bad_pattern bytes after kind' whole some plain bad) = ended_token text bytes after whole some plain ∙ bad_fails (length text) (trimmed bytes) kind bad

whole_either : (text : List ℕ) → Without 125 text → Either (IsForcedToken text) (ForcedTokenFails text)
whole_either text never = elim (meant_or_bad (length text) (trimmed text)) as (λ _. Either (IsForcedToken text) (ForcedTokenFails text)) [
  | inl m ↦ inl (m.0, inl (never, m.1))
  | inr bad ↦ inr (bad.0, text, faults.whole bad.0 never bad.1)
]

part_either : (text bytes after : List ℕ) → text ≡ bytes ++ 125 ∷ after → Without 125 bytes → Either (IsForcedToken text) (ForcedTokenFails text)
part_either text [] after whole plain = inr (Syntax, text, faults.empty after whole)
part_either text (c ∷ bytes) after whole plain = elim (meant_or_bad (length text) (trimmed (c ∷ bytes))) as (λ _. Either (IsForcedToken text) (ForcedTokenFails text)) [
  | inl m ↦ inl (m.0, inr (c ∷ bytes, after, whole, omega arith, plain, m.1))
  | inr bad ↦ inr (bad.0, text, faults.bad_pattern (c ∷ bytes) after bad.0 whole (omega arith) plain bad.1)
]

token_either : (text : List ℕ) → Either (IsForcedToken text) (ForcedTokenFails text)
token_either text = elim (stops_or_not 125 text) as (λ _. Either (IsForcedToken text) (ForcedTokenFails text)) [
  | inl s ↦ part_either text s.0 s.1 s.2 s.3
  | inr never ↦ whole_either text never
]

-- ---- what is added to a list

abbrev entry_alone : ParsedSymbolMatcher × List ℕ → Result ParsedSymbolMatcher Fault
entry_alone e = Ok e.0

abbrev as_single : SymbolMatcher → Result ParsedSymbolMatcher Fault
as_single m = Ok (Single m)

block_by : (text behind : List ℕ) → text ≡ extern_word ++ behind → forced_name text ≡ (extern_at behind >>= entry_alone)
unfolding forced_name
block_by text behind is = or_else_some (strips extern_word text) (λ rest. extern_at rest >>= entry_alone) _ behind (strips_is extern_word text behind is)

token_by : (text : List ℕ) → NotHere extern_word text → forced_name text ≡ (forced_token text >>= as_single)
unfolding forced_name
token_by text plain = or_else_none (strips extern_word text) (λ rest. extern_at rest >>= entry_alone) _ (strips_none extern_word text plain)

block_only : (text behind : List ℕ) (x : ParsedSymbolMatcher × List ℕ) → text ≡ extern_word ++ behind → IsBehindExtern behind x → forced_name text ≡ Ok x.0
block_only text behind x is b = block_by text behind is ∙ bind_is (extern_at behind) entry_alone x (Ok x.0) ((extern_judged behind).values x b) refl

forced_only : (text : List ℕ) (entry : ParsedSymbolMatcher) → IsForcedName text entry → forced_name text ≡ Ok entry
forced_only text (Single m) f = token_by text f.0 ∙ bind_is (forced_token text) as_single m (Ok (Single m)) (token_only text m f.1) refl
forced_only text (Multiple ms) f = let b = extern_of text languages.C ms f.0 f.1 in block_only text b.0 (Multiple ms, f.0) b.1 b.2
forced_only text (CxxMatchers ms) f = let b = extern_of text languages.Cxx ms f.0 f.1 in block_only text b.0 (CxxMatchers ms, f.0) b.1 b.2

forced_fails : (text : List ℕ) (kind : ScriptErrorKind) (at : List ℕ) → ForcedFails text kind at → forced_name text ≡ refuse kind at
forced_fails text kind at (faults.block rest at' kind' is f) = block_by text rest is ∙ bind_err (extern_at rest) entry_alone (record { left = length at; kind = kind }) ((extern_judged rest).faults kind at f)
forced_fails text kind at (faults.token at' kind' plain f) = token_by text plain ∙ bind_err (forced_token text) as_single (record { left = length at; kind = kind }) (token_fails text kind at f)

-- an entry that stands behind `extern ` is no name or pattern
block_is : (text behind : List ℕ) (entry : ParsedSymbolMatcher) (rest : List ℕ) → text ≡ extern_word ++ behind → IsEntry Wild text entry rest → IsForcedName text entry
block_is text behind (Single m) rest is e = absurd (e.0 behind is)
block_is text behind (Multiple ms) rest is e = (rest, e)
block_is text behind (CxxMatchers ms) rest is e = (rest, e)

block_either : (text behind : List ℕ) → text ≡ extern_word ++ behind → Either (IsForcedName text) (ForcedFails text)
block_either text behind is = elim ((extern_judged behind).either) as (λ _. Either (IsForcedName text) (ForcedFails text)) [
  | inl b ↦ inl (b.0.0, block_is text behind b.0.0 b.0.1 is (entry_of Wild text behind b.0 is b.1))
  | inr f ↦ inr (f.0, f.1, faults.block behind f.1 f.0 is f.2)
]

plain_either : (text : List ℕ) → NotHere extern_word text → Either (IsForcedName text) (ForcedFails text)
plain_either text plain = elim (token_either text) as (λ _. Either (IsForcedName text) (ForcedFails text)) [
  | inl m ↦ inl (Single m.0, (plain, m.1))
  | inr f ↦ inr (f.0, f.1, faults.token f.1 f.0 plain f.2)
]

forced_either : (text : List ℕ) → Either (IsForcedName text) (ForcedFails text)
forced_either text = elim (word_or_not extern_word text) as (λ _. Either (IsForcedName text) (ForcedFails text)) [
  | inl x ↦ block_either text x.0 x.1
  | inr plain ↦ plain_either text plain
]

added_either : (text : List ℕ) → Either (IsAddedEntry false text) (AddedFails false text)
added_either text = elim ((entry_judged Wild text).either) as (λ _. Either (IsAddedEntry false text) (AddedFails false text)) [
  | inl e ↦ inl (e.0.0, (e.0.1, e.1))
  | inr f ↦ inr f
]

pub added_judged : (without_semicolon : Bool) (text : List ℕ) → Judges (added_entry without_semicolon text) (IsAddedEntry without_semicolon text) (AddedFails without_semicolon text)
unfolding added_entry
added_judged true text = record {
  values = forced_only text;
  faults = forced_fails text;
  either = forced_either text;
}
added_judged false text = record {
  values = λ entry e. bind_is (entry_at Wild text) entry_alone (entry, e.0) (Ok entry) ((entry_judged Wild text).values (entry, e.0) e.1) refl;
  faults = λ kind at f. bind_err (entry_at Wild text) entry_alone (record { left = length at; kind = kind }) ((entry_judged Wild text).faults kind at f);
  either = added_either text;
}
