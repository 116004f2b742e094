-- Bodies by their grammar, with their faults.
use Rattle.std.proofs.Common.{◌≡◌, ℕ, ◌<◌, ◌≤◌, List, [], ◌++◌, length, Option, Some, None, Result, Ok, refl, sym, ap, subst, ◌∙◌, inl, inr, arith}
use Rattle.link_script_syntax.specs.declared.fault.Fault.{Fault}
use Rattle.link_script_syntax.specs.declared.fault.ScriptErrorKind.{ScriptErrorKind}
use Rattle.link_script_syntax.specs.declared.fault.ScriptErrorKind.TheVariants.{Syntax}
use Rattle.link_script_syntax.specs.declared.body.Side.TheVariants.{Global, Local}
use Rattle.link_script_syntax.specs.declared.body.Item.{Item}
use Rattle.link_script_syntax.specs.declared.body.Item.TheVariants as items
use Rattle.link_script_syntax.specs.declared.body.RawVersionBody.{RawVersionBody}
use Rattle.link_script_syntax.specs.declared.matcher.ParsedSymbolMatcher.{ParsedSymbolMatcher}
use Rattle.link_script_syntax.specs.declared.profile.ScriptProfile.{ScriptProfile}
use Rattle.link_script_syntax.specs.Fault.{◌>>=◌, refuse}
use Rattle.link_script_syntax.specs.Words.{global_word, local_word, open_word, brace_word}
use Rattle.link_script_syntax.specs.Many.{alone, many}
use Rattle.link_script_syntax.specs.Blanks.{Skipped, Unclosed}
use Rattle.link_script_syntax.specs.Skip.{skip, strips}
use Rattle.link_script_syntax.specs.Block.{or_else}
use Rattle.link_script_syntax.specs.Entry.{entry_at}
use Rattle.link_script_syntax.specs.Body.{body_turn, body_of, pieces_at, body_at}
use Rattle.link_script_syntax.specs.Grammar.{NotHere, Repeats, BodyTurn, IsBody}
use Rattle.link_script_syntax.specs.Faults as faults
use Rattle.link_script_syntax.specs.Faults.{RepeatFails, EntryFails, BodyTurnFails, BodyFails}
use Rattle.link_script_syntax.proofs.Skipping.{skip_is, skip_fails, skip_or_not}
use Rattle.link_script_syntax.proofs.Places.{bind_is, bind_err, or_else_some, or_else_none, strips_is, strips_none, word_or_not, skipped_shorter}
use Rattle.link_script_syntax.proofs.Judged.{Either, Judges}
use Rattle.link_script_syntax.proofs.Repeated.{TurnJudged, repeats_judged, repeats_shorter}
use Rattle.link_script_syntax.proofs.BlockLaws.{entry_judged, entry_shorter}

-- ---- a turn of a body

abbrev as_item : ParsedSymbolMatcher × List ℕ → Result (Option Item × List ℕ) Fault
as_item e = Ok (Some (items.Entry e.0), e.1)

-- behind the blanks of a turn: what no brace and no head of a section is
abbrev entry_turn : ScriptProfile → List ℕ → Result (Option Item × List ℕ) Fault
entry_turn profile text = entry_at profile text >>= as_item

abbrev inner_turn : ScriptProfile → List ℕ → Result (Option Item × List ℕ) Fault
inner_turn profile text =
    or_else (strips brace_word text) (λ rest. skip rest >>= λ after. Ok (None, after))
    (or_else (strips global_word text) (λ rest. Ok (Some (items.Side Global), rest))
    (or_else (strips local_word text) (λ rest. Ok (Some (items.Side Local), rest)) (entry_turn profile text)))

turn_is : (profile : ScriptProfile) (text here : List ℕ) (r : Result (Option Item × List ℕ) Fault) → Skipped text here → inner_turn profile here ≡ r → body_turn profile text ≡ r
unfolding body_turn
turn_is profile text here r s is = bind_is (skip text) (inner_turn profile) here r (skip_is text here s) is

turn_unclosed : (profile : ScriptProfile) (text at : List ℕ) → Unclosed text at → body_turn profile text ≡ refuse Syntax at
unfolding body_turn
turn_unclosed profile text at u = bind_err (skip text) (inner_turn profile) (record { left = length at; kind = Syntax }) (skip_fails text at u)

entry_here : (profile : ScriptProfile) (here : List ℕ) → NotHere brace_word here → NotHere global_word here → NotHere local_word here → inner_turn profile here ≡ entry_turn profile here
entry_here profile here unended no_global no_local =
    or_else_none (strips brace_word here) (λ rest. skip rest >>= λ after. Ok (None, after)) _ (strips_none brace_word here unended)
    ∙ or_else_none (strips global_word here) (λ rest. Ok (Some (items.Side Global), rest)) _ (strips_none global_word here no_global)
    ∙ or_else_none (strips local_word here) (λ rest. Ok (Some (items.Side Local), rest)) (entry_turn profile here) (strips_none local_word here no_local)

body_turn_only : (profile : ScriptProfile) (front : List Item) (text : List ℕ) (o : Option Item) (rest : List ℕ) → BodyTurn profile front text o rest → body_turn profile text ≡ Ok (o, rest)
body_turn_only profile front text None rest t =
    turn_is profile text (brace_word ++ t.0) (Ok (None, rest)) t.1 (bind_is (skip t.0) (λ after. Ok (None, after)) rest (Ok (None, rest)) (skip_is t.0 rest t.2) refl)
body_turn_only profile front text (Some (items.Side Global)) rest t = turn_is profile text (global_word ++ rest) (Ok (Some (items.Side Global), rest)) t refl
body_turn_only profile front text (Some (items.Side Local)) rest t = turn_is profile text (local_word ++ rest) (Ok (Some (items.Side Local), rest)) t refl
body_turn_only profile front text (Some (items.Entry e)) rest t =
    turn_is profile text t.0 (Ok (Some (items.Entry e), rest)) t.1
    (entry_here profile t.0 t.2 t.3 t.4 ∙ bind_is (entry_at profile t.0) as_item (e, rest) (Ok (Some (items.Entry e), rest)) ((entry_judged profile t.0).values (e, rest) t.5) refl)

body_turn_fails : (profile : ScriptProfile) (text : List ℕ) (kind : ScriptErrorKind) (at : List ℕ) → BodyTurnFails profile text kind at → body_turn profile text ≡ refuse kind at
body_turn_fails profile text kind at (faults.comment at' u) = turn_unclosed profile text at u
body_turn_fails profile text kind at (faults.comment_behind after at' s u) =
    turn_is profile text (brace_word ++ after) (refuse Syntax at) s (bind_err (skip after) (λ after. Ok (None, after)) (record { left = length at; kind = Syntax }) (skip_fails after at u))
body_turn_fails profile text kind at (faults.entry here at' kind' s unended no_global no_local f) =
    turn_is profile text here (refuse kind at) s
    (entry_here profile here unended no_global no_local ∙ bind_err (entry_at profile here) as_item (record { left = length at; kind = kind }) ((entry_judged profile here).faults kind at f))

abbrev IsTurn : ScriptProfile → List Item → List ℕ → Option Item × List ℕ → Type 0
IsTurn profile front text t = BodyTurn profile front text t.0 t.1

close_either : (profile : ScriptProfile) (front : List Item) (text after : List ℕ) → Skipped text (brace_word ++ after) → Either (IsTurn profile front text) (BodyTurnFails profile text)
close_either profile front text after s = elim (skip_or_not after) as (λ _. Either (IsTurn profile front text) (BodyTurnFails profile text)) [
  | inl b ↦ inl ((None, b.0), (after, s, b.1))
  | inr u ↦ inr (Syntax, u.0, faults.comment_behind after u.0 s u.1)
]

entry_either : (profile : ScriptProfile) (front : List Item) (text here : List ℕ) → Skipped text here → NotHere brace_word here → NotHere global_word here → NotHere local_word here → Either (IsTurn profile front text) (BodyTurnFails profile text)
entry_either profile front text here s unended no_global no_local = elim ((entry_judged profile here).either) as (λ _. Either (IsTurn profile front text) (BodyTurnFails profile text)) [
  | inl e ↦ inl ((Some (items.Entry e.0.0), e.0.1), (here, s, unended, no_global, no_local, e.1))
  | inr f ↦ inr (f.0, f.1, faults.entry here f.1 f.0 s unended no_global no_local f.2)
]

here_either : (profile : ScriptProfile) (front : List Item) (text here : List ℕ) → Skipped text here → Either (IsTurn profile front text) (BodyTurnFails profile text)
here_either profile front text here s = elim (word_or_not brace_word here) as (λ _. Either (IsTurn profile front text) (BodyTurnFails profile text)) [
  | inl ends ↦ close_either profile front text ends.0 (subst (λ (t : List ℕ). Skipped text t) ends.1 s)
  | inr unended ↦ elim (word_or_not global_word here) as (λ _. Either (IsTurn profile front text) (BodyTurnFails profile text)) [
    | inl head ↦ inl ((Some (items.Side Global), head.0), subst (λ (t : List ℕ). Skipped text t) head.1 s)
    | inr no_global ↦ elim (word_or_not local_word here) as (λ _. Either (IsTurn profile front text) (BodyTurnFails profile text)) [
      | inl head ↦ inl ((Some (items.Side Local), head.0), subst (λ (t : List ℕ). Skipped text t) head.1 s)
      | inr no_local ↦ entry_either profile front text here s unended no_global no_local
    ]
  ]
]

turn_either : (profile : ScriptProfile) (front : List Item) (text : List ℕ) → Either (IsTurn profile front text) (BodyTurnFails profile text)
turn_either profile front text = elim (skip_or_not text) as (λ _. Either (IsTurn profile front text) (BodyTurnFails profile text)) [
  | inl s ↦ here_either profile front text s.0 s.1
  | inr u ↦ inr (Syntax, u.0, faults.comment u.0 u.1)
]

body_turn_shortens : (profile : ScriptProfile) (front : List Item) (text : List ℕ) (i : Item) (after : List ℕ) → BodyTurn profile front text (Some i) after → length after < length text
body_turn_shortens profile front text (items.Side Global) after t = let s = skipped_shorter text (global_word ++ after) t in omega arith
body_turn_shortens profile front text (items.Side Local) after t = let s = skipped_shorter text (local_word ++ after) t in omega arith
body_turn_shortens profile front text (items.Entry e) after t = let s = skipped_shorter text t.0 t.1 in let k = entry_shorter profile t.0 e after t.5 in omega arith

body_turn_judged : (profile : ScriptProfile) → TurnJudged (alone (body_turn profile)) (BodyTurn profile) (λ front. BodyTurnFails profile)
body_turn_judged profile = record {
  judged = λ front text. record {
    values = λ t said. body_turn_only profile front text t.0 t.1 said;
    faults = body_turn_fails profile text;
    either = turn_either profile front text;
  };
  shortens = body_turn_shortens profile;
}

body_turn_ends : (profile : ScriptProfile) (front : List Item) (text after : List ℕ) → BodyTurn profile front text None after → length after ≤ length text
body_turn_ends profile front text after t = let s = skipped_shorter text (brace_word ++ t.0) t.1 in let k = skipped_shorter t.0 after t.2 in omega arith

-- ---- a body

pub body_shorter : (profile : ScriptProfile) (text : List ℕ) (body : RawVersionBody) (rest : List ℕ) → IsBody profile text body rest → length rest < length text
body_shorter profile text body rest b =
    let w : length text ≡ length (open_word ++ b.0) = ap length b.2 in
    let r = repeats_shorter (alone (body_turn profile)) (BodyTurn profile) (λ front. BodyTurnFails profile) (body_turn_judged profile) (body_turn_ends profile) b.1 [] b.0 rest b.3 in
    omega arith

abbrev AreItems : ScriptProfile → List ℕ → List Item × List ℕ → Type 0
AreItems profile inside t = Repeats (BodyTurn profile) [] t.0 inside t.1

abbrev SomeItemFails : ScriptProfile → List ℕ → ScriptErrorKind → List ℕ → Type 0
SomeItemFails profile inside kind at = (its : List Item) × RepeatFails (BodyTurn profile) (λ front. BodyTurnFails profile) [] its inside kind at

items_judged : (profile : ScriptProfile) (inside : List ℕ) → Judges (many (body_turn profile) inside) (AreItems profile inside) (SomeItemFails profile inside)
items_judged profile inside = repeats_judged (alone (body_turn profile)) (BodyTurn profile) (λ front. BodyTurnFails profile) (body_turn_judged profile) inside

abbrev sorted : List Item × List ℕ → Result (RawVersionBody × List ℕ) Fault
sorted pieces = Ok (body_of pieces.0, pieces.1)

inside_is : (profile : ScriptProfile) (text inside : List ℕ) → text ≡ open_word ++ inside → body_at profile text ≡ (many (body_turn profile) inside >>= sorted)
unfolding body_at pieces_at
inside_is profile text inside is = or_else_some (strips open_word text) (λ rest. pieces_at profile rest) (refuse Syntax text) inside (strips_is open_word text inside is)

body_only : (profile : ScriptProfile) (text : List ℕ) (body : RawVersionBody) (rest : List ℕ) → IsBody profile text body rest → body_at profile text ≡ Ok (body, rest)
body_only profile text body rest b =
    inside_is profile text b.0 b.2
    ∙ bind_is (many (body_turn profile) b.0) sorted (b.1, rest) (Ok (body, rest)) ((items_judged profile b.0).values (b.1, rest) b.3) (ap (λ (x : RawVersionBody). Ok (x, rest)) (sym b.4))

body_fails : (profile : ScriptProfile) (text : List ℕ) (kind : ScriptErrorKind) (at : List ℕ) → BodyFails profile text kind at → body_at profile text ≡ refuse kind at
unfolding body_at
body_fails profile text kind at (faults.no_brace bare) = or_else_none (strips open_word text) (λ rest. pieces_at profile rest) (refuse Syntax text) (strips_none open_word text bare)
body_fails profile text kind at (faults.inside inside at' kind' its is f) = inside_is profile text inside is ∙ bind_err (many (body_turn profile) inside) sorted (record { left = length at; kind = kind }) ((items_judged profile inside).faults kind at (its, f))

abbrev IsBodyHere : ScriptProfile → List ℕ → RawVersionBody × List ℕ → Type 0
IsBodyHere profile text x = IsBody profile text x.0 x.1

inside_either : (profile : ScriptProfile) (text inside : List ℕ) → text ≡ open_word ++ inside → Either (IsBodyHere profile text) (BodyFails profile text)
inside_either profile text inside is = elim ((items_judged profile inside).either) as (λ _. Either (IsBodyHere profile text) (BodyFails profile text)) [
  | inl t ↦ inl ((body_of t.0.0, t.0.1), (inside, t.0.0, is, t.1, refl))
  | inr f ↦ inr (f.0, f.1, faults.inside inside f.1 f.0 f.2.0 is f.2.1)
]

body_either : (profile : ScriptProfile) (text : List ℕ) → Either (IsBodyHere profile text) (BodyFails profile text)
body_either profile text = elim (word_or_not open_word text) as (λ _. Either (IsBodyHere profile text) (BodyFails profile text)) [
  | inl o ↦ inside_either profile text o.0 o.1
  | inr bare ↦ inr (Syntax, text, faults.no_brace bare)
]

pub body_judged : (profile : ScriptProfile) (text : List ℕ) → Judges (body_at profile text) (λ x. IsBody profile text x.0 x.1) (BodyFails profile text)
body_judged profile text = record {
  values = λ x b. body_only profile text x.0 x.1 b;
  faults = body_fails profile text;
  either = body_either profile text;
}
