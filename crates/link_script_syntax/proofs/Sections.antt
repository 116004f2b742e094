-- Entries that are sorted by section as they are read.
use Rattle.std.proofs.Common.{Result, ◌≡◌, ℕ, Bool, true, false, cond, List, [], ◌∷◌, ◌++◌, Some, None, Ok, refl, sym, ap, ◌∙◌, length, subst, ◌<◌}
use Rattle.std.proofs.lemmas.List.{append-nil}
use Rattle.link_script_syntax.specs.declared.body.Side.{Side}
use Rattle.link_script_syntax.specs.declared.body.Side.TheVariants.{Global, Local}
use Rattle.link_script_syntax.specs.declared.matcher.ParsedSymbolMatcher.{ParsedSymbolMatcher}
use Rattle.link_script_syntax.specs.declared.fault.ReadError.{ReadError}
use Rattle.link_script_syntax.specs.declared.fault.ReadError.TheVariants as errors
use Rattle.link_script_syntax.specs.declared.fault.Fault.{Fault}
use Rattle.link_script_syntax.specs.declared.body.Item.{Item}
use Rattle.link_script_syntax.specs.declared.body.Item.TheVariants.{Entry}
use Rattle.link_script_syntax.specs.declared.body.Item.TheVariants as items
use Rattle.link_script_syntax.specs.declared.profile.ScriptProfile.{ScriptProfile}
use Rattle.link_script_syntax.specs.Fault.{Fails}
use Rattle.link_script_syntax.specs.Many.{alone, grow, many}
use Rattle.link_script_syntax.specs.Body.{same_side, entries_of, last_side, body_turn, pieces_at}
use Rattle.link_script_syntax.proofs.Repeat.{grow_step, grow_fails, grow_ends}

-- the pieces that were read, which are not kept
pub record SortedBy (profile : ScriptProfile) (pieces : List Item) (globals locals : List ParsedSymbolMatcher) (now : Side) (rest text : List ℕ) : Type 0 where
  pub reads : grow (alone (body_turn profile)) pieces rest ≡ many (body_turn profile) text
  pub globals_are : globals ≡ entries_of Global Global pieces
  pub locals_are : locals ≡ entries_of Local Global pieces
  pub now_is : now ≡ last_side Global pieces

abbrev pub Sorted : ScriptProfile → List ParsedSymbolMatcher → List ParsedSymbolMatcher → Side → List ℕ → List ℕ → Type 0
Sorted profile globals locals now rest text = (pieces : List Item) × SortedBy profile pieces globals locals now rest text

entries_side : (want now s : Side) (pieces : List Item) → entries_of want now (pieces ++ items.Side s ∷ []) ≡ entries_of want now pieces
entries_side want now s [] = refl
entries_side want now s (items.Side t ∷ pieces) = entries_side want t s pieces
entries_side want now s (Entry e ∷ pieces) = rw (entries_side want now s pieces) refl

more_on : (b : Bool) (d : ParsedSymbolMatcher) (xs ys zs : List ParsedSymbolMatcher) → xs ≡ ys ++ zs → cond b (d ∷ xs) xs ≡ cond b (d ∷ ys) ys ++ zs
more_on true d xs ys zs e = ap (λ (x : List ParsedSymbolMatcher). d ∷ x) e
more_on false d xs ys zs e = e

entries_more : (want now : Side) (e : ParsedSymbolMatcher) (pieces : List Item) → entries_of want now (pieces ++ Entry e ∷ []) ≡ entries_of want now pieces ++ entries_of want (last_side now pieces) (Entry e ∷ [])
entries_more want now e [] = refl
entries_more want now e (items.Side t ∷ pieces) = entries_more want t e pieces
entries_more want now e (Entry d ∷ pieces) = more_on (same_side want now) d (entries_of want now (pieces ++ Entry e ∷ [])) (entries_of want now pieces) (entries_of want (last_side now pieces) (Entry e ∷ [])) (entries_more want now e pieces)

last_with_side : (now s : Side) (pieces : List Item) → last_side now (pieces ++ items.Side s ∷ []) ≡ s
last_with_side now s [] = refl
last_with_side now s (items.Side t ∷ pieces) = last_with_side t s pieces
last_with_side now s (Entry e ∷ pieces) = last_with_side now s pieces

last_with_entry : (now : Side) (e : ParsedSymbolMatcher) (pieces : List Item) → last_side now (pieces ++ Entry e ∷ []) ≡ last_side now pieces
last_with_entry now e [] = refl
last_with_entry now e (items.Side t ∷ pieces) = last_with_entry t e pieces
last_with_entry now e (Entry d ∷ pieces) = last_with_entry now e pieces

pub sorted_side : (profile : ScriptProfile) (globals locals : List ParsedSymbolMatcher) (now s : Side) (rest after text : List ℕ) → body_turn profile rest ≡ Ok (Some (items.Side s), after) → length after < length rest → Sorted profile globals locals now rest text → Sorted profile globals locals s after text
sorted_side profile globals locals now s rest after text is lt so_far =
    let k = so_far.1 in (
      so_far.0 ++ items.Side s ∷ [],
      record {
        reads = sym (grow_step (alone (body_turn profile)) so_far.0 rest after (items.Side s) is lt) ∙ k.reads;
        globals_are = k.globals_are ∙ sym (entries_side Global Global s so_far.0);
        locals_are = k.locals_are ∙ sym (entries_side Local Global s so_far.0);
        now_is = sym (last_with_side Global s so_far.0);
      },
    )

pub sorted_global : (profile : ScriptProfile) (globals locals more : List ParsedSymbolMatcher) (e : ParsedSymbolMatcher) (rest after text : List ℕ) → body_turn profile rest ≡ Ok (Some (Entry e), after) → length after < length rest → more ≡ globals ++ e ∷ [] → Sorted profile globals locals Global rest text → Sorted profile more locals Global after text
sorted_global profile globals locals more e rest after text is lt are so_far =
    let k = so_far.1 in
    let g = entries_more Global Global e so_far.0 in
    let l = entries_more Local Global e so_far.0 in (
      so_far.0 ++ Entry e ∷ [],
      record {
        reads = sym (grow_step (alone (body_turn profile)) so_far.0 rest after (Entry e) is lt) ∙ k.reads;
        globals_are = are ∙ ap (λ (xs : List ParsedSymbolMatcher). xs ++ e ∷ []) k.globals_are ∙ sym (rw (← k.now_is) at g);
        locals_are = k.locals_are ∙ sym (append-nil (entries_of Local Global so_far.0)) ∙ sym (rw (← k.now_is) at l);
        now_is = k.now_is ∙ sym (last_with_entry Global e so_far.0);
      },
    )

pub sorted_local : (profile : ScriptProfile) (globals locals more : List ParsedSymbolMatcher) (e : ParsedSymbolMatcher) (rest after text : List ℕ) → body_turn profile rest ≡ Ok (Some (Entry e), after) → length after < length rest → more ≡ locals ++ e ∷ [] → Sorted profile globals locals Local rest text → Sorted profile globals more Local after text
sorted_local profile globals locals more e rest after text is lt are so_far =
    let k = so_far.1 in
    let g = entries_more Global Global e so_far.0 in
    let l = entries_more Local Global e so_far.0 in (
      so_far.0 ++ Entry e ∷ [],
      record {
        reads = sym (grow_step (alone (body_turn profile)) so_far.0 rest after (Entry e) is lt) ∙ k.reads;
        globals_are = k.globals_are ∙ sym (append-nil (entries_of Global Global so_far.0)) ∙ sym (rw (← k.now_is) at g);
        locals_are = are ∙ ap (λ (xs : List ParsedSymbolMatcher). xs ++ e ∷ []) k.locals_are ∙ sym (rw (← k.now_is) at l);
        now_is = k.now_is ∙ sym (last_with_entry Global e so_far.0);
      },
    )

pieces_fail : (profile : ScriptProfile) (e : ReadError) (text : List ℕ) → Fails e (many (body_turn profile) text) → Fails e (pieces_at profile text)
unfolding pieces_at
pieces_fail profile errors.Memory text f = tt
pieces_fail profile (errors.Fault k) text f = rw f refl

pub sorted_fails : (profile : ScriptProfile) (e : ReadError) (globals locals : List ParsedSymbolMatcher) (now : Side) (rest text : List ℕ) → Fails e (body_turn profile rest) → Sorted profile globals locals now rest text → Fails e (pieces_at profile text)
sorted_fails profile e globals locals now rest text is so_far = pieces_fail profile e text (subst (λ (r : Result (List Item × List ℕ) Fault). Fails e r) so_far.1.reads (grow_fails (alone (body_turn profile)) e so_far.0 rest is))

pub sorted_ends : (profile : ScriptProfile) (globals locals : List ParsedSymbolMatcher) (now : Side) (rest after text : List ℕ) → body_turn profile rest ≡ Ok (None, after) → Sorted profile globals locals now rest text → pieces_at profile text ≡ Ok (record { globals = globals; locals = locals }, after)
unfolding pieces_at
sorted_ends profile globals locals now rest after text is so_far =
    let k = so_far.1 in
    let e : many (body_turn profile) text ≡ Ok (so_far.0, after) = sym k.reads ∙ grow_ends (alone (body_turn profile)) so_far.0 rest after is in
    rw (e, k.globals_are, k.locals_are) refl
