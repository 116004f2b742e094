-- The last reference to each name and version, and the new symbols that are made for names.
use Rattle.std.proofs.Common.{◌≡◌, ◌+◌, ◌<◌, ◌++◌, ◌∙◌, ◌&&◌, ℕ, List, [], ◌∷◌, Bool, true, false, Option, Some, None, cond, if◌then◌else◌, is_none, length, map, filter, option_map, slice_get, get_or, drop, reverse, append_assoc, refl, sym, ap}
use Rattle.std.specs.List.{last_or, position_from, cons_option}
use Rattle.std.specs.Option.{option_or}
use mathlib.Core.List.{reverse_aux}
use Rattle.std.proofs.lemmas.Option.{slice_get_read}
use Rattle.link_input_groups.proofs.FileTotals.{drop-at}
use Rattle.link_input.specs.Symbols.{Symbol}
use Rattle.link_rules.specs.Places.{Bytes, last_of, is_number}
use Rattle.link_rules.specs.Undefined.{Numbered, asks_same, boundary_makers, is_boundary_maker, last_alike}
use Rattle.link_rules.specs.World.{Stage}
use Rattle.link_resolve_undefined.specs.declared.asked_name.AskedName.{AskedName}
use Rattle.link_resolve_undefined.specs.declared.name_ids.NameIds.{NameIds}
use Rattle.link_resolve_undefined.specs.Boundaries.{is_mark_of, makers_by, makes_new}
use Rattle.link_resolve_undefined.specs.Keys.{Asks, same_name, version_of}
use Rattle.link_resolve_undefined.specs.NameIds.{Answers}
use Rattle.link_resolve_undefined.specs.Records.{numbered_at}

-- the ids of those that ask for what the symbol does
abbrev pub ids_asking : List Numbered → Symbol → List ℕ
ids_asking us x = map (λ (u : Numbered). u.0) (filter (λ (u : Numbered). asks_same u.1 x) us)

-- the first of these ids, with its symbol
pub numbered-first : (symbols : List Symbol) (s : ℕ) (ids : List ℕ) (y : Symbol) → slice_get symbols s ≡ Some y → numbered_at symbols (s ∷ ids) ≡ (s, y) ∷ numbered_at symbols ids
numbered-first symbols s ids y at = (λ i. cons_option (option_map (λ x. (s, x)) (at i)) (numbered_at symbols ids))

-- what a name asks for is what its symbol does
pub same-asks : (asked : AskedName) (y x : Symbol) → Asks asked y → same_name asked.name.now (version_of asked) x.name x.version ≡ asks_same y x
same-asks asked y x asks = (λ i. same_name (asks.name i) (asks.version i) x.name x.version)

last-if : (old : Option ℕ) (s : ℕ) (u : Numbered) (us : List Numbered) (b : Bool) → u.0 ≡ s
    → last_or old (map (λ (v : Numbered). v.0) (cond b (u ∷ us) us)) ≡ last_or (if b then Some s else old) (map (λ (v : Numbered). v.0) us)
last-if old s u us true is = ap (λ n. last_or (Some n) (map (λ (v : Numbered). v.0) us)) is
last-if old s u us false is = refl

-- one more reference is the last that asks for what it does
pub last-step : (symbols : List Symbol) (asked : AskedName) (s : ℕ) (ids : List ℕ) (y x : Symbol) (old new : Option ℕ) → slice_get symbols s ≡ Some y → Asks asked y
    → new ≡ (if same_name asked.name.now (version_of asked) x.name x.version then Some s else old)
    → last_or old (ids_asking (numbered_at symbols (s ∷ ids)) x) ≡ last_or new (ids_asking (numbered_at symbols ids) x)
last-step symbols asked s ids y x old new at asks is =
    ap (λ (us : List Numbered). last_or old (ids_asking us x)) (numbered-first symbols s ids y at)
    ∙ (last-if old s (s, y) (filter (λ (u : Numbered). asks_same u.1 x) (numbered_at symbols ids)) (asks_same y x) refl
    ∙ ((λ i. last_or (if (sym (same-asks asked y x asks) i) then Some s else old) (ids_asking (numbered_at symbols ids) x))
    ∙ ap (λ (o : Option ℕ). last_or o (ids_asking (numbered_at symbols ids) x)) (sym is)))

last-behind : (u : Numbered) (us : List Numbered) → last_or (Some u.0) (map (λ (v : Numbered). v.0) us) ≡ option_map (λ (v : Numbered). v.0) (last_of (u ∷ us))
last-behind u [] = refl
last-behind u (v ∷ us) = last-behind v us

last-all : (us : List Numbered) → last_or None (map (λ (v : Numbered). v.0) us) ≡ option_map (λ (v : Numbered). v.0) (last_of us)
last-all [] = refl
last-all (u ∷ us) = last-behind u us

-- the last of all that ask for what the symbol does
pub last-asking : (us : List Numbered) (x : Symbol) → last_or None (ids_asking us x) ≡ last_alike us x
last-asking us x = last-all (filter (λ (u : Numbered). asks_same u.1 x) us)

-- the next of some ids, and those behind it
pub drop-next : (ids : List ℕ) (i s : ℕ) → i < length ids → s ≡ get_or ids i s → drop i ids ≡ s ∷ drop (i + 1) ids
drop-next ids i s below is = drop-at ids i s (slice_get_read ids (length ids) i s refl below is)

-- a new symbol is made for a reference where it is the last to a mark
pub makes-same : (sections : List Bytes) (last : NameIds) (asked : AskedName) (s : ℕ) (y : Symbol) → Asks asked y
    → makes_new sections last asked.name.now (version_of asked) s ≡ makes_new sections last y.name y.version s
makes-same sections last asked s y asks = (λ i. makes_new sections last (asks.name i) (asks.version i) s)

-- the last references to names are those of the stage
pub made-by : (w : Stage) (records : List Numbered) (last : NameIds) → Answers last (last_alike records) → (s : ℕ) (x : Symbol)
    → makes_new w.options.custom_sections last x.name x.version s ≡ is_boundary_maker w records (s, x)
made-by w records last answers s x = (λ i. is_none x.version && is_mark_of w.options.custom_sections x.name && is_number (answers x i) s)

-- new symbols are made for the last references to marks
pub makers-same : (w : Stage) (records : List Numbered) (last : NameIds) → Answers last (last_alike records) → makers_by w.options.custom_sections last records ≡ boundary_makers w records
makers-same w records last answers =
    (λ i. reverse (filter (λ (u : Numbered). is_none u.1.version && is_mark_of w.options.custom_sections u.1.name && is_number (answers u.1 i) u.0) records))

kept-if : (items : List ℕ) (s : ℕ) (u : Numbered) (us : List Numbered) (b : Bool) → u.0 ≡ s
    → (if b then items ++ s ∷ [] else items) ++ map (λ (v : Numbered). v.0) us ≡ items ++ map (λ (v : Numbered). v.0) (cond b (u ∷ us) us)
kept-if items s u us true is = append_assoc items (s ∷ []) (map (λ (v : Numbered). v.0) us) ∙ ap (λ n. items ++ n ∷ map (λ (v : Numbered). v.0) us) (sym is)
kept-if items s u us false is = refl

-- one more reference is kept where it passes the test
pub keep-step : (p : Numbered → Bool) (symbols : List Symbol) (items new : List ℕ) (s : ℕ) (ids : List ℕ) (y : Symbol) (b : Bool) → slice_get symbols s ≡ Some y → b ≡ p (s, y)
    → new ≡ (if b then items ++ s ∷ [] else items)
    → new ++ map (λ (u : Numbered). u.0) (filter p (numbered_at symbols ids)) ≡ items ++ map (λ (u : Numbered). u.0) (filter p (numbered_at symbols (s ∷ ids)))
keep-step p symbols items new s ids y b at same is =
    ap (λ (l : List ℕ). l ++ map (λ (u : Numbered). u.0) (filter p (numbered_at symbols ids))) is
    ∙ (kept-if items s (s, y) (filter p (numbered_at symbols ids)) b refl
    ∙ ((λ i. items ++ map (λ (u : Numbered). u.0) (cond (same i) ((s, y) ∷ filter p (numbered_at symbols ids)) (filter p (numbered_at symbols ids))))
    ∙ ap (λ (us : List Numbered). items ++ map (λ (u : Numbered). u.0) (filter p us)) (sym (numbered-first symbols s ids y at))))

placed-if : (old rest : Option ℕ) (n : ℕ) (b : Bool) → option_or (option_or old (if b then Some n else None)) rest ≡ option_or old (if b then Some n else rest)
placed-if None rest n true = refl
placed-if None rest n false = refl
placed-if (Some t) rest n b = refl

map-if : (f : ℕ → ℕ) (i : ℕ) (rest : Option ℕ) (b : Bool) → (if b then Some (f i) else option_map f rest) ≡ option_map f (cond b (Some i) rest)
map-if f i rest true = refl
map-if f i rest false = refl

-- one more maker has the next new symbol, where none before it asks for the same
pub place-step : (symbols : List Symbol) (asked : AskedName) (first i s : ℕ) (ids : List ℕ) (y x : Symbol) (old new : Option ℕ) → slice_get symbols s ≡ Some y → Asks asked y
    → new ≡ option_or old (if same_name asked.name.now (version_of asked) x.name x.version then Some (first + i) else None)
    → option_or new (option_map (λ k. first + k) (position_from (λ (m : Numbered). asks_same m.1 x) (i + 1) (numbered_at symbols ids)))
    ≡ option_or old (option_map (λ k. first + k) (position_from (λ (m : Numbered). asks_same m.1 x) i (numbered_at symbols (s ∷ ids))))
place-step symbols asked first i s ids y x old new at asks is =
    let rest = position_from (λ (m : Numbered). asks_same m.1 x) (i + 1) (numbered_at symbols ids) in
    (λ j. option_or (is j) (option_map (λ k. first + k) rest))
    ∙ (placed-if old (option_map (λ k. first + k) rest) (first + i) (same_name asked.name.now (version_of asked) x.name x.version)
    ∙ ((λ j. option_or old (if same-asks asked y x asks j then Some (first + i) else option_map (λ k. first + k) rest))
    ∙ (ap (option_or old) (map-if (λ k. first + k) i rest (asks_same y x))
    ∙ ap (λ (us : List Numbered). option_or old (option_map (λ k. first + k) (position_from (λ (m : Numbered). asks_same m.1 x) i us))) (sym (numbered-first symbols s ids y at)))))

-- the ids of symbols in reverse
pub reverse-ids : (us : List Numbered) → reverse (map (λ (u : Numbered). u.0) us) ≡ map (λ (u : Numbered). u.0) (reverse us)
reverse-ids us = reversed us []
  where
    reversed : (us vs : List Numbered) → reverse_aux (map (λ (u : Numbered). u.0) us) (map (λ (u : Numbered). u.0) vs) ≡ map (λ (u : Numbered). u.0) (reverse_aux us vs)
    reversed [] vs = refl
    reversed (u ∷ us) vs = reversed us (u ∷ vs)

-- nothing more is known
pub or-none : (o : Option ℕ) → o ≡ option_or o None
or-none None = refl
or-none (Some t) = refl
