-- Room for the names among patterns.
use Rattle.std.proofs.Common.{◌≡◌, ◌≤◌, ◌+◌, ◌∙◌, ℕ, cond, List, [], ◌∷◌, ◌++◌, Option, Some, None, Result, Err, length, take, get_or, ◌<◌, sym, ap, subst, arith}
use Rattle.std.proofs.lemmas.List.{take_more}
use Rattle.std.specs.Prelude.{IsOk, IsTrue, vec_len, vec_capacity}
use Rattle.std.proofs.lemmas.List.Sums.{sum_by-append}
use Rattle.link_script_syntax.specs.declared.matcher.SymbolMatcher.{SymbolMatcher}
use Rattle.link_names.specs.Names.{Names, has_room}
use Rattle.link_script.specs.declared.rules.BasicMatchRules.{BasicMatchRules}
use Rattle.link_script.specs.declared.rules.Class.{Class}
use Rattle.link_script.specs.declared.rules.Class.TheVariants.{Nonstar, Star}
use Rattle.link_script.specs.Room.{is_of, count_of, exact_name, TakesName, HasNameRoom, HasRoom}

-- where room stays, it stays for a pattern's name
pub takes_on : (old new : Names) (name : Option (List ℕ)) → ((asked : List ℕ) → IsTrue (has_room old asked) → IsTrue (has_room new asked)) → TakesName old name → TakesName new name
takes_on old new None stays takes = tt
takes_on old new (Some n) stays takes = stays n takes

-- and for the names of several
pub room_stays : (ms : List SymbolMatcher) (old new : Names) → ((asked : List ℕ) → IsTrue (has_room old asked) → IsTrue (has_room new asked)) → HasNameRoom ms old → HasNameRoom ms new
room_stays [] old new stays room = tt
room_stays (m ∷ ms) old new stays room = (takes_on old new (exact_name m) stays room.0, room_stays ms old new stays room.1)

-- room for patterns and one more is room for them, and for it
pub room_parts : (ms : List SymbolMatcher) (m : SymbolMatcher) (names : Names) → HasNameRoom (ms ++ m ∷ []) names → HasNameRoom ms names × TakesName names (exact_name m)
room_parts [] m names room = (tt, room.0)
room_parts (x ∷ ms) m names room = let rest = room_parts ms m names room.1 in ((room.0, rest.0), rest.1)

-- room for patterns and for one more
pub room_more : (ms : List SymbolMatcher) (m : SymbolMatcher) (names : Names) → HasNameRoom ms names → TakesName names (exact_name m) → HasNameRoom (ms ++ m ∷ []) names
room_more [] m names room takes = (takes, tt)
room_more (x ∷ ms) m names room takes = (room.0, room_more ms m names room.1 takes)

-- how many patterns of a class they are, and one more
count_more : (class : Class) (ms : List SymbolMatcher) (m : SymbolMatcher) → count_of class (ms ++ m ∷ []) ≡ count_of class ms + count_of class (m ∷ [])
count_more class ms m = sum_by-append (λ (x : SymbolMatcher). cond (is_of class x) 1 0) ms (m ∷ [])

-- the rules keep room where names and globs do
pub keeps_room : (ms : List SymbolMatcher) (m : SymbolMatcher) (old new : BasicMatchRules) → HasRoom (ms ++ m ∷ []) old → ((asked : List ℕ) → IsTrue (has_room old.exact asked) → IsTrue (has_room new.exact asked))
    → vec_len new.nonstar_globs ≤ vec_len old.nonstar_globs + count_of Nonstar (m ∷ []) → vec_capacity old.nonstar_globs ≤ vec_capacity new.nonstar_globs
    → vec_len new.star_globs ≤ vec_len old.star_globs + count_of Star (m ∷ []) → vec_capacity old.star_globs ≤ vec_capacity new.star_globs → HasRoom ms new
keeps_room ms m old new room stays n nc s sc =
    let names = room_stays ms old.exact new.exact stays (room_parts ms m old.exact room.0).0 in
    let nonstars = rw (count_more Nonstar ms m) at room.1 in
    let stars = rw (count_more Star ms m) at room.2 in
    (names, omega arith, omega arith)

-- what can't be added had no room
pub no_room : {T E : Type 0} (r : Result T E) (e : E) (Q : Type 0) → r ≡ Err e → IsOk r → Q
no_room r e Q is ok = let k = rw is at ok in absurd cc

-- room was made for the next pattern's name
pub room_on : (ms : List SymbolMatcher) (i : ℕ) (m : SymbolMatcher) (old new : Names) → m ≡ get_or ms i m → i < length ms → HasNameRoom (take i ms) old
    → ((asked : List ℕ) → IsTrue (has_room old asked) → IsTrue (has_room new asked)) → TakesName new (exact_name m) → HasNameRoom (take (i + 1) ms) new
room_on ms i m old new at lt room stays takes =
    subst (λ (xs : List SymbolMatcher). HasNameRoom xs new) (sym (take_more ms i m lt ∙ ap (λ (x : SymbolMatcher). take i ms ++ x ∷ []) (sym at))) (room_more (take i ms) m new (room_stays (take i ms) old new stays room) takes)
