-- Pieces of a stream, one after another.
use Rattle.std.proofs.Common.{◌≡◌, ℕ, ◌+◌, ◌<◌, ◌≤◌, List, [], ◌++◌, length, Option, Some, None, IfSome, Result, Ok, Err, OnErr, arith, inl, inr, refl}
use Rattle.std.proofs.lemmas.Grind.{common_steps}
use Rattle.link_program_streams.specs.Streams.{Gives, GivesAtMost, GivesCount, IsCalledAtMost, Rose, Takes}

-- handing over nothing changes nothing
pub gives-nothing : (a : Option (List ℕ)) → Gives a a []
gives-nothing None = tt
gives-nothing (Some all) = refl

-- two pieces handed over one after the other are one piece
pub gives-more : (a b c : Option (List ℕ)) (xs ys : List ℕ) → Gives a b xs → Gives b c ys → Gives a c (xs ++ ys)
gives-more None None None xs ys first second = tt
gives-more None None (Some c) xs ys first second = second
gives-more None (Some b) c xs ys first second = absurd first
gives-more (Some a) None c xs ys first second = absurd first
gives-more (Some a) (Some b) None xs ys first second = second
gives-more (Some a) (Some b) (Some c) xs ys first second = rw (first, second) (grind (arith, common_steps))

-- so are two short pieces
pub gives-at_most : (a b c : Option (List ℕ)) (xs ys : List ℕ) (most : ℕ) → Gives a b xs → Gives b c ys → length xs + length ys ≤ most → GivesAtMost a c most
gives-at_most a b c xs ys most first second short =
    let both : length (xs ++ ys) ≤ most = grind (arith, common_steps) in
    (xs ++ ys, both, gives-more a b c xs ys first second)

-- how many bytes two pieces are
pub gives-count : (a b c : Option (List ℕ)) (xs ys : List ℕ) (count : ℕ) → Gives a b xs → Gives b c ys → length xs + length ys ≡ count → GivesCount a c count
gives-count a b c xs ys count first second sum =
    let both : length (xs ++ ys) ≡ count = grind (arith, common_steps) in
    (xs ++ ys, both, gives-more a b c xs ys first second)

-- handing over nothing hands over no more than so many
pub gives-at_most_nothing : (a b : Option (List ℕ)) (most : ℕ) → b ≡ a → GivesAtMost a b most
gives-at_most_nothing a b most same = rw same ([], omega arith, gives-nothing a)

-- a source that gave more than the limit in two pieces had more than the limit
pub too_long : (a b c : Option (List ℕ)) (xs ys : List ℕ) (limit : ℕ) → Gives a b xs → Gives b c ys → limit < length xs + length ys
    → IfSome a (λ all. limit < length all)
too_long None b c xs ys limit first second over = tt
too_long (Some a) None c xs ys limit first second over = absurd first
too_long (Some a) (Some b) None xs ys limit first second over = absurd second
too_long (Some a) (Some b) (Some c) xs ys limit first second over = rw (first, second) (grind (arith, common_steps))

-- taking nothing changes nothing
pub takes-nothing : (a : Option (List ℕ)) → Takes a a []
takes-nothing None = tt
takes-nothing (Some all) = grind (arith, common_steps)

-- two pieces taken one after the other are one piece
pub takes-more : (a b c : Option (List ℕ)) (xs ys : List ℕ) → Takes a b xs → Takes b c ys → Takes a c (xs ++ ys)
takes-more None None None xs ys first second = tt
takes-more None None (Some c) xs ys first second = second
takes-more None (Some b) c xs ys first second = absurd first
takes-more (Some a) None c xs ys first second = absurd first
takes-more (Some a) (Some b) None xs ys first second = second
takes-more (Some a) (Some b) (Some c) xs ys first second = rw (second, first) (grind (arith, common_steps))

-- a count that rose behind a part in which it didn't fall rose
pub rose-behind : (a b c : ℕ) → a ≤ b → Rose b c → Rose a c
rose-behind a b c no_less (inl rose) = inl (omega (arith, no_less, rose))
rose-behind a b c no_less (inr most) = inr most

-- where no call comes, no more than so many come
pub called-none : (a : Option ℕ) (most : ℕ) → IsCalledAtMost a a most
called-none None most = tt
called-none (Some calls) most = omega arith

-- a fact that holds anyway holds on an error
pub on_err : {T E P : Type 0} (r : Result T E) → P → OnErr r P
on_err (Ok value) fact = tt
on_err (Err error) fact = fact
