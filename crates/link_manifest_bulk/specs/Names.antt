-- The names of a made-up link.
use Rattle.std.specs.Prelude.{ℕ, ◌%◌, List, ◌++◌, codes, decimal}

-- the name of the file that asks for the first member
abbrev pub main_file : List ℕ
main_file = codes "main.o"

-- the name of the file of member i
abbrev pub member_file : ℕ → List ℕ
member_file i = codes "m" ++ decimal i ++ codes ".o"

-- the name that member i alone defines
abbrev pub own_name : ℕ → List ℕ
own_name i = codes "s" ++ decimal i

-- the name that member i defines as every third member does
abbrev pub shared_name : ℕ → List ℕ
shared_name i = codes "c" ++ decimal (i % 3)
