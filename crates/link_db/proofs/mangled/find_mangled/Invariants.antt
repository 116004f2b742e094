use Rattle.std.proofs.Common.{◌≡◌, drop}
use Rattle.link_db_files.specs.HeldFiles.{names_in}
use Rattle.link_rules.specs.Places.{first_of, places_from}
use Rattle.link_db.specs.Mangled.{stands_for}
use Rattle.link_db.proofs.mangled.find_mangled.Given as goal

abbrev pub invariant-loop-number : goal.invariant-loop-number
invariant-loop-number g l =
    first_of (places_from (stands_for (g.D.Demangler.demangled l.demangler) l.target) l.number (drop l.number (names_in l.files)))
    ≡ first_of (places_from (stands_for (g.D.Demangler.demangled l.demangler) l.target) 1 (drop 1 (names_in l.files)))
