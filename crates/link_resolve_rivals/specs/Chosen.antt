-- Which symbol of each list of rivals counts, and why, by what each of them stands for.
use Rattle.std.specs.Prelude.{ℕ, List, Bool, map, length, filter_map, Option}
use Rattle.std.specs.List.{range_with_len}
use Rattle.link_rules.specs.declared.explanation.NameChoice.{NameChoice}
use Rattle.link_rules.specs.Choices.{choice_at, choice_case}
use Rattle.link_rules.specs.Rivals.{choice, stand_in}
use Rattle.link_rules.specs.Selection.{Selection}

-- the choice among the symbols of a list with this head, where they are several
abbrev pub choice_among : Selection → Bool → List ℕ → List ℕ → ℕ → NameChoice
choice_among l is_versioned own table head = record {
  symbols = own;
  is_versioned = is_versioned;
  chosen = choice l (map (stand_in l table) own) head;
  case = choice_case l (map (stand_in l table) own);
}

-- the choice of a list, if it begins with this symbol and has several
abbrev pub list_choice : Selection → Bool → List ℕ → List ℕ → ℕ → Option NameChoice
list_choice l is_versioned own table s = choice_at l is_versioned own (map (stand_in l table) own) s

-- the choices of all lists, in the order of their heads
abbrev pub choices : Selection → (ℕ → List ℕ) → List ℕ → Bool → List NameChoice
choices l listed table is_versioned = filter_map (λ s. list_choice l is_versioned (listed s) table s) (range_with_len 0 (length table))
