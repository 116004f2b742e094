-- A link that is answered ends with one selection, and what is kept of it is of that.
use Rattle.std.proofs.Common.{◌≡◌, ◌∙◌, ℕ, List, [], ◌∷◌, map, ap, refl, subst, sym}
use Rattle.std.specs.Prelude.{Ok}
use Rattle.link_core.specs.Results.{HasParts}
use Rattle.link_core.specs.Steps.{IsKept}
use Rattle.link_core_answer.specs.Parts.{Parts, answer_of}
use Rattle.link_flags.specs.declared.value_flags.ValueFlags.{ValueFlags}
use Rattle.link_rules.specs.Answer.{BatchesEnd, IsLinked, linked_from}
use Rattle.link_rules.specs.FinalFlags.{final_flags}
use Rattle.link_rules.specs.Linked.{Linked as Answer}
use Rattle.link_rules.specs.Loading.{root_symbols}
use Rattle.link_rules.specs.Selection.{Selection}
use Rattle.link_rules.specs.Undefined.{resolved}
use Rattle.link_rules.specs.World.{World}
use Rattle.link_rules.proofs.WorldOnce.{one-last}
use Rattle.link_gc.specs.Numbering.{IsOf}

-- flags with this number
abbrev flags_of : ℕ → ValueFlags
flags_of n = record { 0 = n }

-- flags have their numbers
numbers-back : (ns : List ℕ) → map (λ (f : ValueFlags). f.0) (map flags_of ns) ≡ ns
numbers-back [] = refl
numbers-back (n ∷ ns) = ap (λ (l : List ℕ). n ∷ l) (numbers-back ns)

-- equal flags have equal numbers
same-numbers : (a b : List ℕ) → map flags_of a ≡ map flags_of b → a ≡ b
same-numbers a b same = sym (numbers-back a) ∙ (ap (map (λ (f : ValueFlags). f.0)) same ∙ numbers-back b)

-- what is kept of a link of the world is of each selection with which its batches end
pub of-world : {P : Type 0} (w : World) (x : Parts P) → IsLinked w (answer_of x) → HasParts w x → (l : Selection) → BatchesEnd w (Ok l) → IsOf l x
of-world w x linked (k, selects, kept, roots) l ends =
    let same : k ≡ l = one-last w k l selects.ends ends in
    let last : linked.last ≡ l = one-last w linked.last l linked.ends ends in
    let is : answer_of x ≡ linked_from (resolved l) = linked.is ∙ ap (λ (y : Selection). linked_from (resolved y)) last in
    record {
      kept = subst (λ (y : Selection). IsKept y x.db x.known x.groups) same kept;
      names = ap (λ (a : Answer). a.names) is;
      table = ap (λ (a : Answer). a.table) is;
      flags = same-numbers x.flags (final_flags (resolved l)) (ap (λ (a : Answer). a.flags) is);
      roots = roots ∙ ap (λ (y : Selection). root_symbols y.stage) same;
    }
