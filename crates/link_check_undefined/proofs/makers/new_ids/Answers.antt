use Rattle.std.proofs.Common.{◌+◌, ◌∙◌, ap, option_map, sym}
use Rattle.std.specs.List.{position_from}
use Rattle.std.specs.Option.{option_or}
use Rattle.std.proofs.lemmas.Iterator.Adapters.{position_from-zero}
use Rattle.link_rules.specs.Undefined.{Numbered, asks_same}
use Rattle.link_check_undefined.specs.Noted.{Noted, id_of}
use Rattle.link_check_undefined.proofs.makers.new_ids.Goals as goal

pub loop-place-init : goal.loop-place-init
loop-place-init c = λ x.
    let makers = c.args.makers.now in
    ap (λ (n : Noted). option_or (id_of n x) (option_map (λ i. c.args.first + i) (position_from (λ (m : Numbered). asks_same m.1 x) 0 makers))) c.new-made.ensures
    ∙ ap (option_map (λ i. c.args.first + i)) (sym (position_from-zero (λ (m : Numbered). asks_same m.1 x) makers))
