use Rattle.std.proofs.Common.{◌≡◌, ◌∙◌, ◌&&◌, Bool, None, ap, sym, true}
use Rattle.link_check_loaded.specs.Accepted.{Ranks, are_sound, rank_in, rises_from}
use Rattle.link_check_loaded.proofs.Rising.{same-ranks}
use Rattle.link_check_loaded.proofs.loaded.accepts.Goals as goal

pub returns : goal.returns
returns c =
    let symbols = c.args.symbols.now in
    let requests = c.args.requests.now in
    let roots = c.args.roots.now in
    let loaded = c.args.loaded.now in
    let rising : true ≡ rises_from None loaded = sym (sym c.are_rising.ensures ∙ c.if-not-are_rising.false) in
    c.are_sound.ensures
    ∙ (ap (λ (ranks : Ranks). are_sound ranks symbols requests roots loaded) (same-ranks _ (rank_in loaded) c.in_ok-ranks.ensures)
    ∙ ap (λ (b : Bool). b && are_sound (rank_in loaded) symbols requests roots loaded) rising)
