use Rattle.std.proofs.Common.{rules, ◌≡◌, ◌+◌, ◌∙◌, ◌∷◌, List, map, drop, sym, ap}
use Rattle.std.specs.Prelude.{option_map}
use Rattle.std.specs.List.{filter_map}
use Rattle.std.specs.Option.{option_or}
use Rattle.link_input.specs.declared.world.ProcessedLinkerScript.{ProcessedLinkerScript}
use Rattle.link_input_groups.specs.declared.sequenced.SequencedLinkerScript.{SequencedLinkerScript}
use Rattle.link_rules.specs.Places.{last_of}
use Rattle.link_db.proofs.LastEntry.{last-in-front}
use Rattle.link_db_texts.proofs.Forced.{rest_is}
use Rattle.link_db.proofs.entry.last_entry.Goals as goal

-- one linker script more
pub loop-script-preserved : goal.loop-script-preserved
loop-script-preserved c =
    let scripts = c.args.scripts.now in
    let i = c.loop-script.script-index in
    let s = c.script-item.result in
    let entries = λ (l : List SequencedLinkerScript). filter_map (λ (x : ProcessedLinkerScript). x.entry) (map (λ (x : SequencedLinkerScript). x.parsed) l) in
    let rest = entries (drop (i + 1) scripts) in
    let next : drop i scripts ≡ s ∷ drop (i + 1) scripts = rest_is scripts i s c.loop-script-test.true c.script-item.is in
    let before = option_map (λ n. n.now) c.loop-script.last in
    let last : option_map (λ n. n.now) c.or-last.result ≡ option_or s.parsed.entry before = search rules in
    ap (option_or (last_of rest)) last ∙ sym (last-in-front s.parsed.entry rest before)
    ∙ ap (λ (l : List SequencedLinkerScript). option_or (last_of (entries l)) before) (sym next) ∙ c.loop-script.invariant
