use Rattle.std.proofs.Common.{◌≡◌, ◌∙◌, ◌++◌, List, append_assoc, ap, sym, subst, true, false, map}
use Rattle.std.specs.Prelude.{OnOk}
use Rattle.link_input.specs.Symbols.{Symbol}
use Rattle.link_check_symbols.specs.Gathered.{library_symbols, listed_symbol}
use Rattle.link_check_symbols.proofs.Filing.{library-is}
use Rattle.link_check_symbols.proofs.gathering.push_library.Goals as goal

pub returns : goal.returns
returns c =
    let library = c.args.library.now in
    let strong = map (listed_symbol false) library.strong in
    let weak = map (listed_symbol true) library.weak in
    let first : c.push_names.new.symbols.items ≡ c.args.symbols.now.items ++ strong =
    c.in_ok-push_names.ensures ∙ ap (λ names. c.args.symbols.now.items ++ map (listed_symbol false) names) c.as_slice.ensures in
    let both : c.push_names.new.symbols.items ++ map (listed_symbol true) c.as_slice-2.result.now ≡ c.args.symbols.now.items ++ library_symbols library =
    ap (λ l. l ++ map (listed_symbol true) c.as_slice-2.result.now) first
    ∙ (ap (λ names. c.args.symbols.now.items ++ strong ++ map (listed_symbol true) names) c.as_slice-2.ensures
    ∙ (append_assoc c.args.symbols.now.items strong weak ∙ ap (λ l. c.args.symbols.now.items ++ l) (sym (library-is library)))) in
    subst (λ (l : List Symbol). OnOk c.push_names-2.result (c.push_names-2.new.symbols.items ≡ l)) both c.push_names-2.ensures
