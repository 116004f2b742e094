-- The names of the roots, put together part by part.
use Rattle.std.proofs.Common.{◌≡◌, ◌+◌, ◌<◌, ◌++◌, ◌∙◌, ℕ, List, [], ◌∷◌, drop, get_or, length, map, refl, sym, ap}
use Rattle.std.specs.List.{filter, flat_map}
use Rattle.std.proofs.lemmas.Grind.{flat_map-append}
use Rattle.std.proofs.lemmas.List.{append_assoc, map-append}
use Rattle.std.proofs.lemmas.List.Elements.{filter-append}
use Rattle.link_input.specs.declared.internal_symbols.InternalSymDefInfo.{InternalSymDefInfo}
use Rattle.link_input.specs.declared.options.Options.{Options}
use Rattle.link_input.specs.declared.world.ProcessedLinkerScript.{ProcessedLinkerScript}
use Rattle.link_input.specs.PreludeSymbols.{forced_symbol, prelude_symbols}
use Rattle.link_input_groups.specs.declared.group.Group.{Group}
use Rattle.link_db_files.specs.Inputs.{scripts_in}
use Rattle.link_db_texts.proofs.Forced.{rest_is}
use Rattle.link_db.proofs.LastEntry.{scripts-first}
use Rattle.link_rules.specs.Loading.{forced_names, is_forced_placement, redirect_targets, targets_of_placement}
use Rattle.link_rules.specs.Places.{Bytes}
use Rattle.link_rules.specs.World.{Stage}
use Rattle.link_resolve_requests.specs.Names.{forced_in, script_targets, targets_in}

-- the names that two lists of definitions want to be defined
forced-append : (xs ys : List InternalSymDefInfo) → forced_in (xs ++ ys) ≡ forced_in xs ++ forced_in ys
forced-append xs ys =
    let is_forced = λ (d : InternalSymDefInfo). is_forced_placement d.placement in
    ap (map (λ (d : InternalSymDefInfo). d.name)) (filter-append is_forced xs ys)
    ∙ map-append (λ (d : InternalSymDefInfo). d.name) (filter is_forced xs) (filter is_forced ys)

-- those of names that the user wants to be defined
forced-all : (names : List Bytes) → forced_in (map forced_symbol names) ≡ names
forced-all [] = refl
forced-all (n ∷ ns) = ap (λ (l : List Bytes). n ∷ l) (forced-all ns)

-- those of the prelude: of the linker's symbols, the forced ones, and of the redirects
pub forced-parts : (options : Options) → forced_names options ≡ forced_in options.linker_symbols ++ (options.force_undefined ++ forced_in options.defsym)
forced-parts options =
    let own = map forced_symbol options.force_undefined in
    forced-append options.linker_symbols (own ++ options.defsym)
    ∙ ap (λ (l : List Bytes). forced_in options.linker_symbols ++ l)
    (forced-append own options.defsym ∙ ap (λ (l : List Bytes). l ++ forced_in options.defsym) (forced-all options.force_undefined))

-- forced names refer to none
no-targets : (names : List Bytes) → targets_in (map forced_symbol names) ≡ []
no-targets [] = refl
no-targets (n ∷ ns) = no-targets ns

-- what the redirects of the prelude refer to
prelude-targets : (options : Options) → targets_in (prelude_symbols options) ≡ targets_in options.linker_symbols ++ targets_in options.defsym
prelude-targets options =
    let of = λ (d : InternalSymDefInfo). targets_of_placement d.placement in
    let own = map forced_symbol options.force_undefined in
    flat_map-append of options.linker_symbols (own ++ options.defsym)
    ∙ ap (λ (l : List Bytes). targets_in options.linker_symbols ++ l)
    (flat_map-append of own options.defsym ∙ ap (λ (l : List Bytes). l ++ targets_in options.defsym) (no-targets options.force_undefined))

-- what all redirects refer to: those of the prelude, and those of the linker scripts
redirect-parts : (w : Stage) → redirect_targets w ≡ (targets_in w.options.linker_symbols ++ targets_in w.options.defsym) ++ script_targets w.scripts
redirect-parts w =
    flat_map-append (λ (d : InternalSymDefInfo). targets_of_placement d.placement) (prelude_symbols w.options) (flat_map (λ s. s.symbol_defs) w.scripts)
    ∙ ap (λ (l : List Bytes). l ++ script_targets w.scripts) (prelude-targets w.options)

-- three parts are added one after another
pub three-more : {X : Type 0} (old a b all x y z : List X) → a ≡ old ++ x → b ≡ a ++ y → all ≡ b ++ z → all ≡ old ++ (x ++ (y ++ z))
three-more old a b all x y z first second third =
    third ∙ (ap (λ l. l ++ z) (second ∙ ap (λ l. l ++ y) first) ∙ (append_assoc (old ++ x) y z ∙ append_assoc old x (y ++ z)))

-- three parts behind others are one part behind them
pub three-behind : {X : Type 0} (old x y z : List X) → ((old ++ x) ++ y) ++ z ≡ old ++ ((x ++ y) ++ z)
three-behind old x y z = ap (λ l. l ++ z) (append_assoc old x y) ∙ append_assoc old (x ++ y) z

-- the names of the prelude's redirects, then those of the linker scripts', are those of all redirects
pub redirects-more : (w : Stage) (options : Options) (scripts : List ProcessedLinkerScript) (old own defined all : List Bytes)
    → w.options ≡ options → w.scripts ≡ scripts → own ≡ old ++ targets_in options.linker_symbols → defined ≡ own ++ targets_in options.defsym → all ≡ defined ++ script_targets scripts
    → all ≡ old ++ redirect_targets w
redirects-more w options scripts old own defined all same_options same_scripts first second third =
    let linker = targets_in options.linker_symbols in
    let defsym = targets_in options.defsym in
    let parts : redirect_targets w ≡ (linker ++ defsym) ++ script_targets scripts =
    redirect-parts w
    ∙ (ap (λ (o : Options). (targets_in o.linker_symbols ++ targets_in o.defsym) ++ script_targets w.scripts) same_options
    ∙ ap (λ (l : List ProcessedLinkerScript). (linker ++ defsym) ++ script_targets l) same_scripts) in
    three-more old own defined all linker defsym (script_targets scripts) first second third
    ∙ ap (λ (l : List Bytes). old ++ l) (sym (append_assoc linker defsym (script_targets scripts)) ∙ sym parts)

-- what the redirects of two lists of linker scripts refer to
script-append : (xs ys : List ProcessedLinkerScript) → script_targets (xs ++ ys) ≡ script_targets xs ++ script_targets ys
script-append xs ys =
    let own = λ (s : ProcessedLinkerScript). s.symbol_defs in
    ap (λ (l : List InternalSymDefInfo). targets_in l) (flat_map-append own xs ys)
    ∙ flat_map-append (λ (d : InternalSymDefInfo). targets_of_placement d.placement) (flat_map own xs) (flat_map own ys)

-- what the redirects of the linker scripts of one group more refer to
pub group-more : {P : Type 0} (groups : List (Group P)) (i : ℕ) (g : Group P) (own : List ProcessedLinkerScript) (old new all : List Bytes)
    → i < length groups → g ≡ get_or groups i g → own ≡ scripts_in (g ∷ []) → new ≡ old ++ script_targets own
    → old ++ script_targets (scripts_in (drop i groups)) ≡ all → new ++ script_targets (scripts_in (drop (i + 1) groups)) ≡ all
group-more {P} groups i g own old new all lt is there more before =
    let left = scripts_in (drop (i + 1) groups) in
    let here : scripts_in (drop i groups) ≡ own ++ left =
    ap (λ (gs : List (Group P)). scripts_in gs) (rest_is groups i g lt is) ∙ (scripts-first g (drop (i + 1) groups) ∙ ap (λ (l : List ProcessedLinkerScript). l ++ left) (sym there)) in
    ap (λ (l : List Bytes). l ++ script_targets left) more
    ∙ (append_assoc old (script_targets own) (script_targets left)
    ∙ (ap (λ (l : List Bytes). old ++ l) (sym (script-append own left))
    ∙ (ap (λ (l : List ProcessedLinkerScript). old ++ script_targets l) (sym here) ∙ before)))
