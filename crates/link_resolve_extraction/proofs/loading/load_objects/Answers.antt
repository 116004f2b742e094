use Rattle.std.proofs.Common.{◌≡◌, ◌∙◌, ℕ, Bool, List, Option, ap, arith, length, map, slice_index, subst, sym}
use Rattle.std.proofs.lemmas.List.FromFn.{length-map-range_with_len}
use Rattle.link_resolve_extraction.specs.Requests.{requests_in}
use Rattle.link_closure.specs.declared.workload.Workload.{Workload}
use Rattle.link_flags.specs.FlagWords.{numbers_of, words_of}
use Rattle.link_input.specs.Symbols.{Symbol}
use Rattle.link_claim_pool.specs.Marks.{mark_of_pair}
use Rattle.link_rules.specs.Loading.{IsLoaded}
use Rattle.link_db.specs.Database.{symbol_names}
use Rattle.link_db.specs.Seen.{seen}
use Rattle.link_resolve_extraction.specs.declared.found.FoundItem.{FoundItem}
use Rattle.link_resolve_extraction.specs.Answer.{AreItemsRead, AreTargetsRead, requests_found}
use Rattle.link_resolve_extraction.specs.Planned.{opening_of}
use Rattle.link_resolve_extraction.specs.Work.{known_of}
use Rattle.link_resolve_extraction.proofs.AnswerFlags.{claimed-are}
use Rattle.link_resolve_extraction.proofs.AnswerLink.{targets-are}
use Rattle.link_resolve_extraction.proofs.Reading.{found-below, items-read, named-all}
use Rattle.link_resolve_extraction.proofs.Requests.{requests-are}
use Rattle.link_resolve_extraction.proofs.loading.load_objects.Goals as goal

pub returns-clause-work : goal.returns-clause-work
returns-clause-work g c = λ demangle w at loaded settled. c.in_ok-all.ensures.work ∙ c.in_ok-plan.ensures.work demangle w at loaded settled

pub returns-clause-symbols : goal.returns-clause-symbols
returns-clause-symbols g c =
    let plan = c.in_ok-plan.plan in
    ap (λ (k : Workload). length k.opening) c.in_ok-all.ensures.work ∙ (length-map-range_with_len (slice_index (numbers_of (words_of plan.flags.now))) 0 plan.symbols ∙ c.in_ok-plan.ensures.symbols)

pub returns-clause-claimed : goal.returns-clause-claimed
returns-clause-claimed g c = c.in_ok-loaded.ensures.claimed c.in_ok-all.ensures.settled

-- the claimed objects are those that are loaded
pub returns-clause-loaded : goal.returns-clause-loaded
returns-clause-loaded g c = λ demangle w at loaded settled orderly.
    let work = c.in_ok-all.ensures.work ∙ c.in_ok-plan.ensures.work demangle w at loaded settled in
    subst (λ (ms : List Bool). IsLoaded w ms) (sym (c.in_ok-loaded.ensures.claimed c.in_ok-all.ensures.settled)) (claimed-are w _ c.in_ok-all.all.closed orderly work c.in_ok-all.ensures.settled)

-- what was read of their items are their targets
pub returns-clause-targets : goal.returns-clause-targets
returns-clause-targets g c = λ demangle w at loaded settled orderly targets read.
    let plan = c.in_ok-plan.plan in
    let e = c.in_ok-all.all.closed in
    let found = c.in_ok-all.all.found.items in
    let claimed = c.in_ok-loaded.ensures.claimed c.in_ok-all.ensures.settled in
    let work = c.in_ok-all.ensures.work ∙ c.in_ok-plan.ensures.work demangle w at loaded settled in
    let are : IsLoaded w c.in_ok-loaded.loaded.items = subst (λ (ms : List Bool). IsLoaded w ms) (sym claimed) (claimed-are w _ e orderly work c.in_ok-all.ensures.settled) in
    let items : AreItemsRead (known_of plan) plan.objects.items c.in_ok-loaded.loaded.items found =
    subst (λ (ms : List Bool). AreItemsRead (known_of plan) plan.objects.items ms found) (sym claimed)
    (items-read (known_of plan) plan.objects.items plan.items.items plan.roots.items (map mark_of_pair plan.root_marks.items)
    (opening_of plan.symbols (numbers_of (words_of plan.flags.now))) e found plan.cut c.in_ok-all.ensures.found) in
    let count = named-all (seen c.args.db.now) at.added ∙ ap (λ (xs : List Symbol). length xs) (sym at.symbols) in
    let own : AreTargetsRead (length w.symbols) w.earlier.targets found targets =
    subst (λ n. AreTargetsRead n w.earlier.targets found targets) count
    (subst (λ (ts : List (Option ℕ)). AreTargetsRead (length (symbol_names (seen c.args.db.now))) ts found targets) (sym settled) read) in
    targets-are w (known_of plan) plan.objects.items c.in_ok-loaded.loaded.items found targets orderly (c.in_ok-plan.ensures.known demangle w at settled) (c.in_ok-plan.ensures.objects demangle w at) are items own

-- all of them are symbols
pub returns-clause-below : goal.returns-clause-below
returns-clause-below g c = λ r is.
    let plan = c.in_ok-plan.plan in
    let opening = opening_of plan.symbols (numbers_of (words_of plan.flags.now)) in
    let many : length opening ≡ plan.symbols = length-map-range_with_len (slice_index (numbers_of (words_of plan.flags.now))) 0 plan.symbols in
    let below = found-below (known_of plan) plan.objects.items plan.items.items plan.roots.items (map mark_of_pair plan.root_marks.items) opening c.in_ok-all.all.closed c.in_ok-all.all.found.items
    plan.cut c.in_ok-all.ensures.found plan.is_sound r is in
    omega (arith, below, many, c.in_ok-plan.ensures.symbols)

-- as many requests were found as the items of loaded objects list
pub returns-clause-requests : goal.returns-clause-requests
returns-clause-requests g c =
    let plan = c.in_ok-plan.plan in
    let e = c.in_ok-all.all.closed in
    let found = c.in_ok-all.all.found.items in
    let marks = c.in_ok-loaded.loaded.items in
    let claimed = c.in_ok-loaded.ensures.claimed c.in_ok-all.ensures.settled in
    let items : AreItemsRead (known_of plan) plan.objects.items marks found =
    subst (λ (ms : List Bool). AreItemsRead (known_of plan) plan.objects.items ms found) (sym claimed)
    (items-read (known_of plan) plan.objects.items plan.items.items plan.roots.items (map mark_of_pair plan.root_marks.items)
    (opening_of plan.symbols (numbers_of (words_of plan.flags.now))) e found plan.cut c.in_ok-all.ensures.found) in
    c.in_ok-requests.ensures
    ∙ (ap (λ (fs : List (Option FoundItem)). requests_found fs) c.deref.ensures.value
    ∙ (requests-are (known_of plan) plan.objects.items marks plan.items.items found plan.cut items
    ∙ ap (λ (k : Workload). requests_in marks k.items) (sym c.in_ok-all.ensures.work)))
