use Rattle.std.proofs.Common.{◌≡◌, ◌<◌, ◌∙◌, ◌++◌, ◌^◌, ℕ, Bool, Some, slice_get, List, Contains, IfSome, ap, arith, filter, length, map, refl, slice_index, subst, sym}
use Rattle.std.specs.Prelude.{option_to_list}
use Rattle.std.specs.List.{range_with_len}
use Rattle.std.proofs.lemmas.List.Elements.{All-contains, filter_agree}
use Rattle.std.proofs.lemmas.List.FromFn.{length-map-range_with_len}
use Rattle.link_claim.specs.Workload.{FitsU32}
use Rattle.link_closure.specs.Closure.{is_marked}
use Rattle.link_closure.specs.declared.workload.Mark.{Mark}
use Rattle.link_closure.specs.Workload.{IsSound}
use Rattle.link_db_files.specs.GroupFiles.{symbols_in}
use Rattle.link_db_files.specs.HeldFiles.{HeldFiles}
use Rattle.link_db_files.specs.Inputs.{objects_in}
use Rattle.link_flags.specs.FlagBits as flag
use Rattle.link_flags.specs.FlagWords.{numbers_of, words_of}
use Rattle.link_flags.specs.declared.value_flags.ValueFlags.{ValueFlags}
use Rattle.link_input.specs.ObjectFile.{ObjectFile}
use Rattle.link_input.specs.Symbols.{Symbol}
use Rattle.link_db_mapping.specs.Mapped.{mapping_of}
use Rattle.link_resolve_marks.specs.Marks.{mark_on, marks_on_names}
use Rattle.link_claim_pool.specs.Marks.{mark_of_pair}
use Rattle.link_rules.specs.Loading.{entry_name, is_root, redirect_targets}
use Rattle.link_rules.specs.Names.{Mapping, first_definition}
use Rattle.link_rules.specs.Places.{Bytes}
use Rattle.link_rules.specs.Targets.{is_open}
use Rattle.link_rules.specs.Work.{object_places, symbols_with_ids, workload_of}
use Rattle.link_rules.proofs.Members.{map_from, range_from}
use Rattle.link_rules.proofs.Settled.{filtered}
use Rattle.link_db_stage.proofs.Tables.{stands-for}
use Rattle.link_db_symbols.specs.Walk.{SymbolsLeft, symbols_of_object, with_ids}
use Rattle.link_db_files.specs.Sources.{sources_of}
use Rattle.link_db_texts.specs.Holds.{platform_of}
use Rattle.link_db.specs.Database.{symbol_names}
use Rattle.link_db.specs.Seen.{seen}
use Rattle.link_resolve_extraction.specs.declared.items.WorkItem.{WorkItem}
use Rattle.link_resolve_extraction.specs.Asked.{Known, known_by}
use Rattle.link_resolve_extraction.specs.Items.{all_items}
use Rattle.link_resolve_extraction.specs.Planned.{opening_of, planned}
use Rattle.link_resolve_extraction.proofs.Same.{planned-is}
use Rattle.link_resolve_extraction.proofs.Sound.{plan-fits, plan-sound}
use Rattle.link_resolve_extraction.proofs.plan.LinkPlan.new.Goals as goal

-- all that the plan names is there, and fits
pub invariant_of-result : goal.invariant_of-result
invariant_of-result g c =
    let db = seen c.args.db.now in
    let groups = db.mapping.files.groups in
    let known : Known = known_by g.P.Platform.WEAK_SYMBOLS_OVERRIDE_COMMON db c.args.settled.now in
    let objects : List SymbolsLeft = c.in_ok-objects.objects.items in
    let roots = c.in_ok-roots.roots.items in
    let marks = c.in_ok-is_root.is_root.items in
    let root_marks : List Mark = map mark_of_pair c.in_ok-root_marks.root_marks.items in
    let opening : List ℕ = opening_of c.num_symbols-symbols.result (numbers_of (words_of c.args.flags.now)) in
    let n = length (symbol_names db) in
    let items : c.in_ok-items.items.items ≡ all_items 0 objects = c.in_ok-items.ensures ∙ ap (all_items 0) c.deref.ensures.value in
    let stand : known.sources ≡ sources_of (symbols_in groups) = refl in
    let count : length objects ≡ length (objects_in groups) = c.in_ok-objects.ensures.each ∙ ap (λ (h : HeldFiles g.row.P.Denot). length (objects_in h.groups)) c.files.ensures in
    let each : length marks ≡ length objects = c.in_ok-is_root.ensures.each ∙ sym count in
    let rooted : roots ≡ filter (is_marked marks) (range_with_len 0 (length marks)) =
    c.in_ok-roots.ensures ∙ ap (λ (ms : List Bool). filter (is_marked ms) (range_with_len 0 (length ms))) c.deref-3.ensures.value in
    let begun : length opening ≡ n =
    length-map-range_with_len (slice_index (numbers_of (words_of c.args.flags.now))) 0 c.num_symbols-symbols.result ∙ c.num_symbols-symbols.ensures.value in
    let root : (f : ℕ) → Contains roots f → f < length objects = λ f within.
    let below = range_from (length marks) f (filtered (is_marked marks) (range_with_len 0 (length marks)) f (subst (λ (l : List ℕ). Contains l f) rooted within)) in omega (arith, below, each) in
    let root_mark : (m : Mark) → Contains root_marks m → m.symbol < length opening = λ m within.
    let made = map_from mark_of_pair c.in_ok-root_marks.root_marks.items m within in
    let below : made.0.0 < n = All-contains (λ (p : ℕ × ValueFlags). p.0 < n) c.in_ok-root_marks.root_marks.items made.0 c.in_ok-root_marks.ensures.within made.1 in
    subst (λ (k : Mark). k.symbol < length opening) made.2 (omega (arith, below, begun)) in
    let means : (x : Symbol) → IfSome (known.target x) (λ t. t < length opening) = λ x.
    subst (λ k. IfSome (known.target x) (λ t. t < k)) (sym begun) (c.targets_are_symbols.ensures (is_open x) x.name x.version) in
    let opens : (x : ℕ) → x < length opening → slice_index opening x < 2 ^ 32 = λ x below. c.opening_bits_are_small.ensures x 0 below in
    let root_fits : (m : Mark) → Contains root_marks m → m.bits < 2 ^ 32 = λ m within.
    let made = map_from (λ t. mark_on t flag.has_non_ir_ref) _ m (subst (λ (ms : List Mark). Contains ms m) c.in_ok-root_marks.ensures.marks within) in
    subst (λ (k : Mark). k.bits < 2 ^ 32) made.2 (omega arith) in
    record {
      cut = items;
      all = c.num_symbols-symbols.ensures.value;
      rooted = rooted;
      each = each;
      own = λ f o is. c.in_ok-objects.ensures.symbols f o is ∙ ap (λ (h : HeldFiles g.row.P.Denot). symbols_of_object f (symbols_in h.groups)) c.files.ensures;
      is_sound = subst (λ (its : List WorkItem). IsSound (planned known objects its roots root_marks opening)) (sym items)
          (plan-sound known objects roots root_marks opening groups stand count root root_mark means);
      does_fit = subst (λ (its : List WorkItem). FitsU32 (planned known objects its roots root_marks opening)) (sym items)
          (plan-fits known objects roots root_marks opening (omega (arith, begun, c.num_symbols-symbols.ensures.value, c.num_symbols-symbols.ensures.fits)) opens root_fits);
    }

-- it is the work of each stage, by what is known there
pub returns : goal.returns
returns g c = record {
  known = λ demangle w at settled. record {
    sources = ap sources_of (sym at.symbols);
    settled = sym settled;
    target = λ x. stands-for (platform_of g.P.Platform) demangle (seen c.args.db.now) w at x;
  };
  objects = λ demangle w at. record {
    count = c.in_ok-objects.ensures.each ∙ (ap (λ (h : HeldFiles g.row.P.Denot). length (objects_in h.groups)) c.files.ensures ∙ ap (λ (os : List ObjectFile). length os) (sym at.objects));
    symbols = λ f o is.
        c.in_ok-objects.ensures.symbols f o is ∙ (ap (λ (h : HeldFiles g.row.P.Denot). symbols_of_object f (symbols_in h.groups)) c.files.ensures ∙ ap (symbols_of_object f) (sym at.symbols));
  };
  symbols = c.num_symbols-symbols.ensures.value;
  work = λ demangle w at loaded settled.
      let db = seen c.args.db.now in
      let groups = db.mapping.files.groups in
      let known : Known = known_by g.P.Platform.WEAK_SYMBOLS_OVERRIDE_COMMON db c.args.settled.now in
      let objects : List SymbolsLeft = c.in_ok-objects.objects.items in
      let roots = c.in_ok-roots.roots.items in
      let marks = c.in_ok-is_root.is_root.items in
      let root_marks : List Mark = map mark_of_pair c.in_ok-root_marks.root_marks.items in
      let opening : List ℕ = opening_of c.num_symbols-symbols.result (numbers_of (words_of c.args.flags.now)) in
      let items : c.in_ok-items.items.items ≡ all_items 0 objects = c.in_ok-items.ensures ∙ ap (all_items 0) c.deref.ensures.value in
      let stand : known.sources ≡ sources_of w.symbols = ap sources_of (sym at.symbols) in
      let count : length objects ≡ length w.objects =
      c.in_ok-objects.ensures.each ∙ (ap (λ (h : HeldFiles g.row.P.Denot). length (objects_in h.groups)) c.files.ensures ∙ ap (λ (os : List ObjectFile). length os) (sym at.objects)) in
      let each : length marks ≡ length w.objects = c.in_ok-is_root.ensures.each ∙ ap (λ (os : List ObjectFile). length os) (sym at.objects) in
      let have : (f : ℕ) (o : SymbolsLeft) → slice_get objects f ≡ Some o → with_ids o ≡ symbols_with_ids w f = λ f o is.
      c.in_ok-objects.ensures.symbols f o is ∙ (ap (λ (h : HeldFiles g.row.P.Denot). symbols_of_object f (symbols_in h.groups)) c.files.ensures ∙ ap (symbols_of_object f) (sym at.symbols)) in
      let rooted : roots ≡ filter (is_root w) (object_places w) =
      c.in_ok-roots.ensures ∙ (ap (λ (ms : List Bool). filter (is_marked ms) (range_with_len 0 (length ms))) c.deref-3.ensures.value
      ∙ (ap (λ n. filter (is_marked marks) (range_with_len 0 n)) each ∙ filter_agree (is_marked marks) (is_root w) (c.in_ok-is_root.ensures.roots demangle w at loaded) (object_places w))) in
      let mapping : mapping_of db.mapping ≡ first_definition w = λ i. λ name. at.names name i in
      let marked = c.in_ok-root_marks.ensures.marks
      ∙ (ap (λ (ns : List Bytes). marks_on_names (mapping_of db.mapping) ns) (c.deref-4.ensures.value ∙ c.in_ok-names.ensures demangle w at)
      ∙ ap (λ (m : Mapping). marks_on_names m (option_to_list (entry_name w) ++ redirect_targets w)) mapping) in
      ap (λ (its : List WorkItem). planned known objects its roots root_marks opening) items
      ∙ (planned-is w known objects roots root_marks opening stand (sym settled) (λ x. stands-for (platform_of g.P.Platform) demangle db w at x) count have rooted marked
      ∙ ap (λ n. record (workload_of w) { opening = opening_of n (numbers_of (words_of c.args.flags.now)) }) c.num_symbols-symbols.ensures.value);
}
