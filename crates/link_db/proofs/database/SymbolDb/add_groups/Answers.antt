use Rattle.std.proofs.Common.{length-append, drop, ◌≡◌, ◌+◌, ◌<◌, ◌++◌, ◌∙◌, ℕ, List, All, refl, sym, ap, subst, arith, length, map}
use Rattle.std.proofs.lemmas.List.FromFn.{length-range_with_len}
use Rattle.std.specs.List.{AllZip, flat_map, range_with_len}
use Rattle.link_flags.specs.FlagWords.{numbers_of, words_of}
use Rattle.link_input_groups.specs.declared.group.Group.{Group}
use Rattle.link_input_groups.specs.Asked.{AllCanBeAsked}
use Rattle.link_db_files.specs.HeldFiles.{HeldFiles, names_in}
use Rattle.link_db_files.specs.GroupFiles.{symbols_in}
use Rattle.link_db_texts.specs.Holds.{platform_of}
use Rattle.link_db_mapping.specs.Seen as names
use Rattle.link_db_mapping.proofs.Batches.{read_behind}
use Rattle.link_db_ingest.specs.declared.read_symbols.ReadSymbols.{ReadSymbols}
use Rattle.link_db_ingest.specs.Files.{AllCanBeRead, IsStageBy, file_definitions, file_flags}
use Rattle.link_db_ingest.specs.Parts.{HasAllFlags}
use Rattle.link_input_groups.specs.Groups.{files_of}
use Rattle.link_rules.specs.Opening.{opening_flags}
use Rattle.link_db.specs.Adding.{flags_in}
use Rattle.link_db.specs.Seen.{seen}
use Rattle.link_db.proofs.Batches.{can-be-asked, can-be-read, flags-behind, names-fit, names-grown, none-added, tabled-names, words-grown}
use Rattle.link_db.proofs.GroupCounts.{read-count}
use Rattle.link_db.proofs.Ids.{grown-within, table-counted, table-grown}
use Rattle.link_db.proofs.database.SymbolDb.add_groups.Goals as goal

pub symbols_of_groups-more-requires-clause-asked : goal.symbols_of_groups-more-requires-clause-asked
symbols_of_groups-more-requires-clause-asked g c =
    subst (λ (gs : List (Group g.row.P.Denot)). AllCanBeAsked gs) (sym c.as_slice.ensures.value)
    (can-be-asked (seen c.args.self.now).mapping.files.groups c.args.groups.items c.requires.groups)

pub symbols_of_groups-more-requires-clause-fits : goal.symbols_of_groups-more-requires-clause-fits
symbols_of_groups-more-requires-clause-fits g c =
    let files = (seen c.args.self.now).mapping.files in
    let tabled = tabled-names files c.files.result.now c.args.groups.items c.num_symbols-held.result c.files.ensures c.num_symbols-held.ensures.value (c.num_symbols-held.ensures.tabled c.args.groups.items) c.requires.groups in
    let fit = names-fit files c.args.groups.items c.requires.groups tabled in
    let same = ap (λ (gs : List (Group g.row.P.Denot)). length (symbols_in gs)) c.as_slice.ensures.value in
    omega (arith, fit, same)

pub read_groups-requires-after_bounds : goal.read_groups-requires-after_bounds
read_groups-requires-after_bounds g c = λ _ _.
    subst (λ (gs : List (Group g.row.P.Denot)). AllCanBeRead gs) (sym c.as_slice-2.ensures.value)
    (can-be-read (seen c.args.self.now).mapping.files.groups c.args.groups.items c.requires.groups)

pub overflow_add-held : goal.overflow_add-held
overflow_add-held g c =
    let files = (seen c.args.self.now).mapping.files in
    let tabled = tabled-names files c.files.result.now c.args.groups.items c.num_symbols-held.result c.files.ensures c.num_symbols-held.ensures.value (c.num_symbols-held.ensures.tabled c.args.groups.items) c.requires.groups in
    let fit = names-fit files c.args.groups.items c.requires.groups tabled in
    let held = c.num_symbols-held.ensures.value ∙ ap (λ (f : HeldFiles g.row.P.Denot). length (names_in f)) c.files.ensures in
    let more = c.symbols_of_groups-more.ensures ∙ ap (λ (gs : List (Group g.row.P.Denot)). length (symbols_in gs)) c.as_slice.ensures.value in
    omega (arith, fit, held, more)

pub new_entries-requires-clause-fits : goal.new_entries-requires-clause-fits
new_entries-requires-clause-fits g c =
    let files = (seen c.args.self.now).mapping.files in
    let tabled = tabled-names files c.files.result.now c.args.groups.items c.num_symbols-held.result c.files.ensures c.num_symbols-held.ensures.value (c.num_symbols-held.ensures.tabled c.args.groups.items) c.requires.groups in
    let fit = names-fit files c.args.groups.items c.requires.groups tabled in
    let held = c.num_symbols-held.ensures.value ∙ ap (λ (f : HeldFiles g.row.P.Denot). length (names_in f)) c.files.ensures in
    let more = c.symbols_of_groups-more.ensures ∙ ap (λ (gs : List (Group g.row.P.Denot)). length (symbols_in gs)) c.as_slice.ensures.value in
    omega (arith, fit, held, more)

pub add_groups-requires-clause-parts : goal.add_groups-requires-clause-parts
add_groups-requires-clause-parts g c κs within =
    let files = (seen c.args.self.now).mapping.files in
    let tabled = tabled-names files c.files.result.now c.args.groups.items c.num_symbols-held.result c.files.ensures c.num_symbols-held.ensures.value (c.num_symbols-held.ensures.tabled c.args.groups.items) c.requires.groups in
    ap (flat_map (λ (p : ReadSymbols). p.definitions.items)) c.as_slice-4.ensures.value
    ∙ c.in_ok-parts.ensures.definitions
    ∙ ap (λ (gs : List (Group g.row.P.Denot)). flat_map file_definitions (flat_map (λ (k : Group g.row.P.Denot). files_of k) gs)) c.as_slice-2.ensures.value
    ∙ read_behind files c.args.groups.items c.requires.groups (none-added files tabled)

-- the table has the entries of before, and those of the new symbols
pub invariant_of-self-in_default : goal.invariant_of-self-in_default
invariant_of-self-in_default g c =
    let files = (seen c.args.self.now).mapping.files in
    let gs = c.args.groups.items in
    let sound = c.args.self.now.sound in
    let held = c.num_symbols-held.ensures.value ∙ ap (λ (f : HeldFiles g.row.P.Denot). length (names_in f)) c.files.ensures in
    let more = c.symbols_of_groups-more.ensures ∙ ap (λ (k : List (Group g.row.P.Denot)). length (symbols_in k)) c.as_slice.ensures.value in
    let total : length (names_in (names.seen c.add_groups.new.self).files) ≡ length (names_in files) + length (symbols_in gs) =
    ap (λ (f : HeldFiles g.row.P.Denot). length (names_in f)) c.in_default.ensures.files ∙ names-grown files gs c.requires.groups in
    let rows = table-grown c.args.self.now.table.items c.in_ok-entries.entries.items c.append.new.self.items c.num_symbols-held.result c.symbols_of_groups-more.result
    (length (names_in files)) (length (symbols_in gs)) c.in_ok-append.ensures.items c.in_ok-entries.ensures held more in
    record {
      sound = record {
        some = sound.some;
        few = sound.few;
        some_files = sound.some_files;
        few_files = sound.few_files;
        within = subst (λ (n : ℕ). All (λ e. e < n) c.append.new.self.items) (sym total)
            (subst (λ (xs : List ℕ). All (λ e. e < length (names_in files) + length (symbols_in gs)) xs) (sym rows)
            (grown-within (length (names_in files)) (length (symbols_in gs)) c.args.self.now.table.items sound.within));
      };
    }

pub returns-clause-grown : goal.returns-clause-grown
returns-clause-grown g c =
    let files = (seen c.args.self.now).mapping.files in
    let gs = c.args.groups.items in
    let held = c.num_symbols-held.ensures.value ∙ ap (λ (f : HeldFiles g.row.P.Denot). length (names_in f)) c.files.ensures in
    let more = c.symbols_of_groups-more.ensures ∙ ap (λ (k : List (Group g.row.P.Denot)). length (symbols_in k)) c.as_slice.ensures.value in
    let total : length (names_in (names.seen c.add_groups.new.self).files) ≡ length (names_in files) + length (symbols_in gs) =
    ap (λ (f : HeldFiles g.row.P.Denot). length (names_in f)) c.in_default.ensures.files ∙ names-grown files gs c.requires.groups in
    let rows = table-grown c.args.self.now.table.items c.in_ok-entries.entries.items c.append.new.self.items c.num_symbols-held.result c.symbols_of_groups-more.result
    (length (names_in files)) (length (symbols_in gs)) c.in_ok-append.ensures.items c.in_ok-entries.ensures held more in
    let whole : length c.args.self.now.table.items ≡ length (names_in files) = c.requires.table in
    record {
      options = refl;
      workers = refl;
      overridden = c.in_default.ensures.overridden;
      table = rows ∙ table-counted c.args.self.now.table.items (length (names_in files)) (length (symbols_in gs)) (length (names_in (names.seen c.add_groups.new.self).files)) whole total;
      whole = omega (arith, ap (λ (l : List ℕ). length l) rows, length-append c.args.self.now.table.items (range_with_len (length (names_in files)) (length (symbols_in gs))), length-range_with_len (length (names_in files)) (length (symbols_in gs)), whole, total);
      added = ap (λ (f : HeldFiles g.row.P.Denot). f.added) c.in_default.ensures.files;
    }

pub returns-clause-flags : goal.returns-clause-flags
returns-clause-flags g c = λ w are output.
    let files = (seen c.args.self.now).mapping.files in
    let gs = c.args.groups.items in
    let stage : IsStageBy (platform_of g.P.Platform) (g.D.Demangler.demangled c.args.demangler.now) (seen c.args.self.now).rules c.args.self.now.options.output w = record { rules = are; output = output } in
    let read : flags_in c.in_ok-parts.parts.items ≡ map (opening_flags w) (drop (length (symbols_in files.groups)) (symbols_in (files.groups ++ gs))) =
    c.in_ok-parts.ensures.flags w stage
    ∙ ap (λ (k : List (Group g.row.P.Denot)). flat_map (file_flags w) (flat_map (λ (x : Group g.row.P.Denot). files_of x) k)) c.as_slice-2.ensures.value
    ∙ flags-behind w files.groups gs in
    let grown : numbers_of (words_of c.in_ok-grown.grown) ≡ numbers_of (words_of c.args.flags.now) ++ flags_in c.in_ok-parts.parts.items =
    c.in_ok-grown.ensures ∙ ap (λ (ps : List ReadSymbols). numbers_of (words_of c.args.flags.now) ++ flags_in ps) c.as_slice-3.ensures.value in
    let behind : flags_in c.in_ok-parts.parts.items ≡ map (opening_flags w) (drop (length (symbols_in files.groups)) (symbols_in (names.seen c.add_groups.new.self).files.groups)) =
    read ∙ ap (λ (f : HeldFiles g.row.P.Denot). map (opening_flags w) (drop (length (symbols_in files.groups)) (symbols_in f.groups))) (sym c.in_default.ensures.files) in
    grown ∙ ap (λ (l : List ℕ). numbers_of (words_of c.args.flags.now) ++ l) behind

-- words behind those that there were, one for each new symbol
pub returns-clause-whole : goal.returns-clause-whole
returns-clause-whole g c =
    let files = (seen c.args.self.now).mapping.files in
    let gs = c.args.groups.items in
    let have = subst (λ (k : List (Group g.row.P.Denot)). AllZip (λ (x : Group g.row.P.Denot) part. HasAllFlags x part) k c.in_ok-parts.parts.items) c.as_slice-2.ensures.value c.in_ok-parts.ensures.count in
    let read = read-count gs c.in_ok-parts.parts.items (can-be-asked files.groups gs c.requires.groups) have in
    let parts = ap (λ (ps : List ReadSymbols). length (flags_in ps)) c.as_slice-3.ensures.value in
    let grown = words-grown (words_of c.args.flags.now) (words_of c.in_ok-grown.grown) (flags_in c.as_slice-3.result.now) c.in_ok-grown.ensures in
    let total : length (names_in (names.seen c.add_groups.new.self).files) ≡ length (names_in files) + length (symbols_in gs) =
    ap (λ (f : HeldFiles g.row.P.Denot). length (names_in f)) c.in_default.ensures.files ∙ names-grown files gs c.requires.groups in
    omega (arith, read, parts, grown, total, c.requires.flags)
