use Rattle.std.proofs.Common.{◌≡◌, ◌∙◌, ◌≤◌, ◌++◌, ℕ, [], ap, append-nil, arith, length, string_bytes, sym}
use Rattle.std.specs.List.{slice_index_or}
use Rattle.link_db_files.specs.HeldFiles.{names_in, version_of}
use Rattle.link_core_answer.specs.Seen.{seen}
use Rattle.link_report.proofs.Choosing.{listed-plain, listed-versioned, name-there, nothing-past}
use Rattle.link_report.proofs.why.write_listed_name.Goals as goal

pub returns-then-as_usize-num_symbols : goal.returns-then-as_usize-num_symbols
returns-then-as_usize-num_symbols g c =
    let held = (seen c.args.linked.now).db.mapping.files in
    let past : length (names_in held) ≤ c.args.id = omega (arith, c.as_usize.ensures.value, c.num_symbols.ensures.value, c.if-as_usize-num_symbols.true) in
    sym (append-nil (string_bytes c.args.text.now)) ∙ ap (λ t. string_bytes c.args.text.now ++ t) (sym (nothing-past held c.args.id c.args.is_versioned past))

pub returns-in_ok-write_version : goal.returns-in_ok-write_version
returns-in_ok-write_version g c =
    let held = (seen c.args.linked.now).db.mapping.files in
    listed-versioned (string_bytes c.args.text.now) (string_bytes c.write.new.self) (string_bytes c.write_version.new.text) c.symbol_name.result c.symbol_version.result
    (λ (i : ℕ). slice_index_or (names_in held) i []) (version_of held) c.args.is_versioned c.args.id c.if-is_versioned.true
    (name-there (names_in held) c.args.id c.symbol_name.result c.symbol_name.ensures) c.symbol_version.ensures c.in_ok-write.ensures.bytes c.in_ok-write_version.ensures

pub returns-else-is_versioned : goal.returns-else-is_versioned
returns-else-is_versioned g c =
    let held = (seen c.args.linked.now).db.mapping.files in
    listed-plain (string_bytes c.args.text.now) (string_bytes c.write.new.self) c.symbol_name.result (λ (i : ℕ). slice_index_or (names_in held) i []) (version_of held)
    c.args.is_versioned c.args.id c.if-is_versioned.false (name-there (names_in held) c.args.id c.symbol_name.result c.symbol_name.ensures) c.in_ok-write.ensures.bytes
