use Rattle.std.proofs.Common.{◌≡◌, ◌+◌, ◌∙◌, refl, sym, subst, length, arith, ap}
use Rattle.std.proofs.lemmas.Option.{same_Some}
use Rattle.link_ids.specs.Span.{Span}
use Rattle.link_input.specs.SequencedFiles.{SequencedFile}
use Rattle.link_input_groups.specs.SequencedInputs.{sequenced_file}
use Rattle.link_db_files.specs.HeldFiles.{HeldFiles, names_in}
use Rattle.link_db_files.specs.Numbered.{AreHeld}
use Rattle.link_db_files.proofs.Batches.{all-tabled}
use Rattle.link_db_files.proofs.Lookup.{last-read, none-held}
use Rattle.link_db_files.proofs.files.Files.num_symbols.Goals as goal

pub returns-then-files-eq0 : goal.returns-then-files-eq0
returns-then-files-eq0 g c =
    let starts = c.self.inside.starts.items in
    let found : AreHeld c.args.self.now starts = subst (λ (held : HeldFiles g.row.P.Denot). AreHeld held starts) c.self.view_is c.self.invariant.0 in
    let none = none-held c.args.self.now starts found (sym c.self.inside.starts.ok.0 ∙ sym c.len-files.ensures ∙ c.if-files-eq0.true) in
    record { value = none; tabled = all-tabled c.args.self.now starts found 0 none; fits = omega arith }

pub file-requires : goal.file-requires
file-requires g c =
    let starts = c.self.inside.starts.items in
    let found : AreHeld c.args.self.now starts = subst (λ (held : HeldFiles g.row.P.Denot). AreHeld held starts) c.self.view_is c.self.invariant.0 in
    let e = last-read c.args.self.now starts found c.len-files.result c.index-last.result.now (c.len-files.ensures ∙ c.self.inside.starts.ok.0) c.if-files-eq0.false c.index-last.ensures in
    rw e.1.0 refl

pub returns : goal.returns
returns g c =
    let starts = c.self.inside.starts.items in
    let found : AreHeld c.args.self.now starts = subst (λ (held : HeldFiles g.row.P.Denot). AreHeld held starts) c.self.view_is c.self.invariant.0 in
    let e = last-read c.args.self.now starts found c.len-files.result c.index-last.result.now (c.len-files.ensures ∙ c.self.inside.starts.ok.0) c.if-files-eq0.false c.index-last.ensures in
    let same : e.0 ≡ sequenced_file c.file.result = same_Some e.0 (sequenced_file c.file.result) (sym e.1.0 ∙ c.file.ensures.value) in
    let ids = c.symbol_id_range-ids.ensures in
    let end : (sequenced_file c.file.result).symbols.start + (sequenced_file c.file.result).symbols.len ≡ length (names_in c.args.self.now) = subst (λ (f : SequencedFile). f.symbols.start + f.symbols.len ≡ length (names_in c.args.self.now)) same e.1.1 in
    let start = ap (λ (s : Span). s.start) ids in
    let len = ap (λ (s : Span). s.len) ids in
    let value : c.as_usize.result + c.len.result ≡ length (names_in c.args.self.now) = omega (arith, end, start, len, c.start.ensures.value, c.as_usize.ensures.value, c.len.ensures.value) in
    record {
      value = value;
      tabled = all-tabled c.args.self.now starts found (c.as_usize.result + c.len.result) value;
      fits = omega (arith, c.start.ensures.value, c.start.ensures.fits, c.as_usize.ensures.value, c.len.ensures.value);
    }
