use Rattle.std.proofs.Common.{◌≡◌, ◌-◌, ◌∙◌, ℕ, List, Option, arith, ap, get_or, refl, subst, sym}
use Rattle.std.specs.Prelude.{option_map}
use Rattle.link_ids.specs.Span.{offset_in}
use Rattle.link_input.specs.Symbols.{Symbol}
use Rattle.link_input_groups.specs.SequencedInputs.{sequenced_file}
use Rattle.link_db_files.specs.GroupFiles.{symbols_in}
use Rattle.link_db_files.specs.HeldFiles.{HeldFiles}
use Rattle.link_db_files.proofs.Numbers.{name-left, name-right, same-asked}
use Rattle.link_db_files.proofs.files.Files.symbol_name.Goals as goal

pub returns-then-as_usize-first_added : goal.returns-then-as_usize-first_added
returns-then-as_usize-first_added g c =
    let f = sequenced_file c.file_of.result in
    let name = λ (o : Option Symbol). option_map (λ (x : Symbol). x.name) o in
    name-left (symbols_in c.args.self.now.groups) c.args.self.now.added c.args.id c.symbol_name.result
    (ap name c.file_of.ensures.within.same ∙ (same-asked name (λ m o e. refl) c.file_of.ensures.within.before f.file (offset_in f.symbols c.args.id) ∙ c.symbol_name.ensures))

pub returns-else-as_usize-first_added : goal.returns-else-as_usize-first_added
returns-else-as_usize-first_added g c =
    let same = c.new.ensures ∙ c.as_slice.ensures in
    let first = c.first_added-first_added.result in
    let id : c.as_usize-else-as_usize-first_added.result ≡ c.args.id = c.as_usize-else-as_usize-first_added.ensures.value in
    let read : c.new.result ≡ get_or c.args.self.now.added (c.args.id - first) c.new.result =
    subst (λ (l : List (List ℕ)). c.new.result ≡ get_or l (c.args.id - first) c.new.result) (ap (λ (h : HeldFiles g.row.P.Denot). h.added) c.self.view_is)
    (subst (λ n. c.new.result ≡ get_or c.self.inside.added.items (n - first) c.new.result) id
    (subst (λ (x : List ℕ). x ≡ get_or c.self.inside.added.items (c.as_usize-else-as_usize-first_added.result - first) x) (sym same) c.index.ensures)) in
    name-right (symbols_in c.args.self.now.groups) c.args.self.now.added c.args.id first c.new.result c.first_added-first_added.ensures (omega (arith, c.if-as_usize-first_added.false, c.as_usize.ensures.value)) c.requires read
