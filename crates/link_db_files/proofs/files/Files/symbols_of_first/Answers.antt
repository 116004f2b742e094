use Rattle.std.proofs.Common.{◌≡◌, ◌≤◌, ◌<◌, ◌∙◌, List, Some, [], ap, append-nil, arith, length, refl, slice_get, subst, sym}
use Rattle.std.proofs.lemmas.Bool.{ltb-false, ltb-true}
use Rattle.std.proofs.lemmas.Option.{slice_get_read}
use Rattle.link_input_groups.specs.declared.group.Group.{Group}
use Rattle.link_db_files.specs.GroupFiles.{AreGroupsOfLink}
use Rattle.link_db_files.specs.HeldFiles.{HeldFiles}
use Rattle.link_db_files.specs.Numbered.{AreHeld}
use Rattle.link_db_files.specs.Starts.{starts_of}
use Rattle.link_db_files.specs.declared.starts.FileStart.{FileStart}
use Rattle.link_db_files.proofs.Kept.{symbols-all, symbols-before}
use Rattle.link_db_files.proofs.files.Files.symbols_of_first.Goals as goal

-- where the next file begins
pub returns-in-Some : goal.returns-in-Some
returns-in-Some g c = λ n count.
    let starts = c.self.inside.starts.items in
    let held : AreHeld c.args.self.now starts = subst (λ (h : HeldFiles g.row.P.Denot). AreHeld h starts) c.self.view_is c.self.invariant.0 in
    let lookup = c.in-Some.ensures.lookup in
    let lent = c.as_slice.result.now in
    let inside : c.args.files < length lent = ltb-true c.args.files (length lent) (sym lookup.0) in
    let at : slice_get starts c.args.files ≡ Some c.in-Some.next.now =
    ap (λ (l : List FileStart). slice_get l c.args.files) (sym c.as_slice.ensures.value) ∙ slice_get_read lent (length lent) c.args.files c.in-Some.next.now refl inside lookup.1 in
    c.as_usize.ensures.value ∙ symbols-before c.args.self.now starts held c.requires n c.args.files c.in-Some.next.now count at

-- no file is behind them
pub returns-in-None : goal.returns-in-None
returns-in-None g c = λ n count.
    let starts = c.self.inside.starts.items in
    let groups = c.args.self.now.groups in
    let held : AreHeld c.args.self.now starts = subst (λ (h : HeldFiles g.row.P.Denot). AreHeld h starts) c.self.view_is c.self.invariant.0 in
    let lent = c.as_slice.result.now in
    let past : length lent ≤ c.args.files = ltb-false c.args.files (length lent) (sym c.in-None.ensures.lookup.0) in
    let begin = ap (λ (l : List FileStart). length l) (c.as_slice.ensures.value ∙ held.found) in
    let all : length (starts_of groups) ≤ c.args.files = omega (arith, past, begin) in
    c.num_symbols.ensures.tabled [] (subst (λ (l : List (Group g.row.P.Denot)). AreGroupsOfLink l) (sym (append-nil groups)) c.requires) ∙ symbols-all groups n c.args.files count all
