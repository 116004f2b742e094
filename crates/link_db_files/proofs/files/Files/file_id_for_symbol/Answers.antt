use Rattle.std.proofs.Common.{◌<◌, ◌≤◌, refl, sym, subst, List, length, arith}
use Rattle.std.specs.Prelude.{slice_get, IfSome}
use Rattle.std.proofs.lemmas.Option.{slice_get_read, slice_get_within}
use Rattle.link_db_files.specs.declared.starts.FileStart.{FileStart}
use Rattle.link_db_files.specs.Starts.{IsLastFrom}
use Rattle.link_db_files.specs.HeldFiles.{HeldFiles}
use Rattle.link_db_files.specs.Numbered.{AreHeld}
use Rattle.link_db_files.proofs.Lookup.{begins-there, found-file, first-start}
use Rattle.link_db_files.proofs.files.Files.file_id_for_symbol.Goals as goal

pub place_of-requires-clause-first : goal.place_of-requires-clause-first
place_of-requires-clause-first g c =
    let starts = c.self.inside.starts.items in
    let found : AreHeld c.args.self.now starts = subst (λ (held : HeldFiles g.row.P.Denot). AreHeld held starts) c.self.view_is c.self.invariant.0 in
    subst (λ (l : List FileStart). IfSome (slice_get l 0) (λ first. first.start ≤ c.args.id)) (sym c.as_slice.ensures.value) (begins-there starts c.args.id (first-start c.args.self.now starts found c.args.id c.requires).1)

pub place_of-requires-clause-some : goal.place_of-requires-clause-some
place_of-requires-clause-some g c =
    let starts = c.self.inside.starts.items in
    let found : AreHeld c.args.self.now starts = subst (λ (held : HeldFiles g.row.P.Denot). AreHeld held starts) c.self.view_is c.self.invariant.0 in
    subst (λ (l : List FileStart). 0 < length l) (sym c.as_slice.ensures.value) (first-start c.args.self.now starts found c.args.id c.requires).0

pub index-requires : goal.index-requires
index-requires g c = omega (arith, slice_get_within c.as_slice.result.now c.place_of.result c.place_of.ensures.file c.place_of.ensures.here, c.as_slice.ensures.len)

pub returns-clause-file : goal.returns-clause-file
returns-clause-file g c =
    let starts = c.self.inside.starts.items in
    let found : AreHeld c.args.self.now starts = subst (λ (held : HeldFiles g.row.P.Denot). AreHeld held starts) c.self.view_is c.self.invariant.0 in
    let last : IsLastFrom starts c.args.id c.place_of.result = subst (λ (l : List FileStart). IsLastFrom l c.args.id c.place_of.result) c.as_slice.ensures.value c.place_of.ensures in
    let within = slice_get_within starts c.place_of.result last.file last.here in
    (found-file c.args.self.now starts found c.args.id c.place_of.result last c.requires c.index.result.now
    (slice_get_read starts (length starts) c.place_of.result c.index.result.now refl within c.index.ensures)).file

pub returns-clause-object : goal.returns-clause-object
returns-clause-object g c =
    let starts = c.self.inside.starts.items in
    let found : AreHeld c.args.self.now starts = subst (λ (held : HeldFiles g.row.P.Denot). AreHeld held starts) c.self.view_is c.self.invariant.0 in
    let last : IsLastFrom starts c.args.id c.place_of.result = subst (λ (l : List FileStart). IsLastFrom l c.args.id c.place_of.result) c.as_slice.ensures.value c.place_of.ensures in
    let within = slice_get_within starts c.place_of.result last.file last.here in
    (found-file c.args.self.now starts found c.args.id c.place_of.result last c.requires c.index.result.now
    (slice_get_read starts (length starts) c.place_of.result c.index.result.now refl within c.index.ensures)).object
