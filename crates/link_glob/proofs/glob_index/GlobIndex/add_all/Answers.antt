use Rattle.std.proofs.Common.{length, sym, refl, ◌∙◌, ap}
use Rattle.std.specs.Prelude.{slice_get}
use Rattle.std.proofs.lemmas.Option.{slice_get_read}
use Rattle.link_glob.proofs.glob_index.GlobIndex.add_all.Goals as goal

pub globs-preserved : goal.globs-preserved
globs-preserved c =
    let globs = c.args.globs.now in
    let read = slice_get_read globs (length globs) c.len.result c.in-Some.glob.now refl c.in-Some.ensures.lookup.3.0 c.in-Some.ensures.lookup.1 in
    c.file.ensures.kept globs c.globs.invariant (sym (ap (slice_get globs) c.len.ensures) ∙ read)
