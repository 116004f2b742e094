use Rattle.std.proofs.Common.{◌≡◌, ◌∙◌, Ok, Err, arith, length, not, rules}
use Rattle.link_flags.specs.FlagWords.{numbers_of, words_of}
use Rattle.link_input.specs.InputFiles.{batch_of}
use Rattle.link_db_texts.specs.Causes.{TellsCause}
use Rattle.link_db_texts.specs.Holds.{platform_of}
use Rattle.link_rules.specs.Answer.{BatchesEnd, End}
use Rattle.link_rules.specs.Places.{is_empty}
use Rattle.link_rules.specs.World.{with_batch}
use Rattle.link_rules.specs.Selection.{selection_of}
use Rattle.link_rules.proofs.Existence.{orderly-loads}
use Rattle.link_rules.proofs.Stages.{orderly-grows}
use Rattle.link_db.specs.Database.{symbol_names}
use Rattle.link_db.specs.Seen.{seen}
use Rattle.link_resolve.specs.Resolving.{loading_cause}
use Rattle.link_core.specs.Steps.{inputs_refusal}
use Rattle.link_core.proofs.Batches.{links-inputs, links-loading}
use Rattle.link_core.proofs.Passing.{below-more, fine-grows, held-next, next-stage, refused-through, told-by}
use Rattle.link_core.proofs.batch.link_batch.Goals as goal

-- the names are listed, and what is known is of objects and symbols that are there
pub load_batch-requires : goal.load_batch-requires
load_batch-requires g c = (
  search rules,
  (
    search rules,
    (
      search rules,
      record {
        listed = let l = c.in_ok-add_files.ensures.listed in record { lists = record { plain = l.lists.plain; versioned = l.lists.versioned }; added = l.added };
        loaded = let few = c.requires.loaded in let more = c.in_ok-add_files.ensures.objects in omega (arith, few, more);
        targets = below-more (length (symbol_names (seen c.args.link.now.db))) (length (symbol_names (seen c.add_files.new.db))) c.args.link.now.resolver.known.targets c.in_ok-add_files.ensures.symbols c.requires.steady.targets;
      },
    ),
  ),
)

-- the files are the cause
pub returns-in_err-add_files-clause-refused : goal.returns-in_err-add_files-clause-refused
returns-in_err-add_files-clause-refused g c =
    let e = c.in_err-add_files.field-0.0 in
    let b = batch_of c.args.inputs in
    refused-through c.from_residual.result _ e c.from_residual.ensures.1 (λ w done before is ready.
    let told : TellsCause {A = Unit {0}} (inputs_refusal (not (is_empty done)) before b) (Err e) = c.in_err-add_files.ensures.cause w done before c.args.link.now.resolver.known is ready in
    told-by (Unit {0}) (BatchesEnd w (Err e)) (inputs_refusal (not (is_empty done)) before b) e (λ cause. is.ends (Err e) (links-inputs (not (is_empty done)) before b (λ l. ◌≡◌ {A = End} (Err e) (Ok l)) e cause)) told)

-- what loading tells is the cause
pub returns-in_err-load_batch-clause-refused : goal.returns-in_err-load_batch-clause-refused
returns-in_err-load_batch-clause-refused g c =
    let e = c.in_err-load_batch.field-0.0 in
    let b = batch_of c.args.inputs in
    let platform = platform_of g.P.Platform in
    let demangle = g.D.Demangler.demangled c.args.demangler.now in
    refused-through c.from_residual-in_err-load_batch.result _ e c.from_residual-in_err-load_batch.ensures.1 (λ w done before is ready.
    let s = with_batch before b in
    let loaded = orderly-loads s (orderly-grows before b is.orderly) in
    let added = c.in_ok-add_files.ensures.added w done before c.args.link.now.resolver.known is ready in
    let none = c.in_ok-add_files.ensures.cause w done before c.args.link.now.resolver.known is ready in
    let next = next-stage platform demangle w done b before (seen c.args.link.now.db) (seen c.add_files.new.db) (numbers_of (words_of c.args.link.now.flags)) (numbers_of (words_of c.add_files.new.flags))
    c.args.link.now.resolver.known is ready added in
    let told : TellsCause {A = Unit {0}} (loading_cause s loaded.0) (Err e) = c.in_err-load_batch.ensures.cause demangle s next loaded.0 loaded.1 (fine-grows before b is.orderly is.fine) in
    told-by (Unit {0}) (BatchesEnd w (Err e)) (loading_cause s loaded.0) e (λ cause. is.ends (Err e) (links-loading (not (is_empty done)) before b (λ l. ◌≡◌ {A = End} (Err e) (Ok l)) loaded.0 e none loaded.1 cause)) told)

-- all batches are held
pub returns-clause-loaded : goal.returns-clause-loaded
returns-clause-loaded g c = λ w done before is ready.
    let b = batch_of c.args.inputs in
    let platform = platform_of g.P.Platform in
    let demangle = g.D.Demangler.demangled c.args.demangler.now in
    let s = with_batch before b in
    let loaded = orderly-loads s (orderly-grows before b is.orderly) in
    let read = numbers_of (words_of c.add_files.new.flags) in
    let added = c.in_ok-add_files.ensures.added w done before c.args.link.now.resolver.known is ready in
    let none = c.in_ok-add_files.ensures.cause w done before c.args.link.now.resolver.known is ready in
    let next = next-stage platform demangle w done b before (seen c.args.link.now.db) (seen c.add_files.new.db) (numbers_of (words_of c.args.link.now.flags)) read c.args.link.now.resolver.known is ready added in
    let e = c.in_ok-load_batch.ensures in (
      selection_of s loaded.0,
      held-next platform demangle w done b before (seen c.add_files.new.db) read (numbers_of (words_of c.load_batch.new.flags)) c.load_batch.new.self loaded.0 is added none loaded.1
          (e.cause demangle s next loaded.0 loaded.1 (fine-grows before b is.orderly is.fine)) (e.selection demangle s next loaded.0 loaded.1)
          (e.marked demangle s next loaded.0 loaded.1 added.flags),
    )

-- another batch may come
pub returns-clause-steady : goal.returns-clause-steady
returns-clause-steady g c =
    let e = c.in_ok-load_batch.ensures in
    record {
      table = c.in_ok-add_files.ensures.room.table;
      flags = e.flags ∙ c.in_ok-add_files.ensures.room.flags;
      listed = let l = c.in_ok-add_files.ensures.listed in record { lists = record { plain = l.lists.plain; versioned = l.lists.versioned }; added = l.added };
      targets = e.targets;
    }

-- there is room for the rest
pub returns-clause-room : goal.returns-clause-room
returns-clause-room g c =
    let room = c.in_ok-add_files.ensures.room in
    record { table = room.table; flags = c.in_ok-load_batch.ensures.flags ∙ room.flags; groups = room.groups; fits = room.fits }
