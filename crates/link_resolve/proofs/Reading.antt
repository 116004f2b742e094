-- The words that threads shared as they read the next batch, at a stage.
use Rattle.std.proofs.Common.{◌≡◌, ◌∙◌, ℕ, [], Bool, List, ap, length, sym}
use Rattle.link_claim.specs.Seats.{claimed_in}
use Rattle.link_closure.specs.declared.workload.Workload.{Workload}
use Rattle.link_db.specs.Database.{Database}
use Rattle.link_resolve_extraction.proofs.AnswerFlags.{claimed-are, flags-are, work-is}
use Rattle.link_resolve_extraction.specs.Answer.{with_closed_flags}
use Rattle.link_resolve_extraction.specs.Planned.{opening_of}
use Rattle.link_resolve_extraction.specs.Requests.{requests_of}
use Rattle.link_resolve_extraction.specs.declared.loading.BatchRead.{BatchRead}
use Rattle.link_rules.proofs.WorldOnce.{one-loaded}
use Rattle.link_rules.specs.Loading.{IsLoaded}
use Rattle.link_rules.specs.Marking.{flags_before, marked_flags}
use Rattle.link_rules.specs.Places.{Bytes, each_from}
use Rattle.link_rules.specs.Rules.{PlatformRules}
use Rattle.link_rules.specs.Selection.{selection_of}
use Rattle.link_rules.specs.Work.{workload_of}
use Rattle.link_rules.specs.World.{Stage}
use Rattle.link_resolve.specs.Known.{Known}
use Rattle.link_resolve.specs.NextBatch.{AreMarkedAt, IsReadNext}
use Rattle.link_resolve.specs.Resolving.{IsNextStage}
use Rattle.link_resolve.proofs.Loaded.{all-named}

-- the work that was read, with flags for as many symbols as the stage has
of-stage : {P : Type 0} (platform : PlatformRules) (demangle : Bytes → Bytes) (db : Database P) (known : Known) (w : Stage) (before : List ℕ) (workers : ℕ) (own : List Bool) (read : BatchRead)
    → db.mapping.files.added ≡ [] → IsNextStage platform demangle db known w → IsReadNext platform db known before workers own read
    → read.closed.view.work ≡ record (workload_of w) { opening = opening_of (length w.symbols) before }
of-stage platform demangle db known w before workers own read none next is =
    is.work demangle w next ∙ ap (λ n. record (workload_of w) { opening = opening_of n before }) (all-named db none ∙ ap length (sym next.stage.symbols))

-- the words are of the work of this stage
pub work-at : {P : Type 0} (platform : PlatformRules) (demangle : Bytes → Bytes) (db : Database P) (known : Known) (w : Stage) (before : List ℕ) (workers : ℕ) (own : List Bool) (read : BatchRead)
    → db.mapping.files.added ≡ [] → IsNextStage platform demangle db known w → IsReadNext platform db known before workers own read
    → before ≡ each_from (flags_before w) 0 w.symbols → read.closed.view.work ≡ workload_of w
work-at platform demangle db known w before workers own read none next is held =
    work-is w before read.closed next.orderly held (of-stage platform demangle db known w before workers own read none next is) is.all.settled

-- the closed flags are those that the marks of this stage make
pub marked-at : {P : Type 0} (platform : PlatformRules) (demangle : Bytes → Bytes) (db : Database P) (known : Known) (w : Stage) (before after : List ℕ) (workers : ℕ) (own marks : List Bool) (read : BatchRead)
    → db.mapping.files.added ≡ [] → IsNextStage platform demangle db known w → IsLoaded w marks → IsReadNext platform db known before workers own read
    → after ≡ with_closed_flags read.closed before → AreMarkedAt w marks before after
marked-at platform demangle db known w before after workers own marks read none next loaded is written = λ held.
    let words = read.closed in
    let read_of = of-stage platform demangle db known w before workers own read none next is in
    written
    ∙ (flags-are w before words next.orderly held read_of is.all.settled
    ∙ ap (λ (ms : List Bool). marked_flags (selection_of w ms)) (one-loaded w (claimed_in words) marks (claimed-are w _ words next.orderly (is.work demangle w next) is.all.settled) loaded))

-- as many requests are told as the work of this stage lists
pub requests-at : {P : Type 0} (platform : PlatformRules) (demangle : Bytes → Bytes) (db : Database P) (known : Known) (w : Stage) (before : List ℕ) (workers : ℕ) (own marks : List Bool) (read : BatchRead)
    → IsNextStage platform demangle db known w → own ≡ marks → IsReadNext platform db known before workers own read → read.requests ≡ requests_of (workload_of w) marks
requests-at platform demangle db known w before workers own marks read next same is =
    is.counted.requests
    ∙ (ap (λ (k : Workload). requests_of k own) (is.work demangle w next) ∙ ap (λ (ms : List Bool). requests_of (workload_of w) ms) same)
