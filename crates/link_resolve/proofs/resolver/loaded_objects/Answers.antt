use Rattle.std.proofs.Common.{◌∙◌, ℕ, List, Option, ap, length, min, subst, sym}
use Rattle.link_resolve_extraction.specs.Answer.{AreTargetsRead}
use Rattle.link_resolve_extraction.specs.Requests.{readers_of}
use Rattle.link_db.specs.Database.{symbol_names}
use Rattle.link_db.specs.Seen.{seen}
use Rattle.link_resolve.proofs.resolver.loaded_objects.Goals as goal

pub returns : goal.returns
returns g c =
    let e = c.in_ok-found.ensures in
    let found = c.in_ok-found.found in
    record {
      loaded = λ demangle w is. e.loaded demangle w is.stage (is.loaded ∙ sym c.loaded.ensures) (is.targets ∙ sym c.targets.ensures) is.orderly;
      targets = λ demangle w is targets read. e.targets demangle w is.stage (is.loaded ∙ sym c.loaded.ensures) (is.targets ∙ sym c.targets.ensures) is.orderly targets
          (subst (λ (ts : List (Option ℕ)). AreTargetsRead (length (symbol_names (seen c.args.db.now))) ts found.found.items targets) (sym c.targets.ensures) read);
      below = e.below;
      read = record {
        work = λ demangle w is. e.work demangle w is.stage (is.loaded ∙ sym c.loaded.ensures) (is.targets ∙ sym c.targets.ensures);
        symbols = e.symbols;
        all = record { read = e.read; settled = e.closed };
        counted = record {
          requests = e.requests;
          readers = e.readers ∙ ap (λ n. readers_of n (length found.read.closed.view.work.items)) (c.min-workers.ensures ∙ ap (λ n. min n 256) c.max.ensures);
        };
      };
    }
