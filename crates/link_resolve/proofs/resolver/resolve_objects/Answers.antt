use Rattle.std.proofs.Common.{◌∙◌, ℕ, Bool, List, Option, ap, length, subst, sym}
use Rattle.link_resolve_extraction.specs.Requests.{requests_of}
use Rattle.link_db_files.specs.GroupFiles.{symbols_in}
use Rattle.link_db_files.specs.HeldFiles.{HeldFiles}
use Rattle.link_db.proofs.Causes.{tells-through}
use Rattle.link_rules.specs.Refusals.{group_refusal}
use Rattle.link_rules.specs.Selection.{selection_of}
use Rattle.link_db_symbols.specs.Lookups.{AreBelow}
use Rattle.link_resolve_extraction.specs.Answer.{AreFoundBelow}
use Rattle.link_resolve_extraction.specs.declared.found.FoundItem.{FoundItem}
use Rattle.link_db.specs.Database.{symbol_names}
use Rattle.link_db.specs.Seen.{seen}
use Rattle.link_resolve.specs.Known.{Known}
use Rattle.link_resolve.proofs.Loaded.{known-is, read-as, strengths-are}
use Rattle.link_resolve.proofs.resolver.resolve_objects.Goals as goal

-- a section of a loaded regular object that is a member twice
pub returns-in_err-found-clause-cause : goal.returns-in_err-found-clause-cause
returns-in_err-found-clause-cause g c = λ demangle w is marks loaded.
    tells-through _ (group_refusal (selection_of w marks)) c.in_err-found.field-0.0 c.from_residual.result c.from_residual.ensures.0 c.from_residual.ensures.1 (c.in_err-found.ensures.cause demangle w is marks loaded)

pub returns-clause-known : goal.returns-clause-known
returns-clause-known g c = λ demangle w is marks loaded.
    let found = c.in_ok-found.found in
    let own = c.in_ok-found.ensures.found.loaded demangle w is in
    let symbols = ap (λ (h : HeldFiles g.row.P.Denot). symbols_in h.groups) c.files.ensures ∙ sym is.stage.symbols in
    let are = c.in_ok-found.ensures.groups demangle w is found.loaded.items own in
    let strengths = strengths-are w found.loaded.items c.deref-2.result.now (symbols_in c.files.result.now.groups) c.in_ok-found.groups c.in_ok-strengths.strengths.items are c.deref-2.ensures.value symbols c.in_ok-strengths.ensures in
    let targets = c.in_ok-targets.targets.items in
    let read = read-as c.num_symbols.result (length (symbol_names (seen c.args.db.now))) c.targets.result.now c.args.earlier.now.targets c.deref.result.now found.found.items targets
    c.num_symbols.ensures.value c.targets.ensures c.deref.ensures.value c.in_ok-targets.ensures.read in
    c.new-resolved.ensures ∙ known-is w marks found.loaded.items targets c.in_ok-strengths.strengths.items own loaded (c.in_ok-found.ensures.found.targets demangle w is targets read) strengths

-- all of them are symbols
pub returns-clause-below : goal.returns-clause-below
returns-clause-below g c =
    let n = length (symbol_names (seen c.args.db.now)) in
    let settled = subst (λ (ts : List (Option ℕ)). AreBelow n ts) (sym c.targets.ensures) c.requires.targets in
    let found = subst (λ (fs : List (Option FoundItem)). AreFoundBelow n fs) (sym c.deref.ensures.value) c.in_ok-found.ensures.found.below in
    subst (λ (k : Known). AreBelow n k.targets) (sym c.new-resolved.ensures) (c.in_ok-targets.ensures.below n settled found)

pub returns-clause-read : goal.returns-clause-read
returns-clause-read g c =
    let read = c.in_ok-found.ensures.found.read in
    let marks = ap (λ (k : Known). k.marks) (sym c.new-resolved.ensures) in
    record {
      work = read.work;
      symbols = read.symbols;
      all = read.all;
      counted = record {
        requests = read.counted.requests ∙ ap (λ (ms : List Bool). requests_of c.in_ok-found.found.read.closed.view.work ms) marks;
        readers = read.counted.readers;
      };
    }
