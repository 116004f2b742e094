use Rattle.std.proofs.Common.{◌≡◌, ◌<◌, ◌≤◌, ◌+◌, ◌∙◌, ℕ, All, List, length, ap, sym, subst, arith}
use Rattle.std.proofs.lemmas.List.Elements.{All-append}
use Rattle.link_input.specs.declared.object.ObjectTable.{ObjectTable}
use Rattle.link_input.specs.ObjectFile.{ObjectFile}
use Rattle.link_resolve_discarded.specs.Signatures.{signatures_of}
use Rattle.link_resolve_discarded.proofs.Listing.{names-below}
use Rattle.link_resolve_discarded.proofs.signatures.push_object.Goals as goal

-- its signatures are symbols of its own
pub returns-in_ok-push_signatures-in-Some-clause-below : goal.returns-in_ok-push_signatures-in-Some-clause-below
returns-in_ok-push_signatures-in-Some-clause-below g c = λ count fits before.
    let Below : ℕ → Type 0 = λ s. s < count in
    let table = c.object-in-Some.result.now in
    let own = c.in-Some.groups.now in
    let same : table ≡ c.args.object.now.1.object = c.object-in-Some.ensures ∙ ap (λ (x : ℕ × ObjectFile). x.1.object) c.object.view_is in
    let room : c.args.first + length table.symbols ≤ count = omega (arith, fits, ap (λ (t : ObjectTable). length t.symbols) same) in
    subst (λ (ns : List ℕ). All Below ns) (sym c.in_ok-push_signatures-in-Some.ensures.ids)
    (All-append Below c.args.ids.now.items (signatures_of c.args.first own table.groups) before
    (names-below c.args.first (length table.symbols) count own table.groups room c.in_ok-push_signatures-in-Some.ensures.within))
