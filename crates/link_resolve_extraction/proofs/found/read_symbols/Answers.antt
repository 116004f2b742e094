use Rattle.std.proofs.Common.{◌≡◌, ◌∙◌, ◌++◌, ◌<◌, ◌≤◌, ℕ, List, ap, append-nil, arith, length, map, sym}
use Rattle.std.specs.List.{flat_map}
use Rattle.std.proofs.lemmas.List.{drop_all}
use Rattle.std.proofs.lemmas.List.FromFn.{length-enumerate_from}
use Rattle.link_input.specs.Symbols.{Symbol}
use Rattle.link_db_symbols.specs.Walk.{with_ids}
use Rattle.link_db.specs.Seen.{seen}
use Rattle.link_resolve_extraction.specs.Asked.{Known, found_mark, found_target, known_by, marks_by, requests_by, targets_by}
use Rattle.link_resolve_extraction.proofs.Unasked.{joined_more, there_is}
use Rattle.link_resolve_extraction.proofs.found.read_symbols.Goals as goal

-- a symbol more
pub loop-at-preserved : goal.loop-at-preserved
loop-at-preserved g c =
    let known : Known = known_by g.P.Platform.WEAK_SYMBOLS_OVERRIDE_COMMON (seen c.args.db.now) c.args.settled.now in
    let all : List (ℕ × Symbol) = with_ids c.args.symbols.now in
    let i = c.loop-at.at in
    let count : length all ≡ length c.args.symbols.now.left = length-enumerate_from c.args.symbols.now.next c.args.symbols.now.left in
    let below : i < length all = omega (arith, count, c.loop-at-test.true, c.len-at-end.ensures) in
    let s = there_is all i below in (
      joined_more (requests_by known) all i s.0 _ _ _ s.1 (c.in_ok-read_at.ensures.requests s.0 s.1) c.loop-at.invariant.0,
      joined_more (targets_by known) all i s.0 _ _ _ s.1 (c.in_ok-read_at.ensures.targets s.0 s.1) c.loop-at.invariant.1,
      joined_more (marks_by known) all i s.0 _ _ _ s.1 (c.in_ok-read_at.ensures.marks s.0 s.1) c.loop-at.invariant.2,
    )

-- no symbol is left
pub returns : goal.returns
returns g c =
    let known : Known = known_by g.P.Platform.WEAK_SYMBOLS_OVERRIDE_COMMON (seen c.args.db.now) c.args.settled.now in
    let all : List (ℕ × Symbol) = with_ids c.args.symbols.now in
    let i = c.loop-at.at in
    let count : length all ≡ length c.args.symbols.now.left = length-enumerate_from c.args.symbols.now.next c.args.symbols.now.left in
    let past : length all ≤ i = omega (arith, count, c.loop-at-test.false, c.len-at-end.ensures) in
    let none = sym (drop_all i all past) in
    let requests = c.loop-at.requests.items in
    let targets = map found_target c.loop-at.references.items in
    let marks = map found_mark c.loop-at.references.items in
    record {
      read = record {
        requests = sym (append-nil requests) ∙ (ap (λ (l : List (ℕ × Symbol)). requests ++ flat_map (requests_by known) l) none ∙ c.loop-at.invariant.0);
        targets = sym (append-nil targets) ∙ (ap (λ (l : List (ℕ × Symbol)). targets ++ flat_map (targets_by known) l) none ∙ c.loop-at.invariant.1);
        marks = sym (append-nil marks) ∙ (ap (λ (l : List (ℕ × Symbol)). marks ++ flat_map (marks_by known) l) none ∙ c.loop-at.invariant.2);
      };
    }
