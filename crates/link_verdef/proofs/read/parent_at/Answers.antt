use Rattle.std.proofs.Common.{◌≡◌, ◌∙◌, ◌<◌, ◌^◌, List, ℕ, Option, Some, length, sym}
use Rattle.std.proofs.lemmas.Option.{MatchOption-at_some}
use Rattle.std.specs.List.{slice_index}
use Rattle.link_verdef.specs.Reading.{TellsParent}
use Rattle.link_verdef.specs.Records.{verdef_of}
use Rattle.link_verdef.proofs.Shape.{alone, count_fits, extending, item_bytes_then, own_fits, own_name}
use Rattle.link_verdef.proofs.read.parent_at.Goals as goal

pub returns-in_err-vd_cnt : goal.returns-in_err-vd_cnt
returns-in_err-vd_cnt c count number place item more h short tells =
    absurd (c.in_err-vd_cnt.ensures (verdef_of count number item) _ (h ∙ item_bytes_then count number place item more) (count_fits item.parent))

pub returns-in_err-behind : goal.returns-in_err-behind
returns-in_err-behind c count number place item more h short tells =
    let definition = c.in_ok-vd_cnt.ensures (verdef_of count number item) _ (h ∙ item_bytes_then count number place item more) (count_fits item.parent) in
    absurd (c.in_err-behind.ensures (own_name place number item.parent) _ definition.1 (own_fits place number item.parent short))

pub returns-then-vd_cnt-eq1 : goal.returns-then-vd_cnt-eq1
returns-then-vd_cnt-eq1 c count number place item more h short tells =
    let definition = c.in_ok-vd_cnt.ensures (verdef_of count number item) _ (h ∙ item_bytes_then count number place item more) (count_fits item.parent) in
    let own = c.in_ok-behind.ensures (own_name place number item.parent) _ definition.1 (own_fits place number item.parent short) in
    alone place item.parent _ _ more definition.0 c.if-vd_cnt-eq1.true own.1

pub returns-in_err-place : goal.returns-in_err-place
returns-in_err-place c count number place item more h short tells =
    let definition = c.in_ok-vd_cnt.ensures (verdef_of count number item) _ (h ∙ item_bytes_then count number place item more) (count_fits item.parent) in
    let own = c.in_ok-behind.ensures (own_name place number item.parent) _ definition.1 (own_fits place number item.parent short) in
    let (p, is, e) = extending place item.parent _ _ more definition.0 c.if-vd_cnt-eq1.false own.1 in
    absurd (c.in_err-place.ensures (record { vda_name = place p; vda_next = 0 }) more e (MatchOption-at_some _ (λ p. place p < 2 ^ 32) p is tells.short))

-- what rising places tell of a parent
told : (places : List ℕ) (place : ℕ → ℕ) (parent : Option ℕ) (p : ℕ) → TellsParent places place parent → parent ≡ Some p
    → (p < length places) × (p < 2 ^ 16) × (slice_index places p ≡ place p)
told places place parent p tells is = (
  MatchOption-at_some _ (λ p. p < length places) p is tells.among,
  MatchOption-at_some _ (λ p. p < 2 ^ 16) p is tells.few,
  MatchOption-at_some _ (λ p. slice_index places p ≡ place p) p is tells.same,
)

pub returns-in_err-parent : goal.returns-in_err-parent
returns-in_err-parent c count number place item more h short tells =
    let definition = c.in_ok-vd_cnt.ensures (verdef_of count number item) _ (h ∙ item_bytes_then count number place item more) (count_fits item.parent) in
    let own = c.in_ok-behind.ensures (own_name place number item.parent) _ definition.1 (own_fits place number item.parent short) in
    let (p, is, e) = extending place item.parent _ _ more definition.0 c.if-vd_cnt-eq1.false own.1 in
    let name = c.in_ok-place.ensures (record { vda_name = place p; vda_next = 0 }) more e (MatchOption-at_some _ (λ p. place p < 2 ^ 32) p is tells.short) in
    let (among, few, same) = told c.args.places.now place item.parent p tells is in
    cc (c.in_err-parent.ensures p tells.rising among few (same ∙ sym name.0))

pub returns : goal.returns
returns c count number place item more h short tells =
    let definition = c.in_ok-vd_cnt.ensures (verdef_of count number item) _ (h ∙ item_bytes_then count number place item more) (count_fits item.parent) in
    let own = c.in_ok-behind.ensures (own_name place number item.parent) _ definition.1 (own_fits place number item.parent short) in
    let (p, is, e) = extending place item.parent _ _ more definition.0 c.if-vd_cnt-eq1.false own.1 in
    let name = c.in_ok-place.ensures (record { vda_name = place p; vda_next = 0 }) more e (MatchOption-at_some _ (λ p. place p < 2 ^ 32) p is tells.short) in
    let (among, few, same) = told c.args.places.now place item.parent p tells is in
    (c.in_ok-parent.ensures p tells.rising among few (same ∙ sym name.0) ∙ sym is, name.1)
