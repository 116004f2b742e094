-- Requests are what references of loaded objects ask for, and edges among them lead as far as these do.
use Rattle.std.proofs.Common.{◌≡◌, ℕ, ◌+◌, List, cond, refl, sym, ◌∙◌, ap, subst, arith, Some, None, Option, Contains, slice_get}
use Rattle.std.specs.Prelude.{option_and_then, option_map}
use Rattle.link_db_files.specs.Sources.{sources_of}
use Rattle.link_db_symbols.specs.Lookups.{target_at}
use Rattle.link_input.specs.Symbols.{Symbol, object_in}
use Rattle.link_resolve_requests.specs.Requests.{request_by}
use Rattle.link_resolve_requests.proofs.Asking.{asked-by}
use Rattle.link_rules.specs.Undefined.{is_weak_symbol}
use Rattle.link_rules.specs.Reasons.{LoadsBy, asked_for}
use Rattle.link_rules.specs.Selection.{Selection}
use Rattle.link_rules.proofs.Settled.{none_some, some_same}
use Rattle.link_resolve_reasons.specs.declared.requests.Request.{Request}
use Rattle.link_resolve_reasons.specs.Requests.{request_in, requests_in}
use Rattle.link_resolve_reasons.proofs.Lists.{given-at, given-in}

-- what stands behind a step, where something does
step_some : {X Y : Type 0} (h : X → Option Y) (o : Option X) (y : Y) → option_and_then h o ≡ Some y → (x : X) × (o ≡ Some x) × (h x ≡ Some y)
step_some h None y is = absurd (none_some y is)
step_some h (Some x) y is = (x, refl, is)

mapped_some : {X Y : Type 0} (h : X → Y) (o : Option X) (y : Y) → option_map h o ≡ Some y → (x : X) × (o ≡ Some x) × (h x ≡ y)
mapped_some h None y is = absurd (none_some y is)
mapped_some h (Some x) y is = (x, refl, some_same (h x) y is)

-- a request has the id of its reference
pub numbered : (sources : _) (targets : List (Option ℕ)) (s : ℕ) (x : Symbol) (q : Request) → request_in sources targets s x ≡ Some q → q.symbol ≡ s
numbered sources targets s x q is =
    let from = step_some _ (object_in x.origin) q is in
    let to = mapped_some _ (request_by sources x (target_at targets s)) q from.2 in
    ap (λ (r : Request). r.symbol) (sym to.2)

module _ (l : Selection) where
  -- what is asked for, told by sources
  asks-by : (s : ℕ) (u : Symbol) → request_by (sources_of l.stage.symbols) u (target_at l.targets s) ≡ asked_for l s u
  asks-by s u = ap (cond (is_weak_symbol u) None) (asked-by l.stage u (target_at l.targets s))

  -- a request is a reference that asks for an object
  pub request-loads : (q : Request) → Contains (requests_in l.targets l.stage.symbols) q → LoadsBy l q.symbol q.from q.to
  request-loads q within =
      let it = given-at (request_in (sources_of l.stage.symbols) l.targets) 0 l.stage.symbols q within in
      let from = step_some _ (object_in it.1.origin) q it.3 in
      let to = mapped_some _ (request_by (sources_of l.stage.symbols) it.1 (target_at l.targets (0 + it.0))) q from.2 in
      let id : q.symbol ≡ 0 + it.0 = ap (λ (r : Request). r.symbol) (sym to.2) in
      let place : q.symbol ≡ it.0 = omega arith in (
        it.1,
        subst (λ k. slice_get l.stage.symbols k ≡ Some it.1) (sym place) it.2,
        from.1 ∙ ap (λ (r : Request). Some r.from) to.2,
        sym (asks-by q.symbol it.1) ∙ ap (λ k. request_by (sources_of l.stage.symbols) it.1 (target_at l.targets k)) id ∙ to.1 ∙ ap (λ (r : Request). Some r.to) to.2,
      )

  -- a reference that asks for an object is a request
  pub loads-request : (s f g : ℕ) → LoadsBy l s f g → Contains (requests_in l.targets l.stage.symbols) (record { symbol = s; from = f; to = g })
  loads-request s f g (u, at, in_it, is) =
      let e : s ≡ 0 + s = omega arith in
      let gives : request_in (sources_of l.stage.symbols) l.targets s u ≡ Some (record { symbol = s; from = f; to = g }) =
      ap (option_and_then (λ (k : ℕ). option_map (λ (m : ℕ). record { symbol = s; from = k; to = m }) (request_by (sources_of l.stage.symbols) u (target_at l.targets s)))) in_it
      ∙ ap (option_map (λ (m : ℕ). record { symbol = s; from = f; to = m })) (asks-by s u ∙ is) in
      given-in (request_in (sources_of l.stage.symbols) l.targets) 0 l.stage.symbols s u (record { symbol = s; from = f; to = g }) at
      (subst (λ k. request_in (sources_of l.stage.symbols) l.targets k u ≡ Some (record { symbol = s; from = f; to = g })) e gives)
