use Rattle.std.proofs.Common.{◌≡◌, ◌+◌, ◌<◌, ◌∷◌, [], ◌∙◌, ℕ, Bool, List, Option, drop, length, ap, sym, arith}
use Rattle.std.specs.Prelude.{◌||◌}
use Rattle.std.specs.List.{list_any}
use Rattle.std.specs.Option.{option_and_then}
use Rattle.std.proofs.lemmas.List.{drop_all}
use Rattle.std.proofs.Math.Bool.{or-false, or_assoc}
use Rattle.link_closure.specs.Closure.{is_marked}
use Rattle.link_db_texts.proofs.Forced.{rest_is}
use Rattle.link_rules.specs.Loading.{holds_name}
use Rattle.link_rules.specs.Names.{first_definition}
use Rattle.link_rules.specs.Places.{Bytes, is_number}
use Rattle.link_rules.specs.World.{object_of}
use Rattle.link_resolve_requests.proofs.roots.mark_holders.Goals as goal

-- one name more
pub loop-name-preserved : goal.loop-name-preserved
loop-name-preserved g c = λ demangle w at sources f lt.
    let names = c.args.names.now in
    let i = c.loop-name.name-index in
    let name = c.name-item.result in
    let old = is_marked c.loop-name.marks f in
    let inside : f < length c.loop-name.marks = omega (arith, lt, c.loop-name.auto.marks) in
    let next : drop i names ≡ name ∷ drop (i + 1) names = rest_is names i name c.loop-name-test.true c.name-item.is in
    let rest = list_any (holds_name w f) (drop (i + 1) names) in
    let held : c.object_of_name.result ≡ option_and_then (object_of w) (first_definition w name) = c.object_of_name.ensures demangle w at sources in
    let marked : is_marked c.mark.new.marks f ≡ (old || holds_name w f name) = c.mark.ensures f inside ∙ ap (λ (o : Option ℕ). old || is_number o f) held in
    ap (λ (b : Bool). b || rest) marked ∙ (or_assoc old (holds_name w f name) rest
    ∙ (ap (λ (l : List Bytes). old || list_any (holds_name w f) l) (sym next) ∙ c.loop-name.invariant demangle w at sources f lt))

-- no name is left
pub returns : goal.returns
returns g c = λ demangle w at sources f lt.
    let names = c.args.names.now in
    let old = is_marked c.loop-name.marks f in
    let none : drop c.loop-name.name-index names ≡ [] = drop_all c.loop-name.name-index names (omega (arith, c.loop-name-test.false)) in
    sym (or-false old) ∙ (ap (λ (l : List Bytes). old || list_any (holds_name w f) l) (sym none) ∙ c.loop-name.invariant demangle w at sources f lt)
