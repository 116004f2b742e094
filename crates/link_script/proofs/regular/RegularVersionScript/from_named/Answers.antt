use Rattle.std.proofs.Common.{subst, sym, ◌∙◌, ◌∷◌, List, [], ◌++◌, arith}
use Rattle.std.proofs.lemmas.Iterator.Consumers.{YieldsList-end}
use Rattle.std.proofs.lemmas.Iterator.Adapters.{YieldsList-from_vec}
use Rattle.std.proofs.lemmas.List.{map-id}
use Rattle.link_script_syntax.specs.declared.named.RawVersion.{RawVersion}
use Rattle.link_script.specs.Filter.{AreVersions}
use Rattle.link_script.specs.Regular.{base}
use Rattle.link_script.proofs.Reading.{are_more, are_as_many}
use Rattle.link_script.proofs.regular.RegularVersionScript.from_named.Goals as goal

pub named-preserved : goal.named-preserved
named-preserved c = subst (λ versions. AreVersions (base ∷ (c.named.yielded ++ c.in-Some.raw ∷ [])) versions) (sym c.in_ok-push-2.ensures.ok) (are_more (base ∷ c.named.yielded) c.named.versions c.in-Some.raw c.in_ok-from_raw.field-0 c.named.invariant c.in_ok-from_raw.ensures)

pub from_versions-requires : goal.from_versions-requires
from_versions-requires c =
    let g = c.into_iter-raw-iterator.ensures.into_iter_gives in
    let t = YieldsList-end (YieldsList-from_vec c.into_vec-raw-items.result.items g.0 (g.1 ∙ c.into_vec-raw-items.result.ok.0)) c.named.yielded c.named.raw-iterator c.named.yielded_by _ c.next.new.self c.in-None.is c.next.ensures.steps in
    let all = sym (map-id c.named.yielded) ∙ t.0 ∙ c.into_vec-raw-items.ensures in
    let are = subst (λ (xs : List RawVersion). AreVersions (base ∷ xs) c.named.versions) all c.named.invariant in
    let many = are_as_many (base ∷ c.args.named) c.named.versions are in
    let few = c.requires in
    omega arith
