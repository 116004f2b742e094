use Rattle.std.proofs.Common.{◌∙◌, List, Option, ap, is_none, subst, sym}
use Rattle.std.specs.Borrow.{Bor}
use Rattle.link_db_texts.specs.Holds.{AreRulesOf, platform_of}
use Rattle.link_rules.specs.Places.{Bytes}
use Rattle.link_resolve.proofs.Giving.{none-told}
use Rattle.link_resolve.proofs.versions.has_regular_script.Goals as goal

pub returns : goal.returns
returns g c = λ demangle rules are.
    none-told (λ (names : Bor (List Bytes)). names.now) c.rust_names.result c.is_none.result c.is_none.ensures
    ∙ ap (λ (o : Option (List Bytes)). is_none o) (c.rust_names.ensures demangle rules (subst (λ read. AreRulesOf (platform_of g.P.Platform) demangle read rules) (sym c.rules.ensures) are))
