use Rattle.std.proofs.Common.{◌≡◌, List, [], ◌∷◌, ◌++◌, ◌∙◌, sym, subst, arith}
use Rattle.link_input.specs.declared.options.Options.{Options}
use Rattle.link_input.specs.InputFiles.{Batch, batch_of}
use Rattle.link_input_groups.specs.declared.group.Group.{Group}
use Rattle.link_input_groups.specs.Held.{AreGroupsOf}
use Rattle.link_tests_tables.proofs.groups.grouped_twice.Goals as goal

-- the groups of a first batch, behind none
behind-none : {P : Type 0} (options : Options) (batch : Batch) (none groups held : List (Group P)) → none ≡ [] → held ≡ groups → AreGroupsOf options (batch ∷ []) (none ++ groups) → AreGroupsOf options (batch ∷ []) held
behind-none {P} options batch none groups held is_none is are =
    let F : List (Group P) → Type 0 = λ l. AreGroupsOf options (batch ∷ []) (l ++ groups) in
    let G : List (Group P) → Type 0 = λ l. AreGroupsOf options (batch ∷ []) l in
    subst G (sym is) (subst F is_none are)

pub create_groups-requires-2-clause-held : goal.create_groups-requires-2-clause-held
create_groups-requires-2-clause-held c =
    let is_none : c.as_slice.result.now ≡ [] = c.as_slice.ensures.value ∙ c.new-none.ensures.items in
    let first = batch_of c.args.first in
    (first ∷ [], behind-none c.args.options.now first c.as_slice.result.now c.in_ok-groups.groups.items c.as_slice-2.result.now is_none c.as_slice-2.ensures.value (c.in_ok-groups.ensures.follow [] is_none), omega arith)
