use Rattle.std.proofs.Common.{◌∙◌, [], ap, arith, refl, subst, sym}
use Rattle.link_db_files.specs.GroupFiles.{symbols_in}
use Rattle.link_db_mapping.specs.Mapped.{AreListed, Mapped}
use Rattle.link_tests_core.proofs.loading.add_files.Goals as goal

-- no batch was added before
pub add_inputs-requires-clause-held : goal.add_inputs-requires-clause-held
add_inputs-requires-clause-held g c = λ _ _. ([], ap (λ (m : Mapped _). m.files.groups) c.requires.mapping, omega arith)

-- the definitions of names are listed
pub returns-clause-listed : goal.returns-clause-listed
returns-clause-listed g c =
    let lists = c.in_ok-add_inputs.ensures.lists
    (subst (λ (m : Mapped _). AreListed (symbols_in m.files.groups) m) (sym c.requires.mapping) (record { plain = λ name. refl; versioned = λ name version. refl })) in
    record {
      lists = record { plain = lists.plain; versioned = lists.versioned };
      added = c.in_ok-add_inputs.ensures.grown.added ∙ ap (λ (m : Mapped _). m.files.added) c.requires.mapping;
    }
