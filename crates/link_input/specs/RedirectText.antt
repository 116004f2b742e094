-- What is said of redirects.
use Rattle.std.specs.Prelude.{ℕ, Bool, true, false, List, ◌++◌, codes}
use Rattle.link_names.specs.NameText.{name_text}
use Rattle.link_input.specs.declared.internal_symbols.RedirectKind.{RedirectKind}
use Rattle.link_input.specs.declared.internal_symbols.RedirectKind.TheVariants.{DefSym, Script, Provide}

-- it holds only where no other definition is
abbrev pub is_provide : RedirectKind → Bool
is_provide DefSym = false
is_provide Script = false
is_provide Provide = true

-- where it stood
abbrev pub kind_text : RedirectKind → List ℕ
kind_text DefSym = codes "--defsym"
kind_text Script = codes "linker script"
kind_text Provide = codes "linker script"

-- that the symbol it refers to doesn't exist
abbrev pub missing_target_text : RedirectKind → List ℕ → List ℕ
missing_target_text kind name =
    codes "Symbol '" ++ (name_text name ++ (codes "' referenced by " ++ (kind_text kind ++ codes " does not exist")))

-- that the symbol it refers to has no value
abbrev pub missing_resolution_text : RedirectKind → List ℕ → List ℕ
missing_resolution_text kind name =
    codes "Symbol '" ++ (name_text name ++ (codes "' referenced by " ++ (kind_text kind ++ codes " has no resolution.")))
