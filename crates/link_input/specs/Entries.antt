-- What an entry of a symbol table says (ELF gABI, "Symbol Table").
use Rattle.std.specs.Prelude.{ℕ, Bool, true, false, Option, Some, None}
use Rattle.link_flags.specs.declared.visibility.Visibility.{Visibility}
use Rattle.link_flags.specs.declared.visibility.Visibility.TheVariants.{Default, Protected, Hidden}
use Rattle.link_input.specs.declared.symbol_entry.Place.{Place}
use Rattle.link_input.specs.declared.symbol_entry.Place.TheVariants.{Undefined, Absolute, Common, Section}
use Rattle.link_input.specs.declared.symbol_entry.SymbolBinding.{SymbolBinding}
use Rattle.link_input.specs.declared.symbol_entry.SymbolBinding.TheVariants.{Local, Global, Weak, Unique}
use Rattle.link_input.specs.declared.symbol_entry.SymbolKind.{SymbolKind}
use Rattle.link_input.specs.declared.symbol_entry.SymbolKind.TheVariants.{Plain, Func, Ifunc, Tls}

-- it stands in no file yet
abbrev pub is_undefined : Place → Bool
is_undefined Undefined = true
is_undefined Absolute = false
is_undefined Common = false
is_undefined (Section n) = false

-- it stands at a fixed value
abbrev pub is_absolute : Place → Bool
is_absolute Undefined = false
is_absolute Absolute = true
is_absolute Common = false
is_absolute (Section n) = false

-- it stands in space that the linker has still to set aside
abbrev pub is_common : Place → Bool
is_common Undefined = false
is_common Absolute = false
is_common Common = true
is_common (Section n) = false

-- the section that it stands in
abbrev pub section_of : Place → Option ℕ
section_of Undefined = None
section_of Absolute = None
section_of Common = None
section_of (Section n) = Some n

-- it is a function
abbrev pub is_func : SymbolKind → Bool
is_func Plain = false
is_func Func = true
is_func Ifunc = false
is_func Tls = false

-- it is a resolver, which answers a function's address at run time
abbrev pub is_ifunc : SymbolKind → Bool
is_ifunc Plain = false
is_ifunc Func = false
is_ifunc Ifunc = true
is_ifunc Tls = false

-- each thread has its own
abbrev pub is_tls : SymbolKind → Bool
is_tls Plain = false
is_tls Func = false
is_tls Ifunc = false
is_tls Tls = true

-- other files do not see it
abbrev pub is_local : SymbolBinding → Bool
is_local Local = true
is_local Global = false
is_local Weak = false
is_local Unique = false

-- it yields to a definition that is not weak
abbrev pub is_weak : SymbolBinding → Bool
is_weak Local = false
is_weak Global = false
is_weak Weak = true
is_weak Unique = false

-- there is one for the whole process
abbrev pub is_unique : SymbolBinding → Bool
is_unique Local = false
is_unique Global = false
is_unique Weak = false
is_unique Unique = true

-- other modules do not see it
abbrev pub is_hidden : Visibility → Bool
is_hidden Default = false
is_hidden Protected = false
is_hidden Hidden = true
