-- The output sections that the linker's own symbols stand at.
use Rattle.std.specs.Prelude.{ℕ, Option, Some, None}
use Rattle.link_input.specs.declared.internal_symbols.SymbolLoc.{SymbolLoc}
use Rattle.link_input.specs.declared.internal_symbols.SymbolLoc.TheVariants as loc
use Rattle.link_input.specs.declared.internal_symbols.SymbolPlacement.{SymbolPlacement}
use Rattle.link_input.specs.declared.internal_symbols.SymbolPlacement.TheVariants as placement

-- the section of a location
abbrev pub loc_section : SymbolLoc → Option ℕ
loc_section (loc.SectionStartRelative n) = Some n
loc_section (loc.SectionEndRelative n) = Some n
loc_section (loc.SectionEnd n) = Some n
loc_section loc.FirstSection = None
loc_section (loc.LocationCounter c) = c.section
loc_section loc.None = None

-- the section that a value is relative to
abbrev pub relative_section : SymbolLoc → Option ℕ
relative_section (loc.SectionStartRelative n) = Some n
relative_section (loc.SectionEndRelative n) = Some n
relative_section (loc.SectionEnd n) = None
relative_section loc.FirstSection = None
relative_section (loc.LocationCounter c) = c.section
relative_section loc.None = None

-- the section of a placement, a redirect's by its location
abbrev pub placement_section : SymbolPlacement → Option ℕ
placement_section placement.Undefined = None
placement_section (placement.SectionStart n) = Some n
placement_section (placement.SectionEnd n) = Some n
placement_section (placement.TlsEnd n) = Some n
placement_section (placement.SectionGroupEnd n) = Some n
placement_section placement.ForceUndefined = None
placement_section (placement.Redirect r) = loc_section r.loc
placement_section placement.LoadBaseAddress = None
placement_section placement.PlatformSpecific = None
