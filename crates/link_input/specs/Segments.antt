-- Segments by name.
use Rattle.std.specs.Prelude.{ℕ, List, codes, if◌then◌else◌}
use Rattle.std.specs.Str.{bytes_eq}
use Rattle.link_input.specs.declared.segment_name.SegmentName.{SegmentName}
use Rattle.link_input.specs.declared.segment_name.SegmentName.TheVariants.{Text, Rodata, Data, Bss, Other}

-- the segment of a name
abbrev pub segment_of : List ℕ → SegmentName
segment_of name =
    if bytes_eq name (codes "text") then Text
    else (if bytes_eq name (codes "rodata") then Rodata
    else (if bytes_eq name (codes "data") then Data else (if bytes_eq name (codes "bss") then Bss else Other)))
