-- Names in a block of bytes.
use Rattle.std.specs.Prelude.{ℕ, ◌≡◌, ◌+◌, ◌≤◌, List, length, take, drop, Option, Some, None, ⊤}
use Rattle.link_input.specs.declared.name_block.Span.{Span}

-- the bytes that stand at a span
abbrev pub bytes_at : List ℕ → Span → List ℕ
bytes_at block span = take span.len (drop span.start block)

-- the span lies in the block
abbrev pub IsInside : List ℕ → Span → Type 0
IsInside block span = span.start + span.len ≤ length block

-- the name stands at the span
abbrev pub IsAt : List ℕ → Span → List ℕ → Type 0
IsAt block span name = IsInside block span × (bytes_at block span ≡ name)

-- the version stands at the span; neither is there, or both are
abbrev pub IsVersionAt : List ℕ → Option Span → Option (List ℕ) → Type 0
IsVersionAt block None None = ⊤
IsVersionAt block None (Some version) = ⊥
IsVersionAt block (Some span) None = ⊥
IsVersionAt block (Some span) (Some version) = IsAt block span version

-- what stood at a span of the old block stands there in the new one
abbrev pub Keeps : List ℕ → List ℕ → Type 0
Keeps old new = (span : Span) (name : List ℕ) → IsAt old span name → IsAt new span name
