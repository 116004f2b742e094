-- The names and bits of a symbol's flags.
use Rattle.std.specs.Prelude.{ℕ, List, [], ◌∷◌, codes}
use Rattle.link_flags.specs.FlagBits as bit

-- the name and the bit of each flag, in bit order
unfoldable pub flag_table : List (List ℕ × ℕ)
flag_table =
    (codes "ABSOLUTE", bit.absolute) ∷ (codes "DYNAMIC", bit.dynamic) ∷ (codes "IFUNC", bit.ifunc)
    ∷ (codes "NON_INTERPOSABLE", bit.non_interposable) ∷ (codes "DOWNGRADE_TO_LOCAL", bit.downgrade_to_local) ∷ (codes "DYNAMIC_FUNCTION", bit.dynamic_function)
    ∷ (codes "DIRECT", bit.direct) ∷ (codes "GOT", bit.got) ∷ (codes "PLT", bit.plt)
    ∷ (codes "GOT_TLS_MODULE", bit.got_tls_module) ∷ (codes "GOT_TLS_OFFSET", bit.got_tls_offset) ∷ (codes "GOT_TLS_DESCRIPTOR", bit.got_tls_descriptor)
    ∷ (codes "EXPORT_DYNAMIC", bit.export_dynamic) ∷ (codes "COPY_RELOCATION", bit.copy_relocation) ∷ (codes "IFUNC_GOT_FOR_ADDRESS", bit.ifunc_got_for_address)
    ∷ (codes "HAS_RANGE_LIMITED_REL", bit.has_range_limited_rel) ∷ (codes "HAS_NON_IR_REF", bit.has_non_ir_ref) ∷ (codes "CANONICAL_PLT", bit.canonical_plt)
    ∷ (codes "GOT_FOR_PLT_ENTRY", bit.got_for_plt_entry) ∷ (codes "SYMBOL_SIZE", bit.symbol_size) ∷ (codes "UNDEFINED_WEAK", bit.undefined_weak)
    ∷ (codes "GROUP_SIGNATURE", bit.group_signature) ∷ []
