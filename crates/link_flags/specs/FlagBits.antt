-- The bits of a symbol's flags.
use Rattle.std.specs.Prelude.{ℕ, Bool, ◌==◌, ◌+◌}
use Rattle.std.specs.Int.RustNames.{bit_and}

-- each flag's bit, in their order
abbrev pub absolute : ℕ
absolute = 1

abbrev pub dynamic : ℕ
dynamic = 2

abbrev pub ifunc : ℕ
ifunc = 4

abbrev pub non_interposable : ℕ
non_interposable = 8

abbrev pub downgrade_to_local : ℕ
downgrade_to_local = 16

abbrev pub dynamic_function : ℕ
dynamic_function = 32

abbrev pub direct : ℕ
direct = 64

abbrev pub got : ℕ
got = 128

abbrev pub plt : ℕ
plt = 256

abbrev pub got_tls_module : ℕ
got_tls_module = 512

abbrev pub got_tls_offset : ℕ
got_tls_offset = 1024

abbrev pub got_tls_descriptor : ℕ
got_tls_descriptor = 2048

abbrev pub export_dynamic : ℕ
export_dynamic = 4096

abbrev pub copy_relocation : ℕ
copy_relocation = 8192

abbrev pub ifunc_got_for_address : ℕ
ifunc_got_for_address = 16384

abbrev pub has_range_limited_rel : ℕ
has_range_limited_rel = 32768

abbrev pub has_non_ir_ref : ℕ
has_non_ir_ref = 65536

abbrev pub canonical_plt : ℕ
canonical_plt = 131072

abbrev pub got_for_plt_entry : ℕ
got_for_plt_entry = 262144

abbrev pub symbol_size : ℕ
symbol_size = 524288

abbrev pub undefined_weak : ℕ
undefined_weak = 1048576

abbrev pub group_signature : ℕ
group_signature = 2097152

-- the set has the flag
abbrev pub has : ℕ → ℕ → Bool
has set flag = bit_and set flag == flag

-- the flags for which a symbol needs an entry of its own in the output's tables
abbrev pub resolution : ℕ
resolution =
    direct + got + plt + got_tls_module + got_tls_offset + got_tls_descriptor + export_dynamic + copy_relocation
    + ifunc_got_for_address + canonical_plt + got_for_plt_entry + symbol_size
