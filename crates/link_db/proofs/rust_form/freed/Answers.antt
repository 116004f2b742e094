use Rattle.std.proofs.Common.{◌∙◌, ap, bit_and}
use Rattle.bitflags.specs.Sets.{known_from}
use Rattle.link_flags.specs.FlagTable.{flag_table}
use Rattle.link_db.proofs.rust_form.freed.Goals as goal

-- the flags that are kept are all but one
pub returns : goal.returns
unfolding flag_table known_from
returns c =
    c.raw.ensures ∙ c.intersection.ensures tt ∙ ap (bit_and c.get.result.0) (c.difference-kept.ensures tt ∙ ap (λ a. bit_and a 0xffff_ffef) (c.all.ensures tt))
    ∙ ap (λ w. bit_and w 0x3f_ffef) c.get.ensures
