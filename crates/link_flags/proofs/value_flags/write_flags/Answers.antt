use Rattle.std.proofs.Common.{◌≡◌, ◌<◌, ◌++◌, ◌∷◌, length, ◌∙◌, refl, sym, ap, ◌==◌, map, take, get_or, [], arith}
use Rattle.std.proofs.Output.{has_written_append, has_written_of_eq}
use Rattle.bitflags.specs.declared.Flag.{Flag}
use Rattle.link_flags.specs.declared.value_flags.ValueFlags.{ValueFlags}
use Rattle.link_flags.specs.FlagText.{has_row, row_of, names_of, joined, piece}
use Rattle.std.specs.Int.RustNames.{bit_and}
use Rattle.link_flags.proofs.FlagWords.{joined_more, is_none_more, names_hit, names_miss}
use Rattle.link_flags.proofs.value_flags.write_flags.Goals as goal
use Rattle.link_flags.proofs.value_flags.write_flags.Goals.{then-contains+in_ok-write_piece, else-contains}

unit : Flag ValueFlags
unit = record { name = record { ref_ptr = (0, 0); now = [] }; value = record { 0 = 0 } }

pub loop-row-preserved : goal.loop-row-preserved
unfolding unit
loop-row-preserved g c =
    let set = c.args.set.0 in
    let rows = c.args.rows.now in
    let i = c.loop-row.row-index in
    let lt : i < length rows = omega arith in
    let row = get_or rows i unit in
    let ps = names_of set (map row_of (take i rows)) in
    let tested : c.contains.result ≡ has_row set (row_of row) = c.contains.ensures tt ∙ ap (λ (v : ValueFlags). bit_and set v.0 == v.0) c.value.ensures in
    elim c.if-contains.branch [
      | then-contains+in_ok-write_piece w ↦
          let has = names_hit set rows i unit lt (sym tested ∙ w.if-contains.true) in
          rw (has, w.f-is, w.first-is) (record {
            written = λ plain.
                let so_far = c.loop-row.invariant.written plain in
                let text : joined ps ++ piece c.loop-row.first w.name.result.now ≡ joined (ps ++ row.name.now ∷ []) =
                rw (c.loop-row.invariant.first_is, w.name.ensures) (sym (joined_more ps row.name.now)) in
                has_written_of_eq _ _ _ _ _ text (has_written_append _ _ _ _ _ _ so_far (w.in_ok-write_piece.ensures so_far.plain refl));
            first_is = sym (is_none_more ps row.name.now);
          })
      | else-contains w ↦
          let no = names_miss set rows i unit lt (sym tested ∙ w.if-contains.false) in
          rw (no, w.f-is, w.first-is) c.loop-row.invariant
    ]
