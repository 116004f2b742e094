use Rattle.std.proofs.Common.{◌∙◌, sym, ap₂, arith}
use Rattle.link_db_buckets.specs.SipHash.{sip_start, absorb}
use Rattle.link_db_buckets.proofs.SipWords.{absorbed_more, sip_hash_of}
use Rattle.link_db_buckets.proofs.sip_hash.sip_hash.Goals as goal

pub words-preserved : goal.words-preserved
words-preserved c =
    c.absorb-state.ensures ∙ ap₂ absorb c.words.invariant c.from_le_bytes.ensures
    ∙ sym (absorbed_more (sip_start c.args.k0 c.args.k1) c.as_chunks.result.0.now c.words.word-index _ c.words-test.true)

pub returns : goal.returns
returns c =
    rw (c.sip_finish.ensures, c.absorb.ensures, c.last_word.ensures)
    (sip_hash_of c.args.k0 c.args.k1 c.args.bytes.now c.as_chunks.result.0.now c.words.word-index c.words.state c.as_chunks.ensures.front (omega arith) c.words.invariant)
