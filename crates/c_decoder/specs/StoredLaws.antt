-- Where a C call of the decoder is refused nothing is stored.
use Rattle.std.specs.Prelude.{◌≡◌, refl, List, ℕ, Float}
use Rattle.std.proofs.Common.{ne_eqb}
use Rattle.trellis.specs.Run.{Decoder}
use Rattle.isdb_fec.specs.declared.conv.ViterbiDecoder.{ViterbiDecoder}
use Rattle.c_decoder.specs.Decoders.{Stored, Emitted}

pub unstored : (n tb : ℕ) (d : Decoder) (pm : List Float) (held count : ℕ) (decisions out : List ℕ) → (n ≡ 0 → ⊥) → Stored n tb d pm pm held held count count decisions decisions out out
unstored n tb d pm held count decisions out h =
    let e = ne_eqb n 0 h in
    record { values = rw e; held_is = rw e; count_is = rw e; words = rw e; bits = rw e }

pub unflushed : (emitted : List ℕ) (n : ℕ) (v : ViterbiDecoder) (count : ℕ) (decisions out : List ℕ) → (n ≡ 0 → ⊥) → Emitted emitted n v v.pm v.held count count decisions decisions out out
unflushed emitted n v count decisions out h =
    let e = ne_eqb n 0 h in
    record { values = refl; held_is = rw e; count_is = rw e; words = rw e; bits = rw e }
