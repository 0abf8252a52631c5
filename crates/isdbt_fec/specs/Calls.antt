-- What each call leaves. Document 01, "ISDB-T".
use Rattle.std.specs.Prelude.{◌≡◌, List, [], ℕ, ◌+◌, ◌*◌, ◌/◌, length, get_or, replicate, Float}
use Rattle.std.specs.Float.{nan}
use Rattle.trellis.specs.Isdb.{call, flush}
use Rattle.trellis.specs.Lists.{laid}
use Rattle.trellis.specs.Code.{state_at}
use Rattle.trellis.specs.Step as trellis
use Rattle.trellis.specs.Step.{pair}
use Rattle.trellis.specs.Run.{Decoder, start_at, block, depth}
use Rattle.isdbt_table.specs.declared.CodeRate.{CodeRate}
use Rattle.isdbt_fec.specs.declared.conv.Encoded.{Encoded}
use Rattle.isdbt_table.specs.Table.{period, sent}
use Rattle.isdbt_table.specs.Puncture.{punctured, depunctured}
use Rattle.trellis.specs.Encoded.{low_bits}
use Rattle.trellis.specs.Isdb

-- the sent bits at the front, the rest as before; the state has taken every bit and carries on from call to call
pub record Encodes (rate : CodeRate) (s : ℕ) (bits : List ℕ) (r : Encoded) (out₀ out : List ℕ) : Type 0 where
  pub state_is : r.enc.state ≡ state_at Isdb.half s (low_bits bits) (length bits)
  pub count_is : r.count ≡ length bits / period rate * sent rate
  pub bits_are : out ≡ laid (punctured rate s bits) out₀

-- the depunctured values at the front, the rest as before
pub record Depunctures (rate : CodeRate) (xs : List Float) (count : ℕ) (out₀ out : List Float) : Type 0 where
  pub count_is : count ≡ length xs / sent rate * (2 * period rate)
  pub values : out ≡ laid (depunctured rate xs) out₀

-- the steps of a decoding call: the soft values by twos
abbrev pub steps : CodeRate → List Float → ℕ → trellis.Step
steps rate xs k = pair (get_or (depunctured rate xs) (2 * k) nan) (get_or (depunctured rate xs) (2 * k + 1) nan)

-- the decoder that starts in state 0 and holds nothing
abbrev pub fresh : Decoder
fresh = record { values = start_at Isdb.states 0; words = []; bits = [] }

-- one push of all the steps, and one flush
unfoldable pub decoded_bits : CodeRate → List Float → ℕ → List ℕ
decoded_bits rate xs tb =
    (flush (call tb (steps rate xs) fresh (length xs / sent rate * period rate))).bits

-- the bits at the front, the rest as before; "the first 4,096 + traceback decision words are 0", the rest as before
pub record Decodes (rate : CodeRate) (xs : List Float) (tb : ℕ) (count : ℕ) (decisions₀ decisions out₀ out : List ℕ) : Type 0 where
  pub count_is : count ≡ length xs / sent rate * period rate
  pub words : decisions ≡ laid (replicate (block + depth tb) 0) decisions₀
  pub bits_are : out ≡ laid (decoded_bits rate xs (depth tb)) out₀

-- "no buffer changes"
pub record Undecoded (decisions₀ decisions out₀ out : List ℕ) : Type 0 where
  pub words : decisions ≡ decisions₀
  pub bits_are : out ≡ out₀
