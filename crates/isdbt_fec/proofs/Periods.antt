-- Encoding by whole periods: what each turn may rely on, and what it leaves.
use mathlib.Core.Path.{◌≡◌, refl, sym, ◌∙◌, ap}
use mathlib.Core.List.{List}
use Prim.Native.Nat.{ℕ, ◌+◌, ◌-◌, ◌*◌, ◌/◌, ◌%◌, ◌<◌, ◌≤◌}
use native.Mathlib.Omega.{arith}
use borrow.Rule.Slice.PartMut.{mid_of, put_mid}
use lib.ListN.{length, get_or, take, drop, length-drop}
use lib.Seq.{length-take-le}
use Rattle.viterbi_core.specs.PartLaws.{tail_whole, written_tail}
use Rattle.trellis.specs.Lists.{upto, laid}
use Rattle.trellis.specs.Code.{state_at}
use Rattle.isdbt_table.specs.declared.CodeRate.{CodeRate}
use Rattle.isdbt_table.specs.declared.Puncturing.{Puncturing}
use Rattle.isdbt_table.specs.Table.{period, sent, compiled}
use Rattle.isdbt_table.specs.Puncture.{mother, punctured}
use Rattle.trellis.specs.Encoded.{low_bits}
use Rattle.isdbt_table.specs.NumberLaws.{numbers}
use Rattle.isdbt_table.specs.SizeLaws.{Sizes}
use Rattle.isdbt_fec.specs.EncodeLaws.{place_by, state_below, bit_below, next_bits, block_inside, one_more, part_length, next_state_lem, whole_bits, whole_sent}
use Rattle.isdbt_table.specs.WrittenLaws.{Written, written_none, written_more}

-- the period b of `count` bits lies inside, and so do its sent bits in `space` places
pub record Inside (count space period n b : ℕ) : Type 0 where
  pub taken : b * period + period ≤ count
  pub given : b * n + n ≤ space
  pub below : b < count

-- the numbers of a call that encodes `end` periods
pub record Sendable (count space period n : ℕ) (order : List ℕ) (end : ℕ) : Type 0 where
  pub ranges : Sizes period n
  pub inside : (b : ℕ) → b < end → Inside count space period n b
  pub bits_below : (j : ℕ) → j < n → get_or order j 0 < 2 * period

-- after b periods: the state, and the sent bits at the front of `out`
pub record Coded (s : ℕ) (bits out₀ : List ℕ) (period n : ℕ) (order : List ℕ) (b st : ℕ) (out : List ℕ) : Type 0 where
  pub state_is : st ≡ state_at 32 s (low_bits bits) (b * period)
  pub written : Written (λ j. mother s (low_bits bits) (place_by period n order j)) (b * n) out₀ out

pub coded_below : {s : ℕ} {bits out₀ : List ℕ} {period n : ℕ} {order : List ℕ} {b st : ℕ} {out : List ℕ} → Coded s bits out₀ period n order b st out → s < 64 → st < 64
coded_below {s} {bits} {out₀} {period} {n} {order} {b} h low = rw h.state_is (state_below s bits (b * period) low)

-- the bits of the period b
abbrev pub part_of : List ℕ → ℕ → ℕ → List ℕ
part_of bits period b = take (b * period + period - b * period) (drop (b * period) bits)

part_is : (bits : List ℕ) (period b : ℕ) → part_of bits period b ≡ take period (drop (b * period) bits)
part_is bits period b = let wide : b * period + period - b * period ≡ period = omega arith in rw wide refl

pub part_long : (bits : List ℕ) (period b : ℕ) → b * period + period ≤ length bits → length (part_of bits period b) ≡ period
part_long bits period b h =
    ap length (part_is bits period b) ∙ length-take-le period (drop (b * period) bits) (rw (length-drop (b * period) bits) (omega arith))

-- the places left for the period b
pub tail_long : (out : List ℕ) (n b : ℕ) → b * n + n ≤ length out → n ≤ length (mid_of (b * n) (length out - b * n) out)
tail_long out n b h = rw (tail_whole (b * n) out out out (omega arith), length-drop (b * n) out) (omega arith)

module _ (rate : CodeRate) (p : Puncturing) (e : p ≡ compiled rate) (s : ℕ) (bits out₀ : List ℕ) where
  abbrev f : ℕ → ℕ
  f j = mother s (low_bits bits) (place_by p.period p.n p.order j)

  pub sendable : length bits / period rate * sent rate ≤ length out₀ → Sendable (length bits) (length out₀) p.period p.n p.order (length bits / p.period)
  sendable room =
      record {
        ranges = (numbers rate p e).ranges;
        inside =
            λ b h. let i = block_inside rate p (length bits) (length out₀) b e h room in record { taken = i.0; given = i.1; below = i.2 };
        bits_below = bit_below rate p e s bits;
      }

  pub coded_none : Coded s bits out₀ p.period p.n p.order 0 s out₀
  unfolding state_at
  coded_none =
      let zp : 0 * p.period ≡ 0 = omega arith in
      let zn : 0 * p.n ≡ 0 = omega arith in
      record { state_is = rw zp refl; written = rw zn (written_none f out₀) }

  -- a period more: r and m are its state and its mother bits, `front` the sent bits at the front of what was left of `out`
  module _ (b st : ℕ) (out : List ℕ) (h : Coded s bits out₀ p.period p.n p.order b st out)
      (i : Inside (length bits) (length out₀) p.period p.n b) where
    pub coded_next : (r : ℕ) (m front : List ℕ) → (r ≡ state_at 32 st (low_bits (part_of bits p.period b)) (length (part_of bits p.period b)))
        × ((k : ℕ) → k < 2 * length (part_of bits p.period b) → get_or m k 0 ≡ mother st (low_bits (part_of bits p.period b)) k)
        → front ≡ laid (upto (λ j. get_or m (get_or p.order j 0) 0) p.n) (mid_of (b * p.n) (length out - b * p.n) out)
        → Coded s bits out₀ p.period p.n p.order (b + 1) r (put_mid (b * p.n) (length out - b * p.n) out front)
    coded_next r m front q w =
        let long = h.written.long in
        let g = i.given in
        let n = p.n in
        let us = take p.period (drop (b * p.period) bits) in
        let same-part = part_is bits p.period b in
        let mothers : (k : ℕ) → k < 2 * p.period → get_or m k 0 ≡ mother st (low_bits us) k =
        rw (part_length rate p e s bits b i.taken) at (rw same-part at q.1) in
        let same = next_bits rate p e s bits b st m h.state_is mothers in
        let tail = written_tail (b * n) out front (upto (λ j. get_or m (get_or p.order j 0) 0) n) (omega arith) w in
        record {
          state_is = next_state_lem rate p e s bits b i.taken st r h.state_is (rw same-part at q.0);
          written = rw (one_more b n) (written_more f (λ j. get_or m (get_or p.order j 0) 0) (b * n) n out₀ out _ h.written g same tail);
        }

  -- the end
  pub coded_all : (st : ℕ) (out : List ℕ) → length bits % period rate ≡ 0 → Coded s bits out₀ p.period p.n p.order (length bits / p.period) st out
      → (st ≡ state_at 32 s (low_bits bits) (length bits)) × (out ≡ laid (punctured rate s bits) out₀)
  coded_all st out whole h = (
    h.state_is ∙ ap (λ (k : ℕ). state_at 32 s (low_bits bits) k) (whole_bits rate p e s bits whole),
    h.written.front ∙ ap (λ (l : List ℕ). laid l out₀) (whole_sent rate p e s bits),
  )
