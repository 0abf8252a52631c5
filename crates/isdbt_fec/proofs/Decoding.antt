-- Decoding block by block: what each block of steps may rely on, what it leaves, and the end.
use mathlib.Core.Path.{◌≡◌, refl, ◌∙◌}
use mathlib.Core.List.{List, ◌++◌}
use Prim.Native.Nat.{ℕ, ◌+◌, ◌*◌, ◌/◌, ◌<◌, ◌≤◌}
use native.Mathlib.Omega.{arith}
use lib.ListN.{length, take, drop, replicate}
use lib.Ieee.{Float}
use Rattle.trellis.specs.Isdb
use Rattle.trellis.specs.Lists.{laid}
use Rattle.trellis.specs.Step as trellis
use Rattle.trellis.specs.Step.{renormalised}
use Rattle.trellis.specs.Run.{start_at, holding, releases}
use Rattle.viterbi_core.specs.declared.At.{At}
use Rattle.isdb_fec.specs.Calls as fec
use Rattle.isdb_fec.specs.Calls.{Holds, best_state, traced}
use Rattle.isdb_fec.specs.AnswerLaws.{Enough}
use Rattle.viterbi_core.specs.Calls.{Carried}
use Rattle.viterbi_core.specs.CountLaws.{counted, releases_le}
use Rattle.viterbi_core.specs.BlockLaws.{from_steps}
use Rattle.isdb_fec.proofs.WholeLaws.{begins, lengths}
use Rattle.isdbt_table.specs.declared.CodeRate.{CodeRate}
use Rattle.isdbt_table.specs.declared.Puncturing.{Puncturing}
use Rattle.isdbt_table.specs.Table.{period, sent, compiled}
use Rattle.isdbt_fec.specs.Calls.{decoded_bits}
use Rattle.isdbt_steps.specs.Soft.{steps_by}
use Rattle.isdbt_fec.proofs.Decode.{after_same, begun, room_for, all_bits, bits_out, words_out}
use Rattle.isdbt_fec.proofs.Turns.{bit_count}

-- after i of the n steps xs, from the path values pm₀ and no held word
pub record Decoding (tb : ℕ) (xs : ℕ → trellis.Step) (n : ℕ) (pm₀ : List Float) (dec₀ out₀ : List ℕ) (i : ℕ) (pm : List Float) (at : At) (dec out : List ℕ) : Type 0 where
  pub enough : Enough (begun pm₀ tb) n (length dec₀) (length out₀)
  pub places : n ≤ length out₀
  pub holds : Holds tb dec₀ out₀ (fec.steps tb xs (holding pm₀ 0 dec₀) i) pm at.held at.count dec out
  pub words_long : length dec ≡ length dec₀
  pub bits_long : length out ≡ length out₀
  pub few : at.held < 4096 + tb
  pub sum : at.count + at.held ≡ i

module _ (tb : ℕ) (xs : ℕ → trellis.Step) (n : ℕ) (pm₀ : List Float) (dec₀ out₀ : List ℕ) where
  after_steps : (i : ℕ) (pm : List Float) (at : At) (dec out : List ℕ) → i ≤ n → n ≤ length out₀ → Enough (begun pm₀ tb) n (length dec₀) (length out₀)
      → Holds tb dec₀ out₀ (fec.steps tb xs (holding pm₀ 0 dec₀) i) pm at.held at.count dec out
      → Decoding tb xs n pm₀ dec₀ out₀ i pm at dec out
  after_steps i pm at dec out below room e h =
      let l = lengths (begun pm₀ tb) xs n dec₀ out₀ e pm at dec out i h below in
      let c = counted Isdb.half Isdb.labels Isdb.rule tb xs (holding pm₀ 0 dec₀) e.least e.most (omega arith) i in
      let few = c.few in
      let words = c.words_left in
      let bits = c.bits_out in
      let held = h.held_is in
      let count = h.count_is in
      record {
        enough = e;
        places = room;
        holds = h;
        words_long = l.0;
        bits_long = l.1;
        few = omega arith;
        sum = omega arith;
      }

  pub decoding_none : 1 ≤ tb → tb ≤ 1024 → 4096 + tb ≤ length dec₀ → n ≤ length out₀ → Decoding tb xs n pm₀ dec₀ out₀ 0 pm₀ (record { held = 0; count = 0 }) dec₀ out₀
  decoding_none least most fits room =
      let e = room_for pm₀ tb n (length dec₀) (length out₀) least most fits room in
      after_steps 0 pm₀ (record { held = 0; count = 0 }) dec₀ out₀ (omega arith) room e (begins (begun pm₀ tb) xs n dec₀ out₀ e)

module _ {tb : ℕ} {xs : ℕ → trellis.Step} {n : ℕ} {pm₀ : List Float} {dec₀ out₀ : List ℕ} {i : ℕ} {pm : List Float} {at : At} {dec out : List ℕ}
    (d : Decoding tb xs n pm₀ dec₀ out₀ i pm at dec out) where
  -- what `run_steps` asks of a block of steps
  pub decoding_ready : (len : ℕ) → i + len ≤ n
      → (1 ≤ tb) × (tb ≤ 1024) × (at.held < 4096 + tb) × (4096 + tb ≤ length dec) × (at.count + 4096 * releases tb at.held len ≤ length out)
  decoding_ready len h =
      let e = d.enough in
      let fits = e.fits in
      let most = releases_le tb at.held len e.most in
      let words = d.words_long in
      let bits = d.bits_long in
      let places = d.places in
      let sum = d.sum in
      (e.least, e.most, d.few, omega arith, omega arith)

  -- and what it leaves
  pub decoding_block : {ys : ℕ → trellis.Step} {len : ℕ} {r : At} {pm' : List Float} {dec' out' : List ℕ} → i + len ≤ n → ((k : ℕ) → k < len → xs (i + k) ≡ ys k)
      → Carried tb ys i len pm at dec out r pm' dec' out' → Decoding tb xs n pm₀ dec₀ out₀ (i + len) pm' r dec' out'
  decoding_block {ys} {len} {r} {pm'} {dec'} {out'} h e c =
      after_steps tb xs n pm₀ dec₀ out₀ (i + len) pm' r dec' out' h d.places d.enough
      (rw (from_steps tb xs ys (holding pm₀ 0 dec₀) i len e) (c.carries (fec.steps tb xs (holding pm₀ 0 dec₀) i) dec₀ out₀ d.holds))

-- the same with other names of the steps
pub decoding_same : {tb : ℕ} {xs ys : ℕ → trellis.Step} {n : ℕ} {pm₀ : List Float} {dec₀ out₀ : List ℕ} {i : ℕ} {pm : List Float} {at : At} {dec out : List ℕ}
    → Decoding tb xs n pm₀ dec₀ out₀ i pm at dec out → ((k : ℕ) → xs k ≡ ys k) → Decoding tb ys n pm₀ dec₀ out₀ i pm at dec out
decoding_same {tb} {xs} {ys} {n} {pm₀} {dec₀} {out₀} {i} d e =
    record {
      enough = d.enough;
      places = d.places;
      holds = rw (after_same tb xs ys (holding pm₀ 0 dec₀) i (λ k l. e k)) at d.holds;
      words_long = d.words_long;
      bits_long = d.bits_long;
      few = d.few;
      sum = d.sum;
    }

-- the end: the path values are lowered, the held words traced, and the decisions zeroed
pub decoded : (rate : CodeRate) (p : Puncturing) (e : p ≡ compiled rate) (llrs : List Float) {tb i : ℕ} {pm₀ pm : List Float} {at : At} {dec₀ dec dec' out₀ out out' : List ℕ} {r : ℕ}
    → Decoding tb (steps_by p.period p.n p.order llrs) (length llrs / p.n * p.period) pm₀ dec₀ out₀ i pm at dec out
    → i ≡ length llrs / p.n * p.period → pm₀ ≡ start_at 64 0
    → (r ≡ at.count + at.held) × (dec' ≡ laid (replicate (4096 + tb) 0) (laid (replicate at.held 0) dec))
    × (out' ≡ take at.count out ++ laid (traced (take at.held dec) (best_state (renormalised 32 pm))) (drop at.count out))
    → (r ≡ length llrs / sent rate * period rate) × (dec' ≡ laid (replicate (4096 + tb) 0) dec₀) × (out' ≡ laid (decoded_bits rate llrs tb) out₀)
decoded rate p e llrs {tb} {i} {pm₀} {pm} {at} {dec₀} {dec} {dec'} {out₀} {out} {out'} {r} d end start f =
    let least = d.enough.least in
    let most = d.enough.most in
    let low = renormalised 32 pm in
    let h = rw (end ∙ bit_count rate p (length llrs) e) at d.holds in (
      f.0 ∙ all_bits rate p e llrs tb least most dec₀ out₀ pm₀ pm low at dec out start h refl,
      f.1 ∙ words_out rate p e llrs tb least most dec₀ out₀ pm₀ pm low at dec out start h refl,
      f.2 ∙ bits_out rate p e llrs tb least most dec₀ out₀ pm₀ pm low at dec out start h refl,
    )
