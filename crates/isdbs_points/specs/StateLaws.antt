-- Encoding from a state on: what follows the first inputs is the encoding of the other inputs from the state reached.
use Rattle.std.specs.Prelude.{◌≡◌, List, ℕ, zero, suc, ◌+◌, ◌<◌, get_or}
use Rattle.std.proofs.Common.{sym, ◌∙◌, ap, add-zero, add-suc, arith}
use Rattle.trellis.specs.Code.{isdb, state_at}
use Rattle.trellis.specs.Encoded.{encoded, reached}
use Rattle.trellis.proofs.EncodedLaws.{encoded_at, reached_is}
use Rattle.trellis.specs.ListLaws.{length_upto}
use Rattle.isdbs_tables.specs.declared.Table.{Table}
use Rattle.isdbs_plan.specs.RunsOf.{frame_steps}
use Rattle.isdbs_points.specs.Layout.{at_step}
use Rattle.isdbs_points.specs.Frame.{label_at, input_in, inputs, end_state}

-- the inputs vs stand in us from place a on, n of them
abbrev pub Follow : List ℕ → ℕ → List ℕ → ℕ → Type 0
Follow us a vs n = (i : ℕ) → i < n → get_or us (a + i) 0 ≡ get_or vs i 0

pub state_shift : (h s : ℕ) (us : List ℕ) (a : ℕ) (vs : List ℕ) (n : ℕ) → Follow us a vs n → state_at h s us (a + n) ≡ state_at h (state_at h s us a) vs n
unfolding state_at
state_shift h s us a vs zero f = rw (add-zero a)
state_shift h s us a vs (suc n) f =
    rw (add-suc a n, f n (omega arith), state_shift h s us a vs n (λ i l. f i (omega arith)))

pub label_shift : (s : ℕ) (us : List ℕ) (a : ℕ) (vs : List ℕ) (n : ℕ) → Follow us a vs n → (k : ℕ) → k < n → label_at s us (a + k) ≡ label_at (state_at 32 s us a) vs k
label_shift s us a vs n f k l = rw (f k l, state_shift 32 s us a vs k (λ i j. f i (omega arith)))

-- 2 X + Y of the whole frame is the encoding of its inputs from the start state
pub labels_encoded : (t : Table) (load : List ℕ) (s k : ℕ) → k < frame_steps t → label_at s (inputs t load) k ≡ get_or (encoded isdb s (inputs t load)) k 0
unfolding inputs
labels_encoded t load s k h = sym (encoded_at isdb s (inputs t load) k (rw (length_upto (at_step 0 (input_in load) t) (frame_steps t)) h))

pub end_reached : (t : Table) (load : List ℕ) (s : ℕ) → end_state t load s ≡ reached isdb s (inputs t load)
unfolding inputs
end_reached t load s = ap (state_at 32 s (inputs t load)) (sym (length_upto (at_step 0 (input_in load) t) (frame_steps t))) ∙ sym (reached_is isdb s (inputs t load))
