-- The decoded bits of a frame: one for each step and the 16 known ones, each 0 or 1, whatever is received.
use Rattle.std.specs.Prelude.{◌≡◌, Bool, true, false, cond, List, [], ◌∷◌, ◌++◌, ℕ, zero, suc, ◌+◌, ◌-◌, ◌/◌, ◌%◌, ◌^◌, ◌<◌, ◌≤◌, leb, length, get_or, take, drop, Float}
use Rattle.std.proofs.Math.Path.{refl}
use Rattle.std.proofs.Common.{◌∙◌, arith, mod-lt, lit<, lit≤, length-append}
use Rattle.std.specs.Float.{nan}
use Rattle.trellis.specs.Isdb
use Rattle.trellis.specs.Isdb.{closed, released, best, frame_traceback}
use Rattle.trellis.specs.Lists.{upto}
use Rattle.trellis.specs.Step as step
use Rattle.trellis.specs.Step.{Step, takes, kept, back, input, traced}
use Rattle.trellis.specs.Run as run
use Rattle.trellis.specs.Run.{Decoder, block, stepped, after, fresh_from}
use Rattle.viterbi_core.specs.Calls.{nexts, word, settle, steps}
use Rattle.viterbi_core.specs.CountLaws.{counted}
use Rattle.viterbi_core.specs.TracedLaws.{length_traced}
use Rattle.isdbs_tables.specs.declared.Table.{Table}
use Rattle.isdbs_plan.specs.RunsOf.{frame_steps}
use Rattle.isdbs_metrics.specs.Reading.{Received, start_values, decoded_bits, known_bits}
use Rattle.decode_end.specs.End.{ended_bits}
use Rattle.isdbs_metrics.specs.FrameSteps.{frame_metrics}
use Rattle.trellis.specs.Stretch.{Bits}
use Rattle.decode_main.specs.Runs.{bits_from}

binary_append : (a b : List ℕ) → Bits a → Bits b → Bits (a ++ b)
binary_append [] b p q = q
binary_append (x ∷ a) b p q = (p.0, binary_append a b p.1 q)

binary_take : (n : ℕ) (a : List ℕ) → Bits a → Bits (take n a)
binary_take zero a p = tt
binary_take (suc n) [] p = tt
binary_take (suc n) (x ∷ a) p = (p.0, binary_take n a p.1)

binary_upto : (f : ℕ → ℕ) (n : ℕ) → ((i : ℕ) → f i < 2) → Bits (upto f n)
unfolding upto
binary_upto f zero h = tt
binary_upto f (suc n) h = binary_append (upto f n) (f n ∷ []) (binary_upto f n h) (h n, tt)

-- a traced path keeps to the 64 states
kept_small : (w s : ℕ) → kept 32 w s < 64
unfolding kept
kept_small w s =
    let b : w / 2 ^ s % 2 < 2 = mod-lt (w / 2 ^ s) (lit< tt) in
    omega arith

back_small : (ws : List ℕ) (n s d : ℕ) → s < 64 → back 32 ws n s d < 64
unfolding back
back_small ws n s zero h = h
back_small ws n s (suc d) h = kept_small (get_or ws (n - suc d) 0) (back 32 ws n s d)

chosen : (t : Bool) (n b : ℕ) → b ≤ n → cond t (suc n) b ≤ suc n
chosen true n b h = omega arith
chosen false n b h = omega arith

best_small : (pm : List Float) (n : ℕ) → best pm n ≤ n
unfolding step.best
best_small pm zero = omega arith
best_small pm (suc n) = chosen (takes Isdb.rule (get_or pm (best pm n) nan) (get_or pm (suc n) nan)) n (best pm n) (best_small pm n)

traced_binary : (ws : List ℕ) (s : ℕ) → s < 64 → Bits (traced 32 ws s)
unfolding traced input
traced_binary ws s h =
    binary_upto (λ k. back 32 ws (length ws) s (length ws - (k + 1)) / 32) (length ws)
    (λ i. let b = back_small ws (length ws) s (length ws - (i + 1)) h in omega arith)

best_traced : (ws : List ℕ) (pm : List Float) → Bits (traced 32 ws (best pm 63))
best_traced ws pm = let b = best_small pm 63 in traced_binary ws (best pm 63) (omega arith)

either : (t : Bool) (a b : Decoder) → Bits a.bits → Bits b.bits → Bits (cond t a b).bits
either true a b p q = p
either false a b p q = q

released_binary : (d : Decoder) → Bits d.bits → Bits (released frame_traceback d).bits
unfolding run.released
released_binary d p =
    either (leb (block + frame_traceback) (length d.words))
    (record { values = d.values; words = drop block d.words; bits = d.bits ++ take block (traced 32 d.words (best d.values 63)) })
    d
    (binary_append d.bits (take block (traced 32 d.words (best d.values 63))) p (binary_take block (traced 32 d.words (best d.values 63)) (best_traced d.words d.values)))
    p

after_binary : (xs : ℕ → Step) (d : Decoder) (n : ℕ) → Bits d.bits → Bits (steps frame_traceback xs d n).bits
unfolding after stepped
after_binary xs d zero p = p
after_binary xs d (suc n) p =
    let b = steps frame_traceback xs d n in
    released_binary
    (record { values = settle n (xs n) (nexts b.values (xs n)); words = b.words ++ (word b.values (xs n) ∷ []); bits = b.bits })
    (after_binary xs d n p)

-- the first steps, the known bits, the flush
ended_binary : (d : Decoder) → Bits d.bits → Bits (ended_bits d)
ended_binary d p =
    let e = steps frame_traceback known_bits (closed d) 16 in
    binary_append e.bits (traced 32 e.words (best e.values 63)) (after_binary known_bits (closed d) 16 p) (best_traced e.words e.values)

module _ (t : Table) (r : Received) (pm : List Float) where
  abbrev read : Decoder
  read = steps frame_traceback (frame_metrics t r) (fresh_from pm) (frame_steps t)

  pub from_binary : Bits (bits_from t r pm)
  from_binary = ended_binary read (after_binary (frame_metrics t r) (fresh_from pm) (frame_steps t) tt)

  pub from_count : length (bits_from t r pm) ≡ frame_steps t + 16
  from_count =
      let d = closed read in
      let e = steps frame_traceback known_bits d 16 in
      let a = counted Isdb.half Isdb.labels Isdb.rule frame_traceback (frame_metrics t r) (fresh_from pm) (lit≤ tt) (lit≤ tt) (lit< tt) (frame_steps t) in
      let b = counted Isdb.half Isdb.labels Isdb.rule frame_traceback known_bits d (lit≤ tt) (lit≤ tt) a.few 16 in
      let aw = a.words_left in
      let ab = a.bits_out in
      let bw = b.words_left in
      let bb = b.bits_out in
      let lt = length_traced Isdb.half e.words (best e.values 63) in
      length-append e.bits (traced 32 e.words (best e.values 63)) ∙ omega arith

module _ (t : Table) (r : Received) (knownStart first : Bool) where
  pub decoded_from : decoded_bits t r knownStart first ≡ bits_from t r (start_values knownStart first)
  unfolding decoded_bits
  decoded_from = refl

  -- "the bit buffer begins with steps + 16 decoded bits, one per byte"
  pub decoded_count : length (decoded_bits t r knownStart first) ≡ frame_steps t + 16
  decoded_count = rw decoded_from (from_count t r (start_values knownStart first))

  pub decoded_binary : Bits (decoded_bits t r knownStart first)
  decoded_binary = rw decoded_from (from_binary t r (start_values knownStart first))
