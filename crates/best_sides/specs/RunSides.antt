-- The sides of a run by itself, its slices starting at the run's first symbol, and of a frame run by run.
use Rattle.std.specs.Prelude.{◌≡◌, refl, List, ℕ, zero, suc, ◌+◌, ◌-◌, ◌*◌, ◌<◌, ◌≤◌, get_or, length, take, drop, Float}
use Rattle.std.proofs.Common.{sym, ◌∙◌, arith, get_or-drop}
use Rattle.std.proofs.Math.Path.{ap}
use Rattle.std.specs.Float.{nan}
use Rattle.std.specs.Float.Ieee.{lt}
use Rattle.trellis.specs.Lists.{upto, bit}
use Rattle.trellis.specs.LaidLaws.{upto_cong}
use Rattle.isdbs_combination.specs.declared.Combination.{Combination}
use Rattle.isdbs_combination.specs.declared.Combination.TheVariants.{Bpsk1_2, Qpsk1_2, Qpsk2_3, Qpsk3_4, Qpsk5_6, Qpsk7_8, Tc8psk2_3}
use Rattle.isdbs_combination.specs.declared.Modulation.{Modulation}
use Rattle.isdbs_combination.specs.declared.Modulation.TheVariants.{Bpsk, Qpsk, Tc8psk}
use Rattle.isdbs_combination.specs.Combinations.{modulation_of}
use Rattle.isdbs_plan.specs.declared.Run.{Run}
use Rattle.isdbs_plan.specs.RunsOf.{steps_of, no_run}
use Rattle.isdbs_points.specs.declared.Mapping.{Mapping}
use Rattle.isdbs_points.specs.Points.{zero64, point, conjugated, psk8_of, subset}
use Rattle.isdbs_points.specs.Layout.{Segment, segment_of, segments_from, among}
use Rattle.isdbs_metrics.specs.Reading.{Received, correlation}
use Rattle.isdbs_metrics.specs.Steps.{Covers}
use Rattle.isdbs_points.specs.AmongLaws.{steps_to, valid_to, among_step}
use Rattle.isdbs_metrics.specs.FrameRunLaws.{RunList, tail_is}
use Rattle.decode_bytes.specs.Bytes.{received_with}
use Rattle.best_sides.specs.FrameSides.{side_by, side_in}

abbrev pub better_of : List Float → List Float → Mapping → ℕ → ℕ → ℕ
better_of re im m k l = bit (lt (correlation (point (get_or re k nan) (conjugated m.conjugate (get_or im k nan))) (psk8_of (subset m.tc8psk_c1_is_y l))) zero64)

unfoldable pub side_of : List Float → List Float → Mapping → ℕ → ℕ
side_of re im m k = 16 + (better_of re im m k 0 + 2 * better_of re im m k 1 + 4 * better_of re im m k 2 + 8 * better_of re im m k 3)

unfoldable pub side_with : Modulation → List Float → List Float → Mapping → ℕ → ℕ
side_with Bpsk re im m k = 0
side_with Qpsk re im m k = 0
side_with Tc8psk re im m k = side_of re im m k

abbrev pub side_as : Combination → List Float → List Float → Mapping → ℕ → ℕ
side_as c re im m k = side_with (modulation_of c) re im m k

-- TC8PSK has a symbol for each step
abbrev pub RoomBy : Modulation → ℕ → ℕ → ℕ → Type 0
RoomBy Bpsk n a b = Unit {0}
RoomBy Qpsk n a b = Unit {0}
RoomBy Tc8psk n a b = (n ≤ a) × (n ≤ b)

abbrev pub SideRoom : Combination → ℕ → ℕ → ℕ → Type 0
SideRoom c n a b = RoomBy (modulation_of c) n a b

-- a run's own sides are the frame's
side_part : (md : Modulation) (re im : List Float) (m : Mapping) (scales : Combination → Float) (g : Segment) (k : ℕ)
    → side_with md (drop g.symbol re) (drop g.symbol im) m k ≡ side_by md (received_with re im m scales) g k
unfolding side_with side_by side_of
side_part Bpsk re im m scales g k = refl
side_part Qpsk re im m scales g k = refl
side_part Tc8psk re im m scales g k = rw (get_or-drop g.symbol re k nan, get_or-drop g.symbol im k nan) refl

-- the sides of a list of runs
abbrev pub listed_sides : List Run → Received → ℕ → ℕ
listed_sides rs r k = among (λ g. g.step) (λ g. g.steps) 0 (side_in r) (segments_from rs 0 0) k

module _ (count : ℕ) (list : List Run) (l : RunList count list) (i : ℕ) where
  abbrev run : Run
  run = get_or list i no_run

  abbrev rs : List Run
  rs = take count list

  pub sides_are : (re im : List Float) (m : Mapping) (scales : Combination → Float) (step n k : ℕ) → i < count → step ≡ steps_to rs i → n ≡ steps_of run → k < n
      → listed_sides rs (received_with re im m scales) (step + k)
      ≡ side_as run.combination (take (length re - run.symbol_start) (drop run.symbol_start re)) (take (length im - run.symbol_start) (drop run.symbol_start im)) m k
  sides_are re im m scales step n k h e en g =
      let c = l.counted in
      let q = rw (l.at i) at en in
      let r = get_or rs i no_run in
      rw (tail_is run.symbol_start re, tail_is run.symbol_start im, l.at i)
      (among_step 0 (side_in (received_with re im m scales)) rs 0 0 i k (step + k) (omega arith) (omega arith) (omega arith)
      ∙ sym (side_part (modulation_of r.combination) re im m scales (segment_of r (0 + steps_to rs i) (0 + 1624 * valid_to rs i)) k))

-- ---- the sides of a run by its modulation
module _ (c : Combination) (re im : List Float) (m : Mapping) (n : ℕ) where
  pub plain_one : modulation_of c ≡ Bpsk → upto (λ k. 0) n ≡ upto (side_as c re im m) n
  unfolding side_with
  plain_one e = upto_cong (λ k. 0) (side_as c re im m) n (λ k h. ap (λ (x : Modulation). side_with x re im m k) (sym e))

  pub plain_two : modulation_of c ≡ Qpsk → upto (λ k. 0) n ≡ upto (side_as c re im m) n
  unfolding side_with
  plain_two e = upto_cong (λ k. 0) (side_as c re im m) n (λ k h. ap (λ (x : Modulation). side_with x re im m k) (sym e))

  pub with_side : modulation_of c ≡ Tc8psk → upto (side_of re im m) n ≡ upto (side_as c re im m) n
  unfolding side_with
  with_side e = upto_cong (side_of re im m) (side_as c re im m) n (λ k h. ap (λ (x : Modulation). side_with x re im m k) (sym e))

-- the points of a run are enough
within : (n a : ℕ) → ((k : ℕ) → k < n → k < a) → n ≤ a
within zero a h = omega arith
within (suc n) a h = let x = h n (omega arith) in omega arith

pub room_by : (c : Combination) (n a b : ℕ) → Covers c n a → Covers c n b → SideRoom c n a b
room_by Bpsk1_2 n a b x y = tt
room_by Qpsk1_2 n a b x y = tt
room_by Qpsk2_3 n a b x y = tt
room_by Qpsk3_4 n a b x y = tt
room_by Qpsk5_6 n a b x y = tt
room_by Qpsk7_8 n a b x y = tt
room_by Tc8psk2_3 n a b x y = (within n a x, within n b y)
