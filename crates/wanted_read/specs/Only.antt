-- P9's theorem: the load that a frame wants is the one read off, so there is at most one; and a full load is wanted exactly when the one read off encodes to the
-- frame. For every accepted table, every `Mapping` and both values of `first`.
use Rattle.std.specs.Prelude.{◌≡◌, Bool, List, ℕ, ◌+◌, ◌*◌, ◌/◌, ◌%◌, ◌<◌, ◌≤◌, eqb, get_or, length, Float}
use Rattle.std.proofs.Math.Path.{sym, ap}
use Rattle.std.proofs.Common.{◌∙◌, subst, mod-lt, lit<}
use Rattle.std.proofs.Math.Bool.{true, false, cond}
use native.Mathlib.Omega.{arith}
use Rattle.std.specs.Float.{nan}
use Rattle.isdbs_combination.specs.declared.Modulation.{Modulation}
use Rattle.isdbs_combination.specs.declared.Modulation.TheVariants.{Bpsk, Qpsk, Tc8psk}
use Rattle.isdbs_tables.specs.declared.Table.{Table}
use Rattle.isdbs_frame.specs.Frame.{main_symbols}
use Rattle.isdbs_combination.specs.Combinations.{modulation_of, unit_of, slot_steps, slot_bits}
use Rattle.isdbs_tables.specs.Tables.{TableAccepted}
use Rattle.isdbs_plan.specs.PlanLaws.{table_laid}
use Rattle.isdbs_plan.specs.RunsOf.{load_bytes}
use Rattle.isdbs_points.specs.declared.Cplx.{Cplx}
use Rattle.isdbs_points.specs.declared.Mapping.{Mapping}
use Rattle.isdbs_points.specs.Layout.{Segment, segments, among, load_bit, FullLoad, In}
use Rattle.isdbs_points.specs.Frame.{coded, coded_bit, input_in, point_at, start_state}
use Rattle.isdbs_points.specs.PlaceLaws.{among_all}
use Rattle.isdbs_points.specs.SizeLaws.{table_whole, step_fits, at_bit_lem, find_bit}
use Rattle.isdbs_points.specs.OrderLaws.{Pairs, Kind, one, two, three, kind}
use Rattle.isdbs_points.specs.BitLaws.{of_pair, bytes_are, bytes_full}
use Rattle.isdbs_points.specs.InputLaws.{input_at}
use Rattle.trellis.specs.LaidLaws.{front_upto}
use Rattle.wanted_read.specs.ReadOff.{shown, psk8_label, which, bit_by, input_from, read_state, read_input, read_by, read_bit, read_off}
use Rattle.wanted_read.specs.Wanted.{EncodesTo, Wants, Unwanted}
use Rattle.wanted_read.specs.Shown.{label_small}
use Rattle.wanted_read.specs.Inputs.{input_is, tc_uncoded}
use Rattle.trellis.specs.Isdb

-- ---- what is read off is a full load, whatever the points are
among_small : (first size : Segment → ℕ) (f : Segment → ℕ → ℕ) → ((g : Segment) (k : ℕ) → f g k < 2) → (gs : List Segment) (k : ℕ) → among first size 0 f gs k < 2
among_small first size f h gs k = among_all (λ x. x < 2) first size 0 f (lit< tt) h gs k

module _ (m : Mapping) (z : ℕ → Cplx) (t : Table) (s : ℕ) where
  pub read_small : (n : ℕ) → read_input m z t s n < 2
  read_small n =
      among_small (λ g. g.step) (λ g. g.steps) (input_from m z (read_state m z t s n))
      (λ g k. mod-lt (bit_by m z (modulation_of g.combination) g k + coded_bit (which g k) (Isdb.labels 0 (read_state m z t s n))) (lit< tt)) (segments t) n

  by_small : (md : Modulation) (g : Segment) (i : ℕ) → read_by m z t s md g i < 2
  unfolding read_by
  by_small Bpsk g i = read_small (g.step + i)
  by_small Qpsk g i = read_small (g.step + i)
  by_small Tc8psk g i = go (eqb (i % 2) 0)
    where
      go : (b : Bool) → cond b (psk8_label (z (g.symbol + i / 2)) / 4) (read_input m z t s (g.step + i / 2)) < 2
      go true = let h = label_small (z (g.symbol + i / 2)) in omega arith
      go false = read_small (g.step + i / 2)

  pub bit_small : (n : ℕ) → read_bit m z t s n < 2
  bit_small n = among_small (λ g. g.bit) (λ g. g.bits) (λ g i. read_by m z t s (modulation_of g.combination) g i) (λ g i. by_small (modulation_of g.combination) g i) (segments t) n

pub read_off_full : (t : Table) (m : Mapping) (first : Bool) (re im : List Float) → FullLoad (read_off t m first re im) (load_bytes t)
unfolding read_off
read_off_full t m first re im = bytes_full (read_bit m (shown m re im) t (start_state first)) (bit_small m (shown m re im) t (start_state first)) (load_bytes t)

-- ---- the bits of a load that encodes to the frame
module _ (t : Table) (ok : TableAccepted t) (m : Mapping) (first : Bool) (re im : List Float) (load : List ℕ) (e : EncodesTo t m first re im load) where
  abbrev z : ℕ → Cplx
  z = shown m re im

  abbrev s : ℕ
  s = start_state first

  module _ (g : Segment) (i : In g (segments t)) where
    input_read : (k : ℕ) → k < g.steps → read_input m z t s (g.step + k) ≡ input_in load g k
    input_read k l = input_is t ok m first re im load e (g.step + k) (step_fits t g i k l) ∙ input_at t load g i k l

    bit_in : (k : ℕ) → k < g.bits → read_by m z t s (modulation_of g.combination) g k ≡ load_bit load (g.bit + k)
    unfolding read_by
    bit_in k K = go (kind g.combination)
      where
        plain : slot_steps g.combination ≡ slot_bits → k < g.steps
        plain q = let o = table_whole t ok g i in let s : g.steps ≡ g.bits = o.steps_are ∙ ap (λ (x : ℕ). x * (o.units * (unit_of g.combination).valid)) q ∙ sym o.bits_are in omega arith

        half : Pairs g.combination → k / 2 < g.steps
        half p = let o = table_whole t ok g i in let b = p.bits o.units in omega (arith, o.steps_are, o.bits_are)

        go : Kind g.combination → read_by m z t s (modulation_of g.combination) g k ≡ load_bit load (g.bit + k)
        go (one q p) = rw q (input_read k (plain p.steps) ∙ ap (λ (x : Modulation). load_bit load (g.bit + coded x k)) q)
        go (two q p) = rw q (input_read k (plain p.steps) ∙ ap (λ (x : Modulation). load_bit load (g.bit + coded x k)) q)
        go (three q p) =
            let c2 : psk8_label (z (g.symbol + k / 2)) / 4 ≡ load_bit load (g.bit + 2 * (k / 2)) = tc_uncoded t ok m first re im load e g i q p (k / 2) (half p) in
            let u : read_input m z t s (g.step + k / 2) ≡ load_bit load (g.bit + (2 * (k / 2) + 1)) =
            input_read (k / 2) (half p) ∙ ap (λ (x : Modulation). load_bit load (g.bit + coded x (k / 2))) q in
            rw q (rw (c2, u) (of_pair (λ n. load_bit load (g.bit + n)) k))

  bit_at : (n : ℕ) → n < 8 * load_bytes t → read_bit m z t s n ≡ load_bit load n
  bit_at n l =
      let f = find_bit t n l in
      rw (f.place_is, at_bit_lem t 0 (λ g i. read_by m z t s (modulation_of g.combination) g i) f.segment f.member f.place f.small) (bit_in f.segment f.member f.place f.small)

  read_is : FullLoad load (load_bytes t) → read_off t m first re im ≡ load
  unfolding read_off
  read_is full = bytes_are load (load_bytes t) (read_bit m z t s) full bit_at

-- ---- the same, part by part: where 38,976 of each part are lent and each is that of the load's point, the load encodes to the frame (Inputs' re-at and im-at are the converse)
pub encodes_parts : (t : Table) (m : Mapping) (first : Bool) (re im : List Float) (load : List ℕ) → main_symbols ≤ length re → main_symbols ≤ length im
    → ((k : ℕ) → k < main_symbols → get_or re k nan ≡ (point_at t m load (start_state first) k).re) → ((k : ℕ) → k < main_symbols → get_or im k nan ≡ (point_at t m load (start_state first) k).im)
    → EncodesTo t m first re im load
encodes_parts t m first re im load a b x y =
    record {
      re_is = front_upto nan (λ k. (point_at t m load (start_state first) k).re) main_symbols re a x;
      im_is = front_upto nan (λ k. (point_at t m load (start_state first) k).im) main_symbols im b y;
    }

-- THE THEOREM: what a frame wants is what is read off it
pub wanted_read : (t : Table) → TableAccepted t → (m : Mapping) (first : Bool) (re im : List Float) (load : List ℕ)
    → Wants t m first re im load → read_off t m first re im ≡ load
wanted_read t ok m first re im load w = read_is t ok m first re im load w.encodes w.full

-- "There is at most one such load, so the one returned is the only one."
pub wanted_only : (t : Table) → TableAccepted t → (m : Mapping) (first : Bool) (re im : List Float) (a b : List ℕ)
    → Wants t m first re im a → Wants t m first re im b → a ≡ b
wanted_only t ok m first re im a b v w = sym (wanted_read t ok m first re im a v) ∙ wanted_read t ok m first re im b w

-- where what is read off encodes to the frame, it is the wanted load
pub read_wanted : (t : Table) (m : Mapping) (first : Bool) (re im : List Float) → EncodesTo t m first re im (read_off t m first re im) → Wants t m first re im (read_off t m first re im)
read_wanted t m first re im e = record { full = read_off_full t m first re im; encodes = e }

-- "13 precisely if no full load encodes to the frame": where some full load does, what is read off does
pub wanted_encodes : (t : Table) → TableAccepted t → (m : Mapping) (first : Bool) (re im : List Float) (load : List ℕ)
    → Wants t m first re im load → EncodesTo t m first re im (read_off t m first re im)
wanted_encodes t ok m first re im load w = subst (EncodesTo t m first re im) (sym (wanted_read t ok m first re im load w)) w.encodes

pub unwanted : (t : Table) → TableAccepted t → (m : Mapping) (first : Bool) (re im : List Float)
    → (EncodesTo t m first re im (read_off t m first re im) → ⊥) → Unwanted t m first re im
unwanted t ok m first re im n load w = n (wanted_encodes t ok m first re im load w)

pub unwanted_back : (t : Table) (m : Mapping) (first : Bool) (re im : List Float)
    → Unwanted t m first re im → EncodesTo t m first re im (read_off t m first re im) → ⊥
unwanted_back t m first re im n e = n (read_off t m first re im) (read_wanted t m first re im e)

-- a full load has 9,744 bytes at most
pub few_bytes : (t : Table) → TableAccepted t → load_bytes t ≤ 9744
few_bytes t ok = omega (arith, (table_laid t ok).valid)
