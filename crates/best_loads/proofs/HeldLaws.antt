-- A load and its inputs with its uncoded bits are the same thing: each full load gives a content, each content a full load, and there and back is nothing.
use Rattle.std.specs.Prelude.{◌≡◌, refl, Bool, true, false, cond, List, ℕ, zero, suc, ◌+◌, ◌-◌, ◌*◌, ◌/◌, ◌%◌, ◌^◌, ◌≤◌, ◌<◌, eqb, leb, ltb}
use Rattle.std.proofs.Math.Path.{sym, ap}
use Rattle.std.proofs.Common.{◌∙◌, mod-lt, ltb-true, ltb-false, lit<}
use native.Mathlib.Omega.{arith}
use Rattle.std.proofs.Math.ListN.{get_or, length, get_or-eq_default}
use Rattle.std.proofs.Math.Seq.{ext_get_or}
use Rattle.trellis.specs.Lists.{upto, bit}
use Rattle.trellis.specs.ListLaws.{get_d_upto, length_upto}
use Rattle.isdbs_combination.specs.declared.Modulation.{Modulation}
use Rattle.isdbs_combination.specs.declared.Modulation.TheVariants.{Bpsk, Qpsk, Tc8psk}
use Rattle.isdbs_combination.specs.Combinations.{modulation_of, unit_of, slot_steps, slot_bits}
use Rattle.isdbs_tables.specs.declared.Table.{Table}
use Rattle.isdbs_tables.specs.Tables.{TableAccepted}
use Rattle.isdbs_plan.specs.RunsOf.{runs_of, frame_steps, load_bytes, valid_total}
use Rattle.isdbs_points.specs.Layout.{Segment, segments, In, at_step, load_bit, byte_of, FullLoad}
use Rattle.isdbs_points.specs.Frame.{coded, input_in, inputs}
use Rattle.isdbs_points.specs.PlaceLaws.{fill_member, among_all}
use Rattle.isdbs_points.specs.SizeLaws.{table_whole, step_fits, at_bit_lem, find_bit, find_step, fill_bits}
use Rattle.isdbs_points.specs.OrderLaws.{Pairs, Kind, one, two, three, kind}
use Rattle.isdbs_points.specs.BitLaws.{of_pair, bytes_are, bytes_full}
use Rattle.isdbs_points.specs.InputLaws.{input_at}
use Rattle.isdbs_metrics.specs.Reading.{Received}
use Rattle.best_sides.specs.FrameSides.{frame_metrics, frame_sides, side_by, side_in}
use Rattle.best_grid.specs.Sides as sided
use Rattle.best_grid.specs.Contents.{Content, worth}
use Rattle.best_loads.specs.Fit.{fit}
use Rattle.best_loads.specs.Held.{uncoded_by, uncoded_in, uncoded_bits, held_by, held_in, held_bit, load_of}
use Rattle.best_loads.proofs.FitLaws.{beside_at, none_beside, load_worth}

-- ---- the bits of a byte made of bits
eight_bits : (a b c d e f g h : ℕ) → a < 2 → b < 2 → c < 2 → d < 2 → e < 2 → f < 2 → g < 2 → h < 2 → (x : ℕ) → x ≡ a * 128 + b * 64 + c * 32 + d * 16 + e * 8 + f * 4 + g * 2 + h
    → (x / 128 % 2 ≡ a) × (x / 64 % 2 ≡ b) × (x / 32 % 2 ≡ c) × (x / 16 % 2 ≡ d) × (x / 8 % 2 ≡ e) × (x / 4 % 2 ≡ f) × (x / 2 % 2 ≡ g) × (x / 1 % 2 ≡ h)
eight_bits a b c d e f g h ha hb hc hd he hf hg hh x q = (omega arith, omega arith, omega arith, omega arith, omega arith, omega arith, omega arith, omega arith)

byte_bit_lem : (f : ℕ → ℕ) → ((i : ℕ) → f i < 2) → (i : ℕ) → i < 8 → byte_of f / 2 ^ (7 - i) % 2 ≡ f i
byte_bit_lem f h i l = go i l (eight_bits (f 0) (f 1) (f 2) (f 3) (f 4) (f 5) (f 6) (f 7) (h 0) (h 1) (h 2) (h 3) (h 4) (h 5) (h 6) (h 7) (byte_of f) refl)
  where
    go : (i : ℕ) → i < 8
        → (byte_of f / 128 % 2 ≡ f 0) × (byte_of f / 64 % 2 ≡ f 1) × (byte_of f / 32 % 2 ≡ f 2) × (byte_of f / 16 % 2 ≡ f 3) × (byte_of f / 8 % 2 ≡ f 4) × (byte_of f / 4 % 2 ≡ f 5) × (byte_of f / 2 % 2 ≡ f 6) × (byte_of f / 1 % 2 ≡ f 7)
        → byte_of f / 2 ^ (7 - i) % 2 ≡ f i
    go zero l e = e.0
    go (suc zero) l e = e.1
    go (suc (suc zero)) l e = e.2
    go (suc (suc (suc zero))) l e = e.3
    go (suc (suc (suc (suc zero)))) l e = e.4
    go (suc (suc (suc (suc (suc zero))))) l e = e.5
    go (suc (suc (suc (suc (suc (suc zero)))))) l e = e.6
    go (suc (suc (suc (suc (suc (suc (suc zero))))))) l e = e.7
    go (suc (suc (suc (suc (suc (suc (suc (suc i)))))))) l e = absurd (omega arith)

module _ (f : ℕ → ℕ) (h : (n : ℕ) → f n < 2) (count : ℕ) where
  pub made_bit : (n : ℕ) → n < 8 * count → load_bit (upto (λ j. byte_of (λ i. f (8 * j + i))) count) n ≡ f n
  made_bit n l =
      let e : 8 * (n / 8) + n % 8 ≡ n = omega arith in
      ap (λ (b : ℕ). b / 2 ^ (7 - n % 8) % 2) (get_d_upto (λ j. byte_of (λ i. f (8 * j + i))) 0 count (n / 8) (omega arith))
      ∙ byte_bit_lem (λ i. f (8 * (n / 8) + i)) (λ i. h (8 * (n / 8) + i)) (n % 8) (mod-lt n (lit< tt))
      ∙ ap f e

-- ---- bits of a list, at every place
bits_all : (us : List ℕ) (n : ℕ) → length us ≡ n → ((k : ℕ) → k < n → get_or us k 0 < 2) → (k : ℕ) → get_or us k 0 < 2
bits_all us n e h k = go (ltb k n) refl
  where
    past : n ≤ k → get_or us k 0 < 2
    past l = let z : get_or us k 0 ≡ 0 = get_or-eq_default us 0 {n = k} (omega arith) in omega arith

    go : (b : Bool) → ltb k n ≡ b → get_or us k 0 < 2
    go true q = h k (ltb-true k n q)
    go false q = past (ltb-false k n q)

held_small : (md : Modulation) (us zs : List ℕ) → ((k : ℕ) → get_or us k 0 < 2) → ((k : ℕ) → get_or zs k 0 < 2) → (g : Segment) (i : ℕ) → held_by md us zs g i < 2
unfolding held_by
held_small Bpsk us zs h j g i = h (g.step + i)
held_small Qpsk us zs h j g i = h (g.step + i)
held_small Tc8psk us zs h j g i = go (eqb (i % 2) 0)
  where
    go : (b : Bool) → cond b (get_or zs (g.step + i / 2) 0) (get_or us (g.step + i / 2) 0) < 2
    go true = j (g.step + i / 2)
    go false = h (g.step + i / 2)

-- ---- where the bits of a step lie in a segment's bytes
held_coded : (md : Modulation) (us zs : List ℕ) (g : Segment) (k : ℕ) → held_by md us zs g (coded md k) ≡ get_or us (g.step + k) 0
unfolding held_by
held_coded Bpsk us zs g k = refl
held_coded Qpsk us zs g k = refl
held_coded Tc8psk us zs g k =
    let e : (2 * k + 1) % 2 ≡ 1 = omega arith in
    let f : (2 * k + 1) / 2 ≡ k = omega arith in
    rw (e, f) refl

held_beside : (us zs : List ℕ) (g : Segment) (k : ℕ) → held_by Tc8psk us zs g (2 * k) ≡ get_or zs (g.step + k) 0
unfolding held_by
held_beside us zs g k =
    let e : 2 * k % 2 ≡ 0 = omega arith in
    let f : 2 * k / 2 ≡ k = omega arith in
    rw (e, f) refl

-- no uncoded bit outside TC8PSK
no_beside : (md : Modulation) (r : Received) (load : List ℕ) (g : Segment) (k z : ℕ) → z ≤ bit (leb 16 (side_by md r g k)) → (md ≡ Tc8psk → load_bit load (g.bit + 2 * k) ≡ z) → uncoded_by md load g k ≡ z
unfolding side_by
no_beside Bpsk r load g k z h f = omega arith
no_beside Qpsk r load g k z h f = omega arith
no_beside Tc8psk r load g k z h f = f refl

module _ (t : Table) (fit-table : TableAccepted t) where
  pub bits_end : (g : Segment) → In g (segments t) → g.bit + g.bits ≤ 8 * load_bytes t
  bits_end g m = omega (arith, (fill_member (λ g. g.bit) (λ g. g.bits) g (segments t) 0 (0 + slot_bits * valid_total t) m (fill_bits (runs_of t) 0 0)).1)

  module _ (g : Segment) (m : In g (segments t)) where
    plain : slot_steps g.combination ≡ slot_bits → g.steps ≡ g.bits
    plain e = let o = table_whole t fit-table g m in o.steps_are ∙ ap (λ (x : ℕ). x * (o.units * (unit_of g.combination).valid)) e ∙ sym o.bits_are

    half : Pairs g.combination → g.bits ≡ 2 * g.steps
    half s = let o = table_whole t fit-table g m in let b = s.bits o.units in omega (arith, o.steps_are, o.bits_are)

    -- the bits of step k are the segment's
    pub coded_in : (k : ℕ) → k < g.steps → coded (modulation_of g.combination) k < g.bits
    coded_in k h = go (kind g.combination)
      where
        go : Kind g.combination → coded (modulation_of g.combination) k < g.bits
        go (one e s) = let p = plain s.steps in rw e (omega arith)
        go (two e s) = let p = plain s.steps in rw e (omega arith)
        go (three e s) = let p = half s in rw e (omega arith)

    pub beside_in : (k : ℕ) → k < g.steps → modulation_of g.combination ≡ Tc8psk → 2 * k < g.bits
    beside_in k h q = go (kind g.combination)
      where
        go : Kind g.combination → 2 * k < g.bits
        go (one e s) = let z : ◌≡◌ {A = ℕ} 0 1 = cc in omega arith
        go (two e s) = let z : ◌≡◌ {A = ℕ} 0 1 = cc in omega arith
        go (three e s) = let p = half s in omega arith

    -- what a load holds of its inputs and uncoded bits is its own bit
    held_in_lem : (load : List ℕ) (k : ℕ) → k < g.bits → held_in (inputs t load) (uncoded_bits t load) g k ≡ load_bit load (g.bit + k)
    unfolding held_by
    held_in_lem load k h = go (kind g.combination)
      where
        go : Kind g.combination → held_by (modulation_of g.combination) (inputs t load) (uncoded_bits t load) g k ≡ load_bit load (g.bit + k)
        go (one e s) = let p = plain s.steps in rw e (input_at t load g m k (omega arith) ∙ ap (λ (x : Modulation). load_bit load (g.bit + coded x k)) e)
        go (two e s) = let p = plain s.steps in rw e (input_at t load g m k (omega arith) ∙ ap (λ (x : Modulation). load_bit load (g.bit + coded x k)) e)
        go (three e s) =
            let p = half s in
            let l : k / 2 < g.steps = omega arith in
            let c2 : get_or (uncoded_bits t load) (g.step + k / 2) 0 ≡ load_bit load (g.bit + 2 * (k / 2)) = beside_at t load g m (k / 2) l ∙ ap (λ (x : Modulation). uncoded_by x load g (k / 2)) e in
            let u : get_or (inputs t load) (g.step + k / 2) 0 ≡ load_bit load (g.bit + (2 * (k / 2) + 1)) = input_at t load g m (k / 2) l ∙ ap (λ (x : Modulation). load_bit load (g.bit + coded x (k / 2))) e in
            rw e (rw (c2, u) (of_pair (λ n. load_bit load (g.bit + n)) k))

  pub held_bit_lem : (load : List ℕ) (n : ℕ) → n < 8 * load_bytes t → held_bit t (inputs t load) (uncoded_bits t load) n ≡ load_bit load n
  held_bit_lem load n l =
      let f = find_bit t n l in
      rw (f.place_is, at_bit_lem t 0 (held_in (inputs t load) (uncoded_bits t load)) f.segment f.member f.place f.small) (held_in_lem f.segment f.member load f.place f.small)

  -- A FULL LOAD is the load of its inputs and uncoded bits
  pub load_back : (load : List ℕ) → FullLoad load (load_bytes t) → load_of t (inputs t load) (uncoded_bits t load) ≡ load
  unfolding load_of
  load_back load full = bytes_are load (load_bytes t) (held_bit t (inputs t load) (uncoded_bits t load)) full (held_bit_lem load)

  -- so two full loads of one content are one
  pub load_only : (a b : List ℕ) → FullLoad a (load_bytes t) → FullLoad b (load_bytes t) → inputs t a ≡ inputs t b → uncoded_bits t a ≡ uncoded_bits t b → a ≡ b
  load_only a b fa fb e f = sym (load_back a fa) ∙ ap (λ (x : List ℕ). load_of t x (uncoded_bits t a)) e ∙ ap (λ (x : List ℕ). load_of t (inputs t b) x) f ∙ load_back b fb

  -- ---- a content is the inputs and the uncoded bits of its load
  module _ (r : Received) (s : ℕ) (us zs : List ℕ) (c : Content (sided.two (frame_metrics t r) (frame_sides t r)) (frame_steps t) s us zs) where
    abbrev load : List ℕ
    load = load_of t us zs

    beside_bit : (k : ℕ) → k < frame_steps t → get_or zs k 0 < 2
    beside_bit k h = go (sided.two (frame_metrics t r) (frame_sides t r) k) (c.uncoded k h)
      where
        go : (w : Bool) → get_or zs k 0 ≤ bit w → get_or zs k 0 < 2
        go true l = omega arith
        go false l = omega arith

    bit_small : (n : ℕ) → held_bit t us zs n < 2
    bit_small n =
        among_all (λ x. x < 2) (λ g. g.bit) (λ g. g.bits) 0 (held_in us zs) (lit< tt)
        (λ g i. held_small (modulation_of g.combination) us zs (bits_all us (frame_steps t) c.path.count c.path.walk.bits) (bits_all zs (frame_steps t) c.count beside_bit) g i) (segments t) n

    pub content_full : FullLoad load (load_bytes t)
    unfolding load_of
    content_full = bytes_full (held_bit t us zs) bit_small (load_bytes t)

    bit_in : (g : Segment) → In g (segments t) → (k : ℕ) → k < g.bits → load_bit load (g.bit + k) ≡ held_in us zs g k
    unfolding load_of
    bit_in g m k h =
        made_bit (held_bit t us zs) bit_small (load_bytes t) (g.bit + k) (omega (arith, bits_end g m)) ∙ at_bit_lem t 0 (held_in us zs) g m k h

    input_back : (k : ℕ) → k < frame_steps t → get_or (inputs t load) k 0 ≡ get_or us k 0
    input_back k h =
        let f = find_step t k h in
        let g = f.segment in
        let p = f.place in
        let md = modulation_of g.combination in
        rw f.place_is (input_at t load g f.member p f.small ∙ bit_in g f.member (coded md p) (coded_in g f.member p f.small) ∙ held_coded md us zs g p)

    beside_back : (k : ℕ) → k < frame_steps t → get_or (uncoded_bits t load) k 0 ≡ get_or zs k 0
    beside_back k h =
        let f = find_step t k h in
        let g = f.segment in
        let p = f.place in
        let md = modulation_of g.combination in
        let small : get_or zs (g.step + p) 0 ≤ bit (leb 16 (side_in r g p)) = rw (none_beside t r g f.member p f.small) at (c.uncoded (g.step + p) (step_fits t g f.member p f.small)) in
        rw f.place_is (beside_at t load g f.member p f.small ∙ no_beside md r load g p (get_or zs (g.step + p) 0) small
        (λ e. bit_in g f.member (2 * p) (beside_in g f.member p f.small e) ∙ ap (λ (x : Modulation). held_by x us zs g (2 * p)) e ∙ held_beside us zs g p))

    pub content_inputs : inputs t load ≡ us
    unfolding inputs
    content_inputs =
        let n : length (inputs t load) ≡ frame_steps t = length_upto (at_step 0 (input_in load) t) (frame_steps t) in
        ext_get_or 0 (inputs t load) us (n ∙ sym c.path.count) (λ k l. input_back k (rw n at l))

    pub content_uncoded : uncoded_bits t load ≡ zs
    unfolding uncoded_bits
    content_uncoded =
        let n : length (uncoded_bits t load) ≡ frame_steps t = length_upto (at_step 0 (uncoded_in load) t) (frame_steps t) in
        ext_get_or 0 (uncoded_bits t load) zs (n ∙ sym c.count) (λ k l. beside_back k (rw n at l))

    -- THE WORTH of a content is the fit of its load
    pub content_fit : fit t r load s ≡ worth (sided.worth_at (frame_metrics t r) (frame_sides t r)) s us zs (frame_steps t)
    content_fit =
        sym (load_worth t r load s)
        ∙ ap (λ (x : List ℕ). worth (sided.worth_at (frame_metrics t r) (frame_sides t r)) s x (uncoded_bits t load) (frame_steps t)) content_inputs
        ∙ ap (λ (x : List ℕ). worth (sided.worth_at (frame_metrics t r) (frame_sides t r)) s us x (frame_steps t)) content_uncoded

    -- its inputs and its uncoded bits are bits, at every place
    pub content_bits : (k : ℕ) → get_or us k 0 < 2
    content_bits = bits_all us (frame_steps t) c.path.count c.path.walk.bits

    pub content_twos : (k : ℕ) → get_or zs k 0 < 2
    content_twos = bits_all zs (frame_steps t) c.count beside_bit
