-- Encoding period by period is encoding the whole.
use Rattle.std.specs.Prelude.{◌≡◌, List, [], ◌∷◌, get_or, take, drop, set}
use Rattle.std.proofs.Math.Path.{refl, ap}
use Rattle.std.proofs.Common.{sym, ◌∙◌, add-one, mod-lt, suc-mul, le_refl, div-add-mod', length-set, length-drop, length-take-le, get_or-take, get_or-drop, get_or-set_same, get_or-set_other, below_more}
use Prim.Native.Nat.{ℕ, zero, suc, ◌+◌, ◌-◌, ◌*◌, ◌/◌, ◌%◌, ◌<◌, ◌≤◌}
use native.Mathlib.Omega.{arith}
use Rattle.std.proofs.Math.ListN.{length}
use Rattle.trellis.specs.Lists.{upto}
use Rattle.trellis.specs.Code.{isdb, output, moved, state_at}
use Rattle.isdbt_table.specs.declared.CodeRate.{CodeRate}
use Rattle.isdbt_table.specs.declared.CodeRate.TheVariants.{R1_2, R2_3, R3_4, R5_6, R7_8}
use Rattle.isdbt_table.specs.declared.Puncturing.{Puncturing}
use Rattle.isdbt_table.specs.Table.{period, sent, compiled}
use Rattle.isdbt_table.specs.Puncture.{mother, bit_place, punctured}
use Rattle.trellis.specs.Encoded.{low_bits}
use Rattle.trellis.specs.LaidLaws.{upto_cong}
use Rattle.isdbt_table.specs.NumberLaws.{numbers}
use Rattle.isdbt_table.specs.SizeLaws.{sizes, order_at, order_below, place_in_lem}
use Rattle.trellis.proofs.EncodedLaws.{low_at}

pub state_next : (s : ℕ) (us : List ℕ) (n : ℕ) → state_at 32 s us (n + 1) ≡ moved 32 (get_or us n 0) (state_at 32 s us n)
unfolding state_at
state_next s us n = rw (add-one n) refl

-- an encoder's state is below 64
pub state_below : (s : ℕ) (bits : List ℕ) (n : ℕ) → s < 64 → state_at 32 s (low_bits bits) n < 64
unfolding state_at
state_below s bits zero h = h
state_below s bits (suc n) h =
    let g : state_at 32 s (low_bits bits) n < 64 = state_below s bits n h in
    let e = low_at bits n in
    omega arith

-- the part of m bytes from a on
module _ (s a m : ℕ) (bits : List ℕ) where
  abbrev part : List ℕ
  part = take m (drop a bits)

  part_input : (i : ℕ) → i < m → get_or (low_bits part) i 0 ≡ get_or (low_bits bits) (a + i) 0
  part_input i h =
      low_at part i ∙ ap (λ (x : ℕ). x % 2) (get_or-take m (drop a bits) i 0 h ∙ get_or-drop a bits i 0) ∙ sym (low_at bits (a + i))

  pub part_state : (n : ℕ) → n ≤ m → state_at 32 (state_at 32 s (low_bits bits) a) (low_bits part) n ≡ state_at 32 s (low_bits bits) (a + n)
  unfolding state_at
  part_state zero h = let z : a ≡ a + 0 = omega arith in ap (λ (k : ℕ). state_at 32 s (low_bits bits) k) z
  part_state (suc n) h =
      let z : a + suc n ≡ suc (a + n) = omega arith in
      let g : n < m = omega arith in
      let before = part_state n (omega arith) in
      rw (z, part_input n g, before) refl

  pub part_mother : (k : ℕ) → k < 2 * m → mother (state_at 32 s (low_bits bits) a) (low_bits part) k ≡ mother s (low_bits bits) (2 * a + k)
  unfolding mother
  part_mother k h =
      let q : (2 * a + k) / 2 ≡ a + k / 2 = omega arith in
      let r : (2 * a + k) % 2 ≡ k % 2 = omega arith in
      let g : k / 2 < m = omega arith in
      rw (q, r, part_input (k / 2) g, part_state (k / 2) (omega arith)) refl

-- the two bits of input i
pub mother_x : (s : ℕ) (us : List ℕ) (i : ℕ) → mother s us (2 * i) ≡ output isdb 0o171 (get_or us i 0) (state_at 32 s us i)
unfolding mother
mother_x s us i = let q : 2 * i / 2 ≡ i = omega arith in let r : 2 * i % 2 ≡ 0 = omega arith in rw (q, r) refl

pub mother_y : (s : ℕ) (us : List ℕ) (i : ℕ) → mother s us (2 * i + 1) ≡ output isdb 0o133 (get_or us i 0) (state_at 32 s us i)
unfolding mother
mother_y s us i = let q : (2 * i + 1) / 2 ≡ i = omega arith in let r : (2 * i + 1) % 2 ≡ 1 = omega arith in rw (q, r) refl

-- two values more at the front
pub written_pair : (f : ℕ → ℕ) (m : List ℕ) (i x y : ℕ) → 2 * i + 1 < length m → x ≡ f (2 * i) → y ≡ f (2 * i + 1)
    → ((k : ℕ) → k < 2 * i → get_or m k 0 ≡ f k)
    → (k : ℕ) → k < 2 * (i + 1) → get_or (set (set m (2 * i) x) (2 * i + 1) y) k 0 ≡ f k
written_pair f m i x y h ex ey below k g =
    let one = set m (2 * i) x in
    let l : length one ≡ length m = length-set m (2 * i) x in
    let P : ℕ → Type 0 = λ j. get_or (set one (2 * i + 1) y) j 0 ≡ f j in
    below_more P (2 * i + 1)
    (below_more P (2 * i)
    (λ j hj. get_or-set_other one (2 * i + 1) j y 0 (λ e. omega arith) ∙ get_or-set_other m (2 * i) j x 0 (λ e. omega arith) ∙ below j hj)
    (get_or-set_other one (2 * i + 1) (2 * i) y 0 (λ e. omega arith) ∙ get_or-set_same m (2 * i) x 0 (omega arith) ∙ ex))
    (get_or-set_same one (2 * i + 1) y 0 (omega arith) ∙ ey)
    k (omega arith)

pub one_more : (b p : ℕ) → (b + 1) * p ≡ b * p + p
one_more b p = ap (λ (x : ℕ). x * p) (add-one b) ∙ suc-mul b p

-- the place of the sent bit j, from the numbers of a compiled puncturing
abbrev pub place_by : ℕ → ℕ → List ℕ → ℕ → ℕ
place_by p n ps j = 2 * p * (j / n) + get_or ps (j % n) 0

-- the bits that are sent go on with each period
module _ (rate : CodeRate) (p : Puncturing) (e : p ≡ compiled rate) (s : ℕ) (bits : List ℕ) where
  pub place_is : (j : ℕ) → place_by p.period p.n p.order j ≡ bit_place rate j
  place_is j =
      let z = sizes rate in
      let h : j % sent rate < sent rate = mod-lt j (omega arith) in
      rw e (ap (λ (k : ℕ). 2 * period rate * (j / sent rate) + k) (order_at rate (j % sent rate) h))

  pub bit_below : (i : ℕ) → i < p.n → get_or p.order i 0 < 2 * p.period
  bit_below = rw e (λ (i : ℕ) (h : i < sent rate). rw (order_at rate i h) (order_below rate i h))

  pub next_bits : (b st : ℕ) (m : List ℕ) → st ≡ state_at 32 s (low_bits bits) (b * p.period)
      → ((k : ℕ) → k < 2 * p.period → get_or m k 0 ≡ mother st (low_bits (take p.period (drop (b * p.period) bits))) k)
      → (i : ℕ) → i < p.n → get_or m (get_or p.order i 0) 0 ≡ mother s (low_bits bits) (place_by p.period p.n p.order (b * p.n + i))
  next_bits b st m es em i h =
      let k = get_or p.order i 0 in
      let g : k < 2 * p.period = bit_below i h in
      let there : place_by p.period p.n p.order (b * p.n + i) ≡ 2 * (b * p.period) + k =
      place_is (b * p.n + i) ∙ placed i h in
      em k g ∙ ap (λ (x : ℕ). mother x (low_bits (take p.period (drop (b * p.period) bits))) k) es
      ∙ part_mother s (b * p.period) p.period bits k g ∙ ap (λ (x : ℕ). mother s (low_bits bits) x) (sym there)
    where
      placed : (i : ℕ) → i < p.n → bit_place rate (b * p.n + i) ≡ 2 * (b * p.period) + get_or p.order i 0
      placed = rw e (λ (i : ℕ) (h : i < sent rate). place_in_lem rate b i h ∙ ap (λ (x : ℕ). 2 * (b * period rate) + x) (sym (order_at rate i h)))

  -- and so does the state
  module _ (b : ℕ) (fits : b * p.period + p.period ≤ length bits) where
    pub part_length : length (take p.period (drop (b * p.period) bits)) ≡ p.period
    part_length = length-take-le p.period (drop (b * p.period) bits) (rw (length-drop (b * p.period) bits) (omega arith))

    pub next_state_lem : (st r : ℕ) → st ≡ state_at 32 s (low_bits bits) (b * p.period)
        → r ≡ state_at 32 st (low_bits (take p.period (drop (b * p.period) bits))) (length (take p.period (drop (b * p.period) bits)))
        → r ≡ state_at 32 s (low_bits bits) ((b + 1) * p.period)
    next_state_lem st r es er =
        let part = low_bits (take p.period (drop (b * p.period) bits)) in
        er ∙ ap (λ (k : ℕ). state_at 32 st part k) part_length ∙ ap (λ (x : ℕ). state_at 32 x part p.period) es
        ∙ part_state s (b * p.period) p.period bits p.period (le_refl p.period)
        ∙ ap (λ (k : ℕ). state_at 32 s (low_bits bits) k) (sym (one_more b p.period))

  -- the end: whole periods are all the bits
  pub whole_bits : length bits % period rate ≡ 0 → length bits / p.period * p.period ≡ length bits
  whole_bits h =
      rw e (let d = div-add-mod' (length bits) (period rate) in omega arith)

  pub whole_sent : upto (λ j. mother s (low_bits bits) (place_by p.period p.n p.order j)) (length bits / p.period * p.n) ≡ punctured rate s bits
  unfolding punctured
  whole_sent =
      let z = numbers rate p e in
      let count : length bits / p.period * p.n ≡ length bits / period rate * sent rate = rw (z.n_is, z.period_is) refl in
      ap (λ (k : ℕ). upto (λ j. mother s (low_bits bits) (place_by p.period p.n p.order j)) k) count
      ∙ upto_cong (λ j. mother s (low_bits bits) (place_by p.period p.n p.order j)) (λ j. mother s (low_bits bits) (bit_place rate j)) (length bits / period rate * sent rate)
      (λ j h. ap (λ (k : ℕ). mother s (low_bits bits) k) (place_is j))

-- the period b lies inside, with its bits and with what is sent for them
inside : (rate : CodeRate) (count out b : ℕ) → b < count / period rate → count / period rate * sent rate ≤ out
    → (b * period rate + period rate ≤ count) × (b * sent rate + sent rate ≤ out) × (b < count)
inside R1_2 count out b h g = (omega arith, omega arith, omega arith)
inside R2_3 count out b h g = (omega arith, omega arith, omega arith)
inside R3_4 count out b h g = (omega arith, omega arith, omega arith)
inside R5_6 count out b h g = (omega arith, omega arith, omega arith)
inside R7_8 count out b h g = (omega arith, omega arith, omega arith)

pub block_inside : (rate : CodeRate) (p : Puncturing) (count out b : ℕ) → p ≡ compiled rate → b < count / p.period → count / period rate * sent rate ≤ out
    → (b * p.period + p.period ≤ count) × (b * p.n + p.n ≤ out) × (b < count)
block_inside rate p count out b e = rw e (inside rate count out b)
