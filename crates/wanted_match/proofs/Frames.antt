-- A load's frame is compared with the lent one block by block: where all points are alike the load encodes to it, else it does not.
use mathlib.Core.Path.{◌≡◌, refl, sym, ◌∙◌, ap, subst}
use mathlib.Core.Bool.{Bool, true, false, true≢false}
use mathlib.Core.List.{List}
use Prim.Native.Nat.{ℕ, ◌+◌, ◌-◌, ◌<◌, ◌≤◌}
use native.Mathlib.Omega.{arith}
use borrow.Author.Tests.{ltb-true, ltb-false}
use lib.Dec.{ltb}
use lib.ListN.{get_or, length, take}
use lib.Ieee.{Float, nan, ne}
use Rattle.trellis.specs.LaidLaws.{laid_at}
use Rattle.isdbs_tables.specs.declared.Table.{Table}
use Rattle.isdbs_frame.specs.Frame.{main_symbols}
use Rattle.isdbs_plan.specs.declared.Plan.{Plan}
use Rattle.isdbs_plan.specs.RunsOf.{Planned}
use Rattle.isdbs_points.specs.declared.Cplx.{Cplx}
use Rattle.isdbs_points.specs.declared.Mapping.{Mapping}
use Rattle.isdbs_points.specs.Points.{zero64, conjugated}
use Rattle.isdbs_points.specs.Frame.{point_at, start_state}
use Rattle.encode_main.specs.Encoding.{point_of}
use Rattle.encode_blocks.specs.declared.Place.{Place}
use Rattle.encode_blocks.specs.Blocks.{Here, BlockMade}
use Rattle.encode_blocks.specs.FrameLaws.{point_is, point_past}
use Rattle.wanted_read.specs.Inputs.{re_at, im_at}
use Rattle.wanted_read.specs.Only.{encodes_parts}
use Rattle.wanted_match.specs.NumberLaws.{point_number}
use Rattle.wanted_match.specs.Alike.{SamePoints, Matches}

further : (P : ℕ → Type 0) (a n : ℕ) → ((k : ℕ) → k < a → P k) → ((j : ℕ) → j < n → P (a + j)) → (k : ℕ) → k < a + n → P k
further P a n h g k l = by (ltb k a) refl
  where
    by : (b : Bool) → ltb k a ≡ b → P k
    by true e = h k (ltb-true k a e)
    by false e =
        let m = ltb-false k a e in
        let s : a + (k - a) ≡ k = omega arith in
        subst P s (g (k - a) (omega arith))

module _ (t : Table) (m : Mapping) (first : Bool) (re im : List Float) (load : List ℕ) where
  abbrev start : ℕ
  start = start_state first

  abbrev point_on : ℕ → Cplx
  point_on = point_at t m load start

  -- the points before number n are the load's
  pub record Before (n : ℕ) : Type 0 where
    pub re_is : (k : ℕ) → k < n → get_or re k nan ≡ (point_on k).re
    pub im_is : (k : ℕ) → k < n → get_or im k nan ≡ (point_on k).im

  pub none : Before 0
  none = record { re_is = λ k l. absurd (omega arith); im_is = λ k l. absurd (omega arith) }

  -- n points from number `from` on, compared with f and g, which are the load's there
  module _ (from : ℕ) (f g : ℕ → Float) (n : ℕ) (inside : from + n ≤ main_symbols) (re-are : (k : ℕ) → k < n → f k ≡ (point_on (from + k)).re) (im-are : (k : ℕ) → k < n → g k ≡ (point_on (from + k)).im) where
    pub alike : (b : Bool) → b ≡ true → SamePoints re im from f g n b → Before from → Before (from + n)
    alike b e q h =
        record {
          re_is = further (λ k. get_or re k nan ≡ (point_on k).re) from n h.re_is (λ k l. q.re_yes e k l ∙ re-are k l);
          im_is = further (λ k. get_or im k nan ≡ (point_on k).im) from n h.im_is (λ k l. q.im_yes e k l ∙ im-are k l);
        }

    pub differ : (b : Bool) → b ≡ false → SamePoints re im from f g n b → Matches t m first re im load false
    differ b e q =
        record {
          yes = λ x. absurd (true≢false (sym x));
          no = λ x w.
              q.no e
              (λ k l. (subst (λ (z : Float). ne z z ≡ false) (sym (re-are k l)) (point_number t m load start (from + k)).0, subst (λ (z : Float). ne z z ≡ false) (sym (im-are k l)) (point_number t m load start (from + k)).1))
              (λ k l. (re_at t m first re im load w (from + k) (omega arith) ∙ sym (re-are k l), im_at t m first re im load w (from + k) (omega arith) ∙ sym (im-are k l)));
        }

module _ (p : Plan) (planned : Planned p) (m : Mapping) (first : Bool) (re im : List Float) (load : List ℕ) where
  abbrev t : Table
  t = p.table

  abbrev s : ℕ
  s = start_state first

  abbrev point : ℕ → Cplx
  point = point_at t m load s

  -- a block
  module _ (at r : Place) (xs₀ xs ys₀ ys : List Float) (w : BlockMade p.runs p.count m load s at r xs₀ xs ys₀ ys) (on : at.symbol ≤ r.symbol) (fits : r.symbol ≤ main_symbols) where
    abbrev n : ℕ
    n = r.symbol - at.symbol

    xs_at : (j : ℕ) → j < n → get_or xs j nan ≡ (point (at.symbol + j)).re
    xs_at j h =
        ap (λ (x : List Float). get_or x j nan) w.re_is ∙ laid_at nan (λ i. (point_of (take p.count p.runs) m load s (at.symbol + i)).re) n xs₀ j h
        ∙ ap (λ (z : Cplx). z.re) (point_is p planned m load s (at.symbol + j))

    ys_at : (j : ℕ) → j < n → get_or ys j nan ≡ (point (at.symbol + j)).im
    ys_at j h =
        ap (λ (x : List Float). get_or x j nan) w.im_is ∙ laid_at nan (λ i. (point_of (take p.count p.runs) m load s (at.symbol + i)).im) n ys₀ j h
        ∙ ap (λ (z : Cplx). z.im) (point_is p planned m load s (at.symbol + j))

    pub block_alike : (b : Bool) → b ≡ true → SamePoints re im at.symbol (λ k. get_or xs k nan) (λ k. get_or ys k nan) n b → Before t m first re im load at.symbol → Before t m first re im load r.symbol
    block_alike b e q h =
        let sum : at.symbol + n ≡ r.symbol = omega arith in
        subst (Before t m first re im load) sum (alike t m first re im load at.symbol (λ k. get_or xs k nan) (λ k. get_or ys k nan) n (omega arith) xs_at ys_at b e q h)

    pub block_differs : (b : Bool) → b ≡ false → SamePoints re im at.symbol (λ k. get_or xs k nan) (λ k. get_or ys k nan) n b → Matches t m first re im load false
    block_differs b e q = differ t m first re im load at.symbol (λ k. get_or xs k nan) (λ k. get_or ys k nan) n (omega arith) xs_at ys_at b e q

  -- the points past the runs
  module _ (at : Place) (hr : Here p.runs p.count at) (past : p.count ≤ at.run) (lr : main_symbols ≤ length re) (li : main_symbols ≤ length im) (h : Before t m first re im load at.symbol) where
    abbrev rest : ℕ
    rest = main_symbols - at.symbol

    re_past : (k : ℕ) → k < rest → zero64 ≡ (point (at.symbol + k)).re
    re_past k l = ap (λ (z : Cplx). z.re) (sym (point_past p planned m load s at hr past (at.symbol + k) (omega arith)))

    im_past : (k : ℕ) → k < rest → conjugated m.conjugate zero64 ≡ (point (at.symbol + k)).im
    im_past k l = ap (λ (z : Cplx). z.im) (sym (point_past p planned m load s at hr past (at.symbol + k) (omega arith)))

    pub rest_compared : (b : Bool) → SamePoints re im at.symbol (λ k. zero64) (λ k. conjugated m.conjugate zero64) rest b → Matches t m first re im load b
    rest_compared true q =
        let sum : at.symbol + rest ≡ main_symbols = omega (arith, hr.fits) in
        let all = subst (Before t m first re im load) sum (alike t m first re im load at.symbol (λ k. zero64) (λ k. conjugated m.conjugate zero64) rest (omega (arith, sum)) re_past im_past true refl q h) in
        record { yes = λ e. encodes_parts t m first re im load lr li all.re_is all.im_is; no = λ e. absurd (true≢false e) }
    rest_compared false q =
        let sum : at.symbol + rest ≡ main_symbols = omega (arith, hr.fits) in
        differ t m first re im load at.symbol (λ k. zero64) (λ k. conjugated m.conjugate zero64) rest (omega (arith, sum)) re_past im_past false refl q
