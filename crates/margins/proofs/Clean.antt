-- The clean parts of points, and laws of their margins: a margin mirrors with its clean part (`conjugated_keeps`), holds the clean part itself (`clean_within`),
-- and lies within what every part may be (`keeps_accepted`).
use Rattle.std.specs.Prelude.{◌≡◌, refl, Bool, true, false, not, cond, ℕ, zero, suc, ◌<◌, T, eqb, Float}
use Rattle.std.proofs.Common.{subst, arith}
use Rattle.std.specs.Float.{binary64}
use Rattle.std.specs.Float.Ieee.{fits, neg, eq, le, of_bits}
use Rattle.std.specs.Float.Ieee.Fits.{and_l, and_r, and_i}
use Rattle.std.specs.Float.Ieee.Scale.{finite}
use Rattle.ieee.proofs.ConversionLaws.{le_neg}
use Rattle.trellis.specs.Step.{term}
use Rattle.isdbs_points.specs.Points.{zero64, one64, root64, psk8_of, conjugated}
use Rattle.margin_ends.specs.Ends.{near0, low1, high1, low_root, high_root}
use Rattle.isdbs_rows.specs.DecodeRows.{part_limit}
use Rattle.margins.specs.Margins.{keeps, between, any_accepted}
use Rattle.margins.specs.Intervals.{Inside}
use Rattle.margins.proofs.Intervals.{inside_wide}

-- "the parts being 0, ±1, ±s exactly", a 0 of either sign
pub data Clean : Float → Type 0 where
  clean_zero : Clean zero64
  clean_minus_zero : Clean (neg zero64)
  clean_one : Clean one64
  clean_minus_one : Clean (neg one64)
  clean_root : Clean root64
  clean_minus_root : Clean (neg root64)

-- ---- which parts are clean
pub clean_neg : (y : Float) → Clean y → Clean (neg y)
unfolding neg of_bits
clean_neg y clean_zero = clean_minus_zero
clean_neg y clean_minus_zero = clean_zero
clean_neg y clean_one = clean_minus_one
clean_neg y clean_minus_one = clean_one
clean_neg y clean_root = clean_minus_root
clean_neg y clean_minus_root = clean_root

turn_clean : (s : Bool) (y : Float) → Clean y → Clean (cond s (neg y) y)
turn_clean true y c = clean_neg y c
turn_clean false y c = c

pub conjugated_clean : (w : Bool) (y : Float) → Clean y → Clean (conjugated w y)
conjugated_clean w y c = turn_clean w y c

pub term_clean : (b : ℕ) (y : Float) → Clean y → Clean (term b y)
term_clean b y c = turn_clean (eqb b 1) y c

pub psk8_clean : (l : ℕ) → l < 8 → Clean (psk8_of l).re × Clean (psk8_of l).im
psk8_clean zero h = (clean_one, clean_zero)
psk8_clean (suc zero) h = (clean_root, clean_root)
psk8_clean (suc (suc zero)) h = (clean_minus_root, clean_root)
psk8_clean (suc (suc (suc zero))) h = (clean_zero, clean_one)
psk8_clean (suc (suc (suc (suc zero)))) h = (clean_minus_one, clean_zero)
psk8_clean (suc (suc (suc (suc (suc zero))))) h = (clean_minus_root, clean_minus_root)
psk8_clean (suc (suc (suc (suc (suc (suc zero)))))) h = (clean_root, clean_minus_root)
psk8_clean (suc (suc (suc (suc (suc (suc (suc zero))))))) h = (clean_zero, clean_minus_one)
psk8_clean (suc (suc (suc (suc (suc (suc (suc (suc l)))))))) h = absurd (omega arith)

-- ---- the ends of a margin
abbrev pub low_end : Float → Float
low_end y = cond (eq y zero64) (neg near0) (cond (eq y one64) low1 (cond (eq y (neg one64)) (neg high1) (cond (eq y root64) low_root (neg high_root))))

abbrev pub high_end : Float → Float
high_end y = cond (eq y zero64) near0 (cond (eq y one64) high1 (cond (eq y (neg one64)) (neg low1) (cond (eq y root64) high_root (neg low_root))))

-- what holds of the five margins holds of each
pub ends : (P : Float → Float → Type 0) → P (neg near0) near0 → P low1 high1 → P (neg high1) (neg low1) → P low_root high_root → P (neg high_root) (neg low_root) → (y : Float) → P (low_end y) (high_end y)
ends P a b c d e y = by_tests (eq y zero64) (eq y one64) (eq y (neg one64)) (eq y root64)
  where
    by_tests : (p q r s : Bool) → P (cond p (neg near0) (cond q low1 (cond r (neg high1) (cond s low_root (neg high_root))))) (cond p near0 (cond q high1 (cond r (neg low1) (cond s high_root (neg low_root)))))
    by_tests true q r s = a
    by_tests false true r s = b
    by_tests false false true s = c
    by_tests false false false true = d
    by_tests false false false false = e

keeps_is : (y x : Float) → keeps y x ≡ between (low_end y) (high_end y) x
unfolding keeps
keeps_is y x = by_tests (eq y zero64) (eq y one64) (eq y (neg one64)) (eq y root64)
  where
    by_tests : (p q r s : Bool)
        → cond p (between (neg near0) near0 x) (cond q (between low1 high1 x) (cond r (between (neg high1) (neg low1) x) (cond s (between low_root high_root x) (between (neg high_root) (neg low_root) x))))
        ≡ between (cond p (neg near0) (cond q low1 (cond r (neg high1) (cond s low_root (neg high_root))))) (cond p near0 (cond q high1 (cond r (neg low1) (cond s high_root (neg low_root))))) x
    by_tests true q r s = refl
    by_tests false true r s = refl
    by_tests false false true s = refl
    by_tests false false false true = refl
    by_tests false false false false = refl

pub between_inside : (a b x : Float) → T (between a b x) → Inside a b x
between_inside a b x t = record { from = and_l (le a x) (le x b) t; to = and_r (le a x) (le x b) t }

pub keeps_inside : (y x : Float) → T (keeps y x) → Inside (low_end y) (high_end y) x
keeps_inside y x t = between_inside (low_end y) (high_end y) x (subst (λ (b : Bool). T b) (keeps_is y x) t)

-- ---- within what is accepted
abbrev Accepts : Float → Float → Type 0
Accepts a b = (x : Float) → Inside a b x → T (any_accepted x)

accepts : (a b : Float) → T (finite a) → T (finite b) → T (le (neg part_limit) a) → T (le b part_limit) → Accepts a b
unfolding neg of_bits
accepts a b p q h k x i =
    let j = inside_wide a b (neg part_limit) part_limit x p q tt tt h k i in
    and_i (le (neg part_limit) x) (le x part_limit) j.from j.to

pub keeps_accepted : (y x : Float) → T (keeps y x) → T (any_accepted x)
unfolding le neg of_bits
keeps_accepted y x t =
    ends Accepts
    (accepts (neg near0) near0 tt tt tt tt) (accepts low1 high1 tt tt tt tt) (accepts (neg high1) (neg low1) tt tt tt tt)
    (accepts low_root high_root tt tt tt tt) (accepts (neg high_root) (neg low_root) tt tt tt tt)
    y x (keeps_inside y x t)

-- ---- "negatives mirrored"
mirror : (a b x : Float) → T (between a b x) → T (between (neg b) (neg a) (neg x))
mirror a b x t = and_i (le (neg b) (neg x)) (le (neg x) (neg a)) (le_neg b x (and_r (le a x) (le x b) t)) (le_neg x a (and_l (le a x) (le x b) t))

mirrored : (y x : Float) → Clean y → T (keeps (neg y) x) → T (keeps y (neg x))
unfolding keeps eq neg of_bits
mirrored y x clean_zero t = mirror (neg near0) near0 x t
mirrored y x clean_minus_zero t = mirror (neg near0) near0 x t
mirrored y x clean_one t = mirror (neg high1) (neg low1) x t
mirrored y x clean_minus_one t = mirror low1 high1 x t
mirrored y x clean_root t = mirror (neg high_root) (neg low_root) x t
mirrored y x clean_minus_root t = mirror low_root high_root x t

pub conjugated_keeps : (w : Bool) (y x : Float) → Clean y → T (keeps (conjugated w y) x) → T (keeps y (conjugated w x))
conjugated_keeps true y x c t = mirrored y x c t
conjugated_keeps false y x c t = t

-- ---- a margin is not empty
pub clean_within : (y : Float) → Clean y → T (keeps y y)
unfolding keeps eq le neg of_bits
clean_within y clean_zero = tt
clean_within y clean_minus_zero = tt
clean_within y clean_one = tt
clean_within y clean_minus_one = tt
clean_within y clean_root = tt
clean_within y clean_minus_root = tt

pub record Other (y x : Float) : Type 0 where
  pub holds : T (fits binary64 x)
  pub apart : T (not (eq x y))
  pub keeps_it : T (keeps y x)
