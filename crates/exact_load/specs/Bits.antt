-- Labels are below 4, and which part of a QPSK symbol carries which bit.
use Rattle.std.specs.Prelude.{Bool, true, false, cond, ℕ, zero, suc, ◌<◌, T, eqb, Float}
use Rattle.std.proofs.Common.{arith}
use Rattle.trellis.specs.Code.{output, label}
use Rattle.trellis.specs.Step.{term}
use Rattle.isdbs_points.specs.Points.{point, root64, qpsk_of, conjugated}
use Rattle.isdbs_metrics.specs.Reading.{part_of}
use Rattle.margins.specs.Margins.{keeps}
use Rattle.margins.proofs.Clean.{clean_root, term_clean, conjugated_keeps}
use Rattle.trellis.specs.Isdb

-- ---- QPSK: the parts of a symbol that carry p1 and p0
pub carries : (reverse conjugate : Bool) (p1 p0 : ℕ) (x y : Float) → T (keeps (qpsk_of reverse p1 p0).re x)
    → T (keeps (conjugated conjugate (qpsk_of reverse p1 p0).im) y) → (h : ℕ) → h < 2 → T (keeps (term (cond (eqb h 0) p1 p0) root64) (part_of reverse (point x (conjugated conjugate y)) h))
carries true conjugate p1 p0 x y X Y zero h = conjugated_keeps conjugate (term p1 root64) y (term_clean p1 root64 clean_root) Y
carries true conjugate p1 p0 x y X Y (suc zero) h = X
carries true conjugate p1 p0 x y X Y (suc (suc n)) h = absurd (omega arith)
carries false conjugate p1 p0 x y X Y zero h = X
carries false conjugate p1 p0 x y X Y (suc zero) h = conjugated_keeps conjugate (term p0 root64) y (term_clean p0 root64 clean_root) Y
carries false conjugate p1 p0 x y X Y (suc (suc n)) h = absurd (omega arith)
