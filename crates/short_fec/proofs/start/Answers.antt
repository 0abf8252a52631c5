-- `short_fec::start` meets its contract.
use mathlib.Core.Path.{◌≡◌, sym, ◌∙◌, ap}
use native.Mathlib.Omega.{arith}
use mathlib.Core.Bool.{Bool, true, false, cond}
use Prim.Native.Nat.{ℕ}
use Rattle.short_code.specs.CodeLaws.{good_length_lem}
use Rattle.short_fec.proofs.Whole.{started}
use Rattle.short_fec.proofs.start.Goals as goal

no : ◌≡◌ {A = Bool} false true → ⊥
no e = let z : ◌≡◌ {A = ℕ} 0 1 = ap (λ (x : Bool). cond x 1 0) e in omega arith

pub half-n-requires : goal.half-n-requires
half-n-requires c = good_length_lem c.args.code (sym c.good.ensures ∙ c.if-good.true)

pub returns-then-good : goal.returns-then-good
returns-then-good c =
    let a = c.args in
    let half = c.half-n in
    λ e. started a.code half.result a.state c.start_at.new.pm half.ensures.2 half.ensures.1 c.start_at.ensures

pub returns-else-good : goal.returns-else-good
returns-else-good c = λ e. absurd (no (sym (sym c.good.ensures ∙ c.if-good.false) ∙ e))
