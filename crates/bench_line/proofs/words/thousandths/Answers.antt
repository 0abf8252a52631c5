-- `thousandths` meets its contract.
use Rattle.std.proofs.Common.{◌≡◌, ℕ, ◌-◌, ◌^◌, ◌<◌, subst, arith, rules}
use Rattle.bench_line.specs.NumberLaws.{most}
use Rattle.bench_line.proofs.words.thousandths.Goals as goal

pub overflow_mul-result-in-1-2 : goal.overflow_mul-result-in-1-2
unfolding most
overflow_mul-result-in-1-2 c =
    let f : c.args.fraction < 10 = subst (λ (n : ℕ). c.args.fraction < most n) c.in-1.is c.requires.1.1 in
    search rules

pub overflow_add-result : goal.overflow_add-result
unfolding most
overflow_add-result c =
    let f : c.args.fraction < 10 = subst (λ (n : ℕ). c.args.fraction < most n) c.in-1.is c.requires.1.1 in
    search rules

pub overflow_mul-result-in-2-2 : goal.overflow_mul-result-in-2-2
unfolding most
overflow_mul-result-in-2-2 c =
    let f : c.args.fraction < 100 = subst (λ (n : ℕ). c.args.fraction < most n) c.in-2.is c.requires.1.1 in
    search rules

pub overflow_add-result-in-2 : goal.overflow_add-result-in-2
unfolding most
overflow_add-result-in-2 c =
    let f : c.args.fraction < 100 = subst (λ (n : ℕ). c.args.fraction < most n) c.in-2.is c.requires.1.1 in
    search rules

pub overflow_add-result-in_default : goal.overflow_add-result-in_default
unfolding most
overflow_add-result-in_default c =
    let e : c.args.n ≡ 3 = omega arith in
    let f : c.args.fraction < 1000 = subst (λ (n : ℕ). c.args.fraction < most n) e c.requires.1.1 in
    search rules

pub returns-in-0 : goal.returns-in-0
unfolding most
returns-in-0 c =
    let f : c.args.fraction < 1 = subst (λ (n : ℕ). c.args.fraction < most n) c.in-0.is c.requires.1.1 in
    let z : 10 ^ (3 - c.args.n) ≡ 1000 = rw c.in-0.is in
    (rw z (omega arith), omega arith)

pub returns-in-1 : goal.returns-in-1
unfolding most
returns-in-1 c =
    let f : c.args.fraction < 10 = subst (λ (n : ℕ). c.args.fraction < most n) c.in-1.is c.requires.1.1 in
    let z : 10 ^ (3 - c.args.n) ≡ 100 = rw c.in-1.is in
    (rw z (omega arith), omega arith)

pub returns-in-2 : goal.returns-in-2
unfolding most
returns-in-2 c =
    let f : c.args.fraction < 100 = subst (λ (n : ℕ). c.args.fraction < most n) c.in-2.is c.requires.1.1 in
    let z : 10 ^ (3 - c.args.n) ≡ 10 = rw c.in-2.is in
    (rw z (omega arith), omega arith)

pub returns-in_default : goal.returns-in_default
unfolding most
returns-in_default c =
    let e : c.args.n ≡ 3 = omega arith in
    let f : c.args.fraction < 1000 = subst (λ (n : ℕ). c.args.fraction < most n) e c.requires.1.1 in
    let z : 10 ^ (3 - c.args.n) ≡ 1 = rw e in
    (rw z (omega arith), omega arith)
