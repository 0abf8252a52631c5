use Rattle.std.proofs.Common.{◌≡◌, refl, ap, ◌∙◌, List, ℕ, ◌++◌, ◌+◌, zero, suc, ◌≤◌, take, drop, length, replicate, arith}
use Rattle.std.proofs.lemmas.List.{length-take-le, replicate-append-replicate}
use Rattle.trellis.specs.Lists.{upto, laid}
use Rattle.trellis.specs.ListLaws.{length_upto}
use Rattle.encode_main.proofs.put_unused.Goals as goal

-- the first n values of a constant function
same_value : {A : Type 0} (v : A) (n : ℕ) → upto (λ i. v) n ≡ replicate n v
unfolding upto
same_value v zero = refl
same_value v (suc n) =
    let e : n + 1 ≡ suc n = omega arith in
    ap (λ xs. xs ++ replicate 1 v) (same_value v n) ∙ replicate-append-replicate n 1 v ∙ ap (λ (k : ℕ). replicate k v) e

filled : {A : Type 0} (v : A) (n : ℕ) (xs ys : List A) → n ≤ length xs → ys ≡ replicate (length (take n xs)) v → ys ++ drop n xs ≡ laid (upto (λ i. v) n) xs
filled v n xs ys h e =
    let k = length-take-le n xs h in
    let l = length_upto (λ i. v) n in
    rw (e, k, l, same_value v n) refl

pub returns : goal.returns
returns c = (
  filled _ c.args.n c.args.re.now c.fill.new.self c.requires.0 (c.fill.ensures.after (λ y e. e)),
  filled _ c.args.n c.args.im.now c.fill-2.new.self c.requires.1 (rw c.mirror.ensures at c.fill-2.ensures.after (λ y e. e)),
)
