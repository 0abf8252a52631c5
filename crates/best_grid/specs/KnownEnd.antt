-- The frame's end is open, and W1's 16 known bits add nothing to any sum. Every path has one continuation by given bits; where their steps add 0 it has the same sum (`known_sum`); and after six or
-- more of them all paths are in one state, where the order `First` is what it was before them (`known_first`, `first_known`): the end state is compared bit by bit, its highest bit first.
use Rattle.std.specs.Prelude.{◌≡◌, refl, ◌⊎◌, List, ◌++◌, ℤ, pos, get_or, length}
use Rattle.std.proofs.Common.{sym, ap, ◌∙◌, arith, add-zero, add-suc, mod-lt, get_or-append-add}
use Rattle.std.proofs.Math.Logic.{inl, inr, ⊎_elim}
use Prim.Native.Nat.{ℕ, zero, suc, ◌+◌, ◌*◌, ◌/◌, ◌%◌, ◌≤◌, ◌<◌}
use Rattle.std.proofs.Math.IntN.{+ℤ_idr}
use Rattle.std.proofs.Math.ListN.{get_or-append}
use Rattle.trellis.specs.Code.{state_at, label_at}
use Rattle.trellis.specs.Step.{upper}
use Rattle.trellis.specs.Isdb
use Rattle.path_greatest.specs.Paths.{Path, Tail, First, sumℤ}
use Rattle.path_greatest.proofs.Greatest.{at_more, at_under}

-- ---- sums
sum_front : (m : ℕ → ℕ → ℤ) (s : ℕ) (us ks : List ℕ) (k : ℕ) → k ≤ length us → sumℤ 32 Isdb.labels m s (us ++ ks) k ≡ sumℤ 32 Isdb.labels m s us k
unfolding sumℤ
sum_front m s us ks zero h = refl
sum_front m s us ks (suc k) h = rw (sum_front m s us ks k (omega arith), get_or-append us ks 0 k h, at_more 32 s us ks k (omega arith)) refl

-- the steps from n on add 0 to every branch
abbrev pub Silent : (ℕ → ℕ → ℤ) → ℕ → Type 0
Silent m n = (t l : ℕ) → n ≤ t → m t l ≡ pos 0

pub known_sum : (m : ℕ → ℕ → ℤ) (n s : ℕ) (us ks : List ℕ) → length us ≡ n → Silent m n → (j : ℕ) → sumℤ 32 Isdb.labels m s (us ++ ks) (n + j) ≡ sumℤ 32 Isdb.labels m s us n
unfolding sumℤ
known_sum m n s us ks count silent zero = rw (add-zero n) (sum_front m s us ks n (omega arith))
known_sum m n s us ks count silent (suc j) =
    rw (add-suc n j, silent (n + j) (label_at 32 Isdb.labels s (us ++ ks) (n + j)) (omega arith))
    (+ℤ_idr (sumℤ 32 Isdb.labels m s (us ++ ks) (n + j)) ∙ known_sum m n s us ks count silent j)

-- ---- one digit more: of two numbers of equal length the higher digit decides, else the rest
digit_more : (p x y u v : ℕ) (P : Type 0) → x < 2 → y < 2 → u < p → v < p → (y < x) ⊎ ((x ≡ y) × ((v < u) ⊎ ((u ≡ v) × P))) → (p * y + v < p * x + u) ⊎ ((p * x + u ≡ p * y + v) × P)
digit_more p zero zero u v P hx hy hu hv (inl a) = absurd (omega arith)
digit_more p zero zero u v P hx hy hu hv (inr (e, inl a)) = inl (omega arith)
digit_more p zero zero u v P hx hy hu hv (inr (e, inr (f, q))) = inr (omega arith, q)
digit_more p (suc zero) zero u v P hx hy hu hv w = inl (omega arith)
digit_more p zero (suc zero) u v P hx hy hu hv (inl a) = absurd (omega arith)
digit_more p zero (suc zero) u v P hx hy hu hv (inr (e, w)) = absurd (omega arith)
digit_more p (suc zero) (suc zero) u v P hx hy hu hv (inl a) = absurd (omega arith)
digit_more p (suc zero) (suc zero) u v P hx hy hu hv (inr (e, inl a)) = inl (omega arith)
digit_more p (suc zero) (suc zero) u v P hx hy hu hv (inr (e, inr (f, q))) = inr (omega arith, q)
digit_more p (suc (suc x)) y u v P hx hy hu hv w = absurd (omega arith)
digit_more p zero (suc (suc y)) u v P hx hy hu hv w = absurd (omega arith)
digit_more p (suc zero) (suc (suc y)) u v P hx hy hu hv w = absurd (omega arith)

digit_less : (p x y u v : ℕ) (P : Type 0) → x < 2 → y < 2 → u < p → v < p → (p * y + v < p * x + u) ⊎ ((p * x + u ≡ p * y + v) × P) → (y < x) ⊎ ((x ≡ y) × ((v < u) ⊎ ((u ≡ v) × P)))
digit_less p zero zero u v P hx hy hu hv (inl a) = inr (refl, inl (omega arith))
digit_less p zero zero u v P hx hy hu hv (inr (e, q)) = inr (refl, inr (omega arith, q))
digit_less p (suc zero) zero u v P hx hy hu hv w = inl (omega arith)
digit_less p zero (suc zero) u v P hx hy hu hv (inl a) = absurd (omega arith)
digit_less p zero (suc zero) u v P hx hy hu hv (inr (e, q)) = absurd (omega arith)
digit_less p (suc zero) (suc zero) u v P hx hy hu hv (inl a) = inr (refl, inl (omega arith))
digit_less p (suc zero) (suc zero) u v P hx hy hu hv (inr (e, q)) = inr (refl, inr (omega arith, q))
digit_less p (suc (suc x)) y u v P hx hy hu hv w = absurd (omega arith)
digit_less p zero (suc (suc y)) u v P hx hy hu hv w = absurd (omega arith)
digit_less p (suc zero) (suc (suc y)) u v P hx hy hu hv w = absurd (omega arith)

-- ---- the register moves: the bits that are left stay in their order, and after six moves none is left
shifted_1 : (u a : ℕ) → (32 * u + a / 2) % 2 ≡ a / 2 % 2
shifted_1 u a = omega arith

shifted_2 : (u a : ℕ) → (32 * u + a / 2) / 2 % 2 ≡ a / 4 % 2
shifted_2 u a = omega arith

shifted_4 : (u a : ℕ) → (32 * u + a / 2) / 4 % 2 ≡ a / 8 % 2
shifted_4 u a = omega arith

shifted_8 : (u a : ℕ) → (32 * u + a / 2) / 8 % 2 ≡ a / 16 % 2
shifted_8 u a = omega arith

shifted_16 : (u a : ℕ) → (32 * u + a / 2) / 16 % 2 ≡ a / 32 % 2
shifted_16 u a = omega arith

entered_32 : (u a b : ℕ) → a / 64 ≡ b / 64 → (32 * u + a / 2) / 32 ≡ (32 * u + b / 2) / 32
entered_32 u a b e = omega arith

entered_16 : (u a b : ℕ) → a / 32 ≡ b / 32 → (32 * u + a / 2) / 16 ≡ (32 * u + b / 2) / 16
entered_16 u a b e = omega arith

entered_8 : (u a b : ℕ) → a / 16 ≡ b / 16 → (32 * u + a / 2) / 8 ≡ (32 * u + b / 2) / 8
entered_8 u a b e = omega arith

entered_4 : (u a b : ℕ) → a / 8 ≡ b / 8 → (32 * u + a / 2) / 4 ≡ (32 * u + b / 2) / 4
entered_4 u a b e = omega arith

entered_2 : (u a b : ℕ) → a / 4 ≡ b / 4 → (32 * u + a / 2) / 2 ≡ (32 * u + b / 2) / 2
entered_2 u a b e = omega arith

-- states x k of a register that takes the bits u k
module _ (u x : ℕ → ℕ) (moves : (k : ℕ) → x (suc k) ≡ 32 * u k + x k / 2) where
  by_1 : (k : ℕ) → x (suc k) % 2 ≡ x k / 2 % 2
  by_1 k = rw (moves k) (shifted_1 (u k) (x k))

  by_2 : (k : ℕ) → x (suc k) / 2 % 2 ≡ x k / 4 % 2
  by_2 k = rw (moves k) (shifted_2 (u k) (x k))

  by_4 : (k : ℕ) → x (suc k) / 4 % 2 ≡ x k / 8 % 2
  by_4 k = rw (moves k) (shifted_4 (u k) (x k))

  by_8 : (k : ℕ) → x (suc k) / 8 % 2 ≡ x k / 16 % 2
  by_8 k = rw (moves k) (shifted_8 (u k) (x k))

  by_16 : (k : ℕ) → x (suc k) / 16 % 2 ≡ x k / 32 % 2
  by_16 k = rw (moves k) (shifted_16 (u k) (x k))

  low_1 : x 1 % 2 ≡ x 0 / 2 % 2
  low_1 = by_1 0

  low_2 : x 2 % 2 ≡ x 0 / 4 % 2
  low_2 = by_1 1 ∙ by_2 0

  low_3 : x 3 % 2 ≡ x 0 / 8 % 2
  low_3 = by_1 2 ∙ by_2 1 ∙ by_4 0

  low_4 : x 4 % 2 ≡ x 0 / 16 % 2
  low_4 = by_1 3 ∙ by_2 2 ∙ by_4 1 ∙ by_8 0

  low_5 : x 5 % 2 ≡ x 0 / 32 % 2
  low_5 = by_1 4 ∙ by_2 3 ∙ by_4 2 ∙ by_8 1 ∙ by_16 0

  module _ (y : ℕ → ℕ) (also : (k : ℕ) → y (suc k) ≡ 32 * u k + y k / 2) (hx : x 0 < 64) (hy : y 0 < 64) where
    six : x 6 ≡ y 6
    six =
        let a : x 1 / 32 ≡ y 1 / 32 = rw (moves 0, also 0) (entered_32 (u 0) (x 0) (y 0) (omega arith)) in
        let b : x 2 / 16 ≡ y 2 / 16 = rw (moves 1, also 1) (entered_16 (u 1) (x 1) (y 1) a) in
        let c : x 3 / 8 ≡ y 3 / 8 = rw (moves 2, also 2) (entered_8 (u 2) (x 2) (y 2) b) in
        let d : x 4 / 4 ≡ y 4 / 4 = rw (moves 3, also 3) (entered_4 (u 3) (x 3) (y 3) c) in
        let e : x 5 / 2 ≡ y 5 / 2 = rw (moves 4, also 4) (entered_2 (u 4) (x 4) (y 4) d) in
        moves 5 ∙ ap (λ (z : ℕ). 32 * u 5 + z) e ∙ sym (also 5)

    together : (j : ℕ) → x (6 + j) ≡ y (6 + j)
    together zero = six
    together (suc j) = rw (add-suc 6 j) (moves (6 + j) ∙ ap (λ (z : ℕ). 32 * u (6 + j) + z / 2) (together j) ∙ sym (also (6 + j)))

-- ---- the order
module _ (s : ℕ) (us : List ℕ) (r : ℕ) (vs ks : List ℕ) (n : ℕ) (p : Path 32 n s us) (q : Path 32 n r vs) where
  abbrev x : ℕ → ℕ
  x k = state_at 32 s (us ++ ks) (n + k)

  abbrev y : ℕ → ℕ
  y k = state_at 32 r (vs ++ ks) (n + k)

  abbrev u : ℕ → ℕ
  u k = get_or ks k 0

  known : (ws : List ℕ) (k : ℕ) → length ws ≡ n → get_or (ws ++ ks) (n + k) 0 ≡ u k
  known ws k e = rw (← e) (get_or-append-add ws ks k 0)

  x_moves : (k : ℕ) → x (suc k) ≡ 32 * u k + x k / 2
  unfolding state_at
  x_moves k = rw (add-suc n k) (ap (λ (z : ℕ). 32 * z + x k / 2) (known us k p.count))

  y_moves : (k : ℕ) → y (suc k) ≡ 32 * u k + y k / 2
  unfolding state_at
  y_moves k = rw (add-suc n k) (ap (λ (z : ℕ). 32 * z + y k / 2) (known vs k q.count))

  x_begins : x 0 ≡ state_at 32 s us n
  x_begins = rw (add-zero n) (at_more 32 s us ks n (let e = p.count in omega arith))

  y_begins : y 0 ≡ state_at 32 r vs n
  y_begins = rw (add-zero n) (at_more 32 r vs ks n (let e = q.count in omega arith))

  x_under : x 0 < 64
  x_under = rw x_begins (at_under 32 n s us p.walk)

  y_under : y 0 < 64
  y_under = rw y_begins (at_under 32 n r vs q.walk)

  abbrev T : ℕ → Type 0
  T k = Tail 32 upper s (us ++ ks) r (vs ++ ks) (n + k)

  opened : (k : ℕ) → T (suc k) → (y k % 2 < x k % 2) ⊎ ((x k % 2 ≡ y k % 2) × T k)
  unfolding Tail
  opened k w = rw (add-suc n k) at w

  closed : (k : ℕ) → (y k % 2 < x k % 2) ⊎ ((x k % 2 ≡ y k % 2) × T k) → T (suc k)
  unfolding Tail
  closed k w = rw (add-suc n k) w

  -- from the sixth known bit on nothing differs
  same : (j : ℕ) → x (6 + j) ≡ y (6 + j)
  same = together u x x_moves y y_moves x_under y_under

  fewer : (j : ℕ) → T (6 + j) → T 6
  fewer zero w = w
  fewer (suc j) w =
      let e : x (6 + j) % 2 ≡ y (6 + j) % 2 = ap (λ (z : ℕ). z % 2) (same j) in
      ⊎_elim (λ a. absurd (omega arith)) (λ b. fewer j b.1) (opened (6 + j) (rw (add-suc 6 j) at w))

  more : (j : ℕ) → T 6 → T (6 + j)
  more zero w = w
  more (suc j) w = rw (add-suc 6 j) (closed (6 + j) (inr (ap (λ (z : ℕ). z % 2) (same j), more j w)))

  -- one bit of the end state
  down : (k b c d a e v w : ℕ) → x k % 2 ≡ c → y k % 2 ≡ d → v < b → w < b → b * c + v ≡ a → b * d + w ≡ e → (T k → (w < v) ⊎ ((v ≡ w) × T 0)) → T (suc k) → (e < a) ⊎ ((a ≡ e) × T 0)
  down k b c d a e v w is_c is-d hv hw is-a is-e rest t =
      let hc : c < 2 = rw (← is_c) (mod-lt (x k) (omega arith)) in
      let hd : d < 2 = rw (← is-d) (mod-lt (y k) (omega arith)) in
      let g : (d < c) ⊎ ((c ≡ d) × ((w < v) ⊎ ((v ≡ w) × T 0))) =
      ⊎_elim (λ (l : y k % 2 < x k % 2). inl (rw (is_c, is-d) at l)) (λ (m : (x k % 2 ≡ y k % 2) × T k). inr (sym is_c ∙ m.0 ∙ is-d, rest m.1)) (opened k t) in
      rw (is-a, is-e) at (digit_more b c d v w (T 0) hc hd hv hw g)

  raised : (k b c d a e v w : ℕ) → x k % 2 ≡ c → y k % 2 ≡ d → v < b → w < b → b * c + v ≡ a → b * d + w ≡ e → ((w < v) ⊎ ((v ≡ w) × T 0) → T k) → (e < a) ⊎ ((a ≡ e) × T 0) → T (suc k)
  raised k b c d a e v w is_c is-d hv hw is-a is-e rest t =
      let hc : c < 2 = rw (← is_c) (mod-lt (x k) (omega arith)) in
      let hd : d < 2 = rw (← is-d) (mod-lt (y k) (omega arith)) in
      let g = digit_less b c d v w (T 0) hc hd hv hw (rw (is-a, is-e) t) in
      closed k (⊎_elim (λ (l : d < c). inl (rw (is_c, is-d) l)) (λ (m : (c ≡ d) × ((w < v) ⊎ ((v ≡ w) × T 0))). inr (is_c ∙ m.0 ∙ sym is-d, rest m.1)) g)

  abbrev Ordered : ℕ → ℕ → Type 0
  Ordered a b = (b < a) ⊎ ((a ≡ b) × T 0)

  two : T 2 → Ordered (x 0 % 4) (y 0 % 4)
  two = down 1 2 (x 0 / 2 % 2) (y 0 / 2 % 2) (x 0 % 4) (y 0 % 4) (x 0 % 2) (y 0 % 2) (low_1 u x x_moves) (low_1 u y y_moves) (omega arith) (omega arith) (omega arith) (omega arith) (opened 0)

  three : T 3 → Ordered (x 0 % 8) (y 0 % 8)
  three = down 2 4 (x 0 / 4 % 2) (y 0 / 4 % 2) (x 0 % 8) (y 0 % 8) (x 0 % 4) (y 0 % 4) (low_2 u x x_moves) (low_2 u y y_moves) (omega arith) (omega arith) (omega arith) (omega arith) two

  four : T 4 → Ordered (x 0 % 16) (y 0 % 16)
  four = down 3 8 (x 0 / 8 % 2) (y 0 / 8 % 2) (x 0 % 16) (y 0 % 16) (x 0 % 8) (y 0 % 8) (low_3 u x x_moves) (low_3 u y y_moves) (omega arith) (omega arith) (omega arith) (omega arith) three

  five : T 5 → Ordered (x 0 % 32) (y 0 % 32)
  five = down 4 16 (x 0 / 16 % 2) (y 0 / 16 % 2) (x 0 % 32) (y 0 % 32) (x 0 % 16) (y 0 % 16) (low_4 u x x_moves) (low_4 u y y_moves) (omega arith) (omega arith) (omega arith) (omega arith) four

  whole : (a : ℕ) → a < 64 → 32 * (a / 32 % 2) + a % 32 ≡ a
  whole a h = omega arith

  six_down : T 6 → Ordered (x 0) (y 0)
  six_down = down 5 32 (x 0 / 32 % 2) (y 0 / 32 % 2) (x 0) (y 0) (x 0 % 32) (y 0 % 32) (low_5 u x x_moves) (low_5 u y y_moves) (omega arith) (omega arith) (whole (x 0) x_under) (whole (y 0) y_under) five

  two_up : Ordered (x 0 % 4) (y 0 % 4) → T 2
  two_up = raised 1 2 (x 0 / 2 % 2) (y 0 / 2 % 2) (x 0 % 4) (y 0 % 4) (x 0 % 2) (y 0 % 2) (low_1 u x x_moves) (low_1 u y y_moves) (omega arith) (omega arith) (omega arith) (omega arith) (closed 0)

  three_up : Ordered (x 0 % 8) (y 0 % 8) → T 3
  three_up = raised 2 4 (x 0 / 4 % 2) (y 0 / 4 % 2) (x 0 % 8) (y 0 % 8) (x 0 % 4) (y 0 % 4) (low_2 u x x_moves) (low_2 u y y_moves) (omega arith) (omega arith) (omega arith) (omega arith) two_up

  four_up : Ordered (x 0 % 16) (y 0 % 16) → T 4
  four_up = raised 3 8 (x 0 / 8 % 2) (y 0 / 8 % 2) (x 0 % 16) (y 0 % 16) (x 0 % 8) (y 0 % 8) (low_3 u x x_moves) (low_3 u y y_moves) (omega arith) (omega arith) (omega arith) (omega arith) three_up

  five_up : Ordered (x 0 % 32) (y 0 % 32) → T 5
  five_up = raised 4 16 (x 0 / 16 % 2) (y 0 / 16 % 2) (x 0 % 32) (y 0 % 32) (x 0 % 16) (y 0 % 16) (low_4 u x x_moves) (low_4 u y y_moves) (omega arith) (omega arith) (omega arith) (omega arith) four_up

  six_up : Ordered (x 0) (y 0) → T 6
  six_up = raised 5 32 (x 0 / 32 % 2) (y 0 / 32 % 2) (x 0) (y 0) (x 0 % 32) (y 0 % 32) (low_5 u x x_moves) (low_5 u y y_moves) (omega arith) (omega arith) (whole (x 0) x_under) (whole (y 0) y_under) five_up

  -- the steps before the known ones
  front : (m : ℕ) → m ≤ n → Tail 32 upper s (us ++ ks) r (vs ++ ks) m → Tail 32 upper s us r vs m
  unfolding Tail
  front zero h w = tt
  front (suc m) h w =
      let a = at_more 32 s us ks m (let e = p.count in omega arith) in
      let b = at_more 32 r vs ks m (let e = q.count in omega arith) in
      ⊎_elim (λ l. inl (rw (a, b) at l)) (λ e. inr (rw (a, b) at e.0, front m (omega arith) e.1)) w

  behind : (m : ℕ) → m ≤ n → Tail 32 upper s us r vs m → Tail 32 upper s (us ++ ks) r (vs ++ ks) m
  unfolding Tail
  behind zero h w = tt
  behind (suc m) h w =
      let a = at_more 32 s us ks m (let e = p.count in omega arith) in
      let b = at_more 32 r vs ks m (let e = q.count in omega arith) in
      ⊎_elim (λ l. inl (rw (a, b) l)) (λ e. inr (rw (a, b) e.0, behind m (omega arith) e.1)) w

  pub known_first : (j : ℕ) → First 32 upper s (us ++ ks) r (vs ++ ks) (n + (6 + j)) → First 32 upper s us r vs n
  known_first j w =
      ⊎_elim (λ a. let e = same j in absurd (omega arith))
      (λ t. ⊎_elim (λ l. inl (rw (x_begins, y_begins) at l)) (λ e. inr (rw (x_begins, y_begins) at e.0, front n (omega arith) (rw (add-zero n) at e.1))) (six_down (fewer j t.1)))
      w

  pub first_known : (j : ℕ) → First 32 upper s us r vs n → First 32 upper s (us ++ ks) r (vs ++ ks) (n + (6 + j))
  first_known j w =
      inr (same j, more j (six_up (⊎_elim (λ l. inl (rw (x_begins, y_begins) l)) (λ e. inr (rw (x_begins, y_begins) e.0, rw (add-zero n) (behind n (omega arith) e.1))) w)))
