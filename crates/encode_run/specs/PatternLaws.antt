-- The pattern of a punctured code as pairs of mother bits.
use Rattle.std.specs.Prelude.{◌≡◌, refl, Bool, true, ◌&&◌, List, [], ◌∷◌, ℕ, zero, suc, ◌+◌, ◌*◌, ◌/◌, ◌<◌, T, eqb, ltb, get_or, Some, None}
use Rattle.std.proofs.Common.{not-suc-le-zero, arith, below_more, eqb→eq, ltb→lt, lit<, lit≤}
use Rattle.isdbs_combination.specs.declared.BitPair.{BitPair}
use Rattle.isdbs_combination.specs.declared.Puncture.{Puncture}
use Rattle.isdbs_combination.specs.declared.Puncture.TheVariants.{R2_3, R3_4, R5_6, R7_8}
use Rattle.isdbs_combination.specs.Combinations.{period_of, four_pairs, pairs_of}
use Rattle.std.proofs.Math.Facts.{and_yes}
use Rattle.encode_run.specs.declared.Pattern.{Pattern}
use Rattle.isdbs_points.specs.Layout.{sent_order}
use Rattle.encode_run.specs.Encoded.{PatternOf}

-- f and g agree below n
unfoldable agree : ℕ → (ℕ → ℕ) → (ℕ → ℕ) → Bool
agree zero f g = true
agree (suc n) f g = eqb (f n) (g n) && agree n f g

unfoldable all_within : ℕ → List ℕ → Bool
all_within n [] = true
all_within n (a ∷ l) = ltb (a / 2) n && all_within n l

each_same : (n : ℕ) (f g : ℕ → ℕ) → T (agree n f g) → (i : ℕ) → i < n → f i ≡ g i
unfolding agree
each_same zero f g h i l = absurd (not-suc-le-zero l)
each_same (suc n) f g h i l =
    let both = and_yes (eqb (f n) (g n)) (agree n f g) h in
    below_more (λ x. f x ≡ g x) n (each_same n f g both.1) (eqb→eq (f n) (g n) both.0) i (omega arith)

each_within : (n : ℕ) (l : List ℕ) → 0 < n → T (all_within n l) → (i : ℕ) → get_or l i 0 / 2 < n
unfolding all_within
each_within n [] z h i = z
each_within n (a ∷ l) z h zero = ltb→lt (a / 2) n (and_yes (ltb (a / 2) n) (all_within n l) h).0
each_within n (a ∷ l) z h (suc i) = each_within n l z (and_yes (ltb (a / 2) n) (all_within n l) h).1 i

abbrev no_pair : BitPair
no_pair = record { p1 = 0; p0 = 0 }

-- the first and the second bits of four pairs
abbrev firsts_of : List BitPair → List ℕ
firsts_of ps = (get_or ps 0 no_pair).p1 ∷ (get_or ps 1 no_pair).p1 ∷ (get_or ps 2 no_pair).p1 ∷ (get_or ps 3 no_pair).p1 ∷ []

abbrev seconds_of : List BitPair → List ℕ
seconds_of ps = (get_or ps 0 no_pair).p0 ∷ (get_or ps 1 no_pair).p0 ∷ (get_or ps 2 no_pair).p0 ∷ (get_or ps 3 no_pair).p0 ∷ []

abbrev some_pattern : Puncture → Pattern
some_pattern p = record { period = period_of p; count = (four_pairs p).count; p1 = firsts_of (four_pairs p).pairs; p0 = seconds_of (four_pairs p).pairs }

pub pattern_some : (p : Puncture) → PatternOf (Some p) (some_pattern p)
unfolding sent_order all_within agree
pattern_some R2_3 =
    record {
      period_is = refl;
      count_is = refl;
      short = lit≤ tt;
      some = lit< tt;
      few = lit≤ tt;
      pairs_many = lit< tt;
      first = each_same 3 (λ i. get_or (firsts_of (four_pairs R2_3).pairs) i 0) (λ i. get_or (sent_order (pairs_of R2_3)) (2 * i) 0) tt;
      second = each_same 3 (λ i. get_or (seconds_of (four_pairs R2_3).pairs) i 0) (λ i. get_or (sent_order (pairs_of R2_3)) (2 * i + 1) 0) tt;
      within = each_within 4 (sent_order (pairs_of R2_3)) (lit< tt) tt;
    }
pattern_some R3_4 =
    record {
      period_is = refl;
      count_is = refl;
      short = lit≤ tt;
      some = lit< tt;
      few = lit≤ tt;
      pairs_many = lit< tt;
      first = each_same 2 (λ i. get_or (firsts_of (four_pairs R3_4).pairs) i 0) (λ i. get_or (sent_order (pairs_of R3_4)) (2 * i) 0) tt;
      second = each_same 2 (λ i. get_or (seconds_of (four_pairs R3_4).pairs) i 0) (λ i. get_or (sent_order (pairs_of R3_4)) (2 * i + 1) 0) tt;
      within = each_within 3 (sent_order (pairs_of R3_4)) (lit< tt) tt;
    }
pattern_some R5_6 =
    record {
      period_is = refl;
      count_is = refl;
      short = lit≤ tt;
      some = lit< tt;
      few = lit≤ tt;
      pairs_many = lit< tt;
      first = each_same 3 (λ i. get_or (firsts_of (four_pairs R5_6).pairs) i 0) (λ i. get_or (sent_order (pairs_of R5_6)) (2 * i) 0) tt;
      second = each_same 3 (λ i. get_or (seconds_of (four_pairs R5_6).pairs) i 0) (λ i. get_or (sent_order (pairs_of R5_6)) (2 * i + 1) 0) tt;
      within = each_within 5 (sent_order (pairs_of R5_6)) (lit< tt) tt;
    }
pattern_some R7_8 =
    record {
      period_is = refl;
      count_is = refl;
      short = lit≤ tt;
      some = lit< tt;
      few = lit≤ tt;
      pairs_many = lit< tt;
      first = each_same 4 (λ i. get_or (firsts_of (four_pairs R7_8).pairs) i 0) (λ i. get_or (sent_order (pairs_of R7_8)) (2 * i) 0) tt;
      second = each_same 4 (λ i. get_or (seconds_of (four_pairs R7_8).pairs) i 0) (λ i. get_or (sent_order (pairs_of R7_8)) (2 * i + 1) 0) tt;
      within = each_within 7 (sent_order (pairs_of R7_8)) (lit< tt) tt;
    }

pub pattern_none : PatternOf None (record { period = 1; count = 1; p1 = 0 ∷ 0 ∷ 0 ∷ 0 ∷ []; p0 = 1 ∷ 1 ∷ 1 ∷ 1 ∷ [] })
unfolding all_within agree
pattern_none =
    record {
      period_is = refl;
      count_is = refl;
      short = lit≤ tt;
      some = lit< tt;
      few = lit≤ tt;
      pairs_many = lit< tt;
      first = each_same 1 (λ i. get_or (0 ∷ 0 ∷ 0 ∷ 0 ∷ []) i 0) (λ i. get_or (0 ∷ 1 ∷ []) (2 * i) 0) tt;
      second = each_same 1 (λ i. get_or (1 ∷ 1 ∷ 1 ∷ 1 ∷ []) i 0) (λ i. get_or (0 ∷ 1 ∷ []) (2 * i + 1) 0) tt;
      within = each_within 1 (0 ∷ 1 ∷ []) (lit< tt) tt;
    }
