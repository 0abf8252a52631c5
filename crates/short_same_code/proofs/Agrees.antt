-- P7: "length 7 with 171 and 133 octal agrees with the existing pair on every input", of the list encoder: two results that meet the contracts of `encode` of
-- crate short_encode and of `encode_punctured` at rate 1/2, which sends every bit, are one, accepted or refused: the answer, the state and the output.
--
use Rattle.std.specs.Prelude.{◌≡◌, cond, List, [], ◌∷◌, eqb, Result, Ok, Err, IfOk, MatchResult}
use Rattle.std.proofs.Math.Path.{refl, sym, ap}
use Rattle.std.proofs.Common.{◌∙◌}
use Prim.Native.Nat.{ℕ, zero, suc, ◌+◌, ◌*◌, ◌/◌, ◌%◌, ◌<◌}
use native.Mathlib.Omega.{arith}
use Rattle.std.proofs.Math.ListN.{length, get_or}
use Rattle.std.proofs.Math.Seq.{ext_get_or}
use Rattle.refusal.specs.declared.Refusal.{Refusal}
use Rattle.refusal.specs.Rows.{first_row, Answer, answer_of}
use Rattle.refusal.proofs.RowLaws.{err_refuses}
use Rattle.trellis.specs.Lists.{upto, laid}
use Rattle.trellis.specs.ListLaws.{length_upto, get_d_upto}
use Rattle.trellis.specs.Code.{isdb, output, state_at}
use Rattle.trellis.specs.Encoded.{low_bits, coded_bits, last_state}
use Rattle.trellis.proofs.EncodedLaws.{reached_is, low_at}
use Rattle.isdbt_table.specs.declared.CodeRate.TheVariants.{R1_2}
use Rattle.isdbt_fec.specs.declared.conv.Encoded as isdbt
use Rattle.isdbt_table.specs.Puncture.{mother, bit_place, punctured}
use Rattle.isdbt_rows.specs.Rows as isdbt-rows
use Rattle.isdbt_fec.specs.Calls.{Encodes}
use Rattle.short_code.specs.Codes.{code_of}
use Rattle.short_fec.specs.Rows as short-rows
use Rattle.isdb_fec.specs.declared.conv.ConvEncoder.{ConvEncoder}
use Rattle.short_encode.specs.EncodingLaws.{length_low, length_coded, coded_x, coded_y}
use Rattle.short_same_code.specs.IsdbCode.{isdb_code}
use Rattle.short_same_code.specs.Alike.{Alike}

-- ---- the rows: every count is whole periods of one input, and two bits are sent for each
pub encode_rows_lem : (s n out : ℕ) → first_row (short-rows.encode_rows isdb_code s n out) ≡ first_row (isdbt-rows.encode_rows R1_2 s n out)
encode_rows_lem s n out =
    let p : n % 1 ≡ 0 = omega arith in
    let q : n / 1 * 2 ≡ 2 * n = omega arith in
    rw (p, q) refl

-- ---- the output: rate 1/2 sends every mother bit in its place
either_bit : (r : ℕ) → r < 2 → get_or (0 ∷ 1 ∷ []) r 0 ≡ r
either_bit zero h = refl
either_bit (suc zero) h = refl
either_bit (suc (suc r)) h = absurd (omega arith)

place_is : (j : ℕ) → bit_place R1_2 j ≡ j
place_is j = let e = either_bit (j % 2) (omega arith) in omega arith

module _ (s : ℕ) (us : List ℕ) where
  -- mother bit i is X of input i / 2 where i is even, Y where it is odd
  mother_is : (i r : ℕ) → i % 2 ≡ r → i < 2 * length us → mother s (low_bits us) i ≡ get_or (coded_bits (code_of isdb_code) s us) i 0
  unfolding mother
  mother_is i zero e h =
      let k : 2 * (i / 2) ≡ i = omega arith in
      ap (λ (m : ℕ). output isdb (cond (eqb m 0) 0o171 0o133) (get_or (low_bits us) (i / 2) 0) (state_at 32 s (low_bits us) (i / 2))) e
      ∙ ap (λ (u : ℕ). output isdb 0o171 u (state_at 32 s (low_bits us) (i / 2))) (low_at us (i / 2))
      ∙ sym (coded_x isdb_code s us (i / 2) (omega arith)) ∙ ap (λ (m : ℕ). get_or (coded_bits (code_of isdb_code) s us) m 0) k
  mother_is i (suc zero) e h =
      let k : 2 * (i / 2) + 1 ≡ i = omega arith in
      ap (λ (m : ℕ). output isdb (cond (eqb m 0) 0o171 0o133) (get_or (low_bits us) (i / 2) 0) (state_at 32 s (low_bits us) (i / 2))) e
      ∙ ap (λ (u : ℕ). output isdb 0o133 u (state_at 32 s (low_bits us) (i / 2))) (low_at us (i / 2))
      ∙ sym (coded_y isdb_code s us (i / 2) (omega arith)) ∙ ap (λ (m : ℕ). get_or (coded_bits (code_of isdb_code) s us) m 0) k
  mother_is i (suc (suc r)) e h = absurd (omega arith)

  pub coded_punctured : coded_bits (code_of isdb_code) s us ≡ punctured R1_2 s us
  unfolding punctured
  coded_punctured =
      let f : ℕ → ℕ = λ j. mother s (low_bits us) (bit_place R1_2 j) in
      let n : length us / 1 * 2 ≡ 2 * length us = omega arith in
      let l = length_coded isdb_code s us in
      sym
      (ap (upto f) n
      ∙ ext_get_or 0 (upto f (2 * length us)) (coded_bits (code_of isdb_code) s us) (length_upto f (2 * length us) ∙ sym l)
      (λ i h.
      let b : i < 2 * length us = rw (length_upto f (2 * length us)) at h in
      get_d_upto f 0 (2 * length us) i b ∙ ap (mother s (low_bits us)) (place_is i) ∙ mother_is i (i % 2) refl b))

  pub last_state_lem : last_state (code_of isdb_code) s us ≡ state_at 32 s (low_bits us) (length us)
  last_state_lem = reached_is (code_of isdb_code) s (low_bits us) ∙ ap (state_at 32 s (low_bits us)) (length_low us)

-- ---- the contracts of the two calls, of the state s and the input bytes us
pub encode_agrees : (s : ℕ) (us out₀ out out' : List ℕ) (r : Result ConvEncoder Refusal) (r' : Result isdbt.Encoded Refusal)
    → answer_of r ≡ first_row (short-rows.encode_rows isdb_code s (length us) (length out₀))
    → IfOk r (λ e. e.state ≡ last_state (code_of isdb_code) s us)
    → MatchResult r (λ _. out ≡ laid (coded_bits (code_of isdb_code) s us) out₀) (λ _. out ≡ out₀)
    → answer_of r' ≡ first_row (isdbt-rows.encode_rows R1_2 s (length us) (length out₀))
    → MatchResult r' (λ x. Encodes R1_2 s us x out₀ out') (λ _. out' ≡ out₀)
    → Alike r r' out out'
encode_agrees s us out₀ out out' (Ok e) (Ok x) a st co a' f =
    let p = st ∙ last_state_lem s us ∙ sym f.state_is in
    (λ i. Ok (record { state = p i }), co ∙ ap (λ (l : List ℕ). laid l out₀) (coded_punctured s us) ∙ sym f.bits_are)
encode_agrees s us out₀ out out' (Ok e) (Err row) a st co a' f = absurd (err_refuses {row = row} (a' ∙ sym (encode_rows_lem s (length us) (length out₀)) ∙ sym a))
encode_agrees s us out₀ out out' (Err row) (Ok x) a st co a' f = absurd (err_refuses {row = row} (a ∙ encode_rows_lem s (length us) (length out₀) ∙ sym a'))
encode_agrees s us out₀ out out' (Err row) (Err other) a st co a' f =
    let same : ◌≡◌ {A = Answer} (Err row) (Err other) = a ∙ encode_rows_lem s (length us) (length out₀) ∙ sym a' in
    (cc, co ∙ sym f)

-- the count of `encode_punctured` is that of the bits which the code sends
pub counts_coded : (s : ℕ) (us out₀ out : List ℕ) (r : Result isdbt.Encoded Refusal)
    → MatchResult r (λ x. Encodes R1_2 s us x out₀ out) (λ _. out ≡ out₀)
    → IfOk r (λ x. x.count ≡ length (coded_bits (code_of isdb_code) s us))
counts_coded s us out₀ out (Ok x) f =
    let l = length_coded isdb_code s us in
    let k = f.count_is in
    let e : length us / 1 * 2 ≡ 2 * length us = omega arith in
    k ∙ e ∙ sym l
counts_coded s us out₀ out (Err row) f = tt
