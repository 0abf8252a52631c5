-- A stretch traced back from its end: after t steps' words are left, the inputs of the others lead from the state s to the end, and their coded bits stand in the output.
use Rattle.std.specs.Prelude.{◌≡◌, refl, List, [], ◌∷◌, ◌++◌, ℕ, suc, ◌+◌, ◌*◌, ◌/◌, ◌%◌, ◌^◌, ◌≤◌, ◌<◌, length, set}
use Rattle.std.proofs.Math.Path.{sym, ap}
use Rattle.std.proofs.Common.{◌∙◌, arith, take-suc, drop-cons, length-take-le}
use Rattle.std.proofs.Math.ListN.{get_or, take, drop, take-append-drop, get_or-append}
use Rattle.std.proofs.Math.Seq.{append_snoc}
use Rattle.std.proofs.lemmas.List.{set_at}
use Rattle.trellis.specs.Code.{isdb, output, moved}
use Rattle.trellis.specs.Encoded.{encoded, reached}
use Rattle.trellis.specs.Lists.{bit, upto, laid}
use Rattle.trellis.specs.ListLaws.{packed_bit, length_upto, get_d_upto}
use Rattle.trellis.proofs.RunLaws.{label_under}
use Rattle.trellis.specs.Stretch.{apart, Bits}
use Rattle.trellis.proofs.DistanceLaws.{bits_at}
use Rattle.trellis.specs.LaidLaws.{length_laid}
use Rattle.mend_distance.specs.Stretches.{most_changed, unlike, sent_from, WithinFour}
use Rattle.mend_distance.proofs.StretchLaws.{label_x, label_y, pair_apart, length_sent}
use Rattle.mend_distance.specs.Distances.{pair_at, through, odd, word, nearest, word_at}
use Rattle.mend_distance.proofs.DistanceLaws.{chosen, next_at, from_start}
use Rattle.trellis.specs.Isdb

pub record Tail (start e : ℕ) (bits out₀ : List ℕ) (t s : ℕ) (out : List ℕ) : Type 0 where
  pub inputs : List ℕ
  pub count : length bits ≡ 2 * (t + length inputs)
  pub are_bits : Bits inputs
  pub ends : reached isdb s inputs ≡ e
  pub near : get_or (nearest start (pair_at bits) t) s 0 + unlike (sent_from s inputs) (drop (2 * t) bits) ≤ most_changed
  pub written : out ≡ take (2 * t) out₀ ++ (sent_from s inputs ++ drop (length bits) out₀)

-- what is written once it is traced: the coded stretch within four
pub record Writes (start e : ℕ) (bits out₀ out : List ℕ) : Type 0 where
  pub inputs : List ℕ
  pub within : WithinFour start e bits inputs
  pub out_is : out ≡ laid (sent_from start inputs) out₀

-- the words that are kept
pub kept_long : (f : ℕ → ℕ) (n : ℕ) (ds₀ ds : List ℕ) → n ≤ length ds₀ → ds ≡ laid (upto f n) ds₀ → length ds ≡ length ds₀
kept_long f n ds₀ ds h e = ap length e ∙ length_laid (upto f n) ds₀ (let l = length_upto f n in omega arith)

pub kept_at : (f : ℕ → ℕ) (n : ℕ) (ds₀ ds : List ℕ) → ds ≡ laid (upto f n) ds₀ → (t : ℕ) → t < n → get_or ds t 0 ≡ f t
kept_at f n ds₀ ds e t h =
    let l = length_upto f n in
    ap (λ (x : List ℕ). get_or x t 0) e ∙ get_or-append (upto f n) (drop (length (upto f n)) ds₀) 0 t (omega arith) ∙ get_d_upto f 0 n t h

-- a store in front of what is written
before : (o : List ℕ) (k v : ℕ) (rest : List ℕ) → k < length o → set (take (suc k) o ++ rest) k v ≡ take k o ++ (v ∷ rest)
before o k v rest h =
    ap (λ (l : List ℕ). set (l ++ rest) k v) (take-suc o k 0 h)
    ∙ ap (λ (l : List ℕ). set l k v) (append_snoc (take k o) (get_or o k 0) rest)
    ∙ set_at (take k o) (get_or o k 0) rest v k (length-take-le k o (omega arith))

sent_more : (u p s : ℕ) (us : List ℕ) → moved 32 u p ≡ s → sent_from p (u ∷ us) ≡ output isdb 0o171 u p ∷ output isdb 0o133 u p ∷ sent_from s us
unfolding encoded
sent_more u p s us e = rw (e, label_x u p, label_y u p) refl

reached_more : (u p s : ℕ) (us : List ℕ) → moved 32 u p ≡ s → reached isdb p (u ∷ us) ≡ reached isdb s us
unfolding reached
reached_more u p s us e = rw e refl

-- the stored bits of a step
two_bits : (bits : List ℕ) (t : ℕ) → 2 * t + 1 < length bits → drop (2 * t) bits ≡ get_or bits (2 * t) 0 ∷ get_or bits (2 * t + 1) 0 ∷ drop (2 * suc t) bits
two_bits bits t h =
    let a : suc (2 * t) ≡ 2 * t + 1 = omega arith in
    let b : suc (2 * t + 1) ≡ 2 * suc t = omega arith in
    drop-cons bits (2 * t) 0 (omega arith)
    ∙ ap (λ (k : ℕ). get_or bits (2 * t) 0 ∷ drop k bits) a
    ∙ ap (λ (l : List ℕ). get_or bits (2 * t) 0 ∷ l) (drop-cons bits (2 * t + 1) 0 h)
    ∙ ap (λ (k : ℕ). get_or bits (2 * t) 0 ∷ get_or bits (2 * t + 1) 0 ∷ drop k bits) b

module _ (start e : ℕ) (bits out₀ : List ℕ) (hb : Bits bits) (room : length bits ≤ length out₀) where
  pub tail_none : (n : ℕ) → length bits ≡ 2 * n → get_or (nearest start (pair_at bits) n) e 0 ≤ most_changed → Tail start e bits out₀ n e out₀
  unfolding encoded reached
  tail_none n c h =
      record {
        inputs = [];
        count = omega arith;
        are_bits = tt;
        ends = refl;
        near = omega arith;
        written = sym (ap (λ (k : ℕ). take k out₀ ++ drop (length bits) out₀) (sym c) ∙ take-append-drop (length bits) out₀);
      }

  -- how the number of a state came about
  by_word : (t s p : ℕ) → s < 64 → p ≡ 2 * (s % 32) + word_at start bits t / 2 ^ s % 2 → get_or (nearest start (pair_at bits) (suc t)) s 0 ≤ most_changed
      → get_or (nearest start (pair_at bits) (suc t)) s 0 ≡ get_or (nearest start (pair_at bits) t) p 0 + apart (Isdb.labels (s / 32) p) (pair_at bits t)
  unfolding word through
  by_word t s p hs is-p h =
      let d = nearest start (pair_at bits) t in
      let l = pair_at bits t in
      let a = next_at start (pair_at bits) t s hs in
      let b = packed_bit (odd d l) 64 s hs in
      let q : p ≡ 2 * (s % 32) + bit (odd d l s) = is-p ∙ ap (λ (i : ℕ). 2 * (s % 32) + i) b in
      a ∙ chosen d l s (rw a at h) ∙ ap (λ (i : ℕ). get_or d i 0 + apart (Isdb.labels (s / 32) i) l) (sym q)

  pub tail_more : (t s p x y : ℕ) (out : List ℕ) → s < 64 → p ≡ 2 * (s % 32) + word_at start bits t / 2 ^ s % 2 → x ≡ output isdb 0o171 (s / 32 % 2) p → y ≡ output isdb 0o133 (s / 32 % 2) p
      → Tail start e bits out₀ (suc t) s out → Tail start e bits out₀ t p (set (set out (2 * t + 1) y) (2 * t) x)
  tail_more t s p x y out hs is-p is_x is_y tl =
      let u = s / 32 in
      let us = tl.inputs in
      let c = tl.count in
      let hu : u < 2 = omega arith in
      let low : word_at start bits t / 2 ^ s % 2 < 2 = omega arith in
      let m : moved 32 u p ≡ s = omega arith in
      let v : s / 32 % 2 ≡ u = omega arith in
      let ix : x ≡ output isdb 0o171 u p = rw v at is_x in
      let iy : y ≡ output isdb 0o133 u p = rw v at is_y in
      let sent : sent_from p (u ∷ us) ≡ x ∷ y ∷ sent_from s us = sent_more u p s us m ∙ rw (ix, iy) refl in
      let big : 2 * t + 1 < length bits = omega arith in
      let two = two_bits bits t big in
      let x' = get_or bits (2 * t) 0 in
      let y' = get_or bits (2 * t + 1) 0 in
      let rest = drop (2 * suc t) bits in
      let near = tl.near in
      let number = by_word t s p hs is-p (omega arith) in
      let ap2 = pair_apart (Isdb.labels u p) x' y' (label_under isdb u p) (bits_at bits hb (2 * t)) (bits_at bits hb (2 * t + 1)) in
      let ux : Isdb.labels u p / 2 ≡ x = label_x u p ∙ sym ix in
      let uy : Isdb.labels u p % 2 ≡ y = label_y u p ∙ sym iy in
      let far : unlike (x ∷ y ∷ sent_from s us) (x' ∷ y' ∷ rest) ≡ apart (Isdb.labels u p) (pair_at bits t) + unlike (sent_from s us) rest =
      let a = rw (ux, uy) at ap2 in omega arith in
      let a : 2 * suc t ≡ suc (2 * t + 1) = omega arith in
      let b : 2 * t + 1 ≡ suc (2 * t) = omega arith in
      let stored : set (set out (2 * t + 1) y) (2 * t) x ≡ take (2 * t) out₀ ++ (x ∷ y ∷ (sent_from s us ++ drop (length bits) out₀)) =
      ap (λ (l : List ℕ). set (set l (2 * t + 1) y) (2 * t) x) (tl.written ∙ ap (λ (k : ℕ). take k out₀ ++ (sent_from s us ++ drop (length bits) out₀)) a)
      ∙ ap (λ (l : List ℕ). set l (2 * t) x) (before out₀ (2 * t + 1) y (sent_from s us ++ drop (length bits) out₀) (omega arith))
      ∙ ap (λ (k : ℕ). set (take k out₀ ++ (y ∷ (sent_from s us ++ drop (length bits) out₀))) (2 * t) x) b
      ∙ before out₀ (2 * t) x (y ∷ (sent_from s us ++ drop (length bits) out₀)) (omega arith) in
      record {
        inputs = u ∷ us;
        count = omega arith;
        are_bits = (hu, tl.are_bits);
        ends = reached_more u p s us m ∙ tl.ends;
        near = rw (sent, two) (omega arith);
        written = stored ∙ ap (λ (l : List ℕ). take (2 * t) out₀ ++ (l ++ drop (length bits) out₀)) (sym sent);
      }

  -- at the start
  pub tail_whole : (s : ℕ) (out : List ℕ) → s < 64 → Tail start e bits out₀ 0 s out → Writes start e bits out₀ out
  tail_whole s out hs tl =
      let us = tl.inputs in
      let near = tl.near in
      let is : s ≡ start = from_start start (pair_at bits) s hs (omega arith) in
      let c = tl.count in
      let l = length_sent s us in
      let full : length (sent_from s us) ≡ length bits = omega arith in
      let w : out ≡ laid (sent_from s us) out₀ = tl.written ∙ ap (λ (k : ℕ). sent_from s us ++ drop k out₀) (sym full) in
      let four : unlike (sent_from s us) bits ≤ most_changed = omega arith in
      record {
        inputs = us;
        within = record { count = omega arith; inputs = tl.are_bits; ends = rw is at tl.ends; four = rw is at four };
        out_is = rw is at w;
      }
