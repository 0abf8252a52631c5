-- What is left of a decoder whose first path values were lent to the steps of a call.
use mathlib.Core.Path.{◌≡◌, refl, sym, ◌∙◌, ap}
use mathlib.Core.List.{List, ◌++◌}
use Prim.Native.Nat.{ℕ, ◌-◌, ◌*◌, ◌≤◌}
use mathlib.Core.Bool.{cond}
use Prim.Native.Nat.{◌%◌}
use native.Mathlib.Omega.{arith}
use lib.Dec.{eqb}
use lib.ListN.{length, take, drop, replicate, length-replicate, get_or-replicate, take-append-drop}
use lib.Seq.{length-take-le, get_or-take}
use lib.Ieee.{Float, nan, binary32, of_bits}
use Rattle.trellis.specs.ListLaws.{length_upto}
use Rattle.trellis.specs.WrittenLaws.{written_whole}
use borrow.Rule.Slice.PartMut.{put_mid}
use Rattle.std.specs.Prelude.{Result, Ok, Err, IfOk}
use Rattle.refusal.specs.declared.Refusal.{Refusal}
use Rattle.refusal.specs.Rows.{Accepted, answer_of}
use Rattle.trellis.specs.Lists.{laid}
use Rattle.trellis.specs.Run.{Decoder, start_at, start_unknown}
use Rattle.viterbi_core.specs.Calls.{Holds}
use Rattle.isdb_fec.specs.declared.conv.ViterbiDecoder.{ViterbiDecoder}
use Rattle.short_code.specs.declared.Code.{Code}
use Rattle.short_code.specs.Codes.{half_of, states_of, Fits}
use Rattle.short_code.specs.CodeLaws.{states_are}
use Rattle.short_fec.specs.Calls.{Leaves}

-- what an accepted call made has what follows from what it has
pub onward : {A : Type 0} (r : Result A Refusal) (P Q : A → Type 0) → (answer_of r ≡ Accepted → (x : A) → P x → Q x) → IfOk r P → IfOk r Q
onward (Ok x) P Q f p = f refl x p
onward (Err row) P Q f p = tt

pub put_front : (m : ℕ) (l p : List Float) → length p ≡ m → put_mid 0 m l p ≡ laid p l
put_front m l p e = ap (λ (k : ℕ). p ++ drop k l) (sym e)

-- the decoder D by half of the states and their number
pub left : (c : Code) (h m : ℕ) (v : ViterbiDecoder) (D : ℕ → ℕ → Decoder) (p : List Float) (held count : ℕ) (dec₀ dec out₀ out : List ℕ) → Fits c h → m ≡ 2 * h → length p ≡ m
    → Holds v.traceback dec₀ out₀ (D h m) p held count dec out
    → Leaves v (D (half_of c) (states_of c)) (record { dec = record { pm = put_mid 0 m v.pm p; held = held; traceback = v.traceback }; count = count }) dec₀ dec out₀ out
left c h m v D p held count dec₀ dec out₀ out f e l s =
    let all : m ≡ states_of c = e ∙ states_are c h f in
    let same : D h m ≡ D (half_of c) (states_of c) = ap (λ (k : ℕ). D k m) f.half_is ∙ ap (λ (k : ℕ). D (half_of c) k) all in
    let k = rw same at s in
    record {
      values = put_front m v.pm p l ∙ ap (λ (y : List Float). laid y v.pm) k.values;
      held_is = k.held_is;
      traceback_is = refl;
      count_is = k.count_is;
      words = k.words;
      bits = k.bits;
    }

-- ---- fresh path values
abbrev zeros : List Float
zeros = replicate 64 (of_bits binary32 0)

taken_zeros : (n : ℕ) → n ≤ 64 → length (take n zeros) ≡ n
taken_zeros n h = length-take-le n zeros (rw (length-replicate 64 (of_bits binary32 0)) h)

pub started : (c : Code) (h s : ℕ) (p : List Float) → Fits c h → h ≤ 32 → p ≡ start_at (length (take (2 * h - 0) zeros)) s → put_mid 0 (2 * h - 0) zeros p ≡ laid (start_at (states_of c) s) zeros
unfolding start_at
started c h s p f few e =
    let m = 2 * h - 0 in
    let all = states_are c h f in
    let l : length (take m zeros) ≡ states_of c = taken_zeros m (omega arith) ∙ omega arith in
    let is : p ≡ start_at (states_of c) s = e ∙ ap (λ (k : ℕ). start_at k s) l in
    let n : length p ≡ m = ap length is ∙ length_upto (λ k. cond (eqb k (s % states_of c)) (of_bits binary32 0) (of_bits binary32 0xc974_2400)) (states_of c) ∙ omega arith in
    put_front m zeros p n ∙ ap (λ (y : List Float). laid y zeros) is

pub unknown : (n : ℕ) → n ≤ 64 → zeros ≡ laid (start_unknown n) zeros
unfolding start_unknown
unknown n h =
    let e : take n zeros ≡ start_unknown n = written_whole nan (λ k. of_bits binary32 0) n (take n zeros) (taken_zeros n h) (λ i g. get_or-take n zeros i nan g ∙ get_or-replicate 64 i (of_bits binary32 0) nan (omega arith)) in
    let l : length (start_unknown n) ≡ n = length_upto (λ k. of_bits binary32 0) n in
    sym (ap (λ (k : ℕ). start_unknown n ++ drop k zeros) l ∙ ap (λ (y : List Float). y ++ drop n zeros) (sym e) ∙ take-append-drop n zeros)
