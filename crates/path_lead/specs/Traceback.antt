-- A decoder whose decision words point along a path of states puts out the inputs of that path, whenever it releases bits: laws of trellis' `after`,
-- `pushed` and `flushed` over any code, either tie-break and any traceback length.
use Rattle.std.specs.Prelude.{◌≡◌, ◌⊎◌, Bool, true, false, cond, leb, get_or, take, drop, Float}
use Rattle.std.proofs.Math.Path.{refl, ap}
use Rattle.std.proofs.Common.{sym, ◌∙◌, subst, inl, inr, add-zero, add-suc, le_refl, le_of_eq, get_or-append-add, get_or-take, get_or-drop, take_all}
use mathlib.Core.List.{List, [], ◌∷◌, ◌++◌}
use Prim.Native.Nat.{ℕ, zero, suc, ◌+◌, ◌*◌, ◌/◌, ◌-◌, ◌<◌, ◌≤◌}
use native.Mathlib.Omega.{arith}
use Rattle.std.proofs.Math.Dec.{T, leb→le}
use Rattle.std.proofs.Math.ListN.{length, length-append, length-take, length-drop, get_or-append}
use Rattle.std.proofs.lemmas.List.{get_or_at}
use Rattle.ieee.specs.Rounding.{le_or_ge}
use Rattle.trellis.specs.Step.{Step, Tie, nexts, word, best, kept, back, input, traced}
use Rattle.trellis.specs.Run.{Decoder, block, values_at, word_at, settled, decoded, released, stepped, after, flushed}
use Rattle.trellis.specs.ListLaws.{length_upto, get_d_upto}
use Rattle.trellis.proofs.RunLaws.{after_values}
use Rattle.path_lead.specs.Ties.{same}

-- what holds below a, and of the b numbers from a on
pub joined : (P : ℕ → Type 0) (a b : ℕ) → ((i : ℕ) → i < a → P i) → ((j : ℕ) → j < b → P (a + j)) → (i : ℕ) → i < a + b → P i
joined P a b p q i h = go (le_or_ge a i) (same i a)
  where
    from : a ≤ i → P i
    from l = let n : a + (i - a) ≡ i = omega arith in subst P n (q (i - a) (omega arith))

    go : (a ≤ i) ⊎ (i ≤ a) → (i ≡ a) ⊎ (i ≡ a → ⊥) → P i
    go (inl l) e = from l
    go (inr l) (inl e) = from (omega arith)
    go (inr l) (inr e) = p i (omega arith)

pub length_traced : (half : ℕ) (ws : List ℕ) (s : ℕ) → length (traced half ws s) ≡ length ws
unfolding traced
length_traced half ws s = length_upto (input half ws (length ws) s) (length ws)

-- ---- the traceback by words that point along a path f
module _ (half : ℕ) (f : ℕ → ℕ) (ws : List ℕ) where
  along : (n : ℕ) → ((i : ℕ) → i < n → kept half (get_or ws i 0) (f (suc i)) ≡ f i) → (d : ℕ) → d ≤ n → back half ws n (f n) d ≡ f (n - d)
  unfolding back
  along n h zero l = ap f (omega arith)
  along n h (suc d) l =
      let e : n - d ≡ suc (n - suc d) = omega arith in
      rw (along n h d (omega arith), e) (h (n - suc d) (omega arith))

  pub traced_along : ((i : ℕ) → i < length ws → kept half (get_or ws i 0) (f (suc i)) ≡ f i) → (i : ℕ) → i < length ws → get_or (traced half ws (f (length ws))) i 0 ≡ f (suc i) / half
  unfolding traced input
  traced_along h i l =
      let e : length ws - (length ws - (i + 1)) ≡ suc i = omega arith in
      get_d_upto (input half ws (length ws) (f (length ws))) 0 (length ws) i l
      ∙ ap (λ (x : ℕ). x / half) (along (length ws) h (length ws - (i + 1)) (omega arith) ∙ ap f e)

-- ---- n steps: the bits put out are the inputs of the first of them along the path f, and the held words point along f from there
pub record Along (half : ℕ) (f : ℕ → ℕ) (bits words : List ℕ) (n : ℕ) : Type 0 where
  pub count : length bits + length words ≡ n
  pub given : (i : ℕ) → i < length bits → get_or bits i 0 ≡ f (suc i) / half
  pub held : (i : ℕ) → i < length words → kept half (get_or words i 0) (f (suc (length bits + i))) ≡ f (length bits + i)

module _ (half : ℕ) (f : ℕ → ℕ) (bits words : List ℕ) (n : ℕ) (a : Along half f bits words n) where
  -- the inputs that the traceback from the state f n finds
  found : (j : ℕ) → j < length words → get_or (traced half words (f n)) j 0 ≡ f (suc (length bits + j)) / half
  found j l =
      subst (λ (x : ℕ). get_or (traced half words (f x)) j 0 ≡ f (suc (length bits + j)) / half) a.count
      (traced_along half (λ i. f (length bits + i)) words (λ i h. rw (add-suc (length bits) i) (a.held i h)) j l ∙ ap (λ (x : ℕ). f x / half) (add-suc (length bits) j))

  -- one more word
  along_more : (w : ℕ) → kept half w (f (suc n)) ≡ f n → Along half f bits (words ++ (w ∷ [])) (suc n)
  along_more w h = record {
    count = let c = a.count in omega (arith, length-append words (w ∷ []));
    given = a.given;
    held = λ i l.
        joined (λ i. kept half (get_or (words ++ (w ∷ [])) i 0) (f (suc (length bits + i))) ≡ f (length bits + i)) (length words) 1
        (λ i l. rw (get_or-append words (w ∷ []) 0 i l) (a.held i l))
        (λ j l. let z : j ≡ 0 = omega arith in let c = a.count in let e : length bits + (length words + j) ≡ n = omega arith in rw (get_or_at words w [] 0 (length words + j) (omega arith), e) h)
        i (rw (length-append words (w ∷ [])) at l);
  }

  -- the first k of the held words leave
  along_less : (k : ℕ) → k ≤ length words → Along half f (bits ++ take k (traced half words (f n))) (drop k words) n
  along_less k h =
      let u : length (take k (traced half words (f n))) ≡ k = length-take k (traced half words (f n)) ∙ omega (arith, length_traced half words (f n)) in
      let v : length (bits ++ take k (traced half words (f n))) ≡ length bits + k = length-append bits (take k (traced half words (f n))) ∙ ap (λ (x : ℕ). length bits + x) u in
      record {
        count = let c = a.count in omega (arith, length-drop k words);
        given = λ i l.
            joined (λ i. get_or (bits ++ take k (traced half words (f n))) i 0 ≡ f (suc i) / half) (length bits) k
            (λ i l. get_or-append bits (take k (traced half words (f n))) 0 i l ∙ a.given i l)
            (λ j l. get_or-append-add bits (take k (traced half words (f n))) j 0 ∙ get_or-take k (traced half words (f n)) j 0 l ∙ found j (omega arith))
            i (rw v at l);
        held = λ i l.
            let e : length bits + k + i ≡ length bits + (k + i) = omega arith in
            rw (v, get_or-drop k words i 0, e) (a.held (k + i) (omega (arith, length-drop k words)));
      }

-- ---- a call's steps
-- both outcomes of a test
chosen : (P : Decoder → Type 0) (b : Bool) (d e : Decoder) → (T b → P d) → P e → P (cond b d e)
chosen P true d e p q = p tt
chosen P false d e p q = q

-- the steps that are put out or held
abbrev pub counted : Decoder → ℕ
counted d = length d.bits + length d.words

module _ (half : ℕ) (out : ℕ → ℕ → ℕ) (t : Tie) (tb : ℕ) where
  -- what a release makes of d
  abbrev less : Decoder → Decoder
  less d = record { values = d.values; words = drop block d.words; bits = d.bits ++ take block (decoded half out t d) }

  released_counted : (d : Decoder) → counted (released half out t tb d) ≡ counted d
  unfolding released
  released_counted d = chosen (λ e. counted e ≡ counted d) (leb (block + tb) (length d.words)) (less d) d freed refl
    where
      freed : T (leb (block + tb) (length d.words)) → counted (less d) ≡ counted d
      freed b =
          let l = leb→le (block + tb) (length d.words) b in
          let u = length-append d.bits (take block (decoded half out t d)) in
          let v = length-take block (decoded half out t d) in
          let w = length_traced half d.words (best t d.values (2 * half - 1)) in
          let x = length-drop block d.words in
          omega arith

  released_along : (f : ℕ → ℕ) (d : Decoder) (n : ℕ) → best t d.values (2 * half - 1) ≡ f n → Along half f d.bits d.words n → Along half f (released half out t tb d).bits (released half out t tb d).words n
  unfolding released
  released_along f d n e a = chosen (λ e. Along half f e.bits e.words n) (leb (block + tb) (length d.words)) (less d) d freed a
    where
      freed : T (leb (block + tb) (length d.words)) → Along half f (less d).bits (less d).words n
      freed b = let l = leb→le (block + tb) (length d.words) b in rw e (along_less half f d.bits d.words n a block (omega arith))

  -- step i, before the release that may follow it
  abbrev added : ℕ → Step → Decoder → Decoder
  added i x d = record { values = settled half out t i x (nexts half out t d.values x); words = d.words ++ (word half out t d.values x ∷ []); bits = d.bits }

  module _ (steps : ℕ → Step) (d : Decoder) where
    -- each step is put out or held
    pub after_counted : (n : ℕ) → counted (after half out t tb steps d n) ≡ counted d + n
    unfolding after stepped
    after_counted zero = omega arith
    after_counted (suc n) =
        let a = after_counted n in
        let l = length-append (after half out t tb steps d n).words (word half out t (after half out t tb steps d n).values (steps n) ∷ []) in
        let r = released_counted (added n (steps n) (after half out t tb steps d n)) in
        omega arith

    -- after o steps along f, n more whose words point along it and whose best states are those of f
    module _ (f : ℕ → ℕ) (o : ℕ) (a : Along half f d.bits d.words o) where
      pub after_along : (n : ℕ)
          → ((i : ℕ) → i < n → kept half (word_at half out t steps d.values i) (f (suc (o + i))) ≡ f (o + i))
          → ((i : ℕ) → i < n → best t (values_at half out t steps d.values (suc i)) (2 * half - 1) ≡ f (suc (o + i)))
          → Along half f (after half out t tb steps d n).bits (after half out t tb steps d n).words (o + n)
      unfolding after stepped values_at
      after_along zero k b = rw (add-zero o) a
      after_along (suc n) k b =
          rw (add-suc o n)
          (released_along f (added n (steps n) (after half out t tb steps d n)) (suc (o + n)) (ap (λ (pm : List Float). best t pm (2 * half - 1)) settles ∙ b n (omega arith))
          (along_more half f (after half out t tb steps d n).bits (after half out t tb steps d n).words (o + n) (after_along n (λ i l. k i (omega arith)) (λ i l. b i (omega arith)))
          (word half out t (after half out t tb steps d n).values (steps n)) (rw (after_values half out t tb steps d n) (k n (omega arith)))))
        where
          settles : settled half out t n (steps n) (nexts half out t (after half out t tb steps d n).values (steps n)) ≡ values_at half out t steps d.values (suc n)
          settles = rw (after_values half out t tb steps d n)

-- ---- the flush: all bits
module _ (half : ℕ) (out : ℕ → ℕ → ℕ) (t : Tie) where
  pub flushed_counted : (d : Decoder) → length (flushed half out t d).bits ≡ counted d
  flushed_counted d = length-append d.bits (decoded half out t d) ∙ ap (λ (x : ℕ). length d.bits + x) (length_traced half d.words (best t d.values (2 * half - 1)))

  pub flushed_along : (f : ℕ → ℕ) (d : Decoder) (n : ℕ) → best t d.values (2 * half - 1) ≡ f n → Along half f d.bits d.words n → (i : ℕ) → i < n → get_or (flushed half out t d).bits i 0 ≡ f (suc i) / half
  flushed_along f d n e a i l =
      let s = best t d.values (2 * half - 1) in
      let c = a.count in
      let all : take (length d.words) (traced half d.words s) ≡ traced half d.words s = take_all (length d.words) (traced half d.words s) (le_of_eq (length_traced half d.words s)) in
      let b : Along half f (d.bits ++ take (length d.words) (traced half d.words s)) (drop (length d.words) d.words) n = rw e (along_less half f d.bits d.words n a (length d.words) (le_refl (length d.words))) in
      ap (λ (x : List ℕ). get_or (d.bits ++ x) i 0) (sym all) ∙ b.given i (rw all (omega (arith, flushed_counted d)))
