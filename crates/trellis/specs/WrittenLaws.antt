-- An array that is written from the front, one element a turn.
use Rattle.std.specs.Prelude.{◌≡◌, refl, ◌⊎◌, Bool, true, false, List, ◌++◌, ℕ, ◌+◌, ◌-◌, ◌≤◌, ◌<◌, ltb, length, get_or, set, take, drop}
use Rattle.std.proofs.Common.{sym, ◌∙◌, inl, inr, ⊎_elim, arith, ne_of_lt, ne_of_gt, eq-or-lt_of_le, length-append, length-take, length-drop, ext_get_or, get_or-set_same, get_or-set_other, get_or-take, get_or-drop, get_or-append-add, below_none, below_more, ltb-true, ltb-false}
use Rattle.std.proofs.Math.Nat.{min-eq_left}
use Rattle.std.proofs.Math.ListN.{get_or-append}
use Rattle.trellis.specs.Lists.{upto, laid}
use Rattle.trellis.specs.ListLaws.{length_upto, get_d_upto}

side : (k n : ℕ) (t : Bool) → ltb k n ≡ t → (k < n) ⊎ (n ≤ k)
side k n true e = inl (ltb-true k n e)
side k n false e = inr (ltb-false k n e)

pub lt_or_ge : (k n : ℕ) → (k < n) ⊎ (n ≤ k)
lt_or_ge k n = side k n (ltb k n) refl

module _ {A : Type 0} (d : A) where
  -- from k on the list l is as l₀ was
  abbrev pub Kept : List A → ℕ → List A → Type 0
  Kept l₀ k l = (i : ℕ) → k ≤ i → get_or l i d ≡ get_or l₀ i d

  pub kept_more : (l₀ : List A) (k : ℕ) (l : List A) (v : A) → Kept l₀ k l → Kept l₀ (k + 1) (set l k v)
  kept_more l₀ k l v p i h = get_or-set_other l k i v d (λ e. omega arith) ∙ p i (omega arith)

  -- a store below k
  pub kept_set : (l₀ : List A) (k i : ℕ) (l : List A) (v : A) → i < k → Kept l₀ k l → Kept l₀ k (set l i v)
  kept_set l₀ k i l v hi p n h = get_or-set_other l i n v d (λ e. omega arith) ∙ p n h

  pub kept_skip : (l₀ : List A) (k : ℕ) (l : List A) → Kept l₀ k l → Kept l₀ (k + 1) l
  kept_skip l₀ k l p i h = p i (omega arith)

module _ {A : Type 0} (d : A) (f : ℕ → A) where
  -- below k the list l has what f says
  abbrev pub Written : ℕ → List A → Type 0
  Written k l = (i : ℕ) → i < k → get_or l i d ≡ f i

  pub written_none : (l : List A) → Written 0 l
  written_none l = below_none (λ i. get_or l i d ≡ f i)

  pub written_more : (k : ℕ) (l : List A) (v : A) → k < length l → Written k l → v ≡ f k → Written (k + 1) (set l k v)
  written_more k l v h w e =
      below_more (λ i. get_or (set l k v) i d ≡ f i) k
      (λ i hi. get_or-set_other l k i v d (ne_of_lt hi) ∙ w i hi)
      (get_or-set_same l k v d h ∙ e)

  pub written_skip : (k : ℕ) (l : List A) → Written k l → get_or l k d ≡ f k → Written (k + 1) l
  written_skip k l w e = below_more (λ i. get_or l i d ≡ f i) k w e

  -- from k up to n the list l has what f says
  abbrev pub Between : ℕ → ℕ → List A → Type 0
  Between k n l = (i : ℕ) → k ≤ i → i < n → get_or l i d ≡ f i

  pub between_more : (k n : ℕ) (l : List A) (v : A) → k < length l → Between (k + 1) n l → v ≡ f k → Between k n (set l k v)
  between_more k n l v h w e i hk hn =
      ⊎_elim
      (λ eq. rw (← eq) (get_or-set_same l k v d h ∙ e))
      (λ more. get_or-set_other l k i v d (ne_of_gt more) ∙ w i (omega arith) hn)
      (eq-or-lt_of_le hk)

  -- the first `count` of n values written over the beginning of l₀
  pub laid_whole : (n count : ℕ) (l₀ l : List A) → count ≤ n → count ≤ length l₀ → length l ≡ length l₀ → Written count l → Kept d l₀ count l
      → l ≡ laid (take count (upto f n)) l₀
  laid_whole n count l₀ l hn hl long w k =
      let front = take count (upto f n) in
      let e : length front ≡ count = length-take count (upto f n) ∙ rw (length_upto f n) (min-eq_left hn) in
      ext_get_or d l (front ++ drop (length front) l₀)
      (long ∙ sym (rw (length-append front (drop (length front) l₀), length-drop (length front) l₀, e) (omega arith)))
      (λ i h.
      ⊎_elim
      (λ small.
      w i small
      ∙ sym (get_or-append front (drop (length front) l₀) d i (rw e small) ∙ get_or-take count (upto f n) i d small ∙ get_d_upto f d n i (omega arith)))
      (λ big.
      let s : length front + (i - count) ≡ i = omega arith in
      k i big ∙ sym (rw s at (get_or-append-add front (drop (length front) l₀) (i - count) d ∙ get_or-drop (length front) l₀ (i - count) d)))
      (lt_or_ge i count))

  -- a list of n elements that is written throughout
  pub written_whole : (n : ℕ) (l : List A) → length l ≡ n → Written n l → l ≡ upto f n
  written_whole n l long w =
      ext_get_or d l (upto f n) (long ∙ sym (length_upto f n))
      (λ i h. let hi : i < n = rw long at h in w i hi ∙ sym (get_d_upto f d n i hi))
