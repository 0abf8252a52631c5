-- "Laying and taking apart undo each other", and points past an input's length do not enter.
use Rattle.std.specs.Prelude.{◌≡◌, refl, List, ℕ, ◌<◌, ◌≤◌, length, get_or, take, drop, Float}
use Rattle.std.proofs.Common.{sym, ◌∙◌, ap, ext_get_or, length-take-le, get_or-take}
use Rattle.std.proofs.Math.ListN.{get_or-append}
use Rattle.std.specs.Float.{nan}
use Rattle.trellis.specs.Lists.{upto, laid}
use Rattle.trellis.specs.ListLaws.{length_upto, get_d_upto}
use Rattle.trellis.specs.LaidLaws.{upto_cong}
use Rattle.full_frame_parts.specs.declared.Input.{Input}
use Rattle.full_frame_parts.specs.Places.{Source, from, points_of, InInput, source_at, place_in, lent_point, full_part, taken}
use Rattle.full_frame_parts.specs.PlaceLaws.{place_in_lem, source_in, source_place, place_source}
use Rattle.isdbs_frame.specs.Frame.{frame_symbols}

-- ---- the first values of a list, and of a function that is written over one
upto_taken : {A : Type 0} (d : A) (l : List A) (n : ℕ) → n ≤ length l → upto (λ i. get_or l i d) n ≡ take n l
upto_taken d l n h =
    let f : ℕ → _ = λ i. get_or l i d in
    ext_get_or d (upto f n) (take n l) (length_upto f n ∙ sym (length-take-le n l h))
    (λ i k. let s : i < n = rw (length_upto f n) at k in get_d_upto f d n i s ∙ sym (get_or-take n l i d s))

get_d_laid : {A : Type 0} (d : A) (f : ℕ → A) (n : ℕ) (l : List A) (i : ℕ) → i < n → get_or (laid (upto f n) l) i d ≡ f i
get_d_laid d f n l i h = get_or-append (upto f n) (drop (length (upto f n)) l) d i (rw (length_upto f n) h) ∙ get_d_upto f d n i h

-- ---- laying, then taking apart
module _ (ins : Input → List Float) (out : List Float) where
  laid_point : (s : Source) → InInput s → get_or (laid (full_part ins) out) (place_in s) nan ≡ lent_point ins s
  laid_point s h =
      get_d_laid nan (λ p. lent_point ins (source_at p)) frame_symbols out (place_in s) (place_in_lem s h)
      ∙ ap (λ (r : Source). lent_point ins r) (source_place s h)

  pub taken_laid : (a : Input) → points_of a ≤ length (ins a) → taken a (laid (full_part ins) out) ≡ take (points_of a) (ins a)
  taken_laid a h =
      upto_cong (λ i. get_or (laid (full_part ins) out) (place_in (from a i)) nan) (λ i. get_or (ins a) i nan) (points_of a) (λ i l. laid_point (from a i) l)
      ∙ upto_taken nan (ins a) (points_of a) h

-- ---- taking apart, then laying
module _ (full : List Float) (ins outs : Input → List Float) (t : (a : Input) → ins a ≡ laid (taken a full) (outs a)) where
  taken_point : (s : Source) → InInput s → lent_point ins s ≡ get_or full (place_in s) nan
  taken_point (from a i) h =
      ap (λ (l : List Float). get_or l i nan) (t a)
      ∙ get_d_laid nan (λ k. get_or full (place_in (from a k)) nan) (points_of a) (outs a) i h

  pub full_taken : frame_symbols ≤ length full → full_part ins ≡ take frame_symbols full
  full_taken h =
      upto_cong (λ p. lent_point ins (source_at p)) (λ p. get_or full p nan) frame_symbols
      (λ p l. taken_point (source_at p) (source_in p l) ∙ ap (λ (q : ℕ). get_or full q nan) (place_source p l))
      ∙ upto_taken nan full frame_symbols h

-- ---- points past an input's length are not read
unread_point : (ins : Input → List Float) (s : Source) → InInput s → lent_point (λ a. take (points_of a) (ins a)) s ≡ lent_point ins s
unread_point ins (from a i) h = get_or-take (points_of a) (ins a) i nan h

pub full_unread : (ins : Input → List Float) → full_part (λ a. take (points_of a) (ins a)) ≡ full_part ins
full_unread ins =
    upto_cong (λ p. lent_point (λ a. take (points_of a) (ins a)) (source_at p)) (λ p. lent_point ins (source_at p)) frame_symbols
    (λ p l. unread_point ins (source_at p) (source_in p l))

pub taken_unread : (a : Input) (full : List Float) → taken a (take frame_symbols full) ≡ taken a full
taken_unread a full =
    upto_cong (λ i. get_or (take frame_symbols full) (place_in (from a i)) nan) (λ i. get_or full (place_in (from a i)) nan) (points_of a)
    (λ i l. get_or-take frame_symbols full (place_in (from a i)) nan (place_in_lem (from a i) l))
