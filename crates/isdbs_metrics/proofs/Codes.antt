-- The tables of places: one computed test each.
use mathlib.Core.Path.{◌≡◌, refl}
use mathlib.Core.Bool.{Bool, true, false, ◌&&◌}
use mathlib.Core.List.{List, [], ◌∷◌}
use Prim.Native.Nat.{ℕ, zero, suc, ◌+◌, ◌*◌, ◌<◌}
use lib.Dec.{T, eqb, eqb→eq}
use lib.ListN.{get_or}
use borrow.Author.Count.{below_none, below_more}
use Rattle.isdbs_combination.specs.declared.Combination.{Combination}
use Rattle.isdbs_combination.specs.declared.Combination.TheVariants.{Bpsk1_2, Qpsk1_2, Qpsk2_3, Qpsk3_4, Qpsk5_6, Qpsk7_8, Tc8psk2_3}
use Rattle.isdbs_points.specs.Layout.{order_of, sent_order}
use Rattle.trellis.specs.Lists.{first_place}

-- the first n entries of a table are the places
abbrev Placed : List ℕ → Combination → ℕ → Type 0
Placed l c n = (a : ℕ) → a < n → get_or l a 0 ≡ first_place a (order_of c)

more : (l : List ℕ) (c : Combination) (n : ℕ) → Placed l c n → get_or l n 0 ≡ first_place n (order_of c) → Placed l c (n + 1)
more l c n h e = below_more (λ a. get_or l a 0 ≡ first_place a (order_of c)) n h e

none : (l : List ℕ) (c : Combination) → Placed l c 0
none l c = below_none (λ a. get_or l a 0 ≡ first_place a (order_of c))

abbrev list_1 : List ℕ
list_1 = 0 ∷ 1 ∷ 2 ∷ 2 ∷ 2 ∷ 2 ∷ 2 ∷ 2 ∷ 2 ∷ 2 ∷ 2 ∷ 2 ∷ 2 ∷ 2 ∷ []

pub places_1 : Placed list_1 Bpsk1_2 2
unfolding sent_order first_place
places_1 = more list_1 Bpsk1_2 1 (more list_1 Bpsk1_2 0 (none list_1 Bpsk1_2) refl) refl

abbrev list_2 : List ℕ
list_2 = 0 ∷ 1 ∷ 2 ∷ 2 ∷ 2 ∷ 2 ∷ 2 ∷ 2 ∷ 2 ∷ 2 ∷ 2 ∷ 2 ∷ 2 ∷ 2 ∷ []

pub places_2 : Placed list_2 Qpsk1_2 2
unfolding sent_order first_place
places_2 = more list_2 Qpsk1_2 1 (more list_2 Qpsk1_2 0 (none list_2 Qpsk1_2) refl) refl

abbrev list_3 : List ℕ
list_3 = 0 ∷ 1 ∷ 6 ∷ 2 ∷ 3 ∷ 4 ∷ 6 ∷ 5 ∷ 6 ∷ 6 ∷ 6 ∷ 6 ∷ 6 ∷ 6 ∷ []

pub places_3 : Placed list_3 Qpsk2_3 8
unfolding sent_order first_place
places_3 = more list_3 Qpsk2_3 7 (more list_3 Qpsk2_3 6 (more list_3 Qpsk2_3 5 (more list_3 Qpsk2_3 4 (more list_3 Qpsk2_3 3 (more list_3 Qpsk2_3 2 (more list_3 Qpsk2_3 1 (more list_3 Qpsk2_3 0 (none list_3 Qpsk2_3) refl) refl) refl) refl) refl) refl) refl) refl

abbrev list_4 : List ℕ
list_4 = 0 ∷ 1 ∷ 4 ∷ 2 ∷ 3 ∷ 4 ∷ 4 ∷ 4 ∷ 4 ∷ 4 ∷ 4 ∷ 4 ∷ 4 ∷ 4 ∷ []

pub places_4 : Placed list_4 Qpsk3_4 6
unfolding sent_order first_place
places_4 = more list_4 Qpsk3_4 5 (more list_4 Qpsk3_4 4 (more list_4 Qpsk3_4 3 (more list_4 Qpsk3_4 2 (more list_4 Qpsk3_4 1 (more list_4 Qpsk3_4 0 (none list_4 Qpsk3_4) refl) refl) refl) refl) refl) refl

abbrev list_5 : List ℕ
list_5 = 0 ∷ 1 ∷ 6 ∷ 2 ∷ 3 ∷ 6 ∷ 6 ∷ 4 ∷ 5 ∷ 6 ∷ 6 ∷ 6 ∷ 6 ∷ 6 ∷ []

pub places_5 : Placed list_5 Qpsk5_6 10
unfolding sent_order first_place
places_5 = more list_5 Qpsk5_6 9 (more list_5 Qpsk5_6 8 (more list_5 Qpsk5_6 7 (more list_5 Qpsk5_6 6 (more list_5 Qpsk5_6 5 (more list_5 Qpsk5_6 4 (more list_5 Qpsk5_6 3 (more list_5 Qpsk5_6 2 (more list_5 Qpsk5_6 1 (more list_5 Qpsk5_6 0 (none list_5 Qpsk5_6) refl) refl) refl) refl) refl) refl) refl) refl) refl) refl

abbrev list_6 : List ℕ
list_6 = 0 ∷ 1 ∷ 8 ∷ 2 ∷ 8 ∷ 3 ∷ 8 ∷ 4 ∷ 5 ∷ 8 ∷ 8 ∷ 6 ∷ 7 ∷ 8 ∷ []

pub places_6 : Placed list_6 Qpsk7_8 14
unfolding sent_order first_place
places_6 = more list_6 Qpsk7_8 13 (more list_6 Qpsk7_8 12 (more list_6 Qpsk7_8 11 (more list_6 Qpsk7_8 10 (more list_6 Qpsk7_8 9 (more list_6 Qpsk7_8 8 (more list_6 Qpsk7_8 7 (more list_6 Qpsk7_8 6 (more list_6 Qpsk7_8 5 (more list_6 Qpsk7_8 4 (more list_6 Qpsk7_8 3 (more list_6 Qpsk7_8 2 (more list_6 Qpsk7_8 1 (more list_6 Qpsk7_8 0 (none list_6 Qpsk7_8) refl) refl) refl) refl) refl) refl) refl) refl) refl) refl) refl) refl) refl) refl

abbrev list_7 : List ℕ
list_7 = 0 ∷ 1 ∷ 2 ∷ 2 ∷ 2 ∷ 2 ∷ 2 ∷ 2 ∷ 2 ∷ 2 ∷ 2 ∷ 2 ∷ 2 ∷ 2 ∷ []

pub places_7 : Placed list_7 Tc8psk2_3 2
unfolding sent_order first_place
places_7 = more list_7 Tc8psk2_3 1 (more list_7 Tc8psk2_3 0 (none list_7 Tc8psk2_3) refl) refl
