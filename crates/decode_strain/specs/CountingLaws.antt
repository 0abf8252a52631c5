-- A step more of a slot.
use Rattle.std.specs.Prelude.{◌≡◌, List, ℕ, ◌+◌, ◌*◌, ◌/◌, ◌%◌, ◌^◌, ◌<◌, ◌≤◌}
use Rattle.std.proofs.Math.Path.{refl}
use Rattle.std.proofs.Common.{◌∙◌, mod-lt, add-one, arith, lit<}
use Rattle.std.proofs.Math.ListN.{get_or}
use Rattle.trellis.specs.Code.{label, state_at, isdb}
use Rattle.isdbs_points.specs.Frame.{label_at}
use Rattle.strain_marks.specs.Counts.{summed}
use Rattle.strain_marks.specs.CountsLaws.{summed_few}
use Rattle.strain_marks.specs.Marks.{marked}
use Rattle.decode_strain.specs.declared.Slot.{Slot}
use Rattle.decode_strain.specs.Counted.{Labels, Counted}
use Rattle.trellis.proofs.RunLaws.{label_under}

abbrev pub slot : ℕ → ℕ → Slot
slot count state = record { count = count; state = state }

pub marked_few : (ms : List ℕ) (s : ℕ) (us : List ℕ) (k : ℕ) → marked ms s us k ≤ 1
marked_few ms s us k = let b : marked ms s us k < 2 = mod-lt _ (lit< tt) in omega arith

module _ (ms us : List ℕ) (start : ℕ) where
  pub counted_first : start < 64 → Counted ms us start 0 (slot 0 start)
  unfolding summed state_at
  counted_first l = record { small = l; count_is = refl; state_is = refl }

  pub count_few : (n : ℕ) (r : Slot) → Counted ms us start n r → r.count ≤ n
  count_few n r h = rw h.count_is (summed_few (marked ms start us) n (marked_few ms start us))

  module _ (i count state : ℕ) (h : Counted ms us start i (slot count state)) (U : get_or us i 0 < 2) (k : ℕ) (K : k ≡ 64 * get_or us i 0 + state) where
    -- the place of the step's label
    pub place_small : k < 128
    place_small = let l = h.small in omega (arith, K)

    pub label_is : (ls : List ℕ) → Labels ls → (get_or ls k 0 ≡ label_at start us i) × (get_or ls k 0 < 4)
    label_is ls L =
        let l = h.small in
        let u : k / 64 ≡ get_or us i 0 = omega (arith, K) in
        let s : k % 64 ≡ state = omega (arith, K) in
        let e : get_or ls k 0 ≡ label_at start us i = L.are k place_small ∙ rw (u, s, h.state_is) in
        (e, rw e (label_under isdb (get_or us i 0) (state_at 32 start us i)))

    pub counted_next : (x : ℕ) → x ≡ label_at start us i → Counted ms us start (i + 1) (slot (count + get_or ms i 0 / 2 ^ x % 2) (k / 2))
    unfolding summed state_at
    counted_next x X =
        let l = h.small in
        let m : k / 2 ≡ 32 * get_or us i 0 + state / 2 = omega (arith, K) in
        record {
          small = omega (arith, K);
          count_is = rw (add-one i, X, h.count_is);
          state_is = rw (add-one i, m, h.state_is);
        }
