-- After every accepted push of a run, total and greatest are those of the last w accepted sums, or of all when fewer (`afresh`). The invariant: the kept sums,
-- read from the next place on and then from the front, are these sums in their order.
use Rattle.std.specs.Prelude.{◌≡◌, refl, ◌⊎◌, Bool, true, false, List, [], ◌∷◌, ◌++◌, ℕ, suc, ◌+◌, ◌-◌, ◌%◌, ◌≤◌, ◌<◌, min, length, take, drop, set}
use Rattle.std.proofs.Common.{sym, ap, ◌∙◌, inl, inr, ⊎_elim, append_assoc, append-nil, arith, add-one, eq-or-lt_of_le, mod-eq_of_lt, add_comm, length-append, length-set, take-append-drop, ltb-false, length-take-le, drop-cons, drop-drop, drop-set-lt, take-suc-set}
use Rattle.std.proofs.Math.Nat.{mod_self, mod-add-mod, max_comm}
use Rattle.std.proofs.Math.Seq.{take-length, drop-length}
use Rattle.std.proofs.lemmas.List.{drop-append-le}
use Rattle.refusal.proofs.RowLaws.{passed}
use Rattle.std.specs.Prelude.{Ok}
use Rattle.refusal.specs.Rows.{Window, Space}
use Rattle.strain_window.specs.declared.WindowState.{WindowState}
use Rattle.strain_window.specs.declared.Pushed.{Pushed}
use Rattle.strain_window.specs.Rows.{kept_sums, push_rows}
use Rattle.strain_window.specs.Calls.{total_of, greatest_of, push_place, fill_after, pushed_state, Pushes, Called}
use Rattle.strain_window.specs.WindowLaws.{Sound}
use Rattle.strain_window.proofs.WindowLaws.{total_append, greatest_append}
use Rattle.strain_window.specs.After.{Allowed, next_sums}
use Rattle.strain_window.proofs.After.{allowed, after_clear, after_room, after_full}
use Rattle.strain_history.specs.History as history
use Rattle.strain_history.specs.History.{Starts, Run, last_of, Afresh}

-- ---- a list read from a place on, and then from the front
abbrev rotated : ℕ → List ℕ → List ℕ
rotated n l = drop n l ++ take n l

rotated_zero : (l : List ℕ) → rotated 0 l ≡ l
rotated_zero l = append-nil l

rotated_whole : (n : ℕ) (l : List ℕ) → n ≡ length l → rotated n l ≡ l
rotated_whole n l e = rw (e, drop-length l, take-length l) refl

total_rotated : (n : ℕ) (l : List ℕ) → total_of (rotated n l) ≡ total_of l
total_rotated n l =
    total_append (drop n l) (take n l) ∙ add_comm (total_of (drop n l)) (total_of (take n l)) ∙ sym (total_append (take n l) (drop n l)) ∙ ap total_of (take-append-drop n l)

greatest_rotated : (n : ℕ) (l : List ℕ) → greatest_of (rotated n l) ≡ greatest_of l
greatest_rotated n l =
    greatest_append (drop n l) (take n l) ∙ max_comm (greatest_of (drop n l)) (greatest_of (take n l)) ∙ sym (greatest_append (take n l) (drop n l))
    ∙ ap greatest_of (take-append-drop n l)

-- one place set, and read from the place behind it on: the old one is gone and the new one is last
rotated_set : (n x : ℕ) (l : List ℕ) → n < length l → rotated (suc n) (set l n x) ≡ drop 1 (rotated n l) ++ (x ∷ [])
rotated_set n x l h =
    rw (drop-set-lt (suc n) l n x (omega arith), take-suc-set l n x h, drop-cons l n 0 h) (sym (append_assoc (drop (suc n) l) (take n l) (x ∷ [])))

-- the place after the last is the front
rotated_mod : (n w : ℕ) (l : List ℕ) → 1 ≤ w → n ≤ w → (n ≡ w → length l ≡ w) → rotated (n % w) l ≡ rotated n l
rotated_mod n w l one h whole =
    ⊎_elim
    (λ e. let z : n % w ≡ 0 = rw e (mod_self w) in rw z (rotated_zero l ∙ sym (rotated_whole n l (e ∙ sym (whole e)))))
    (λ g. rw (mod-eq_of_lt {n = n} {m = w} g) refl)
    (eq-or-lt_of_le h)

-- ---- the last w of a list
last_all : (w : ℕ) (h : List ℕ) → length h ≤ w → last_of w h ≡ h
last_all w h e = let z : length h - w ≡ 0 = omega arith in rw z refl

last_more : (w x : ℕ) (h : List ℕ) → 1 ≤ w → w ≤ length h → last_of w (h ++ (x ∷ [])) ≡ drop 1 (last_of w h) ++ (x ∷ [])
last_more w x h one e =
    let l = length-append h (x ∷ []) in
    let n : length (h ++ (x ∷ [])) - w ≡ (length h - w) + 1 = omega arith in
    rw n (drop-append-le ((length h - w) + 1) h (x ∷ []) (omega arith) ∙ ap (λ (l : List ℕ). l ++ (x ∷ [])) (sym (drop-drop 1 (length h - w) h)))

-- ---- the invariant
pub record Held (w : ℕ) (v : WindowState) (kept h : List ℕ) : Type 0 where
  pub window_is : v.window ≡ w
  pub fill_is : v.fill ≡ min w (length h)
  pub next_is : v.next ≡ length h % w
  pub order : last_of w h ≡ rotated v.next (kept_sums v kept)

-- an accepted push was allowed
pub call_allowed : {v : WindowState} {clear : Bool} {sum : ℕ} {lent kept : List ℕ} {r : Pushed} → Called v clear sum lent (Ok r) kept → Allowed v sum lent
call_allowed {v} {clear} {sum} {lent} c =
    let p = passed (push_rows v sum lent) tt (sym c.answers) in
    allowed v sum lent (p Window) (ltb-false (length lent) v.window (p Space))

-- the first push of a window: one sum is kept, at place 0
alone : (clear : Bool) (v : WindowState) (sum : ℕ) (lent : List ℕ) → Starts clear v → Sound v → v.window ≤ length lent
    → (fill_after clear v ≡ 1) × (push_place clear v ≡ 0) × (next_sums clear v sum lent ≡ sum ∷ [])
alone true v sum lent st s room = (refl, refl, after_clear v sum lent s room)
alone false v sum lent (inl e) s room = absurd (let z : ◌≡◌ {A = ℕ} 0 1 = cc in omega arith)
alone false v sum lent (inr z) s room =
    let one = s.least in
    (omega arith, z.1, after_room v sum lent s room (omega arith) ∙ rw z.0 refl)

begins : (w : ℕ) (clear : Bool) (v : WindowState) (sum : ℕ) (lent : List ℕ) → v.window ≡ w → Starts clear v → Allowed v sum lent
    → Held w (pushed_state clear v) (set lent (push_place clear v) sum) (sum ∷ [])
begins w clear v sum lent e st ok =
    let a = alone clear v sum lent st ok.state_sound ok.room in
    let one = ok.state_sound.least in
    let n : (push_place clear v + 1) % v.window ≡ 1 % w = rw (a.1, e) refl in
    record {
      window_is = e;
      fill_is = a.0 ∙ omega arith;
      next_is = n;
      order = rw (a.2, n) (last_all w (sum ∷ []) (omega arith) ∙ sym (rotated_mod 1 w (sum ∷ []) (omega arith) (omega arith) (λ f. f) ∙ rotated_whole 1 (sum ∷ []) refl));
    }

-- a later push that does not clear
module _ (w : ℕ) (v : WindowState) (sum : ℕ) (left lent h : List ℕ) (i : Held w v left h) (same : kept_sums v lent ≡ kept_sums v left) (ok : Allowed v sum lent) where
  one : 1 ≤ w
  one = rw i.window_is at ok.state_sound.least

  kept_length : length (kept_sums v lent) ≡ v.fill
  kept_length = let f = ok.state_sound.filled in let r = ok.room in length-take-le v.fill lent (omega arith)

  longer : length (h ++ (sum ∷ [])) ≡ length h + 1
  longer = length-append h (sum ∷ [])

  sums : last_of w h ≡ rotated v.next (kept_sums v lent)
  sums = rw same i.order

  next_after : (v.next + 1) % v.window ≡ (v.next + 1) % w
  next_after = rw i.window_is refl

  full : v.fill ≡ v.window → last_of w (h ++ (sum ∷ [])) ≡ rotated ((v.next + 1) % v.window) (next_sums false v sum lent)
  full e =
      let f = i.fill_is in
      let n = i.window_is in
      let b = ok.state_sound.below in
      let k = kept_length in
      let l : length (set (kept_sums v lent) v.next sum) ≡ w = length-set (kept_sums v lent) v.next sum ∙ omega arith in
      rw (after_full v sum lent ok.state_sound ok.room e, next_after)
      (last_more w sum h one (omega arith) ∙ ap (λ (l : List ℕ). drop 1 l ++ (sum ∷ [])) sums ∙ sym (rotated_set v.next sum (kept_sums v lent) (omega arith))
      ∙ sym (rotated_mod (v.next + 1) w (set (kept_sums v lent) v.next sum) one (omega arith) (λ g. l) ∙ rw (add-one v.next) refl))

  growing : v.fill < v.window → last_of w (h ++ (sum ∷ [])) ≡ rotated ((v.next + 1) % v.window) (next_sums false v sum lent)
  growing g =
      let f = i.fill_is in
      let n = i.window_is in
      let k = kept_length in
      let q = ok.state_sound.level g in
      let m = longer in
      let l : length (kept_sums v lent ++ (sum ∷ [])) ≡ v.next + 1 = length-append (kept_sums v lent) (sum ∷ []) ∙ omega arith in
      let all : h ≡ kept_sums v lent = sym (last_all w h (omega arith)) ∙ sums ∙ rotated_whole v.next (kept_sums v lent) (omega arith) in
      rw (after_room v sum lent ok.state_sound ok.room g, next_after)
      (last_all w (h ++ (sum ∷ [])) (omega arith) ∙ ap (λ (l : List ℕ). l ++ (sum ∷ [])) all
      ∙ sym (rotated_mod (v.next + 1) w (kept_sums v lent ++ (sum ∷ [])) one (omega arith) (λ z. l ∙ z) ∙ rotated_whole (v.next + 1) (kept_sums v lent ++ (sum ∷ [])) (sym l)))

  goes_on : Held w (pushed_state false v) (set lent v.next sum) (h ++ (sum ∷ []))
  goes_on =
      let f = i.fill_is in
      let n = i.window_is in
      let m = longer in
      record {
        window_is = n;
        fill_is = omega arith;
        next_is = next_after ∙ rw (i.next_is, longer) (mod-add-mod (length h) w 1);
        order = ⊎_elim full growing (eq-or-lt_of_le ok.state_sound.filled);
      }

-- the invariant is that of every run
pub held : {w : ℕ} {v : WindowState} {kept h : List ℕ} {last : Pushed} → Run w v kept h last → Held w v kept h
held {w} (history.first {v = v} {clear = clear} {sum = sum} {lent = lent} e st c) =
    let p = c.leaves in
    rw (p.state_is, p.kept_is) (begins w clear v sum lent e st (call_allowed c))
held {w} (history.accepted {v = v} {left = left} {history = h} {clear = true} {sum = sum} {lent = lent} run same c) =
    let p = c.leaves in
    rw (p.state_is, p.kept_is) (begins w true v sum lent (held run).window_is (inl refl) (call_allowed c))
held {w} (history.accepted {v = v} {left = left} {history = h} {clear = false} {sum = sum} {lent = lent} run same c) =
    let p = c.leaves in
    rw (p.state_is, p.kept_is) (goes_on w v sum left lent h (held run) same (call_allowed c))
held {w} (history.refused n memory run same c) =
    let i = held run in
    rw (c.leaves, take-append-drop n memory) (record { window_is = i.window_is; fill_is = i.fill_is; next_is = i.next_is; order = rw same i.order })

-- ---- the theorem
told : {w : ℕ} {v : WindowState} {clear : Bool} {sum : ℕ} {lent kept h : List ℕ} {r : Pushed} → Held w r.state kept h → Pushes v clear sum r lent kept → Afresh w h r
told {w} {v} {clear} {sum} {lent} {kept} {h} {r} i p =
    record {
      total_is = p.total_is ∙ rw (i.order, total_rotated r.state.next (kept_sums r.state kept), p.state_is) refl;
      greatest_is = p.greatest_is ∙ rw (i.order, greatest_rotated r.state.next (kept_sums r.state kept), p.state_is) refl;
      window_is = i.window_is;
      fill_is = i.fill_is;
      next_is = i.next_is;
    }

pub afresh : {w : ℕ} {v : WindowState} {kept h : List ℕ} {last : Pushed} → Run w v kept h last → Afresh w h last
afresh (history.first e st c) = told (held (history.first e st c)) (c.leaves)
afresh (history.accepted run same c) = told (held (history.accepted run same c)) (c.leaves)
afresh (history.refused n memory run same c) = afresh run
