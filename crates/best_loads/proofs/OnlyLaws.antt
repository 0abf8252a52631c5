-- There is one best reading of a table, a capture and its start: the load and the leads are determined. With an unknown start the fit of a load is the greatest over the 64 starts.
use Rattle.std.specs.Prelude.{◌≡◌, refl, List, ℕ, ◌+◌, ◌*◌, ◌≤◌, ◌<◌, ℤ, pos, ◌+ℤ◌, ◌≤ℤ◌, get_or}
use Rattle.std.proofs.Math.Path.{sym}
use Rattle.std.proofs.Common.{ap, ◌∙◌, subst, arith}
use Rattle.std.proofs.Math.ListN.{length}
use Rattle.std.proofs.Math.Seq.{ext_get_or}
use Rattle.ieee.proofs.Whole.{parts}
use Rattle.trellis.specs.ListLaws.{length_upto}
use Rattle.trellis.specs.Isdb
use Rattle.path_greatest.proofs.Greatest.{one_first}
use Rattle.path_greatest.proofs.Integers.{parts_of_lem, le_parts, le_val, ≤ℤ-antisymm}
use Rattle.isdbs_combination.specs.declared.Modulation.{Modulation}
use Rattle.isdbs_combination.specs.declared.Modulation.TheVariants.{Bpsk, Qpsk, Tc8psk}
use Rattle.isdbs_combination.specs.Combinations.{modulation_of}
use Rattle.isdbs_tables.specs.declared.Table.{Table}
use Rattle.isdbs_tables.specs.Tables.{TableAccepted}
use Rattle.isdbs_plan.specs.RunsOf.{frame_steps, valid_total}
use Rattle.isdbs_points.specs.Layout.{Segment, segments, In, at_step, load_bit}
use Rattle.isdbs_points.specs.Frame.{inputs, label_at}
use Rattle.isdbs_points.specs.SizeLaws.{find_step}
use Rattle.isdbs_metrics.specs.Reading.{Received}
use Rattle.best_sides.specs.FrameSides.{better_in}
use Rattle.best_loads.specs.Fit.{fit, DifferIn, Sent, LeadsIn, BestReading}
use Rattle.best_loads.specs.Held.{uncoded_by, uncoded_in, uncoded_bits}
use Rattle.best_loads.proofs.FitLaws.{beside_at, load_content}
use Rattle.best_loads.proofs.HeldLaws.{load_only}

-- ---- whole numbers
pub below_same : (a : ℤ) (d e : ℕ) → (a +ℤ pos d) ≤ℤ (a +ℤ pos e) → d ≤ e
below_same a d e h =
    let l = le_parts (a +ℤ pos d) (a +ℤ pos e) h in
    let x = parts a (pos d) in
    let y = parts a (pos e) in
    omega arith

pub less_same : (a b : ℤ) (d : ℕ) → (a +ℤ pos d) ≤ℤ (b +ℤ pos d) → a ≤ℤ b
less_same a b d h =
    let l = le_parts (a +ℤ pos d) (b +ℤ pos d) h in
    let x = parts a (pos d) in
    let y = parts b (pos d) in
    le_val a b (parts_of_lem a) (parts_of_lem b) (omega arith) (omega arith) (omega arith)

plus_none : (a : ℤ) → a +ℤ pos 0 ≡ a
plus_none a =
    let x = parts a (pos 0) in
    ≤ℤ-antisymm
    (le_val (a +ℤ pos 0) a (parts_of_lem (a +ℤ pos 0)) (parts_of_lem a) (omega arith) (omega arith) (omega arith))
    (le_val a (a +ℤ pos 0) (parts_of_lem a) (parts_of_lem (a +ℤ pos 0)) (omega arith) (omega arith) (omega arith))

pub no_gain : (a : ℤ) (d : ℕ) → (a +ℤ pos d) ≤ℤ a → d ≡ 0
no_gain a d h =
    let l = le_parts (a +ℤ pos d) a h in
    let x = parts a (pos d) in
    omega arith

pub ≤ℤ-trans : (a b c : ℤ) → a ≤ℤ b → b ≤ℤ c → a ≤ℤ c
≤ℤ-trans a b c h k =
    let x = le_parts a b h in
    let y = le_parts b c k in
    le_val a c (parts_of_lem a) (parts_of_lem c) (omega arith) (omega arith) (omega arith)

-- ---- a content by its modulation
beside_same : (md : Modulation) (a b : List ℕ) (g : Segment) (k : ℕ) → (md ≡ Tc8psk → load_bit a (g.bit + 2 * k) ≡ load_bit b (g.bit + 2 * k)) → uncoded_by md a g k ≡ uncoded_by md b g k
beside_same Bpsk a b g k h = refl
beside_same Qpsk a b g k h = refl
beside_same Tc8psk a b g k h = h refl

module _ (t : Table) (accepted : TableAccepted t) (r : Received) (from : ℕ → Type 0) (a la b lb : List ℕ) (x : BestReading t r from a la) (y : BestReading t r from b lb) where
  -- both fit alike
  pub fits_only : fit t r a x.s ≡ fit t r b y.s
  fits_only = ≤ℤ-antisymm (y.best x.s a x.sent) (x.best y.s b y.sent)

  -- both are the first path
  paths : (x.s ≡ y.s) × (inputs t a ≡ inputs t b)
  paths =
      one_first Isdb.half Isdb.rule x.s (inputs t a) y.s (inputs t b) (frame_steps t) (load_content t r a x.s x.sent.state).path (load_content t r b y.s y.sent.state).path
      (x.first y.s b y.sent (sym fits_only)) (y.first x.s a x.sent fits_only)

  -- and have the better C2 there
  twos : (g : Segment) → In g (segments t) → modulation_of g.combination ≡ Tc8psk → (k : ℕ) → k < g.steps → load_bit a (g.bit + 2 * k) ≡ load_bit b (g.bit + 2 * k)
  twos g m e k h =
      x.uncoded g m e k h
      ∙ ap (λ (s : ℕ). better_in r g k (label_at s (inputs t a) (g.step + k))) paths.0
      ∙ ap (λ (us : List ℕ). better_in r g k (label_at y.s us (g.step + k))) paths.1
      ∙ sym (y.uncoded g m e k h)

  beside_only : (k : ℕ) → k < frame_steps t → get_or (uncoded_bits t a) k 0 ≡ get_or (uncoded_bits t b) k 0
  beside_only k h =
      let f = find_step t k h in
      let g = f.segment in
      let p = f.place in
      rw f.place_is (beside_at t a g f.member p f.small ∙ beside_same (modulation_of g.combination) a b g p (λ e. twos g f.member e p f.small) ∙ sym (beside_at t b g f.member p f.small))

  besides_only : uncoded_bits t a ≡ uncoded_bits t b
  unfolding uncoded_bits
  besides_only =
      let n : length (uncoded_bits t a) ≡ frame_steps t = length_upto (at_step 0 (uncoded_in a) t) (frame_steps t) in
      let m : length (uncoded_bits t b) ≡ frame_steps t = length_upto (at_step 0 (uncoded_in b) t) (frame_steps t) in
      ext_get_or 0 (uncoded_bits t a) (uncoded_bits t b) (n ∙ sym m) (λ k l. beside_only k (rw n at l))

  -- ONE LOAD
  pub best_only : a ≡ b
  best_only = load_only t accepted a b x.sent.full y.sent.full paths.1 besides_only

-- AND ONE LEAD in each valid slot
module _ (t : Table) (r : Received) (from : ℕ → Type 0) (s : ℕ) (load : List ℕ) (k d e : ℕ) (x : LeadsIn t r from s load k d) (y : LeadsIn t r from s load k e) where
  small : d ≤ e
  small =
      let o = x.over y.start y.rival y.sent y.differ in
      below_same (fit t r y.rival y.start) d e (subst (λ (z : ℤ). (fit t r y.rival y.start +ℤ pos d) ≤ℤ z) (sym y.exactly) o)

pub lead_only : (t : Table) (r : Received) (from : ℕ → Type 0) (s : ℕ) (load : List ℕ) (k d e : ℕ) → LeadsIn t r from s load k d → LeadsIn t r from s load k e → d ≡ e
lead_only t r from s load k d e x y = let a = small t r from s load k d e x y in let b = small t r from s load k e d y x in omega arith

module _ (t : Table) (accepted : TableAccepted t) (r : Received) (from : ℕ → Type 0) (a la b lb : List ℕ) (x : BestReading t r from a la) (y : BestReading t r from b lb) where
  leads_of_one : (k : ℕ) → k < valid_total t → LeadsIn t r from y.s b k (get_or la k 0)
  leads_of_one k h =
      subst (λ (s : ℕ). LeadsIn t r from s b k (get_or la k 0)) (paths t accepted r from a la b lb x y).0
      (subst (λ (load : List ℕ). LeadsIn t r from x.s load k (get_or la k 0)) (best_only t accepted r from a la b lb x y) (x.leads k h))

  pub leads_only : (k : ℕ) → k < valid_total t → get_or la k 0 ≡ get_or lb k 0
  leads_only k h = lead_only t r from y.s b k (get_or la k 0) (get_or lb k 0) (leads_of_one k h) (y.leads k h)

-- ---- the start is part of what is read
-- x is the fit of a load from the starts in `from`: the greatest over them
pub record Fits (t : Table) (r : Received) (from : ℕ → Type 0) (load : List ℕ) (x : ℤ) : Type 0 where
  pub start : ℕ
  pub sent : Sent t from start load
  pub is : fit t r load start ≡ x
  pub most : (q : ℕ) → Sent t from q load → fit t r load q ≤ℤ x

module _ (t : Table) (r : Received) (from : ℕ → Type 0) (load ls : List ℕ) (b : BestReading t r from load ls) where
  abbrev own : ℤ
  own = fit t r load b.s

  -- the best reading's fit is the greatest over the starts, and no full load's is above it
  pub own_fits : Fits t r from load own
  own_fits = record { start = b.s; sent = b.sent; is = refl; most = λ q o. b.best q load o }

  pub fits_best : (other : List ℕ) (x : ℤ) → Fits t r from other x → x ≤ℤ own
  fits_best other x f = subst (λ (z : ℤ). z ≤ℤ own) f.is (b.best f.start other f.sent)

  -- one that differs in slot k is below it by the lead at least, and one exactly
  pub fits_over : (k : ℕ) → k < valid_total t → (other : List ℕ) (x : ℤ) → Fits t r from other x → DifferIn k load other → (x +ℤ pos (get_or ls k 0)) ≤ℤ own
  fits_over k h other x f d = subst (λ (z : ℤ). (z +ℤ pos (get_or ls k 0)) ≤ℤ own) f.is ((b.leads k h).over f.start other f.sent d)

  pub fits_exactly : (k : ℕ) → (h : k < valid_total t) → Fits t r from (b.leads k h).rival (fit t r (b.leads k h).rival (b.leads k h).start)
  fits_exactly k h =
      let l = b.leads k h in
      record {
        start = l.start;
        sent = l.sent;
        is = refl;
        most = λ q o.
            less_same (fit t r l.rival q) (fit t r l.rival l.start) (get_or ls k 0)
            (subst (λ (z : ℤ). (fit t r l.rival q +ℤ pos (get_or ls k 0)) ≤ℤ z) (sym l.exactly) (l.over q l.rival o l.differ));
      }

  -- THE LEAD IS 0 exactly where another content of the slot fits as well
  pub record Equal (k : ℕ) : Type 0 where
    pub start : ℕ
    pub other : List ℕ
    pub sent : Sent t from start other
    pub differ : DifferIn k load other
    pub as_well : fit t r other start ≡ own

  pub zero_lead : (k : ℕ) → k < valid_total t → get_or ls k 0 ≡ 0 → Equal k
  zero_lead k h e =
      let l = b.leads k h in
      record {
        start = l.start;
        other = l.rival;
        sent = l.sent;
        differ = l.differ;
        as_well = sym (plus_none (fit t r l.rival l.start)) ∙ ap (λ (d : ℕ). fit t r l.rival l.start +ℤ pos d) (sym e) ∙ l.exactly;
      }

  pub equal_lead : (k : ℕ) → k < valid_total t → Equal k → get_or ls k 0 ≡ 0
  equal_lead k h q =
      let o = (b.leads k h).over q.start q.other q.sent q.differ in
      let z = below_same own (get_or ls k 0) 0 (subst (λ (x : ℤ). (own +ℤ pos (get_or ls k 0)) ≤ℤ x) (sym (plus_none own)) (subst (λ (x : ℤ). (x +ℤ pos (get_or ls k 0)) ≤ℤ own) q.as_well o)) in
      omega arith
