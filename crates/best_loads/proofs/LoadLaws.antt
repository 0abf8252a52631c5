-- What `best_content` finds, said of loads: its bits with its uncoded bits are a full load that no full load fits better than, and its leads are those of the load in the valid slots.
use Rattle.std.specs.Prelude.{◌≡◌, refl, List, ℕ, ◌+◌, ◌*◌, ◌≤◌, ◌<◌, ℤ, pos, ◌+ℤ◌, ◌≤ℤ◌, get_or}
use Rattle.std.proofs.Common.{sym, ap, ◌∙◌, subst, arith}
use Rattle.trellis.specs.Isdb
use Rattle.path_greatest.specs.Paths.{First}
use Rattle.path_greatest.specs.Fresh.{StartsIn}
use Rattle.path_greatest.specs.declared.Start.{Start}
use Rattle.isdbs_tables.specs.declared.Table.{Table}
use Rattle.isdbs_tables.specs.Tables.{TableAccepted}
use Rattle.isdbs_plan.specs.RunsOf.{frame_steps, valid_total}
use Rattle.isdbs_combination.specs.declared.Modulation.{Modulation}
use Rattle.isdbs_combination.specs.declared.Modulation.TheVariants.{Tc8psk}
use Rattle.isdbs_combination.specs.Combinations.{modulation_of}
use Rattle.isdbs_points.specs.Layout.{Segment, segments, In, load_bit}
use Rattle.isdbs_points.specs.Frame.{inputs, label_at}
use Rattle.isdbs_points.specs.SizeLaws.{step_fits}
use Rattle.isdbs_metrics.specs.Reading.{Received}
use Rattle.best_sides.specs.FrameSides.{frame_metrics, frame_sides, better_in}
use Rattle.best_sides.specs.FrameLaws.{chosen_uncoded}
use Rattle.best_grid.specs.Sides.{two, worth_at}
use Rattle.best_grid.specs.Contents.{Content, worth, Differ}
use Rattle.best_content.specs.Found.{Found}
use Rattle.best_loads.specs.Fit.{fit, DifferIn, Sent, LeadsIn, BestReading}
use Rattle.best_loads.specs.Marks.{mark_at}
use Rattle.best_loads.specs.Held.{uncoded_by, uncoded_bits, load_of}
use Rattle.best_loads.proofs.FitLaws.{beside_at, load_worth, load_content}
use Rattle.best_loads.proofs.HeldLaws.{content_full, content_inputs, content_uncoded, content_fit}
use Rattle.best_loads.proofs.SlotLaws.{slot_steps_lem, slot_bytes_lem}

-- ---- differences, with other names for the same
differ_as : {us us' zs zs' vs vs' ys ys' : List ℕ} {a a' b b' : ℕ} → us ≡ us' → zs ≡ zs' → vs ≡ vs' → ys ≡ ys' → a ≡ a' → b ≡ b' → Differ us zs vs ys a b → Differ us' zs' vs' ys' a' b'
differ_as {us} {us'} {zs} {zs'} {vs} {vs'} {ys} {ys'} {a} {a'} {b} {b'} e1 e2 e3 e4 e5 e6 d =
    subst (λ (x : List ℕ). Differ x zs' vs' ys' a' b') e1
    (subst (λ (x : List ℕ). Differ us x vs' ys' a' b') e2
    (subst (λ (x : List ℕ). Differ us zs x ys' a' b') e3
    (subst (λ (x : List ℕ). Differ us zs vs x a' b') e4
    (subst (λ (x : ℕ). Differ us zs vs ys x b') e5
    (subst (λ (x : ℕ). Differ us zs vs ys a x) e6 d)))))

module _ (t : Table) (accepted : TableAccepted t) (r : Received) (start : Start) (marks us zs ls : List ℕ) (marked : (k : ℕ) → k ≤ valid_total t → get_or marks k 0 ≡ mark_at t k)
    (found : Found start (frame_metrics t r) (frame_sides t r) marks (valid_total t) (frame_steps t) us zs ls) where
  abbrev from : ℕ → Type 0
  from = StartsIn Isdb.states start

  abbrev s : ℕ
  s = found.s

  abbrev load : List ℕ
  load = load_of t us zs

  abbrev w : ℕ → ℕ → ℕ → ℤ
  w = worth_at (frame_metrics t r) (frame_sides t r)

  own : fit t r load s ≡ worth w s us zs (frame_steps t)
  own = content_fit t accepted r s us zs found.content

  sent_of : (q : ℕ) (vs ys : List ℕ) → Content (two (frame_metrics t r) (frame_sides t r)) (frame_steps t) q vs ys → from q → Sent t from q (load_of t vs ys)
  sent_of q vs ys c b = record { full = content_full t accepted r q vs ys c; state = c.path.walk.start; begins = b }

  pub best_load : (q : ℕ) (other : List ℕ) → Sent t from q other → fit t r other q ≤ℤ fit t r load s
  best_load q other o =
      subst (λ (x : ℤ). x ≤ℤ fit t r load s) (load_worth t r other q)
      (subst (λ (x : ℤ). worth w q (inputs t other) (uncoded_bits t other) (frame_steps t) ≤ℤ x) (sym own)
      (found.greatest q (inputs t other) (uncoded_bits t other) (load_content t r other q o.state) o.begins))

  module _ (k : ℕ) (h : k < valid_total t) where
    abbrev low : get_or marks k 0 ≡ mark_at t k
    low = marked k (omega arith)

    abbrev high : get_or marks (k + 1) 0 ≡ mark_at t (k + 1)
    high = marked (k + 1) (omega arith)

    abbrev d : ℕ
    d = get_or ls k 0

    over : (q : ℕ) (other : List ℕ) → Sent t from q other → DifferIn k load other → (fit t r other q +ℤ pos d) ≤ℤ fit t r load s
    over q other o x =
        let c = found.content in
        let y = differ_as (content_inputs t accepted r s us zs c) (content_uncoded t accepted r s us zs c) refl refl (sym low) (sym high)
        (slot_steps_lem t accepted load other (content_full t accepted r s us zs c) o.full k h x) in
        subst (λ (z : ℤ). (z +ℤ pos d) ≤ℤ fit t r load s) (load_worth t r other q)
        (subst (λ (z : ℤ). (worth w q (inputs t other) (uncoded_bits t other) (frame_steps t) +ℤ pos d) ≤ℤ z) (sym own)
        ((found.leads k h).over q (inputs t other) (uncoded_bits t other) (load_content t r other q o.state) o.begins y))

    pub lead_load : LeadsIn t r from s load k d
    lead_load =
        let c = found.content in
        let l = found.leads k h in
        let q = l.start in
        let vs = l.inputs in
        let ys = l.uncoded in
        record {
          over = over;
          start = q;
          rival = load_of t vs ys;
          sent = sent_of q vs ys l.content l.begins;
          differ = slot_bytes_lem t accepted load (load_of t vs ys) k h
              (differ_as (sym (content_inputs t accepted r s us zs c)) (sym (content_uncoded t accepted r s us zs c)) (sym (content_inputs t accepted r q vs ys l.content))
              (sym (content_uncoded t accepted r q vs ys l.content)) low high l.differ);
          exactly = ap (λ (z : ℤ). z +ℤ pos d) (content_fit t accepted r q vs ys l.content) ∙ l.other ∙ sym own;
        }

  pub first_load : (q : ℕ) (other : List ℕ) → Sent t from q other → fit t r other q ≡ fit t r load s → First Isdb.half Isdb.rule s (inputs t load) q (inputs t other) (frame_steps t)
  first_load q other o e =
      subst (λ (x : List ℕ). First Isdb.half Isdb.rule s x q (inputs t other) (frame_steps t)) (sym (content_inputs t accepted r s us zs found.content))
      (found.first q (inputs t other) (uncoded_bits t other) (load_content t r other q o.state) o.begins (load_worth t r other q ∙ e ∙ own))

  pub better_load : (g : Segment) → In g (segments t) → modulation_of g.combination ≡ Tc8psk → (k : ℕ) → k < g.steps → load_bit load (g.bit + 2 * k) ≡ better_in r g k (label_at s (inputs t load) (g.step + k))
  better_load g m e k h =
      let c = found.content in
      let i = g.step + k in
      let n = step_fits t g m k h in
      ap (λ (x : Modulation). uncoded_by x load g k) (sym e)
      ∙ sym (beside_at t load g m k h)
      ∙ ap (λ (x : List ℕ). get_or x i 0) (content_uncoded t accepted r s us zs c)
      ∙ found.uncoded i n
      ∙ chosen_uncoded t r us s g m e k h n
      ∙ ap (λ (x : List ℕ). better_in r g k (label_at s x i)) (sym (content_inputs t accepted r s us zs c))

  -- THE THEOREM
  pub best_reading : BestReading t r from load ls
  best_reading = record { s = s; sent = sent_of s us zs found.content found.begins; best = best_load; first = first_load; uncoded = better_load; leads = lead_load }
