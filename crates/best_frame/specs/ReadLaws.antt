-- From what the parts of a reading leave to the reading.
use Rattle.std.specs.Prelude.{◌≡◌, refl, List, ◌++◌, ℕ, ◌+◌, ◌*◌, ◌/◌, ◌≤◌, ◌<◌, length, get_or, take, drop, Float}
use Rattle.std.proofs.Math.Path.{sym}
use Rattle.std.proofs.Common.{ap, ◌∙◌, subst, append-nil, arith, drop_of_length-le, length-take-le, take_at, drop_at, Fits}
use Rattle.std.specs.Int.{w64}
use Rattle.trellis.specs.Lists.{laid}
use Rattle.trellis.specs.ListLaws.{length_upto}
use Rattle.trellis.specs.LaidLaws.{laid_at, length_laid_upto}
use Rattle.trellis.specs.Isdb
use Rattle.path_greatest.specs.declared.Start.{Start}
use Rattle.isdbs_tables.specs.declared.Table.{Table}
use Rattle.isdbs_tables.specs.Tables.{TableAccepted}
use Rattle.isdbs_plan.specs.declared.Plan.{Plan}
use Rattle.isdbs_plan.specs.PlanLaws.{table_laid}
use Rattle.isdbs_plan.specs.RunsOf.{frame_steps, load_bytes, valid_total, Planned}
use Rattle.isdbs_points.specs.SizeLaws.{few_steps}
use Rattle.isdbs_points.specs.Layout.{byte_of}
use Rattle.isdbs_metrics.specs.Reading.{Received, metrics_at}
use Rattle.decode_block.specs.Blocks.{fours}
use Rattle.range_metrics.specs.Metrics.{Sized}
use Rattle.best_sides.specs.FrameSides.{frame_metrics, frame_sides, side_at}
use Rattle.best_sides.specs.FrameLaws.{frame_upright}
use Rattle.best_content.specs.Slots as content
use Rattle.best_content.specs.Found.{Found}
use Rattle.best_loads.specs.Marks.{mark_at, frame_marks}
use Rattle.best_loads.proofs.MarkLaws.{marked_of}
use Rattle.best_loads.specs.Held.{load_of, held_bit}
use Rattle.best_loads.proofs.HeldLaws.{content_inputs, content_uncoded, content_bits, content_twos}
use Rattle.best_loads.proofs.LoadLaws.{best_reading}
use Rattle.best_frame.specs.declared.Lengths.{Lengths}
use Rattle.best_frame.specs.Lent.{Lent, lent, lengths}
use Rattle.best_frame.specs.Left.{Room, Just, Reads, Left}

-- a front as long as the list is all of it
laid_whole : {A : Type 0} (a w : List A) → length w ≤ length a → laid a w ≡ a
laid_whole {A} a w h = ap (λ (x : List A). a ++ x) (drop_of_length-le w {i = length a} h) ∙ append-nil a

module _ (t : Table) (accepted : TableAccepted t) (r : Received) (start : Start) where
  -- the metrics, the sides and the marks as they are written
  pub metrics_long : length (frame_metrics t r) ≡ 4 * frame_steps t
  unfolding frame_metrics
  metrics_long = length_upto (fours (metrics_at t r)) (4 * frame_steps t)

  pub metrics_whole : (metrics₀ metrics : List Float) → metrics ≡ laid (frame_metrics t r) metrics₀ → length metrics₀ ≡ 4 * frame_steps t → metrics ≡ frame_metrics t r
  metrics_whole metrics₀ metrics e n = e ∙ laid_whole (frame_metrics t r) metrics₀ (let l = metrics_long in omega arith)

  pub sides_long : length (frame_sides t r) ≡ frame_steps t
  unfolding frame_sides
  sides_long = length_upto (side_at t r) (frame_steps t)

  pub sides_whole : (sides₀ sides : List ℕ) → sides ≡ laid (frame_sides t r) sides₀ → length sides₀ ≡ frame_steps t → sides ≡ frame_sides t r
  sides_whole sides₀ sides e n = e ∙ laid_whole (frame_sides t r) sides₀ (let l = sides_long in omega arith)

  pub marks_at : (marks₀ marks : List ℕ) → marks ≡ laid (frame_marks t) marks₀ → (k : ℕ) → k ≤ valid_total t → get_or marks k 0 ≡ mark_at t k
  marks_at marks₀ marks e k h = ap (λ (x : List ℕ). get_or x k 0) e ∙ laid_at 0 (mark_at t) (valid_total t + 1) marks₀ k (omega arith)

  pub marks_long : (marks₀ marks : List ℕ) → marks ≡ laid (frame_marks t) marks₀ → valid_total t < length marks₀ → valid_total t + 1 ≤ length marks
  marks_long marks₀ marks e h = let l = ap length e ∙ length_laid_upto (mark_at t) (valid_total t + 1) marks₀ (omega arith) in omega arith

  -- what the reading of the whole is lent
  pub content_lent : (z : Sized 16 6 r) (metrics : List Float) (sides marks tables words bits uncoded leads : List ℕ) → metrics ≡ frame_metrics t r → sides ≡ frame_sides t r
      → valid_total t + 1 ≤ length marks → ((k : ℕ) → k ≤ valid_total t → get_or marks k 0 ≡ mark_at t k) → Isdb.states * valid_total t ≤ length tables → frame_steps t ≤ length words
      → length bits ≡ frame_steps t → length uncoded ≡ frame_steps t → length leads ≡ valid_total t → content.Lent metrics sides marks tables words bits uncoded leads
  content_lent z metrics sides marks tables words bits uncoded leads em es ml ma ht hw hb hu hl =
      let n = steps em in
      let s : length sides ≡ frame_steps t = ap length es ∙ sides_long in
      rw (em, es) (record {
        marked = rw (hl, steps refl) (marked_of t marks ml ma);
        few = rw (steps refl) (few_steps t accepted);
        sided = rw (steps refl, sides_long) (omega arith);
        kept = rw hl ht;
        words = rw (steps refl) hw;
        read = hb ∙ sym (steps refl);
        beside = hu ∙ sym (steps refl);
        upright = rw (steps refl) (frame_upright t accepted r z);
      })
    where
      steps : {xs : List Float} → xs ≡ frame_metrics t r → length xs / 4 ≡ frame_steps t
      steps e = let l = ap length e ∙ metrics_long in omega arith

  module _ (v : ℕ) (ev : v ≡ valid_total t) (metrics : List Float) (sides marks bits uncoded leads : List ℕ) (em : metrics ≡ frame_metrics t r) (es : sides ≡ frame_sides t r) (ma : (k : ℕ) → k ≤ valid_total t → get_or marks k 0 ≡ mark_at t k)
      (found : Found start metrics sides marks v (length metrics / 4) bits uncoded leads) where
    four : length metrics / 4 ≡ frame_steps t
    four = let l = ap length em ∙ metrics_long in omega arith

    found' : Found start (frame_metrics t r) (frame_sides t r) marks (valid_total t) (frame_steps t) bits uncoded leads
    found' =
        subst (λ (x : List Float). Found start x (frame_sides t r) marks (valid_total t) (frame_steps t) bits uncoded leads) em
        (subst (λ (x : List ℕ). Found start metrics x marks (valid_total t) (frame_steps t) bits uncoded leads) es
        (subst (λ (x : ℕ). Found start metrics sides marks (valid_total t) x bits uncoded leads) four
        (subst (λ (x : ℕ). Found start metrics sides marks x (length metrics / 4) bits uncoded leads) ev found)))

    pub found_long : length bits ≡ frame_steps t
    found_long = found'.content.path.count

    pub found_wide : length uncoded ≡ frame_steps t
    found_wide = found'.content.count

    pub found_bits : (k : ℕ) → get_or bits k 0 < 2
    found_bits = content_bits t accepted r found'.s bits uncoded found'.content

    pub found_twos : (k : ℕ) → get_or uncoded k 0 < 2
    found_twos = content_twos t accepted r found'.s bits uncoded found'.content

    pub found_reads : (bytes₀ bytes : List ℕ) → bytes ≡ laid (load_of t bits uncoded) bytes₀ → length bytes₀ ≡ load_bytes t → Reads t r start bits uncoded bytes leads
    unfolding load_of
    found_reads bytes₀ bytes e n =
        let l = length_upto (λ j. byte_of (λ i. held_bit t bits uncoded (8 * j + i))) (load_bytes t) in
        let b : bytes ≡ load_of t bits uncoded = e ∙ laid_whole (load_of t bits uncoded) bytes₀ (omega arith) in
        rw b (record {
          best = best_reading t accepted r start marks bits uncoded leads ma found';
          bits_are = sym (content_inputs t accepted r found'.s bits uncoded found'.content);
          uncoded_are = sym (content_uncoded t accepted r found'.s bits uncoded found'.content);
        })

-- ---- slices whose fronts are lent
module _ {A : Type 0} (K k : ℕ) (p l : List A) (e : k ≡ K) (h : k ≤ length l) (g : length p ≡ length (take k l)) where
  long : length p ≡ K
  long = g ∙ length-take-le k l h ∙ e

  pub front_of : take K (p ++ drop k l) ≡ p
  front_of = take_at p (drop k l) K long

  pub past_of : drop K (p ++ drop k l) ≡ drop K l
  past_of = drop_at p (drop k l) K long ∙ ap (λ (x : ℕ). drop x l) e

pub reads_from : {t : Table} {r : Received} {start : Start} {a a' b b' c c' d d' : List ℕ} → a' ≡ a → b' ≡ b → c' ≡ c → d' ≡ d → Reads t r start a b c d → Reads t r start a' b' c' d'
reads_from {t} {r} {start} {a} {a'} {b} {b'} {c} {c'} {d} {d'} e1 e2 e3 e4 x =
    subst (λ (z : List ℕ). Reads t r start z b' c' d') (sym e1)
    (subst (λ (z : List ℕ). Reads t r start a z c' d') (sym e2)
    (subst (λ (z : List ℕ). Reads t r start a b z d') (sym e3)
    (subst (λ (z : List ℕ). Reads t r start a b c z) (sym e4) x)))

-- the numbers of a plan
pub record Counted (p : Plan) : Type 0 where
  pub steps_are : p.steps ≡ frame_steps p.table
  pub valid_are : p.valid_slots ≡ valid_total p.table
  pub bytes_are : p.bytes ≡ load_bytes p.table
  pub steps_few : frame_steps p.table ≤ 68208
  pub valid_few : valid_total p.table ≤ 48

pub counted : (p : Plan) → Planned p → Counted p
counted p h = record {
  steps_are = ap (λ (x : Plan). x.steps) h.is;
  valid_are = ap (λ (x : Plan). x.valid_slots) h.is;
  bytes_are = ap (λ (x : Plan). x.bytes) h.is;
  steps_few = few_steps p.table h.accepted;
  valid_few = (table_laid p.table h.accepted).valid;
}

pub four_few : (p : Plan) → Planned p → 4 * p.steps ≤ 272832
four_few p h = let c = counted p h in let s = c.steps_are in let f = c.steps_few in omega arith

pub kept_few : (p : Plan) → Planned p → 64 * p.valid_slots ≤ 3072
kept_few p h = let c = counted p h in let v = c.valid_are in let f = c.valid_few in omega arith

pub four_fits : (p : Plan) → Planned p → Fits w64 (4 * p.steps)
four_fits p h = let c = counted p h in let s = c.steps_are in let f = c.steps_few in record { fits = omega arith }

pub kept_fits : (p : Plan) → Planned p → Fits w64 (64 * p.valid_slots)
kept_fits p h = let c = counted p h in let v = c.valid_are in let f = c.valid_few in record { fits = omega arith }

-- the marks are more than the valid slots
pub marks_fit : (p : Plan) → Planned p → valid_total p.table < 49
marks_fit p h = let f = (counted p h).valid_few in omega arith

-- the fronts that are lent on
pub record Fronts (p : Plan) (l : Lengths) : Type 0 where
  pub metrics : 4 * p.steps ≤ l.metrics
  pub sides : p.steps ≤ l.sides
  pub words : p.steps ≤ l.words
  pub tables : 64 * p.valid_slots ≤ l.tables
  pub bits : p.steps ≤ l.bits
  pub uncoded : p.steps ≤ l.uncoded
  pub bytes : p.bytes ≤ l.bytes
  pub leads : p.valid_slots ≤ l.leads

pub fronts : (p : Plan) (l : Lengths) → Planned p → Room p.table l → Fronts p l
fronts p l h o =
    let c = counted p h in
    let s = c.steps_are in
    let v = c.valid_are in
    let b = c.bytes_are in
    record {
      metrics = omega (arith, o.metrics_fit);
      sides = omega (arith, o.sides_fit);
      words = omega (arith, o.words_fit);
      tables = omega (arith, o.tables_fit);
      bits = omega (arith, o.bits_fit);
      uncoded = omega (arith, o.uncoded_fit);
      bytes = omega (arith, o.bytes_fit);
      leads = omega (arith, o.leads_fit);
    }

-- the fronts of lent memory, and other fronts laid over it
abbrev pub taken : Plan → Lent → Lent
taken p l =
    lent (take (4 * p.steps) l.metrics) (take p.steps l.sides) (take p.steps l.words) (take (64 * p.valid_slots) l.tables) (take p.steps l.bits) (take p.steps l.uncoded)
    (take p.bytes l.bytes) (take p.valid_slots l.leads)

abbrev pub over : Plan → Lent → Lent → Lent
over p new l =
    lent (new.metrics ++ drop (4 * p.steps) l.metrics) (new.sides ++ drop p.steps l.sides) (new.words ++ drop p.steps l.words) (new.tables ++ drop (64 * p.valid_slots) l.tables)
    (new.bits ++ drop p.steps l.bits) (new.uncoded ++ drop p.steps l.uncoded) (new.bytes ++ drop p.bytes l.bytes) (new.leads ++ drop p.valid_slots l.leads)

-- of one length
pub record Same (a b : Lent) : Type 0 where
  pub metrics : length a.metrics ≡ length b.metrics
  pub sides : length a.sides ≡ length b.sides
  pub words : length a.words ≡ length b.words
  pub tables : length a.tables ≡ length b.tables
  pub bits : length a.bits ≡ length b.bits
  pub uncoded : length a.uncoded ≡ length b.uncoded
  pub bytes : length a.bytes ≡ length b.bytes
  pub leads : length a.leads ≡ length b.leads

pub just : (p : Plan) (l : Lent) → Planned p → Fronts p (lengths l) → Just p.table (lengths (taken p l))
just p l h f =
    let c = counted p h in
    let s = c.steps_are in
    let v = c.valid_are in
    let b = c.bytes_are in
    record {
      metrics_are = omega (arith, length-take-le (4 * p.steps) l.metrics f.metrics);
      sides_are = length-take-le p.steps l.sides f.sides ∙ s;
      words_are = length-take-le p.steps l.words f.words ∙ s;
      tables_are = omega (arith, length-take-le (64 * p.valid_slots) l.tables f.tables);
      bits_are = length-take-le p.steps l.bits f.bits ∙ s;
      uncoded_are = length-take-le p.steps l.uncoded f.uncoded ∙ s;
      bytes_are = length-take-le p.bytes l.bytes f.bytes ∙ b;
      leads_are = length-take-le p.valid_slots l.leads f.leads ∙ v;
    }

-- a reading in the fronts
pub left_of : (p : Plan) (l new : Lent) → Planned p → Fronts p (lengths l) → Same new (taken p l) → (r : Received) (start : Start) → Reads p.table r start new.bits new.uncoded new.bytes new.leads
    → Left p.table r start l (over p new l)
left_of p l new h f g r start x =
    let t = p.table in
    let c = counted p h in
    let s = c.steps_are in
    let v = c.valid_are in
    let b = c.bytes_are in
    let four : 4 * p.steps ≡ 4 * frame_steps t = omega arith in
    let kept : 64 * p.valid_slots ≡ 64 * valid_total t = omega arith in
    record {
      reads = reads_from (front_of (frame_steps t) p.steps new.bits l.bits s f.bits g.bits) (front_of (frame_steps t) p.steps new.uncoded l.uncoded s f.uncoded g.uncoded)
          (front_of (load_bytes t) p.bytes new.bytes l.bytes b f.bytes g.bytes) (front_of (valid_total t) p.valid_slots new.leads l.leads v f.leads g.leads) x;
      metrics_past = past_of (4 * frame_steps t) (4 * p.steps) new.metrics l.metrics four f.metrics g.metrics;
      sides_past = past_of (frame_steps t) p.steps new.sides l.sides s f.sides g.sides;
      words_past = past_of (frame_steps t) p.steps new.words l.words s f.words g.words;
      tables_past = past_of (64 * valid_total t) (64 * p.valid_slots) new.tables l.tables kept f.tables g.tables;
      bits_past = past_of (frame_steps t) p.steps new.bits l.bits s f.bits g.bits;
      uncoded_past = past_of (frame_steps t) p.steps new.uncoded l.uncoded s f.uncoded g.uncoded;
      bytes_past = past_of (load_bytes t) p.bytes new.bytes l.bytes b f.bytes g.bytes;
      leads_past = past_of (valid_total t) p.valid_slots new.leads l.leads v f.leads g.leads;
    }
