-- The runs of a table, built entry by entry.
use mathlib.Core.Path.{◌≡◌, refl, sym, ◌∙◌, ap}
use mathlib.Core.List.{List, [], ◌∷◌, ◌++◌, append_assoc, append-nil}
use Prim.Native.Nat.{ℕ, suc, ◌+◌, ◌*◌, ◌≤◌, ◌<◌}
use native.Mathlib.Omega.{arith}
use native.Mathlib.Nat.{add-zero}
use lib.ListN.{length, get_or, drop, set, replicate, length-append, drop_of_length-le}
use Rattle.isdbs_combination.specs.declared.Combination.{Combination}
use Rattle.std.specs.Prelude.{Some, None}
use Rattle.isdbs_tables.specs.declared.Entry.{Entry}
use Rattle.isdbs_tables.specs.declared.Table.{Table}
use Rattle.isdbs_plan.specs.declared.Run.{Run}
use Rattle.isdbs_plan.specs.declared.Plan.{Plan}
use Rattle.trellis.specs.ListLaws.{padded_more}
use Rattle.trellis.specs.Lists.{padded}
use Rattle.isdbs_tables.specs.Tables.{entry_combination}
use Rattle.isdbs_plan.specs.RunsOf.{entry_runs, entry_symbols, run_of, runs_from, symbols_in, valid_in, steps_in, steps_of, no_run, plan_of}
use Rattle.isdbs_plan.specs.RunLaws.{valid_append, steps_append}
use Rattle.isdbs_tables.proofs.EntryLaws.{no_entry, next}

module _ (es : List Entry) where
  -- the runs of the first i entries stand at the front, and those of the others follow
  pub record Built (i count slot symbol valid steps : ℕ) (runs : List Run) : Type 0 where
    pub done : List Run
    pub few : length done ≤ i
    pub laid : runs ≡ padded 4 no_run done
    pub counted : count ≡ length done
    pub valids : valid ≡ valid_in done
    pub stepped : steps ≡ steps_in done
    pub rest : done ++ runs_from (drop i es) slot symbol ≡ runs_from es 0 0

  pub built_none : Built 0 0 0 0 0 0 (replicate 4 no_run)
  unfolding valid_in steps_in
  built_none = record { done = []; few = omega arith; laid = refl; counted = refl; valids = refl; stepped = refl; rest = refl }

  module _ {i count slot symbol valid steps : ℕ} {runs : List Run} (b : Built i count slot symbol valid steps runs) (h : i < length es) where
    pub built_skip : entry_combination (get_or es i no_entry) ≡ None → Built (i + 1) count (slot + (get_or es i no_entry).slots) symbol valid steps runs
    unfolding runs_from
    built_skip e =
        record {
          done = b.done;
          few = omega (arith, b.few);
          laid = b.laid;
          counted = b.counted;
          valids = b.valids;
          stepped = b.stepped;
          rest = simp (e, add-zero) at (rw (next es i h) at b.rest);
        }

    pub built_more : (c : Combination) → i < 4 → entry_combination (get_or es i no_entry) ≡ Some c →
        Built (i + 1) (count + 1) (slot + (get_or es i no_entry).slots) (symbol + symbols_in (get_or es i no_entry).slots)
        (valid + (run_of c (get_or es i no_entry).slots slot symbol).valid_slots) (steps + steps_of (run_of c (get_or es i no_entry).slots slot symbol)) (set runs count (run_of c (get_or es i no_entry).slots slot symbol))
    unfolding runs_from
    built_more c k e =
        let r = run_of c (get_or es i no_entry).slots slot symbol in
        let after = drop (i + 1) es in
        record {
          done = b.done ++ (r ∷ []);
          few = simp length-append (omega (arith, b.few));
          laid = rw (b.laid, b.counted) (padded_more 4 no_run r b.done (omega (arith, b.few)));
          counted = simp length-append (omega (arith, b.counted));
          valids = rw (valid_append b.done r, b.valids);
          stepped = rw (steps_append b.done r, b.stepped);
          rest = append_assoc b.done (r ∷ []) _ ∙ simp e at (rw (next es i h) at b.rest);
        }

pub built_end : (t : Table) {i count slot symbol valid steps : ℕ} {runs : List Run} → Built t.entries i count slot symbol valid steps runs → length t.entries ≤ i →
    (◌≡◌ {A = Plan} (record { table = t; count = count; runs = runs; valid_slots = valid; steps = steps; bytes = 203 * valid }) (plan_of t)) × (count ≤ i)
unfolding runs_from
built_end t b h =
    let all : b.done ≡ runs_from t.entries 0 0 = sym (append-nil b.done) ∙ rw (drop_of_length-le t.entries h) at b.rest in
    (rw (b.laid, b.counted, b.valids, b.stepped, all), omega (arith, b.few, b.counted))
