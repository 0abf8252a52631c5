-- The margins of demand 3. Document 01, "A capture enters `decode_frame`": "Margins of demand 3, per part as lent, before decoding conjugates".
-- Definitions only.
use Rattle.std.specs.Prelude.{Bool, true, false, cond, ◌&&◌, List, ℕ, ◌<◌, ◌≤◌, get_or, length, T, Float}
use Rattle.std.specs.Float.{nan}
use Rattle.std.specs.Float.Ieee.{neg, eq, le}
use Rattle.isdbs_combination.specs.declared.Modulation.{Modulation}
use Rattle.isdbs_combination.specs.declared.Modulation.TheVariants.{Bpsk, Qpsk, Tc8psk}
use Rattle.isdbs_tables.specs.declared.Table.{Table}
use Rattle.isdbs_combination.specs.Combinations.{modulation_of}
use Rattle.isdbs_points.specs.declared.Mapping.{Mapping}
use Rattle.isdbs_points.specs.Points.{zero64, one64, root64}
use Rattle.isdbs_rows.specs.DecodeRows.{part_limit}
use Rattle.isdbs_points.specs.Layout.{at_symbol}
use Rattle.isdbs_points.specs.Frame.{point_at, start_state}
use Rattle.margin_ends.specs.Ends.{near0, low1, high1, low_root, high_root}
use Rattle.isdbs_frame.specs.Frame.{main_symbols}

-- "A margin's ends belong to it"
abbrev pub between : Float → Float → Float → Bool
between a b x = le a x && le x b

-- "clean 0 within 1/32; clean 1 from 31/32 to 33/32; clean 1/√2 from 87/128 to 94/128; negatives mirrored", "-0.0 being a clean 0". A part of an encoded frame is
-- 0, ±1 or ±s (`point-clean`, crate exact_frame), so that any other clean value than those tested for is -s: it has the last margin.
unfoldable pub keeps : Float → Float → Bool
keeps clean x =
    cond (eq clean zero64) (between (neg near0) near0 x)
    (cond (eq clean one64) (between low1 high1 x)
    (cond (eq clean (neg one64)) (between (neg high1) (neg low1) x)
    (cond (eq clean root64) (between low_root high_root x) (between (neg high_root) (neg low_root) x))))

-- any accepted value: finite and within 65,536
abbrev pub any_accepted : Float → Bool
any_accepted x = between (neg part_limit) part_limit x

-- "A BPSK imaginary part and a point outside every run may hold any accepted value"
abbrev pub is_bpsk : Modulation → Bool
is_bpsk Bpsk = true
is_bpsk Qpsk = false
is_bpsk Tc8psk = false

abbrev pub free_re : Table → ℕ → Bool
free_re = at_symbol true (λ g j. false)

abbrev pub free_im : Table → ℕ → Bool
free_im = at_symbol true (λ g j. is_bpsk (modulation_of g.combination))

abbrev pub holds : Bool → Float → Float → Bool
holds free clean x = cond free (any_accepted x) (keeps clean x)

-- The received parts re and im, "any 38,976 points, whatever is lent past them", lie within the margins of the load: "every part of
-- every point keeps the margin of the same part in the frame that `encode_frame_with_state` makes of that load with this table and
-- `Mapping` from the start state for `first`"
pub record Within (re im : List Float) (load : List ℕ) (t : Table) (m : Mapping) (first : Bool) : Type 0 where
  pub re_count : main_symbols ≤ length re
  pub im_count : main_symbols ≤ length im
  pub re_parts : (k : ℕ) → k < main_symbols → T (holds (free_re t k) (point_at t m load (start_state first) k).re (get_or re k nan))
  pub im_parts : (k : ℕ) → k < main_symbols → T (holds (free_im t k) (point_at t m load (start_state first) k).im (get_or im k nan))
