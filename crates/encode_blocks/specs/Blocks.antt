-- Blocks of a frame's runs, and places among them.
use Rattle.std.specs.Prelude.{◌≡◌, cond, List, ℕ, ◌+◌, ◌-◌, ◌*◌, ◌/◌, ◌%◌, ◌<◌, ◌≤◌, eqb, ltb, length, get_or, take, Float}
use Rattle.trellis.specs.Lists.{upto, laid}
use Rattle.trellis.specs.Code.{state_at}
use Rattle.trellis.specs.Isdb
use Rattle.isdbs_combination.specs.declared.Combination.{Combination}
use Rattle.isdbs_combination.specs.declared.Combination.TheVariants.{Bpsk1_2, Qpsk1_2, Qpsk2_3, Qpsk3_4, Qpsk5_6, Qpsk7_8, Tc8psk2_3}
use Rattle.isdbs_combination.specs.Combinations.{modulation_of}
use Rattle.isdbs_frame.specs.Frame.{main_symbols}
use Rattle.isdbs_plan.specs.declared.Run.{Run}
use Rattle.isdbs_plan.specs.RunsOf.{steps_of, no_run}
use Rattle.isdbs_points.specs.declared.Mapping.{Mapping}
use Rattle.isdbs_points.specs.Pieces.{piece_symbols}
use Rattle.encode_main.specs.Encoding.{inputs_of, point_of}
use Rattle.encode_main.specs.RunLaws.{symbols_at, steps_at, bits_at}
use Rattle.encode_blocks.specs.BlockLaws.{bits_by, Periods}
use Rattle.encode_blocks.specs.declared.Block.{Block}
use Rattle.encode_blocks.specs.declared.Place.{Place}

abbrev block : ℕ → ℕ → ℕ → ℕ → Block
block steps period symbols bits = record { steps = steps; period = period; symbols = symbols; bits = bits }

-- the most symbols of a block
abbrev pub block_symbols : ℕ
block_symbols = 2048

-- whole periods and whole bytes of the load, at most 2,048 symbols
abbrev pub block_for : Combination → Block
block_for Bpsk1_2 = block 1024 1 2 1
block_for Qpsk1_2 = block 2048 1 1 1
block_for Qpsk2_3 = block 2560 4 3 1
block_for Qpsk3_4 = block 3072 3 2 1
block_for Qpsk5_6 = block 3200 5 3 1
block_for Qpsk7_8 = block 3584 7 4 1
block_for Tc8psk2_3 = block 2048 1 1 2

abbrev pub block_steps : ℕ → ℕ → ℕ
block_steps left most = cond (ltb left most) left most

abbrev pub place : ℕ → ℕ → ℕ → ℕ → ℕ → Place
place run step state bit symbol = record { run = run; step = step; state = state; bit = bit; symbol = symbol }

-- after n of the steps left of a run: behind it where that is all
abbrev pub place_after : Place → Block → ℕ → ℕ → ℕ → Place
place_after at b n left state =
    let bit = at.bit + b.bits * n in
    let symbol = at.symbol + n / b.period * b.symbols in
    cond (eqb n left) (place (at.run + 1) 0 state bit symbol) (place at.run (at.step + n) state bit symbol)

-- where a frame starts
abbrev pub start_place : ℕ → Place
start_place s = place 0 0 s 0 0

-- a place among the first `count` runs of a list; behind the last one no step has been encoded
pub record Here (list : List Run) (count : ℕ) (at : Place) : Type 0 where
  pub few : at.run ≤ count
  pub small : at.state < Isdb.states
  pub eights : at.step % 8 ≡ 0
  pub whole : Periods (get_or list at.run no_run).combination at.step
  pub within : at.step ≤ steps_of (get_or list at.run no_run)
  pub byte : at.bit % 8 ≡ 0
  pub bit_is : at.bit ≡ bits_at (take count list) at.run + bits_by (modulation_of (get_or list at.run no_run).combination) at.step
  pub bit_few : at.bit ≤ 2 * at.symbol
  pub symbol_is : at.symbol ≡ symbols_at (take count list) at.run + piece_symbols (get_or list at.run no_run).combination at.step
  pub fits : at.symbol ≤ main_symbols
  pub last : at.run ≡ count → at.step ≡ 0

-- the step of the frame there
abbrev pub step_at : List Run → ℕ → Place → ℕ
step_at list count at = steps_at (take count list) at.run + at.step

-- what encoding the block from the place `at` to the place r leaves, of a frame that starts from the state s
pub record BlockMade (list : List Run) (count : ℕ) (m : Mapping) (load : List ℕ) (s : ℕ) (at r : Place) (xs₀ xs ys₀ ys : List Float) : Type 0 where
  pub state_is : r.state ≡ state_at Isdb.half s (inputs_of (take count list) load) (step_at list count r)
  pub re_is : xs ≡ laid (upto (λ i. (point_of (take count list) m load s (at.symbol + i)).re) (r.symbol - at.symbol)) xs₀
  pub im_is : ys ≡ laid (upto (λ i. (point_of (take count list) m load s (at.symbol + i)).im) (r.symbol - at.symbol)) ys₀
  -- it lies in one run
  pub in_run : r.symbol ≤ symbols_at (take count list) (at.run + 1)
