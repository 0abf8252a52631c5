-- What a step of a call leaves in the state and in the lent slices, and the steps that a call is made of.
use Rattle.std.specs.Prelude.{◌≡◌, Bool, false, cond, ◌⊎◌, List, [], ◌∷◌, ◌++◌, ℕ, zero, suc, ◌+◌, ◌*◌, ◌/◌, ◌%◌, ◌<◌, ◌≤◌, eqb, length, take, drop, Float}
use Rattle.trellis.specs.Lists.{laid}
use Rattle.trellis.specs.Step as trellis
use Rattle.trellis.specs.Step.{renormalised}
pub use Rattle.trellis.specs.Isdb.{nexts, word, best_state, traced, settle, step_once, steps, call, flush, released}
use Rattle.trellis.specs.Isdb
use Rattle.trellis.specs.Run.{Decoder, block, interval, decisions_after, releases, pair_steps, four_steps, known_steps}
pub use Rattle.viterbi_steps.specs.Runs.{step_of, steps_of, lent_steps}
use Rattle.viterbi_steps.specs.declared.Kind.{Kind}
use Rattle.viterbi_steps.specs.declared.Kind.TheVariants.{Pairs, Fours, Knowns}
use Rattle.viterbi_core.specs.declared.At.{At}

-- calls as functions of a decoder: those of `push_known`, `push` and `push_metrics`
abbrev pub known_call : ℕ → List ℕ → Decoder → Decoder
known_call tb bits d = steps tb (known_steps bits) d (length bits)

abbrev pub pair_call : ℕ → List Float → Decoder → Decoder
pair_call tb pairs d = call tb (pair_steps pairs) d (length pairs / 2)

abbrev pub four_call : ℕ → List Float → Decoder → Decoder
four_call tb metrics d = call tb (four_steps metrics) d (length metrics / 4)

-- what one step of a call leaves, which gives the decoder d, with `count` bits put out before
pub record Stepped (tb : ℕ) (d : Decoder) (count : ℕ) (r : At) (pm : List Float) (decisions₀ decisions out₀ out : List ℕ) : Type 0 where
  pub values : pm ≡ d.values
  pub held_is : r.held ≡ length d.words
  pub count_is : r.count ≡ count + length d.bits
  pub words : decisions ≡ decisions_after tb d.words d.bits decisions₀
  pub bits : out ≡ take count out₀ ++ laid d.bits (drop count out₀)

-- Inside a call: the path values, the counts and the lent slices are those of the decoder d; the slices held `decisions₀` and `out₀` as the call began
pub record Holds (tb : ℕ) (decisions₀ out₀ : List ℕ) (d : Decoder) (pm : List Float) (held count : ℕ) (decisions out : List ℕ) : Type 0 where
  pub values : pm ≡ d.values
  pub held_is : held ≡ length d.words
  pub count_is : count ≡ length d.bits
  pub words : decisions ≡ decisions_after tb d.words d.bits decisions₀
  pub bits : out ≡ laid d.bits out₀

-- where a step of a call releases, the output has room for the 4,096 bits
abbrev pub Room : ℕ → ℕ → ℕ → ℕ → Type 0
Room tb held count space = held + 1 ≡ block + tb → count + block ≤ space

-- n steps ys of a call, the first of which is its step i
unfoldable pub steps_from : ℕ → ℕ → (ℕ → trellis.Step) → Decoder → ℕ → Decoder
steps_from tb i ys d zero = d
steps_from tb i ys d (suc n) = step_once tb (i + n) (ys n) (steps_from tb i ys d n)

-- what n steps ys of a call leave, the first of which is its step i: the decoder that the values and slices held goes n steps on
pub record Carried (tb : ℕ) (ys : ℕ → trellis.Step) (i n : ℕ) (pm : List Float) (at : At) (dec out : List ℕ) (r : At) (pm' : List Float) (dec' out' : List ℕ) : Type 0 where
  pub few : r.held < block + tb
  pub left : r.held + block * releases tb at.held n ≡ at.held + n
  pub gone : r.count ≡ at.count + block * releases tb at.held n
  pub carries : (d : Decoder) (dec₀ out₀ : List ℕ) → Holds tb dec₀ out₀ d pm at.held at.count dec out
      → Holds tb dec₀ out₀ (steps_from tb i ys d n) pm' r.held r.count dec' out'

-- whether the maximum is to be subtracted before step i of a call, after a 64th step; a known bit has subtracted it
abbrev pub due : Kind → ℕ → Bool
due Pairs i = eqb (i % interval) 0
due Fours i = eqb (i % interval) 0
due Knowns i = false

-- the decoder at the end of a block of steps, before step i of its call: the maximum is subtracted where it is due, and a release follows where it is
abbrev pub block_end : ℕ → Kind → ℕ → Decoder → Decoder
block_end tb kind i d = released tb (record { values = cond (due kind i) (renormalised Isdb.half d.values) d.values; words = d.words; bits = d.bits })

pub record Ended (tb : ℕ) (kind : Kind) (i : ℕ) (pm : List Float) (at : At) (dec out : List ℕ) (r : At) (pm' : List Float) (dec' out' : List ℕ) : Type 0 where
  pub counts : ((at.held < block + tb) × (r.held ≡ at.held) × (r.count ≡ at.count)) ⊎ ((at.held ≡ block + tb) × (r.held ≡ tb) × (r.count ≡ at.count + block))
  pub ends : (d : Decoder) (dec₀ out₀ : List ℕ) → Holds tb dec₀ out₀ d pm at.held at.count dec out → Holds tb dec₀ out₀ (block_end tb kind i d) pm' r.held r.count dec' out'
