-- What each call leaves: the decoder of crate trellis at the code of ISDB.
use Rattle.std.specs.Prelude.{◌≡◌, List, ℕ, length, replicate, Float}
use Rattle.trellis.specs.Isdb.{flush_at}
use Rattle.trellis.specs.Lists.{laid}
use Rattle.trellis.specs.Run.{Decoder, decisions_after, depth, holding}
pub use Rattle.viterbi_core.specs.Calls.{nexts, word, best_state, traced, settle, step_once, steps, call, flush, Holds}
use Rattle.isdb_fec.specs.declared.conv.ViterbiDecoder.{ViterbiDecoder}
use Rattle.isdb_fec.specs.declared.conv.Released.{Released}

-- a decoder as its path values and the front of the lent decisions hold it
abbrev pub handed : ViterbiDecoder → List ℕ → Decoder
handed v decisions = holding v.pm v.held decisions

-- a fresh decoder: "Traceback 0 acts as 1"
pub record Fresh (tb : ℕ) (pm : List Float) (v : ViterbiDecoder) : Type 0 where
  pub values : v.pm ≡ pm
  pub held_is : v.held ≡ 0
  pub traceback_is : v.traceback ≡ depth tb

-- what an accepted call leaves, whole: the state, the count and both lent slices
pub record Leaves (tb : ℕ) (d : Decoder) (r : Released) (decisions₀ decisions out₀ out : List ℕ) : Type 0 where
  pub values : r.dec.pm ≡ d.values
  pub held_is : r.dec.held ≡ length d.words
  pub traceback_is : r.dec.traceback ≡ tb
  pub count_is : r.count ≡ length d.bits
  pub words : decisions ≡ decisions_after tb d.words d.bits decisions₀
  pub bits : out ≡ laid d.bits out₀

-- what an accepted flush leaves that puts out the given bits: "Flush emits all held bits and zeroes their words; path values stay"
pub record Emits (emitted : List ℕ) (v : ViterbiDecoder) (r : Released) (decisions₀ decisions out₀ out : List ℕ) : Type 0 where
  pub values : r.dec.pm ≡ v.pm
  pub held_is : r.dec.held ≡ 0
  pub traceback_is : r.dec.traceback ≡ v.traceback
  pub count_is : r.count ≡ v.held
  pub words : decisions ≡ laid (replicate v.held 0) decisions₀
  pub bits : out ≡ laid emitted out₀

-- the flush, and that with a known end
abbrev pub Flushes : ViterbiDecoder → Released → List ℕ → List ℕ → List ℕ → List ℕ → Type 0
Flushes v r decisions₀ = Emits (flush (handed v decisions₀)).bits v r decisions₀

abbrev pub FlushesAt : ℕ → ViterbiDecoder → Released → List ℕ → List ℕ → List ℕ → List ℕ → Type 0
FlushesAt e v r decisions₀ = Emits (flush_at e (handed v decisions₀)).bits v r decisions₀

-- "no buffer changes"; the state that was given is the caller's
pub record Unchanged (decisions₀ decisions out₀ out : List ℕ) : Type 0 where
  pub words : decisions ≡ decisions₀
  pub bits : out ≡ out₀
