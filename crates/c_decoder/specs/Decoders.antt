-- A decoder as the C calls lend it, and what a call leaves of it.
use Rattle.std.specs.Prelude.{◌≡◌, List, ℕ, length, replicate, Float}
use Rattle.trellis.specs.Isdb.{flush_at}
use Rattle.trellis.specs.Lists.{laid}
use Rattle.trellis.specs.Run.{Decoder, decisions_after}
use Rattle.isdb_fec.specs.declared.conv.ViterbiDecoder.{ViterbiDecoder}
use Rattle.isdb_fec.specs.Calls.{flush, handed}
use Rattle.c_answers.specs.Answers.{left}

abbrev pub decoder_of : List Float → ℕ → ℕ → ViterbiDecoder
decoder_of pm held traceback = record { pm = pm; held = held; traceback = traceback }

-- what a call leaves in the lent path values, counts and slices: the decoder d where it accepts, else what was there
pub record Stored (answer tb : ℕ) (d : Decoder) (pm₀ pm : List Float) (held₀ held count₀ count : ℕ) (decisions₀ decisions out₀ out : List ℕ) : Type 0 where
  pub values : pm ≡ left answer d.values pm₀
  pub held_is : held ≡ left answer (length d.words) held₀
  pub count_is : count ≡ left answer (length d.bits) count₀
  pub words : decisions ≡ left answer (decisions_after tb d.words d.bits decisions₀) decisions₀
  pub bits : out ≡ left answer (laid d.bits out₀) out₀

-- what a flush leaves that puts out the given bits: those of all held words, which become 0; the path values stay
pub record Emitted (emitted : List ℕ) (answer : ℕ) (v : ViterbiDecoder) (pm : List Float) (held count₀ count : ℕ) (decisions₀ decisions out₀ out : List ℕ) : Type 0 where
  pub values : pm ≡ v.pm
  pub held_is : held ≡ left answer 0 v.held
  pub count_is : count ≡ left answer v.held count₀
  pub words : decisions ≡ left answer (laid (replicate v.held 0) decisions₀) decisions₀
  pub bits : out ≡ left answer (laid emitted out₀) out₀

-- the flush, and that with a known end
abbrev pub Flushed : ℕ → ViterbiDecoder → List Float → ℕ → ℕ → ℕ → List ℕ → List ℕ → List ℕ → List ℕ → Type 0
Flushed answer v pm held count₀ count decisions₀ = Emitted (flush (handed v decisions₀)).bits answer v pm held count₀ count decisions₀

abbrev pub FlushedAt : ℕ → ℕ → ViterbiDecoder → List Float → ℕ → ℕ → ℕ → List ℕ → List ℕ → List ℕ → List ℕ → Type 0
FlushedAt e answer v pm held count₀ count decisions₀ = Emitted (flush_at e (handed v decisions₀)).bits answer v pm held count₀ count decisions₀
