-- What a reading leaves that begins with a fresh decoder, pushes and flushes.
use Rattle.std.specs.Prelude.{◌≡◌, List, ℕ, length, replicate}
use Rattle.trellis.specs.Lists.{laid}
use Rattle.trellis.specs.Isdb.{frame_traceback}
use Rattle.trellis.specs.Run.{Decoder, decisions_after, start_at}
use Rattle.isdb_fec.specs.declared.conv.ViterbiDecoder.{ViterbiDecoder}
use Rattle.isdb_fec.specs.declared.conv.Released.{Released}
use Rattle.trellis.specs.Isdb

-- the decoder of traceback 128 that `with_state` makes
abbrev pub fresh : ℕ → ViterbiDecoder
fresh state = record { pm = start_at Isdb.states state; held = 0; traceback = frame_traceback }

-- of an accepted reading whose pushes left the decoder d: all its bits at the front of the output, and the held words zeroed
pub record Finished (tb : ℕ) (read : List ℕ) (d : Decoder) (r : Released) (decisions₀ decisions out₀ out : List ℕ) : Type 0 where
  pub values : r.dec.pm ≡ d.values
  pub held_is : r.dec.held ≡ 0
  pub traceback_is : r.dec.traceback ≡ tb
  pub count_is : r.count ≡ length read
  pub words : decisions ≡ laid (replicate (length d.words) 0) (decisions_after tb d.words d.bits decisions₀)
  pub bits : out ≡ laid read out₀
