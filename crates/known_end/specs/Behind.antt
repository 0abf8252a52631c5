-- `flush_at` behind the bits that a call has put out.
use Rattle.std.specs.Prelude.{◌≡◌, List, ◌++◌, ℕ, ◌+◌, take, drop, replicate}
use Rattle.trellis.specs.Isdb.{flush_at}
use Rattle.trellis.specs.Lists.{laid}
use Rattle.isdb_fec.specs.declared.conv.Released.{Released}
use Rattle.isdb_fec.specs.Calls.{handed}

-- what an accepted one leaves of the call's result p
pub record Behind (e : ℕ) (p r : Released) (decisions₀ decisions out₀ out : List ℕ) : Type 0 where
  pub values : r.dec.pm ≡ p.dec.pm
  pub held_is : r.dec.held ≡ 0
  pub traceback_is : r.dec.traceback ≡ p.dec.traceback
  pub count_is : r.count ≡ p.count + p.dec.held
  pub words : decisions ≡ laid (replicate p.dec.held 0) decisions₀
  pub bits : out ≡ take p.count out₀ ++ laid (flush_at e (handed p.dec decisions₀)).bits (drop p.count out₀)
