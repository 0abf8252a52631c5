-- What a call answered, by what the reading answers that made the decoder v.
use Rattle.std.specs.Prelude.{◌≡◌, refl, Result, Ok, Err, is_ok}
use Rattle.std.proofs.Common.{sym, ap, true≢false}
use Rattle.refusal.specs.declared.Refusal.{Refusal}
use Rattle.refusal.specs.Rows.{answer_of}
use Rattle.isdb_fec.specs.declared.conv.ViterbiDecoder.{ViterbiDecoder}
use Rattle.range_calls.specs.declared.TurnedBack.{TurnedBack}
use Rattle.range_calls.specs.Turned.{row_of, turned}

module _ {A : Type 0} (v : ViterbiDecoder) where
  pub same_row : (r : Result A Refusal) → row_of (turned v r) ≡ answer_of r
  same_row (Ok x) = refl
  same_row (Err row) = refl

  pub turned_ok : (r : Result A Refusal) (x : A) → turned v r ≡ Ok x → r ≡ Ok x
  turned_ok (Ok y) x e = cc
  turned_ok (Err row) x e = absurd (true≢false (sym (ap is_ok e)))

  pub turned_err : (r : Result A Refusal) (t : TurnedBack) → turned v r ≡ Err t → (r ≡ Err t.row) × (t.dec ≡ v)
  turned_err (Ok x) t e = absurd (true≢false (ap is_ok e))
  turned_err (Err row) t e =
      let k : ◌≡◌ {A = TurnedBack} (record { row = row; dec = v }) t = cc in
      (ap (λ (u : TurnedBack). Err u.row) k, sym (ap (λ (u : TurnedBack). u.dec) k))
