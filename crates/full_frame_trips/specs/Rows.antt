-- The rows of laying and taking apart in a row, each way: those of both calls, tested before the first.
use Rattle.std.specs.Prelude.{Bool, ◌||◌, List, [], ◌∷◌, length, Float}
use Rattle.refusal.specs.Rows.{Symbols, Space, Row}
use Rattle.full_frame_parts.specs.declared.Input.{Input}
use Rattle.full_frame_parts.specs.Rows.{inputs_short, short_frame}

-- two calls: 6, an input of the first is short; 9, an output of the first or of the second
abbrev pub both_rows : (input output last : Bool) → List Row
both_rows input output last = (Symbols, input) ∷ (Space, output || last) ∷ []

-- laying, then taking apart: `res` and `ims` are laid into `re` and `im`, which are taken apart into `outRes` and `outIms`
abbrev pub lay_take_rows : (Input → List Float) → (Input → List Float) → List Float → List Float → (Input → List Float) → (Input → List Float) → List Row
lay_take_rows res ims re im outRes outIms =
    both_rows (inputs_short res || inputs_short ims) (short_frame (length re) (length im)) (inputs_short outRes || inputs_short outIms)

-- taking apart, then laying: `re` and `im` are taken apart into `res` and `ims`, which are laid into `outRe` and `outIm`
abbrev pub take_lay_rows : List Float → List Float → (Input → List Float) → (Input → List Float) → List Float → List Float → List Row
take_lay_rows re im res ims outRe outIm =
    both_rows (short_frame (length re) (length im)) (inputs_short res || inputs_short ims) (short_frame (length outRe) (length outIm))
