-- `read_input` meets its contract.
use mathlib.Core.Path.{◌∙◌, ap}
use Prim.Native.Nat.{ℕ, ◌+◌}
use native.Mathlib.Nat.{mod-lt}
use native.Mathlib.Omega.{arith}
use lib.Dec.{lit<}
use Rattle.isdbs_points.specs.Frame.{coded_bit}
use Rattle.isdbs_metrics.specs.DigitLaws.{outputs_small}
use Rattle.wanted_read.specs.ReadOff.{shown}
use Rattle.wanted_read.proofs.Steps.{which_is, some_period, pair_small, index_small, base_fits, number_fits, reads_in, input_is, under_fits, eight_fits, label_is}
use Rattle.wanted_read.proofs.read_input.Goals as goal

pub nonzero_rem-q : goal.nonzero_rem-q
nonzero_rem-q c = let a = c in some_period a.args.layout a.requires.0 a.args.start a.args.k

pub overflow_mul-q : goal.overflow_mul-q
overflow_mul-q c = let a = c in record { fits = under_fits _ (pair_small a.args.layout a.requires.0 a.args.start a.args.k) }

pub offset_bounds-places-q : goal.offset_bounds-places-q
offset_bounds-places-q c = let a = c in record { fits = eight_fits _ (pair_small a.args.layout a.requires.0 a.args.start a.args.k) }

pub bounds-places-q : goal.bounds-places-q
bounds-places-q c = let a = c in pair_small a.args.layout a.requires.0 a.args.start a.args.k

pub nonzero_div-n : goal.nonzero_div-n
nonzero_div-n c = let a = c in some_period a.args.layout a.requires.0 a.args.start a.args.k

pub overflow_mul-n : goal.overflow_mul-n
overflow_mul-n c = let a = c in record { fits = base_fits a.args.layout a.requires.0 a.args.start a.args.k a.requires.1 }

pub overflow_mul-n-2 : goal.overflow_mul-n-2
overflow_mul-n-2 c = let a = c in record { fits = under_fits _ (pair_small a.args.layout a.requires.0 a.args.start a.args.k) }

pub overflow_add-n : goal.overflow_add-n
overflow_add-n c = let a = c in record { fits = under_fits _ (index_small a.args.layout a.requires.0 a.args.start a.args.k c.which_bit-b.result c.which_bit-b.ensures.1) }

pub offset_bounds-places-q-2 : goal.offset_bounds-places-q-2
offset_bounds-places-q-2 c = let a = c in record { fits = eight_fits _ (index_small a.args.layout a.requires.0 a.args.start a.args.k c.which_bit-b.result c.which_bit-b.ensures.1) }

pub bounds-places-q-2 : goal.bounds-places-q-2
bounds-places-q-2 c = let a = c in index_small a.args.layout a.requires.0 a.args.start a.args.k c.which_bit-b.result c.which_bit-b.ensures.1

pub overflow_add-n-2 : goal.overflow_add-n-2
overflow_add-n-2 c =
    let a = c in
    let b = c.which_bit-b in
    record { fits = number_fits a.args.layout a.requires.0 a.args.start a.args.k b.result (which_is a.args.layout a.requires.0 a.args.start a.args.k b.result b.ensures.0) a.requires.1 }

pub overflow_mul-c : goal.overflow_mul-c
overflow_mul-c c =
    let en = c.encode_bit-c.ensures in
    let l = outputs_small _ _ en.0 en.1 in
    record { fits = omega arith }

pub overflow_add-c : goal.overflow_add-c
overflow_add-c c =
    let en = c.encode_bit-c.ensures in
    let l = outputs_small _ _ en.0 en.1 in
    record { fits = omega arith }

pub coded_bit-zero-requires : goal.coded_bit-zero-requires
coded_bit-zero-requires c =
    let en = c.encode_bit-c.ensures in
    let l = outputs_small _ _ en.0 en.1 in
    omega arith

pub sent_bit-shown-requires : goal.sent_bit-shown-requires
sent_bit-shown-requires c =
    let which-bit = c in
    let a = which-bit in
    let b = which-bit.which_bit-b in
    (reads_in a.args.layout a.requires.0 a.args.start a.args.k b.result (which_is a.args.layout a.requires.0 a.args.start a.args.k b.result b.ensures.0) a.requires.3, a.requires.4, a.requires.5)

pub returns : goal.returns
returns c =
    let encode-bit = c in
    let which-bit = encode-bit in
    let a = which-bit in
    let b = which-bit.which_bit-b in
    let en = encode-bit.encode_bit-c.ensures in
    let w = c.coded_bit-zero.ensures.0 ∙ ap (λ (x : ℕ). coded_bit b.result x) (label_is a.args.state en.0 en.1) in (
      input_is a.args.layout a.requires.0 a.args.start a.args.k a.args.m (shown a.args.m a.args.re.now a.args.im.now) a.args.state b.result c.sent_bit-shown.result c.coded_bit-zero.result
          (which_is a.args.layout a.requires.0 a.args.start a.args.k b.result b.ensures.0) c.sent_bit-shown.ensures.0 w,
      mod-lt (c.sent_bit-shown.result + c.coded_bit-zero.result) (lit< tt),
    )
