-- The place of a combination's scale; seven equal scales are one.
use Rattle.std.specs.Prelude.{◌≡◌, refl, List, ◌≤◌, replicate, Float}
use Rattle.std.proofs.Common.{ap, lit≤}
use Rattle.std.proofs.Math.Path.{fun_ext}
use Rattle.isdbs_combination.specs.declared.Combination.{Combination}
use Rattle.isdbs_combination.specs.declared.Combination.TheVariants.{Bpsk1_2, Qpsk1_2, Qpsk2_3, Qpsk3_4, Qpsk5_6, Qpsk7_8, Tc8psk2_3}
use Rattle.isdbs_combination.specs.Combinations.{word_of}
use Rattle.isdbs_points.specs.declared.Mapping.{Mapping}
use Rattle.isdbs_metrics.specs.Reading.{received}
use Rattle.isdbs_metrics.specs.Scales.{scale_of, received_by}

-- every combination has a scale among the seven
pub word_in : (c : Combination) → (1 ≤ word_of c) × (word_of c ≤ 7)
word_in Bpsk1_2 = (lit≤ tt, lit≤ tt)
word_in Qpsk1_2 = (lit≤ tt, lit≤ tt)
word_in Qpsk2_3 = (lit≤ tt, lit≤ tt)
word_in Qpsk3_4 = (lit≤ tt, lit≤ tt)
word_in Qpsk5_6 = (lit≤ tt, lit≤ tt)
word_in Qpsk7_8 = (lit≤ tt, lit≤ tt)
word_in Tc8psk2_3 = (lit≤ tt, lit≤ tt)

same_scale : (s : Float) (c : Combination) → scale_of (replicate 7 s) c ≡ s
same_scale s Bpsk1_2 = refl
same_scale s Qpsk1_2 = refl
same_scale s Qpsk2_3 = refl
same_scale s Qpsk3_4 = refl
same_scale s Qpsk5_6 = refl
same_scale s Qpsk7_8 = refl
same_scale s Tc8psk2_3 = refl

-- "Seven equal scales answer as the old single one did": what is received is the same
pub equal_scales : (re im : List Float) (m : Mapping) (s : Float) → received_by re im m (replicate 7 s) ≡ received re im m s
equal_scales re im m s = ap (λ (w : Combination → Float). record { re = re; im = im; mapping = m; scale = w }) (fun_ext (same_scale s))
