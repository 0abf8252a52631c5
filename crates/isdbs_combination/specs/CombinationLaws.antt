-- Laws of the combinations' tables.
use Rattle.std.specs.Prelude.{◌≡◌, refl, Bool, true, false, cond, ℕ, ◌≤◌, ◌<◌, eqb, length, Option, Some, None}
use Rattle.std.proofs.Common.{lit<, lit≤}
use Rattle.isdbs_combination.specs.declared.Combination.{Combination}
use Rattle.isdbs_combination.specs.declared.Combination.TheVariants.{Bpsk1_2, Qpsk1_2, Qpsk2_3, Qpsk3_4, Qpsk5_6, Qpsk7_8, Tc8psk2_3}
use Rattle.isdbs_combination.specs.declared.CombinationWord.TheVariants.{Dummy, Reserved}
use Rattle.isdbs_combination.specs.declared.Puncture.{Puncture}
use Rattle.isdbs_combination.specs.declared.Puncture.TheVariants.{R2_3, R3_4, R5_6, R7_8}
use Rattle.isdbs_combination.specs.declared.Modulation.TheVariants.{Tc8psk}
use Rattle.isdbs_combination.specs.Combinations.{unassigned, assigned_of, combination_of, word_of, modulation_of, unit_of, efficiency_of, period_of, pairs_of}

neither : (b : Bool) (w : ℕ) → assigned_of (cond b Dummy (Reserved w)) ≡ None
neither true w = refl
neither false w = refl

-- what a word means has the word's combination
pub assigned : (w : ℕ) (m : Option Combination) → assigned_of (unassigned w m) ≡ m
assigned w (Some c) = refl
assigned w None = neither (eqb w 15) w

-- a combination's word means the combination
pub word_back : (c : Combination) → combination_of (word_of c) ≡ Some c
word_back Bpsk1_2 = refl
word_back Qpsk1_2 = refl
word_back Qpsk2_3 = refl
word_back Qpsk3_4 = refl
word_back Qpsk5_6 = refl
word_back Qpsk7_8 = refl
word_back Tc8psk2_3 = refl

pub record UnitFits (c : Combination) : Type 0 where
  pub some : 0 < (unit_of c).slots
  pub most : (unit_of c).slots ≤ 8
  pub fits : (unit_of c).valid ≤ (unit_of c).slots

-- a unit has slots, at most 8, and no more valid slots than slots
pub unit_fits : (c : Combination) → UnitFits c
unit_fits Bpsk1_2 = record { some = lit< tt; most = lit≤ tt; fits = lit≤ tt }
unit_fits Qpsk1_2 = record { some = lit< tt; most = lit≤ tt; fits = lit≤ tt }
unit_fits Qpsk2_3 = record { some = lit< tt; most = lit≤ tt; fits = lit≤ tt }
unit_fits Qpsk3_4 = record { some = lit< tt; most = lit≤ tt; fits = lit≤ tt }
unit_fits Qpsk5_6 = record { some = lit< tt; most = lit≤ tt; fits = lit≤ tt }
unit_fits Qpsk7_8 = record { some = lit< tt; most = lit≤ tt; fits = lit≤ tt }
unit_fits Tc8psk2_3 = record { some = lit< tt; most = lit≤ tt; fits = lit≤ tt }

pub record PeriodFits (p : Puncture) : Type 0 where
  pub some : 0 < period_of p
  pub fewer : length (pairs_of p) ≤ period_of p
  pub most : length (pairs_of p) ≤ 4

-- a period has input bits, and no more pairs than bits
pub period_fits : (p : Puncture) → PeriodFits p
period_fits R2_3 = record { some = lit< tt; fewer = lit≤ tt; most = lit≤ tt }
period_fits R3_4 = record { some = lit< tt; fewer = lit≤ tt; most = lit≤ tt }
period_fits R5_6 = record { some = lit< tt; fewer = lit≤ tt; most = lit≤ tt }
period_fits R7_8 = record { some = lit< tt; fewer = lit≤ tt; most = lit≤ tt }

pub record EfficiencyFits (c : Combination) : Type 0 where
  pub some : 0 < (efficiency_of c).num
  pub most : (efficiency_of c).den ≤ 8

-- an efficiency is above 0
pub efficiency_fits : (c : Combination) → EfficiencyFits c
efficiency_fits Bpsk1_2 = record { some = lit< tt; most = lit≤ tt }
efficiency_fits Qpsk1_2 = record { some = lit< tt; most = lit≤ tt }
efficiency_fits Qpsk2_3 = record { some = lit< tt; most = lit≤ tt }
efficiency_fits Qpsk3_4 = record { some = lit< tt; most = lit≤ tt }
efficiency_fits Qpsk5_6 = record { some = lit< tt; most = lit≤ tt }
efficiency_fits Qpsk7_8 = record { some = lit< tt; most = lit≤ tt }
efficiency_fits Tc8psk2_3 = record { some = lit< tt; most = lit≤ tt }

-- TC8PSK is the modulation of one combination
pub tc8psk_only : (c : Combination) → modulation_of c ≡ Tc8psk → c ≡ Tc8psk2_3
tc8psk_only Bpsk1_2 e = cc
tc8psk_only Qpsk1_2 e = cc
tc8psk_only Qpsk2_3 e = cc
tc8psk_only Qpsk3_4 e = cc
tc8psk_only Qpsk5_6 e = cc
tc8psk_only Qpsk7_8 e = cc
tc8psk_only Tc8psk2_3 e = refl
