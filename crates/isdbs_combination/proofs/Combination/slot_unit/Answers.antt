-- `Combination::slot_unit` meets its contract: each arm is a line of the definition.
use Rattle.isdbs_combination.proofs.Combination.slot_unit.Goals as goal

pub returns-in-Bpsk1_2 : goal.returns-in-Bpsk1_2
returns-in-Bpsk1_2 c = rw c.in-Bpsk1_2.is

pub returns-in-Qpsk1_2 : goal.returns-in-Qpsk1_2
returns-in-Qpsk1_2 c = rw c.in-Qpsk1_2.is

pub returns-in-Qpsk2_3 : goal.returns-in-Qpsk2_3
returns-in-Qpsk2_3 c = rw c.in-Qpsk2_3.is

pub returns-in-Qpsk3_4 : goal.returns-in-Qpsk3_4
returns-in-Qpsk3_4 c = rw c.in-Qpsk3_4.is

pub returns-in-Qpsk5_6 : goal.returns-in-Qpsk5_6
returns-in-Qpsk5_6 c = rw c.in-Qpsk5_6.is

pub returns-in-Qpsk7_8 : goal.returns-in-Qpsk7_8
returns-in-Qpsk7_8 c = rw c.in-Qpsk7_8.is

pub returns-in-Tc8psk2_3 : goal.returns-in-Tc8psk2_3
returns-in-Tc8psk2_3 c = rw c.in-Tc8psk2_3.is
