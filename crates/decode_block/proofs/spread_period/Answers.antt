-- `spread_period` meets its contract, at each rate.
use Rattle.isdbs_points.specs.Layout.{sent_order}
use Rattle.decode_block.proofs.ByModulation.{not_bpsk, not_tc8psk}
use Rattle.decode_block.proofs.spread_period.Goals as goal

pub period_1_2-requires : goal.period_1_2-requires
unfolding sent_order
period_1_2-requires c =
    let st = c in
    let e = c.in-Qpsk1_2.is in
    (rw e at st.requires.1, rw e at st.requires.2)

pub period_2_3-requires : goal.period_2_3-requires
unfolding sent_order
period_2_3-requires c =
    let st = c in
    let e = c.in-Qpsk2_3.is in
    (rw e at st.requires.1, rw e at st.requires.2)

pub period_3_4-requires : goal.period_3_4-requires
unfolding sent_order
period_3_4-requires c =
    let st = c in
    let e = c.in-Qpsk3_4.is in
    (rw e at st.requires.1, rw e at st.requires.2)

pub period_5_6-requires : goal.period_5_6-requires
unfolding sent_order
period_5_6-requires c =
    let st = c in
    let e = c.in-Qpsk5_6.is in
    (rw e at st.requires.1, rw e at st.requires.2)

pub period_7_8-requires : goal.period_7_8-requires
unfolding sent_order
period_7_8-requires c =
    let st = c in
    let e = c.in-Qpsk7_8.is in
    (rw e at st.requires.1, rw e at st.requires.2)

pub returns-in-Qpsk1_2 : goal.returns-in-Qpsk1_2
returns-in-Qpsk1_2 c = rw c.in-Qpsk1_2.is c.period_1_2.ensures

pub returns-in-Qpsk2_3 : goal.returns-in-Qpsk2_3
returns-in-Qpsk2_3 c = rw c.in-Qpsk2_3.is c.period_2_3.ensures

pub returns-in-Qpsk3_4 : goal.returns-in-Qpsk3_4
returns-in-Qpsk3_4 c = rw c.in-Qpsk3_4.is c.period_3_4.ensures

pub returns-in-Qpsk5_6 : goal.returns-in-Qpsk5_6
returns-in-Qpsk5_6 c = rw c.in-Qpsk5_6.is c.period_5_6.ensures

pub returns-in-Qpsk7_8 : goal.returns-in-Qpsk7_8
returns-in-Qpsk7_8 c = rw c.in-Qpsk7_8.is c.period_7_8.ensures

pub returns-in-Bpsk1_2 : goal.returns-in-Bpsk1_2
returns-in-Bpsk1_2 c = absurd (not_bpsk (rw c.in-Bpsk1_2.is at c.requires.0))

pub returns-in-Tc8psk2_3 : goal.returns-in-Tc8psk2_3
returns-in-Tc8psk2_3 c = absurd (not_tc8psk (rw c.in-Tc8psk2_3.is at c.requires.0))
