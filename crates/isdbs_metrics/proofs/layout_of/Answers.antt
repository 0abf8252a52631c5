-- `layout_of` meets its contract.
use Rattle.isdbs_metrics.proofs.Codes.{places_1, places_2, places_3, places_4, places_5, places_6, places_7}
use Rattle.isdbs_points.specs.Layout.{sent_order}
use Rattle.trellis.specs.Lists.{first_place}
use mathlib.Core.Path.{refl}
use Rattle.isdbs_metrics.proofs.layout_of.Goals as goal

pub returns-in-Bpsk1_2 : goal.returns-in-Bpsk1_2
unfolding sent_order first_place
returns-in-Bpsk1_2 c = rw (c.layout.ensures, c.in-Bpsk1_2.is) (refl, record { modulation = refl; period = refl; count = refl; places = places_1 })

pub returns-in-Qpsk1_2 : goal.returns-in-Qpsk1_2
unfolding sent_order first_place
returns-in-Qpsk1_2 c = rw (c.layout-in-Qpsk1_2.ensures, c.in-Qpsk1_2.is) (refl, record { modulation = refl; period = refl; count = refl; places = places_2 })

pub returns-in-Qpsk2_3 : goal.returns-in-Qpsk2_3
unfolding sent_order first_place
returns-in-Qpsk2_3 c = rw (c.layout-in-Qpsk2_3.ensures, c.in-Qpsk2_3.is) (refl, record { modulation = refl; period = refl; count = refl; places = places_3 })

pub returns-in-Qpsk3_4 : goal.returns-in-Qpsk3_4
unfolding sent_order first_place
returns-in-Qpsk3_4 c = rw (c.layout-in-Qpsk3_4.ensures, c.in-Qpsk3_4.is) (refl, record { modulation = refl; period = refl; count = refl; places = places_4 })

pub returns-in-Qpsk5_6 : goal.returns-in-Qpsk5_6
unfolding sent_order first_place
returns-in-Qpsk5_6 c = rw (c.layout-in-Qpsk5_6.ensures, c.in-Qpsk5_6.is) (refl, record { modulation = refl; period = refl; count = refl; places = places_5 })

pub returns-in-Qpsk7_8 : goal.returns-in-Qpsk7_8
unfolding sent_order first_place
returns-in-Qpsk7_8 c = rw (c.layout-in-Qpsk7_8.ensures, c.in-Qpsk7_8.is) (refl, record { modulation = refl; period = refl; count = refl; places = places_6 })

pub returns-in-Tc8psk2_3 : goal.returns-in-Tc8psk2_3
unfolding sent_order first_place
returns-in-Tc8psk2_3 c = rw (c.layout-in-Tc8psk2_3.ensures, c.in-Tc8psk2_3.is) (refl, record { modulation = refl; period = refl; count = refl; places = places_7 })
