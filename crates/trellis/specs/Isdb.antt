-- The trellis of ISDB and the tie-break, named once: the encoder of Code and the decoder of Step and Run at them.
use Rattle.std.specs.Prelude.{Bool, List, ℕ, ◌+◌, ◌-◌, Float}
use Rattle.trellis.specs.Code as code
use Rattle.trellis.specs.Code.{isdb, label}
use Rattle.trellis.specs.Step as step
use Rattle.trellis.specs.Step.{Step, Tie, upper}
use Rattle.trellis.specs.Run as run
use Rattle.trellis.specs.Run.{Decoder}

-- its 64 states, half of them, and 2 X + Y of each branch
abbrev pub states : ℕ
states = 64

abbrev pub half : ℕ
half = 32

abbrev pub labels : ℕ → ℕ → ℕ
labels = label isdb

-- those of an encoding
abbrev pub label_at : ℕ → List ℕ → ℕ → ℕ
label_at s us k = code.label_at half labels s us k

-- "traceback 128": of a frame's reading and of the calls of demand 2; the decision words that it needs, "4,096 + traceback"
abbrev pub frame_traceback : ℕ
frame_traceback = 128

abbrev pub frame_words : ℕ
frame_words = run.block + frame_traceback

-- "QPSK 7/8 of 48 slots: .. 68,208 steps", the longest frame
abbrev pub longest_frame : ℕ
longest_frame = 68208

-- document 02, P12: on equality the odd predecessor is taken, and the highest best state is traced
abbrev pub rule : Tie
rule = upper

-- ---- a step
-- the paths into a new state from its predecessors with the low bit 0 and 1; whether the second wins; its value
abbrev pub cand : List Float → Step → ℕ → ℕ → Float
cand pm x k b = step.cand half labels pm x k b

abbrev pub wins : List Float → Step → ℕ → Bool
wins pm x k = step.wins half labels rule pm x k

abbrev pub next : List Float → Step → ℕ → Float
next pm x k = step.next half labels rule pm x k

-- the new path values and the decision word of a step
abbrev pub nexts : List Float → Step → List Float
nexts pm x = step.nexts half labels rule pm x

abbrev pub word : List Float → Step → ℕ
word pm x = step.word half labels rule pm x

-- the best state, and the best of the states 0 to n
abbrev pub best : List Float → ℕ → ℕ
best pm n = step.best rule pm n

abbrev pub best_state : List Float → ℕ
best_state pm = best pm (states - 1)

-- the bits that the words give, traced from the state s, oldest first
abbrev pub traced : List ℕ → ℕ → List ℕ
traced ws s = step.traced half ws s

-- ---- a call
-- the path values once step i of a call has added: the maximum is subtracted where the step calls for it; the path values after n steps
abbrev pub settle : ℕ → Step → List Float → List Float
settle i x pm = run.settled half labels rule i x pm

abbrev pub values_at : (ℕ → Step) → List Float → ℕ → List Float
values_at = run.values_at half labels rule

-- the bits of the held words; the release of 4,096 of them
abbrev pub decoded : Decoder → List ℕ
decoded = run.decoded half labels rule

abbrev pub released : ℕ → Decoder → Decoder
released = run.released half labels rule

-- step i of a call with the release that may follow; n steps of a call; the end of a call of soft values or metrics; such a call; the flush, and that
-- with a known end
abbrev pub step_once : ℕ → ℕ → Step → Decoder → Decoder
step_once = run.stepped half labels rule

abbrev pub steps : ℕ → (ℕ → Step) → Decoder → ℕ → Decoder
steps = run.after half labels rule

abbrev pub closed : Decoder → Decoder
closed = run.closed half labels rule

abbrev pub call : ℕ → (ℕ → Step) → Decoder → ℕ → Decoder
call = run.pushed half labels rule

abbrev pub flush : Decoder → Decoder
flush = run.flushed half labels rule

abbrev pub flush_at : ℕ → Decoder → Decoder
flush_at = run.flushed_at half labels rule
